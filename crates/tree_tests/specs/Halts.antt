-- The rule of a visitor that says no once. Assumes nothing.
use Rattle.std.specs.Prelude.{◌+◌, min, Bool, not, ◌==◌}
use Rattle.tree_tests.specs.declared.halts.Halt.{Halt}

-- one line more was shown; at 65,535 the count stays
abbrev pub one_shown : Halt → Halt
one_shown h = record { at = h.at; shown = min (h.shown + 1) 65535 }

-- yes to every line but the one of its number
abbrev pub goes_on : Halt → Bool
goes_on h = not (min (h.shown + 1) 65535 == h.at)
