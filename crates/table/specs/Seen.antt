-- What a set of places means. Assumes nothing.
use Rattle.std.specs.Prelude.{ℕ, Bool, false, slice_index_or}
use Rattle.table.specs.declared.seen.Seen.{Seen}

-- a place is in the set; no number past the last mark is
abbrev pub marked : Seen → ℕ → Bool
marked s place = slice_index_or s.marks place false
