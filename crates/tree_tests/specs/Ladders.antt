-- A ladder as a tree: the rungs that it has, how high each is and which children each has. Assumes nothing.
use Rattle.std.specs.Prelude.{ℕ, ◌-◌, min, Bool, cond, ◌&&◌, List, replicate, nat_le, nat_lt}
use Rattle.tree_tests.specs.declared.ladders.Ladder.{Ladder}
use Rattle.tree_tests.specs.declared.ladders.NoRung.{NoRung}
use Rattle.tree_tests.specs.declared.ladders.Rung.{Rung}

-- rungs are counted from 1, and of more than 64 only the first 64 are there
abbrev pub known_on : Ladder → Rung → Bool
known_on l n = nat_le 1 n.height && nat_le n.height (min l.rungs 64)

abbrev pub height_on : Ladder → Rung → ℕ
height_on l n = n.height

-- every child of a rung is the next lower one; the lowest has none
abbrev pub count_on : Ladder → Rung → ℕ
count_on l n = cond (nat_lt 1 n.height) l.fan 0

abbrev pub children_on : Ladder → Rung → List Rung
children_on l n = replicate (count_on l n) (record { height = n.height - 1 })

abbrev pub missing_on : Ladder → Rung → NoRung
missing_on l n = record { rung = n }
