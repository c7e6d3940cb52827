use Rattle.std.proofs.Common.{◌≡◌, ℕ, [], take, drop}
use Rattle.table.specs.Reads.{table_state}
use Rattle.table.specs.Seen.{marked}
use Rattle.table.specs.State.{has}
use Rattle.table.specs.Tests.{first_failing, not_held}
use Rattle.table.proofs.tables.Table.check_held.Given as goal

-- the places passed are fine, and they are the places seen
abbrev pub invariant-loop-kid : goal.invariant-loop-kid
invariant-loop-kid l =
    (first_failing (not_held (table_state l.self)) (take l.kid-index l.kids) (drop l.kid-index l.kids) ≡ first_failing (not_held (table_state l.self)) [] l.kids)
    × ((j : ℕ) → marked l.seen j ≡ has (take l.kid-index l.kids) j)
