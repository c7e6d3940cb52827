use Rattle.std.proofs.Common.{◌≡◌, [], take, drop}
use Rattle.table.specs.Puts.{parts_of}
use Rattle.table.specs.Reads.{table_state}
use Rattle.table.specs.Tests.{first_failing, in_place}
use Rattle.table.proofs.tables.Table.check_sorted.Given as goal

-- the places passed are fine
abbrev pub invariant-loop-k : goal.invariant-loop-k
invariant-loop-k l =
    let test = in_place (table_state l.self) (parts_of l.offer.draft.now 0 0) in
    first_failing test (take l.k-counter l.kids) (drop l.k-counter l.kids) ≡ first_failing test [] l.kids
