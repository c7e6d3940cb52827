use Rattle.table.specs.Reads.{table_state}
use Rattle.table.proofs.Passed.{kids_passed}
use Rattle.table.proofs.tables.Table.check_sorted.Goals as goal

pub is_stmt-requires : goal.is_stmt-requires
is_stmt-requires c =
    kids_passed (table_state c.args.self.now) c.args.offer.now.draft.now c.args.offer.now.places.now _ c.kid_places-kids.ensures c.requires.known c.loop-k.k-counter c.loop-k-test.true
