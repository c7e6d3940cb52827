use Rattle.std.proofs.Common.{refl}
use Rattle.table.specs.Reads.{table_state}
use Rattle.table.proofs.Agree.{family_children}
use Rattle.table.proofs.tables.Table.family.Goals as goal

pub returns : goal.returns
returns c =
    let node = c.args.node.now in
    family_children (table_state c.args.self.now) c.args.n node node.details node.parts c.links_from.result.now refl refl c.links_from.ensures c.requires.node
