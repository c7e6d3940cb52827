use Rattle.std.proofs.Common.{get_or, ◌∙◌, arith, rules}
use Rattle.std.proofs.lemmas.List.{length-set}
use Rattle.table.specs.State.{state_of}
use Rattle.table.proofs.Adopts.{adopt_more}
use Rattle.table.proofs.memory.Memory.adopt.Goals as goal

pub loop-kid-preserved : goal.loop-kid-preserved
loop-kid-preserved c =
    let inv = c.loop-kid.invariant in
    let k = c.loop-kid.kid-index in
    let nodes = c.loop-kid.self.nodes.now in (
      inv.0,
      inv.1,
      inv.2,
      search rules,
      length-set nodes (get_or c.args.kids.now k 0) _ ∙ inv.4,
      adopt_more (state_of c.args.self.now) c.args.kids.now c.args.p k (omega arith) nodes inv.4 inv.5 (c.requires.known k c.loop-kid-test.true),
    )
