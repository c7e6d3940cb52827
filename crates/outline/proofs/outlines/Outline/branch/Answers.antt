use Rattle.std.proofs.Common.{rules}
use Rattle.outline.proofs.Asked.{branch_told}
use Rattle.outline.proofs.outlines.Outline.branch.Goals as goal

pub returns : goal.returns
returns c = branch_told c.args.self.now c.args.e c.get.result c.ok_or.result c.deref.result.now c.ok_or.ensures.value c.deref.ensures.value (search rules)
