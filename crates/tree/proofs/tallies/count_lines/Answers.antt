use Rattle.std.proofs.Common.{rules}
use Rattle.tree.specs.Paths.{names_of}
use Rattle.tree.proofs.Tallied.{tallied}
use Rattle.tree.proofs.tallies.count_lines.Goals as goal

pub returns-clause-count : goal.returns-clause-count
returns-clause-count g c =
    let law = c.in_ok-walk.ensures.law in
    let shown = law.1.0 in
    let t = tallied (g.T.Tree.children c.args.tree.now) c.args.start (names_of c.args.path.now) (names_of c.walk.new.path) c.new-tally.result c.walk.new.visitor c.new-tally.ensures shown c.in_ok-walk.field-0 law.1.1 in
    search rules
