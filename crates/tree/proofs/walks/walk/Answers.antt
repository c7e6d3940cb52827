use Rattle.std.proofs.Common.{◌≡◌, true, arith}
use Rattle.std.proofs.lemmas.Grind.{common_steps}
use Rattle.tree.specs.Paths.{names_of}
use Rattle.tree.proofs.Admitted.{passed}
use Rattle.tree.proofs.Law.{walked}
use Rattle.tree.proofs.walks.walk.Goals as goal

pub returns-clause-law : goal.returns-clause-law
returns-clause-law g c =
    let tree = c.args.tree.now in
    let start = c.args.start in
    let law = g.T.Tree.lawful tree in
    let known : g.T.Tree.known tree start ≡ true = grind (arith, common_steps) in (
      passed _ c.admit.ensures c.in_ok-admit.was,
      walked law (λ s q. g.V.Visitor.next s tree q) (λ s q. g.V.Visitor.accepts s tree q) c.args.visitor.now c.show.new.visitor c.show.result (names_of c.show.new.path) start (names_of c.args.path.now) known (c.show.ensures.ran 64 (law.high start known)) c.show.ensures.back,
    )
