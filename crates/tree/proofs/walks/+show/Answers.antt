use Rattle.std.proofs.Common.{◌-◌, ◌∙◌, refl, arith, rules}
use Rattle.tree.specs.Paths.{names_of}
use Rattle.tree.proofs.Asked.{child_told}
use Rattle.tree.proofs.Steps.{each_step}
use Rattle.tree.proofs.walks.+show.Goals as goal

pub returns-in-Stopped-clause-ran : goal.returns-in-Stopped-clause-ran
returns-in-Stopped-clause-ran g t c h le =
    let tree = c.args.tree.now in
    let n = c.args.n in
    let children = g.T.Tree.children tree in
    let k = child_told (g.T.Tree.lawful tree) (g.T.Tree.missing tree) n c.loop-i.i c.child.ensures.value c.unwrap-child.ensures in
    c.loop-i.invariant.so_far h le
    ∙ each_step (λ s q. g.V.Visitor.next s tree q) (λ s q. g.V.Visitor.accepts s tree q) children (children n) (names_of c.loop-i.path) (names_of c.loop-i.path) (h - 1) c.loop-i.i n c.unwrap-child.result c.loop-i.visitor k.0 k.1 refl (c.in-Stopped.ensures.ran (h - 1) (omega (arith, k.3)))

pub loop-i-preserved : goal.loop-i-preserved
loop-i-preserved g t c =
    let tree = c.args.tree.now in
    let n = c.args.n in
    let children = g.T.Tree.children tree in
    let k = child_told (g.T.Tree.lawful tree) (g.T.Tree.missing tree) n c.loop-i.i c.child.ensures.value c.unwrap-child.ensures in
    record {
      back = search rules;
      memory = search rules;
      so_far = λ h le.
          c.loop-i.invariant.so_far h le
          ∙ each_step (λ s q. g.V.Visitor.next s tree q) (λ s q. g.V.Visitor.accepts s tree q) children (children n) (names_of c.loop-i.path) (names_of c.show.new.path) (h - 1) c.loop-i.i n c.unwrap-child.result c.loop-i.visitor k.0 k.1 (c.in_default.ensures.back refl) (c.in_default.ensures.ran (h - 1) (omega (arith, k.3)));
    }
