use Rattle.std.proofs.Common.{◌≡◌, true, refl, sym, ap, ◌∙◌, subst, rules}
use Rattle.std.proofs.lemmas.List.{at_drop_all}
use Rattle.std.specs.List.{flat_map}
use Rattle.tree.specs.Paths.{names_of, capacity_of}
use Rattle.tree.specs.Runs.{paths, run}
use Rattle.tree.specs.declared.walks.Outcome.TheVariants.{Finished, Stopped}
use Rattle.tree.proofs.Admitted.{passed, admitted}
use Rattle.tree.proofs.Law.{walked_each}
use Rattle.tree.proofs.Steps.{each_step}
use Rattle.tree.proofs.forests.walk_each.Goals as goal

pub loop-n-init : goal.loop-n-init
loop-n-init g c =
    let t = g.T.Tree in
    let tree = c.args.tree.now in
    let e = admitted (t.known tree) (t.heights tree) (t.missing tree) c.args.roots.now (capacity_of c.args.path.now) (passed _ c.admit_each.ensures c.in_ok-admit_each.was) in
    record { known = e.0; low = search rules; empty = search rules; memory = search rules; so_far = search rules }

pub returns-in-Stopped-clause-law : goal.returns-in-Stopped-clause-law
returns-in-Stopped-clause-law g c =
    let tree = c.args.tree.now in
    let law = g.T.Tree.lawful tree in
    let roots = c.args.roots.now in
    let n = c.n-item.result in
    let known = subst (λ m. g.T.Tree.known tree m ≡ true) (sym c.n-item.is) (c.loop-n.invariant.known c.loop-n.n-index n c.loop-n-test.true) in (
      passed _ c.admit_each.ensures c.in_ok-admit_each.was,
      walked_each law (λ s q. g.V.Visitor.next s tree q) (λ s q. g.V.Visitor.accepts s tree q) c.args.visitor.now c.show.new.visitor Stopped (names_of c.show.new.path) roots c.loop-n.invariant.known
          (c.loop-n.invariant.so_far ∙ each_step (λ s q. g.V.Visitor.next s tree q) (λ s q. g.V.Visitor.accepts s tree q) (g.T.Tree.children tree) roots (names_of c.loop-n.path) (names_of c.loop-n.path) 64 c.loop-n.n-index n n c.loop-n.visitor c.loop-n-test.true c.n-item.is refl (c.in-Stopped.ensures.ran 64 (law.high n known)))
          (λ e. cc),
    )

pub loop-n-preserved : goal.loop-n-preserved
loop-n-preserved g c =
    let tree = c.args.tree.now in
    let law = g.T.Tree.lawful tree in
    let n = c.n-item.result in
    let known = subst (λ m. g.T.Tree.known tree m ≡ true) (sym c.n-item.is) (c.loop-n.invariant.known c.loop-n.n-index n c.loop-n-test.true) in
    record {
      known = c.loop-n.invariant.known;
      low = search rules;
      empty = c.in_default.ensures.back refl ∙ c.loop-n.invariant.empty;
      memory = search rules;
      so_far = c.loop-n.invariant.so_far ∙ each_step (λ s q. g.V.Visitor.next s tree q) (λ s q. g.V.Visitor.accepts s tree q) (g.T.Tree.children tree) c.args.roots.now (names_of c.loop-n.path) (names_of c.show.new.path) 64 c.loop-n.n-index n n c.loop-n.visitor c.loop-n-test.true c.n-item.is (c.in_default.ensures.back refl) (c.in_default.ensures.ran 64 (law.high n known));
    }

pub returns-clause-law : goal.returns-clause-law
returns-clause-law g c =
    let tree = c.args.tree.now in
    let roots = c.args.roots.now in (
      passed _ c.admit_each.ensures c.in_ok-admit_each.was,
      walked_each (g.T.Tree.lawful tree) (λ s q. g.V.Visitor.next s tree q) (λ s q. g.V.Visitor.accepts s tree q) c.args.visitor.now c.loop-n.visitor Finished (names_of c.loop-n.path) roots c.loop-n.invariant.known
          (c.loop-n.invariant.so_far ∙ ap (run (λ s q. g.V.Visitor.next s tree q) (λ s q. g.V.Visitor.accepts s tree q) c.loop-n.visitor) (at_drop_all (flat_map (paths (g.T.Tree.children tree) 64 (names_of c.loop-n.path))) roots c.loop-n.n-index c.loop-n-test.false))
          (λ _. c.loop-n.invariant.empty),
    )
