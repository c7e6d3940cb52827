use Rattle.std.proofs.Common.{◌≡◌, vec_items, length, ap, ◌∙◌, arith, rules}
use Rattle.std.proofs.lemmas.List.{length-map, with_items_is}
use Rattle.std.specs.Vec.{with_items}
use Rattle.outline.specs.Items.{items_of}
use Rattle.outline.proofs.drafts.Draft.finish.Goals as goal

pub invariant_of-result : goal.invariant_of-result
invariant_of-result c =
    let d = c.args.self in
    let n = c.in_ok-roots.ensures in
    let v = c.in_ok-branches.branches in
    let is : vec_items (with_items v c.nest.new.branches) ≡ c.nest.new.branches = with_items_is v c.nest.new.branches (c.nest.auto.branches ∙ c.deref_mut.ensures.len) in
    let items : items_of (vec_items (with_items v c.nest.new.branches)) ≡ vec_items d.items = ap items_of is ∙ n.items ∙ ap items_of c.deref_mut.ensures.value ∙ c.in_ok-branches.ensures in
    record {
      few = omega (arith, d.few, d.items.ok.0, v.ok.0, ap length c.in_ok-branches.ensures, length-map (vec_items v) (λ b. b.item));
      outermost = rw items d.outermost;
      stepwise = rw items d.stepwise;
      parented = rw (is, n.items) n.parented;
      measured = rw (is, n.items) n.measured;
      shallow = rw (is, n.items) n.shallow;
      rooted = rw (is, n.items) (search rules);
    }
