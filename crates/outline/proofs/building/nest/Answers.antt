use Rattle.std.proofs.Common.{ap, ◌∙◌, refl, arith, rules, vec_items}
use Rattle.std.proofs.lemmas.Result.{IfOk-weaker}
use Rattle.outline.specs.Items.{heights_of}
use Rattle.outline.specs.Nesting.{highest}
use Rattle.outline.proofs.Nest.{height_low, nested, nesting_more}
use Rattle.outline.proofs.building.nest.Goals as goal

pub overflow_add-height : goal.overflow_add-height
overflow_add-height c =
    let low = height_low c.args.branches.now c.loop-i.branches (vec_items c.loop-i.free) c.loop-i.i c.loop-i-test.true (omega arith) c.loop-i.invariant c.requires.stepwise c.requires.within c.index-branches-i.result _ c.index_mut.ensures.value (vec_items c.in_ok-children.children) c.in_ok-children.ensures.taken c.highest-height.result (c.highest-height.ensures ∙ ap (highest (heights_of c.loop-i.branches)) c.deref.ensures.value) in
    search rules

pub loop-i-preserved : goal.loop-i-preserved
loop-i-preserved c =
    nesting_more c.args.branches.now c.loop-i.branches (vec_items c.loop-i.free) c.loop-i.i c.loop-i-test.true (omega arith) c.loop-i.invariant c.requires.stepwise c.requires.within c.index-branches-i.result _ c.index_mut.ensures.value (vec_items c.in_ok-children.children) c.in_ok-children.ensures.taken c.highest-height.result (c.highest-height.ensures ∙ ap (highest (heights_of c.loop-i.branches)) c.deref.ensures.value)
    _ c.index-branches-i-in-loop-i.result refl refl refl c.taken.new.list _ _ c.in_ok-children.ensures.left c.index_mut-in-loop-i.ensures.value c.in_ok-push.ensures.items

pub returns : goal.returns
returns c = IfOk-weaker _ _ _ (λ roots is. nested _ _ _ _ c.index_mut-2.result.now _ c.loop-i-test.false c.loop-i.invariant c.index_mut-2.ensures.value is) c.taken-2.ensures.taken
