use Rattle.std.proofs.Common.{◌<◌, ℕ, length, get_or, ap, rules, arith}
use Rattle.std.proofs.lemmas.List.{at_drop_more}
use Rattle.table.specs.State.{state_of, walked, highest, all_lines, node_at}
use Rattle.table.proofs.Agree.{walked_below}
use Rattle.table.proofs.Found.{length_walked}
use Rattle.table.proofs.memory.Memory.measure.Goals as goal

pub bounds-self-child : goal.bounds-self-child
bounds-self-child c =
    let f = c.args.family.now in
    walked_below _ (λ k. get_or f.named.now k 0) f.details.now f.parts.now f.arms c.requires c.loop-i.i c.child.result (c.child.ensures 0) (omega (arith, c.child_count-i-end.ensures.value))

pub offset_bounds-self-child : goal.offset_bounds-self-child
offset_bounds-self-child c =
    let f = c.args.family.now in
    let inside : c.child.result < length c.args.self.now.nodes.now =
    walked_below _ (λ k. get_or f.named.now k 0) f.details.now f.parts.now f.arms c.requires c.loop-i.i c.child.result (c.child.ensures 0) (omega (arith, c.child_count-i-end.ensures.value)) in
    search rules

pub loop-i-preserved : goal.loop-i-preserved
loop-i-preserved c =
    let s = state_of c.args.self.now in
    let f = c.args.family.now in
    let names : ℕ → ℕ = λ k. get_or f.named.now k 0 in
    let i = c.loop-i.i in
    let xs = walked names f.details.now f.parts.now in
    let inside : i < length xs = omega (arith, length_walked names f.details.now f.parts.now) in
    let tall = ap (λ x. (node_at s x).height) (c.child.ensures 0) in
    let many = ap (λ x. (node_at s x).lines) (c.child.ensures 0) in
    let h = at_drop_more (highest s) xs i 0 inside in
    let l = at_drop_more (all_lines s) xs i 0 inside in
    (omega arith, omega arith, omega (arith, c.loop-i.invariant.2), omega (arith, c.loop-i.invariant.1, c.loop-i.invariant.3))
