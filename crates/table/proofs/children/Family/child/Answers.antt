use Rattle.std.proofs.Common.{◌≡◌, ◌+◌, ◌-◌, ◌/◌, get_or, sym, ap, ◌∙◌, arith}
use Rattle.std.proofs.lemmas.List.{get_or_default}
use Rattle.kind.specs.Shapes.{shape_of}
use Rattle.node.specs.Parts.{run_count, run_from}
use Rattle.table.specs.Finds.{direct}
use Rattle.table.specs.State.{referred, walked}
use Rattle.table.proofs.Found.{length_walked, getD_walked_direct, getD_walked_arms}
use Rattle.table.proofs.children.Family.child.Goals as goal

pub returns-then-i-run : goal.returns-then-i-run
returns-then-i-run g c e =
    let d = c.args.self.now.details.now in
    let p = c.args.self.now.parts.now in
    let f = g.N.Named.names c.args.self.now.named in
    let i = c.args.i in
    let count : c.stretch-run.result.count ≡ direct d p = c.stretch-run.ensures.count ∙ ap (λ x. run_count x.blocks p) c.shape.ensures in
    let from : c.stretch-run.result.from ≡ run_from (shape_of d.kind).blocks p = c.stretch-run.ensures.from ∙ ap (λ x. run_from x.blocks p) c.shape.ensures in
    c.name_at.ensures ∙ ap (λ x. f (x + i)) from ∙ sym (getD_walked_direct f d p i (omega arith))
    ∙ get_or_default (walked f d p) i 0 e (omega (arith, length_walked f d p, c.requires))

pub returns : goal.returns
returns g c e =
    let d = c.args.self.now.details.now in
    let p = c.args.self.now.parts.now in
    let f = g.N.Named.names c.args.self.now.named in
    let i = c.args.i in
    let k = direct d p in
    let arms = referred f d p in
    let count : c.stretch-run.result.count ≡ k = c.stretch-run.ensures.count ∙ ap (λ x. run_count x.blocks p) c.shape.ensures in
    let arm : c.reference-arm.result ≡ get_or arms ((i - k) / 2) 0 = c.reference-arm.ensures.value ∙ ap (λ x. get_or arms ((i - x) / 2) 0) count in
    c.name_at-2.ensures
    ∙ ap f (omega (arith, count, arm, c.held.ensures.value))
    ∙ sym (getD_walked_arms f d p i (omega arith) c.requires)
    ∙ get_or_default (walked f d p) i 0 e (omega (arith, length_walked f d p, c.requires))
