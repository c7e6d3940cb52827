use Rattle.std.proofs.Common.{◌≡◌, ◌+◌, ◌-◌, ◌<◌, length, get_or, sym, ap, ◌∙◌, arith}
use Rattle.std.specs.Option.{option_to_list}
use Rattle.node.specs.Parts.{default_arm, references}
use Rattle.table.specs.State.{default_of, referred}
use Rattle.table.proofs.Found.{getD_referred_left, getD_referred_right, length_referred, one_default}
use Rattle.table.proofs.children.Family.reference.Goals as goal

pub returns-then-k-references : goal.returns-then-k-references
returns-then-k-references g c =
    let d = c.args.self.now.details.now in
    let p = c.args.self.now.parts.now in
    let k = c.args.k in
    let f = g.N.Named.names c.args.self.now.named in
    let is : c.name_at.result ≡ get_or (referred f d p) k 0 = c.name_at.ensures ∙ ap (λ x. f (x + k)) c.kids-first.ensures.value ∙ sym (getD_referred_left f d p k (omega arith)) in
    let inside : k < length (referred f d p) = omega (arith, length_referred f d p, c.requires) in
    let low = c.args.self.now.arms k inside in
    record { bound = omega (arith, c.kids-first.ensures.bound); there = omega arith; value = is }

pub returns-else-k-references : goal.returns-else-k-references
returns-else-k-references g c =
    let d = c.args.self.now.details.now in
    let p = c.args.self.now.parts.now in
    let k = c.args.k in
    let f = g.N.Named.names c.args.self.now.named in
    let here : 0 ≡ k - references p = omega (arith, one_default (default_arm d.second)) in
    let is : c.unwrap.result ≡ get_or (referred f d p) k 0 =
    ap (λ o. get_or (option_to_list o) 0 0) (sym c.unwrap.ensures ∙ c.default_arm.ensures) ∙ ap (λ x. get_or (default_of d.second) x 0) here ∙ sym (getD_referred_right f d p k (omega arith)) in
    let inside : k < length (referred f d p) = omega (arith, length_referred f d p, c.requires) in
    let low = c.args.self.now.arms k inside in
    record { bound = omega (arith, c.kids-first.ensures.bound); there = omega arith; value = is }
