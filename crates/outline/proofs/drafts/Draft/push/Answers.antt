use Rattle.std.proofs.Common.{◌∙◌, ap, sym, arith, subst}
use Rattle.std.proofs.lemmas.List.{map_push}
use Rattle.outline.proofs.Drafted.{Nests, nests_more}
use Rattle.outline.specs.Items.{depths_of}
use Rattle.outline.proofs.drafts.Draft.push.Goals as goal

pub invariant_of-self : goal.invariant_of-self
invariant_of-self c =
    let d = c.args.self in
    let grown = ap depths_of c.in_ok-push.ensures.items ∙ map_push (λ i. i.depth) d.items.items _ in
    let n = subst Nests (sym grown) (nests_more _ c.args.depth (record { outermost = d.outermost; stepwise = d.stepwise; within = d.within }) c.requires.within c.requires.nests) in
    record {
      few = omega (arith, c.in_ok-push.ensures.len, c.requires.room);
      outermost = n.outermost;
      stepwise = n.stepwise;
      within = n.within;
    }
