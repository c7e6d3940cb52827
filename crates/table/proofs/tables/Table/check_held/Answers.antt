use Rattle.std.proofs.Common.{◌≡◌, ◌+◌, get_or, take, sym, ap, ◌∙◌, subst, ⊎_elim, arith}
use Rattle.std.proofs.lemmas.List.{take_more}
use Rattle.std.proofs.lemmas.Bool.{cases_eq, and_from, not_from_false}
use Rattle.table.specs.Reads.{table_state}
use Rattle.table.specs.Seen.{marked}
use Rattle.table.specs.State.{has}
use Rattle.table.specs.Tests.{not_held}
use Rattle.table.proofs.Failing.{passes}
use Rattle.table.proofs.Has.{has_push_same, has_push_other}
use Rattle.table.proofs.Passed.{kids_passed}
use Rattle.table.proofs.tables.Table.check_held.Goals as goal

pub is_free-requires : goal.is_free-requires
is_free-requires c = kids_passed (table_state c.args.self.now) c.args.offer.now.draft.now c.args.offer.now.places.now _ c.kid_places-kids.ensures c.requires c.loop-kid.kid-index c.loop-kid-test.true

pub loop-kid-preserved : goal.loop-kid-preserved
loop-kid-preserved c =
    let kids = c.kid_places-kids.result.now in
    let k = c.loop-kid.kid-index in
    let at = get_or kids k 0 in
    let within = c.loop-kid-test.true in
    let t = c.args.self.now in
    let below = kids_passed (table_state t) c.args.offer.now.draft.now c.args.offer.now.places.now _ c.kid_places-kids.ensures c.requires k within in
    let unseen = sym (c.has.ensures ∙ c.loop-kid.invariant.1 at) ∙ c.if-has.false in
    let pushed = take_more kids k 0 within in (
      passes (not_held (table_state c.args.self.now)) kids k within (and_from _ _ (sym c.is_free.ensures ∙ c.if-not-is_free.false) (not_from_false _ unseen)) ∙ c.loop-kid.invariant.0,
      λ j. ⊎_elim
          (λ e. subst (λ i. marked c.mark.new.self i ≡ has (take (k + 1) kids) i) (sym e) (c.mark.ensures.here (omega (arith, below, t.nodes_fit)) ∙ sym (ap (λ xs. has xs at) pushed ∙ has_push_same (take k kids) at)))
          (λ ne. c.mark.ensures.others j ne ∙ c.loop-kid.invariant.1 j ∙ sym (ap (λ xs. has xs j) pushed ∙ has_push_other (take k kids) at j (λ e. ne (sym e))))
          (cases_eq j at),
    )
