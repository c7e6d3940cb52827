-- All numbers of a draft are fit to be kept, and each of them is. Assumes nothing.
use Rattle.std.proofs.Common.{◌≡◌, Bool, true, false, sym, refl, ◌∙◌}
use Rattle.std.proofs.lemmas.Bool.{and_from, and_parts, false≢true}
use Rattle.draft.specs.Details.{first_kept, keepable, payload_kept, second_kept}
use Rattle.draft.specs.Drafts.{kind_in_range, flags_in_range}
use Rattle.node.specs.Positions.{if_given, in_place}
use Rattle.draft.specs.declared.drafts.Draft.{Draft}

pub record Kept (d : Draft) : Type 0 where
  pub kind : kind_in_range d.kind ≡ true
  pub flags : if_given flags_in_range d.flags ≡ true
  pub position : if_given in_place d.position ≡ true
  pub payload : payload_kept d ≡ true
  pub first : first_kept d ≡ true
  pub second : second_kept d ≡ true

pub kept_parts : (d : Draft) → keepable d ≡ true → Kept d
kept_parts d e =
    let all = and_parts _ _ e in
    let most = and_parts _ _ all.0 in
    let a = and_parts _ _ most.0 in
    let b = and_parts _ _ a.0 in
    let c = and_parts _ _ b.0 in
    let f = and_parts _ _ c.0 in
    let g = and_parts _ _ f.0 in
    let h = and_parts _ _ g.0 in
    let i = and_parts _ _ h.0 in
    let j = and_parts _ _ i.0 in
    let within = and_parts _ _ most.1 in
    let early = and_parts _ _ within.0 in
    let small = and_parts _ _ all.1 in
    record {
      kind = j.0;
      flags = j.1;
      position = i.1;
      payload = and_from _ _ (and_from _ _ (and_from _ _ (and_from _ _ h.1 early.0) small.0) g.1) f.1;
      first = and_from _ _ c.1 early.1;
      second = and_from _ _ (and_from _ _ (and_from _ _ b.1 within.1) a.1) small.1;
    }

pub kept_whole : (d : Draft) → Kept d → keepable d ≡ true
kept_whole d k =
    let a = and_parts _ _ k.payload in
    let b = and_parts _ _ a.0 in
    let c = and_parts _ _ b.0 in
    let e = and_parts _ _ c.0 in
    let first = and_parts _ _ k.first in
    let f = and_parts _ _ k.second in
    let g = and_parts _ _ f.0 in
    let h = and_parts _ _ g.0 in
    and_from _ _
    (and_from _ _
    (and_from _ _ (and_from _ _ (and_from _ _ (and_from _ _ (and_from _ _ (and_from _ _ (and_from _ _ (and_from _ _ k.kind k.flags) k.position) e.0) b.1) a.1) first.0) h.0) g.1)
    (and_from _ _ (and_from _ _ e.1 first.1) h.1))
    (and_from _ _ c.1 f.1)

-- what one of them is not, all are not
pub not_by : (all one : Bool) → (all ≡ true → one ≡ true) → one ≡ false → all ≡ false
not_by true one so h = absurd (false≢true (sym h ∙ so refl))
not_by false one so h = refl
