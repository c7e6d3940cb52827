-- A draft with one entry more at its end. Assumes nothing.
use Rattle.std.proofs.Common.{◌≡◌, ℕ, ◌+◌, ◌-◌, ◌<◌, ◌≤◌, List, [], ◌∷◌, ◌++◌, length, get_or, Some, None, Ok, vec_len, Option, Result, Bor, sym, refl, ap, ◌∙◌, arith}
use Rattle.std.proofs.lemmas.Bool.{cases_order}
use Rattle.std.proofs.lemmas.Bool.Decides.{nat_tests}
use Rattle.std.proofs.lemmas.Grind.{common_steps}
use Rattle.std.proofs.lemmas.List.{get_or-map, length-map}
use Rattle.std.proofs.lemmas.Option.{get_or_from_slice_get, slice_get_cases, slice_get_within}
use Rattle.std.specs.Option.{option_copied}
use Rattle.std.specs.Prelude.{MatchOption, slice_get}
use Rattle.outline.specs.Drafts.{bounded, depths_in, judged}
use Rattle.outline.specs.Items.{depths_of}
use Rattle.outline.specs.Nesting.{Outermost, Stepwise, Within, most_after}
use Rattle.outline.specs.Reading.{reading}
use Rattle.outline.specs.declared.drafts.Draft.{Draft}
use Rattle.outline.specs.declared.faults.Cause.{Cause}
use Rattle.outline.specs.declared.items.Item.{Item}

-- the last entry tells how deep the next may be
most_first : (ds : List ℕ) → length ds ≡ 0 → most_after ds ≡ 0
most_first ds e = grind (arith, nat_tests)

most_later : (ds : List ℕ) → 0 < length ds → most_after ds ≡ get_or ds (length ds - 1) 0 + 1
most_later ds l = grind (arith, nat_tests)

module _ (items : List Item) where
  long : length (depths_of items) ≡ length items
  long = length-map items (λ i. i.depth)

  pub last_depth : (r : Option (Bor Item)) (x : Bor Item) → option_copied r ≡ slice_get items (length items - 1) → r ≡ Some x → get_or (depths_of items) (length (depths_of items) - 1) 0 ≡ x.now.depth
  last_depth r x e is =
      let at : slice_get items (length items - 1) ≡ Some x.now = sym e ∙ ap option_copied is in
      rw length-map (get_or-map (λ i. i.depth) items (length items - 1) x.now 0 (slice_get_within items (length items - 1) x.now at) ∙ ap (λ i. i.depth) (get_or_from_slice_get items (length items - 1) x.now x.now at))

  pub most_is : (r : Option (Bor Item)) (n : ℕ) {P : Bor Item → Type 0} → option_copied r ≡ slice_get items (length items - 1) → MatchOption r (n ≡ 0) P → ((x : Bor Item) → P x → n ≡ x.now.depth + 1) → n ≡ most_after (depths_of items)
  most_is None n e h k = let none = slice_get_cases items (length items - 1) in grind (arith, long, most_first (depths_of items))
  most_is (Some x) n e h k =
      omega (arith, k x h, last_depth (Some x) x e refl, long, slice_get_within items (length items - 1) x.now (sym e), most_later (depths_of items) (omega (arith, long, slice_get_within items (length items - 1) x.now (sym e))))

-- with an entry that is not too deep the entries still nest
pub record Nests (depths : List ℕ) : Type 0 where
  pub outermost : Outermost depths
  pub stepwise : Stepwise depths
  pub within : Within depths

pub nests_more : (ds : List ℕ) (d : ℕ) → Nests ds → d < 64 → d ≤ most_after ds → Nests (ds ++ d ∷ [])
nests_more ds d nests low near = record {
  outermost = grind (arith, common_steps, nests.outermost, most_first ds);
  stepwise = λ i. grind (arith, common_steps, nests.stepwise i, most_later ds, cases_order i (length ds), cases_order (i + 1) (length ds));
  within = λ i. grind (arith, common_steps, nests.within i, cases_order i (length ds));
}

-- an entry that is not refused can be pushed
pub record Pushable (draft : Draft) (k : ℕ) : Type 0 where
  pub room : vec_len draft.items < 4096
  pub within : k < 64
  pub nests : k ≤ most_after (depths_in draft)

read_some : (line : List ℕ) (most k : ℕ) → reading line most ≡ Ok (Some k) → (k < 64) × (k ≤ most)
read_some line most k e = grind (arith, nat_tests)

bounded_some : (count k : ℕ) (r : Result (Option ℕ) Cause) → bounded count r ≡ Ok (Some k) → (r ≡ Ok (Some k)) × (count < 4096)
bounded_some count k r e = grind (arith, nat_tests)

pub pushable : (draft : Draft) (line : List ℕ) (k : ℕ) → judged draft line ≡ Ok (Some k) → Pushable draft k
pushable draft line k e =
    let b = bounded_some (vec_len draft.items) k (reading line (most_after (depths_in draft))) e in
    let r = read_some line (most_after (depths_in draft)) k b.0 in
    record { room = b.1; within = r.0; nests = r.1 }
