-- What the branch at an entry's number tells of it. Assumes nothing.
use Rattle.std.proofs.Common.{◌≡◌, ◌<◌, [], length, get_or, Bool, true, false, ltb, Some, None, Bor, List, Option, Result, vec_items, string_bytes, sym, refl, ap, ◌∙◌, arith}
use Rattle.std.specs.Prelude.{MatchResult}
use Rattle.std.specs.Option.{ok_or}
use Rattle.std.specs.Slice.{IsItemAt}
use Rattle.std.proofs.lemmas.Grind.{common_steps}
use Rattle.std.proofs.lemmas.List.{get_or-map, length-map}
use Rattle.outline.specs.Trees.{IsBranch, known_in, missing_in}
use Rattle.outline.specs.Items.{items_of}
use Rattle.outline.specs.declared.entries.Entry.{Entry}
use Rattle.outline.specs.declared.entries.NoEntry.{NoEntry}
use Rattle.outline.specs.declared.items.Branch.{Branch}
use Rattle.outline.specs.declared.outlines.Outline.{Outline}

module _ (o : Outline) (e : Entry) where
  known : {b : Bool} → b ≡ ltb e.number (length (vec_items o.branches)) → known_in o e ≡ b
  known is = ap (ltb e.number) o.branches.ok.0 ∙ sym is

  is_branch : (b : Branch) → e.number < length (vec_items o.branches) → b ≡ get_or (vec_items o.branches) e.number b → IsBranch o e b
  is_branch b l is = record {
    text = ap (λ b. string_bytes b.item.text) is ∙ ap (λ i. string_bytes i.text) (sym (get_or-map (λ b. b.item) (vec_items o.branches) e.number b b.item l))
        ∙ sym (get_or-map (λ i. string_bytes i.text) (items_of (vec_items o.branches)) e.number b.item [] (omega (arith, length-map (vec_items o.branches) (λ b. b.item))));
    height = grind (arith, common_steps);
    children = grind (arith, common_steps, o.parented e.number);
  }

  pub branch_told : (r : Option (Bor Branch)) (result : Result (Bor Branch) NoEntry) (branches : List Branch) → result ≡ ok_or r (record { entry = e }) → branches ≡ vec_items o.branches → IsItemAt branches e.number r
      → MatchResult result (λ b. (known_in o e ≡ true) × IsBranch o e b.now) (λ f. (known_in o e ≡ false) × (f ≡ missing_in o e))
  branch_told None result branches is all at = rw is (known (rw all at at.0), refl)
  branch_told (Some b) result branches is all at = rw is (known (rw all at at.0), is_branch b.now (rw all at at.3.0) (rw all at at.1))
