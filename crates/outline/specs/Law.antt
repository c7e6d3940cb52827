-- The law of a tree holds of every outline, by what each of its values carries. Assumes nothing.
use Rattle.std.specs.Prelude.{◌≡◌, ℕ, zero, suc, ◌+◌, ◌<◌, ◌≤◌, true, List, [], ◌∷◌, length, drop, vec_items, vec_len, ◌==◌, nat_lt, slice_index, slice_index_or}
use Rattle.std.proofs.Math.Nat.{le-max_left, le-max_right}
use Rattle.std.proofs.Common.{◌∙◌, arith, length-drop, sym}
use Rattle.std.proofs.lemmas.List.{length-map}
use Rattle.std.proofs.lemmas.Bool.{cond_both, ltb-true, lt-ltb}
use Rattle.tree.specs.Lines.{TreeLaw, child_of}
use Rattle.outline.specs.Items.{heights_of}
use Rattle.outline.specs.Nesting.{highest, kids}
use Rattle.outline.specs.Trees.{known_in, height_in, children_in, depths_in}
use Rattle.outline.specs.declared.entries.Entry.{Entry}
use Rattle.outline.specs.declared.outlines.Outline.{Outline}

-- an entry among the children is one of those that were looked through
kids_within : (depth number : ℕ) (ds : List ℕ) (i : ℕ) (e : Entry) → i < length (kids depth number ds) → (slice_index_or (kids depth number ds) i e).number < number + length ds
kids_within depth number [] i e h = absurd (omega arith)
kids_within depth number (d ∷ ds) i e h =
    let P : List Entry → Type 0 = λ es. i < length es → (slice_index_or es i e).number < number + length (d ∷ ds) in
    cond_both (nat_lt d depth) [] _ P (λ _ (l : i < 0). absurd (omega arith))
    (λ _. cond_both (d == depth) _ _ P (λ _. here i (λ j l. kids_within depth (suc number) ds j e l)) (λ _ l. let k = kids_within depth (suc number) ds i e l in omega arith)) h
  where
    here : (i : ℕ) → ((j : ℕ) → j < length (kids depth (suc number) ds) → (slice_index_or (kids depth (suc number) ds) j e).number < suc number + length ds) → i < suc (length (kids depth (suc number) ds)) → (slice_index_or (record { number = number } ∷ kids depth (suc number) ds) i e).number < number + length (d ∷ ds)
    here zero later l = omega arith
    here (suc i) later l = let k = later i (omega arith) in omega arith

-- none is higher than the highest
highest_bound : (heights : List ℕ) (es : List Entry) (i : ℕ) (e : Entry) → i < length es → slice_index heights (slice_index_or es i e).number ≤ highest heights es
highest_bound heights [] i e h = absurd (omega arith)
highest_bound heights (x ∷ es) zero e h = le-max_left _ _
highest_bound heights (x ∷ es) (suc i) e h = let k = highest_bound heights es i e (omega arith) in omega (arith, le-max_right (slice_index heights x.number) (highest heights es))

-- the lists of depths and heights are as long as the outline
depths_long : (o : Outline) → length (depths_in o) ≡ vec_len o.branches
depths_long o = length-map _ _ ∙ length-map _ _ ∙ sym o.branches.ok.0

within : (o : Outline) (e : Entry) → known_in o e ≡ true → e.number < length (heights_of (vec_items o.branches))
within o e k = omega (arith, ltb-true e.number (vec_len o.branches) k, o.branches.ok.0, length-map (vec_items o.branches) (λ b. b.height))

child_known : (o : Outline) (e : Entry) (i : ℕ) → known_in o e ≡ true → i < length (children_in o e) → (child_of (children_in o) e i).number < vec_len o.branches
child_known o e i k h =
    let ds : List ℕ = depths_in o in
    let long = length-drop (e.number + 1) ds in
    omega (arith, kids_within (slice_index ds e.number + 1) (e.number + 1) (drop (e.number + 1) ds) i e h, ltb-true e.number (vec_len o.branches) k, depths_long o, long)

pub outline_law : (o : Outline) → TreeLaw (known_in o) (height_in o) (children_in o)
outline_law o = record {
  kept = λ e i k h. lt-ltb _ _ (child_known o e i k h);
  low = λ e k. omega (arith, o.measured e.number (within o e k));
  high = λ e k. omega (arith, o.shallow e.number (within o e k));
  falls = λ e i k h. omega (arith, o.measured e.number (within o e k), highest_bound (heights_of (vec_items o.branches)) (children_in o e) i e h);
}
