-- Parts and children of nodes whose links name the same. Assumes nothing.
use Rattle.std.proofs.Common.{◌≡◌, ℕ, zero, suc, ◌+◌, ◌-◌, ◌/◌, ◌%◌, ◌<◌, ◌≤◌, max, List, [], ◌∷◌, ◌++◌, length, get_or, drop, Some, None, Option, sym, refl, ap, ◌∙◌, ap₂, ⊎_elim, arith}
use Rattle.std.proofs.lemmas.Bool.{cases_lt}
use Rattle.std.proofs.lemmas.List.{same_lists, get_or_default, get_or-drop}
use Rattle.kind.specs.Shapes.{shape_of}
use Rattle.node.specs.Parts.{kids, references, run_from, run_count}
use Rattle.node.specs.Parts as parts
use Rattle.node.specs.declared.records.Details.{Details}
use Rattle.node.specs.declared.records.Link.{Link}
use Rattle.node.specs.declared.records.Node.{Node}
use Rattle.node.specs.declared.records.Parts.{Parts}
use Rattle.kind.specs.declared.shapes.Blocks.{Blocks}
use Rattle.kind.specs.declared.shapes.Blocks.TheVariants as blocks
use Rattle.table.specs.Finds.{direct, child_count}
use Rattle.table.specs.State.{State, node_at, links_of, blank_link, children, named, referred, default_of, walked, highest, all_lines}
use Rattle.table.proofs.Found.{length_referred, length_walked, getD_walked_direct, getD_walked_arms}

pub named_agrees : (f g : ℕ → ℕ) (from count : ℕ) → ((k : ℕ) → from ≤ k → k < from + count → f k ≡ g k) → named f from count ≡ named g from count
named_agrees f g from zero same = refl
named_agrees f g from (suc count) same = ap₂ ◌∷◌ (same from (omega arith) (omega arith)) (named_agrees f g (from + 1) count (λ k low high. same k (omega arith) (omega arith)))

pub run_within : (b : Option Blocks) (p : Parts) → run_from b p + run_count b p ≤ parts.held p
run_within None p = omega arith
run_within (Some blocks.List) p = omega arith
run_within (Some blocks.Walked) p = omega arith
run_within (Some blocks.Held) p = omega arith
run_within (Some blocks.Catch) p = omega arith

-- a walked child is one of those held
pub walked_held : (f : ℕ → ℕ) (d : Details) (p : Parts) → ((k : ℕ) → k < length (referred f d p) → get_or (referred f d p) k 0 < p.arms)
    → (i : ℕ) → i < length (walked f d p) → (k : ℕ) × (k < kids p) × (get_or (walked f d p) i 0 ≡ f k)
walked_held f d p arms i lt = ⊎_elim near far (cases_lt i (direct d p))
  where
    near : i < direct d p → (k : ℕ) × (k < kids p) × (get_or (walked f d p) i 0 ≡ f k)
    near less = (run_from (shape_of d.kind).blocks p + i, omega (arith, run_within (shape_of d.kind).blocks p), getD_walked_direct f d p i less)

    far : direct d p ≤ i → (k : ℕ) × (k < kids p) × (get_or (walked f d p) i 0 ≡ f k)
    far more =
        let j = (i - direct d p) / 2 in
        let low = arms j (omega (arith, length_referred f d p, length_walked f d p)) in (
          parts.held p + get_or (referred f d p) j 0 + get_or (referred f d p) j 0 + (i - direct d p) % 2,
          omega arith,
          getD_walked_arms f d p i more (omega (arith, length_walked f d p)),
        )

pub walked_below : (n : ℕ) (f : ℕ → ℕ) (d : Details) (p : Parts) → ((k : ℕ) → k < length (referred f d p) → get_or (referred f d p) k 0 < p.arms) → ((k : ℕ) → k < kids p → f k < n)
    → (i x : ℕ) → x ≡ get_or (walked f d p) i 0 → i < child_count d p → x < n
walked_below n f d p arms low i x is lt =
    let held = walked_held f d p arms i (omega (arith, length_walked f d p)) in
    omega (arith, low held.0 held.1, held.2)

module _ (f g : ℕ → ℕ) (d : Details) (p : Parts) (same : (k : ℕ) → k < kids p + references p → f k ≡ g k) where
  pub referred_agrees : referred f d p ≡ referred g d p
  referred_agrees = ap (λ x. x ++ default_of d.second) (named_agrees f g (kids p) (references p) (λ k low high. same k high))

  pub walked_agrees : ((k : ℕ) → k < length (referred f d p) → get_or (referred f d p) k 0 < p.arms) → walked f d p ≡ walked g d p
  walked_agrees arms = same_lists (walked f d p) (walked g d p) (length_walked f d p ∙ sym (length_walked g d p)) (λ i e lt. get_or_default (walked f d p) i e 0 lt ∙ at i lt ∙ get_or_default (walked g d p) i 0 e (omega (arith, length_walked f d p, length_walked g d p)))
    where
      near : (i : ℕ) → i < direct d p → get_or (walked f d p) i 0 ≡ get_or (walked g d p) i 0
      near i less = getD_walked_direct f d p i less ∙ same _ (omega (arith, run_within (shape_of d.kind).blocks p)) ∙ sym (getD_walked_direct g d p i less)

      far : (i : ℕ) → direct d p ≤ i → i < child_count d p → get_or (walked f d p) i 0 ≡ get_or (walked g d p) i 0
      far i more lt =
          let j = (i - direct d p) / 2 in
          let low = arms j (omega (arith, length_referred f d p)) in
          getD_walked_arms f d p i more lt
          ∙ same _ (omega arith)
          ∙ ap (λ x. g (parts.held p + get_or x j 0 + get_or x j 0 + (i - direct d p) % 2)) referred_agrees
          ∙ sym (getD_walked_arms g d p i more lt)

      at : (i : ℕ) → i < length (walked f d p) → get_or (walked f d p) i 0 ≡ get_or (walked g d p) i 0
      at i lt = ⊎_elim (near i) (λ more. far i more (omega (arith, length_walked f d p))) (cases_lt i (direct d p))

-- heights and lines of the same nodes in two states
pub highest_agrees : (s s' : State) (xs : List ℕ) → ((i : ℕ) → i < length xs → (node_at s' (get_or xs i 0)).height ≡ (node_at s (get_or xs i 0)).height) → highest s' xs ≡ highest s xs
highest_agrees s s' [] same = refl
highest_agrees s s' (x ∷ xs) same = ap₂ max (same 0 (omega arith)) (highest_agrees s s' xs (λ i lt. same (suc i) (omega arith)))

pub lines_agree : (s s' : State) (xs : List ℕ) → ((i : ℕ) → i < length xs → (node_at s' (get_or xs i 0)).lines ≡ (node_at s (get_or xs i 0)).lines) → all_lines s' xs ≡ all_lines s xs
lines_agree s s' [] same = refl
lines_agree s s' (x ∷ xs) same = ap₂ ◌+◌ (same 0 (omega arith)) (lines_agree s s' xs (λ i lt. same (suc i) (omega arith)))

pub highest_above : (s : State) (xs : List ℕ) (i : ℕ) → i < length xs → (node_at s (get_or xs i 0)).height ≤ highest s xs
highest_above s [] i lt = absurd (omega arith)
highest_above s (x ∷ xs) zero lt = omega arith
highest_above s (x ∷ xs) (suc i) lt = omega (arith, highest_above s xs i (omega arith))

-- the family of a node in the table has its children
pub family_children : (s : State) (n : ℕ) (node : Node) (d : Details) (p : Parts) (ls : List Link) → d ≡ node.details → p ≡ node.parts → ls ≡ drop node.parts.start s.links → node ≡ node_at s n
    → walked (λ k. (get_or ls k blank_link).place) d p ≡ children s n
family_children s n node d p ls dis pis lis is =
    (λ i. walked (λ k. (get_or (lis i) k blank_link).place) (dis i) (pis i))
    ∙ ap (λ f. walked f node.details node.parts) (λ i k. (get_or-drop node.parts.start s.links k blank_link i).place)
    ∙ ap (λ x. walked (links_of s x) x.details x.parts) is
