-- Where the children of a node stand among its links. Assumes nothing.
use Rattle.std.proofs.Common.{◌≡◌, ℕ, zero, suc, ◌+◌, ◌-◌, ◌/◌, ◌%◌, ◌<◌, ◌≤◌, List, [], ◌∷◌, ◌++◌, map, length, get_or, Some, None, Option, sym, refl, ap, ◌∙◌, ap₂, arith}
use Rattle.std.proofs.lemmas.List.FromFn.{length-map-range_with_len, get_or-map-range_with_len}
use Rattle.std.proofs.lemmas.List.{length-append, get_or_append_left, get_or-append_right, map-append}
use Rattle.std.specs.List.{range_with_len}
use Rattle.std.specs.Option.{option_to_list}
use Rattle.kind.specs.Shapes.{shape_of}
use Rattle.node.specs.Parts.{kids, references, run_from, run_count}
use Rattle.node.specs.Parts as parts
use Rattle.node.specs.declared.records.Details.{Details}
use Rattle.node.specs.declared.records.Parts.{Parts}
use Rattle.kind.specs.declared.shapes.Blocks.{Blocks}
use Rattle.kind.specs.declared.shapes.Blocks.TheVariants as blocks
use Rattle.table.specs.Finds.{direct, arm_count, child_count}
use Rattle.table.specs.State.{named, head_of, body_of, branch_of, references_of, referred, default_of, walked_parts, walked, through}

pub length_named : (f : ℕ → ℕ) (from count : ℕ) → length (named f from count) ≡ count
length_named f from count = length-map-range_with_len f from count

pub getD_named : (f : ℕ → ℕ) (from count i d : ℕ) → i < count → get_or (named f from count) i d ≡ f (from + i)
getD_named f from count i d lt = get_or-map-range_with_len f from count i (from + i) d lt refl

-- two runs of links side by side
counting_add : (from a b : ℕ) → range_with_len from a ++ range_with_len (from + a) b ≡ range_with_len from (a + b)
counting_add from zero b = ap₂ range_with_len (omega arith) (omega arith)
counting_add from (suc a) b =
    ap (λ x. from ∷ x) (ap (λ x. range_with_len (from + 1) a ++ range_with_len x b) (omega arith) ∙ counting_add (from + 1) a b)
    ∙ ap (range_with_len from) {x = suc (a + b)} (omega arith)

named_add : (f : ℕ → ℕ) (from a b : ℕ) → named f from a ++ named f (from + a) b ≡ named f from (a + b)
named_add f from a b = sym (map-append f (range_with_len from a) (range_with_len (from + a) b)) ∙ ap (map f) (counting_add from a b)

-- the walked parts are one run of links
pub walked_run : (b : Option Blocks) (f : ℕ → ℕ) (p : Parts) → walked_parts b (head_of f p) (body_of f p) (branch_of f p) ≡ named f (run_from b p) (run_count b p)
walked_run None f p = refl
walked_run (Some blocks.List) f p = refl
walked_run (Some blocks.Walked) f p =
    ap (λ x. head_of f p ++ x) (named_add f p.head p.body p.branch)
    ∙ ap (λ x. head_of f p ++ named f x (p.body + p.branch)) (omega arith)
    ∙ named_add f 0 p.head (p.body + p.branch)
    ∙ ap (named f 0) (omega arith)
walked_run (Some blocks.Held) f p = ap (λ x. head_of f p ++ named f x p.body) (omega arith) ∙ named_add f 0 p.head p.body
walked_run (Some blocks.Catch) f p = named_add f p.head p.body p.branch

pub length_through : (f : ℕ → ℕ) (p : Parts) (arms : List ℕ) → length (through f p arms) ≡ length arms + length arms
length_through f p [] = refl
length_through f p (a ∷ as') = omega (arith, length_through f p as')

pub getD_through : (f : ℕ → ℕ) (p : Parts) (arms : List ℕ) (j d : ℕ) → j < length arms + length arms
    → get_or (through f p arms) j d ≡ f (parts.held p + get_or arms (j / 2) 0 + get_or arms (j / 2) 0 + j % 2)
getD_through f p [] j d lt = absurd (omega arith)
getD_through f p (a ∷ as') zero d lt = ap f (omega arith)
getD_through f p (a ∷ as') (suc zero) d lt = refl
getD_through f p (a ∷ as') (suc (suc j)) d lt =
    getD_through f p as' j d (omega arith)
    ∙ ap (λ (k : ℕ). f (parts.held p + get_or (a ∷ as') k 0 + get_or (a ∷ as') k 0 + j % 2)) halves
    ∙ ap (λ (r : ℕ). f (parts.held p + get_or (a ∷ as') (suc (suc j) / 2) 0 + get_or (a ∷ as') (suc (suc j) / 2) 0 + r)) rests
  where
    halves : suc (j / 2) ≡ suc (suc j) / 2
    halves = omega arith

    rests : j % 2 ≡ suc (suc j) % 2
    rests = omega arith

module _ (f : ℕ → ℕ) (d : Details) (p : Parts) where
  pub length_referred : length (referred f d p) ≡ arm_count d p
  length_referred = length-append (references_of f p) _ ∙ ap (λ k. k + length (default_of d.second)) (length_named f (kids p) (references p))

  pub getD_referred_left : (k : ℕ) → k < references p → get_or (referred f d p) k 0 ≡ f (kids p + k)
  getD_referred_left k lt =
      get_or_append_left (references_of f p) _ 0 k (omega (arith, length_named f (kids p) (references p))) ∙ getD_named f (kids p) (references p) k 0 lt

  pub getD_referred_right : (k : ℕ) → references p ≤ k → get_or (referred f d p) k 0 ≡ get_or (default_of d.second) (k - references p) 0
  getD_referred_right k ge = get_or-append_right (references_of f p) _ (references p) k 0 (length_named f (kids p) (references p)) ge

  pub walked_is : walked f d p ≡ named f (run_from (shape_of d.kind).blocks p) (direct d p) ++ through f p (referred f d p)
  walked_is = ap (λ x. x ++ through f p (referred f d p)) (walked_run (shape_of d.kind).blocks f p)

  pub length_walked : length (walked f d p) ≡ child_count d p
  length_walked =
      let from = run_from (shape_of d.kind).blocks p in
      ap length walked_is
      ∙ length-append (named f from (direct d p)) (through f p (referred f d p))
      ∙ ap₂ ◌+◌ (length_named f from (direct d p)) (length_through f p (referred f d p) ∙ ap (λ k. k + k) length_referred)

  pub getD_walked_direct : (i : ℕ) → i < direct d p → get_or (walked f d p) i 0 ≡ f (run_from (shape_of d.kind).blocks p + i)
  getD_walked_direct i lt =
      let from = run_from (shape_of d.kind).blocks p in
      ap (λ x. get_or x i 0) walked_is
      ∙ get_or_append_left (named f from (direct d p)) _ 0 i (omega (arith, length_named f from (direct d p)))
      ∙ getD_named f from (direct d p) i 0 lt

  pub getD_walked_arms : (i : ℕ) → direct d p ≤ i → i < child_count d p
      → get_or (walked f d p) i 0 ≡ f (parts.held p + get_or (referred f d p) ((i - direct d p) / 2) 0 + get_or (referred f d p) ((i - direct d p) / 2) 0 + (i - direct d p) % 2)
  getD_walked_arms i ge lt =
      let from = run_from (shape_of d.kind).blocks p in
      ap (λ x. get_or x i 0) walked_is
      ∙ get_or-append_right (named f from (direct d p)) (through f p (referred f d p)) (direct d p) i 0 (length_named f from (direct d p)) ge
      ∙ getD_through f p (referred f d p) (i - direct d p) 0 (omega (arith, length_referred))

pub one_default : (x : Option ℕ) → length (option_to_list x) ≤ 1
one_default None = omega arith
one_default (Some arm) = omega arith
