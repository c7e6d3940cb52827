-- Keys that are told apart by their bytes. Assumes nothing.
use Rattle.std.proofs.Common.{◌≡◌, ℕ, zero, suc, ◌<◌, Bool, true, false, ◌⊎◌, List, [], ◌∷◌, length, Decides, sym, refl, ap, ◌∙◌, ap₂, inl, inr, ⊎_elim, arith}
use Rattle.std.proofs.lemmas.Bool.{and_parts, and_from, or_left, or_right, or_cases, eqb-true, eq-eqb, not-true, not_from_false, cases_Bool, both_ways}
use Rattle.std.proofs.lemmas.Bool.Decides.{same_from_decides}
use Rattle.draft.specs.Keys.{key_bytes, key_at, Distinct}
use Rattle.draft.specs.declared.drafts.RawIdent.{RawIdent}
use Rattle.table.specs.Puts.{same_bytes, key_among, keys_apart}

same_true : (xs ys : List ℕ) → same_bytes xs ys ≡ true → xs ≡ ys
same_true [] [] e = refl
same_true [] (y ∷ ys) e = absurd (both_ways false refl e)
same_true (x ∷ xs) [] e = absurd (both_ways false refl e)
same_true (x ∷ xs) (y ∷ ys) e = let p = and_parts _ _ e in ap₂ ◌∷◌ (eqb-true x y p.0) (same_true xs ys p.1)

same_refl : (xs : List ℕ) → same_bytes xs xs ≡ true
same_refl [] = refl
same_refl (x ∷ xs) = and_from _ _ (eq-eqb x x refl) (same_refl xs)

same_of : (xs ys : List ℕ) → xs ≡ ys → same_bytes xs ys ≡ true
same_of xs ys e = ap (same_bytes xs) (sym e) ∙ same_refl xs

module _ (text : List ℕ) where
  among_at : (bytes : List ℕ) (keys : List RawIdent) → key_among text bytes keys ≡ true → (k : ℕ) × (k < length keys) × (bytes ≡ key_at text keys k)
  among_at bytes [] e = absurd (both_ways false refl e)
  among_at bytes (key ∷ keys) e = go (among_at bytes keys) (or_cases _ _ e)
    where
      go : (key_among text bytes keys ≡ true → (k : ℕ) × (k < length keys) × (bytes ≡ key_at text keys k)) → (same_bytes bytes (key_bytes text key) ≡ true) ⊎ (key_among text bytes keys ≡ true)
          → (k : ℕ) × (k < suc (length keys)) × (bytes ≡ key_at text (key ∷ keys) k)
      go rest (inl here) = (0, omega arith, same_true bytes (key_bytes text key) here)
      go rest (inr there) = let r = rest there in (suc r.0, omega (arith, r.1), r.2)

  among_from : (bytes : List ℕ) (keys : List RawIdent) (k : ℕ) → k < length keys → bytes ≡ key_at text keys k → key_among text bytes keys ≡ true
  among_from bytes [] k lt e = absurd (omega arith)
  among_from bytes (key ∷ keys) zero lt e = or_left _ _ (same_of bytes (key_bytes text key) e)
  among_from bytes (key ∷ keys) (suc k) lt e = or_right _ _ (among_from bytes keys k (omega arith) e)

  apart_distinct : (keys : List RawIdent) → keys_apart text keys ≡ true → Distinct text keys
  apart_distinct [] e j k lt within same = omega arith
  apart_distinct (key ∷ keys) e j zero lt within same = omega arith
  apart_distinct (key ∷ keys) e zero (suc k) lt within same = both_ways _ (not-true _ (and_parts _ _ e).0) (among_from (key_bytes text key) keys k (omega arith) same)
  apart_distinct (key ∷ keys) e (suc j) (suc k) lt within same = apart_distinct keys (and_parts _ _ e).1 j k (omega arith) (omega arith) same

  distinct_apart : (keys : List RawIdent) → Distinct text keys → keys_apart text keys ≡ true
  distinct_apart [] d = refl
  distinct_apart (key ∷ keys) d =
      and_from _ _ (not_from_false _ (⊎_elim (λ t. absurd (let r = among_at (key_bytes text key) keys t in d 0 (suc r.0) (omega arith) (omega (arith, r.1)) r.2)) (λ f. f) (cases_Bool (key_among text (key_bytes text key) keys))))
      (distinct_apart keys (λ j k lt within same. d (suc j) (suc k) (omega arith) (omega arith) same))

  pub apart_is : (keys : List RawIdent) (r : Bool) → Decides r (Distinct text keys) → r ≡ keys_apart text keys
  apart_is keys r d = same_from_decides r (keys_apart text keys) d (apart_distinct keys, distinct_apart keys)
