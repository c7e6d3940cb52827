-- Places in lists. Assumes nothing.
use Rattle.std.proofs.Common.{◌≡◌, ℕ, zero, suc, ◌<◌, Bool, true, false, cond, eqb, ◌⊎◌, List, [], ◌∷◌, ◌++◌, length, get_or, replicate, sym, refl, ap, ◌∙◌, inl, inr, ⊎_elim, arith}
use Rattle.std.proofs.lemmas.Bool.{eqb-true, eq-eqb, ne_eqb, cases_Bool, cond-true, cond-false, both_ways, or_cases, cases_lt}
use Rattle.std.proofs.lemmas.List.{get_or-replicate, get_or_past, length-replicate}
use Rattle.std.specs.List.{list_any}
use Rattle.table.specs.State.{has}

-- a head that is the place, or is not
pub head_is : (x : ℕ) (xs : List ℕ) (j : ℕ) → x ≡ j → has (x ∷ xs) j ≡ true
head_is x xs j e = cond-true (eqb x j) _ _ (eq-eqb x j e)

pub head_not : (x : ℕ) (xs : List ℕ) (j : ℕ) → (x ≡ j → ⊥) → has (x ∷ xs) j ≡ has xs j
head_not x xs j ne = cond-false (eqb x j) _ _ (ne_eqb x j ne)

cond_same : (b : Bool) → cond b true true ≡ true
cond_same true = refl
cond_same false = refl

pub has_push_same : (xs : List ℕ) (j : ℕ) → has (xs ++ j ∷ []) j ≡ true
has_push_same [] j = head_is j [] j refl
has_push_same (x ∷ xs) j = ap (λ b. cond (eqb x j) true b) (has_push_same xs j) ∙ cond_same (eqb x j)

pub has_push_other : (xs : List ℕ) (x j : ℕ) → (x ≡ j → ⊥) → has (xs ++ x ∷ []) j ≡ has xs j
has_push_other [] x j ne = head_not x [] j ne
has_push_other (y ∷ xs) x j ne = ap (λ b. cond (eqb y j) true b) (has_push_other xs x j ne)

-- what stands in a list stands at some number, and the other way round
pub has_at : (xs : List ℕ) (k d : ℕ) → k < length xs → has xs (get_or xs k d) ≡ true
has_at [] k d lt = absurd (omega arith)
has_at (x ∷ xs) zero d lt = head_is x xs x refl
has_at (x ∷ xs) (suc k) d lt = ap (λ b. cond (eqb x (get_or xs k d)) true b) (has_at xs k d (omega arith)) ∙ cond_same (eqb x (get_or xs k d))

pub has_place : (xs : List ℕ) (j d : ℕ) → has xs j ≡ true → (k : ℕ) × (k < length xs) × (get_or xs k d ≡ j)
has_place [] j d e = absurd (both_ways false refl e)
has_place (x ∷ xs) j d e = go (has_place xs j d) (cases_Bool (eqb x j))
  where
    go : (has xs j ≡ true → (k : ℕ) × (k < length xs) × (get_or xs k d ≡ j)) → (eqb x j ≡ true) ⊎ (eqb x j ≡ false) → (k : ℕ) × (k < suc (length xs)) × (get_or (x ∷ xs) k d ≡ j)
    go rest (inl y) = (0, omega arith, eqb-true x j y)
    go rest (inr n) = let r = rest (sym (cond-false (eqb x j) true (has xs j) n) ∙ e) in (suc r.0, omega (arith, r.1), r.2)

pub has_any : (xs : List ℕ) (j : ℕ) → list_any (eqb j) xs ≡ true → has xs j ≡ true
has_any [] j e = e
has_any (x ∷ xs) j e = ⊎_elim
    (λ here. head_is x xs j (sym (eqb-true j x here)))
    (λ there. ap (λ b. cond (eqb x j) true b) (has_any xs j there) ∙ cond_same (eqb x j))
    (or_cases (eqb j x) (list_any (eqb j) xs) e)

-- no place is marked at first
pub unmarked : (n j : ℕ) → get_or (replicate n false) j false ≡ false
unmarked n j =
    ⊎_elim (λ lt. get_or-replicate n j false false lt)
    (λ ge. get_or_past (replicate n false) j false (omega (arith, length-replicate n false)))
    (cases_lt j n)
