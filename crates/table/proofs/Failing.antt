-- The first place that fails a test, one place on. Assumes nothing.
use Rattle.std.proofs.Common.{◌≡◌, ℕ, zero, suc, ◌+◌, ◌<◌, ◌≤◌, Bool, true, false, cond, not, eqb, ◌⊎◌, List, [], ◌∷◌, ◌++◌, length, get_or, take, drop, Some, None, sym, refl, ap, ◌∙◌, subst, inl, inr, ⊎_elim, arith}
use Rattle.std.proofs.lemmas.List.{take_more, at_drop_more, append-nil, append_assoc, get_or-take, get_or_default, length-take-le}
use Rattle.std.proofs.lemmas.Map.Keys.{IsDistinct-from_apart}
use Rattle.std.proofs.lemmas.Map.Steps.{length-le_from_distinct_below}
use Rattle.std.proofs.lemmas.Bool.{cond-true, cond-false, cases_Bool, cases_eq, both_ways, and_from, not_from_false, ne_eqb}
use Rattle.std.specs.List.{find}
use Rattle.table.specs.State.{has, distinct}
use Rattle.table.specs.Tests.{first_failing}
use Rattle.table.proofs.Has.{has_any, has_at, has_place, head_is, head_not}

module _ (test : List ℕ → ℕ → Bool) (places : List ℕ) (k : ℕ) (within : k < length places) where
  step : first_failing test (take k places) (drop k places)
      ≡ cond (test (take k places) (get_or places k 0)) (first_failing test (take (k + 1) places) (drop (k + 1) places)) (Some (get_or places k 0))
  step =
      at_drop_more (first_failing test (take k places)) places k 0 within
      ∙ ap (λ x. cond (test (take k places) (get_or places k 0)) (first_failing test x (drop (k + 1) places)) (Some (get_or places k 0))) (sym (take_more places k 0 within))

  pub passes : test (take k places) (get_or places k 0) ≡ true → first_failing test (take (k + 1) places) (drop (k + 1) places) ≡ first_failing test (take k places) (drop k places)
  passes yes' = sym (step ∙ cond-true (test (take k places) (get_or places k 0)) _ _ yes')

-- where a test looks at no other place, the first that fails it is what a search finds
pub find_failing : (test : ℕ → Bool) (done xs : List ℕ) → find (λ c. not (test c)) xs ≡ first_failing (λ done c. test c) done xs
find_failing test done [] = refl
find_failing test done (x ∷ xs) = ⊎_elim
    (λ yes'. cond-false (not (test x)) _ _ (ap not yes') ∙ find_failing test (done ++ x ∷ []) xs ∙ sym (cond-true (test x) _ _ yes'))
    (λ no'. cond-true (not (test x)) _ _ (ap not no') ∙ sym (cond-false (test x) _ _ no'))
    (cases_Bool (test x))

-- where no place fails, each passed
pub all_passed : (test : List ℕ → ℕ → Bool) (done xs : List ℕ) → first_failing test done xs ≡ None → (k : ℕ) → k < length xs → test (done ++ take k xs) (get_or xs k 0) ≡ true
all_passed test done [] e k lt = absurd (omega arith)
all_passed test done (x ∷ xs) e k lt = go (all_passed test (done ++ x ∷ []) xs) k lt (cases_Bool (test done x))
  where
    go : (first_failing test (done ++ x ∷ []) xs ≡ None → (j : ℕ) → j < length xs → test ((done ++ x ∷ []) ++ take j xs) (get_or xs j 0) ≡ true)
        → (i : ℕ) → i < suc (length xs) → (test done x ≡ true) ⊎ (test done x ≡ false) → test (done ++ take i (x ∷ xs)) (get_or (x ∷ xs) i 0) ≡ true
    go rest i within (inr no') = let none : Some x ≡ None = sym (cond-false (test done x) (first_failing test (done ++ x ∷ []) xs) (Some x) no') ∙ e in cc
    go rest zero within (inl yes') = ap (λ l. test l x) (append-nil done) ∙ yes'
    go rest (suc i) within (inl yes') =
        ap (λ l. test l (get_or xs i 0)) (sym (append_assoc done (x ∷ []) (take i xs)))
        ∙ rest (sym (cond-true (test done x) (first_failing test (done ++ x ∷ []) xs) (Some x) yes') ∙ e) i (omega arith)

-- places of which none was named before are distinct
pub apart_distinct : (xs : List ℕ) → ((k : ℕ) → k < length xs → has (take k xs) (get_or xs k 0) ≡ false) → distinct xs ≡ true
apart_distinct [] apart = refl
apart_distinct (x ∷ xs) apart =
    and_from _ _
    (not_from_false _ (⊎_elim
    (λ t. let r = has_place xs x 0 t in absurd (both_ways _ (apart (suc r.0) (omega (arith, r.1))) (head_is x (take r.0 xs) (get_or xs r.0 0) (sym r.2))))
    (λ f. f) (cases_Bool (has xs x))))
    (apart_distinct xs (λ k lt. later k lt (apart (suc k) (omega arith))))
  where
    later : (k : ℕ) → k < length xs → has (x ∷ take k xs) (get_or xs k 0) ≡ false → has (take k xs) (get_or xs k 0) ≡ false
    later k lt f = ⊎_elim (λ e. absurd (both_ways _ f (head_is x (take k xs) (get_or xs k 0) e))) (λ ne. sym (head_not x (take k xs) (get_or xs k 0) ne) ∙ f) (cases_eq x (get_or xs k 0))

-- and below a number they are at most that many
pub apart_few : (n : ℕ) (xs : List ℕ) → ((k : ℕ) → k < length xs → has (take k xs) (get_or xs k 0) ≡ false) → ((k : ℕ) → k < length xs → get_or xs k 0 < n) → length xs ≤ n
apart_few n xs apart below = length-le_from_distinct_below xs n (IsDistinct-from_apart eqb xs differ) (λ q e. let r = has_place xs q 0 (has_any xs q e) in subst (λ x. x < n) r.2 (below r.0 r.1))
  where
    differ : (i j d : ℕ) → i < j → j < length xs → eqb (get_or xs i d) (get_or xs j d) ≡ false
    differ i j d lt within =
        ne_eqb (get_or xs i d) (get_or xs j d)
        (λ e. both_ways _ (apart j within)
        (subst (λ x. has (take j xs) x ≡ true) (get_or-take j xs i 0 lt ∙ get_or_default xs i 0 d (omega arith) ∙ e ∙ get_or_default xs j d 0 within) (has_at (take j xs) i 0 (omega (arith, length-take-le j xs)))))
