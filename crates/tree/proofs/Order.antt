-- Document order is strict, and a list in it holds no line twice. Assumes nothing.
use Rattle.std.proofs.Common.{◌≡◌, ℕ, zero, suc, ◌<◌, List, [], ◌∷◌, ◌++◌, length, get_or, sym, refl, subst, inl, inr, ⊎_elim, arith}
use mathlib.Core.List.Memᴰ
use mathlib.Core.List.{Memᴰ}
use Rattle.std.proofs.lemmas.Bool.{cases_order}
use Rattle.tree.specs.Lines.{Before, In, Ascending, AllOf}

before_asymmetric : (l m : List ℕ) → Before l m → Before m l → ⊥
before_asymmetric [] [] a b = a
before_asymmetric [] (j ∷ m) a b = b
before_asymmetric (i ∷ l) [] a b = a
before_asymmetric (i ∷ l) (j ∷ m) (inl a) (inl b) = omega arith
before_asymmetric (i ∷ l) (j ∷ m) (inl a) (inr b) = omega (arith, b.0)
before_asymmetric (i ∷ l) (j ∷ m) (inr a) (inl b) = omega (arith, a.0)
before_asymmetric (i ∷ l) (j ∷ m) (inr a) (inr b) = before_asymmetric l m a.1 b.1

module _ (ls : List (List ℕ)) (asc : Ascending ls) (j k : ℕ) (lj : j < length ls) (lk : k < length ls) where
  -- one line, one place
  pub stands_once : get_or ls j [] ≡ get_or ls k [] → j ≡ k
  stands_once e =
      ⊎_elim (λ same. same)
      (⊎_elim (λ lt. let b = subst (λ x. Before x (get_or ls k [])) e (asc j k lt lk) in absurd (before_asymmetric _ _ b b))
      (λ gt. let b = subst (λ x. Before (get_or ls k []) x) e (asc k j gt lj) in absurd (before_asymmetric _ _ b b)))
      (cases_order j k)

  -- where a line before another stands
  pub stands_before : Before (get_or ls j []) (get_or ls k []) → j < k
  stands_before b =
      ⊎_elim (λ e. let b' = subst (λ x. Before (get_or ls x []) (get_or ls k [])) e b in absurd (before_asymmetric _ _ b' b'))
      (⊎_elim (λ lt. lt) (λ gt. absurd (before_asymmetric (get_or ls j []) (get_or ls k []) b (asc k j gt lj))))
      (cases_order j k)

-- membership, by structure and by place
in_from_mem : {l : List ℕ} {ls : List (List ℕ)} → Memᴰ l ls → In ls l
in_from_mem (Memᴰ.head e) = (0, omega arith, sym e)
in_from_mem (Memᴰ.tail m) = let i = in_from_mem m in (suc i.0, omega (arith, i.1), i.2)

mem_from_place : (ls : List (List ℕ)) (k : ℕ) → k < length ls → Memᴰ (get_or ls k []) ls
mem_from_place [] k lt = absurd (omega arith)
mem_from_place (l ∷ ls) zero lt = Memᴰ.head refl
mem_from_place (l ∷ ls) (suc k) lt = Memᴰ.tail (mem_from_place ls k (omega arith))

-- a list in document order, by structure: its first line is before all others
abbrev pub Sorted : List (List ℕ) → Type 0
Sorted [] = Unit {0}
Sorted (l ∷ ls) = ((m : List ℕ) → Memᴰ m ls → Before l m) × Sorted ls

ascending_from_sorted : (ls : List (List ℕ)) → Sorted ls → Ascending ls
ascending_from_sorted [] s i j lt within = absurd (omega arith)
ascending_from_sorted (l ∷ ls) s i zero lt within = absurd (omega arith)
ascending_from_sorted (l ∷ ls) s zero (suc j) lt within = s.0 _ (mem_from_place ls j (omega arith))
ascending_from_sorted (l ∷ ls) s (suc i) (suc j) lt within = ascending_from_sorted ls s.1 i j (omega arith) (omega arith)

pub sorted_append : (ls ms : List (List ℕ)) → Sorted ls → Sorted ms → ((l m : List ℕ) → Memᴰ l ls → Memᴰ m ms → Before l m) → Sorted (ls ++ ms)
sorted_append [] ms sl sm across = sm
sorted_append (l ∷ ls) ms sl sm across = (
  λ m mem. ⊎_elim (λ x. sl.0 m x) (λ y. across l m (Memᴰ.head refl) y) (Memᴰ.append_cases ls mem),
  sorted_append ls ms sl.1 sm (λ a b ma mb. across a b (Memᴰ.tail ma) mb),
)

-- all lines that there are, by structure
pub record Listing (Line : List ℕ → Type 0) (ls : List (List ℕ)) : Type 0 where
  pub only : (line : List ℕ) → Memᴰ line ls → Line line
  pub each : (line : List ℕ) → Line line → Memᴰ line ls
  pub sorted : Sorted ls

pub all_of : (Line : List ℕ → Type 0) (ls : List (List ℕ)) → Listing Line ls → AllOf Line ls
all_of Line ls a = record {
  only = λ line (k, lt, is). a.only line (Memᴰ.cast (sym is) (mem_from_place ls k lt));
  each = λ line l. in_from_mem (a.each line l);
  once = ascending_from_sorted ls a.sorted;
}
