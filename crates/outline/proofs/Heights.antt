-- How high the entries are, found from the last to the first. Assumes nothing.
use Rattle.std.proofs.Common.{◌≡◌, ℕ, suc, ◌+◌, ◌<◌, ◌≤◌, max, ◌≢◌, List, [], ◌∷◌, length, get_or, drop, set, refl, ◌∙◌, arith, length-drop}
use native.Mathlib.Nat.{zero-max}
use Rattle.std.proofs.lemmas.Bool.{cases_lt}
use Rattle.std.proofs.lemmas.Bool.Decides.{nat_tests}
use Rattle.std.proofs.lemmas.Grind.{common_steps}
use Rattle.std.proofs.lemmas.List.{get_or-drop, get_or-set_other, length-set}
use Rattle.std.specs.List.{fold}
use Rattle.outline.specs.Nesting.{children_of, highest, kids}
use Rattle.outline.specs.declared.entries.Entry.{Entry}

-- the highest, from the first entry on
from_first : (heights : List ℕ) (most : ℕ) (es : List Entry) → fold (λ a e. max a (get_or heights e.number 0)) most es ≡ max most (highest heights es)
from_first heights most [] = omega arith
from_first heights most (e ∷ es) = let later = from_first heights (max most (get_or heights e.number 0)) es in omega arith

pub highest-fold : (heights : List ℕ) (es : List Entry) → fold (λ a e. max a (get_or heights e.number 0)) 0 es ≡ highest heights es
highest-fold heights es = from_first heights 0 es ∙ zero-max _

-- one that is none of some entries has no part in how high they are
highest-set : (heights : List ℕ) (i h depth number : ℕ) (ds : List ℕ) → i < number → highest (set heights i h) (kids depth number ds) ≡ highest heights (kids depth number ds)
highest-set heights i h depth number [] l = refl
highest-set heights i h depth number (d ∷ ds) l =
    let later = highest-set heights i h depth (suc number) ds (omega arith) in
    let ne : number ≢ i = omega arith in
    let kept = get_or-set_other heights i number h 0 ne in
    grind (arith, nat_tests)

-- where no entry goes below level 64, those at a depth do not
highest_low : (depth number : ℕ) (ds heights : List ℕ) → depth ≤ 64 → ((k : ℕ) → k < length ds → get_or ds k 0 + get_or heights (number + k) 0 ≤ 64) → depth + highest heights (kids depth number ds) ≤ 64
highest_low depth number [] heights l low = omega arith
highest_low depth number (d ∷ ds) heights l low =
    let here = low 0 (omega arith) in
    let later = highest_low depth (suc number) ds heights l (λ k h. grind (arith, low (suc k))) in
    grind (arith, nat_tests)

-- from a number on, it is known how high each is
pub record HighFrom (ds heights : List ℕ) (i : ℕ) : Type 0 where
  pub long : length heights ≡ length ds
  pub measured : (j : ℕ) → i ≤ j → j < length ds → get_or heights j 0 ≡ 1 + highest heights (children_of ds j)
  pub shallow : (j : ℕ) → i ≤ j → j < length ds → get_or ds j 0 + get_or heights j 0 ≤ 64

module _ (ds heights : List ℕ) (i : ℕ) (later : HighFrom ds heights (i + 1)) (known : i < length ds) (within : get_or ds i 0 < 64) where
  pub below_low : get_or ds i 0 + 1 + highest heights (children_of ds i) ≤ 64
  below_low =
      let rest = length-drop (i + 1) ds in
      highest_low (get_or ds i 0 + 1) (i + 1) (drop (i + 1) ds) heights (omega arith)
      (λ k h. omega (arith, get_or-drop (i + 1) ds k 0, later.shallow (i + 1 + k) (omega arith) (omega arith)))

  pub high_more : (h : ℕ) → h ≡ highest heights (children_of ds i) + 1 → HighFrom ds (set heights i h) i
  high_more h e =
      let same : (j : ℕ) → i ≤ j → highest (set heights i h) (children_of ds j) ≡ highest heights (children_of ds j) = λ j a. highest-set heights i h (get_or ds j 0 + 1) (j + 1) (drop (j + 1) ds) (omega arith) in
      record {
        long = length-set heights i h ∙ later.long;
        measured = λ j a b. grind (arith, common_steps, same j a, later.measured j, cases_lt i j, later.long);
        shallow = λ j a b. grind (arith, common_steps, below_low, later.shallow j, cases_lt i j, later.long);
      }
