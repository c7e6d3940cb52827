-- The height and the lines of a node to be put. Assumes nothing.
use Rattle.std.proofs.Common.{◌≡◌, ℕ, suc, ◌+◌, ◌<◌, ◌≤◌, min, Bool, true, ◌&&◌, leb, List, [], ◌∷◌, length, get_or, Some, None, Option, sym, refl, ap, ◌∙◌, ap₂, ⊎_elim, arith}
use Rattle.std.proofs.lemmas.Bool.{le-leb, lt-leb, leb-true, leb-false, and_right, cases_Bool}
use Rattle.draft.specs.Details.{details_of}
use Rattle.draft.specs.declared.drafts.Draft.{Draft}
use Rattle.node.specs.declared.faults.TableFault.TheVariants.{Size}
use Rattle.kind.specs.declared.shapes.Extra.{Extra}
use Rattle.kind.specs.declared.shapes.Extra.TheVariants as extra
use Rattle.table.specs.Facts.{Sound}
use Rattle.table.proofs.Fresh.{Ready}
use Rattle.table.specs.Puts.{unless, shared_of, parts_of, handed_in, height_of, lines_of, due_size}
use Rattle.table.specs.State.{State, node_at, walked, all_lines}
use Rattle.table.proofs.Agree.{walked_held}
use Rattle.table.proofs.Found.{length_walked}

pub shared_none : (x : Option Extra) → shared_of x 0 ≡ 0
shared_none None = refl
shared_none (Some extra.Keys) = refl
shared_none (Some extra.Arms) = refl
shared_none (Some extra.Shared) = refl

-- as many lines as children, where each has one at least
all_lines_long : (s : State) (xs : List ℕ) → ((i : ℕ) → i < length xs → 1 ≤ (node_at s (get_or xs i 0)).lines) → length xs ≤ all_lines s xs
all_lines_long s [] each = omega arith
all_lines_long s (x ∷ xs) each = omega (arith, each 0 (omega arith), all_lines_long s xs (λ i lt. each (suc i) (omega arith)))

module _ (s : State) (d : Draft) (places : List ℕ) (sound : Sound s) (ready : Ready s d places) where
  abbrev xs : List ℕ
  xs = walked (handed_in places) (details_of d) (parts_of d 0 0)

  child_lines : (i : ℕ) → i < length xs → 1 ≤ (node_at s (get_or xs i 0)).lines
  child_lines i lt =
      let r = walked_held (handed_in places) (details_of d) (parts_of d 0 0) ready.arms_there i lt in
      let known : get_or xs i 0 < s.used = omega (arith, r.2, ready.children r.0 r.1) in
      omega (arith, sound.lines (get_or xs i 0) known)

  -- so many references are too many lines
  pub too_many : 32767 < d.values + d.ranges → due_size s d places ≡ Some (Size 0)
  too_many many =
      let long = all_lines_long s xs child_lines in
      let count = length_walked (handed_in places) (details_of d) (parts_of d 0 0) in
      ap (λ b. unless b (Size 0)) (and_right (leb (height_of s d places) 64) (leb (lines_of s d places) 65535) (lt-leb (lines_of s d places) 65535 (omega arith)))

  -- what a measure tells: its lines are exact up to 65,535
  capped : (lines : ℕ) → lines ≡ min (lines_of s d places) 65536 → leb lines 65535 ≡ leb (lines_of s d places) 65535
  capped lines e = ⊎_elim
      (λ t. t ∙ sym (le-leb _ _ (omega (arith, leb-true lines 65535 t))))
      (λ f. f ∙ sym (lt-leb _ _ (omega (arith, leb-false lines 65535 f)))) (cases_Bool (leb lines 65535))

  pub sized_is : (height lines : ℕ) (r : Bool) → height ≡ height_of s d places → lines ≡ min (lines_of s d places) 65536 → r ≡ (leb height 64 && leb lines 65535)
      → due_size s d places ≡ unless r (Size 0)
  sized_is height lines r tall many is = ap (λ b. unless b (Size 0)) (sym (is ∙ ap₂ ◌&&◌ (ap (λ h. leb h 64) tall) (capped lines many)))

  pub exact : (lines : ℕ) → lines ≡ min (lines_of s d places) 65536 → leb lines 65535 ≡ true → lines ≡ lines_of s d places
  exact lines e t = omega (arith, leb-true lines 65535 t)
