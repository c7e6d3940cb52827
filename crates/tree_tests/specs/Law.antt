-- The law of a tree holds of every ladder. Assumes nothing.
use Rattle.std.specs.Prelude.{◌≡◌, ℕ, ◌-◌, ◌<◌, ◌≤◌, min, true, length, nat_le, nat_lt}
use Rattle.std.proofs.Common.{sym, ap, subst, arith}
use Rattle.std.proofs.lemmas.List.{length-replicate, get_or-replicate}
use Rattle.std.proofs.lemmas.Bool.{and_from, and_parts, cond_both, leb-true, le-leb, ltb-true}
use Rattle.tree.specs.Lines.{TreeLaw, child_of}
use Rattle.tree_tests.specs.Ladders.{children_on, count_on, height_on, known_on}
use Rattle.tree_tests.specs.declared.ladders.Ladder.{Ladder}
use Rattle.tree_tests.specs.declared.ladders.Rung.{Rung}

-- a known rung is one of those that are there
within : (l : Ladder) (n : Rung) → known_on l n ≡ true → (1 ≤ n.height) × (n.height ≤ min l.rungs 64)
within l n k =
    let both = and_parts (nat_le 1 n.height) (nat_le n.height (min l.rungs 64)) k in
    (leb-true _ _ both.0, leb-true _ _ both.1)

-- only a rung above the lowest has children
above : (l : Ladder) (n : Rung) (i : ℕ) → i < count_on l n → 1 < n.height
above l n i h = cond_both (nat_lt 1 n.height) l.fan 0 (λ c. i < c → 1 < n.height) (λ e _. ltb-true _ _ e) (λ _ none. absurd (omega (arith, none))) h

-- each child is the next lower rung
next_lower : (l : Ladder) (n : Rung) (i : ℕ) → i < length (children_on l n) → (1 < n.height) × (child_of (children_on l) n i ≡ record { height = n.height - 1 })
next_lower l n i h =
    let lower : Rung = record { height = n.height - 1 } in
    let inside : i < count_on l n = omega (arith, h, length-replicate (count_on l n) lower) in
    (above l n i inside, get_or-replicate (count_on l n) i lower n inside)

pub ladder_law : (l : Ladder) → TreeLaw (known_on l) (height_on l) (children_on l)
ladder_law l = record {
  kept = λ n i k h.
      let lower = next_lower l n i h in
      let w = within l n k in
      let low : 1 ≤ n.height - 1 = omega (arith, lower.0) in
      let high : n.height - 1 ≤ min l.rungs 64 = omega (arith, w.1) in
      subst (λ c. known_on l c ≡ true) (sym lower.1) (and_from _ _ (le-leb _ _ low) (le-leb _ _ high));
  low = λ n k. (within l n k).0;
  high = λ n k. omega (arith, (within l n k).1);
  falls = λ n i k h.
      let lower = next_lower l n i h in
      let e = ap (λ c. c.height) lower.1 in
      omega (arith, lower.0, e);
}
