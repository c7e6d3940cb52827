-- The entries at a depth from a number on, and the lists of those that have no parent yet. Assumes nothing.
use Rattle.std.proofs.Common.{◌≡◌, ℕ, suc, ◌+◌, ◌<◌, ◌≤◌, List, [], ◌∷◌, ◌++◌, length, get_or, drop, set, reverse, replicate, sym, refl, ap, ◌∙◌, arith}
use Rattle.std.proofs.lemmas.Bool.{cases_eq, cases_lt, cases_order}
use Rattle.std.proofs.lemmas.Bool.Decides.{nat_tests}
use Rattle.std.proofs.lemmas.Grind.{common_steps}
use Rattle.std.proofs.lemmas.List.{drop_all, drop_more, length-set, reverse-append}
use Rattle.outline.specs.Nesting.{Stepwise, kids}
use Rattle.outline.specs.declared.entries.Entry.{Entry}

module _ (depths : List ℕ) (depth i : ℕ) where
  opened : i < length depths → kids depth i (drop i depths) ≡ kids depth i (get_or depths i 0 ∷ drop (i + 1) depths)
  opened l = ap (kids depth i) (drop_more depths i 0 l)

  after_one : kids depth (suc i) (drop (i + 1) depths) ≡ kids depth (i + 1) (drop (i + 1) depths)
  after_one = ap (λ j. kids depth j (drop (i + 1) depths)) (omega arith)

  -- an entry at the depth is the next of them
  kids_here : i < length depths → get_or depths i 0 ≡ depth → kids depth i (drop i depths) ≡ record { number = i } ∷ kids depth (i + 1) (drop (i + 1) depths)
  kids_here l e = grind (arith, nat_tests, opened l, after_one)

  -- a deeper one is passed over
  kids_deeper : i < length depths → depth < get_or depths i 0 → kids depth i (drop i depths) ≡ kids depth (i + 1) (drop (i + 1) depths)
  kids_deeper l d = grind (arith, nat_tests, opened l, after_one)

  -- at one that is less deep, or past the end, there are no more
  kids_stop : get_or depths i 0 < depth → kids depth i (drop i depths) ≡ []
  kids_stop d = grind (arith, nat_tests, opened, cases_lt i (length depths), drop_all i depths)

-- by level, the entries from a number on that none from there on has taken, the last first
pub record Free (depths : List ℕ) (levels : List (List Entry)) (i : ℕ) : Type 0 where
  pub room : length levels ≡ 65
  pub each : (d : ℕ) → reverse (get_or levels d []) ≡ kids d i (drop i depths)

none_at : (n d : ℕ) → get_or {A = List Entry} (replicate n []) d [] ≡ []
none_at n d = grind (arith, common_steps)

pub free_none : (depths : List ℕ) (i : ℕ) → length depths ≤ i → Free depths (replicate 65 []) i
free_none depths i l = record { room = refl; each = λ d. ap reverse (none_at 65 d) ∙ sym (ap (kids d i) (drop_all i depths l)) }

module _ (depths : List ℕ) (levels : List (List Entry)) (i : ℕ) (free : Free depths levels (i + 1)) (known : i < length depths) (stepwise : Stepwise depths) (within : get_or depths i 0 < 64) where
  -- an entry takes those one level below it, and is free at its own
  pub free_more : (x : ℕ) → x ≡ get_or depths i 0 → (taken : List (List Entry)) → taken ≡ set levels (x + 1) [] → Free depths (set taken x (get_or taken x [] ++ record { number = i } ∷ [])) i
  free_more x at taken is =
      let long : length taken ≡ 65 = ap length is ∙ length-set levels (x + 1) [] ∙ free.room in
      let more = get_or taken x [] ++ record { number = i } ∷ [] in
      let one = reverse-append (get_or taken x []) (record { number = i } ∷ []) in
      record {
        room = length-set taken x _ ∙ long;
        each = λ d. grind (arith, common_steps, is, one, free.each d, kids_here depths d i known, kids_deeper depths d i known, kids_stop depths d i, kids_stop depths d (i + 1), stepwise i, cases_order d x, cases_eq d (x + 1));
      }
