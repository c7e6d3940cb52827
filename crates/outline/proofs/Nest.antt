-- One entry more that has its children and its height. Assumes nothing.
use Rattle.std.proofs.Common.{◌≡◌, ℕ, ◌+◌, ◌-◌, ◌<◌, ◌≤◌, List, [], ◌∷◌, ◌++◌, length, get_or, set, drop, replicate, reverse, vec_items, Vec, sym, refl, ap, ◌∙◌, subst, arith}
use Rattle.std.proofs.Math.Seq.{map-set_same}
use Rattle.std.proofs.lemmas.Bool.{cases_lt}
use Rattle.std.proofs.lemmas.Grind.{common_steps}
use Rattle.std.proofs.lemmas.List.{get_or-map, length-map, map-set}
use Rattle.std.specs.declared.alloc.Global.{Global}
use Rattle.outline.specs.Building.{Nested}
use Rattle.outline.specs.Items.{branch_depths, children_lists, depths_of, heights_of, items_of, lists_of}
use Rattle.outline.specs.Nesting.{Stepwise, Within, children_of, highest, kids}
use Rattle.outline.specs.declared.entries.Entry.{Entry}
use Rattle.outline.specs.declared.items.Branch.{Branch}
use Rattle.outline.proofs.Heights.{HighFrom, below_low, high_more}
use Rattle.outline.proofs.Kids.{Free, free_more, free_none}

long_depths : (branches : List Branch) → length (branch_depths branches) ≡ length branches
long_depths branches = length-map (items_of branches) (λ i. i.depth) ∙ length-map branches (λ b. b.item)

-- from a number on the entries have their children and their heights, and no item was changed
pub record Nesting (before now : List Branch) (levels : List (List Entry)) (i : ℕ) : Type 0 where
  pub items : items_of now ≡ items_of before
  pub children : (j : ℕ) → i ≤ j → j < length now → get_or (children_lists now) j [] ≡ children_of (branch_depths before) j
  pub heights : HighFrom (branch_depths before) (heights_of now) i
  pub free : Free (branch_depths before) levels i

pub nesting_none : (before : List Branch) (levels : List (List Entry)) → levels ≡ replicate 65 [] → Nesting before before levels (length before)
nesting_none before levels e =
    let long = long_depths before in
    let lengths = length-map before (λ b. b.height) in
    record {
      items = refl;
      children = λ j a b. absurd (omega arith);
      heights = record { long = omega arith; measured = λ j a b. absurd (omega arith); shallow = λ j a b. absurd (omega arith) };
      free = rw e (free_none (branch_depths before) (length before) (omega arith));
    }

module _ (before now : List Branch) (free : List (Vec Entry Global)) (n : ℕ) (some : 0 < n) (end : n ≤ length now) (nesting : Nesting before now (lists_of free) n)
    (stepwise : Stepwise (branch_depths before)) (within : Within (branch_depths before)) where
  back : n ≡ n - 1 + 1
  back = omega arith

  known : n - 1 < length (branch_depths before)
  known = omega (arith, nesting.heights.long, length-map now (λ b. b.height))

  depth_is : (d : Branch) → (get_or now (n - 1) d).item.depth ≡ get_or (branch_depths before) (n - 1) 0
  depth_is d =
      ap (λ i. i.depth) (sym (get_or-map (λ b. b.item) now (n - 1) d d.item (omega arith))) ∙ sym (get_or-map (λ i. i.depth) (items_of now) (n - 1) d.item 0 (omega (arith, length-map now (λ b. b.item))))
      ∙ ap (λ is. get_or (depths_of is) (n - 1) 0) nesting.items

  pub room : (d : Branch) → (get_or now (n - 1) d).item.depth + 1 < length free
  room d = omega (arith, depth_is d, within (n - 1), nesting.free.room, length-map free (λ l. vec_items l))

  -- the entries that it takes are its children
  module _ (d : Branch) (list : Vec Entry Global) (read : list ≡ get_or free ((get_or now (n - 1) d).item.depth + 1) list) (children : List Entry) (taken : children ≡ reverse (vec_items list)) where
    children_are : children ≡ children_of (branch_depths before) (n - 1)
    children_are =
        let x = (get_or now (n - 1) d).item.depth in
        let at : vec_items list ≡ get_or (lists_of free) (x + 1) [] = grind (arith, common_steps, room d) in
        taken ∙ ap reverse at ∙ nesting.free.each (x + 1) ∙ ap (λ i. kids (x + 1) i (drop i (branch_depths before))) back ∙ ap (λ x. kids (x + 1) (n - 1 + 1) (drop (n - 1 + 1) (branch_depths before))) (depth_is d)

    module _ (h : ℕ) (is : h ≡ highest (heights_of now) children) where
      next : HighFrom (branch_depths before) (heights_of now) (n - 1 + 1)
      next = subst (HighFrom (branch_depths before) (heights_of now)) back nesting.heights

      high : h ≡ highest (heights_of now) (children_of (branch_depths before) (n - 1))
      high = is ∙ ap (highest (heights_of now)) children_are

      pub height_low : h + 1 ≤ 64
      height_low = omega (arith, high, below_low (branch_depths before) (heights_of now) (n - 1) next known (within (n - 1)))

      pub nesting_more : (b d' : Branch) → b.item ≡ (get_or now (n - 1) d').item → vec_items b.children ≡ children → b.height ≡ h + 1
          → (left at more : Vec Entry Global) → vec_items left ≡ [] → at ≡ get_or (set free ((get_or now (n - 1) d).item.depth + 1) left) (get_or now (n - 1) d).item.depth at → vec_items more ≡ vec_items at ++ record { number = n - 1 } ∷ []
          → Nesting before (set now (n - 1) b) (lists_of (set (set free ((get_or now (n - 1) d).item.depth + 1) left) (get_or now (n - 1) d).item.depth more)) (n - 1)
      nesting_more b d' item has height left at more none found pushed =
          let x = (get_or now (n - 1) d).item.depth in
          let ds = branch_depths before in
          let gone : lists_of (set free (x + 1) left) ≡ set (lists_of free) (x + 1) [] = map-set (λ l. vec_items l) free (x + 1) left ∙ ap (set (lists_of free) (x + 1)) none in
          let more_is : vec_items more ≡ get_or (lists_of (set free (x + 1) left)) x [] ++ record { number = n - 1 } ∷ [] = grind (arith, common_steps, room d) in
          record {
            items = map-set_same (λ b. b.item) now (n - 1) b d' item ∙ nesting.items;
            children = λ j a l. rw (map-set (λ b. vec_items b.children) now (n - 1) b) (grind (arith, common_steps, nesting.children j, children_are, cases_lt (n - 1) j));
            heights = rw (map-set (λ b. b.height) now (n - 1) b, height) (high_more ds (heights_of now) (n - 1) next known (within (n - 1)) (h + 1) (ap (λ m. m + 1) high));
            free = rw (map-set (λ l. vec_items l) (set free (x + 1) left) x more, more_is) (free_more ds (lists_of free) (n - 1) (subst (Free ds (lists_of free)) back nesting.free) known stepwise (within (n - 1)) x (depth_is d) (lists_of (set free (x + 1) left)) gone);
          }

-- at the end all are nested
pub nested : (before now : List Branch) (free : List (Vec Entry Global)) (i : ℕ) (list : Vec Entry Global) (roots : List Entry) → i ≤ 0 → Nesting before now (lists_of free) i → list ≡ get_or free 0 list → roots ≡ reverse (vec_items list) → Nested before now roots
nested before now free i list roots e nesting read is =
    let first : vec_items list ≡ get_or (lists_of free) 0 [] = grind (arith, common_steps, nesting.free.room) in
    record {
      items = nesting.items;
      parented = λ j l. nesting.children j (omega arith) (omega (arith, length-map now (λ b. vec_items b.children)));
      measured = λ j l. nesting.heights.measured j (omega arith) (omega (arith, nesting.heights.long));
      shallow = λ j l. nesting.heights.shallow j (omega arith) (omega (arith, nesting.heights.long));
      rooted = is ∙ ap reverse first ∙ nesting.free.each 0 ∙ ap (λ i. kids 0 i (drop i (branch_depths before))) {x = i} {y = 0} (omega arith);
    }
