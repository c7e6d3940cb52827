-- All lines from several names in turn or from one, listed in document order, and the paths that show them. Assumes nothing.
use Rattle.std.proofs.Common.{◌≡◌, ℕ, zero, suc, ◌+◌, ◌≤◌, Bool, true, ◌⊎◌, All, List, [], ◌∷◌, ◌++◌, map, Some, None, Option, sym, refl, ap, ◌∙◌, subst, ap₂, inl, inr, append_assoc, arith, IsSomeAnd, slice_get}
use mathlib.Core.List.Memᴰ
use mathlib.Core.List.{Memᴰ}
use Rattle.std.proofs.lemmas.List.{map-append}
use Rattle.std.proofs.lemmas.Option.{get_or_from_slice_get, same_Some, slice_get-get_or, slice_get_within}
use Rattle.std.proofs.lemmas.Simd.{map-map}
use Rattle.std.specs.List.{flat_map}
use Rattle.tree.specs.Forests.{FollowEach, along_each}
use Rattle.tree.specs.Lines.{TreeLaw, Follow, along, Before, AllLines, AllOf}
use Rattle.tree.specs.Runs.{paths}
use Rattle.tree.specs.Walks.{path_of}
use Rattle.tree.proofs.Order.{Listing, Sorted, all_of, sorted_append}

-- the lines through children that are numbered from i, f giving the lines of one
abbrev pub branches : {N : Type 0} → (N → List (List ℕ)) → ℕ → List N → List (List ℕ)
branches f i [] = []
branches f i (c ∷ cs) = map (λ l. i ∷ l) (f c) ++ branches f (suc i) cs

-- the lines from a name, at most so many names long
abbrev pub lines : {N : Type 0} → (N → List N) → ℕ → N → List (List ℕ)
lines children zero n = []
lines children (suc h) n = [] ∷ branches (lines children h) 0 (children n)

some_and : {X : Type 0} (o : Option X) (P : X → Type 0) → IsSomeAnd o P → (x : X) × (o ≡ Some x) × P x
some_and None P h = absurd h
some_and (Some x) P h = (x, refl, h)

module _ {N : Type 0} (f : N → List (List ℕ)) where
  -- a line through a child begins with the child's number
  through : (i : ℕ) (cs : List N) (line : List ℕ) → Memᴰ line (branches f i cs) → (r : ℕ) × (c : N) × (l : List ℕ) × (line ≡ (i + r) ∷ l) × (slice_get cs r ≡ Some c) × Memᴰ l (f c)
  through i [] line m = absurd (Memᴰ.not-nil m)
  through i (c ∷ cs) line m = go (Memᴰ.append_cases (map (λ l. i ∷ l) (f c)) m) (through (suc i) cs line)
    where
      go : Memᴰ line (map (λ l. i ∷ l) (f c)) ⊎ Memᴰ line (branches f (suc i) cs)
          → (Memᴰ line (branches f (suc i) cs) → (r : ℕ) × (d : N) × (l : List ℕ) × (line ≡ (suc i + r) ∷ l) × (slice_get cs r ≡ Some d) × Memᴰ l (f d))
          → (r : ℕ) × (d : N) × (l : List ℕ) × (line ≡ (i + r) ∷ l) × (slice_get (c ∷ cs) r ≡ Some d) × Memᴰ l (f d)
      go (inl here) later = let t = Memᴰ.of_map (λ l. i ∷ l) (f c) here in let e : i ≡ i + 0 = omega arith in (0, c, t.0, sym t.2 ∙ ap (λ k. k ∷ t.0) e, refl, t.1)
      go (inr there) later = let t = later there in let e : suc i + t.0 ≡ i + suc t.0 = omega arith in (suc t.0, t.1, t.2, t.3 ∙ ap (λ k. k ∷ t.2) e, t.4, t.5)

  -- and each line of a child is among them, behind its number
  among : (i : ℕ) (cs : List N) (r k : ℕ) (c : N) (l : List ℕ) → slice_get cs r ≡ Some c → k ≡ i + r → Memᴰ l (f c) → Memᴰ (k ∷ l) (branches f i cs)
  among i [] r k c l is at m = cc
  among i (d ∷ cs) zero k c l is at m =
      let e : k ≡ i = omega arith in
      Memᴰ.append_left (branches f (suc i) cs) (Memᴰ.cast (ap (λ x. x ∷ l) e) (Memᴰ.map (λ l'. i ∷ l') (subst (λ x. Memᴰ l (f x)) (sym (same_Some d c is)) m)))
  among i (d ∷ cs) (suc r) k c l is at m = Memᴰ.append_right (map (λ l'. i ∷ l') (f d)) (among (suc i) cs r k c l is (omega arith) m)

  sorted_map : (i : ℕ) (ls : List (List ℕ)) → Sorted ls → Sorted (map (λ l. i ∷ l) ls)
  sorted_map i [] s = tt
  sorted_map i (l ∷ ls) s = (
    λ m mem. let t = Memᴰ.of_map (λ l'. i ∷ l') ls mem in subst (Before (i ∷ l)) t.2 (inr (refl, s.0 t.0 t.1)),
    sorted_map i ls s.1,
  )

  sorted_branches : (i : ℕ) (cs : List N) → ((r : ℕ) (c : N) → slice_get cs r ≡ Some c → Sorted (f c)) → Sorted (branches f i cs)
  sorted_branches i [] each = tt
  sorted_branches i (c ∷ cs) each =
      sorted_append (map (λ l. i ∷ l) (f c)) (branches f (suc i) cs) (sorted_map i (f c) (each 0 c refl)) (sorted_branches (suc i) cs (λ r. each (suc r)))
      (λ l m ml mm.
      let a = Memᴰ.of_map (λ l'. i ∷ l') (f c) ml in
      let b = through (suc i) cs m mm in
      subst (λ x. Before x m) a.2 (subst (Before (i ∷ a.0)) (sym b.3) (inl (omega arith))))

module _ {N : Type 0} (children : N → List N) where
  -- where f gives all lines of descent from each of several names, these are all lines from the names
  branches_listed : (f : N → List (List ℕ)) (roots : List N) → ((r : ℕ) (c : N) → slice_get roots r ≡ Some c → Listing (Follow children c) (f c)) → Listing (FollowEach children roots) (branches f 0 roots)
  branches_listed f roots all = record {
    only = λ line m.
        let t = through f 0 roots line m in
        let e : 0 + t.0 ≡ t.0 = omega arith in
        subst (FollowEach children roots) (sym (t.3 ∙ ap (λ k. k ∷ t.2) e)) (subst (λ o. IsSomeAnd o (λ n. Follow children n t.2)) (sym t.4) ((all t.0 t.1 t.4).only t.2 t.5));
    each = there;
    sorted = sorted_branches f 0 roots (λ r c is. (all r c is).sorted);
  }
    where
      there : (line : List ℕ) → FollowEach children roots line → Memᴰ line (branches f 0 roots)
      there [] g = absurd g
      there (r ∷ line) g = let s = some_and (slice_get roots r) (λ n. Follow children n line) g in among f 0 roots r r s.0 line s.1 (omega arith) ((all r s.0 s.1).each line s.2)

  -- a line that goes on from a name goes on from one of its children
  module _ (n : N) where
    from_child : (line : List ℕ) → FollowEach children (children n) line → Follow children n line
    from_child [] g = absurd g
    from_child (i ∷ line) g =
        let s = some_and (slice_get (children n) i) (λ c. Follow children c line) g in
        (slice_get_within (children n) i s.0 s.1, subst (λ c. Follow children c line) (sym (get_or_from_slice_get (children n) i s.0 n s.1)) s.2)

    to_child : (i : ℕ) (line : List ℕ) → Follow children n (i ∷ line) → FollowEach children (children n) (i ∷ line)
    to_child i line g = subst (λ o. IsSomeAnd o (λ c. Follow children c line)) (sym (slice_get-get_or (children n) i n g.0)) g.1

  module _ {known : N → Bool} {heights : N → ℕ} (law : TreeLaw known heights children) where
    lines_listed : (h : ℕ) (n : N) → known n ≡ true → heights n ≤ h → Listing (Follow children n) (lines children h n)
    lines_listed zero n k le = absurd (omega (arith, law.low n k))
    lines_listed (suc h) n k le = go (branches_listed (lines children h) (children n) (λ r c is.
        let within = slice_get_within (children n) r c is in
        let e = get_or_from_slice_get (children n) r c n is in
        lines_listed h c (subst (λ x. known x ≡ true) e (law.kept n r k within)) (subst (λ x. heights x ≤ h) e (omega (arith, law.falls n r k within)))))
      where
        go : Listing (FollowEach children (children n)) (branches (lines children h) 0 (children n)) → Listing (Follow children n) (lines children (suc h) n)
        go b = record { only = only; each = each; sorted = (λ m mem. first m (b.only m mem), b.sorted) }
          where
            only : (line : List ℕ) → Memᴰ line (lines children (suc h) n) → Follow children n line
            only line (Memᴰ.head e) = subst (Follow children n) (sym e) tt
            only line (Memᴰ.tail m) = from_child n line (b.only line m)

            each : (line : List ℕ) → Follow children n line → Memᴰ line (lines children (suc h) n)
            each [] g = Memᴰ.head refl
            each (i ∷ line) g = Memᴰ.tail (b.each (i ∷ line) (to_child n i line g))

            first : (line : List ℕ) → FollowEach children (children n) line → Before [] line
            first [] g = g
            first (i ∷ line) g = tt

    pub listed : (h : ℕ) (n : N) → known n ≡ true → heights n ≤ h → AllLines children n (lines children h n)
    listed h n k le = all_of (Follow children n) (lines children h n) (lines_listed h n k le)

    pub each_listed : (roots : List N) → All (λ n. known n ≡ true) roots → AllOf (FollowEach children roots) (branches (lines children 64) 0 roots)
    each_listed roots k = all_of (FollowEach children roots) (branches (lines children 64) 0 roots) (branches_listed (lines children 64) roots (λ r c is.
        let k' = subst (λ n. known n ≡ true) (get_or_from_slice_get roots r c c is) (k r c (slice_get_within roots r c is)) in
        lines_listed 64 c k' (law.high c k')))

  -- the paths that the recursion shows are the paths of these lines
  branch_paths : (g : N → List (List N)) (f : N → List (List ℕ)) (path : N → List ℕ → List N) (whole : List ℕ → List N) → ((c : N) → g c ≡ map (path c) (f c))
      → (i : ℕ) (cs : List N) → ((r k : ℕ) (c : N) (l : List ℕ) → slice_get cs r ≡ Some c → k ≡ i + r → path c l ≡ whole (k ∷ l)) → flat_map g cs ≡ map whole (branches f i cs)
  branch_paths g f path whole each i [] at = refl
  branch_paths g f path whole each i (c ∷ cs) at =
      ap₂ ◌++◌ (each c ∙ ap (λ p. map p (f c)) (λ j l. at 0 i c l refl (omega arith) j) ∙ sym (map-map whole (λ l. i ∷ l) (f c))) (branch_paths g f path whole each (suc i) cs (λ r k d l is e. at (suc r) k d l is (omega arith)))
      ∙ sym (map-append whole (map (λ l. i ∷ l) (f c)) (branches f (suc i) cs))

  pub paths_are : (h : ℕ) (n : N) (p : List N) → paths children h p n ≡ map (path_of children p n) (lines children h n)
  paths_are zero n p = refl
  paths_are (suc h) n p =
      ap (λ x. (p ++ n ∷ []) ∷ x) (branch_paths (paths children h (p ++ n ∷ [])) (lines children h) (path_of children (p ++ n ∷ [])) (path_of children p n) (λ c. paths_are h c (p ++ n ∷ [])) 0 (children n)
      (λ r k c l is e.
      let e' : k ≡ r = omega arith in
      append_assoc p (n ∷ []) (along children c l) ∙ ap (λ x. p ++ n ∷ along children x l) (sym (get_or_from_slice_get (children n) k c n (ap (slice_get (children n)) e' ∙ is)))))

  pub each_paths : (h : ℕ) (roots : List N) → flat_map (paths children h []) roots ≡ map (along_each children roots) (branches (lines children h) 0 roots)
  each_paths h roots =
      branch_paths (paths children h []) (lines children h) (path_of children []) (along_each children roots) (λ c. paths_are h c []) 0 roots
      (λ r k c l is e.
      let e' : k ≡ r = omega arith in
      let is' = ap (slice_get roots) e' ∙ is in
      rw is')
