-- From a run over the paths of all lines to the walk law. Assumes nothing.
use Rattle.std.proofs.Common.{◌≡◌, ℕ, zero, suc, ◌<◌, ◌≤◌, Bool, true, false, cond, All, List, [], ◌∷◌, map, length, get_or, take, Some, None, Option, sym, refl, ap, ◌∙◌, subst, ⊎_elim, arith}
use Rattle.std.proofs.lemmas.Bool.{cases_lt, true≢false}
use Rattle.std.specs.List.{flat_map}
use Rattle.tree.specs.Forests.{FollowEach, along_each}
use Rattle.tree.specs.Lines.{Before, In, Ascending, AllLines, AllOf, Follow, TreeLaw}
use Rattle.tree.specs.Runs.{paths, refused_path, run}
use Rattle.tree.specs.Walks.{Accepted, WalkLaw, WalkLawOf, after, path_of}
use Rattle.tree.specs.declared.walks.Outcome.{Outcome}
use Rattle.tree.specs.declared.walks.Outcome.TheVariants.{Finished, Stopped}
use Rattle.tree.proofs.Listed.{branches, each_listed, each_paths, lines, listed, paths_are}
use Rattle.tree.proofs.Order.{stands_before, stands_once}

module _ {S N : Type 0} (next : S → List N → S) (accepts : S → List N → Bool) (f : List ℕ → List N) where
  -- the lines of a list that a run over their paths shows
  abbrev shown : S → List (List ℕ) → List (List ℕ)
  shown s [] = []
  shown s (l ∷ ls) = l ∷ cond (accepts s (f l)) (shown (next s (f l)) ls) []

  -- the answer at the k-th of some lines shown
  abbrev said : S → List (List ℕ) → ℕ → Bool
  said s ls k = accepts (after next s (map f (take k ls))) (f (get_or ls k []))

  -- They are the first of the list; all got a yes but perhaps the last; the run's end tells which.
  record Part (s : S) (ls part : List (List ℕ)) (end : S × Option (List N)) : Type 0 where
    holds : end.0 ≡ after next s (map f part)
    short : length part ≤ length ls
    same : (k : ℕ) → k < length part → get_or part k [] ≡ get_or ls k []
    went : (k : ℕ) → suc k < length part → said s part k ≡ true
    whole : end.1 ≡ None → (length part ≡ length ls) × ((k : ℕ) → k < length part → said s part k ≡ true)
    halted : (q : List N) → end.1 ≡ Some q → (k : ℕ) × (suc k ≡ length part) × (said s part k ≡ false) × (q ≡ f (get_or part k []))

  part_of : (s : S) (ls : List (List ℕ)) → Part s ls (shown s ls) (run next accepts s (map f ls))
  part_of s [] = record { holds = refl; short = omega arith; same = λ k lt. refl; went = λ k lt. absurd (omega arith); whole = λ _. (refl, λ k lt. absurd (omega arith)); halted = λ q e. cc }
  part_of s (l ∷ ls) = go (accepts s (f l)) refl (part_of (next s (f l)) ls)
    where
      go : (b : Bool) → accepts s (f l) ≡ b → Part (next s (f l)) ls (shown (next s (f l)) ls) (run next accepts (next s (f l)) (map f ls))
          → Part s (l ∷ ls) (l ∷ cond b (shown (next s (f l)) ls) []) (cond b (run next accepts (next s (f l)) (map f ls)) (next s (f l), Some (f l)))
      go true yes' p = record {
        holds = p.holds;
        short = omega (arith, p.short);
        same = elim [ zero ↦ λ lt. refl | suc k ↦ λ lt. p.same k (omega arith) ];
        went = elim [ zero ↦ λ lt. yes' | suc k ↦ λ lt. p.went k (omega arith) ];
        whole = λ e. let w = p.whole e in (ap suc w.0, elim [ zero ↦ λ lt. yes' | suc k ↦ λ lt. w.1 k (omega arith) ]);
        halted = λ q e. let r = p.halted q e in (suc r.0, ap suc r.1, r.2, r.3);
      }
      go false no' p = record {
        holds = refl;
        short = omega arith;
        same = elim [ zero ↦ λ lt. refl | suc k ↦ λ lt. absurd (omega arith) ];
        went = λ k lt. absurd (omega arith);
        whole = λ e. cc;
        halted = λ q e. (0, refl, no', cc);
      }

module _ {S N : Type 0} (Line : List ℕ → Type 0) (f : List ℕ → List N) (next : S → List N → S) (accepts : S → List N → Bool) (s : S)
    (ls : List (List ℕ)) (all_lines : AllOf Line ls) (part : List (List ℕ)) (end : S × Option (List N)) (p : Part next accepts f s ls part end) where
  abbrev Yes : List ℕ → Type 0
  Yes line = Accepted f next accepts s part line

  in_order : Ascending part
  in_order i j lt within = subst (λ x. Before x (get_or part j [])) (sym (p.same i (omega arith))) (subst (Before (get_or ls i [])) (sym (p.same j within)) (all_lines.once i j lt (omega (arith, p.short))))

  followed : (k : ℕ) → k < length part → Line (get_or part k [])
  followed k lt = all_lines.only (get_or part k []) (k, omega (arith, p.short), sym (p.same k lt))

  -- a line that got a no was not accepted anywhere
  never : (k : ℕ) → k < length part → said next accepts f s part k ≡ false → Yes (get_or part k []) → ⊥
  never k lt no' (j, ltj, is, yes') =
      let same : j ≡ k = stands_once part in_order j k ltj lt is in
      true≢false (sym yes' ∙ ap (λ x. accepts (after next s (map f (take x part))) (f (get_or part k []))) same ∙ no')

  accepted_at : (k : ℕ) (line : List ℕ) → k < length part → get_or part k [] ≡ line → said next accepts f s part k ≡ true → Yes line
  accepted_at k line lt is yes' = (k, lt, is, ap (λ x. accepts (after next s (map f (take k part))) (f x)) (sym is) ∙ yes')

  only_earned : (line : List ℕ) → In part line → Line line × ((m : List ℕ) → Line m → Before m line → Yes m)
  only_earned line (k, lt, is) = (
    subst Line is (followed k lt),
    λ m fm b.
        let r = all_lines.each m fm in
        let sooner = stands_before ls all_lines.once r.0 k r.1 (omega (arith, p.short)) (subst (λ x. Before x (get_or ls k [])) (sym r.2) (subst (Before m) (sym is ∙ p.same k lt) b)) in
        accepted_at r.0 m (omega arith) (p.same r.0 (omega arith) ∙ r.2) (p.went r.0 (omega arith)),
  )

  past_end : (o : Option (List N)) → end.1 ≡ o → (k : ℕ) → length part ≤ k → k < length ls → (line : List ℕ) → get_or ls k [] ≡ line
      → ((m : List ℕ) → Line m → Before m line → Yes m) → ⊥
  past_end None e k past lt line is earned = omega (arith, (p.whole e).0)
  past_end (Some q) e k past lt line is earned =
      let r = p.halted q e in
      let within : r.0 < length part = omega (arith, r.1) in
      let b : Before (get_or part r.0 []) line = subst (λ x. Before x line) (sym (p.same r.0 within)) (subst (Before (get_or ls r.0 [])) is (all_lines.once r.0 k (omega arith) lt)) in
      never r.0 within r.2 (earned (get_or part r.0 []) (followed r.0 within) b)

  all_earned : (line : List ℕ) → Line line → ((m : List ℕ) → Line m → Before m line → Yes m) → In part line
  all_earned line fl earned =
      let r = all_lines.each line fl in
      ⊎_elim (λ lt. (r.0, lt, p.same r.0 lt ∙ r.2)) (λ past. absurd (past_end end.1 refl r.0 past r.1 line r.2 earned)) (cases_lt r.0 (length part))

  all_shown : end.1 ≡ None → (line : List ℕ) → Line line → In part line
  all_shown e line fl = let r = all_lines.each line fl in let w = (p.whole e).0 in (r.0, omega arith, p.same r.0 (omega arith) ∙ r.2)

  one_no : (q : List N) → end.1 ≡ Some q → (line : List ℕ) × In part line × (Yes line → ⊥) × (q ≡ f line)
  one_no q e =
      let r = p.halted q e in
      let within : r.0 < length part = omega (arith, r.1) in
      (get_or part r.0 [], (r.0, within, refl), never r.0 within r.2, r.3)

  law : (outcome : Outcome) (initial left : List N) → end.1 ≡ refused_path outcome left → (outcome ≡ Finished → left ≡ initial) → WalkLawOf Line f next accepts initial s outcome left end.0 part
  law outcome initial left ends back = record {
    only = only_earned;
    all = all_earned;
    order = in_order;
    holds = p.holds;
    finished = λ is. (λ line (k, lt, at). accepted_at k line lt at ((p.whole (ends ∙ ap (λ x. refused_path x left) is)).1 k lt), back is);
    whole = λ is. all_shown (ends ∙ ap (λ x. refused_path x left) is);
    stopped = λ is. one_no left (ends ∙ ap (λ x. refused_path x left) is);
  }

-- the walk law of a walk that ended as a run over the paths of all lines did
law_of : {S N : Type 0} (Line : List ℕ → Type 0) (f : List ℕ → List N) (next : S → List N → S) (accepts : S → List N → Bool) (initial left : List N) (s s' : S)
    (ls : List (List ℕ)) → AllOf Line ls → (outcome : Outcome) → run next accepts s (map f ls) ≡ (s', refused_path outcome left) → (outcome ≡ Finished → left ≡ initial)
    → (part : List (List ℕ)) × WalkLawOf Line f next accepts initial s outcome left s' part
law_of Line f next accepts initial left s s' ls all_lines outcome e back =
    let part = shown next accepts f s ls in
    let p = subst (Part next accepts f s ls part) e (part_of next accepts f s ls) in
    (part, law Line f next accepts s ls all_lines part _ p outcome initial left refl back)

-- the same where a Boolean tells whether the run got no no
module _ {S N : Type 0} (Line : List ℕ → Type 0) (f : List ℕ → List N) (next : S → List N → S) (accepts : S → List N → Bool) (initial left : List N) (s s' : S)
    (ls : List (List ℕ)) (all_lines : AllOf Line ls) where
  pub walk_law_of : (r : Bool) → run next accepts s (map f ls) ≡ (s', cond r None (Some left)) → (r ≡ true → left ≡ initial)
      → (part : List (List ℕ)) × WalkLawOf Line f next accepts initial s (cond r Finished Stopped) left s' part
  walk_law_of true e back = law_of Line f next accepts initial left s s' ls all_lines Finished e (λ _. back refl)
  walk_law_of false e back = law_of Line f next accepts initial left s s' ls all_lines Stopped e (λ is. cc)

-- and over the lines of descent from one name
module _ {S N : Type 0} (children : N → List N) (next : S → List N → S) (accepts : S → List N → Bool) (start : N) (initial left : List N) (s s' : S)
    (ls : List (List ℕ)) (all_lines : AllLines children start ls) where
  pub walk_law : (r : Bool) → run next accepts s (map (path_of children initial start) ls) ≡ (s', cond r None (Some left)) → (r ≡ true → left ≡ initial)
      → (part : List (List ℕ)) × WalkLaw children next accepts start initial s (cond r Finished Stopped) left s' part
  walk_law r e back = walk_law_of (Follow children start) (path_of children initial start) next accepts initial left s s' ls all_lines r e back

-- of a walk over the lines of descent from a start, and over the lines from several names
module _ {S N : Type 0} {known : N → Bool} {heights : N → ℕ} {children : N → List N} (law : TreeLaw known heights children) (next : S → List N → S) (accepts : S → List N → Bool) (s s' : S) (outcome : Outcome) (left : List N) where
  pub walked : (start : N) (initial : List N) → known start ≡ true → run next accepts s (paths children 64 initial start) ≡ (s', refused_path outcome left) → (outcome ≡ Finished → left ≡ initial)
      → (shown : List (List ℕ)) × WalkLaw children next accepts start initial s outcome left s' shown
  walked start initial k ran back =
      law_of (Follow children start) (path_of children initial start) next accepts initial left s s' (lines children 64 start) (listed children law 64 start k (law.high start k)) outcome
      (ap (run next accepts s) (sym (paths_are children 64 start initial)) ∙ ran) back

  pub walked_each : (roots : List N) → All (λ n. known n ≡ true) roots → run next accepts s (flat_map (paths children 64 []) roots) ≡ (s', refused_path outcome left) → (outcome ≡ Finished → left ≡ [])
      → (shown : List (List ℕ)) × WalkLawOf (FollowEach children roots) (along_each children roots) next accepts [] s outcome left s' shown
  walked_each roots k ran back =
      law_of (FollowEach children roots) (along_each children roots) next accepts [] left s s' (branches (lines children 64) 0 roots) (each_listed children law roots k) outcome
      (ap (run next accepts s) (sym (each_paths children 64 roots)) ∙ ran) back
