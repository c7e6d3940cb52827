-- The run of the walk over paths, one part after another. Assumes nothing.
use Rattle.std.proofs.Common.{◌≡◌, ℕ, ◌+◌, ◌<◌, ◌≤◌, Bool, true, false, cond, List, [], ◌∷◌, ◌++◌, length, get_or, drop, Some, None, Option, sym, refl, ap, ◌∙◌}
use Rattle.std.proofs.lemmas.List.{at_drop_all, at_drop_more}
use Rattle.std.specs.List.{flat_map}
use Rattle.tree.specs.Lines.{child_of}
use Rattle.tree.specs.Runs.{run, paths}

module _ {S N : Type 0} (next : S → List N → S) (accepts : S → List N → Bool) where
  -- a run goes on with more paths where it got no no, and stays where it got one
  abbrev pub go_on : S × Option (List N) → List (List N) → S × Option (List N)
  go_on (s, None) qs = run next accepts s qs
  go_on (s, Some q) qs = (s, Some q)

  pub run-append : (s : S) (ps qs : List (List N)) → run next accepts s (ps ++ qs) ≡ go_on (run next accepts s ps) qs
  run-append s [] qs = refl
  run-append s (p ∷ ps) qs = go (accepts s p) (run-append (next s p) ps qs)
    where
      go : (b : Bool) → run next accepts (next s p) (ps ++ qs) ≡ go_on (run next accepts (next s p) ps) qs
          → cond b (run next accepts (next s p) (ps ++ qs)) (next s p, Some p) ≡ go_on (cond b (run next accepts (next s p) ps) (next s p, Some p)) qs
      go true e = e
      go false e = refl

  -- The name c at i of some names was shown behind the path q, which led to end; the next are shown behind q'.
  pub each_step : (children : N → List N) (names : List N) (q q' : List N) (h i : ℕ) (d c : N) (s : S) {end : S × Option (List N)} → i < length names → c ≡ get_or names i d → q' ≡ q → run next accepts s (paths children h q c) ≡ end
      → run next accepts s (flat_map (paths children h q) (drop i names)) ≡ go_on end (flat_map (paths children h q') (drop (i + 1) names))
  each_step children names q q' h i d c s {end} within is same ran =
      ap (run next accepts s) (at_drop_more (flat_map (paths children h q)) names i d within ∙ ap (λ x. paths children h q x ++ flat_map (paths children h q) (drop (i + 1) names)) (sym is))
      ∙ run-append s (paths children h q c) (flat_map (paths children h q) (drop (i + 1) names))
      ∙ ap (λ x. go_on x (flat_map (paths children h q) (drop (i + 1) names))) ran
      ∙ ap (λ x. go_on end (flat_map (paths children h x) (drop (i + 1) names))) (sym same)

  -- a run whose first part got no no goes on with the second,
  pub run_on : (s : S) (ps qs : List (List N)) (s' : S) → run next accepts s ps ≡ (s', None) → run next accepts s (ps ++ qs) ≡ run next accepts s' qs
  run_on s ps qs s' e = run-append s ps qs ∙ ap (λ x. go_on x qs) e

  -- and one that got a no stays there
  pub run_stops : (s : S) (ps qs : List (List N)) (s' : S) (q : List N) → run next accepts s ps ≡ (s', Some q) → run next accepts s (ps ++ qs) ≡ (s', Some q)
  run_stops s ps qs s' q e = run-append s ps qs ∙ ap (λ x. go_on x qs) e

  -- then its children, or any names, in turn behind a path q
  module _ (children : N → List N) (names : List N) (d : N) (q : List N) (h i : ℕ) (s₀ s : S)
      (so_far : run next accepts s₀ (flat_map (paths children h q) names) ≡ run next accepts s (flat_map (paths children h q) (drop i names))) where
    pub each_done : length names ≤ i → run next accepts s₀ (flat_map (paths children h q) names) ≡ (s, None)
    each_done past = so_far ∙ ap (run next accepts s) (at_drop_all (flat_map (paths children h q)) names i past)

    -- the name c at i, which was shown behind the path p, with the answer r and the path p' left
    module _ (c : N) (within : i < length names) (is : c ≡ get_or names i d) (p p' : List N) (at : p ≡ q) (s' : S) (r : Bool)
        (ran : run next accepts s (paths children h p c) ≡ (s', cond r None (Some p'))) where
      first : flat_map (paths children h q) (drop i names) ≡ paths children h p c ++ flat_map (paths children h q) (drop (i + 1) names)
      first =
          at_drop_more (flat_map (paths children h q)) names i d within
          ∙ ap (λ x. paths children h q x ++ flat_map (paths children h q) (drop (i + 1) names)) (sym is)
          ∙ ap (λ x. paths children h x c ++ flat_map (paths children h q) (drop (i + 1) names)) (sym at)

      answered : (b : Bool) → r ≡ b → run next accepts s (paths children h p c) ≡ (s', cond b None (Some p'))
      answered b said = ran ∙ ap (λ v. (s', cond v None (Some p'))) said

      pub each_on : r ≡ true → run next accepts s₀ (flat_map (paths children h q) names) ≡ run next accepts s' (flat_map (paths children h q) (drop (i + 1) names))
      each_on said = so_far ∙ ap (run next accepts s) first ∙ run_on s (paths children h p c) _ s' (answered true said)

      pub each_stops : r ≡ false → run next accepts s₀ (flat_map (paths children h q) names) ≡ (s', Some p')
      each_stops said = so_far ∙ ap (run next accepts s) first ∙ run_stops s (paths children h p c) _ s' p' (answered false said)

  -- then the children of a name in turn, behind the path q that ends at it
  module _ (children : N → List N) (n : N) (q : List N) (h i : ℕ) (s₀ s : S)
      (so_far : run next accepts s₀ (flat_map (paths children h q) (children n)) ≡ run next accepts s (flat_map (paths children h q) (drop i (children n)))) where
    pub branches_done : length (children n) ≤ i → run next accepts s₀ (flat_map (paths children h q) (children n)) ≡ (s, None)
    branches_done past = each_done children (children n) n q h i s₀ s so_far past

    -- the child c at i, which was shown behind the path p, with the answer r and the path p' left
    module _ (c : N) (within : i < length (children n)) (is : c ≡ child_of children n i) (p p' : List N) (at : p ≡ q) (s' : S) (r : Bool)
        (ran : run next accepts s (paths children h p c) ≡ (s', cond r None (Some p'))) where
      pub branch_on : r ≡ true → run next accepts s₀ (flat_map (paths children h q) (children n)) ≡ run next accepts s' (flat_map (paths children h q) (drop (i + 1) (children n)))
      branch_on said = each_on children (children n) n q h i s₀ s so_far c within is p p' at s' r ran said

      pub branch_stops : r ≡ false → run next accepts s₀ (flat_map (paths children h q) (children n)) ≡ (s', Some p')
      branch_stops said = each_stops children (children n) n q h i s₀ s so_far c within is p p' at s' r ran said
