-- What a tally holds after a walk. Assumes nothing.
use Rattle.std.proofs.Common.{◌≡◌, ℕ, ◌+◌, ◌≤◌, min, true, List, [], ◌∷◌, map, length, refl, ap, ◌∙◌, arith}
use Rattle.std.proofs.lemmas.List.{length-map}
use Rattle.tree.specs.Counts.{one_more}
use Rattle.tree.specs.Lines.{Numbers}
use Rattle.tree.specs.Walks.{after, path_of, WalkLaw}
use Rattle.tree.specs.declared.tallies.Tally.{Tally}
use Rattle.tree.specs.declared.walks.Outcome.{Outcome}
use Rattle.tree.specs.declared.walks.Outcome.TheVariants.{Finished, Stopped}

counts : {N : Type 0} (s : Tally) (ps : List (List N)) → s.count ≤ 65535 → (after (λ t p. one_more t) s ps).count ≡ min (s.count + length ps) 65535
counts s [] low = omega arith
counts s (p ∷ ps) low = counts (one_more s) ps (omega arith) ∙ omega arith

module _ {N : Type 0} (children : N → List N) (start : N) (initial left : List N) (s s' : Tally) (none : s.count ≡ 0) (shown : List (List ℕ)) where
  pub tallied : (outcome : Outcome) → WalkLaw children (λ t p. one_more t) (λ t p. true) start initial s outcome left s' shown
      → (left ≡ initial) × ((n : ℕ) × Numbers children start n × (s'.count ≡ min n 65535))
  tallied Finished law = (
    (law.finished refl).1,
    (
      length shown,
      (
        shown,
        record { only = λ line i. (law.only line i).0; each = law.whole refl; once = law.order },
        refl,
      ),
      ap (λ t. t.count) law.holds ∙ counts s (map (path_of children initial start) shown) (omega arith) ∙ omega (arith, length-map shown (path_of children initial start)),
    ),
  )
  tallied Stopped law = let r = law.stopped refl in absurd (r.2 (r.1.0, r.1.1, r.1.2, refl))
