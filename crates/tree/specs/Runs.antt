-- Inner: how the recursion of the walk is put in words, over paths in place of lines. No promise of the crate
-- rests on this page; the walk law is in Walks. Assumes nothing.
use Rattle.std.specs.Prelude.{ℕ, zero, suc, Bool, cond, List, [], ◌∷◌, ◌++◌, Some, None, Option}
use Rattle.std.specs.List.{flat_map}
use Rattle.tree.specs.declared.walks.Outcome.{Outcome}
use Rattle.tree.specs.declared.walks.Outcome.TheVariants.{Finished, Stopped}

-- the paths of all lines from a name, in document order, behind a path that leads to it, at most so many deep
abbrev pub paths : {N : Type 0} → (N → List N) → ℕ → List N → N → List (List N)
paths children zero p n = []
paths children (suc h) p n = (p ++ n ∷ []) ∷ flat_map (paths children h (p ++ n ∷ [])) (children n)

-- showing paths in turn up to the first no: what the visitor holds then, and the refused path if there is one
abbrev pub run : {S N : Type 0} → (S → List N → S) → (S → List N → Bool) → S → List (List N) → S × Option (List N)
run next accepts s [] = (s, None)
run next accepts s (p ∷ ps) = cond (accepts s p) (run next accepts (next s p) ps) (next s p, Some p)

-- the refused path, if there is one, where a walk ended so and leaves a path
abbrev pub refused_path : {N : Type 0} → Outcome → List N → Option (List N)
refused_path Finished left = None
refused_path Stopped left = Some left
