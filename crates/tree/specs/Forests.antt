-- The walk over several names in turn, each from an empty path, as over the statements of a script. Its law is the walk
-- law over the lines from these names. Assumes nothing.
use Rattle.std.specs.Prelude.{◌≡◌, ℕ, Bool, List, [], ◌∷◌, Some, None, Ok, Err, Option, Result, IsSomeAnd, nat_le, slice_get}
use Rattle.std.specs.Option.{option_map_or}
use Rattle.tree.specs.Paths.{names_of, capacity_of}
use Rattle.tree.specs.declared.stacks.PathStack.{PathStack}
use Rattle.tree.specs.Answers.{first_failing}
use Rattle.tree.specs.Lines.{Follow, along}
use Rattle.tree.specs.Walks.{WalkLawOf, first_missing}
use Rattle.tree.specs.declared.walks.Outcome.{Outcome}
use Rattle.tree.specs.declared.walks.WalkFault.{WalkFault}
use Rattle.tree.specs.declared.walks.WalkFault.TheVariants.{Tree, Path}

-- Several names in turn, as the statements of a script's body: a line begins with the number of one of them, counted
-- from 0, and goes on with a line of descent from it. So in document order all lines of one stand before those of the next.
abbrev pub FollowEach : {N : Type 0} → (N → List N) → List N → List ℕ → Type 0
FollowEach children roots [] = ⊥
FollowEach children roots (r ∷ line) = IsSomeAnd (slice_get roots r) (λ n. Follow children n line)

-- the names along such a line, the one that it goes on from first
abbrev pub along_each : {N : Type 0} → (N → List N) → List N → List ℕ → List N
along_each children roots [] = []
along_each children roots (r ∷ line) = option_map_or (λ n. along children n line) (slice_get roots r) []

-- fault 9 at the first of some names that is higher than the path is long
abbrev pub first_high : {N F : Type 0} → (N → ℕ) → ℕ → List N → Option (WalkFault N F)
first_high heights capacity names = first_failing (λ n. nat_le (heights n) capacity) (λ n. Path (record { place = n })) names

abbrev pub each_room : {N F : Type 0} → (N → ℕ) → List N → ℕ → Option F → Option (WalkFault N F)
each_room heights roots capacity (Some f) = Some (Tree f)
each_room heights roots capacity None = first_high heights capacity roots

-- The refusal that is due: fault 2 at the first name that the tree does not know, then fault 9 at the first that is too high.
abbrev pub refusal_each : {N F : Type 0} → (N → Bool) → (N → ℕ) → (N → F) → List N → ℕ → Option (WalkFault N F)
refusal_each known heights missing roots capacity = each_room heights roots capacity (first_missing known missing roots)

-- A walk that is due a refusal is refused with it, and the path, its memory and the visitor are what they were.
-- Any other meets the walk law, from an empty path.
abbrev pub WalkedEach : {S N F : Type 0} → (N → Bool) → (N → ℕ) → (N → List N) → (N → F) → (S → List N → S) → (S → List N → Bool) → List N
    → PathStack N → S → Result Outcome (WalkFault N F) → PathStack N → S → Type 0
WalkedEach known heights children missing next accepts roots path s (Ok outcome) path' s' =
    (refusal_each known heights missing roots (capacity_of path) ≡ None)
    × ((shown : List (List ℕ)) × WalkLawOf (FollowEach children roots) (along_each children roots) next accepts [] s outcome (names_of path') s' shown)
WalkedEach known heights children missing next accepts roots path s (Err f) path' s' =
    (refusal_each known heights missing roots (capacity_of path) ≡ Some f) × (path' ≡ path) × (s' ≡ s)
