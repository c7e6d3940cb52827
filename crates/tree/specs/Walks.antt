-- The walk law: which lines of descent a walk shows, in which order, and what it leaves. Stated over lines of
-- descent and document order alone; how the code goes about it appears nowhere here. Assumes nothing.
use Rattle.std.specs.Prelude.{◌≡◌, ℕ, ◌+◌, ◌<◌, Bool, true, cond, fold, List, [], ◌∷◌, ◌++◌, map, length, take, Some, None, Ok, Err, Option, Result, nat_le, slice_index_or}
use Rattle.tree.specs.Answers.{first_failing}
use Rattle.tree.specs.Lines.{Follow, along, Before, In, Ascending}
use Rattle.tree.specs.Paths.{names_of, capacity_of}
use Rattle.tree.specs.declared.stacks.PathStack.{PathStack}
use Rattle.tree.specs.declared.walks.Outcome.{Outcome}
use Rattle.tree.specs.declared.walks.Outcome.TheVariants.{Finished, Stopped}
use Rattle.tree.specs.declared.walks.WalkFault.{WalkFault}
use Rattle.tree.specs.declared.walks.WalkFault.TheVariants.{Tree, Path}

-- what a visitor holds after it was shown paths in turn
abbrev pub after : {S N : Type 0} → (S → List N → S) → S → List (List N) → S
after next s ps = fold next s ps

-- the path that shows a line: the initial path followed by the names along the line
abbrev pub path_of : {N : Type 0} → (N → List N) → List N → N → List ℕ → List N
path_of children initial start line = initial ++ along children start line

-- A line was shown and got a yes: it stands on the list of lines shown, and the visitor accepted its path
-- while it held what the lines shown before had made of it.
abbrev pub Accepted : {S N : Type 0} → (List ℕ → List N) → (S → List N → S) → (S → List N → Bool) → S → List (List ℕ) → List ℕ → Type 0
Accepted path next accepts s shown line =
    (k : ℕ) × (k < length shown) × (slice_index_or shown k [] ≡ line)
    × (accepts (after next s (map path (take k shown))) (path line) ≡ true)

-- The walk law, over the list of lines shown: given which lines there are, the path that shows each, the visitor's rule,
-- the path and what the visitor holds before the walk, how it ended, and the path and what the visitor holds then.
pub record WalkLawOf {S N : Type 0} (Line : List ℕ → Type 0) (path : List ℕ → List N) (next : S → List N → S) (accepts : S → List N → Bool) (initial : List N) (before : S)
    (outcome : Outcome) (left : List N) (held : S) (shown : List (List ℕ)) : Type 0 where
  -- a line is shown only if every line before it in document order was shown and accepted,
  pub only : (line : List ℕ) → In shown line → Line line × ((m : List ℕ) → Line m → Before m line → Accepted path next accepts before shown m)
  -- and is shown if that is so,
  pub all : (line : List ℕ) → Line line → ((m : List ℕ) → Line m → Before m line → Accepted path next accepts before shown m) → In shown line
  -- then once, and in document order.
  pub order : Ascending shown
  -- The visitor ends holding what its rule makes, from what it first held, of the lines shown in turn.
  pub holds : held ≡ after next before (map path shown)
  -- A finished walk got no no, leaves the initial path, and has shown every line.
  pub finished : outcome ≡ Finished → ((line : List ℕ) → In shown line → Accepted path next accepts before shown line) × (left ≡ initial)
  pub whole : outcome ≡ Finished → (line : List ℕ) → Line line → In shown line
  -- A stopped walk got a no, and leaves the path of the line that got it.
  pub stopped : outcome ≡ Stopped → (line : List ℕ) × In shown line × (Accepted path next accepts before shown line → ⊥) × (left ≡ path line)

-- over the lines of descent from a start, each shown by the initial path followed by the names along it
abbrev pub WalkLaw : {S N : Type 0} → (N → List N) → (S → List N → S) → (S → List N → Bool) → N → List N → S → Outcome → List N → S → List (List ℕ) → Type 0
WalkLaw children next accepts start initial before outcome left held shown = WalkLawOf (Follow children start) (path_of children initial start) next accepts initial before outcome left held shown

-- the fault at the first of some names that the tree does not know, or none
abbrev pub first_missing : {N F : Type 0} → (N → Bool) → (N → F) → List N → Option F
first_missing known missing names = first_failing known missing names

-- The refusal that is due: fault 2 at the start, then at the initial path from its beginning; then fault 9 at
-- the start where the path's length and the start's height together are over the path's capacity.
abbrev pub room : {N F : Type 0} → (N → ℕ) → N → ℕ → ℕ → Option F → Option (WalkFault N F)
room heights start long capacity (Some f) = Some (Tree f)
room heights start long capacity None = cond (nat_le (long + heights start) capacity) None (Some (Path (record { place = start })))

abbrev pub refusal : {N F : Type 0} → (N → Bool) → (N → ℕ) → (N → F) → N → PathStack N → Option (WalkFault N F)
refusal known heights missing start path = room heights start (length (names_of path)) (capacity_of path) (first_missing known missing (start ∷ names_of path))

-- A walk that is due a refusal is refused with it, and the path, its memory and the visitor are what they were.
-- Any other meets the walk law.
abbrev pub Walked : {S N F : Type 0} → (N → Bool) → (N → ℕ) → (N → List N) → (N → F) → (S → List N → S) → (S → List N → Bool) → N
    → PathStack N → S → Result Outcome (WalkFault N F) → PathStack N → S → Type 0
Walked known heights children missing next accepts start path s (Ok outcome) path' s' =
    (refusal known heights missing start path ≡ None)
    × ((shown : List (List ℕ)) × WalkLaw children next accepts start (names_of path) s outcome (names_of path') s' shown)
Walked known heights children missing next accepts start path s (Err f) path' s' =
    (refusal known heights missing start path ≡ Some f) × (path' ≡ path) × (s' ≡ s)
