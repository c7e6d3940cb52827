-- What a tree is, and the lines of descent in it. A tree is given by the names that it knows, the height of
-- each and the list of children of each. Nothing here assumes that a name is a number. Assumes nothing.
use Rattle.std.specs.Prelude.{◌≡◌, ℕ, ◌<◌, ◌≤◌, Bool, true, ◌⊎◌, List, [], ◌∷◌, length, slice_index_or}

-- the child at a number, counted from 0; the name itself where it has no such child
abbrev pub child_of : {N : Type 0} → (N → List N) → N → ℕ → N
child_of children n i = slice_index_or (children n) i n

-- the law of a tree: children of a known name are known, heights lie in 1 to 64, and a child's height is below its parent's
pub record TreeLaw {N : Type 0} (known : N → Bool) (heights : N → ℕ) (children : N → List N) : Type 0 where
  pub kept : (n : N) (i : ℕ) → known n ≡ true → i < length (children n) → known (child_of children n i) ≡ true
  pub low : (n : N) → known n ≡ true → 1 ≤ heights n
  pub high : (n : N) → known n ≡ true → heights n ≤ 64
  pub falls : (n : N) (i : ℕ) → known n ≡ true → i < length (children n) → heights (child_of children n i) < heights n

-- A line of descent from a name is a list of child numbers that can be followed from it.
-- A child that stands twice in a list of children has two numbers there, and so makes lines of its own each time.
abbrev pub Follow : {N : Type 0} → (N → List N) → N → List ℕ → Type 0
Follow children n [] = Unit {0}
Follow children n (i ∷ line) = (i < length (children n)) × Follow children (child_of children n i) line

-- the name that a line ends at: the empty line at the name itself
abbrev pub end_of : {N : Type 0} → (N → List N) → N → List ℕ → N
end_of children n [] = n
end_of children n (i ∷ line) = end_of children (child_of children n i) line

-- the names along a line, the start first
abbrev pub along : {N : Type 0} → (N → List N) → N → List ℕ → List N
along children n [] = n ∷ []
along children n (i ∷ line) = n ∷ along children (child_of children n i) line

-- document order: the smaller number at the first difference comes first, and a line before its extensions
abbrev pub Before : List ℕ → List ℕ → Type 0
Before [] [] = ⊥
Before [] (j ∷ m) = Unit {0}
Before (i ∷ l) [] = ⊥
Before (i ∷ l) (j ∷ m) = (i < j) ⊎ ((i ≡ j) × Before l m)

-- a line stands in a list of lines
abbrev pub In : List (List ℕ) → List ℕ → Type 0
In lines line = (k : ℕ) × (k < length lines) × (slice_index_or lines k [] ≡ line)

-- a list of lines in document order, so that no line stands in it twice
abbrev pub Ascending : List (List ℕ) → Type 0
Ascending lines = (i j : ℕ) → i < j → j < length lines → Before (slice_index_or lines i []) (slice_index_or lines j [])

-- all lines that there are, each once
pub record AllOf (Line : List ℕ → Type 0) (lines : List (List ℕ)) : Type 0 where
  pub only : (line : List ℕ) → In lines line → Line line
  pub each : (line : List ℕ) → Line line → In lines line
  pub once : Ascending lines

-- all lines of descent from a name
abbrev pub AllLines : {N : Type 0} → (N → List N) → N → List (List ℕ) → Type 0
AllLines children n lines = AllOf (Follow children n) lines

-- a number is the number of lines of descent from a name
abbrev pub Numbers : {N : Type 0} → (N → List N) → N → ℕ → Type 0
Numbers children n k = (lines : List (List ℕ)) × AllLines children n lines × (k ≡ length lines)
