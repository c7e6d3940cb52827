-- How entries nest, by how deep each is: which are whose children, and how high each is. Assumes nothing.
use Rattle.std.specs.Prelude.{◌≡◌, ℕ, suc, ◌+◌, ◌-◌, ◌<◌, ◌≤◌, max, cond, List, [], ◌∷◌, length, drop, ◌==◌, nat_lt, slice_index, slice_index_or}
use Rattle.outline.specs.declared.entries.Entry.{Entry}

-- the first entry is outermost, and each later one at most one level deeper than the one before it
abbrev pub Outermost : List ℕ → Type 0
Outermost depths = slice_index depths 0 ≡ 0

abbrev pub Stepwise : List ℕ → Type 0
Stepwise depths = (i : ℕ) → slice_index depths (i + 1) ≤ slice_index depths i + 1

-- no entry is below level 64
abbrev pub Within : List ℕ → Type 0
Within depths = (i : ℕ) → slice_index depths i < 64

-- how deep the next entry may be: the first outermost, each other one level below the entry before
abbrev pub most_after : List ℕ → ℕ
most_after depths = cond (length depths == 0) 0 (slice_index depths (length depths - 1) + 1)

-- of entries from a number on, given by how deep each is: those at a depth, up to the first that is less deep
abbrev pub kids : ℕ → ℕ → List ℕ → List Entry
kids depth number [] = []
kids depth number (d ∷ ds) = cond (nat_lt d depth) [] (cond (d == depth) (record { number = number } ∷ kids depth (suc number) ds) (kids depth (suc number) ds))

-- the children of an entry: those one level deeper among the entries after it
abbrev pub children_of : List ℕ → ℕ → List Entry
children_of depths i = kids (slice_index depths i + 1) (i + 1) (drop (i + 1) depths)

-- the entries of the outermost level
abbrev pub roots_of : List ℕ → List Entry
roots_of depths = kids 0 0 depths

-- the height of the highest of some entries; 0 of none, and of one past the end
abbrev pub highest : List ℕ → List Entry → ℕ
highest heights [] = 0
highest heights (e ∷ es) = max (slice_index heights e.number) (highest heights es)

-- each entry has its children
abbrev pub Parented : List ℕ → List (List Entry) → Type 0
Parented depths lists = (i : ℕ) → i < length lists → slice_index_or lists i [] ≡ children_of depths i

-- each height is one more than that of the highest child, so 1 for a leaf
abbrev pub Measured : List ℕ → List ℕ → Type 0
Measured depths heights = (i : ℕ) → i < length heights → slice_index heights i ≡ 1 + highest heights (children_of depths i)

-- the levels above an entry and those from it down are at most 64 together
abbrev pub Shallow : List ℕ → List ℕ → Type 0
Shallow depths heights = (i : ℕ) → i < length heights → slice_index depths i + slice_index heights i ≤ 64
