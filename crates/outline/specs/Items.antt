-- What is held of the entries of a draft or an outline, each part as a list by number. Assumes nothing.
use Rattle.std.specs.Prelude.{ℕ, List, map, string_bytes, vec_items, Vec}
use Rattle.std.specs.declared.alloc.Global.{Global}
use Rattle.outline.specs.declared.entries.Entry.{Entry}
use Rattle.outline.specs.declared.items.Branch.{Branch}
use Rattle.outline.specs.declared.items.Item.{Item}

-- how deep each is, and its text, by its bytes
abbrev pub depths_of : List Item → List ℕ
depths_of items = map (λ i. i.depth) items

abbrev pub texts_of : List Item → List (List ℕ)
texts_of items = map (λ i. string_bytes i.text) items

-- of the entries in an outline: themselves, how deep and how high each is, and its children
abbrev pub items_of : List Branch → List Item
items_of branches = map (λ b. b.item) branches

abbrev pub branch_depths : List Branch → List ℕ
branch_depths branches = depths_of (items_of branches)

abbrev pub heights_of : List Branch → List ℕ
heights_of branches = map (λ b. b.height) branches

abbrev pub children_lists : List Branch → List (List Entry)
children_lists branches = map (λ b. vec_items b.children) branches

-- some lists of entries, each by its items
abbrev pub lists_of : List (Vec Entry Global) → List (List Entry)
lists_of lists = map vec_items lists
