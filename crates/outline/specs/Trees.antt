-- An outline as a tree: the entries that it has, how high each is and which children each has. Assumes nothing.
use Rattle.std.specs.Prelude.{◌≡◌, ℕ, Bool, List, [], vec_items, vec_len, string_bytes, nat_lt, slice_index, slice_index_or}
use Rattle.outline.specs.Items.{branch_depths, heights_of, items_of, texts_of}
use Rattle.outline.specs.Nesting.{children_of}
use Rattle.outline.specs.declared.entries.Entry.{Entry}
use Rattle.outline.specs.declared.entries.NoEntry.{NoEntry}
use Rattle.outline.specs.declared.items.Branch.{Branch}
use Rattle.outline.specs.declared.outlines.Outline.{Outline}

-- how deep each entry is
abbrev pub depths_in : Outline → List ℕ
depths_in o = branch_depths (vec_items o.branches)

-- the text of an entry, by its bytes
abbrev pub text_in : Outline → Entry → List ℕ
text_in o e = slice_index_or (texts_of (items_of (vec_items o.branches))) e.number []

-- an entry is known if its number is below the number of entries
abbrev pub known_in : Outline → Entry → Bool
known_in o e = nat_lt e.number (vec_len o.branches)

-- its height and its children
abbrev pub height_in : Outline → Entry → ℕ
height_in o e = slice_index (heights_of (vec_items o.branches)) e.number

abbrev pub children_in : Outline → Entry → List Entry
children_in o e = children_of (depths_in o) e.number

-- the branch of an entry tells its text, its height and its children
pub record IsBranch (o : Outline) (e : Entry) (b : Branch) : Type 0 where
  pub text : string_bytes b.item.text ≡ text_in o e
  pub height : b.height ≡ height_in o e
  pub children : vec_items b.children ≡ children_in o e

-- the fault at an entry that is not known
abbrev pub missing_in : Outline → Entry → NoEntry
missing_in o e = record { entry = e }
