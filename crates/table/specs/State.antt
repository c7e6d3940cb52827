-- What a table's memory means: its nodes, what each holds, and in which order that is walked. Assumes nothing.
use Rattle.std.specs.Prelude.{ℕ, suc, ◌+◌, max, Bool, true, false, cond, not, ◌&&◌, List, [], ◌∷◌, ◌++◌, map, Some, None, Option, ◌==◌, slice_index_or}
use Rattle.std.specs.List.{range_with_len, flat_map}
use Rattle.std.specs.Option.{option_to_list}
use Rattle.node.specs.Parts.{default_arm, kids, references}
use Rattle.node.specs.Parts as parts
use Rattle.node.specs.Positions.{none}
use Rattle.kind.specs.Shapes.{shape_of}
use Rattle.kind.specs.declared.kinds.Kind.TheVariants as kind
use Rattle.kind.specs.declared.kinds.StmtKind.TheVariants as stmt
use Rattle.node.specs.declared.records.Details.{Details}
use Rattle.node.specs.declared.records.Ident.{Ident}
use Rattle.node.specs.declared.records.Link.{Link}
use Rattle.node.specs.declared.records.Node.{Node}
use Rattle.node.specs.declared.records.Parts.{Parts}
use Rattle.node.specs.declared.records.Second.{Second}
use Rattle.node.specs.declared.records.Up.{Up}
use Rattle.node.specs.declared.records.Up.TheVariants as up
use Rattle.kind.specs.declared.shapes.Blocks.{Blocks}
use Rattle.kind.specs.declared.shapes.Blocks.TheVariants as blocks
use Rattle.table.specs.declared.memory.Memory.{Memory}

-- the records and links lent, and how many of each are in use
pub record State : Type 0 where
  pub nodes : List Node
  pub links : List Link
  pub used : ℕ
  pub linked : ℕ

abbrev pub state_of : Memory → State
state_of m = record { nodes = m.nodes.now; links = m.links.now; used = m.used; linked = m.linked }

-- what stands where nothing was written
abbrev pub blank_ident : Ident
blank_ident = record { name = record { start = 0; len = 0 }; pos = none }

abbrev pub blank_link : Link
blank_link = record { place = 0; ident = blank_ident }

abbrev pub no_parts : ℕ → Parts
no_parts start = record { start = start; head = 0; body = 0; branch = 0; arms = 0; values = 0; ranges = 0; shared = 0 }

abbrev pub blank : Node
blank = record {
  details = record { kind = kind.Stmt stmt.Noop; flags = record { bits = 0 }; position = none; payload = None; first = None; second = None };
  parts = no_parts 0;
  up = None;
  height = 0;
  lines = 0;
}

abbrev pub node_at : State → ℕ → Node
node_at s i = slice_index_or s.nodes i blank

abbrev pub link_at : State → ℕ → Link
link_at s k = slice_index_or s.links k blank_link

-- What a node's links name, by the number of the link within its run. The definitions below are over such a
-- function, so that they serve a node in the table and one that is about to be put.
abbrev pub links_of : State → Node → ℕ → ℕ
links_of s n k = (link_at s (n.parts.start + k)).place

abbrev pub named : (ℕ → ℕ) → ℕ → ℕ → List ℕ
named f from count = map f (range_with_len from count)

-- the parts of a node: its head, body and branch, its arms by number, and the arms that it refers to
abbrev pub head_of : (ℕ → ℕ) → Parts → List ℕ
head_of f p = named f 0 p.head

abbrev pub body_of : (ℕ → ℕ) → Parts → List ℕ
body_of f p = named f p.head p.body

abbrev pub branch_of : (ℕ → ℕ) → Parts → List ℕ
branch_of f p = named f (p.head + p.body) p.branch

abbrev pub condition_of : (ℕ → ℕ) → Parts → ℕ → ℕ
condition_of f p arm = f (parts.held p + arm + arm)

abbrev pub value_of : (ℕ → ℕ) → Parts → ℕ → ℕ
value_of f p arm = f (parts.held p + arm + arm + 1)

abbrev pub references_of : (ℕ → ℕ) → Parts → List ℕ
references_of f p = named f (kids p) (references p)

abbrev pub default_of : Option Second → List ℕ
default_of second = option_to_list (default_arm second)

-- the arms that a node refers to: by values, by ranges, and by its default
abbrev pub referred : (ℕ → ℕ) → Details → Parts → List ℕ
referred f d p = references_of f p ++ default_of d.second

-- the children through arms: the condition and the value of each
abbrev pub through : (ℕ → ℕ) → Parts → List ℕ → List ℕ
through f p arms = flat_map (λ arm. condition_of f p arm ∷ value_of f p arm ∷ []) arms

-- which of head, body and branch are walked, and in which order
abbrev pub walked_parts : Option Blocks → List ℕ → List ℕ → List ℕ → List ℕ
walked_parts None head body branch = head
walked_parts (Some blocks.List) head body branch = body
walked_parts (Some blocks.Walked) head body branch = head ++ (body ++ branch)
walked_parts (Some blocks.Held) head body branch = head ++ body
walked_parts (Some blocks.Catch) head body branch = body ++ branch

-- the children in walk order: the walked parts, then for each reference and the default the arm's condition and value
abbrev pub walked : (ℕ → ℕ) → Details → Parts → List ℕ
walked f d p = walked_parts (shape_of d.kind).blocks (head_of f p) (body_of f p) (branch_of f p) ++ through f p (referred f d p)

-- the walked children of a node in the table, and all that it holds, walked or not
abbrev pub children : State → ℕ → List ℕ
children s i = walked (links_of s (node_at s i)) (node_at s i).details (node_at s i).parts

abbrev pub held : State → ℕ → List ℕ
held s i = named (links_of s (node_at s i)) 0 (kids (node_at s i).parts)

abbrev pub arms_referred : State → ℕ → List ℕ
arms_referred s i = referred (links_of s (node_at s i)) (node_at s i).details (node_at s i).parts

-- a place stands in a list
abbrev pub has : List ℕ → ℕ → Bool
has [] j = false
has (x ∷ xs) j = cond (x == j) true (has xs j)

-- no place stands in it twice
abbrev pub distinct : List ℕ → Bool
distinct [] = true
distinct (x ∷ xs) = not (has xs x) && distinct xs

-- what a node stands under, as a number: nothing, a script, or a node by its place
abbrev pub up_number : Option Up → ℕ
up_number None = 0
up_number (Some up.Script) = 1
up_number (Some (up.Node p)) = suc (suc p)

-- the greatest height and the sum of the lines of some nodes
abbrev pub highest : State → List ℕ → ℕ
highest s [] = 0
highest s (x ∷ xs) = max (node_at s x).height (highest s xs)

abbrev pub all_lines : State → List ℕ → ℕ
all_lines s [] = 0
all_lines s (x ∷ xs) = (node_at s x).lines + all_lines s xs
