-- How a put changes a table's memory. Assumes nothing.
use Rattle.std.specs.Prelude.{◌≡◌, ℕ, suc, ◌+◌, ◌<◌, cond, List, map, length, slice_index, slice_index_or, Some, Option}
use Rattle.draft.specs.Details.{ident_of}
use Rattle.draft.specs.declared.drafts.RawIdent.{RawIdent}
use Rattle.node.specs.declared.records.Link.{Link}
use Rattle.node.specs.declared.records.Node.{Node}
use Rattle.node.specs.declared.records.Up.{Up}
use Rattle.node.specs.declared.records.Up.TheVariants as up
use Rattle.table.specs.State.{State, node_at, link_at, has, blank_ident}
use Rattle.table.specs.declared.memory.Memory.{Memory}

-- the k-th link of a node to be put: a place that was handed in, and the name that belongs to it
abbrev pub new_link : List ℕ → List RawIdent → ℕ → Link
new_link places idents k = record { place = slice_index places k; ident = slice_index_or (map ident_of idents) k blank_ident }

-- a node that stands under another
abbrev pub with_up : Option Up → Node → Node
with_up u n = record { details = n.details; parts = n.parts; up = u; height = n.height; lines = n.lines }

-- a node as it is after p has taken some places as its children
abbrev pub adopted : State → List ℕ → ℕ → ℕ → Node
adopted s kid_list p j = cond (has kid_list j) (with_up (Some (up.Node p)) (node_at s j)) (node_at s j)

-- the same lent memory
pub record SameLoans (m m' : Memory) : Type 0 where
  pub nodes : m'.nodes.ghost_name ≡ m.nodes.ghost_name
  pub links : m'.links.ghost_name ≡ m.links.ghost_name

-- A put of one node: it stands at the first unused place, its links behind those in use; the children that it
-- takes stand under it; every other record and link in use is what it was.
pub record Grown (s s' : State) (node : Node) (kid_list : List ℕ) (new : ℕ → Link) (count : ℕ) : Type 0 where
  pub used : s'.used ≡ suc s.used
  pub linked : s'.linked ≡ s.linked + count
  pub nodes_long : length s'.nodes ≡ length s.nodes
  pub links_long : length s'.links ≡ length s.links
  pub old_links : (k : ℕ) → k < s.linked → link_at s' k ≡ link_at s k
  pub new_links : (k : ℕ) → k < count → link_at s' (s.linked + k) ≡ new k
  pub new_node : node_at s' s.used ≡ node
  pub old_nodes : (j : ℕ) → j < s.used → node_at s' j ≡ adopted s kid_list s.used j
