-- What a table tells of a node: its record and what its links hold. Assumes nothing.
use Rattle.std.specs.Prelude.{ℕ, ◌+◌, Bool, cond, ◌&&◌, Some, None, Option, nat_le, nat_lt}
use Rattle.tree.specs.Limits.{limit_of}
use Rattle.tree.specs.declared.limits.Memory.{Memory}
use Rattle.tree.specs.declared.limits.Memory.TheVariants as limits
use Rattle.tree.specs.declared.limits.MemoryFault.{MemoryFault}
use Rattle.node.specs.Parts.{kids, links, references}
use Rattle.node.specs.declared.records.Ident.{Ident}
use Rattle.table.specs.Facts.{known, kid}
use Rattle.table.specs.State.{State, state_of, node_at, link_at}
use Rattle.table.specs.declared.tables.Table.{Table}

-- what a table means
abbrev pub table_state : Table → State
table_state t = state_of t.memory

-- a known node has a child, a reference or a link of this number
abbrev pub has_kid : State → ℕ → ℕ → Bool
has_kid s n k = known s n && nat_lt k (kids (node_at s n).parts)

abbrev pub has_reference : State → ℕ → ℕ → Bool
has_reference s n k = known s n && nat_lt k (references (node_at s n).parts)

abbrev pub has_link : State → ℕ → ℕ → Bool
has_link s n k = known s n && nat_lt k (links (node_at s n).parts)

-- the arm that a reference names, by values first and then by ranges
abbrev pub reference_at : State → ℕ → ℕ → ℕ
reference_at s n k = kid s n (kids (node_at s n).parts + k)

-- the name that belongs to a link: the key of an item, or a shared name
abbrev pub ident_at : State → ℕ → ℕ → Ident
ident_at s n k = (link_at s ((node_at s n).parts.start + k)).ident

-- fault 1: more memory than its limit, nodes before links before text
abbrev pub over : Memory → ℕ → Option MemoryFault → Option MemoryFault
over m lent rest = cond (nat_le lent (limit_of m)) rest (Some (record { memory = m }))

abbrev pub memory_due : ℕ → ℕ → ℕ → Option MemoryFault
memory_due nodes links text = over limits.Nodes nodes (over limits.Links links (over limits.Text text None))
