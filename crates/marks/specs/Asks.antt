-- Inner: a known node, and what its table means. No promise rests on this page. Assumes nothing.
use Rattle.std.specs.Prelude.{◌≡◌, ℕ, ◌<◌}
use Rattle.node.specs.declared.records.Node.{Node}
use Rattle.table.specs.Facts.{rank}
use Rattle.table.specs.Reads.{table_state}
use Rattle.table.specs.State.{State, node_at}
use Rattle.table.specs.declared.tables.Table.{Table}
use Rattle.marks.specs.declared.asks.KnownNode.{KnownNode}

abbrev pub state : KnownNode → State
state k = table_state k.table.now

abbrev pub record_of : KnownNode → Node
record_of k = node_at (state k) k.n

-- a node of this table, at this place
abbrev pub IsAt : Table → ℕ → KnownNode → Type 0
IsAt t n k = (k.table.now ≡ t) × (k.n ≡ n)

-- a node of the same table at this place, of lower rank, as all that a node holds is
abbrev pub IsKidAt : KnownNode → ℕ → KnownNode → Type 0
IsKidAt k n j = IsAt k.table.now n j × (rank (state k) j.n < rank (state k) k.n)
