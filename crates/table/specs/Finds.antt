-- Inner: how many children a node has, through which the code finds each among its links. No promise rests on this page.
-- Assumes nothing.
use Rattle.std.specs.Prelude.{ℕ, ◌+◌, length}
use Rattle.kind.specs.Shapes.{shape_of}
use Rattle.node.specs.Parts.{references, run_count}
use Rattle.node.specs.declared.records.Details.{Details}
use Rattle.node.specs.declared.records.Parts.{Parts}
use Rattle.table.specs.State.{default_of}

-- how many children the walked ones of head, body and branch have
abbrev pub direct : Details → Parts → ℕ
direct d p = run_count (shape_of d.kind).blocks p

-- how many references there are, the default among them, and how many children that makes
abbrev pub arm_count : Details → Parts → ℕ
arm_count d p = references p + length (default_of d.second)

abbrev pub child_count : Details → Parts → ℕ
child_count d p = direct d p + (arm_count d p + arm_count d p)
