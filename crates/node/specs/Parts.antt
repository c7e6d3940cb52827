-- How a node's run of links is parted. Assumes nothing.
use Rattle.std.specs.Prelude.{ℕ, ◌+◌, Some, None, Option}
use Rattle.kind.specs.declared.shapes.Blocks.{Blocks}
use Rattle.kind.specs.declared.shapes.Blocks.TheVariants as blocks
use Rattle.node.specs.declared.records.Parts.{Parts}
use Rattle.node.specs.declared.records.Second.{Second}
use Rattle.node.specs.declared.records.Second.TheVariants as second

-- how many children head, body and branch hold, and where the arms begin behind them
abbrev pub held : Parts → ℕ
held p = p.head + p.body + p.branch

-- how many children a node holds, two an arm; how many references to arms it has; and how many links that makes
abbrev pub kids : Parts → ℕ
kids p = p.head + p.body + p.branch + p.arms + p.arms

abbrev pub references : Parts → ℕ
references p = p.values + p.ranges

abbrev pub links : Parts → ℕ
links p = kids p + references p + p.shared

-- the walked ones of head, body and branch lie side by side: from one link on, so many
abbrev pub run_from : Option Blocks → Parts → ℕ
run_from None p = 0
run_from (Some blocks.List) p = p.head
run_from (Some blocks.Walked) p = 0
run_from (Some blocks.Held) p = 0
run_from (Some blocks.Catch) p = p.head

abbrev pub run_count : Option Blocks → Parts → ℕ
run_count None p = p.head
run_count (Some blocks.List) p = p.body
run_count (Some blocks.Walked) p = p.head + p.body + p.branch
run_count (Some blocks.Held) p = p.head + p.body
run_count (Some blocks.Catch) p = p.body + p.branch

-- the arm that a switch falls back to
abbrev pub default_arm : Option Second → Option ℕ
default_arm None = None
default_arm (Some (second.Name i)) = None
default_arm (Some (second.Namespace q)) = None
default_arm (Some (second.Default arm)) = Some arm
