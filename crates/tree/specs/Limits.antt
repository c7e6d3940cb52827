-- The memories that a caller lends, and how many places of each may be lent. Assumes nothing.
use Rattle.std.specs.Prelude.{ℕ}
use Rattle.tree.specs.declared.limits.Memory.{Memory}
use Rattle.tree.specs.declared.limits.Memory.TheVariants.{Nodes, Links, Values, Items, Path, Text}

abbrev pub limit_of : Memory → ℕ
limit_of Nodes = 4096
limit_of Links = 8192
limit_of Values = 4096
limit_of Items = 8192
limit_of Path = 128
limit_of Text = 65535
