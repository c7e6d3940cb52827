-- The table as a tree: the names that it knows are its places. Assumes nothing.
use Rattle.std.specs.Prelude.{ℕ, Bool, List}
use Rattle.std.proofs.Common.{arith, ltb-true, lt-ltb}
use Rattle.tree.specs.Lines.{TreeLaw}
use Rattle.node.specs.declared.faults.TableFault.{TableFault}
use Rattle.node.specs.declared.faults.TableFault.TheVariants.{Missing}
use Rattle.table.specs.Facts.{known}
use Rattle.table.specs.State.{state_of, node_at, children}
use Rattle.table.specs.declared.tables.Table.{Table}

abbrev pub table_knows : Table → ℕ → Bool
table_knows t i = known (state_of t.memory) i

abbrev pub table_height : Table → ℕ → ℕ
table_height t i = (node_at (state_of t.memory) i).height

abbrev pub table_children : Table → ℕ → List ℕ
table_children t i = children (state_of t.memory) i

abbrev pub table_missing : Table → ℕ → TableFault
table_missing t i = Missing i

-- its law, from what always holds of its memory
pub table_law : (t : Table) → TreeLaw (table_knows t) (table_height t) (table_children t)
table_law t = record {
  kept = λ n i k lt. lt-ltb _ _ (t.walked_known n i (ltb-true n t.memory.used k, lt));
  low = λ n k. omega (arith, t.heights n (ltb-true n t.memory.used k));
  high = λ n k. t.heights_fit n (ltb-true n t.memory.used k);
  falls = λ n i k lt. t.walked_lower n i (ltb-true n t.memory.used k, lt);
}
