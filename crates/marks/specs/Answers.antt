-- How the questions for marks are answered. Assumes nothing.
use Rattle.std.specs.Prelude.{◌≡◌, ℕ, Bool, true, false, cond, not, ◌&&◌, Ok, Err, Decides, Result}
use Rattle.node.specs.declared.faults.TableFault.{TableFault}
use Rattle.node.specs.declared.faults.TableFault.TheVariants.{Missing, Misfit}
use Rattle.kind.specs.Kinds.{is_stmt}
use Rattle.table.specs.Facts.{known}
use Rattle.table.specs.Reads.{table_state}
use Rattle.table.specs.State.{State, node_at}
use Rattle.table.specs.declared.tables.Table.{Table}
use Rattle.marks.specs.Marks.{IsConstant, IsPure}

-- why a place names no node: fault 2 at an unknown place
abbrev pub NoNode : State → ℕ → TableFault → Type 0
NoNode s n e = (known s n ≡ false) × (e ≡ Missing n)

-- why a place names no expression: fault 2 at an unknown place, fault 5 at a statement
abbrev pub NoExpr : State → ℕ → TableFault → Type 0
NoExpr s n e = ((known s n && not (is_stmt (node_at s n).details.kind)) ≡ false) × (e ≡ cond (known s n) (Misfit n) (Missing n))

-- at an unknown place fault 2, at a statement fault 5, else whether the expression is constant
abbrev pub ConstantAnswer : State → ℕ → Result Bool TableFault → Type 0
ConstantAnswer s n (Ok b) = (known s n ≡ true) × (is_stmt (node_at s n).details.kind ≡ false) × Decides b (IsConstant s n)
ConstantAnswer s n (Err e) = NoExpr s n e

-- at an unknown place fault 2, else whether the node is pure
abbrev pub PureAnswer : State → ℕ → Result Bool TableFault → Type 0
PureAnswer s n (Ok b) = (known s n ≡ true) × Decides b (IsPure s n)
PureAnswer s n (Err e) = NoNode s n e

-- the same of a table
abbrev pub TableConstant : Table → ℕ → Result Bool TableFault → Type 0
TableConstant t = ConstantAnswer (table_state t)

abbrev pub TablePure : Table → ℕ → Result Bool TableFault → Type 0
TablePure t = PureAnswer (table_state t)
