-- What is asked of a node beside its marks. Assumes nothing.
use Rattle.std.specs.Prelude.{ℕ, Bool, cond, ◌||◌, Err, Result}
use Rattle.node.specs.declared.faults.TableFault.{TableFault}
use Rattle.node.specs.declared.faults.TableFault.TheVariants.{Missing, Misfit}
use Rattle.node.specs.declared.flags.ASTFlags.{ASTFlags}
use Rattle.kind.specs.declared.kinds.ExprKind.TheVariants as expr
use Rattle.kind.specs.declared.kinds.Kind.{Kind}
use Rattle.kind.specs.declared.kinds.StmtKind.TheVariants as stmt
use Rattle.node.specs.declared.records.Details.{Details}
use Rattle.kind.specs.Kinds.{is_stmt}
use Rattle.table.specs.Facts.{known}
use Rattle.table.specs.Reads.{table_state}
use Rattle.table.specs.State.{node_at}
use Rattle.table.specs.declared.tables.Table.{Table}
use Rattle.tree.specs.Answers.{told}
use Rattle.marks.specs.Marks.{is_stmt_of, is_expr_of}

-- the kinds that have options: loops on a condition behind the body, variables, breaks, returns, and the two that
-- go into a value
abbrev pub has_options : Kind → Bool
has_options k =
    is_stmt_of stmt.Do k || (is_stmt_of stmt.Var k || (is_stmt_of stmt.BreakLoop k || (is_stmt_of stmt.Return k || (is_expr_of expr.Dot k || is_expr_of expr.Index k))))

-- the options of a node, the empty set where its kind has none
abbrev pub options_of : Details → ASTFlags
options_of d = cond (has_options d.kind) d.flags (record { bits = 0 })

-- the statements that return a value
abbrev pub returns_value : Kind → Bool
returns_value k = is_stmt_of stmt.If k || (is_stmt_of stmt.Switch k || (is_stmt_of stmt.Block k || (is_stmt_of stmt.Expr k || is_stmt_of stmt.FnCall k)))

-- how a table answers: fault 2 at an unknown place, and fault 5 where the node's enum lacks the question
abbrev pub table_options : Table → ℕ → Result ASTFlags TableFault
table_options t n = told (known (table_state t) n) (options_of (node_at (table_state t) n).details) (Missing n)

abbrev pub table_returns_value : Table → ℕ → Result Bool TableFault
table_returns_value t n =
    let k = (node_at (table_state t) n).details.kind in
    cond (known (table_state t) n) (told (is_stmt k) (returns_value k) (Misfit n)) (Err (Missing n))
