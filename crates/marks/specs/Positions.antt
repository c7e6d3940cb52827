-- Where a node stands in the script, and where it starts. Assumes nothing.
use Rattle.std.specs.Prelude.{◌≡◌, ℕ, ◌+◌, Bool, true, false, cond, ◌&&◌, ◌||◌, Some, None, Ok, Err, Option, Result, nat_lt}
use Rattle.node.specs.Parts.{kids, references}
use Rattle.node.specs.Positions.{none}
use Rattle.node.specs.declared.faults.TableFault.{TableFault}
use Rattle.kind.specs.declared.kinds.ExprKind.TheVariants as expr
use Rattle.kind.specs.declared.kinds.Kind.{Kind}
use Rattle.kind.specs.declared.kinds.StmtKind.TheVariants as stmt
use Rattle.node.specs.declared.positions.Position.{Position}
use Rattle.node.specs.declared.records.Node.{Node}
use Rattle.node.specs.declared.records.Payload.{Payload}
use Rattle.node.specs.declared.records.Payload.TheVariants as payload
use Rattle.node.specs.declared.records.Second.{Second}
use Rattle.node.specs.declared.records.Second.TheVariants as second
use Rattle.kind.specs.Kinds.{is_stmt}
use Rattle.table.specs.Facts.{known, kid}
use Rattle.table.specs.Reads.{table_state, ident_at}
use Rattle.table.specs.State.{State, node_at}
use Rattle.table.specs.declared.tables.Table.{Table}
use Rattle.marks.specs.Answers.{NoExpr, NoNode}
use Rattle.marks.specs.Marks.{is_stmt_of, is_expr_of}

-- where the first block begins
abbrev pub block_start : Option Payload → Position
block_start None = none
block_start (Some (payload.Constant c)) = none
block_start (Some (payload.Spans body branch)) = body.start

-- a block, a statement or an expression, stands where its list of statements begins
abbrev pub is_block : Kind → Bool
is_block k = is_stmt_of stmt.Block k || is_expr_of expr.Stmt k

-- a Share stands where its first name does
abbrev pub shares : Node → Bool
shares n = is_stmt_of stmt.Share n.details.kind && nat_lt 0 n.parts.shared

-- the position of a node that is no statement Expr
abbrev pub own_position : State → ℕ → Position
own_position s n =
    let node = node_at s n in
    cond (is_block node.details.kind) (block_start node.details.payload)
    (cond (shares node) (ident_at s n (kids node.parts + references node.parts)).pos node.details.position)

-- And, Or, Coalesce, Index and Dot start where their first expression starts
abbrev pub goes_left : Kind → Bool
goes_left k = is_expr_of expr.And k || (is_expr_of expr.Or k || (is_expr_of expr.Coalesce k || (is_expr_of expr.Index k || is_expr_of expr.Dot k)))

abbrev pub has_left : Node → Bool
has_left n = goes_left n.details.kind && nat_lt 0 n.parts.head

-- a qualified variable starts at its namespace
abbrev pub at_namespace : Option Second → Position → Position
at_namespace None p = p
at_namespace (Some (second.Name i)) p = p
at_namespace (Some (second.Namespace q)) p = q
at_namespace (Some (second.Default arm)) p = p

abbrev pub own_start : State → ℕ → Position
own_start s n = cond (is_expr_of expr.Variable (node_at s n).details.kind) (at_namespace (node_at s n).details.second (own_position s n)) (own_position s n)

-- an expression starts where its left-most expression does
pub data Starts (s : State) : ℕ → Position → Type 0 where
  here : (n : ℕ) → has_left (node_at s n) ≡ false → Starts s n (own_start s n)
  left : (n : ℕ) (p : Position) → has_left (node_at s n) ≡ true → Starts s (kid s n 0) p → Starts s n p

-- the position of a node: a statement Expr stands where its expression starts
abbrev pub one_expression : Node → Bool
one_expression n = is_stmt_of stmt.Expr n.details.kind && nat_lt 0 n.parts.head

abbrev pub Either : Bool → Type 0 → Type 0 → Type 0
Either true P Q = P
Either false P Q = Q

abbrev pub Stands : State → ℕ → Position → Type 0
Stands s n p = Either (one_expression (node_at s n)) (Starts s (kid s n 0) p) (p ≡ own_position s n)

-- how a table answers: fault 2 at an unknown place, and fault 5 where a statement is asked for its start
abbrev pub StandsAnswer : State → ℕ → Result Position TableFault → Type 0
StandsAnswer s n (Ok p) = (known s n ≡ true) × Stands s n p
StandsAnswer s n (Err e) = NoNode s n e

abbrev pub StartsAnswer : State → ℕ → Result Position TableFault → Type 0
StartsAnswer s n (Ok p) = (known s n ≡ true) × (is_stmt (node_at s n).details.kind ≡ false) × Starts s n p
StartsAnswer s n (Err e) = NoExpr s n e

abbrev pub TableStands : Table → ℕ → Result Position TableFault → Type 0
TableStands t = StandsAnswer (table_state t)

abbrev pub TableStarts : Table → ℕ → Result Position TableFault → Type 0
TableStarts t = StartsAnswer (table_state t)
