-- The marks of a table: which expressions are constant, and which nodes are pure. Assumes nothing.
use Rattle.std.specs.Prelude.{◌≡◌, ℕ, Bool, true, false, cond, ◌&&◌, List, ◌++◌, map, Some, None, Option, ◌==◌, nat_lt}
use Rattle.node.specs.Flags.{negated}
use Rattle.kind.specs.Kinds.{stmt_number, expr_number}
use Rattle.kind.specs.Shapes.{shape_of}
use Rattle.kind.specs.declared.kinds.ExprKind.{ExprKind}
use Rattle.kind.specs.declared.kinds.ExprKind.TheVariants as expr
use Rattle.kind.specs.declared.kinds.Kind.{Kind}
use Rattle.kind.specs.declared.kinds.Kind.TheVariants as kind
use Rattle.kind.specs.declared.kinds.StmtKind.{StmtKind}
use Rattle.kind.specs.declared.kinds.StmtKind.TheVariants as stmt
use Rattle.node.specs.declared.records.Constant.{Constant}
use Rattle.node.specs.declared.records.Constant.TheVariants as constant
use Rattle.node.specs.declared.records.Details.{Details}
use Rattle.node.specs.declared.records.Parts.{Parts}
use Rattle.node.specs.declared.records.Payload.{Payload}
use Rattle.node.specs.declared.records.Payload.TheVariants as payload
use Rattle.node.specs.declared.records.Second.{Second}
use Rattle.node.specs.declared.records.Second.TheVariants as second
use Rattle.kind.specs.declared.shapes.Blocks.{Blocks}
use Rattle.kind.specs.declared.shapes.Blocks.TheVariants as blocks
use Rattle.draft.specs.Fits.{same}
use Rattle.table.specs.Facts.{kid}
use Rattle.table.specs.State.{State, node_at, links_of, head_of, body_of, branch_of, references_of, default_of, through, value_of, walked_parts, children}
use Rattle.tree.specs.Lines.{Follow, end_of}

-- a constant kind or a list kind
abbrev pub plain : ExprKind → Bool
plain expr.DynamicConstant = true
plain expr.BoolConstant = true
plain expr.IntegerConstant = true
plain expr.FloatConstant = true
plain expr.CharConstant = true
plain expr.StringConstant = true
plain expr.InterpolatedString = true
plain expr.Array = true
plain expr.Map = true
plain expr.Unit = true
plain expr.Variable = false
plain expr.ThisPtr = false
plain expr.Property = false
plain expr.MethodCall = false
plain expr.Stmt = false
plain expr.FnCall = false
plain expr.Dot = false
plain expr.Index = false
plain expr.And = false
plain expr.Or = false
plain expr.Coalesce = false
plain expr.Custom = false

abbrev pub plain_kind : Kind → Bool
plain_kind (kind.Stmt k) = false
plain_kind (kind.Expr k) = plain k

-- a node is a statement of this kind; an expression of this kind
abbrev pub is_stmt_of : StmtKind → Kind → Bool
is_stmt_of k (kind.Stmt j) = stmt_number j == stmt_number k
is_stmt_of k (kind.Expr j) = false

abbrev pub is_expr_of : ExprKind → Kind → Bool
is_expr_of k (kind.Stmt j) = false
is_expr_of k (kind.Expr j) = expr_number j == expr_number k

-- The counted children are the walked ones, but a While counts its condition only, a TryCatch its catch expression
-- before body and branch, and a default's condition does not count, though its value does.
abbrev pub counted_blocks : Kind → Option Blocks
counted_blocks k = cond (is_stmt_of stmt.While k) None (cond (is_stmt_of stmt.TryCatch k) (Some blocks.Walked) (shape_of k).blocks)

abbrev pub counted_of : (ℕ → ℕ) → Details → Parts → List ℕ
counted_of f d p =
    walked_parts (counted_blocks d.kind) (head_of f p) (body_of f p) (branch_of f p) ++ (through f p (references_of f p) ++ map (value_of f p) (default_of d.second))

abbrev pub counted : State → ℕ → List ℕ
counted s i = counted_of (links_of s (node_at s i)) (node_at s i).details (node_at s i).parts

-- a Switch has a default
abbrev pub has_default : Option Second → Bool
has_default None = false
has_default (Some (second.Name i)) = false
has_default (Some (second.Namespace q)) = false
has_default (Some (second.Default arm)) = true

-- a constant is this Boolean
abbrev pub is_bool : Bool → Constant → Bool
is_bool b (constant.Stored v) = false
is_bool b (constant.Bool x) = same x b
is_bool b (constant.Integer x) = false
is_bool b (constant.Float x) = false
is_bool b (constant.Char x) = false
is_bool b (constant.Text r) = false

abbrev pub holds_bool : Bool → Option Payload → Bool
holds_bool b None = false
holds_bool b (Some (payload.Constant c)) = is_bool b c
holds_bool b (Some (payload.Spans x y)) = false

-- a node is the Boolean constant of this value
abbrev pub bool_constant : Bool → Details → Bool
bool_constant b d = is_expr_of expr.BoolConstant d.kind && holds_bool b d.payload

-- the condition of a node, the first of its head, is the Boolean constant of this value
abbrev pub condition_is : State → ℕ → Bool → Bool
condition_is s i b = nat_lt 0 (node_at s i).parts.head && bool_constant b (node_at s (kid s i 0)).details

-- A node that does nothing by itself. A Switch does nothing only where it has a default, a While where its condition
-- is false, a Do where its condition is the Boolean that ends it at once.
abbrev pub stmt_harmless : State → ℕ → StmtKind → Bool
stmt_harmless s i stmt.Noop = true
stmt_harmless s i stmt.If = true
stmt_harmless s i stmt.Switch = has_default (node_at s i).details.second
stmt_harmless s i stmt.While = condition_is s i false
stmt_harmless s i stmt.Do = condition_is s i (negated (node_at s i).details.flags)
stmt_harmless s i stmt.For = true
stmt_harmless s i stmt.Var = false
stmt_harmless s i stmt.Assignment = false
stmt_harmless s i stmt.FnCall = false
stmt_harmless s i stmt.Block = true
stmt_harmless s i stmt.TryCatch = true
stmt_harmless s i stmt.Expr = true
stmt_harmless s i stmt.BreakLoop = false
stmt_harmless s i stmt.Return = false
stmt_harmless s i stmt.Import = false
stmt_harmless s i stmt.Export = false
stmt_harmless s i stmt.Share = false

abbrev pub expr_harmless : ExprKind → Bool
expr_harmless expr.DynamicConstant = true
expr_harmless expr.BoolConstant = true
expr_harmless expr.IntegerConstant = true
expr_harmless expr.FloatConstant = true
expr_harmless expr.CharConstant = true
expr_harmless expr.StringConstant = true
expr_harmless expr.InterpolatedString = true
expr_harmless expr.Array = true
expr_harmless expr.Map = true
expr_harmless expr.Unit = true
expr_harmless expr.Variable = false
expr_harmless expr.ThisPtr = false
expr_harmless expr.Property = false
expr_harmless expr.MethodCall = false
expr_harmless expr.Stmt = true
expr_harmless expr.FnCall = false
expr_harmless expr.Dot = false
expr_harmless expr.Index = false
expr_harmless expr.And = true
expr_harmless expr.Or = true
expr_harmless expr.Coalesce = true
expr_harmless expr.Custom = false

abbrev pub kind_harmless : State → ℕ → Kind → Bool
kind_harmless s i (kind.Stmt k) = stmt_harmless s i k
kind_harmless s i (kind.Expr k) = expr_harmless k

abbrev pub harmless : State → ℕ → Bool
harmless s i = kind_harmless s i (node_at s i).details.kind

-- THE MARK LAW: a node is constant where each of its lines ends in a constant or list kind,
unfoldable pub IsConstant : State → ℕ → Type 0
IsConstant s n = (line : List ℕ) → Follow (children s) n line → plain_kind (node_at s (end_of (children s) n line)).details.kind ≡ true

-- and pure where each of its counted lines ends at a harmless node
unfoldable pub IsPure : State → ℕ → Type 0
IsPure s n = (line : List ℕ) → Follow (counted s) n line → harmless s (end_of (counted s) n line) ≡ true
