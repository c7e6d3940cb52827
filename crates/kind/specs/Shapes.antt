-- The table of shapes: which parts and which data each kind takes, one row a kind. Assumes nothing.
-- The columns: how many expressions as head; which lists of statements, and which parts are walked; what else;
-- which constant; which names; whether flags; whether a position of its own.
use Rattle.std.specs.Prelude.{Bool, true, false, Some, None, Option}
use Rattle.kind.specs.declared.kinds.ExprKind.{ExprKind}
use Rattle.kind.specs.declared.kinds.ExprKind.TheVariants as expr
use Rattle.kind.specs.declared.kinds.Kind.{Kind}
use Rattle.kind.specs.declared.kinds.Kind.TheVariants.{Stmt, Expr}
use Rattle.kind.specs.declared.kinds.StmtKind.{StmtKind}
use Rattle.kind.specs.declared.kinds.StmtKind.TheVariants as stmt
use Rattle.kind.specs.declared.shapes.Blocks.{Blocks}
use Rattle.kind.specs.declared.shapes.Blocks.TheVariants as blocks
use Rattle.kind.specs.declared.shapes.Extra.{Extra}
use Rattle.kind.specs.declared.shapes.Extra.TheVariants as extra
use Rattle.kind.specs.declared.shapes.Head.{Head}
use Rattle.kind.specs.declared.shapes.Head.TheVariants as head
use Rattle.kind.specs.declared.shapes.Names.{Names}
use Rattle.kind.specs.declared.shapes.Names.TheVariants as names
use Rattle.kind.specs.declared.shapes.Shape.{Shape}
use Rattle.kind.specs.declared.shapes.Value.{Value}
use Rattle.kind.specs.declared.shapes.Value.TheVariants as value

abbrev row : Head → Option Blocks → Option Extra → Option Value → Option Names → Bool → Bool → Shape
row h b e v n f p = record { head = h; blocks = b; extra = e; value = v; names = n; flags = f; position = p }

-- rows made step by step: a head and a position alone, and then one column more
abbrev pub of : Head → Shape
of h = row h None None None None false true

abbrev pub with_blocks : Blocks → Shape → Shape
with_blocks b s = row s.head (Some b) s.extra s.value s.names s.flags s.position

abbrev pub with_extra : Extra → Shape → Shape
with_extra e s = row s.head s.blocks (Some e) s.value s.names s.flags s.position

abbrev pub with_value : Value → Shape → Shape
with_value v s = row s.head s.blocks s.extra (Some v) s.names s.flags s.position

abbrev pub with_names : Names → Shape → Shape
with_names n s = row s.head s.blocks s.extra s.value (Some n) s.flags s.position

abbrev pub flagged : Shape → Shape
flagged s = row s.head s.blocks s.extra s.value s.names true s.position

abbrev pub unplaced : Shape → Shape
unplaced s = row s.head s.blocks s.extra s.value s.names s.flags false

abbrev pub stmt_shape : StmtKind → Shape
stmt_shape stmt.Noop = row head.None None None None None false true
stmt_shape stmt.If = row head.One (Some blocks.Walked) None None None false true
stmt_shape stmt.Switch = row head.One None (Some extra.Arms) None None false true
stmt_shape stmt.While = row head.One (Some blocks.Held) None None None false true
stmt_shape stmt.Do = row head.One (Some blocks.Held) None None None true true
stmt_shape stmt.For = row head.One (Some blocks.Held) None None (Some names.Counter) false true
stmt_shape stmt.Var = row head.One None None None (Some names.One) true true
stmt_shape stmt.Assignment = row head.Two None None None None false true
stmt_shape stmt.FnCall = row head.Any None None None (Some names.Call) false true
stmt_shape stmt.Block = row head.None (Some blocks.List) None None None false false
stmt_shape stmt.TryCatch = row head.One (Some blocks.Catch) None None None false true
stmt_shape stmt.Expr = row head.One None None None None false false
stmt_shape stmt.BreakLoop = row head.Optional None None None None true true
stmt_shape stmt.Return = row head.Optional None None None None true true
stmt_shape stmt.Import = row head.One None None None (Some names.One) false true
stmt_shape stmt.Export = row head.None None None None (Some names.Two) false true
stmt_shape stmt.Share = row head.None None (Some extra.Shared) None None false false

abbrev pub expr_shape : ExprKind → Shape
expr_shape expr.DynamicConstant = row head.None None None (Some value.Stored) None false true
expr_shape expr.BoolConstant = row head.None None None (Some value.Bool) None false true
expr_shape expr.IntegerConstant = row head.None None None (Some value.Integer) None false true
expr_shape expr.FloatConstant = row head.None None None (Some value.Float) None false true
expr_shape expr.CharConstant = row head.None None None (Some value.Char) None false true
expr_shape expr.StringConstant = row head.None None None (Some value.Text) None false true
expr_shape expr.InterpolatedString = row head.Any None None None None false true
expr_shape expr.Array = row head.Any None None None None false true
expr_shape expr.Map = row head.Any None (Some extra.Keys) None None false true
expr_shape expr.Unit = row head.None None None None None false true
expr_shape expr.Variable = row head.None None None None (Some names.Call) false true
expr_shape expr.ThisPtr = row head.None None None None None false true
expr_shape expr.Property = row head.None None None None (Some names.Plain) false true
expr_shape expr.MethodCall = row head.Any None None None (Some names.Call) false true
expr_shape expr.Stmt = row head.None (Some blocks.List) None None None false false
expr_shape expr.FnCall = row head.Any None None None (Some names.Call) false true
expr_shape expr.Dot = row head.Two None None None None true true
expr_shape expr.Index = row head.Two None None None None true true
expr_shape expr.And = row head.Some None None None None false true
expr_shape expr.Or = row head.Some None None None None false true
expr_shape expr.Coalesce = row head.Some None None None None false true
expr_shape expr.Custom = row head.Any None None None None false true

abbrev pub shape_of : Kind → Shape
shape_of (Stmt k) = stmt_shape k
shape_of (Expr k) = expr_shape k
