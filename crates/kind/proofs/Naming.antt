-- Every kind is found by its name. Assumes nothing.
use Rattle.std.proofs.Common.{◌≡◌, Some, refl}
use Rattle.kind.specs.Kinds.{stmt_name, stmt_named, expr_name, expr_named}
use Rattle.kind.specs.declared.kinds.StmtKind.{StmtKind}
use Rattle.kind.specs.declared.kinds.StmtKind.TheVariants as stmt
use Rattle.kind.specs.declared.kinds.ExprKind.{ExprKind}
use Rattle.kind.specs.declared.kinds.ExprKind.TheVariants as expr

pub stmt_found : (k : StmtKind) → stmt_named (stmt_name k) ≡ Some k
stmt_found stmt.Noop = refl
stmt_found stmt.If = refl
stmt_found stmt.Switch = refl
stmt_found stmt.While = refl
stmt_found stmt.Do = refl
stmt_found stmt.For = refl
stmt_found stmt.Var = refl
stmt_found stmt.Assignment = refl
stmt_found stmt.FnCall = refl
stmt_found stmt.Block = refl
stmt_found stmt.TryCatch = refl
stmt_found stmt.Expr = refl
stmt_found stmt.BreakLoop = refl
stmt_found stmt.Return = refl
stmt_found stmt.Import = refl
stmt_found stmt.Export = refl
stmt_found stmt.Share = refl

pub expr_found : (k : ExprKind) → expr_named (expr_name k) ≡ Some k
expr_found expr.DynamicConstant = refl
expr_found expr.BoolConstant = refl
expr_found expr.IntegerConstant = refl
expr_found expr.FloatConstant = refl
expr_found expr.CharConstant = refl
expr_found expr.StringConstant = refl
expr_found expr.InterpolatedString = refl
expr_found expr.Array = refl
expr_found expr.Map = refl
expr_found expr.Unit = refl
expr_found expr.Variable = refl
expr_found expr.ThisPtr = refl
expr_found expr.Property = refl
expr_found expr.MethodCall = refl
expr_found expr.Stmt = refl
expr_found expr.FnCall = refl
expr_found expr.Dot = refl
expr_found expr.Index = refl
expr_found expr.And = refl
expr_found expr.Or = refl
expr_found expr.Coalesce = refl
expr_found expr.Custom = refl
