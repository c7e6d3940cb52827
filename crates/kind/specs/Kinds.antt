-- The kinds, their numbers and their names. Assumes nothing.
use Rattle.std.specs.Prelude.{ℕ, Bool, true, false, List, [], ◌∷◌, codes, Option, slice_index_or}
use Rattle.std.specs.List.{find}
use Rattle.std.specs.Str.{bytes_eq}
use Rattle.kind.specs.declared.kinds.Kind.{Kind}
use Rattle.kind.specs.declared.kinds.Kind.TheVariants as kind
use Rattle.kind.specs.declared.kinds.StmtKind.{StmtKind}
use Rattle.kind.specs.declared.kinds.StmtKind.TheVariants as stmt
use Rattle.kind.specs.declared.kinds.ExprKind.{ExprKind}
use Rattle.kind.specs.declared.kinds.ExprKind.TheVariants as expr

-- the number of a kind of statement, in the order of the Rust's enum
abbrev pub stmt_number : StmtKind → ℕ
stmt_number stmt.Noop = 0
stmt_number stmt.If = 1
stmt_number stmt.Switch = 2
stmt_number stmt.While = 3
stmt_number stmt.Do = 4
stmt_number stmt.For = 5
stmt_number stmt.Var = 6
stmt_number stmt.Assignment = 7
stmt_number stmt.FnCall = 8
stmt_number stmt.Block = 9
stmt_number stmt.TryCatch = 10
stmt_number stmt.Expr = 11
stmt_number stmt.BreakLoop = 12
stmt_number stmt.Return = 13
stmt_number stmt.Import = 14
stmt_number stmt.Export = 15
stmt_number stmt.Share = 16

-- the number of a kind of expression, in the order of the Rust's enum
abbrev pub expr_number : ExprKind → ℕ
expr_number expr.DynamicConstant = 0
expr_number expr.BoolConstant = 1
expr_number expr.IntegerConstant = 2
expr_number expr.FloatConstant = 3
expr_number expr.CharConstant = 4
expr_number expr.StringConstant = 5
expr_number expr.InterpolatedString = 6
expr_number expr.Array = 7
expr_number expr.Map = 8
expr_number expr.Unit = 9
expr_number expr.Variable = 10
expr_number expr.ThisPtr = 11
expr_number expr.Property = 12
expr_number expr.MethodCall = 13
expr_number expr.Stmt = 14
expr_number expr.FnCall = 15
expr_number expr.Dot = 16
expr_number expr.Index = 17
expr_number expr.And = 18
expr_number expr.Or = 19
expr_number expr.Coalesce = 20
expr_number expr.Custom = 21

-- the kinds of statements in this order, and the one at a number
abbrev pub stmts : List StmtKind
stmts =
    stmt.Noop ∷ stmt.If ∷ stmt.Switch ∷ stmt.While ∷ stmt.Do ∷ stmt.For ∷ stmt.Var ∷ stmt.Assignment ∷ stmt.FnCall ∷ stmt.Block ∷ stmt.TryCatch ∷ stmt.Expr ∷ stmt.BreakLoop ∷ stmt.Return ∷ stmt.Import ∷ stmt.Export ∷ stmt.Share ∷ []

abbrev pub stmt_at : ℕ → StmtKind
stmt_at n = slice_index_or stmts n stmt.Noop

-- the kinds of expressions in this order, and the one at a number
abbrev pub exprs : List ExprKind
exprs =
    expr.DynamicConstant ∷ expr.BoolConstant ∷ expr.IntegerConstant ∷ expr.FloatConstant ∷ expr.CharConstant ∷ expr.StringConstant ∷ expr.InterpolatedString ∷ expr.Array ∷ expr.Map ∷ expr.Unit ∷ expr.Variable ∷ expr.ThisPtr ∷ expr.Property ∷ expr.MethodCall ∷ expr.Stmt ∷ expr.FnCall ∷ expr.Dot ∷ expr.Index ∷ expr.And ∷ expr.Or ∷ expr.Coalesce ∷ expr.Custom ∷ []

abbrev pub expr_at : ℕ → ExprKind
expr_at n = slice_index_or exprs n expr.Unit

-- the name of a kind of statement
abbrev pub stmt_name : StmtKind → List ℕ
stmt_name stmt.Noop = codes "Noop"
stmt_name stmt.If = codes "If"
stmt_name stmt.Switch = codes "Switch"
stmt_name stmt.While = codes "While"
stmt_name stmt.Do = codes "Do"
stmt_name stmt.For = codes "For"
stmt_name stmt.Var = codes "Var"
stmt_name stmt.Assignment = codes "Assignment"
stmt_name stmt.FnCall = codes "FnCall"
stmt_name stmt.Block = codes "Block"
stmt_name stmt.TryCatch = codes "TryCatch"
stmt_name stmt.Expr = codes "Expr"
stmt_name stmt.BreakLoop = codes "BreakLoop"
stmt_name stmt.Return = codes "Return"
stmt_name stmt.Import = codes "Import"
stmt_name stmt.Export = codes "Export"
stmt_name stmt.Share = codes "Share"

-- the name of a kind of expression
abbrev pub expr_name : ExprKind → List ℕ
expr_name expr.DynamicConstant = codes "DynamicConstant"
expr_name expr.BoolConstant = codes "BoolConstant"
expr_name expr.IntegerConstant = codes "IntegerConstant"
expr_name expr.FloatConstant = codes "FloatConstant"
expr_name expr.CharConstant = codes "CharConstant"
expr_name expr.StringConstant = codes "StringConstant"
expr_name expr.InterpolatedString = codes "InterpolatedString"
expr_name expr.Array = codes "Array"
expr_name expr.Map = codes "Map"
expr_name expr.Unit = codes "Unit"
expr_name expr.Variable = codes "Variable"
expr_name expr.ThisPtr = codes "ThisPtr"
expr_name expr.Property = codes "Property"
expr_name expr.MethodCall = codes "MethodCall"
expr_name expr.Stmt = codes "Stmt"
expr_name expr.FnCall = codes "FnCall"
expr_name expr.Dot = codes "Dot"
expr_name expr.Index = codes "Index"
expr_name expr.And = codes "And"
expr_name expr.Or = codes "Or"
expr_name expr.Coalesce = codes "Coalesce"
expr_name expr.Custom = codes "Custom"

-- the first of some kinds with this name
abbrev pub named : {K : Type 0} → (K → List ℕ) → List K → List ℕ → Option K
named name ks bs = find (λ k. bytes_eq (name k) bs) ks

abbrev pub stmt_named : List ℕ → Option StmtKind
stmt_named bs = named stmt_name stmts bs

abbrev pub expr_named : List ℕ → Option ExprKind
expr_named bs = named expr_name exprs bs

abbrev pub is_stmt : Kind → Bool
is_stmt (kind.Stmt k) = true
is_stmt (kind.Expr k) = false

abbrev pub kind_name : Kind → List ℕ
kind_name (kind.Stmt k) = stmt_name k
kind_name (kind.Expr k) = expr_name k
