-- What each maker's draft holds, and that it fits its kind. Assumes nothing.
use Rattle.std.specs.Prelude.{◌≡◌, ℕ, true, Some, None, Option}
use Rattle.draft.specs.Drafts.{numbered, plain}
use Rattle.draft.specs.Fits.{fits, handed}
use Rattle.draft.specs.declared.drafts.Draft.{Draft}
use Rattle.draft.specs.declared.drafts.RawConstant.{RawConstant}
use Rattle.draft.specs.declared.drafts.RawConstant.TheVariants as constant
use Rattle.draft.specs.declared.drafts.RawIdent.{RawIdent}
use Rattle.kind.specs.Shapes.{shape_of}
use Rattle.kind.specs.declared.kinds.ExprKind.{ExprKind}
use Rattle.kind.specs.declared.kinds.ExprKind.TheVariants as expr
use Rattle.kind.specs.declared.kinds.Kind.{Kind}
use Rattle.kind.specs.declared.kinds.Kind.TheVariants.{Stmt, Expr}
use Rattle.kind.specs.declared.kinds.StmtKind.{StmtKind}
use Rattle.node.specs.declared.positions.RawPosition.{RawPosition}
use Rattle.makers.specs.declared.parts.Arms.{Arms}
use Rattle.makers.specs.declared.parts.Block.{Block}
use Rattle.makers.specs.declared.parts.Placed.{Placed}
use Rattle.makers.specs.declared.parts.Qualified.{Qualified}

-- a draft of this kind that put does not refuse for its parts or data: they fit the shape of the kind,
-- where as many places as it counts and so many names are handed in for its links
abbrev pub Fits : Kind → ℕ → Draft → Type 0
Fits k idents d = (d.kind ≡ numbered k) × (fits (shape_of k) d (handed d) idents ≡ true)

abbrev pub FitsStmt : StmtKind → ℕ → Draft → Type 0
FitsStmt k = Fits (Stmt k)

abbrev pub FitsExpr : ExprKind → ℕ → Draft → Type 0
FitsExpr k = Fits (Expr k)

-- names as a draft holds them
abbrev pub placed : Placed → RawIdent
placed n = record { name = n.name; pos = Some n.pos }

-- what a draft holds: its position; a list of statements; a body and a branch; arms; a name and arguments
abbrev pub PlacedAt : RawPosition → Draft → Type 0
PlacedAt p d = d.position ≡ Some p

abbrev pub Listed : Block → Draft → Type 0
Listed list d = (d.body ≡ list.statements) × (d.body_span ≡ Some list.span)

abbrev pub Blocked : Block → Block → Draft → Type 0
Blocked body branch d = Listed body d × (d.branch ≡ branch.statements) × (d.branch_span ≡ Some branch.span)

abbrev pub Armed : Arms → Draft → Type 0
Armed a d = (d.arms ≡ a.arms) × (d.values ≡ a.values) × (d.ranges ≡ a.ranges) × (d.default ≡ a.default)

abbrev pub Called : Qualified → ℕ → Draft → Type 0
Called n arguments d = (d.first ≡ Some (plain n.name)) × (d.namespace ≡ n.namespace) × (d.head ≡ arguments)

-- the kind of a constant
abbrev pub constant_kind : RawConstant → ExprKind
constant_kind (constant.Stored place) = expr.DynamicConstant
constant_kind (constant.Bool b) = expr.BoolConstant
constant_kind (constant.Integer i) = expr.IntegerConstant
constant_kind (constant.Float x) = expr.FloatConstant
constant_kind (constant.Char c) = expr.CharConstant
constant_kind (constant.Text run) = expr.StringConstant

-- what several makers begin with: kind, position and number of expressions; body and branch; name and arguments
abbrev pub based : Kind → Option RawPosition → ℕ → Draft
based k p n = record {
  kind = numbered k;
  flags = None;
  position = p;
  constant = None;
  body_span = None;
  branch_span = None;
  first = None;
  second = None;
  namespace = None;
  default = None;
  head = n;
  body = 0;
  branch = 0;
  arms = 0;
  values = 0;
  ranges = 0;
}

abbrev pub with_blocks : Kind → Block → Block → RawPosition → Draft
with_blocks k body branch p =
    record (based k (Some p) 1) { body = body.statements; body_span = Some body.span; branch = branch.statements; branch_span = Some branch.span }

abbrev pub called : Kind → Qualified → ℕ → RawPosition → Draft
called k name n p = record (based k (Some p) n) { first = Some (plain name.name); namespace = name.namespace }
