-- What is kept of a draft. Assumes nothing.
use Rattle.std.specs.Prelude.{ℕ, Bool, true, ◌&&◌, Some, None, Option, ◌==◌, nat_lt}
use Rattle.std.specs.Option.{option_map}
use Rattle.kind.specs.Kinds.{stmt_at, expr_at}
use Rattle.draft.specs.Drafts.{constant_in_range, constant_within, ident_in_range, ident_within, in_range, runs_within}
use Rattle.node.specs.Positions.{if_given, in_place, in_place_span, none, placed, placed_span}
use Rattle.draft.specs.declared.drafts.Draft.{Draft}
use Rattle.draft.specs.declared.drafts.RawConstant.{RawConstant}
use Rattle.draft.specs.declared.drafts.RawConstant.TheVariants as raw
use Rattle.draft.specs.declared.drafts.RawFlags.{RawFlags}
use Rattle.draft.specs.declared.drafts.RawIdent.{RawIdent}
use Rattle.draft.specs.declared.drafts.RawKind.{RawKind}
use Rattle.draft.specs.declared.drafts.RawKind.TheVariants as raw_kind
use Rattle.draft.specs.declared.drafts.RawRun.{RawRun}
use Rattle.node.specs.declared.flags.ASTFlags.{ASTFlags}
use Rattle.kind.specs.declared.kinds.Kind.{Kind}
use Rattle.kind.specs.declared.kinds.Kind.TheVariants as kind
use Rattle.node.specs.declared.positions.Position.{Position}
use Rattle.node.specs.declared.positions.RawPosition.{RawPosition}
use Rattle.node.specs.declared.positions.RawSpan.{RawSpan}
use Rattle.node.specs.declared.positions.Span.{Span}
use Rattle.node.specs.declared.records.Constant.{Constant}
use Rattle.node.specs.declared.records.Constant.TheVariants as constant
use Rattle.node.specs.declared.records.Details.{Details}
use Rattle.node.specs.declared.records.Ident.{Ident}
use Rattle.node.specs.declared.records.Payload.{Payload}
use Rattle.node.specs.declared.records.Payload.TheVariants as payload
use Rattle.node.specs.declared.records.Run.{Run}
use Rattle.node.specs.declared.records.Second.{Second}
use Rattle.node.specs.declared.records.Second.TheVariants as second

-- the kind that a number within an enum names
abbrev pub kind_of : RawKind → Kind
kind_of (raw_kind.Stmt n) = kind.Stmt (stmt_at n)
kind_of (raw_kind.Expr n) = kind.Expr (expr_at n)

abbrev pub run_of : RawRun → Run
run_of r = record { start = r.start; len = r.len }

-- a position that is not given is none
abbrev pub position_of : Option RawPosition → Position
position_of None = none
position_of (Some p) = placed p

abbrev pub ident_of : RawIdent → Ident
ident_of i = record { name = run_of i.name; pos = position_of i.pos }

-- flags that are not given are the empty set
abbrev pub flags_of : Option RawFlags → ASTFlags
flags_of None = record { bits = 0 }
flags_of (Some f) = record { bits = f.bits }

abbrev pub constant_of : RawConstant → Constant
constant_of (raw.Stored place) = constant.Stored place
constant_of (raw.Bool b) = constant.Bool (b == 1)
constant_of (raw.Integer i) = constant.Integer i
constant_of (raw.Float x) = constant.Float x
constant_of (raw.Char c) = constant.Char c
constant_of (raw.Text run) = constant.Text (run_of run)

abbrev pub span_of : Option RawSpan → Span
span_of None = record { start = none; end = none }
span_of (Some s) = placed_span s

abbrev pub spans_of : Option RawSpan → Option RawSpan → Option Payload
spans_of None branch = None
spans_of (Some body) branch = Some (payload.Spans (placed_span body) (span_of branch))

abbrev pub payload_of : Option RawConstant → Option RawSpan → Option RawSpan → Option Payload
payload_of (Some c) body branch = Some (payload.Constant (constant_of c))
payload_of None body branch = spans_of body branch

abbrev pub default_of : Option ℕ → Option Second
default_of None = None
default_of (Some arm) = Some (second.Default arm)

abbrev pub namespace_of : Option RawPosition → Option ℕ → Option Second
namespace_of None arm = default_of arm
namespace_of (Some p) arm = Some (second.Namespace (placed p))

-- a second name, the position of a namespace or a default arm: no kind has two of these
abbrev pub second_of : Option RawIdent → Option RawPosition → Option ℕ → Option Second
second_of None p arm = namespace_of p arm
second_of (Some i) p arm = Some (second.Name (ident_of i))

abbrev pub details_of : Draft → Details
details_of d = record {
  kind = kind_of d.kind;
  flags = flags_of d.flags;
  position = position_of d.position;
  payload = payload_of d.constant d.body_span d.branch_span;
  first = option_map ident_of d.first;
  second = second_of d.second d.namespace d.default;
}

-- places and arm numbers that fit where they are kept
abbrev pub small_constant : RawConstant → Bool
small_constant (raw.Stored place) = nat_lt place 65536
small_constant (raw.Bool b) = true
small_constant (raw.Integer i) = true
small_constant (raw.Float x) = true
small_constant (raw.Char c) = true
small_constant (raw.Text run) = true

abbrev pub small : Draft → Bool
small d = if_given small_constant d.constant && if_given (λ a. nat_lt a 65536) d.default

-- whether all that a draft holds can be kept: every number is in range, small enough, and no run is too long for any text
abbrev pub keepable : Draft → Bool
keepable d = in_range d && runs_within 65535 d && small d

-- the same of what becomes a constant or spans, of the first name, and of what comes behind it
abbrev pub payload_kept : Draft → Bool
payload_kept d =
    if_given constant_in_range d.constant && if_given (constant_within 65535) d.constant && if_given small_constant d.constant
    && if_given in_place_span d.body_span && if_given in_place_span d.branch_span

abbrev pub first_kept : Draft → Bool
first_kept d = if_given ident_in_range d.first && if_given (ident_within 65535) d.first

abbrev pub second_kept : Draft → Bool
second_kept d =
    if_given ident_in_range d.second && if_given (ident_within 65535) d.second && if_given in_place d.namespace
    && if_given (λ arm. nat_lt arm 65536) d.default
