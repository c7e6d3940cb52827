-- When the numbers of a draft are in range, when its runs lie within the text, and what is kept of them.
-- Assumes nothing.
use Rattle.std.specs.Prelude.{ℕ, ◌+◌, Bool, true, ◌&&◌, ◌||◌, None, nat_le, nat_lt}
use Rattle.kind.specs.Kinds.{stmt_number, expr_number}
use Rattle.kind.specs.declared.kinds.Kind.{Kind}
use Rattle.kind.specs.declared.kinds.Kind.TheVariants as kind
use Rattle.node.specs.Positions.{if_given, in_place, in_place_span}
use Rattle.draft.specs.declared.drafts.Draft.{Draft}
use Rattle.draft.specs.declared.drafts.RawConstant.{RawConstant}
use Rattle.draft.specs.declared.drafts.RawConstant.TheVariants as raw
use Rattle.draft.specs.declared.drafts.RawFlags.{RawFlags}
use Rattle.draft.specs.declared.drafts.RawIdent.{RawIdent}
use Rattle.draft.specs.declared.drafts.RawKind.{RawKind}
use Rattle.draft.specs.declared.drafts.RawKind.TheVariants.{Stmt, Expr}
use Rattle.draft.specs.declared.drafts.RawRun.{RawRun}

-- the number of a kind within its enum
abbrev pub numbered : Kind → RawKind
numbered (kind.Stmt k) = Stmt (stmt_number k)
numbered (kind.Expr k) = Expr (expr_number k)

-- a name without a position
abbrev pub plain : RawRun → RawIdent
plain run = record { name = run; pos = None }

-- there are 17 kinds of statements and 22 of expressions
abbrev pub kind_in_range : RawKind → Bool
kind_in_range (Stmt n) = nat_lt n 17
kind_in_range (Expr n) = nat_lt n 22

-- sets of flags are 0 to 15
abbrev pub flags_in_range : RawFlags → Bool
flags_in_range f = nat_le f.bits 15

-- a Boolean is 0 or 1, a character a Unicode scalar value
abbrev pub constant_in_range : RawConstant → Bool
constant_in_range (raw.Stored place) = true
constant_in_range (raw.Bool b) = nat_le b 1
constant_in_range (raw.Integer i) = true
constant_in_range (raw.Float x) = true
constant_in_range (raw.Char c) = nat_lt c 0xD800 || (nat_le 0xE000 c && nat_le c 0x10FFFF)
constant_in_range (raw.Text run) = true

abbrev pub ident_in_range : RawIdent → Bool
ident_in_range i = if_given in_place i.pos

-- a kind, flag set, Boolean, character or position out of range is fault 3
abbrev pub in_range : Draft → Bool
in_range d =
    kind_in_range d.kind && if_given flags_in_range d.flags && if_given in_place d.position && if_given constant_in_range d.constant
    && if_given in_place_span d.body_span && if_given in_place_span d.branch_span
    && if_given ident_in_range d.first && if_given ident_in_range d.second && if_given in_place d.namespace

-- a run that ends beyond the text is fault 4
abbrev pub run_within : ℕ → RawRun → Bool
run_within text r = nat_le (r.start + r.len) text

abbrev pub ident_within : ℕ → RawIdent → Bool
ident_within text i = run_within text i.name

abbrev pub constant_within : ℕ → RawConstant → Bool
constant_within text (raw.Stored place) = true
constant_within text (raw.Bool b) = true
constant_within text (raw.Integer i) = true
constant_within text (raw.Float x) = true
constant_within text (raw.Char c) = true
constant_within text (raw.Text run) = run_within text run

abbrev pub runs_within : ℕ → Draft → Bool
runs_within text d = if_given (constant_within text) d.constant && if_given (ident_within text) d.first && if_given (ident_within text) d.second
