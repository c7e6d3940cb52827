-- When the parts and data of a draft fit the shape of its kind. Assumes nothing.
use Rattle.std.specs.Prelude.{ℕ, ◌+◌, Bool, true, false, not, ◌&&◌, ◌||◌, is_some, Some, None, Option, ◌==◌, nat_le, nat_lt}
use Rattle.node.specs.Positions.{if_given}
use Rattle.std.specs.Option.{option_map}
use Rattle.draft.specs.declared.drafts.Draft.{Draft}
use Rattle.draft.specs.declared.drafts.RawConstant.{RawConstant}
use Rattle.draft.specs.declared.drafts.RawConstant.TheVariants as raw
use Rattle.draft.specs.declared.drafts.RawIdent.{RawIdent}
use Rattle.kind.specs.declared.shapes.Blocks.{Blocks}
use Rattle.kind.specs.declared.shapes.Blocks.TheVariants as blocks
use Rattle.kind.specs.declared.shapes.Extra.{Extra}
use Rattle.kind.specs.declared.shapes.Extra.TheVariants as extra
use Rattle.kind.specs.declared.shapes.Head.{Head}
use Rattle.kind.specs.declared.shapes.Head.TheVariants as head
use Rattle.kind.specs.declared.shapes.Names.{Names}
use Rattle.kind.specs.declared.shapes.Names.TheVariants as names
use Rattle.kind.specs.declared.shapes.Shape.{Shape}
use Rattle.kind.specs.declared.shapes.Value.{Value}
use Rattle.kind.specs.declared.shapes.Value.TheVariants as value

-- how many expressions a head may have
abbrev pub fits_head : Head → ℕ → Bool
fits_head head.None k = k == 0
fits_head head.Optional k = nat_le k 1
fits_head head.One k = k == 1
fits_head head.Two k = k == 2
fits_head head.Any k = true
fits_head head.Some k = nat_le 1 k

-- a datum is given, or is not
abbrev pub absent : {A : Type 0} → Option A → Bool
absent o = not (is_some o)

-- lists of statements stand only where the kind has them, and there each list has its span
abbrev pub fits_blocks : Option Blocks → Draft → Bool
fits_blocks None d = d.body == 0 && d.branch == 0 && absent d.body_span && absent d.branch_span
fits_blocks (Some blocks.List) d = d.branch == 0 && is_some d.body_span && absent d.branch_span
fits_blocks (Some blocks.Walked) d = is_some d.body_span && is_some d.branch_span
fits_blocks (Some blocks.Held) d = is_some d.body_span && is_some d.branch_span
fits_blocks (Some blocks.Catch) d = is_some d.body_span && is_some d.branch_span

-- arms, references and a default stand only where the kind has arms
abbrev pub no_arms : Draft → Bool
no_arms d = d.arms == 0 && d.values == 0 && d.ranges == 0 && absent d.default

abbrev pub default_fits : Draft → Bool
default_fits d = if_given (λ a. nat_lt a d.arms) d.default

-- a default names an arm; keys are as many as the items, shared names at least one
abbrev pub fits_extra : Option Extra → Draft → ℕ → Bool
fits_extra None d idents = no_arms d && idents == 0
fits_extra (Some extra.Keys) d idents = no_arms d && idents == d.head
fits_extra (Some extra.Arms) d idents = default_fits d && idents == 0
fits_extra (Some extra.Shared) d idents = no_arms d && nat_le 1 idents

-- which constant is given, and a number for each answer
abbrev pub value_of : RawConstant → Value
value_of (raw.Stored place) = value.Stored
value_of (raw.Bool b) = value.Bool
value_of (raw.Integer i) = value.Integer
value_of (raw.Float x) = value.Float
value_of (raw.Char c) = value.Char
value_of (raw.Text run) = value.Text

abbrev pub value_number : Option Value → ℕ
value_number None = 0
value_number (Some value.Stored) = 1
value_number (Some value.Bool) = 2
value_number (Some value.Integer) = 3
value_number (Some value.Float) = 4
value_number (Some value.Char) = 5
value_number (Some value.Text) = 6

-- the constant is the one that the kind has
abbrev pub fits_value : Option Value → Option RawConstant → Bool
fits_value v c = value_number v == value_number (option_map value_of c)

-- two answers agree
abbrev pub same : Bool → Bool → Bool
same true b = b
same false b = not b

-- a name has a position; a name is given with its position, or without one
abbrev pub has_position : RawIdent → Bool
has_position i = is_some i.pos

abbrev pub with_position : Option RawIdent → Bool
with_position None = false
with_position (Some i) = is_some i.pos

abbrev pub without_position : Option RawIdent → Bool
without_position None = false
without_position (Some i) = absent i.pos

-- the names that the kind has
abbrev pub fits_names : Option Names → Draft → Bool
fits_names None d = absent d.first && absent d.second && absent d.namespace
fits_names (Some names.Plain) d = without_position d.first && absent d.second && absent d.namespace
fits_names (Some names.Call) d = without_position d.first && absent d.second
fits_names (Some names.One) d = with_position d.first && absent d.second && absent d.namespace
fits_names (Some names.Counter) d = with_position d.first && (absent d.second || with_position d.second) && absent d.namespace
fits_names (Some names.Two) d = with_position d.first && with_position d.second && absent d.namespace

-- how many children a draft has, and how many places are handed in with it
abbrev pub kids : Draft → ℕ
kids d = d.head + d.body + d.branch + d.arms + d.arms

abbrev pub handed : Draft → ℕ
handed d = kids d + d.values + d.ranges

-- everything that can be told without looking at the children
abbrev pub fits : Shape → Draft → ℕ → ℕ → Bool
fits s d places idents =
    (handed d == places) && fits_head s.head d.head && fits_blocks s.blocks d && fits_extra s.extra d idents
    && fits_value s.value d.constant && fits_names s.names d && same s.flags (is_some d.flags) && same s.position (is_some d.position)
