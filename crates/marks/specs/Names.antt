-- The names of variables. Assumes nothing.
use Rattle.std.specs.Prelude.{◌≡◌, ℕ, ◌+◌, ◌<◌, Bool, true, false, cond, ◌&&◌, List, length, Some, None, Ok, Err, Option, Result}
use Rattle.node.specs.Texts.{Shows}
use Rattle.node.specs.declared.faults.TableFault.{TableFault}
use Rattle.node.specs.declared.faults.TableFault.TheVariants.{Missing, Misfit, Text}
use Rattle.kind.specs.declared.kinds.ExprKind.TheVariants as expr
use Rattle.node.specs.declared.records.Details.{Details}
use Rattle.node.specs.declared.records.Ident.{Ident}
use Rattle.node.specs.declared.records.Run.{Run}
use Rattle.node.specs.declared.records.Second.{Second}
use Rattle.node.specs.declared.records.Second.TheVariants as second
use Rattle.node.specs.declared.views.View.{View}
use Rattle.kind.specs.Kinds.{is_stmt}
use Rattle.table.specs.Facts.{known}
use Rattle.table.specs.Reads.{table_state}
use Rattle.table.specs.State.{State, node_at}
use Rattle.table.specs.declared.tables.Table.{Table}
use Rattle.marks.specs.Marks.{is_expr_of}

-- a namespace stands before the name
abbrev pub qualified : Option Second → Bool
qualified None = false
qualified (Some (second.Name i)) = false
qualified (Some (second.Namespace q)) = true
qualified (Some (second.Default arm)) = false

abbrev pub run_in : Option Ident → Option Run
run_in None = None
run_in (Some i) = Some i.name

-- the name of a variable; none at any other kind, and at a qualified one where only unqualified ones are asked for
abbrev pub variable_name : Bool → Details → Option Run
variable_name unqualified d = cond (is_expr_of expr.Variable d.kind) (cond (unqualified && qualified d.second) None (run_in d.first)) None

-- a view of it, if there is one; a run that ends beyond the text
abbrev pub Viewed : List ℕ → Option Run → Option View → Type 0
Viewed text None None = Unit {0}
Viewed text None (Some v) = ⊥
Viewed text (Some run) None = ⊥
Viewed text (Some run) (Some v) = Shows text run v

abbrev pub Beyond : List ℕ → Option Run → Type 0
Beyond text None = ⊥
Beyond text (Some run) = length text < run.start + run.len

-- why there is no answer: fault 2 at an unknown place, fault 5 at a statement, fault 4 where the name ends beyond the text
abbrev pub NoName : Bool → Bool → ℕ → Type 0 → TableFault → Type 0
NoName false stmt n beyond e = e ≡ Missing n
NoName true true n beyond e = e ≡ Misfit n
NoName true false n beyond e = beyond × (e ≡ Text (record { place = 0 }) n)

abbrev pub NameAnswer : List ℕ → State → ℕ → Bool → Result (Option View) TableFault → Type 0
NameAnswer text s n unqualified (Ok view) =
    (known s n ≡ true) × (is_stmt (node_at s n).details.kind ≡ false) × Viewed text (variable_name unqualified (node_at s n).details) view
NameAnswer text s n unqualified (Err e) = NoName (known s n) (is_stmt (node_at s n).details.kind) n (Beyond text (variable_name unqualified (node_at s n).details)) e

abbrev pub TableNames : Table → ℕ → Bool → Result (Option View) TableFault → Type 0
TableNames t = NameAnswer t.text.now (table_state t)
