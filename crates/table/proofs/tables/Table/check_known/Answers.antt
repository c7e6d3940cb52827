use Rattle.std.proofs.Common.{[], Some, None, sym, ap, ◌∙◌}
use Rattle.std.specs.Option.{option_map}
use Rattle.node.specs.declared.faults.TableFault.TheVariants.{Missing}
use Rattle.table.specs.Facts.{known}
use Rattle.table.specs.Reads.{table_state}
use Rattle.table.specs.Tests.{first_failing, is_known}
use Rattle.table.proofs.Failing.{find_failing}
use Rattle.table.proofs.tables.Table.check_known.Goals as goal
use Rattle.tree.specs.Answers.{passed_unless}

pub returns-in-Some : goal.returns-in-Some
returns-in-Some c =
    let first = find_failing (known (table_state c.args.self.now)) [] c.kid_places.result.now in
    ap (λ o. passed_unless (option_map Missing o)) {x = Some c.in-Some.place}
    (sym c.in-Some.is ∙ c.first_unknown.ensures ∙ first ∙ ap (first_failing (is_known (table_state c.args.self.now)) []) c.kid_places.ensures)

pub returns-in-None : goal.returns-in-None
returns-in-None c =
    let first = find_failing (known (table_state c.args.self.now)) [] c.kid_places.result.now in
    ap (λ o. passed_unless (option_map Missing o)) {x = None}
    (sym c.in-None.is ∙ c.first_unknown.ensures ∙ first ∙ ap (first_failing (is_known (table_state c.args.self.now)) []) c.kid_places.ensures)
