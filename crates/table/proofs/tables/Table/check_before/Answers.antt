use Rattle.std.proofs.Common.{◌≡◌, length, rules}
use Rattle.table.specs.Puts.{due_known, due_range, due_text, due_fit, due_place, stored_due}
use Rattle.table.specs.Reads.{table_state}
use Rattle.table.proofs.Passed.{due_next, due_here}
use Rattle.table.proofs.tables.Table.check_before.Goals as goal
use Rattle.tree.specs.Answers.{passed_unless}

pub returns-in_err-check_range : goal.returns-in_err-check_range
returns-in_err-check_range c =
    let o = c.args.offer.now in
    let r = c.from_residual-in_err-check_range.result in
    let is : r ≡ passed_unless (due_range o.draft.now o.idents.now) = search rules in
    due_next (due_known (table_state c.args.self.now) o.draft.now o.places.now) _ r c.in_ok-check_known.ensures
    (due_next (stored_due o.values o.draft.now.constant) _ r c.in_ok-check_stored.ensures
    (due_here (due_range o.draft.now o.idents.now) _ r c.from_residual-in_err-check_range.ensures.0 is))

pub returns-in_err-check_text : goal.returns-in_err-check_text
returns-in_err-check_text c =
    let text = c.args.self.now.text.now in
    let o = c.args.offer.now in
    let r = c.from_residual-in_err-check_text.result in
    let is : r ≡ passed_unless (due_text (length text) o.draft.now o.idents.now) = search rules in
    due_next (due_known (table_state c.args.self.now) o.draft.now o.places.now) _ r c.in_ok-check_known.ensures
    (due_next (stored_due o.values o.draft.now.constant) _ r c.in_ok-check_stored.ensures
    (due_next (due_range o.draft.now o.idents.now) _ r c.in_ok-check_range.ensures
    (due_here (due_text (length text) o.draft.now o.idents.now) _ r c.from_residual-in_err-check_text.ensures.0 is)))

pub returns-in_err-check_fit : goal.returns-in_err-check_fit
returns-in_err-check_fit c =
    let s = table_state c.args.self.now in
    let text = c.args.self.now.text.now in
    let o = c.args.offer.now in
    let r = c.from_residual-in_err-check_fit.result in
    let is : r ≡ passed_unless (due_fit text o.draft.now o.places.now o.idents.now) = search rules in
    due_next (due_known s o.draft.now o.places.now) _ r c.in_ok-check_known.ensures
    (due_next (stored_due o.values o.draft.now.constant) _ r c.in_ok-check_stored.ensures
    (due_next (due_range o.draft.now o.idents.now) _ r c.in_ok-check_range.ensures
    (due_next (due_text (length text) o.draft.now o.idents.now) _ r c.in_ok-check_text.ensures
    (due_here (due_fit text o.draft.now o.places.now o.idents.now) _ r c.from_residual-in_err-check_fit.ensures.0 is))))

pub returns-in_err-check_sorted : goal.returns-in_err-check_sorted
returns-in_err-check_sorted c =
    let s = table_state c.args.self.now in
    let text = c.args.self.now.text.now in
    let o = c.args.offer.now in
    let r = c.from_residual-in_err-check_sorted.result in
    let is : r ≡ passed_unless (due_place s o.draft.now o.places.now) = search rules in
    due_next (due_known s o.draft.now o.places.now) _ r c.in_ok-check_known.ensures
    (due_next (stored_due o.values o.draft.now.constant) _ r c.in_ok-check_stored.ensures
    (due_next (due_range o.draft.now o.idents.now) _ r c.in_ok-check_range.ensures
    (due_next (due_text (length text) o.draft.now o.idents.now) _ r c.in_ok-check_text.ensures
    (due_next (due_fit text o.draft.now o.places.now o.idents.now) _ r c.in_ok-check_fit.ensures
    (due_here (due_place s o.draft.now o.places.now) _ r c.from_residual-in_err-check_sorted.ensures.0 is)))))
