use Rattle.std.proofs.Common.{◌≡◌, true, sym, ap, ◌∙◌, subst}
use Rattle.table.specs.Facts.{kid}
use Rattle.table.specs.Reads.{table_state}
use Rattle.marks.specs.Asks.{record_of, state}
use Rattle.marks.specs.Positions.{Starts, left, has_left}
use Rattle.marks.proofs.asks.KnownNode.left_most.Goals as goal

pub loop-at-preserved : goal.loop-at-preserved
loop-at-preserved c =
    let at = c.loop-at.at in
    let first = c.kid-at.result in
    let has : has_left (record_of at) ≡ true = sym (ap has_left c.record.ensures) ∙ sym c.has_left.ensures ∙ c.loop-at-test.true in (
      c.kid-at.ensures.0.0 ∙ c.loop-at.invariant.0,
      λ p starts. c.loop-at.invariant.1 p (left at.n p has (subst (λ n. Starts (state at) n p) c.kid-at.ensures.0.1 (subst (λ t. Starts (table_state t) first.n p) c.kid-at.ensures.0.0 starts))),
    )
