use Rattle.std.proofs.Common.{sym, subst}
use Rattle.marks.specs.Asks.{state}
use Rattle.marks.specs.Positions.{Starts, here}
use Rattle.marks.proofs.asks.KnownNode.start.Goals as goal

pub returns : goal.returns
returns c =
    let at = c.left_most.result in
    c.left_most.ensures.starts c.own_start.result (subst (Starts (state at) at.n) (sym c.own_start.ensures) (here at.n c.left_most.ensures.ends))
