use Rattle.std.proofs.Common.{◌≡◌}
use Rattle.node.specs.declared.positions.Position.{Position}
use Rattle.table.specs.Facts.{rank}
use Rattle.marks.specs.Asks.{state}
use Rattle.marks.specs.Positions.{Starts}
use Rattle.marks.proofs.asks.KnownNode.left_most.Given as goal

-- the node starts where the one that was reached does
abbrev pub invariant-loop-at : goal.invariant-loop-at
invariant-loop-at l = (l.at.table.now ≡ l.self.table.now) × ((p : Position) → Starts (state l.at) l.at.n p → Starts (state l.self) l.self.n p)

abbrev pub decreases-loop-at : goal.decreases-loop-at
decreases-loop-at l = rank (state l.at) l.at.n
