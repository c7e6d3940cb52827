use Rattle.std.proofs.Common.{ℕ, ◌+◌, ◌*◌, ◌<◌, get_or}
use Rattle.table.specs.Facts.{rank}
use Rattle.marks.specs.Asks.{state}
use Rattle.marks.specs.Marks.{IsPure, counted}
use Rattle.marks.specs.Runs.{AllPure}
use Rattle.marks.proofs.asks.KnownNode.+purity.Given as goal

-- the rank falls from a node to its counted children, and there are three steps at each node
abbrev pub decreases-expr_is_pure : goal.decreases-expr_is_pure
decreases-expr_is_pure l = 3 * rank (state l.self.now) l.self.now.n + 1

abbrev pub decreases-harmless_is_pure : goal.decreases-harmless_is_pure
decreases-harmless_is_pure l = 3 * rank (state l.self.now) l.self.now.n

abbrev pub decreases-is_pure : goal.decreases-is_pure
decreases-is_pure l = 3 * rank (state l.self.now) l.self.now.n + 2

abbrev pub decreases-stmt_is_pure : goal.decreases-stmt_is_pure
decreases-stmt_is_pure l = 3 * rank (state l.self.now) l.self.now.n + 1

-- the children passed are pure, and so is what is marked
abbrev pub invariant-harmless_is_pure-loop-i : goal.invariant-harmless_is_pure-loop-i
invariant-harmless_is_pure-loop-i l =
    ((k : ℕ) → k < l.i → IsPure (state l.self) (get_or (counted (state l.self) l.self.n) k l.self.n)) × AllPure (state l.self) l.found
