use Rattle.std.proofs.Common.{ℕ, ◌<◌, get_or}
use Rattle.table.specs.State.{children}
use Rattle.marks.specs.Asks.{state, record_of}
use Rattle.marks.specs.Marks.{IsConstant}
use Rattle.marks.proofs.asks.KnownNode.+is_constant.Given as goal

abbrev pub decreases-is_constant : goal.decreases-is_constant
decreases-is_constant l = (record_of l.self.now).height

-- the children passed are constant
abbrev pub invariant-loop-i : goal.invariant-loop-i
invariant-loop-i l = (k : ℕ) → k < l.i → IsConstant (state l.self) (get_or (children (state l.self) l.self.n) k l.self.n)
