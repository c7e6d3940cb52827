use Rattle.draft.proofs.Chains.{DistinctTo}
use Rattle.draft.proofs.keys.distinct_by_pairs.Given as goal

-- the keys passed are distinct
abbrev pub invariant-loop-i : goal.invariant-loop-i
invariant-loop-i l = DistinctTo l.text l.keys l.i
