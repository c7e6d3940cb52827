use Rattle.draft.proofs.Chains.{upto, GoesOn}
use Rattle.draft.proofs.keys.on_chain.Given as goal

abbrev pub invariant-loop-at : goal.invariant-loop-at
invariant-loop-at l = GoesOn l.text l.keys l.bytes l.at

abbrev pub decreases-loop-at : goal.decreases-loop-at
decreases-loop-at l = upto l.at
