use Rattle.std.proofs.lemmas.Bool.Decides.{not_from_Decides}
use Rattle.draft.proofs.Chains.{distinct_more}
use Rattle.draft.proofs.keys.distinct_by_pairs.Goals as goal

pub loop-i-preserved : goal.loop-i-preserved
loop-i-preserved c = search (distinct_more, not_from_Decides, c.loop-i.invariant)
