use Rattle.std.proofs.lemmas.Bool.Decides.{not_from_Decides}
use Rattle.draft.proofs.Chains.{chain_starts, chain_falls, chain_goes}
use Rattle.draft.proofs.keys.on_chain.Goals as goal

pub loop-at-init : goal.loop-at-init
loop-at-init c = search chain_starts

pub loop-at-smaller : goal.loop-at-smaller
loop-at-smaller c = search (chain_falls, c.requires.chained)

pub loop-at-preserved : goal.loop-at-preserved
loop-at-preserved c = search (chain_goes, c.requires.chained, not_from_Decides)
