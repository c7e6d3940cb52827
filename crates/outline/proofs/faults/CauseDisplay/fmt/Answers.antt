use Rattle.outline.proofs.faults.CauseDisplay.fmt.Goals as goal

pub returns-in-Skip-clause-writes : goal.returns-in-Skip-clause-writes
returns-in-Skip-clause-writes g c = simp c.in-Skip.is c.write-in-Skip.ensures.writes
