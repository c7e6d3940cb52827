use Rattle.std.proofs.Common.{vec_items}
use Rattle.outline.specs.Items.{lists_of}
use Rattle.outline.proofs.Nest.{Nesting}
use Rattle.outline.proofs.building.nest.Given as goal

abbrev pub invariant-loop-i : goal.invariant-loop-i
invariant-loop-i l = Nesting l.initial.branches l.branches (lists_of (vec_items l.free)) l.i
