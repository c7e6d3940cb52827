use Rattle.std.proofs.Common.{◌≡◌, true, All, drop}
use Rattle.tree.specs.Forests.{first_high}
use Rattle.tree.specs.Paths.{capacity_of}
use Rattle.tree.proofs.forests.admit_each.Given as goal

-- the names are known, and those passed are not too high
abbrev pub invariant-loop-n : goal.invariant-loop-n
invariant-loop-n g l =
    let heights = g.T.Tree.heights l.tree in
    record {
      known : All (λ n. g.T.Tree.known l.tree n ≡ true) l.roots;
      low : first_high {F = g.row.T-Fault.Denot} heights (capacity_of l.path) (drop l.n-index l.roots) ≡ first_high {F = g.row.T-Fault.Denot} heights (capacity_of l.path) l.roots;
    }
