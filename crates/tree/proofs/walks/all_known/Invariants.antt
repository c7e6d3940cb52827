use Rattle.std.proofs.Common.{◌≡◌, drop}
use Rattle.tree.specs.Walks.{first_missing}
use Rattle.tree.proofs.walks.all_known.Given as goal

-- the names passed are known
abbrev pub invariant-loop-n : goal.invariant-loop-n
invariant-loop-n g l =
    let t = g.T.Tree in
    first_missing (t.known l.tree) (t.missing l.tree) (drop l.n-index l.names)
    ≡ first_missing (t.known l.tree) (t.missing l.tree) l.names
