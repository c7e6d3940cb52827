use Rattle.std.proofs.Common.{◌≡◌, ℕ, ◌-◌, ◌≤◌, drop}
use Rattle.std.specs.List.{flat_map}
use Rattle.tree.specs.Paths.{SameMemory, names_of}
use Rattle.tree.specs.Runs.{paths, run}
use Rattle.tree.proofs.walks.+show.Given as goal

abbrev pub decreases-show : goal.decreases-show
decreases-show g l = g.T.Tree.heights l.tree.now l.n

-- the path is as it was, and what is left to show comes to the same as all that there was to show
abbrev pub invariant-loop-i : goal.invariant-loop-i
invariant-loop-i g l = record {
  back : names_of l.path ≡ names_of l.initial.path;
  memory : SameMemory l.initial.path l.path;
  so_far : (h : ℕ) → g.T.Tree.heights l.tree l.n ≤ h →
      run (λ s q. g.V.Visitor.next s l.tree q) (λ s q. g.V.Visitor.accepts s l.tree q) l.fn.visitor (paths (g.T.Tree.children l.tree) h (names_of l.fn.path) l.n)
      ≡ run (λ s q. g.V.Visitor.next s l.tree q) (λ s q. g.V.Visitor.accepts s l.tree q) l.visitor (flat_map (paths (g.T.Tree.children l.tree) (h - 1) (names_of l.path)) (drop l.i (g.T.Tree.children l.tree l.n)));
}
