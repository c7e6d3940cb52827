use Rattle.std.proofs.Common.{◌≡◌, ◌≤◌, true, All, [], drop}
use Rattle.std.specs.List.{flat_map}
use Rattle.tree.specs.Paths.{SameMemory, capacity_of, names_of}
use Rattle.tree.specs.Runs.{paths, run}
use Rattle.tree.proofs.forests.walk_each.Given as goal

-- The names are known and none is too high, the path is empty, and what is left to show comes to the same as all that
-- there was to show.
abbrev pub invariant-loop-n : goal.invariant-loop-n
invariant-loop-n g l = record {
  known : All (λ n. g.T.Tree.known l.tree n ≡ true) l.roots;
  low : All (λ n. g.T.Tree.heights l.tree n ≤ capacity_of l.path) l.roots;
  empty : names_of l.path ≡ [];
  memory : SameMemory l.fn.path l.path;
  so_far : run (λ s q. g.V.Visitor.next s l.tree q) (λ s q. g.V.Visitor.accepts s l.tree q) l.fn.visitor (flat_map (paths (g.T.Tree.children l.tree) 64 []) l.roots)
      ≡ run (λ s q. g.V.Visitor.next s l.tree q) (λ s q. g.V.Visitor.accepts s l.tree q) l.visitor (flat_map (paths (g.T.Tree.children l.tree) 64 (names_of l.path)) (drop l.n-index l.roots));
}
