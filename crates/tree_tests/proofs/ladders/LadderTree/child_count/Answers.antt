use Rattle.std.proofs.Common.{rules}
use lib.ListN.{length-replicate}
use Rattle.tree_tests.proofs.ladders.LadderTree.child_count.Goals as goal

pub returns-then-n-gt1 : goal.returns-then-n-gt1
returns-then-n-gt1 c = search (rules, length-replicate)
