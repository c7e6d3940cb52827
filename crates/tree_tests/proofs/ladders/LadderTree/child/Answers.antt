use Rattle.std.proofs.Common.{rules}
use lib.ListN.{length-replicate, get_or-replicate}
use Rattle.tree_tests.proofs.ladders.LadderTree.child.Goals as goal

pub returns-then-i-count : goal.returns-then-i-count
returns-then-i-count c = search (rules, length-replicate, get_or-replicate)
