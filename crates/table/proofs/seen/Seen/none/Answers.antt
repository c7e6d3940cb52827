use Rattle.std.proofs.Common.{rules}
use Rattle.table.proofs.Has.{unmarked}
use Rattle.table.proofs.seen.Seen.none.Goals as goal

pub returns : goal.returns
returns c j = search (rules, unmarked 4096 j)
