use Rattle.std.proofs.Common.{arith}
use Rattle.outline.proofs.Reading.{trimmed_start}
use Rattle.outline.proofs.lines.indent.Goals as goal

pub returns : goal.returns
returns c = omega (arith, trimmed_start c.args.line.now c.trim_start_matches.result.now c.trim_start_matches.ensures.matches)
