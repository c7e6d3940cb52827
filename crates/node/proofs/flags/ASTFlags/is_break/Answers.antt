use Rattle.std.proofs.Common.{◌∙◌, refl}
use lib.Bits.{and_high}
use Rattle.node.proofs.Digits.{flag}
use Rattle.node.proofs.flags.ASTFlags.is_break.Goals as goal

pub returns : goal.returns
returns c = c.contains.ensures ∙ flag 8 c.args.self.bits (and_high c.args.self.bits 1 3) refl refl
