use Rattle.std.proofs.Common.{◌∙◌, refl}
use lib.Bits.{and_high}
use Rattle.node.proofs.Digits.{flag}
use Rattle.node.proofs.flags.ASTFlags.is_constant.Goals as goal

pub returns : goal.returns
returns c = c.contains.ensures ∙ flag 1 c.args.self.bits (and_high c.args.self.bits 1 0) refl refl
