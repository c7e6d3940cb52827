-- Sets of flags, as numbers whose binary digits are the flags. Assumes nothing.
use Rattle.std.specs.Prelude.{ℕ, ◌/◌, ◌%◌, Bool, ◌==◌, bit_and}
use Rattle.node.specs.declared.flags.ASTFlags.{ASTFlags}

-- the flag of this value, a power of two, is in the set
abbrev pub has : ℕ → ASTFlags → Bool
has value f = f.bits / value % 2 == 1

abbrev pub constant : ASTFlags → Bool
constant = has 1

abbrev pub exported : ASTFlags → Bool
exported = has 2

abbrev pub negated : ASTFlags → Bool
negated = has 4

abbrev pub breaks : ASTFlags → Bool
breaks = has 8

-- every flag of the second set is in the first
abbrev pub contains : ASTFlags → ASTFlags → Bool
contains f g = bit_and f.bits g.bits == g.bits
