-- What is said of a line that is refused. Assumes nothing.
use Rattle.std.specs.Prelude.{ℕ, List, ◌++◌, codes, decimal}
use Rattle.outline.specs.declared.faults.Cause.{Cause}
use Rattle.outline.specs.declared.faults.Cause.TheVariants.{Tab, Odd, Skip, Deep, Full, Memory}
use Rattle.outline.specs.declared.faults.OutlineFault.{OutlineFault}

-- what was expected and what was found
abbrev pub cause_text : Cause → List ℕ
cause_text Tab = codes "expected an indent of spaces, found a tab"
cause_text (Odd spaces) = codes "expected an indent of two spaces a level, found " ++ decimal spaces
cause_text (Skip most spaces) = codes "expected an indent of at most " ++ (decimal most ++ (codes " spaces here, found " ++ decimal spaces))
cause_text Deep = codes "expected at most 64 levels, found one more"
cause_text Full = codes "expected at most 4096 entries, found one more"
cause_text Memory = codes "expected memory for the entry, found none"

-- the same behind the number of the line
abbrev pub fault_text : OutlineFault → List ℕ
fault_text f = codes "line " ++ (decimal f.line ++ (codes ": " ++ cause_text f.cause))
