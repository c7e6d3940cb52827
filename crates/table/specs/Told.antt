-- What the height and the number of lines that a table tells mean, over lines of descent. Assumes nothing.
use Rattle.std.specs.Prelude.{◌≡◌, ℕ, suc, ◌≤◌, List, length, Ok, Err, Result}
use Rattle.node.specs.declared.faults.TableFault.{TableFault}
use Rattle.tree.specs.Lines.{Follow, Numbers}
use Rattle.table.specs.State.{State, children}

-- a height is one more than the length of the longest line of descent
pub record Longest (s : State) (n height : ℕ) : Type 0 where
  pub most : (line : List ℕ) → Follow (children s) n line → suc (length line) ≤ height
  pub reached : (line : List ℕ) × Follow (children s) n line × (suc (length line) ≡ height)

-- a number that is told of a node is the number of its lines of descent, a height that of its longest line
abbrev pub IsLines : State → ℕ → Result ℕ TableFault → Type 0
IsLines s n (Ok lines) = Numbers (children s) n lines
IsLines s n (Err f) = Unit {0}

abbrev pub IsHeight : State → ℕ → Result ℕ TableFault → Type 0
IsHeight s n (Ok height) = Longest s n height
IsHeight s n (Err f) = Unit {0}
