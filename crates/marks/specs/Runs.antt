-- Inner: where the code finds the counted children among a node's links, and what it has found so far. No promise
-- rests on this page. Assumes nothing.
use Rattle.std.specs.Prelude.{◌≡◌, ℕ, ◌+◌, true, length}
use Rattle.node.specs.Parts.{references, run_count}
use Rattle.node.specs.declared.records.Details.{Details}
use Rattle.node.specs.declared.records.Parts.{Parts}
use Rattle.table.specs.Seen.{marked}
use Rattle.table.specs.declared.seen.Seen.{Seen}
use Rattle.table.specs.State.{State, default_of}
use Rattle.marks.specs.Marks.{counted_blocks, IsPure}

-- how many children count
abbrev pub counted_count : Details → Parts → ℕ
counted_count d p = run_count (counted_blocks d.kind) p + (references p + references p + length (default_of d.second))

-- what is marked is pure
abbrev pub AllPure : State → Seen → Type 0
AllPure s found = (j : ℕ) → marked found j ≡ true → IsPure s j
