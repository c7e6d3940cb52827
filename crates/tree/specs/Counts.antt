-- The tally: how many lines of descent there are. Assumes nothing.
use Rattle.std.specs.Prelude.{◌≡◌, ℕ, ◌+◌, min, Bool, List, Some, None, Ok, Err, Result}
use Rattle.tree.specs.Lines.{Numbers}
use Rattle.tree.specs.Paths.{names_of}
use Rattle.tree.specs.Walks.{refusal}
use Rattle.tree.specs.declared.stacks.PathStack.{PathStack}
use Rattle.tree.specs.declared.tallies.Tally.{Tally}
use Rattle.tree.specs.declared.walks.WalkFault.{WalkFault}

-- one line more; at 65,535 it stays
abbrev pub one_more : Tally → Tally
one_more t = record { count = min (t.count + 1) 65535 }

-- The answer is the number of lines of descent from the start, or 65,535 where there are more, and the path
-- is the initial one; or the refusal that is due, and the path and its memory are what they were.
abbrev pub Counted : {N F : Type 0} → (N → Bool) → (N → ℕ) → (N → List N) → (N → F) → N → PathStack N → Result ℕ (WalkFault N F) → PathStack N → Type 0
Counted known heights children missing start path (Ok count) path' =
    (refusal known heights missing start path ≡ None) × (names_of path' ≡ names_of path) × ((n : ℕ) × Numbers children start n × (count ≡ min n 65535))
Counted known heights children missing start path (Err f) path' = (refusal known heights missing start path ≡ Some f) × (path' ≡ path)
