use Rattle.std.proofs.Common.{◌≡◌, ℕ, ◌<◌, get_or}
use Rattle.table.specs.Grows.{new_link}
use Rattle.table.specs.State.{blank_link}
use Rattle.table.proofs.memory.Memory.lay.Given as goal

-- the links so far are written
abbrev pub invariant-loop-k : goal.invariant-loop-k
invariant-loop-k l = (j : ℕ) → j < l.k → get_or l.link-items j blank_link ≡ new_link l.new.places.now l.new.idents.now j
