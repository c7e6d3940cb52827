use Rattle.std.proofs.Common.{◌≡◌, ℕ, ◌<◌, length, get_or, take}
use Rattle.table.specs.Grows.{SameLoans, adopted}
use Rattle.table.specs.State.{blank, state_of}
use Rattle.table.proofs.memory.Memory.adopt.Given as goal

-- the places so far stand under the node, and nothing else changed
abbrev pub invariant-loop-kid : goal.invariant-loop-kid
invariant-loop-kid l =
    (l.self.links ≡ l.initial.self.links)
    × (l.self.used ≡ l.initial.self.used)
    × (l.self.linked ≡ l.initial.self.linked)
    × SameLoans l.initial.self l.self
    × (length l.self.nodes.now ≡ length l.initial.self.nodes.now)
    × ((j : ℕ) → j < length l.initial.self.nodes.now → get_or l.self.nodes.now j blank ≡ adopted (state_of l.initial.self) (take l.kid-index l.kids) l.p j)
