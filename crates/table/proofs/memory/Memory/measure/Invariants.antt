use Rattle.std.proofs.Common.{◌≡◌, suc, ◌+◌, ◌≤◌, min, max, get_or, drop}
use Rattle.table.specs.State.{state_of, walked, highest, all_lines}
use Rattle.table.proofs.memory.Memory.measure.Given as goal

-- what is left, with what was met, comes to the whole
abbrev pub invariant-loop-i : goal.invariant-loop-i
invariant-loop-i l =
    let xs = walked (λ k. get_or l.family.named.now k 0) l.family.details.now l.family.parts.now in
    (l.height ≤ 65535)
    × (l.lines ≤ 65536)
    × (max l.height (highest (state_of l.self) (drop l.i xs)) ≡ highest (state_of l.self) xs)
    × (min (l.lines + all_lines (state_of l.self) (drop l.i xs)) 65536 ≡ min (suc (all_lines (state_of l.self) xs)) 65536)
