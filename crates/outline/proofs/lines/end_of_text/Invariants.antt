use Rattle.std.proofs.Common.{◌≡◌, ◌+◌, ◌<◌, ◌≤◌, length, get_or, take}
use Rattle.std.specs.List.{suffix_len}
use Rattle.outline.specs.Reading.{is_blank}
use Rattle.outline.proofs.lines.end_of_text.Given as goal

-- what is kept begins the line, and what is cut off and what is left to cut are the blanks that close it
abbrev pub invariant-loop-kept : goal.invariant-loop-kept
invariant-loop-kept l =
    (l.kept ≡ take (length l.kept) l.line) × (length l.kept ≤ length l.line)
    × (length l.kept + suffix_len is_blank l.line ≡ length l.line + suffix_len is_blank l.kept)
    × (length l.kept < length l.line → get_or l.line (length l.kept) 0 < 128)

abbrev pub decreases-loop-kept : goal.decreases-loop-kept
decreases-loop-kept l = length l.kept
