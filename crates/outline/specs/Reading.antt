-- What one line of an outline says, by its bytes. Assumes nothing.
use Rattle.std.specs.Prelude.{ℕ, ◌-◌, ◌*◌, ◌/◌, ◌%◌, Bool, cond, ◌||◌, List, length, take, drop, Some, None, Ok, Err, Option, Result, ◌==◌, nat_lt, slice_index}
use Rattle.std.specs.List.{suffix_len, prefix_len}
use Rattle.outline.specs.declared.faults.Cause.{Cause}
use Rattle.outline.specs.declared.faults.Cause.TheVariants.{Tab, Odd, Skip, Deep}

-- a space; a space or a carriage return
abbrev pub is_space : ℕ → Bool
is_space b = b == 32

abbrev pub is_blank : ℕ → Bool
is_blank b = b == 32 || b == 13

-- how many spaces a line begins with
abbrev pub spaces : List ℕ → ℕ
spaces line = prefix_len is_space line

-- where the text ends: at the blanks that close the line
abbrev pub text_end : List ℕ → ℕ
text_end line = length line - suffix_len is_blank line

-- the text of a line, between the two
abbrev pub text_of : List ℕ → List ℕ
text_of line = take (text_end line - spaces line) (drop (spaces line) line)

-- How deep the entry of a line is, where it may be so deep at most.
-- A line without text has none. A tab in the indent, an odd number of spaces, an entry that is too deep here
-- and one below level 64 are refused, in this order.
abbrev pub reading : List ℕ → ℕ → Result (Option ℕ) Cause
reading line most =
    cond (length (text_of line) == 0) (Ok None)
    (cond (slice_index (text_of line) 0 == 9) (Err Tab)
    (cond (spaces line % 2 == 1) (Err (Odd (spaces line)))
    (cond (nat_lt most (spaces line / 2)) (Err (Skip (most * 2) (spaces line)))
    (cond (nat_lt (spaces line / 2) 64) (Ok (Some (spaces line / 2))) (Err Deep)))))
