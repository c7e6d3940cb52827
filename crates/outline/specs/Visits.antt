-- What the visitors over an outline do with a path. Assumes nothing.
use Rattle.std.specs.Prelude.{ℕ, ◌+◌, ◌-◌, min, Bool, true, false, cond, ◌&&◌, List, length, take, ◌==◌, nat_lt, slice_index_or, slice_set}
use denote.Ref.{at_last}
use Rattle.std.specs.Str.{bytes_eq}
use Rattle.outline.specs.Trees.{known_in, text_in}
use Rattle.outline.specs.declared.entries.Entry.{Entry}
use Rattle.outline.specs.declared.outlines.Outline.{Outline}
use Rattle.outline.specs.declared.visitors.Record.{Record}
use Rattle.outline.specs.declared.visitors.Shown.{Shown}

-- the entry that a path ends at
abbrev pub last_of : List Entry → Entry
last_of path = slice_index_or path (length path - 1) (record { number = 0 })

-- the lines that a record holds, the first first
abbrev pub recorded : Record → List Shown
recorded r = take (min r.len (length r.lines.now)) r.lines.now

-- there is room for one line more
abbrev pub room_for : Record → List Entry → Bool
room_for r path = cond (length path == 0) true (nat_lt r.len (length r.lines.now))

-- the record with the line of a path, where there is room for it
abbrev pub noted : Record → List Entry → Record
noted r path = cond (length path == 0) r (cond (nat_lt r.len (length r.lines.now))
    (record { lines = at_last r.lines (slice_set r.lines.now r.len (record { entry = last_of path; names = length path })); len = r.len + 1 }) r)

-- a path ends at an entry whose text is a word
abbrev pub ends_at : Outline → List Entry → List ℕ → Bool
ends_at o path word = cond (length path == 0) false (known_in o (last_of path) && bytes_eq (text_in o (last_of path)) word)
