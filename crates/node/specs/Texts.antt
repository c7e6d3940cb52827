-- Runs of a text, and views of them. Assumes nothing.
use Rattle.std.specs.Prelude.{◌≡◌, ℕ, ◌+◌, ◌≤◌, List, length, take, drop}
use Rattle.node.specs.declared.records.Run.{Run}
use Rattle.node.specs.declared.views.View.{View}

-- the bytes from `start` on, `len` of them so far as the text goes
abbrev pub part_of : List ℕ → ℕ → ℕ → List ℕ
part_of text start len = take len (drop start text)

-- the bytes of a run
abbrev pub bytes_of : List ℕ → Run → List ℕ
bytes_of text run = part_of text run.start run.len

-- the bytes that a view shows
abbrev pub viewed : View → List ℕ
viewed v = bytes_of v.text.now v.run

-- a view shows this run of this text, and the run lies within it
abbrev pub Shows : List ℕ → Run → View → Type 0
Shows text run v = (run.start + run.len ≤ length text) × (v.text.now ≡ text) × (v.run ≡ run)
