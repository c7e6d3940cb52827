-- What a line adds to a draft. Assumes nothing.
use Rattle.std.specs.Prelude.{◌≡◌, ℕ, ◌+◌, ◌-◌, ◌^◌, min, cond, List, [], ◌∷◌, ◌++◌, Some, None, Ok, Err, vec_items, vec_len, Option, Result, nat_lt}
use Rattle.outline.specs.Items.{depths_of, items_of, texts_of}
use Rattle.outline.specs.Nesting.{most_after}
use Rattle.outline.specs.Reading.{reading, text_of}
use Rattle.outline.specs.declared.drafts.Draft.{Draft}
use Rattle.outline.specs.declared.faults.Cause.{Cause}
use Rattle.outline.specs.declared.faults.Cause.TheVariants.{Full, Memory}
use Rattle.outline.specs.declared.faults.OutlineFault.{OutlineFault}
use Rattle.outline.specs.declared.outlines.Outline.{Outline}

-- how deep each entry of a draft is, and the texts of them
abbrev pub depths_in : Draft → List ℕ
depths_in draft = depths_of (vec_items draft.items)

abbrev pub texts_in : Draft → List (List ℕ)
texts_in draft = texts_of (vec_items draft.items)

-- the number of the line after so many
abbrev pub number_after : ℕ → ℕ
number_after lines = min (lines + 1) (2 ^ 64 - 1)

-- an entry more than 4,096 is refused
abbrev pub bounded : ℕ → Result (Option ℕ) Cause → Result (Option ℕ) Cause
bounded count (Ok None) = Ok None
bounded count (Ok (Some d)) = cond (nat_lt count 4096) (Ok (Some d)) (Err Full)
bounded count (Err c) = Err c

-- how deep the entry of the next line is, or none for a line without text, or why the line is refused
abbrev pub judged : Draft → List ℕ → Result (Option ℕ) Cause
judged draft line = bounded (vec_len draft.items) (reading line (most_after (depths_in draft)))

-- a draft with one entry more
abbrev pub Longer : Draft → ℕ → List ℕ → Draft → Type 0
Longer before d text after = (depths_in after ≡ depths_in before ++ d ∷ []) × (texts_in after ≡ texts_in before ++ text ∷ [])

-- what a line adds, as it is judged
abbrev pub Grown : Result (Option ℕ) Cause → Draft → List ℕ → Draft → Type 0
Grown (Ok None) before line after = (depths_in after ≡ depths_in before) × (texts_in after ≡ texts_in before)
Grown (Ok (Some d)) before line after = Longer before d (text_of line) after
Grown (Err c) before line after = ⊥

-- why it is not added, as it is judged: for its own cause, or an entry for want of memory
abbrev pub Denied : Result (Option ℕ) Cause → Cause → Type 0
Denied (Ok None) cause = ⊥
Denied (Ok (Some d)) cause = cause ≡ Memory
Denied (Err c) cause = cause ≡ c

-- A line was added, and counted; or it was refused, by its number.
abbrev pub Added : Draft → List ℕ → Result Draft OutlineFault → Type 0
Added before line (Ok after) = Grown (judged before line) before line after × (after.lines ≡ number_after before.lines)
Added before line (Err f) = Denied (judged before line) f.cause × (f.line ≡ number_after before.lines)

-- an outline has the entries of a draft
abbrev pub Finished : Draft → Outline → Type 0
Finished draft o = items_of (vec_items o.branches) ≡ vec_items draft.items
