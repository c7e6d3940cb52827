-- When a put is refused, and with what. Assumes nothing.
use Rattle.std.specs.Prelude.{◌≡◌, ℕ, suc, ◌+◌, min, Bool, true, false, not, ◌&&◌, ◌||◌, ltb, List, [], ◌∷◌, length, take, drop, Some, None, Ok, Err, Option, Result, ◌==◌, nat_le, nat_lt, slice_index}
use Rattle.std.specs.List.{list_all}
use Rattle.std.specs.Option.{option_map}
use Rattle.draft.specs.Details.{details_of, kind_of}
use Rattle.draft.specs.Drafts.{in_range, runs_within, ident_in_range, ident_within}
use Rattle.draft.specs.Fits.{fits, handed, has_position}
use Rattle.draft.specs.Fits as draft_fits
use Rattle.draft.specs.Keys.{key_bytes}
use Rattle.draft.specs.declared.drafts.Draft.{Draft}
use Rattle.draft.specs.declared.drafts.RawConstant.{RawConstant}
use Rattle.draft.specs.declared.drafts.RawConstant.TheVariants as raw
use Rattle.draft.specs.declared.drafts.RawIdent.{RawIdent}
use Rattle.kind.specs.Shapes.{shape_of}
use Rattle.node.specs.Parts.{links}
use Rattle.node.specs.declared.faults.StoreFault.TheVariants as store
use Rattle.node.specs.declared.faults.TableFault.{TableFault}
use Rattle.node.specs.declared.faults.TableFault.TheVariants.{Missing, Range, Text, Misfit, Held, Size, Full, Store}
use Rattle.node.specs.declared.records.Node.{Node}
use Rattle.node.specs.declared.records.Parts.{Parts}
use Rattle.kind.specs.declared.shapes.Extra.{Extra}
use Rattle.kind.specs.declared.shapes.Extra.TheVariants as extra
use Rattle.table.specs.Grows.{Grown, new_link}
use Rattle.table.specs.State.{State, walked, highest, all_lines}
use Rattle.table.specs.Tests.{first_failing, is_known, in_place, not_held}

-- the children of a draft among the places handed in with it
abbrev pub kid_list : Draft → List ℕ → List ℕ
kid_list d places = take (draft_fits.kids d) places

-- shared names stand in links of their own, keys with the items
abbrev pub shared_of : Option Extra → ℕ → ℕ
shared_of None idents = 0
shared_of (Some extra.Keys) idents = 0
shared_of (Some extra.Arms) idents = 0
shared_of (Some extra.Shared) idents = idents

abbrev pub parts_of : Draft → ℕ → ℕ → Parts
parts_of d start idents = record {
  start = start;
  head = d.head;
  body = d.body;
  branch = d.branch;
  arms = d.arms;
  values = d.values;
  ranges = d.ranges;
  shared = shared_of (shape_of (kind_of d.kind)).extra idents;
}

-- what is handed in for the k-th link of a node to be put
abbrev pub handed_in : List ℕ → ℕ → ℕ
handed_in places k = slice_index places k

-- the height and the number of lines that the node would have
abbrev pub height_of : State → Draft → List ℕ → ℕ
height_of s d places = suc (highest s (walked (handed_in places) (details_of d) (parts_of d 0 0)))

abbrev pub lines_of : State → Draft → List ℕ → ℕ
lines_of s d places = suc (all_lines s (walked (handed_in places) (details_of d) (parts_of d 0 0)))

-- the node as it is put
abbrev pub node_of : State → Draft → List ℕ → ℕ → Node
node_of s d places idents = record { details = details_of d; parts = parts_of d s.linked idents; up = None; height = height_of s d places; lines = lines_of s d places }

-- no fault where a test holds
abbrev pub unless : Bool → TableFault → Option TableFault
unless true f = None
unless false f = Some f

abbrev pub or_else : Option TableFault → Option TableFault → Option TableFault
or_else None b = b
or_else (Some f) b = Some f

-- fault 2: a child that is no node; then a stored constant that the store, which has so many values and at most 4,096, has not
abbrev pub due_known : State → Draft → List ℕ → Option TableFault
due_known s d places = option_map Missing (first_failing (is_known s) [] (kid_list d places))

abbrev pub constant_due : ℕ → RawConstant → Option TableFault
constant_due values (raw.Stored place) = unless (nat_lt place (min values 4096)) (Store (store.Missing place) 0)
constant_due values (raw.Bool b) = None
constant_due values (raw.Integer i) = None
constant_due values (raw.Float x) = None
constant_due values (raw.Char c) = None
constant_due values (raw.Text run) = None

abbrev pub stored_due : ℕ → Option RawConstant → Option TableFault
stored_due values None = None
stored_due values (Some c) = constant_due values c

-- fault 3: a number out of range
abbrev pub due_range : Draft → List RawIdent → Option TableFault
due_range d idents = unless (in_range d && list_all ident_in_range idents) (Range 0)

-- fault 4: a run beyond the text, which has so many bytes
abbrev pub due_text : ℕ → Draft → List RawIdent → Option TableFault
due_text text d idents = unless (runs_within text d && list_all (ident_within text) idents) (Text (record { place = 0 }) 0)

-- two names have the same bytes; one of some keys has these bytes; no two keys have the same
abbrev pub same_bytes : List ℕ → List ℕ → Bool
same_bytes [] [] = true
same_bytes [] (y ∷ ys) = false
same_bytes (x ∷ xs) [] = false
same_bytes (x ∷ xs) (y ∷ ys) = x == y && same_bytes xs ys

abbrev pub key_among : List ℕ → List ℕ → List RawIdent → Bool
key_among text bytes [] = false
key_among text bytes (key ∷ keys) = same_bytes bytes (key_bytes text key) || key_among text bytes keys

abbrev pub keys_apart : List ℕ → List RawIdent → Bool
keys_apart text [] = true
keys_apart text (key ∷ keys) = not (key_among text (key_bytes text key) keys) && keys_apart text keys

abbrev pub keys_fit : Option Extra → List ℕ → List RawIdent → Bool
keys_fit None text keys = true
keys_fit (Some extra.Keys) text keys = keys_apart text keys
keys_fit (Some extra.Arms) text keys = true
keys_fit (Some extra.Shared) text keys = true

-- fault 5: parts and data that do not fit the kind; then the first child that is a statement for an expression or the other way round
abbrev pub extras_fit : Option Extra → List ℕ → Draft → List ℕ → List RawIdent → Bool
extras_fit x text d places idents = list_all has_position idents && list_all (λ arm. ltb arm d.arms) (drop (draft_fits.kids d) places) && keys_fit x text idents

abbrev pub parts_fit : List ℕ → Draft → List ℕ → List RawIdent → Bool
parts_fit text d places idents =
    fits (shape_of (kind_of d.kind)) d (length places) (length idents) && extras_fit (shape_of (kind_of d.kind)).extra text d places idents

abbrev pub due_fit : List ℕ → Draft → List ℕ → List RawIdent → Option TableFault
due_fit text d places idents = unless (parts_fit text d places idents) (Misfit 0)

abbrev pub due_place : State → Draft → List ℕ → Option TableFault
due_place s d places = option_map Misfit (first_failing (in_place s (parts_of d 0 0)) [] (kid_list d places))

-- fault 6: a child that has a parent, or is named twice
abbrev pub due_held : State → Draft → List ℕ → Option TableFault
due_held s d places = option_map Held (first_failing (not_held s) [] (kid_list d places))

-- fault 7: higher than 64, or more than 65,535 lines
abbrev pub due_size : State → Draft → List ℕ → Option TableFault
due_size s d places = unless (nat_le (height_of s d places) 64 && nat_le (lines_of s d places) 65535) (Size 0)

-- fault 8: no node or too few links left
abbrev pub due_room : State → Draft → ℕ → Option TableFault
due_room s d idents = unless (nat_lt s.used (min (length s.nodes) 4096) && nat_le (s.linked + links (parts_of d 0 idents)) (min (length s.links) 8192)) (Full 0)

-- the refusals that are due before any count is made, in the order of their numbers
abbrev pub due_before : State → List ℕ → Draft → List ℕ → List RawIdent → ℕ → Option TableFault
due_before s text d places idents values =
    or_else (due_known s d places) (or_else (stored_due values d.constant) (or_else (due_range d idents) (or_else (due_text (length text) d idents)
    (or_else (due_fit text d places idents) (or_else (due_place s d places) (due_held s d places))))))

-- the refusal of a put: the first that is due in the order of the numbers
abbrev pub put_refusal : State → List ℕ → Draft → List ℕ → List RawIdent → ℕ → Option TableFault
put_refusal s text d places idents values = or_else (due_before s text d places idents values) (or_else (due_size s d places) (due_room s d (length idents)))

-- A put that is due a refusal is refused with it, and the memory is what it was. Any other puts the node at the
-- first unused place, which it answers.
abbrev pub Put : State → List ℕ → Draft → List ℕ → List RawIdent → ℕ → Result ℕ TableFault → State → Type 0
Put s text d places idents values (Ok at) s' =
    (put_refusal s text d places idents values ≡ None) × (at ≡ s.used)
    × Grown s s' (node_of s d places (length idents)) (kid_list d places) (new_link places idents) (links (parts_of d 0 (length idents)))
Put s text d places idents values (Err f) s' = (put_refusal s text d places idents values ≡ Some f) × (s' ≡ s)
