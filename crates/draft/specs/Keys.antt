-- Keys of a map, told apart by their bytes. Assumes nothing.
use Rattle.std.specs.Prelude.{◌≡◌, ℕ, ◌<◌, List, length, None, ◌≢◌, slice_index_or}
use Rattle.node.specs.Texts.{part_of}
use Rattle.draft.specs.declared.drafts.RawIdent.{RawIdent}

-- a key that is nowhere read: what stands past the end of a list
abbrev pub no_key : RawIdent
no_key = record { name = record { start = 0; len = 0 }; pos = None }

-- the bytes of a name, and of the key at a place
abbrev pub key_bytes : List ℕ → RawIdent → List ℕ
key_bytes text key = part_of text key.name.start key.name.len

abbrev pub key_at : List ℕ → List RawIdent → ℕ → List ℕ
key_at text keys i = key_bytes text (slice_index_or keys i no_key)

-- no two keys have the same bytes
abbrev pub Distinct : List ℕ → List RawIdent → Type 0
Distinct text keys = (j k : ℕ) → j < k → k < length keys → key_at text keys j ≢ key_at text keys k

-- one of the keys has these bytes
abbrev pub Among : List ℕ → List RawIdent → List ℕ → Type 0
Among text keys bytes = (j : ℕ) × (j < length keys) × (key_at text keys j ≡ bytes)
