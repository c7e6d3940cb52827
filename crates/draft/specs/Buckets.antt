-- Keys in buckets, each chained to the one before it in its bucket. Assumes nothing.
use Rattle.std.specs.Prelude.{◌≡◌, ℕ, zero, suc, ◌+◌, ◌*◌, ◌%◌, ◌<◌, cond, Option, Some, None, List, length, take, fold, ◌==◌, slice_index_or}
use Rattle.draft.specs.Keys.{key_at}
use Rattle.draft.specs.declared.drafts.RawIdent.{RawIdent}

-- the number of a bucket, and a byte more
abbrev pub mix : ℕ → ℕ → ℕ
mix hash b = (hash * 31 + b) % 1024

-- the bucket of a key: a number made of its length and of its first 64 bytes
abbrev pub bucket_of : List ℕ → ℕ
bucket_of bytes = fold mix (length bytes % 1024) (take 64 bytes)

abbrev pub bucket_at : List ℕ → List RawIdent → ℕ → ℕ
bucket_at text keys i = bucket_of (key_at text keys i)

-- the last of the first n keys in a bucket, and `None` where there is none
abbrev pub last_in : (ℕ → ℕ) → ℕ → ℕ → Option ℕ
last_in bucket b zero = None
last_in bucket b (suc n) = cond (bucket n == b) (Some n) (last_in bucket b n)

-- each of the first n keys has the one before it in its bucket
abbrev pub Chained : (ℕ → ℕ) → List (Option ℕ) → ℕ → Type 0
Chained bucket next n = (j : ℕ) → j < n → slice_index_or next j None ≡ last_in bucket (bucket j) j
