use Rattle.std.proofs.Common.{◌≡◌, ℕ, None, ◌<◌, length, get_or}
use Rattle.draft.specs.Buckets.{bucket_at, last_in, Chained}
use Rattle.draft.proofs.Chains.{DistinctTo}
use Rattle.draft.proofs.keys.distinct_by_chains.Given as goal

-- the keys passed are distinct, and each is on the chain of its bucket
abbrev pub invariant-loop-i : goal.invariant-loop-i
invariant-loop-i g l = record {
  heads_len : length l.heads ≡ 1024;
  next_len : length l.next ≡ g.row.N;
  heads : (b : ℕ) → b < 1024 → get_or l.heads b None ≡ last_in (bucket_at l.text l.keys) b l.i;
  next : Chained (bucket_at l.text l.keys) l.next l.i;
  distinct : DistinctTo l.text l.keys l.i;
}
