-- Chains of keys in one bucket. Assumes nothing.
use Rattle.std.proofs.Common.{◌≡◌, ◌≢◌, ℕ, zero, suc, ◌+◌, ◌<◌, ◌≤◌, Option, Some, None, List, length, take, get_or, set, sym, refl, ap, ◌∙◌, subst, add-one, arith}
use Rattle.std.proofs.lemmas.Bool.Decides.{nat_tests}
use Rattle.std.proofs.lemmas.Grind.{common_steps}
use Rattle.std.proofs.lemmas.List.{get_or-take, length-take-le}
use Rattle.std.proofs.lemmas.List.Folds.{fold_along}
use Rattle.draft.specs.Buckets.{mix, last_in, bucket_at, bucket_of, Chained}
use Rattle.draft.specs.Keys.{key_at, Among}
use Rattle.draft.specs.declared.drafts.RawIdent.{RawIdent}

pub bucket_low : (bytes : List ℕ) → bucket_of bytes < 1024
bucket_low bytes = fold_along mix mix (λ hash none. hash < 1024) (λ hash none b low. omega arith) _ 0 (take 64 bytes) (omega arith)

-- how many keys there are up to a place
abbrev pub upto : Option ℕ → ℕ
upto None = 0
upto (Some j) = suc j

-- a place is one of the first n and in the bucket, and no place behind it is
pub record IsLast (bucket : ℕ → ℕ) (b n : ℕ) (place : Option ℕ) : Type 0 where
  pub low : upto place ≤ n
  pub inside : (j : ℕ) → place ≡ Some j → bucket j ≡ b
  pub none_past : (k : ℕ) → upto place ≤ k → k < n → bucket k ≢ b

module _ (bucket : ℕ → ℕ) (b : ℕ) where
  last_more : (n : ℕ) → IsLast bucket b n (last_in bucket b n) → IsLast bucket b (suc n) (last_in bucket b (suc n))
  last_more n old = record {
    low = grind (arith, nat_tests, old.low);
    inside = λ j. grind (arith, nat_tests, old.inside j);
    none_past = λ k. grind (arith, nat_tests, old.none_past k);
  }

  pub last_is : (n : ℕ) → IsLast bucket b n (last_in bucket b n)
  last_is zero = record { low = omega arith; inside = λ j. grind arith; none_past = λ k. grind arith }
  last_is (suc n) = last_more n (last_is n)

-- one key more in the buckets, at the spot of its bucket
module _ (bucket : ℕ → ℕ) (n spot : ℕ) (its : spot ≡ bucket n) where
  pub heads_more : (heads : List (Option ℕ)) (to : Option ℕ) → to ≡ Some n → spot < length heads → (b : ℕ) → get_or heads b None ≡ last_in bucket b n → get_or (set heads spot to) b None ≡ last_in bucket b (n + 1)
  heads_more heads to is within b old = rw add-one (grind (arith, common_steps, nat_tests))

  pub chained_more : (next : List (Option ℕ)) (head : Option ℕ) → n < length next → head ≡ last_in bucket spot n → Chained bucket next n → Chained bucket (set next n head) (n + 1)
  chained_more next head within first old j low = grind (arith, common_steps, old j)

-- the first n keys are distinct
abbrev pub DistinctTo : List ℕ → List RawIdent → ℕ → Type 0
DistinctTo text keys n = (j k : ℕ) → j < k → k < n → key_at text keys j ≡ key_at text keys k → ⊥

-- the first i keys alone
module _ (text : List ℕ) (keys : List RawIdent) (i : ℕ) where
  key_at-take : (k : ℕ) → k < i → key_at text (take i keys) k ≡ key_at text keys k
  key_at-take k low = rw get_or-take refl

  last_in-take : (b n : ℕ) → n ≤ i → last_in (bucket_at text (take i keys)) b n ≡ last_in (bucket_at text keys) b n
  last_in-take b zero low = refl
  last_in-take b (suc n) low = rw (key_at-take n (omega arith), last_in-take b n (omega arith)) refl

  module _ (within : i ≤ length keys) where
    pub first-take : (bytes : List ℕ) (spot : ℕ) (first : Option ℕ) → spot ≡ bucket_of bytes → first ≡ last_in (bucket_at text keys) spot i → first ≡ last_in (bucket_at text (take i keys)) (bucket_of bytes) (length (take i keys))
    first-take bytes spot first its old = rw (← its, length-take-le, last_in-take spot i (omega arith)) old

    pub Chained-take : (next : List (Option ℕ)) → Chained (bucket_at text keys) next i → Chained (bucket_at text (take i keys)) next (length (take i keys))
    Chained-take next old j low = grind (arith, length-take-le i keys within, old j, key_at-take j, last_in-take (bucket_at text keys j) j)

  -- one key more, which is none of those before it
  pub distinct_more : (bytes : List ℕ) → i < length keys → bytes ≡ key_at text keys i → (Among text (take i keys) bytes → ⊥) → DistinctTo text keys i → DistinctTo text keys (i + 1)
  distinct_more bytes within its fresh old j k less low same =
      let fresh_at : j < length (take i keys) → key_at text (take i keys) j ≡ bytes → ⊥ = λ here e. fresh (j, here, e) in
      grind (arith, length-take-le i keys, old j k, key_at-take j, fresh_at)

-- a chain goes on from a place in the bucket of the bytes, and no key past it has them
pub record GoesOn (text : List ℕ) (keys : List RawIdent) (bytes : List ℕ) (at : Option ℕ) : Type 0 where
  pub low : upto at ≤ length keys
  pub inside : (j : ℕ) → at ≡ Some j → bucket_at text keys j ≡ bucket_of bytes
  pub none_past : (k : ℕ) → upto at ≤ k → k < length keys → key_at text keys k ≢ bytes

module _ (text : List ℕ) (keys : List RawIdent) (bytes : List ℕ) where
  last_at : (n : ℕ) (place : Option ℕ) → place ≡ last_in (bucket_at text keys) (bucket_of bytes) n → IsLast (bucket_at text keys) (bucket_of bytes) n place
  last_at n place is = subst (IsLast (bucket_at text keys) (bucket_of bytes) n) (sym is) (last_is _ _ n)

  pub chain_starts : (first : Option ℕ) → first ≡ last_in (bucket_at text keys) (bucket_of bytes) (length keys) → GoesOn text keys bytes first
  chain_starts first is =
      let last = last_at (length keys) first is in
      record { low = last.low; inside = last.inside; none_past = λ k low high same. last.none_past k low high (ap bucket_of same) }

  -- one key on along a chain comes a lower place, and the chain goes on from it
  module _ (at : Option ℕ) (i : ℕ) (next : List (Option ℕ)) (is : at ≡ Some i) (on : GoesOn text keys bytes at) (chained : Chained (bucket_at text keys) next (length keys)) where
    here : GoesOn text keys bytes (Some i)
    here = subst (GoesOn text keys bytes) is on

    last : IsLast (bucket_at text keys) (bucket_of bytes) i (get_or next i None)
    last = last_at i _ (chained i here.low ∙ ap (λ b. last_in (bucket_at text keys) b i) (here.inside i refl))

    pub chain_falls : upto (get_or next i None) < upto at
    chain_falls = rw is (omega (arith, last.low))

    pub chain_goes : key_at text keys i ≢ bytes → GoesOn text keys bytes (get_or next i None)
    chain_goes other = record {
      low = omega (arith, last.low, here.low);
      inside = last.inside;
      none_past = λ k low high same. let on_bucket : bucket_at text keys k ≡ bucket_of bytes = ap bucket_of same in grind (arith, last.none_past k, here.none_past k);
    }
