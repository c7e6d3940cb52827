use Rattle.std.proofs.Common.{◌≡◌, ◌<◌, None, refl, ap, ◌∙◌, arith, length-set}
use Rattle.std.proofs.lemmas.List.{get_or-replicate, length-replicate}
use Rattle.std.proofs.lemmas.Bool.Decides.{not_from_Decides}
use Rattle.draft.specs.Buckets.{bucket_at, bucket_of}
use Rattle.draft.proofs.Chains.{bucket_low, heads_more, chained_more, first-take, Chained-take, distinct_more}
use Rattle.draft.proofs.keys.distinct_by_chains.Goals as goal

pub loop-i-init : goal.loop-i-init
loop-i-init g c = record {
  heads_len = refl;
  next_len = length-replicate _ _;
  heads = λ b low. get_or-replicate 1024 b None None low;
  next = λ j low. absurd (omega arith);
  distinct = λ j k less low. absurd (omega arith);
}

pub on_chain-requires-clause-chained : goal.on_chain-requires-clause-chained
on_chain-requires-clause-chained g c = search (Chained-take, c.loop-i.invariant.next)

pub on_chain-requires-clause-first : goal.on_chain-requires-clause-first
on_chain-requires-clause-first g c =
    let low : c.bucket.result < 1024 = rw c.bucket.ensures (bucket_low c.bytes-bytes.result.now) in
    search (first-take, c.loop-i.invariant.heads c.bucket.result low)

pub loop-i-preserved : goal.loop-i-preserved
loop-i-preserved g c =
    let bucket = bucket_at c.args.text.now c.args.keys.now in
    let i = c.loop-i.i in
    let spot = c.bucket.result in
    let its : spot ≡ bucket i = c.bucket.ensures ∙ ap bucket_of c.bytes-bytes.ensures in
    let low : spot < 1024 = rw c.bucket.ensures (bucket_low c.bytes-bytes.result.now) in
    record {
      heads_len = length-set _ _ _ ∙ c.loop-i.invariant.heads_len;
      next_len = length-set _ _ _ ∙ c.loop-i.invariant.next_len;
      heads = λ b within. heads_more bucket i spot its c.loop-i.heads _ c.replace.ensures.after (omega arith) b (c.loop-i.invariant.heads b within);
      next = chained_more bucket i spot its c.loop-i.next _ (omega arith) (c.replace.ensures.value ∙ c.loop-i.invariant.heads spot low) c.loop-i.invariant.next;
      distinct = search (distinct_more, not_from_Decides, c.loop-i.invariant.distinct);
    }
