use Rattle.std.proofs.Common.{◌≡◌, ◌<◌, rules, arith}
use Rattle.std.proofs.lemmas.Fn.{serves_by}
use Rattle.draft.specs.Buckets.{mix}
use Rattle.draft.proofs.keys.bucket.Goals as goal

-- the number stays low, so that the next product fits
pub fold-requires-clause-callable : goal.fold-requires-clause-callable
fold-requires-clause-callable c =
    serves_by _ (λ past p. p.1 < 1024)
    (λ past p b q low turn. let mixed : q.1 ≡ mix p.1 b.now = search rules in omega arith)
    _ _ _ _
    (omega arith)
    (λ past s p b t yields step low. search (rules, arith))
