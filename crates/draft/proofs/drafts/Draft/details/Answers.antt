use Rattle.std.proofs.Common.{rules, ◌≡◌, false}
use Rattle.draft.specs.Details.{first_kept, keepable, payload_kept, second_kept}
use Rattle.draft.proofs.Conjuncts.{kept_parts, kept_whole, not_by}
use Rattle.draft.proofs.drafts.Draft.details.Goals as goal

pub returns-in_err-payload : goal.returns-in_err-payload
returns-in_err-payload c =
    let d = c.args.self.now in
    let h : keepable d ≡ false = not_by (keepable d) (payload_kept d) (λ e. (kept_parts d e).payload) (search rules) in
    search rules

pub returns-in_err-first : goal.returns-in_err-first
returns-in_err-first c =
    let d = c.args.self.now in
    let h : keepable d ≡ false = not_by (keepable d) (first_kept d) (λ e. (kept_parts d e).first) (search rules) in
    search rules

pub returns-in_err-second : goal.returns-in_err-second
returns-in_err-second c =
    let d = c.args.self.now in
    let h : keepable d ≡ false = not_by (keepable d) (second_kept d) (λ e. (kept_parts d e).second) (search rules) in
    search rules

pub returns : goal.returns
returns c =
    (kept_whole c.args.self.now (record { kind = search rules; flags = search rules; position = search rules; payload = search rules; first = search rules; second = search rules }), search rules)
