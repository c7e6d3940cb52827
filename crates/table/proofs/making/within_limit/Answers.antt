use Rattle.std.proofs.Common.{◌≡◌, min, length, take, rules, ap, ◌∙◌}
use Rattle.std.proofs.lemmas.List.{take_min}
use Rattle.table.proofs.making.within_limit.Goals as goal

pub returns-clause-value : goal.returns-clause-value
returns-clause-value c =
    let least : c.min.result ≡ min 65535 (length c.args.text.now) = search rules in
    ap (λ n. take n c.args.text.now) least ∙ take_min 65535 c.args.text.now
