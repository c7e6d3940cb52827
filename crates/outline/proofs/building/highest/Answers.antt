use Rattle.std.proofs.Common.{get_or, ◌∙◌, ap, rules}
use Rattle.std.specs.Option.{unwrap_or}
use Rattle.std.specs.Ordering.{max_by_ordering, nat_cmp}
use Rattle.std.proofs.lemmas.Iterator.{YieldsList-from_map, YieldsList-from_slice}
use Rattle.std.proofs.lemmas.Iterator.Consumers.{reduce_from_yields_List}
use Rattle.std.proofs.lemmas.List.Folds.{max_of_map}
use Rattle.outline.specs.Items.{heights_of}
use Rattle.outline.proofs.Heights.{highest-fold}
use Rattle.outline.proofs.building.highest.Goals as goal

pub returns : goal.returns
returns c =
    let heights = heights_of c.args.branches.now in
    let most = reduce_from_yields_List (λ p z. max_by_ordering (nat_cmp p z) p z) c.map.result c.max.result c.max.ensures.ran
    (YieldsList-from_map _ (λ e. get_or heights e.number 0) (YieldsList-from_slice c.args.entries.now cc) c.map.ensures.closure (λ x r q k. search rules)) in
    c.unwrap_or.ensures ∙ ap (λ o. unwrap_or o 0) most ∙ max_of_map (λ e. get_or heights e.number 0) c.args.entries.now ∙ highest-fold heights c.args.entries.now
