use Rattle.std.proofs.Common.{rules, vec_items}
use Rattle.std.proofs.lemmas.Iterator.{YieldsList-from_map_by}
use Rattle.std.proofs.lemmas.Iterator.Adapters.{YieldsList-from_vec}
use Rattle.std.proofs.lemmas.Iterator.Consumers.{map_from_collect}
use Rattle.std.proofs.lemmas.List.{map-id}
use Rattle.outline.proofs.building.leaves.Goals as goal

pub returns : goal.returns
returns c = rw (← map-id (vec_items c.args.items)) (map_from_collect _ c.collect.ensures.ran (YieldsList-from_map_by _ (λ b. b.item) (λ i. i) (YieldsList-from_vec (vec_items c.args.items) (cc) (cc)) c.map.ensures.closure (λ x r q k. search rules)))
