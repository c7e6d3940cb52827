use Rattle.std.proofs.Common.{rules, vec_items, [], refl}
use Rattle.std.proofs.lemmas.Iterator.{YieldsList-from_map_by, YieldsList-from_range}
use Rattle.std.proofs.lemmas.Iterator.Consumers.{map_from_collect}
use Rattle.outline.proofs.building.levels.Goals as goal

pub returns : goal.returns
returns c = map_from_collect _ c.collect.ensures.ran (YieldsList-from_map_by _ vec_items (λ _. []) (YieldsList-from_range 0 65 65 c.map.ensures.source refl) c.map.ensures.closure (λ x r q k. search rules))
