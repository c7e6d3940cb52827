use Rattle.outline.proofs.Drafted.{last_depth, most_is}
use Rattle.std.proofs.Common.{rules, ◌-◌, length, ◌<◌}
use Rattle.outline.specs.Drafts.{depths_in}
use Rattle.outline.proofs.drafts.Draft.most.Goals as goal

pub map_or-requires : goal.map_or-requires
map_or-requires c = λ x is _ _ _. let w = c.args.self.now.within (length (depths_in c.args.self.now) - 1) in let n : x.now.depth < 64 = rw (← last_depth c.deref.result.now c.last.result x c.last.ensures.value is, c.deref.ensures.value) w in search rules

pub returns : goal.returns
returns c = rw (← c.deref.ensures.value) (most_is c.deref.result.now c.last.result _ c.last.ensures.value c.map_or.ensures (λ x p. search rules))
