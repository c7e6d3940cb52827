use Rattle.std.proofs.Common.{Ok, sym, ap, ◌∙◌}
use Rattle.outline.proofs.Drafted.{pushable}
use Rattle.outline.proofs.drafts.Draft.grow.Goals as goal

pub push-requires : goal.push-requires
push-requires c =
    let p = pushable c.args.self c.args.line.now c.in-Some.depth (sym c.in_ok-depth.ensures ∙ ap Ok c.in-Some.is) in
    record { room = p.room; within = p.within; nests = p.nests }
