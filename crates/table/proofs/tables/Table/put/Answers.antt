use Rattle.std.proofs.Common.{refl, ap, rules, arith}
use Rattle.node.specs.Parts.{kids, links}
use Rattle.table.specs.Facts.{Sound}
use Rattle.table.specs.State.{state_of}
use Rattle.table.specs.declared.offers.Offer.{Offer}
use Rattle.table.proofs.Fitting.{before, ready, parts_fitting, idents_range, idents_within, room_left, places_small, grown_put, sound_put}
use Rattle.table.proofs.tables.Table.put.Goals as goal

pub invariant_of-grow : goal.invariant_of-grow
invariant_of-grow c =
    let t = c.args.self.now in
    let o : Offer = record { draft = c.args.draft; places = c.args.places; idents = c.args.idents; values = c.args.values } in
    let accepted = c.in_ok-node.ensures.0 in
    record { small = places_small t o accepted; range = idents_range t o (before t o accepted); within = idents_within t o (before t o accepted) }

pub grow-requires : goal.grow-requires
grow-requires c =
    let t = c.args.self.now in
    let o : Offer = record { draft = c.args.draft; places = c.args.places; idents = c.args.idents; values = c.args.values } in
    let accepted = c.in_ok-node.ensures.0 in
    let parts = ap (λ n. n.parts) c.in_ok-node.ensures.1 in
    let held = ap kids parts in
    let count = ap links parts in
    let room = room_left t o accepted in
    let fit = parts_fitting t o (before t o accepted) in
    record {
      nodes = omega (arith, room.0);
      few = omega (arith, room.0);
      links = omega (arith, room.1);
      handed = omega (arith, fit.counted);
      known = λ k lt. (ready t o (before t o accepted)).children k (omega arith);
    }

pub invariant_of-self : goal.invariant_of-self
invariant_of-self c =
    let t = c.args.self.now in
    let o : Offer = record { draft = c.args.draft; places = c.args.places; idents = c.args.idents; values = c.args.values } in
    let sound : Sound (state_of c.grow.new.self) = sound_put t o c.in_ok-node.ensures.0 c.grow.new.self c.in_ok-node.node c.in_ok-node.ensures.1 c.grow.ensures.grown in
    search rules

pub returns : goal.returns
returns c =
    let t = c.args.self.now in
    let o : Offer = record { draft = c.args.draft; places = c.args.places; idents = c.args.idents; values = c.args.values } in
    record {
      put = (c.in_ok-node.ensures.0, refl, grown_put t o c.in_ok-node.ensures.0 c.grow.new.self c.in_ok-node.node c.in_ok-node.ensures.1 c.grow.ensures.grown);
      text = refl;
      loans = c.grow.ensures.loans;
    }
