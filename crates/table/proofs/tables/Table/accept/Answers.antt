use Rattle.std.proofs.Common.{◌≡◌, length, None, sym, ap, ◌∙◌, arith}
use Rattle.std.proofs.lemmas.Result.{err_from_is_err_and}
use Rattle.draft.specs.Details.{details_of}
use Rattle.table.specs.Puts.{or_else, due_size, due_room}
use Rattle.table.specs.Reads.{table_state}
use Rattle.table.proofs.Fitting.{details_there, details_are, is_keepable, ready, shared_is, room_is, refusal_is, size_refused, room_there, parts_are}
use Rattle.table.proofs.Passed.{passed_none, passed_some, before_passed}
use Rattle.table.proofs.tables.Table.accept.Goals as goal

pub unwrap-details-requires : goal.unwrap-details-requires
unwrap-details-requires c =
    let t = c.args.self.now in
    let o = c.args.offer.now in
    details_there o.draft.now c.details.result (is_keepable t o (before_passed t o c.in_ok-check_before.ensures)) c.details.ensures

pub sized-requires : goal.sized-requires
sized-requires c =
    let t = c.args.self.now in
    let o = c.args.offer.now in
    let none = before_passed t o c.in_ok-check_before.ensures in
    record { before = none; details = details_are o.draft.now c.details.result c.unwrap-details.result c.unwrap-details.ensures c.details.ensures }

pub narrow-requires : goal.narrow-requires
narrow-requires c =
    let t = c.args.self.now in
    let o = c.args.offer.now in
    let none = before_passed t o c.in_ok-check_before.ensures in
    let details : c.unwrap-details.result ≡ details_of o.draft.now = details_are o.draft.now c.details.result c.unwrap-details.result c.unwrap-details.ensures c.details.ensures in
    let shared = shared_is t o none c.unwrap-details.result c.shape.result c.shared_count-shared.result details c.shape.ensures c.shared_count-shared.ensures in
    let size = c.in_ok-size.ensures in
    let there = room_there t o none (sym (room_is t o none c.shared_count-shared.result shared) ∙ passed_none _ c.in_ok-check_room.ensures) in
    let fitting = ready t o none in
    let links = t.links_fit in
    record {
      start = omega arith;
      shared = omega (arith, there.1, shared);
      kids = omega (arith, fitting.few);
      references = omega (arith, there.1, shared);
    }

pub returns : goal.returns
returns c =
    let t = c.args.self.now in
    let o = c.args.offer.now in
    let none = before_passed t o c.in_ok-check_before.ensures in
    let details : c.unwrap-details.result ≡ details_of o.draft.now = details_are o.draft.now c.details.result c.unwrap-details.result c.unwrap-details.ensures c.details.ensures in
    let shared = shared_is t o none c.unwrap-details.result c.shape.result c.shared_count-shared.result details c.shape.ensures c.shared_count-shared.ensures in
    let size = c.in_ok-size.ensures in
    let room = sym (room_is t o none c.shared_count-shared.result shared) ∙ passed_none _ c.in_ok-check_room.ensures in (
      refusal_is t o none size.0 ∙ room,
      (λ i. record { details = details i; parts = parts_are t o none c.narrow.result c.shared_count-shared.result c.narrow.ensures shared i; up = None; height = size.1 i; lines = size.2 i }),
    )

pub returns-in_err-check_before : goal.returns-in_err-check_before
returns-in_err-check_before c =
    let t = c.args.self.now in
    let o = c.args.offer.now in
    let p = err_from_is_err_and c.from_residual.result c.from_residual.ensures.1 in
    rw (p.1, p.2) (ap (λ x. or_else x (or_else (due_size (table_state t) o.draft.now o.places.now) (due_room (table_state t) o.draft.now (length o.idents.now)))) (passed_some _ _ c.in_err-check_before.ensures))

pub returns-in_err-size : goal.returns-in_err-size
returns-in_err-size c =
    let t = c.args.self.now in
    let o = c.args.offer.now in
    let none = before_passed t o c.in_ok-check_before.ensures in
    let p = err_from_is_err_and c.from_residual-in_err-size.result c.from_residual-in_err-size.ensures.1 in
    rw (p.1, p.2) (size_refused t o none _ c.in_err-size.ensures)

pub returns-in_err-check_room : goal.returns-in_err-check_room
returns-in_err-check_room c =
    let t = c.args.self.now in
    let o = c.args.offer.now in
    let none = before_passed t o c.in_ok-check_before.ensures in
    let details : c.unwrap-details.result ≡ details_of o.draft.now = details_are o.draft.now c.details.result c.unwrap-details.result c.unwrap-details.ensures c.details.ensures in
    let shared = shared_is t o none c.unwrap-details.result c.shape.result c.shared_count-shared.result details c.shape.ensures c.shared_count-shared.ensures in
    let p = err_from_is_err_and c.from_residual-in_err-check_room.result c.from_residual-in_err-check_room.ensures.1 in
    rw (p.1, p.2) (refusal_is t o none c.in_ok-size.ensures.0 ∙ sym (room_is t o none c.shared_count-shared.result shared) ∙ passed_some _ _ c.in_err-check_room.ensures)
