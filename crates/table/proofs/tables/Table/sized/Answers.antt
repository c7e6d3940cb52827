use Rattle.std.proofs.Common.{◌≡◌, ℕ, suc, ◌+◌, ◌<◌, ◌≤◌, min, length, get_or, sym, ap, ◌∙◌, subst, ap₂, arith}
use Rattle.std.proofs.lemmas.Bool.{and_parts}
use Rattle.draft.specs.Details.{details_of, kind_of}
use Rattle.draft.specs.declared.drafts.Draft.{Draft}
use Rattle.kind.specs.Shapes.{shape_of}
use Rattle.node.specs.Parts.{kids, references}
use Rattle.node.specs.declared.records.Details.{Details}
use Rattle.node.specs.declared.records.Parts.{Parts}
use Rattle.node.specs.declared.faults.TableFault.TheVariants.{Size}
use Rattle.table.specs.Puts.{parts_of, handed_in, unless, height_of, lines_of}
use Rattle.table.specs.Reads.{table_state}
use Rattle.table.specs.State.{referred, walked, highest, all_lines}
use Rattle.table.proofs.Counted.{table_sound}
use Rattle.table.proofs.Fitting.{ready}
use Rattle.table.proofs.Sized.{shared_none, too_many, sized_is, exact}
use Rattle.table.proofs.tables.Table.sized.Goals as goal

pub returns-then-draft-gt32767 : goal.returns-then-draft-gt32767
returns-then-draft-gt32767 c = too_many (table_state c.args.self.now) c.args.offer.now.draft.now c.args.offer.now.places.now (table_sound c.args.self.now) (ready c.args.self.now c.args.offer.now c.requires.before) (omega arith)

-- the narrow parts are those of the draft
parts_are : (d : Draft) (p : Parts) → p ≡ record { start = 0; head = d.head; body = d.body; branch = d.branch; arms = d.arms; values = d.values; ranges = d.ranges; shared = 0 } → p ≡ parts_of d 0 0
parts_are d p is = is ∙ ap with_shared (sym (shared_none (shape_of (kind_of d.kind)).extra))
  where
    with_shared : ℕ → Parts
    with_shared k = record { start = 0; head = d.head; body = d.body; branch = d.branch; arms = d.arms; values = d.values; ranges = d.ranges; shared = k }

pub invariant_of-family : goal.invariant_of-family
invariant_of-family c =
    let d = c.args.offer.now.draft.now in
    let places = c.args.offer.now.places.now in
    let fit = ready c.args.self.now c.args.offer.now c.requires.before in
    let is = parts_are d c.narrow.result c.narrow.ensures in
    let at = λ (x : Details) (p : Parts) (j : ℕ). (j < length (referred (handed_in places) x p)) → get_or (referred (handed_in places) x p) j 0 < p.arms in
    record {
      reach = subst (λ p. kids p + references p ≤ length places) (sym is) (omega (arith, fit.counted));
      arms = λ j. subst (λ x. at x c.narrow.result j) (sym c.requires.details) (subst (λ p. at (details_of d) p j) (sym is) (fit.arms_there j));
    }

pub returns-then-fits : goal.returns-then-fits
returns-then-fits c =
    let d = c.args.offer.now.draft.now in
    let s = table_state c.args.self.now in
    let places = c.args.offer.now.places.now in
    let xs : walked (handed_in places) c.args.details.now c.narrow.result ≡ walked (handed_in places) (details_of d) (parts_of d 0 0) =
    ap₂ (walked (handed_in places)) c.requires.details (parts_are d c.narrow.result c.narrow.ensures) in
    let tall : c.measure-size.result.height ≡ height_of s d places = c.measure-size.ensures.height ∙ ap (λ x. suc (highest s x)) xs in
    let many : c.measure-size.result.lines ≡ min (lines_of s d places) 65536 = c.measure-size.ensures.lines ∙ ap (λ x. min (suc (all_lines s x)) 65536) xs in (
      sized_is s d places (table_sound c.args.self.now) (ready c.args.self.now c.args.offer.now c.requires.before) _ _ c.fits.result tall many c.fits.ensures ∙ ap (λ b. unless b (Size 0)) c.if-fits.true,
      tall,
      exact s d places (table_sound c.args.self.now) (ready c.args.self.now c.args.offer.now c.requires.before) _ many (and_parts _ _ (sym c.if-fits.ensures)).1,
    )

pub returns-else-fits : goal.returns-else-fits
returns-else-fits c =
    let d = c.args.offer.now.draft.now in
    let s = table_state c.args.self.now in
    let places = c.args.offer.now.places.now in
    let xs : walked (handed_in places) c.args.details.now c.narrow.result ≡ walked (handed_in places) (details_of d) (parts_of d 0 0) =
    ap₂ (walked (handed_in places)) c.requires.details (parts_are d c.narrow.result c.narrow.ensures) in
    let tall : c.measure-size.result.height ≡ height_of s d places = c.measure-size.ensures.height ∙ ap (λ x. suc (highest s x)) xs in
    let many : c.measure-size.result.lines ≡ min (lines_of s d places) 65536 = c.measure-size.ensures.lines ∙ ap (λ x. min (suc (all_lines s x)) 65536) xs in
    sized_is s d places (table_sound c.args.self.now) (ready c.args.self.now c.args.offer.now c.requires.before) _ _ c.fits.result tall many c.fits.ensures ∙ ap (λ b. unless b (Size 0)) c.if-fits.false
