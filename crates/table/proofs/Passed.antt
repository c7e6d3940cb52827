-- What is known of a draft once tests on it were passed. Assumes nothing.
use Rattle.std.proofs.Common.{◌≡◌, ℕ, ◌<◌, Bool, true, false, List, [], length, get_or, take, Some, None, Option, Result, Ok, Err, is_err, sym, refl, ap, ◌∙◌, subst}
use Rattle.std.specs.Option.{option_map}
use Rattle.std.proofs.lemmas.Bool.{and_parts, eqb-true, ltb-true, both_ways}
use Rattle.draft.specs.Fits.{fits, handed, fits_head, fits_blocks, fits_extra, fits_value, fits_names}
use Rattle.draft.specs.declared.drafts.Draft.{Draft}
use Rattle.draft.specs.Details.{kind_of}
use Rattle.draft.specs.Drafts.{in_range, runs_within, ident_in_range, ident_within, kind_in_range}
use Rattle.std.specs.List.{list_all}
use Rattle.draft.specs.declared.drafts.RawIdent.{RawIdent}
use Rattle.kind.specs.Shapes.{shape_of}
use Rattle.node.specs.declared.faults.TableFault.{TableFault}
use Rattle.node.specs.declared.faults.TableFault.TheVariants.{Missing, Misfit, Held}
use Rattle.kind.specs.declared.shapes.Shape.{Shape}
use Rattle.table.specs.Puts.{unless, or_else, kid_list, parts_of, due_known, due_range, due_text, due_fit, due_place, due_held, due_before, extras_fit}
use Rattle.table.specs.Reads.{table_state}
use Rattle.table.specs.State.{State}
use Rattle.table.specs.declared.offers.Offer.{Offer}
use Rattle.table.specs.declared.tables.Table.{Table}
use Rattle.table.specs.Tests.{is_known, in_place, not_held}
use Rattle.tree.specs.Answers.{passed_unless}
use Rattle.table.proofs.Failing.{all_passed}

-- the parts of the test on counts and data
pub record FitParts (x : Shape) (d : Draft) (places idents : ℕ) : Type 0 where
  pub counted : handed d ≡ places
  pub head : fits_head x.head d.head ≡ true
  pub blocks : fits_blocks x.blocks d ≡ true
  pub extra : fits_extra x.extra d idents ≡ true
  pub value : fits_value x.value d.constant ≡ true
  pub names : fits_names x.names d ≡ true

pub fit_parts : (x : Shape) (d : Draft) (places idents : ℕ) → fits x d places idents ≡ true → FitParts x d places idents
fit_parts x d places idents e =
    let a = and_parts _ _ e in
    let b = and_parts _ _ a.0 in
    let c = and_parts _ _ b.0 in
    let f = and_parts _ _ c.0 in
    let g = and_parts _ _ f.0 in
    let h = and_parts _ _ g.0 in
    let i = and_parts _ _ h.0 in
    record { counted = eqb-true (handed d) places i.0; head = i.1; blocks = h.1; extra = g.1; value = f.1; names = c.1 }

pub unless_none : (b : Bool) (f : TableFault) → unless b f ≡ None → b ≡ true
unless_none true f e = refl
unless_none false f e = cc

mapped_none : (f : ℕ → TableFault) (o : Option ℕ) → option_map f o ≡ None → o ≡ None
mapped_none f None e = refl
mapped_none f (Some x) e = cc

-- a call that only tests ends with nothing where no refusal is due
pub passed_none : {F : Type 0} (o : Option F) → Ok tt ≡ passed_unless o → o ≡ None
passed_none None e = refl
passed_none (Some f) e = cc

pub passed_some : {F : Type 0} (o : Option F) (f : F) → Err f ≡ passed_unless o → o ≡ Some f
passed_some None f e = cc
passed_some (Some x) f e = cc

-- of two refusals the first that is due is given
pub due_next : (a b : Option TableFault) (r : Result (Unit {0}) TableFault) → Ok tt ≡ passed_unless a → r ≡ passed_unless b → r ≡ passed_unless (or_else a b)
due_next a b r passed is = is ∙ ap (λ o. passed_unless (or_else o b)) (sym (passed_none a passed))

pub due_here : (a b : Option TableFault) (r : Result (Unit {0}) TableFault) → is_err r ≡ true → r ≡ passed_unless a → r ≡ passed_unless (or_else a b)
due_here None b r err is = absurd (both_ways _ (ap is_err is) err)
due_here (Some f) b r err is = is

pub or_none : (a b : Option TableFault) → or_else a b ≡ None → (a ≡ None) × (b ≡ None)
or_none None b e = (refl, e)
or_none (Some f) b e = cc

module _ (s : State) (d : Draft) (places : List ℕ) where
  -- the children are known,
  pub known_passed : due_known s d places ≡ None → (k : ℕ) → k < length (kid_list d places) → get_or (kid_list d places) k 0 < s.used
  known_passed e k lt = ltb-true _ _ (all_passed (is_known s) [] (kid_list d places) (mapped_none Missing _ e) k lt)

  pub kids_passed : (kids : List ℕ) → kids ≡ kid_list d places → due_known s d places ≡ None → (k : ℕ) → k < length kids → get_or kids k 0 < s.used
  kids_passed kids is e k lt = subst (λ xs. k < length xs → get_or xs k 0 < s.used) (sym is) (known_passed e k) lt

  -- stand where they may,
  pub place_passed : due_place s d places ≡ None → (k : ℕ) → k < length (kid_list d places) → in_place s (parts_of d 0 0) (take k (kid_list d places)) (get_or (kid_list d places) k 0) ≡ true
  place_passed e k lt = all_passed (in_place s (parts_of d 0 0)) [] (kid_list d places) (mapped_none Misfit _ e) k lt

  -- and have no parent, nor was one named twice
  pub held_passed : due_held s d places ≡ None → (k : ℕ) → k < length (kid_list d places) → not_held s (take k (kid_list d places)) (get_or (kid_list d places) k 0) ≡ true
  held_passed e k lt = all_passed (not_held s) [] (kid_list d places) (mapped_none Held _ e) k lt

pub range_passed : (d : Draft) (idents : List RawIdent) → due_range d idents ≡ None → (in_range d ≡ true) × (list_all ident_in_range idents ≡ true)
range_passed d idents e = and_parts _ _ (unless_none _ _ e)

pub text_passed : (text : ℕ) (d : Draft) (idents : List RawIdent) → due_text text d idents ≡ None → (runs_within text d ≡ true) × (list_all (ident_within text) idents ≡ true)
text_passed text d idents e = and_parts _ _ (unless_none _ _ e)

pub fit_passed : (text : List ℕ) (d : Draft) (places : List ℕ) (idents : List RawIdent) → due_fit text d places idents ≡ None
    → (fits (shape_of (kind_of d.kind)) d (length places) (length idents) ≡ true) × (extras_fit (shape_of (kind_of d.kind)).extra text d places idents ≡ true)
fit_passed text d places idents e = and_parts _ _ (unless_none _ _ e)

-- the kind is in range, and the counts come to the places that were handed in
pub kind_passed : (d : Draft) (idents : List RawIdent) → due_range d idents ≡ None → kind_in_range d.kind ≡ true
kind_passed d idents e =
    let a = and_parts _ _ (range_passed d idents e).0 in
    let b = and_parts _ _ a.0 in
    let c = and_parts _ _ b.0 in
    let f = and_parts _ _ c.0 in
    let g = and_parts _ _ f.0 in
    let h = and_parts _ _ g.0 in
    let i = and_parts _ _ h.0 in
    (and_parts _ _ i.0).0

pub counts_passed : (text : List ℕ) (d : Draft) (places : List ℕ) (idents : List RawIdent) → due_fit text d places idents ≡ None → handed d ≡ length places
counts_passed text d places idents e = (fit_parts (shape_of (kind_of d.kind)) d (length places) (length idents) (fit_passed text d places idents e).0).counted

pub before_passed : (t : Table) (o : Offer) → Ok tt ≡ passed_unless (due_before (table_state t) t.text.now o.draft.now o.places.now o.idents.now o.values)
    → due_before (table_state t) t.text.now o.draft.now o.places.now o.idents.now o.values ≡ None
before_passed t o = passed_none (due_before (table_state t) t.text.now o.draft.now o.places.now o.idents.now o.values)
