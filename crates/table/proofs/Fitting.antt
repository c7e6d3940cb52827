-- What is known of a draft that no refusal is due for before counts are made. Assumes nothing.
use Rattle.std.proofs.Common.{◌≡◌, ℕ, zero, suc, ◌+◌, ◌-◌, ◌<◌, ◌≤◌, min, Bool, true, false, not, ◌&&◌, ltb, leb, List, [], ◌∷◌, length, get_or, take, drop, is_some, is_ok, Some, None, Ok, Err, Option, Result, MatchResult, sym, refl, ap, ◌∙◌, subst, ⊎_elim, arith}
use Rattle.std.proofs.lemmas.List.{length-take-le, get_or-take, get_or-drop, length-drop}
use Rattle.std.proofs.lemmas.Bool.{and_parts, and_from, leb-true, le-leb, ltb-true, lt-ltb, eqb-true, not-true, cases_lt, cases_Bool, both_ways}
use Rattle.std.proofs.lemmas.Result.{MatchResult-at_ok}
use Rattle.draft.specs.Details.{details_of, kind_of, second_of, keepable, small, small_constant}
use Rattle.draft.specs.Drafts.{runs_within, ident_in_range, ident_within, constant_within, run_within}
use Rattle.draft.specs.Fits.{kids as draft_kids, fits_extra, no_arms, same}
use Rattle.std.specs.List.{list_all}
use Rattle.draft.specs.declared.drafts.Draft.{Draft}
use Rattle.draft.specs.declared.drafts.RawConstant.{RawConstant}
use Rattle.draft.specs.declared.drafts.RawConstant.TheVariants as raw
use Rattle.draft.specs.declared.drafts.RawIdent.{RawIdent}
use Rattle.draft.specs.declared.drafts.RawRun.{RawRun}
use Rattle.kind.specs.Shapes.{shape_of}
use Rattle.node.specs.Parts.{kids, links, references}
use Rattle.node.specs.Positions.{if_given}
use Rattle.node.specs.declared.positions.OutOfRange.{OutOfRange}
use Rattle.node.specs.declared.positions.RawPosition.{RawPosition}
use Rattle.node.specs.declared.records.Details.{Details}
use Rattle.node.specs.declared.records.Node.{Node}
use Rattle.node.specs.declared.records.Parts.{Parts}
use Rattle.node.specs.declared.faults.TableFault.{TableFault}
use Rattle.node.specs.declared.faults.TableFault.TheVariants.{Full}
use Rattle.kind.specs.declared.shapes.Shape.{Shape}
use Rattle.kind.specs.declared.shapes.Extra.{Extra}
use Rattle.kind.specs.declared.shapes.Extra.TheVariants as extra
use Rattle.table.proofs.Fresh.{Fresh, Ready}
use Rattle.table.specs.Facts.{Sound}
use Rattle.table.specs.Grows.{Grown, new_link}
use Rattle.table.specs.Puts.{kid_list, parts_of, handed_in, due_before, due_known, due_range, due_text, due_fit, due_place, due_held, stored_due, or_else, unless, shared_of, due_room, due_size, put_refusal, height_of, lines_of, node_of}
use Rattle.table.specs.Reads.{table_state}
use Rattle.table.specs.declared.offers.Offer.{Offer}
use Rattle.table.specs.declared.tables.Table.{Table}
use Rattle.table.specs.declared.memory.Memory.{Memory}
use Rattle.table.specs.State.{State, state_of, referred, default_of, has, distinct, node_at, up_number}
use Rattle.table.specs.Tests.{in_place, is_free}
use Rattle.std.proofs.lemmas.List.Folds.{list_all_at}
use Rattle.table.proofs.Failing.{apart_distinct, apart_few}
use Rattle.table.proofs.Found.{length_referred, getD_referred_left, getD_referred_right}
use Rattle.table.proofs.Counted.{table_sound}
use Rattle.table.proofs.Kept.{sound_grown}
use Rattle.table.proofs.Passed.{unless_none, FitParts, fit_parts, or_none, known_passed, place_passed, held_passed, range_passed, text_passed, fit_passed}

no_default : (d : Draft) (a : ℕ) → d.default ≡ Some a → no_arms d ≡ true → ⊥
no_default d a is n = both_ways true (sym (sym (ap (λ o. not (is_some o)) is) ∙ (and_parts _ _ n).1)) refl

-- a default is there only where the kind has arms, and names one
default_low : (x : Option Extra) (d : Draft) (idents : ℕ) → fits_extra x d idents ≡ true → (a : ℕ) → d.default ≡ Some a → a < d.arms
default_low None d idents e a is = absurd (no_default d a is (and_parts _ _ e).0)
default_low (Some extra.Keys) d idents e a is = absurd (no_default d a is (and_parts _ _ e).0)
default_low (Some extra.Arms) d idents e a is = ltb-true a d.arms (sym (ap (if_given (λ b. ltb b d.arms)) is) ∙ (and_parts _ _ e).0)
default_low (Some extra.Shared) d idents e a is = absurd (no_default d a is (and_parts _ _ e).0)

default_there : (name : Option RawIdent) (space : Option RawPosition) (df : Option ℕ) (arms : ℕ) → ((a : ℕ) → df ≡ Some a → a < arms)
    → (j : ℕ) → j < length (default_of (second_of name space df)) → get_or (default_of (second_of name space df)) j 0 < arms
default_there (Some i) space df arms low j lt = absurd (omega arith)
default_there None (Some q) df arms low j lt = absurd (omega arith)
default_there None None None arms low j lt = absurd (omega arith)
default_there None None (Some a) arms low zero lt = low a refl
default_there None None (Some a) arms low (suc j) lt = absurd (omega arith)

small_default : (df : Option ℕ) (n : ℕ) → n ≤ 65536 → ((a : ℕ) → df ≡ Some a → a < n) → if_given (λ a. ltb a 65536) df ≡ true
small_default None n le low = refl
small_default (Some a) n le low = lt-ltb a 65536 (omega (arith, low a refl))

small_stored : (values : ℕ) (c : Option RawConstant) → stored_due values c ≡ None → if_given small_constant c ≡ true
small_stored values None e = refl
small_stored values (Some (raw.Stored p)) e = lt-ltb p 65536 (omega (arith, ltb-true p (min values 4096) (unless_none _ _ e)))
small_stored values (Some (raw.Bool b)) e = refl
small_stored values (Some (raw.Integer i)) e = refl
small_stored values (Some (raw.Float x)) e = refl
small_stored values (Some (raw.Char c)) e = refl
small_stored values (Some (raw.Text run)) e = refl

-- what lies within a text lies within the longest one
module _ (n : ℕ) (le : n ≤ 65535) where
  run_more : (r : RawRun) → run_within n r ≡ true → run_within 65535 r ≡ true
  run_more r e = le-leb _ _ (omega (arith, leb-true (r.start + r.len) n e))

  given_more : {A : Type 0} (P Q : A → Bool) → ((x : A) → P x ≡ true → Q x ≡ true) → (o : Option A) → if_given P o ≡ true → if_given Q o ≡ true
  given_more P Q more None e = refl
  given_more P Q more (Some x) e = more x e

  constant_more : (c : RawConstant) → constant_within n c ≡ true → constant_within 65535 c ≡ true
  constant_more (raw.Stored p) e = refl
  constant_more (raw.Bool b) e = refl
  constant_more (raw.Integer i) e = refl
  constant_more (raw.Float x) e = refl
  constant_more (raw.Char c) e = refl
  constant_more (raw.Text run) e = run_more run e

  pub runs_more : (d : Draft) → runs_within n d ≡ true → runs_within 65535 d ≡ true
  runs_more d e =
      let both = and_parts _ _ e in
      let early = and_parts _ _ both.0 in
      and_from _ _ (and_from _ _ (given_more (constant_within n) (constant_within 65535) constant_more d.constant early.0) (given_more (ident_within n) (ident_within 65535) (λ i. run_more i.name) d.first early.1))
      (given_more (ident_within n) (ident_within 65535) (λ i. run_more i.name) d.second both.1)

  pub idents_more : (xs : List RawIdent) → list_all (ident_within n) xs ≡ true → list_all (ident_within 65535) xs ≡ true
  idents_more [] e = refl
  idents_more (x ∷ xs) e = let p = and_parts _ _ e in and_from _ _ (run_more x.name p.0) (idents_more xs p.1)

-- what is kept of a draft that can be kept
pub details_there : (d : Draft) (r : Result Details OutOfRange) → keepable d ≡ true → MatchResult r (λ x. (keepable d ≡ true) × (x ≡ details_of d)) (λ _. keepable d ≡ false) → is_ok r ≡ true
details_there d (Ok x) kept e = refl
details_there d (Err f) kept e = absurd (both_ways _ e kept)

pub details_are : (d : Draft) (r : Result Details OutOfRange) (x : Details) → r ≡ Ok x → MatchResult r (λ x. (keepable d ≡ true) × (x ≡ details_of d)) (λ _. keepable d ≡ false) → x ≡ details_of d
details_are d r x is e = (MatchResult-at_ok (λ x. (keepable d ≡ true) × (x ≡ details_of d)) (λ _. keepable d ≡ false) x is e).1

-- each refusal in turn is not due
pub record NotDue (s : State) (text : List ℕ) (d : Draft) (places : List ℕ) (idents : List RawIdent) (values : ℕ) : Type 0 where
  pub known : due_known s d places ≡ None
  pub stored : stored_due values d.constant ≡ None
  pub range : due_range d idents ≡ None
  pub texts : due_text (length text) d idents ≡ None
  pub fit : due_fit text d places idents ≡ None
  pub placed : due_place s d places ≡ None
  pub free : due_held s d places ≡ None

pub not_due : (s : State) (text : List ℕ) (d : Draft) (places : List ℕ) (idents : List RawIdent) (values : ℕ) → due_before s text d places idents values ≡ None → NotDue s text d places idents values
not_due s text d places idents values none =
    let a = or_none (due_known s d places) _ none in
    let b = or_none (stored_due values d.constant) _ a.1 in
    let c = or_none (due_range d idents) _ b.1 in
    let e = or_none (due_text (length text) d idents) _ c.1 in
    let f = or_none (due_fit text d places idents) _ e.1 in
    let g = or_none (due_place s d places) (due_held s d places) f.1 in
    record { known = a.0; stored = b.0; range = c.0; texts = e.0; fit = f.0; placed = g.0; free = g.1 }

module _ (t : Table) (o : Offer) (none : due_before (table_state t) t.text.now o.draft.now o.places.now o.idents.now o.values ≡ None) where
  abbrev s : State
  s = table_state t

  abbrev text : List ℕ
  text = t.text.now

  abbrev d : Draft
  d = o.draft.now

  abbrev places : List ℕ
  places = o.places.now

  abbrev idents : List RawIdent
  idents = o.idents.now

  abbrev values : ℕ
  values = o.values

  nd : NotDue s text d places idents values
  nd = not_due s text d places idents values none

  pub parts_fitting : FitParts (shape_of (kind_of d.kind)) d (length places) (length idents)
  parts_fitting = fit_parts (shape_of (kind_of d.kind)) d (length places) (length idents) (fit_passed text d places idents nd.fit).0

  pub listed : length (kid_list d places) ≡ draft_kids d
  listed = length-take-le (draft_kids d) places (omega (arith, parts_fitting.counted))

  kid_is : (k : ℕ) → k < draft_kids d → get_or (kid_list d places) k 0 ≡ get_or places k 0
  kid_is k lt = get_or-take (draft_kids d) places k 0 lt

  pub kids_known : (k : ℕ) → k < draft_kids d → get_or (kid_list d places) k 0 < s.used
  kids_known k lt = known_passed s d places nd.known k (omega (arith, listed))

  not_twice : (k : ℕ) → k < length (kid_list d places) → (is_free s (get_or (kid_list d places) k 0) ≡ true) × (has (take k (kid_list d places)) (get_or (kid_list d places) k 0) ≡ false)
  not_twice k lt = let p = and_parts _ _ (held_passed s d places nd.free k lt) in (p.0, not-true _ p.1)

  pub kids_once : distinct (kid_list d places) ≡ true
  kids_once = apart_distinct (kid_list d places) (λ k lt. (not_twice k lt).1)

  pub kids_free : (k : ℕ) → k < draft_kids d → up_number (node_at s (get_or (kid_list d places) k 0)).up ≡ 0
  kids_free k lt = eqb-true _ 0 (not_twice k (omega (arith, listed))).0

  few : draft_kids d ≤ 4096
  few = subst (λ n. n ≤ 4096) listed (apart_few 4096 (kid_list d places) (λ k lt. (not_twice k lt).1) (λ k lt. omega (arith, kids_known k (omega (arith, listed)), t.nodes_fit)))

  default_names : (a : ℕ) → d.default ≡ Some a → a < d.arms
  default_names = default_low (shape_of (kind_of d.kind)).extra d (length idents) parts_fitting.extra

  below : (k : ℕ) → k < references (parts_of d 0 0) → get_or places (draft_kids d + k) 0 < d.arms
  below k lt =
      let every = (and_parts _ _ (and_parts _ _ (fit_passed text d places idents nd.fit).1).0).1 in
      let inside : k < length (drop (draft_kids d) places) = omega (arith, length-drop (draft_kids d) places, parts_fitting.counted) in
      subst (λ x. x < d.arms) (get_or-drop (draft_kids d) places k 0) (ltb-true _ _ (⊎_elim (λ yes'. yes') (λ no'. absurd (both_ways _ (list_all_at (λ arm. ltb arm d.arms) (drop (draft_kids d) places) k 0 inside no') every)) (cases_Bool (ltb (get_or (drop (draft_kids d) places) k 0) d.arms))))

  arms_below : (k : ℕ) → k < length (referred (handed_in places) (details_of d) (parts_of d 0 0)) → get_or (referred (handed_in places) (details_of d) (parts_of d 0 0)) k 0 < d.arms
  arms_below k lt = ⊎_elim
      (λ less. subst (λ x. x < d.arms) (sym (getD_referred_left (handed_in places) (details_of d) (parts_of d 0 0) k less)) (below k less))
      (λ more. subst (λ x. x < d.arms) (sym (getD_referred_right (handed_in places) (details_of d) (parts_of d 0 0) k more))
      (default_there d.second d.namespace d.default d.arms default_names (k - references (parts_of d 0 0)) (omega (arith, length_referred (handed_in places) (details_of d) (parts_of d 0 0)))))
      (cases_lt k (references (parts_of d 0 0)))

  pub ready : Ready s d places
  ready = record {
    counted = parts_fitting.counted;
    few = few;
    children = λ k lt. subst (λ x. x < s.used) (kid_is k lt) (kids_known k lt);
    arms_there = arms_below;
  }

  pub is_small : small d ≡ true
  is_small = and_from _ _ (small_stored values d.constant nd.stored) (small_default d.default d.arms (omega (arith, few)) default_names)

  pub kids_placed : (k : ℕ) → k < draft_kids d → in_place s (parts_of d 0 0) (take k (kid_list d places)) (get_or (kid_list d places) k 0) ≡ true
  kids_placed k lt = place_passed s d places nd.placed k (omega (arith, listed))

  pub is_keepable : keepable d ≡ true
  is_keepable =
      and_from _ _ (and_from _ _ (range_passed d idents nd.range).0 (runs_more (length text) t.text_fits d (text_passed (length text) d idents nd.texts).0)) is_small

  -- the links that a draft needs: one for each place handed in and each shared name
  abbrev shared : ℕ
  shared = shared_of (shape_of (kind_of d.kind)).extra (length idents)

  pub shared_is : (x : Details) (y : Shape) (k : ℕ) → x ≡ details_of d → y ≡ shape_of x.kind → k ≡ shared_of y.extra (length idents) → k ≡ shared
  shared_is x y k is shaped e = e ∙ ap (λ z. shared_of z.extra (length idents)) shaped ∙ ap (λ z. shared_of (shape_of z.kind).extra (length idents)) is

  needed : (k : ℕ) → k ≡ shared → length places + k ≡ links (parts_of d 0 (length idents))
  needed k e = omega (arith, parts_fitting.counted)

  pub room_is : (k : ℕ) → k ≡ shared
      → unless (ltb s.used (min (length s.nodes) 4096) && leb (s.linked + (length places + k)) (min (length s.links) 8192)) (Full 0) ≡ due_room s d (length idents)
  room_is k e = ap (λ n. unless (ltb s.used (min (length s.nodes) 4096) && leb (s.linked + n) (min (length s.links) 8192)) (Full 0)) (needed k e)

  pub refusal_is : due_size s d places ≡ None → put_refusal s text d places idents values ≡ due_room s d (length idents)
  refusal_is size = ap (λ o. or_else o (or_else (due_size s d places) (due_room s d (length idents)))) none ∙ ap (λ o. or_else o (due_room s d (length idents))) size

  pub size_refused : (f : TableFault) → due_size s d places ≡ Some f → put_refusal s text d places idents values ≡ Some f
  size_refused f is =
      ap (λ x. or_else x (or_else (due_size s d places) (due_room s d (length idents)))) none ∙ ap (λ x. or_else x (due_room s d (length idents))) is

  -- what room there is, and what sizes are allowed
  pub room_there : due_room s d (length idents) ≡ None → (s.used < min (length s.nodes) 4096) × (s.linked + links (parts_of d 0 (length idents)) ≤ min (length s.links) 8192)
  room_there e = let p = and_parts _ _ (unless_none _ _ e) in (ltb-true _ _ p.0, leb-true _ _ p.1)

  pub size_there : due_size s d places ≡ None → (height_of s d places ≤ 64) × (lines_of s d places ≤ 65535)
  size_there e = let p = and_parts _ _ (unless_none _ _ e) in (leb-true _ _ p.0, leb-true _ _ p.1)

  pub parts_are : (p : Parts) (k : ℕ) → p ≡ record { start = s.linked; head = d.head; body = d.body; branch = d.branch; arms = d.arms; values = d.values; ranges = d.ranges; shared = k } → k ≡ shared → p ≡ parts_of d s.linked (length idents)
  parts_are p k is same =
      is ∙ (λ i. record { start = s.linked; head = d.head; body = d.body; branch = d.branch; arms = d.arms; values = d.values; ranges = d.ranges; shared = same i })

  same_true : (x y : Bool) → same x y ≡ true → x ≡ y
  same_true true y e = sym e
  same_true false y e = sym (not-true y e)

  -- so the node may be put
  module _ (size : due_size s d places ≡ None) (space : due_room s d (length idents) ≡ None) where
    pub fresh : Fresh s (node_of s d places (length idents)) (kid_list d places) (new_link places idents) (links (parts_of d 0 (length idents)))
    fresh = record {
      start = refl;
      counted = refl;
      listed = listed;
      links = λ k lt. sym (kid_is k lt);
      nodes_fit = (room_there space).0;
      links_fit = (room_there space).1;
      known = kids_known;
      free = kids_free;
      once = kids_once;
      sorted = λ k lt.
          let long : length (take k (kid_list d places)) ≡ k = length-take-le k (kid_list d places) (omega (arith, listed)) in
          same_true _ _ (kids_placed k lt) ∙ ap (λ i. leb d.head i && ltb i (d.head + d.body + d.branch)) long;
      arms = arms_below;
      height = refl;
      height_fits = (size_there size).0;
      lines = refl;
      lines_fit = (size_there size).1;
      alone = refl;
    }

    pub small_places : (j : ℕ) → j < length places → get_or places j 0 < 65536
    small_places j lt = ⊎_elim
        (λ less. omega (arith, ready.children j less, t.nodes_fit))
        (λ more. let ref = below (j - draft_kids d) (omega (arith, parts_fitting.counted)) in
        omega (arith, subst (λ i. get_or places i 0 < d.arms) {x = draft_kids d + (j - draft_kids d)} {y = j} (omega arith) ref, few))
        (cases_lt j (draft_kids d))

  pub idents_range : list_all ident_in_range idents ≡ true
  idents_range = (range_passed d idents nd.range).1

  pub idents_within : list_all (ident_within 65535) idents ≡ true
  idents_within = idents_more (length text) t.text_fits idents (text_passed (length text) d idents nd.texts).1

-- a node that is accepted may be put, and what always holds of the table then holds of the memory
module _ (t : Table) (o : Offer) (accepted : put_refusal (table_state t) t.text.now o.draft.now o.places.now o.idents.now o.values ≡ None) where
  pub before : due_before (table_state t) t.text.now o.draft.now o.places.now o.idents.now o.values ≡ None
  before = (or_none (due_before (table_state t) t.text.now o.draft.now o.places.now o.idents.now o.values) _ accepted).0

  later : (due_size (table_state t) o.draft.now o.places.now ≡ None) × (due_room (table_state t) o.draft.now (length o.idents.now) ≡ None)
  later = or_none (due_size (table_state t) o.draft.now o.places.now) _ (or_none (due_before (table_state t) t.text.now o.draft.now o.places.now o.idents.now o.values) _ accepted).1

  pub room_left : (t.memory.used < min (length t.memory.nodes.now) 4096) × (t.memory.linked + links (parts_of o.draft.now 0 (length o.idents.now)) ≤ min (length t.memory.links.now) 8192)
  room_left = room_there t o before later.1

  pub places_small : (j : ℕ) → j < length o.places.now → get_or o.places.now j 0 < 65536
  places_small = small_places t o before later.0 later.1

  module _ (m : Memory) (node : Node) (is : node ≡ node_of (table_state t) o.draft.now o.places.now (length o.idents.now))
      (grown : Grown (table_state t) (state_of m) node (take (kids node.parts) o.places.now) (new_link o.places.now o.idents.now) (links node.parts)) where
    pub grown_put : Grown (table_state t) (state_of m) (node_of (table_state t) o.draft.now o.places.now (length o.idents.now)) (kid_list o.draft.now o.places.now) (new_link o.places.now o.idents.now) (links (parts_of o.draft.now 0 (length o.idents.now)))
    grown_put = subst (λ n. Grown (table_state t) (state_of m) n (take (kids n.parts) o.places.now) (new_link o.places.now o.idents.now) (links n.parts)) is grown

    pub sound_put : Sound (state_of m)
    sound_put = sound_grown (table_state t) (state_of m) _ (kid_list o.draft.now o.places.now) (new_link o.places.now o.idents.now) _ (table_sound t) grown_put (fresh t o before later.0 later.1)
