-- What always holds of a table holds after a put. Assumes nothing.
use Rattle.std.proofs.Common.{◌≡◌, ℕ, suc, ◌+◌, ◌<◌, ◌≤◌, Bool, true, false, cond, ◌⊎◌, List, length, get_or, Some, sym, refl, ap, ◌∙◌, subst, ap₂, inl, inr, ⊎_elim, arith}
use Rattle.std.proofs.lemmas.Bool.{cases_lt, cases_Bool}
use Rattle.std.proofs.lemmas.List.{same_lists, get_or_default}
use Rattle.kind.specs.Kinds.{is_stmt}
use Rattle.node.specs.Parts.{kids, references}
use Rattle.node.specs.Parts as parts
use Rattle.node.specs.declared.records.Link.{Link}
use Rattle.node.specs.declared.records.Node.{Node}
use Rattle.node.specs.declared.records.Up.TheVariants as up
use Rattle.table.specs.Facts.{Sound, kid, Holds, Under, Refers, Walks, takes_stmt}
use Rattle.table.proofs.Fresh.{Fresh}
use Rattle.table.specs.Grows.{Grown, with_up}
use Rattle.table.specs.State.{State, node_at, link_at, links_of, named, referred, walked, children, held, arms_referred, has, distinct, up_number, highest, all_lines}
use Rattle.table.proofs.Agree.{named_agrees, walked_held, referred_agrees, walked_agrees, highest_agrees, lines_agree, highest_above}
use Rattle.table.proofs.Found.{length_named, getD_named}
use Rattle.table.proofs.Has.{has_at, has_place}

-- the tree law of walked children follows from the rest
module _ (s : State) (kids_known : (i k : ℕ) → Holds s i k → kid s i k < s.used)
    (arms_there : (i k : ℕ) → Refers s i k → get_or (arms_referred s i) k 0 < (node_at s i).parts.arms)
    (heights : (i : ℕ) → i < s.used → (node_at s i).height ≡ suc (highest s (children s i))) where
  pub child_known : (i k : ℕ) → Walks s i k → get_or (children s i) k i < s.used
  child_known i k (lt, within) =
      let n = node_at s i in
      let r = walked_held (links_of s n) n.details n.parts (λ j ltj. arms_there i j (lt, ltj)) k within in
      subst (λ x. x < s.used) (sym (get_or_default (children s i) k i 0 within ∙ r.2)) (kids_known i r.0 (lt, r.1))

  pub child_lower : (i k : ℕ) → Walks s i k → (node_at s (get_or (children s i) k i)).height < (node_at s i).height
  child_lower i k (lt, within) =
      let high = highest_above s (children s i) k within in
      subst (λ x. (node_at s x).height < (node_at s i).height) (sym (get_or_default (children s i) k i 0 within)) (omega (arith, heights i lt))

module _ (s s' : State) (node : Node) (kid_list : List ℕ) (new : ℕ → Link) (count : ℕ) (sound : Sound s) (grown : Grown s s' node kid_list new count) (fresh : Fresh s node kid_list new count) where
  abbrev u : ℕ
  u = s.used

  -- a place that is known now was known before, or is the new one
  by_place : (P : ℕ → Type 0) → ((j : ℕ) → j < u → P j) → P u → (j : ℕ) → j < s'.used → P j
  by_place P old here j lt = ⊎_elim (λ less. old j less) (λ more. subst P {x = u} (omega (arith, grown.used)) here) (cases_lt j u)

  -- an adopted node differs only in what it stands under
  adopted_data : (b : Bool) (n : Node) → ((cond b (with_up (Some (up.Node u)) n) n).details ≡ n.details) × ((cond b (with_up (Some (up.Node u)) n) n).parts ≡ n.parts)
      × ((cond b (with_up (Some (up.Node u)) n) n).height ≡ n.height) × ((cond b (with_up (Some (up.Node u)) n) n).lines ≡ n.lines)
  adopted_data true n = (refl, refl, refl, refl)
  adopted_data false n = (refl, refl, refl, refl)

  same_details : (j : ℕ) → j < u → (node_at s' j).details ≡ (node_at s j).details
  same_details j lt = ap (λ n. n.details) (grown.old_nodes j lt) ∙ (adopted_data (has kid_list j) (node_at s j)).0

  same_parts : (j : ℕ) → j < u → (node_at s' j).parts ≡ (node_at s j).parts
  same_parts j lt = ap (λ n. n.parts) (grown.old_nodes j lt) ∙ (adopted_data (has kid_list j) (node_at s j)).1

  same_height : (j : ℕ) → j < u → (node_at s' j).height ≡ (node_at s j).height
  same_height j lt = ap (λ n. n.height) (grown.old_nodes j lt) ∙ (adopted_data (has kid_list j) (node_at s j)).2

  same_lines : (j : ℕ) → j < u → (node_at s' j).lines ≡ (node_at s j).lines
  same_lines j lt = ap (λ n. n.lines) (grown.old_nodes j lt) ∙ (adopted_data (has kid_list j) (node_at s j)).3

  same_links : (j : ℕ) → j < u → (k : ℕ) → k < parts.links (node_at s j).parts → links_of s' (node_at s' j) k ≡ links_of s (node_at s j) k
  same_links j lt k within =
      ap (λ p. (link_at s' (p.start + k)).place) (same_parts j lt) ∙ ap (λ l. l.place) (grown.old_links ((node_at s j).parts.start + k) (omega (arith, sound.runs_fit j lt)))

  -- so it has the same children, held or walked
  same_held : (j : ℕ) → j < u → held s' j ≡ held s j
  same_held j lt =
      ap (λ p. named (links_of s' (node_at s' j)) 0 (kids p)) (same_parts j lt)
      ∙ named_agrees (links_of s' (node_at s' j)) (links_of s (node_at s j)) 0 (kids (node_at s j).parts) (λ k low high. same_links j lt k (omega arith))

  same_referred : (j : ℕ) → j < u → arms_referred s' j ≡ arms_referred s j
  same_referred j lt =
      ap₂ (referred (links_of s' (node_at s' j))) (same_details j lt) (same_parts j lt)
      ∙ referred_agrees (links_of s' (node_at s' j)) (links_of s (node_at s j)) (node_at s j).details (node_at s j).parts (λ k high. same_links j lt k (omega arith))

  same_children : (j : ℕ) → j < u → children s' j ≡ children s j
  same_children j lt =
      let n = node_at s j in
      let agree = λ (k : ℕ) (high : k < kids n.parts + references n.parts). same_links j lt k (omega arith) in
      let arms_old = referred_agrees (links_of s' (node_at s' j)) (links_of s n) n.details n.parts agree in
      ap₂ (walked (links_of s' (node_at s' j))) (same_details j lt) (same_parts j lt)
      ∙ walked_agrees (links_of s' (node_at s' j)) (links_of s n) n.details n.parts agree
      (λ k high. subst (λ xs. get_or xs k 0 < n.parts.arms) (sym arms_old) (sound.arms_there j k (lt, subst (λ xs. k < length xs) arms_old high)))

  -- the new node
  new_details : (node_at s' u).details ≡ node.details
  new_details = ap (λ n. n.details) grown.new_node

  new_parts : (node_at s' u).parts ≡ node.parts
  new_parts = ap (λ n. n.parts) grown.new_node

  new_named : (k : ℕ) → k < parts.links node.parts → links_of s' (node_at s' u) k ≡ (new k).place
  new_named k within =
      ap (λ p. (link_at s' (p.start + k)).place) new_parts ∙ ap (λ i. (link_at s' (i + k)).place) fresh.start ∙ ap (λ l. l.place) (grown.new_links k (omega (arith, fresh.counted)))

  new_kid : (k : ℕ) → k < kids node.parts → kid s' u k ≡ get_or kid_list k 0
  new_kid k within = new_named k (omega arith) ∙ fresh.links k within

  new_held : held s' u ≡ kid_list
  new_held =
      ap (λ p. named (links_of s' (node_at s' u)) 0 (kids p)) new_parts
      ∙ same_lists (named (links_of s' (node_at s' u)) 0 (kids node.parts)) kid_list (length_named (links_of s' (node_at s' u)) 0 (kids node.parts) ∙ sym fresh.listed)
      (λ k d high.
      let within : k < kids node.parts = omega (arith, length_named (links_of s' (node_at s' u)) 0 (kids node.parts)) in
      getD_named (links_of s' (node_at s' u)) 0 (kids node.parts) k d within
      ∙ ap (links_of s' (node_at s' u)) {y = k} (omega arith) ∙ new_kid k within ∙ get_or_default kid_list k 0 d (omega (arith, fresh.listed)))

  new_referred : arms_referred s' u ≡ referred (λ i. (new i).place) node.details node.parts
  new_referred =
      ap₂ (referred (links_of s' (node_at s' u))) new_details new_parts
      ∙ referred_agrees (links_of s' (node_at s' u)) (λ i. (new i).place) node.details node.parts (λ k high. new_named k (omega arith))

  new_children : children s' u ≡ walked (λ i. (new i).place) node.details node.parts
  new_children =
      ap₂ (walked (links_of s' (node_at s' u))) new_details new_parts
      ∙ sym (walked_agrees (λ i. (new i).place) (links_of s' (node_at s' u)) node.details node.parts (λ k high. sym (new_named k (omega arith))) fresh.arms)

  -- what nodes stand under
  up_is : (j : ℕ) → j < u → up_number (node_at s' j).up ≡ cond (has kid_list j) (suc (suc u)) (up_number (node_at s j).up)
  up_is j lt = ap (λ n. up_number n.up) (grown.old_nodes j lt) ∙ pick (has kid_list j)
    where
      pick : (b : Bool) → up_number (cond b (with_up (Some (up.Node u)) (node_at s j)) (node_at s j)).up ≡ cond b (suc (suc u)) (up_number (node_at s j).up)
      pick true = refl
      pick false = refl

  -- a child that was taken stood under nothing, so no node held it
  taken : (j : ℕ) → j < u → has kid_list j ≡ true → up_number (node_at s j).up ≡ 0
  taken j lt h =
      let r = has_place kid_list j 0 h in
      subst (λ x. up_number (node_at s x).up ≡ 0) r.2 (fresh.free r.0 (omega (arith, fresh.listed, r.1)))

  not_taken : (j i : ℕ) → j < u → up_number (node_at s j).up ≡ suc i → has kid_list j ≡ false
  not_taken j i lt stands = ⊎_elim (λ h. absurd (omega (arith, taken j lt h))) (λ h. h) (cases_Bool (has kid_list j))

  still_under : (j i : ℕ) → j < u → up_number (node_at s j).up ≡ suc i → up_number (node_at s' j).up ≡ suc i
  still_under j i lt stands = up_is j lt ∙ ap (λ b. cond b (suc (suc u)) (up_number (node_at s j).up)) (not_taken j i lt stands) ∙ stands

  same_kid : (j k : ℕ) → Holds s j k → kid s' j k ≡ kid s j k
  same_kid j k (lt, within) = same_links j lt k (omega arith)

  -- a child held before, and one of the new node
  was_held : (j k : ℕ) → j < u → k < kids (node_at s' j).parts → Holds s j k
  was_held j k lt within = (lt, subst (λ p. k < kids p) (same_parts j lt) within)

  is_held : (k : ℕ) → k < kids (node_at s' u).parts → k < kids node.parts
  is_held k within = subst (λ p. k < kids p) new_parts within

  kids_known' : (j k : ℕ) → Holds s' j k → kid s' j k < s'.used
  kids_known' j k (lt, within) = by_place (λ i. k < kids (node_at s' i).parts → kid s' i k < s'.used)
      (λ i less w. let h = was_held i k less w in omega (arith, same_kid i k h, sound.kids_known i k h, grown.used))
      (λ w. omega (arith, new_kid k (is_held k w), fresh.known k (is_held k w), grown.used)) j lt within

  kids_lower' : (j k : ℕ) → Holds s' j k → kid s' j k < j
  kids_lower' j k (lt, within) = by_place (λ i. k < kids (node_at s' i).parts → kid s' i k < i)
      (λ i less w. let h = was_held i k less w in omega (arith, same_kid i k h, sound.kids_lower i k h))
      (λ w. omega (arith, new_kid k (is_held k w), fresh.known k (is_held k w))) j lt within

  kids_under' : (j k : ℕ) → Holds s' j k → up_number (node_at s' (kid s' j k)).up ≡ suc (suc j)
  kids_under' j k (lt, within) = by_place (λ i. k < kids (node_at s' i).parts → up_number (node_at s' (kid s' i k)).up ≡ suc (suc i))
      (λ i less w.
      let h = was_held i k less w in
      ap (λ x. up_number (node_at s' x).up) (same_kid i k h) ∙ still_under (kid s i k) (suc i) (sound.kids_known i k h) (sound.kids_under i k h))
      (λ w.
      let here = is_held k w in
      ap (λ x. up_number (node_at s' x).up) (new_kid k here) ∙ up_is (get_or kid_list k 0) (fresh.known k here)
      ∙ ap (λ b. cond b (suc (suc u)) (up_number (node_at s (get_or kid_list k 0)).up)) (has_at kid_list k 0 (omega (arith, fresh.listed)))) j lt within

  kids_once' : (j : ℕ) → j < s'.used → distinct (held s' j) ≡ true
  kids_once' j lt = by_place (λ i. distinct (held s' i) ≡ true) (λ i less. ap distinct (same_held i less) ∙ sound.kids_once i less) (ap distinct new_held ∙ fresh.once) j lt

  -- what a node stands under now: the new node, or what it stood under before
  up_cases : (j p : ℕ) → j < u → up_number (node_at s' j).up ≡ suc (suc p) → ((has kid_list j ≡ true) × (p ≡ u)) ⊎ (up_number (node_at s j).up ≡ suc (suc p))
  up_cases j p lt stands = go (has kid_list j) refl
    where
      go : (b : Bool) → has kid_list j ≡ b → ((has kid_list j ≡ true) × (p ≡ u)) ⊎ (up_number (node_at s j).up ≡ suc (suc p))
      go true e = inl (e, omega (arith, up_is j lt ∙ ap (λ b. cond b (suc (suc u)) (up_number (node_at s j).up)) e))
      go false e = inr (sym (up_is j lt ∙ ap (λ b. cond b (suc (suc u)) (up_number (node_at s j).up)) e) ∙ stands)

  new_alone : (p : ℕ) → up_number (node_at s' u).up ≡ suc (suc p) → ⊥
  new_alone p stands = omega (arith, sym (ap (λ n. up_number n.up) grown.new_node) ∙ stands, fresh.alone)

  up_known' : (j p : ℕ) → Under s' j p → p < s'.used
  up_known' j p (lt, stands) = by_place (λ i. up_number (node_at s' i).up ≡ suc (suc p) → p < s'.used)
      (λ i less st. ⊎_elim (λ e. omega (arith, e.1, grown.used)) (λ old. omega (arith, sound.up_known i p (less, old), grown.used)) (up_cases i p less st))
      (λ st. absurd (new_alone p st)) j lt stands

  up_holds' : (j p : ℕ) → Under s' j p → has (held s' p) j ≡ true
  up_holds' j p (lt, stands) = by_place (λ i. up_number (node_at s' i).up ≡ suc (suc p) → has (held s' p) i ≡ true)
      (λ i less st. ⊎_elim
      (λ e. subst (λ x. has (held s' x) i ≡ true) (sym e.1) (ap (λ xs. has xs i) new_held ∙ e.0))
      (λ old. ap (λ xs. has xs i) (same_held p (sound.up_known i p (less, old))) ∙ sound.up_holds i p (less, old)) (up_cases i p less st))
      (λ st. absurd (new_alone p st)) j lt stands

  kids_sorted' : (j k : ℕ) → Holds s' j k → is_stmt (node_at s' (kid s' j k)).details.kind ≡ takes_stmt (node_at s' j).parts k
  kids_sorted' j k (lt, within) = by_place (λ i. k < kids (node_at s' i).parts → is_stmt (node_at s' (kid s' i k)).details.kind ≡ takes_stmt (node_at s' i).parts k)
      (λ i less w.
      let h = was_held i k less w in
      ap (λ x. is_stmt (node_at s' x).details.kind) (same_kid i k h) ∙ ap (λ d. is_stmt d.kind) (same_details (kid s i k) (sound.kids_known i k h))
      ∙ sound.kids_sorted i k h ∙ ap (λ p. takes_stmt p k) (sym (same_parts i less)))
      (λ w.
      let here = is_held k w in
      ap (λ x. is_stmt (node_at s' x).details.kind) (new_kid k here) ∙ ap (λ d. is_stmt d.kind) (same_details (get_or kid_list k 0) (fresh.known k here))
      ∙ fresh.sorted k here ∙ ap (λ p. takes_stmt p k) (sym new_parts)) j lt within

  arms_there' : (j k : ℕ) → Refers s' j k → get_or (arms_referred s' j) k 0 < (node_at s' j).parts.arms
  arms_there' j k (lt, within) = by_place (λ i. k < length (arms_referred s' i) → get_or (arms_referred s' i) k 0 < (node_at s' i).parts.arms)
      (λ i less w.
      subst (λ xs. get_or xs k 0 < (node_at s' i).parts.arms) (sym (same_referred i less))
      (subst (λ p. get_or (arms_referred s i) k 0 < p.arms) (sym (same_parts i less)) (sound.arms_there i k (less, subst (λ xs. k < length xs) (same_referred i less) w))))
      (λ w.
      subst (λ xs. get_or xs k 0 < (node_at s' u).parts.arms) (sym new_referred)
      (subst (λ p. get_or (referred (λ i. (new i).place) node.details node.parts) k 0 < p.arms) (sym new_parts) (fresh.arms k (subst (λ xs. k < length xs) new_referred w)))) j lt within

  -- heights and lines
  old_child : (j i : ℕ) → j < u → i < length (children s j) → get_or (children s j) i 0 < u
  old_child j i lt within = subst (λ x. x < u) (get_or_default (children s j) i j 0 within) (sound.walked_known j i (lt, within))

  new_child : (i : ℕ) → i < length (walked (λ k. (new k).place) node.details node.parts) → get_or (walked (λ k. (new k).place) node.details node.parts) i 0 < u
  new_child i within =
      let r = walked_held (λ k. (new k).place) node.details node.parts fresh.arms i within in
      omega (arith, r.2, fresh.links r.0 r.1, fresh.known r.0 r.1)

  heights' : (j : ℕ) → j < s'.used → (node_at s' j).height ≡ suc (highest s' (children s' j))
  heights' = by_place (λ i. (node_at s' i).height ≡ suc (highest s' (children s' i)))
      (λ i less. same_height i less ∙ sound.heights i less
      ∙ ap suc (sym (ap (highest s') (same_children i less) ∙ highest_agrees s s' (children s i) (λ k lt. same_height _ (old_child i k less lt)))))
      (ap (λ n. n.height) grown.new_node ∙ fresh.height
      ∙ ap suc (sym (ap (highest s') new_children ∙ highest_agrees s s' _ (λ k lt. same_height _ (new_child k lt)))))

  lines' : (j : ℕ) → j < s'.used → (node_at s' j).lines ≡ suc (all_lines s' (children s' j))
  lines' = by_place (λ i. (node_at s' i).lines ≡ suc (all_lines s' (children s' i)))
      (λ i less. same_lines i less ∙ sound.lines i less
      ∙ ap suc (sym (ap (all_lines s') (same_children i less) ∙ lines_agree s s' (children s i) (λ k lt. same_lines _ (old_child i k less lt)))))
      (ap (λ n. n.lines) grown.new_node ∙ fresh.lines
      ∙ ap suc (sym (ap (all_lines s') new_children ∙ lines_agree s s' _ (λ k lt. same_lines _ (new_child k lt)))))

  pub sound_grown : Sound s'
  sound_grown = record {
    nodes_fit = omega (arith, grown.used, grown.nodes_long, fresh.nodes_fit);
    links_fit = omega (arith, grown.linked, grown.links_long, fresh.links_fit);
    runs_fit = by_place (λ i. (node_at s' i).parts.start + parts.links (node_at s' i).parts ≤ s'.linked)
        (λ i less. subst (λ p. p.start + parts.links p ≤ s'.linked) (sym (same_parts i less)) (omega (arith, sound.runs_fit i less, grown.linked)))
        (subst (λ p. p.start + parts.links p ≤ s'.linked) (sym new_parts) (omega (arith, fresh.start, fresh.counted, grown.linked)));
    kids_known = kids_known';
    kids_lower = kids_lower';
    kids_under = kids_under';
    kids_once = kids_once';
    up_known = up_known';
    up_holds = up_holds';
    kids_sorted = kids_sorted';
    arms_there = arms_there';
    heights = heights';
    heights_fit = by_place (λ i. (node_at s' i).height ≤ 64) (λ i less. omega (arith, same_height i less, sound.heights_fit i less)) (omega (arith, ap (λ n. n.height) grown.new_node, fresh.height_fits));
    lines = lines';
    lines_fit = by_place (λ i. (node_at s' i).lines ≤ 65535) (λ i less. omega (arith, same_lines i less, sound.lines_fit i less)) (omega (arith, ap (λ n. n.lines) grown.new_node, fresh.lines_fit));
    walked_known = child_known s' kids_known' arms_there' heights';
    walked_lower = child_lower s' kids_known' arms_there' heights';
  }
