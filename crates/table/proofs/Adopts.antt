-- One place more that stands under a node. Assumes nothing.
use Rattle.std.proofs.Common.{◌≡◌, ℕ, ◌+◌, ◌<◌, Bool, true, false, cond, List, [], ◌∷◌, ◌++◌, length, get_or, take, set, Some, sym, refl, ap, ◌∙◌, subst, ⊎_elim, arith}
use Rattle.std.proofs.lemmas.List.{take_more, get_or-set_same, get_or-set_other}
use Rattle.std.proofs.lemmas.Bool.{cases_eq, cond-true}
use Rattle.node.specs.declared.records.Node.{Node}
use Rattle.node.specs.declared.records.Up.TheVariants as up
use Rattle.table.specs.Grows.{with_up, adopted}
use Rattle.table.specs.State.{State, node_at, has, blank}
use Rattle.table.proofs.Has.{has_push_same, has_push_other}

module _ (s : State) (places : List ℕ) (p k : ℕ) (within : k < length places) (nodes : List Node) (long : length nodes ≡ length s.nodes)
    (so_far : (j : ℕ) → j < length s.nodes → get_or nodes j blank ≡ adopted s (take k places) p j) where
  abbrev c : ℕ
  c = get_or places k 0

  pushed : take (k + 1) places ≡ take k places ++ c ∷ []
  pushed = take_more places k 0 within

  twice : (b : Bool) (n : Node) → with_up (Some (up.Node p)) (cond b (with_up (Some (up.Node p)) n) n) ≡ with_up (Some (up.Node p)) n
  twice true n = refl
  twice false n = refl

  here : c < length s.nodes → get_or (set nodes c (with_up (Some (up.Node p)) (get_or nodes c blank))) c blank ≡ adopted s (take (k + 1) places) p c
  here lt =
      get_or-set_same nodes c _ blank (omega arith)
      ∙ ap (with_up (Some (up.Node p))) (so_far c lt) ∙ twice (has (take k places) c) (node_at s c)
      ∙ sym (cond-true (has (take (k + 1) places) c) _ _ (ap (λ xs. has xs c) pushed ∙ has_push_same (take k places) c))

  pub adopt_more : c < length s.nodes → (j : ℕ) → j < length s.nodes → get_or (set nodes c (with_up (Some (up.Node p)) (get_or nodes c blank))) j blank ≡ adopted s (take (k + 1) places) p j
  adopt_more lt j ltj =
      ⊎_elim (λ e. subst (λ i. get_or (set nodes c (with_up (Some (up.Node p)) (get_or nodes c blank))) i blank ≡ adopted s (take (k + 1) places) p i) (sym e) (here lt))
      (λ ne.
      get_or-set_other nodes c j _ blank ne
      ∙ so_far j ltj
      ∙ ap (λ b. cond b (with_up (Some (up.Node p)) (node_at s j)) (node_at s j)) (sym (ap (λ xs. has xs j) pushed ∙ has_push_other (take k places) c j (λ e. ne (sym e)))))
      (cases_eq j c)
