-- The numbers kept of a node are those of its lines of descent. Assumes nothing.
use Rattle.std.proofs.Common.{◌≡◌, ℕ, zero, suc, ◌<◌, ◌≤◌, Bool, true, false, Result, ◌⊎◌, List, [], ◌∷◌, map, length, get_or, sym, refl, ap, ◌∙◌, subst, inl, inr, arith}
use Rattle.std.proofs.lemmas.List.{length-append, length-map, get_or_default}
use Rattle.std.proofs.lemmas.Bool.{cases_lt, ltb-true, lt-ltb}
use Rattle.tree.proofs.Listed.{lines, branches, listed}
use Rattle.tree.specs.Lines.{Follow, Numbers, child_of}
use Rattle.table.specs.Trees.{table_law}
use Rattle.table.specs.Facts.{Sound, known}
use Rattle.table.specs.State.{State, node_at, children, highest, all_lines}
use Rattle.table.specs.Told.{Longest, IsLines, IsHeight}
use Rattle.table.specs.Reads.{table_state}
use Rattle.table.specs.declared.tables.Table.{Table}
use Rattle.tree.specs.Answers.{told}
use Rattle.node.specs.declared.faults.TableFault.{TableFault}
use Rattle.node.specs.declared.faults.TableFault.TheVariants.{Missing}

length_branches : (s : State) (f : ℕ → List (List ℕ)) (i : ℕ) (cs : List ℕ) → ((k : ℕ) → k < length cs → length (f (get_or cs k 0)) ≡ (node_at s (get_or cs k 0)).lines) → length (branches f i cs) ≡ all_lines s cs
length_branches s f i [] each = refl
length_branches s f i (c ∷ cs) each =
    length-append (map (λ l. i ∷ l) (f c)) (branches f (suc i) cs)
    ∙ omega (arith, length-map (f c) (λ l. i ∷ l), each 0 (omega arith), length_branches s f (suc i) cs (λ k lt. each (suc k) (omega arith)))

-- one of some nodes is as high as the highest
tallest : (s : State) (c : ℕ) (cs : List ℕ) → (k : ℕ) × (k < suc (length cs)) × ((node_at s (get_or (c ∷ cs) k 0)).height ≡ highest s (c ∷ cs))
tallest s c [] = (0, omega arith, omega arith)
tallest s c (d ∷ cs) = pick (tallest s d cs) (cases_lt (node_at s c).height (highest s (d ∷ cs)))
  where
    pick : (k : ℕ) × (k < suc (length cs)) × ((node_at s (get_or (d ∷ cs) k 0)).height ≡ highest s (d ∷ cs)) → ((node_at s c).height < highest s (d ∷ cs)) ⊎ (highest s (d ∷ cs) ≤ (node_at s c).height)
        → (k : ℕ) × (k < suc (suc (length cs))) × ((node_at s (get_or (c ∷ (d ∷ cs)) k 0)).height ≡ highest s (c ∷ (d ∷ cs)))
    pick r (inl less) = (suc r.0, omega (arith, r.1), r.2 ∙ omega arith)
    pick r (inr more) = (0, omega arith, omega arith)

module _ (t : Table) where
  abbrev s : State
  s = table_state t

  child : (n k : ℕ) → n < s.used → k < length (children s n) → get_or (children s n) k 0 < s.used
  child n k lt within = subst (λ x. x < s.used) (get_or_default (children s n) k n 0 within) (t.walked_known n k (lt, within))

  lower : (n k : ℕ) → n < s.used → k < length (children s n) → (node_at s (get_or (children s n) k 0)).height < (node_at s n).height
  lower n k lt within = subst (λ x. (node_at s x).height < (node_at s n).height) (get_or_default (children s n) k n 0 within) (t.walked_lower n k (lt, within))

  length_lines : (h n : ℕ) → n < s.used → (node_at s n).height ≤ h → length (lines (children s) h n) ≡ (node_at s n).lines
  length_lines zero n lt le = absurd (omega (arith, t.heights n lt))
  length_lines (suc h) n lt le =
      ap suc (length_branches s (lines (children s) h) 0 (children s n) (λ k within. length_lines h (get_or (children s n) k 0) (child n k lt within) (omega (arith, lower n k lt within))))
      ∙ sym (t.lines n lt)

  pub numbered : (n : ℕ) → n < s.used → Numbers (children s) n (node_at s n).lines
  numbered n lt = (lines (children s) 64 n, listed (children s) (table_law t) 64 n (lt-ltb n s.used lt) (t.heights_fit n lt), sym (length_lines 64 n lt (t.heights_fit n lt)))

  bounded : (h n : ℕ) → n < s.used → (node_at s n).height ≤ h → (line : List ℕ) → Follow (children s) n line → suc (length line) ≤ (node_at s n).height
  bounded zero n lt le line f = absurd (omega (arith, t.heights n lt))
  bounded (suc h) n lt le [] f = omega (arith, t.heights n lt)
  bounded (suc h) n lt le (i ∷ line) f =
      let c = child_of (children s) n i in
      let below = t.walked_lower n i (lt, f.0) in
      omega (arith, bounded h c (t.walked_known n i (lt, f.0)) (omega arith) line f.1)

  reach : (h n : ℕ) → n < s.used → (node_at s n).height ≤ h → (line : List ℕ) × Follow (children s) n line × (suc (length line) ≡ (node_at s n).height)
  reach zero n lt le = absurd (omega (arith, t.heights n lt))
  reach (suc h) n lt le = go (children s n) refl (λ c low less. reach h c low less)
    where
      go : (cs : List ℕ) → children s n ≡ cs → ((c : ℕ) → c < s.used → (node_at s c).height ≤ h → (line : List ℕ) × Follow (children s) c line × (suc (length line) ≡ (node_at s c).height))
          → (line : List ℕ) × Follow (children s) n line × (suc (length line) ≡ (node_at s n).height)
      go [] is down = ([], tt, sym (t.heights n lt ∙ ap (λ xs. suc (highest s xs)) is))
      go (c ∷ cs) is down =
          let top = tallest s c cs in
          let within : top.0 < length (children s n) = subst (λ xs. top.0 < length xs) (sym is) top.1 in
          let same : child_of (children s) n top.0 ≡ get_or (c ∷ cs) top.0 0 = get_or_default (children s n) top.0 n 0 within ∙ ap (λ xs. get_or xs top.0 0) is in
          let high = t.heights n lt ∙ ap (λ xs. suc (highest s xs)) is in
          let r = down (child_of (children s) n top.0) (t.walked_known n top.0 (lt, within)) (omega (arith, t.walked_lower n top.0 (lt, within))) in
          (top.0 ∷ r.0, (within, r.1), omega (arith, r.2, ap (λ x. (node_at s x).height) same, top.2))

  pub longest : (n : ℕ) → n < s.used → Longest s n (node_at s n).height
  longest n lt = record { most = bounded 64 n lt (t.heights_fit n lt); reached = reach 64 n lt (t.heights_fit n lt) }

-- all that always holds of a table, as one fact
pub table_sound : (t : Table) → Sound (table_state t)
table_sound t = record {
  nodes_fit = t.nodes_fit;
  links_fit = t.links_fit;
  runs_fit = t.runs_fit;
  kids_known = t.kids_known;
  kids_lower = t.kids_lower;
  kids_under = t.kids_under;
  kids_once = t.kids_once;
  up_known = t.up_known;
  up_holds = t.up_holds;
  kids_sorted = t.kids_sorted;
  arms_there = t.arms_there;
  heights = t.heights;
  heights_fit = t.heights_fit;
  lines = t.lines;
  lines_fit = t.lines_fit;
  walked_known = t.walked_known;
  walked_lower = t.walked_lower;
}

-- what a table tells of a node is so
module _ (t : Table) (n : ℕ) (r : Result ℕ TableFault) where
  pub lines_told : r ≡ told (known (table_state t) n) (node_at (table_state t) n).lines (Missing n) → IsLines (table_state t) n r
  lines_told is = subst (IsLines (table_state t) n) (sym is) (cases (known (table_state t) n) refl)
    where
      cases : (b : Bool) → known (table_state t) n ≡ b → IsLines (table_state t) n (told b (node_at (table_state t) n).lines (Missing n))
      cases true k = numbered t n (ltb-true n t.memory.used k)
      cases false k = tt

  pub height_told : r ≡ told (known (table_state t) n) (node_at (table_state t) n).height (Missing n) → IsHeight (table_state t) n r
  height_told is = subst (IsHeight (table_state t) n) (sym is) (cases (known (table_state t) n) refl)
    where
      cases : (b : Bool) → known (table_state t) n ≡ b → IsHeight (table_state t) n (told b (node_at (table_state t) n).height (Missing n))
      cases true k = longest t n (ltb-true n t.memory.used k)
      cases false k = tt
