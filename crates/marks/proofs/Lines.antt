-- A test that holds at the end of each line of descent. Assumes nothing.
use Rattle.std.proofs.Common.{◌≡◌, ℕ, ◌<◌, Bool, true, false, List, [], ◌∷◌, length, get_or, subst, sym}
use Rattle.tree.specs.Lines.{Follow, end_of}
use Rattle.table.specs.Reads.{table_state}
use Rattle.table.specs.State.{State, node_at, children}
use Rattle.marks.specs.Asks.{IsAt, record_of, state}
use Rattle.marks.specs.Marks.{plain_kind, harmless, counted, IsConstant, IsPure}
use Rattle.marks.specs.declared.asks.KnownNode.{KnownNode}

module _ (f : ℕ → List ℕ) (test : ℕ → Bool) where
  abbrev pub Ends : ℕ → Type 0
  Ends n = (line : List ℕ) → Follow f n line → test (end_of f n line) ≡ true

  -- it holds from a name where it holds at the name itself and from each of its children
  pub ends_from : (n : ℕ) → test n ≡ true → ((i : ℕ) → i < length (f n) → Ends (get_or (f n) i n)) → Ends n
  ends_from n here below [] u = here
  ends_from n here below (i ∷ line) (lt, rest) = below i lt line rest

  pub ends_here : (n : ℕ) → Ends n → test n ≡ true
  ends_here n ends = ends [] tt

  pub ends_below : (n i : ℕ) → Ends n → i < length (f n) → Ends (get_or (f n) i n)
  ends_below n i ends lt line rest = ends (i ∷ line) (lt, rest)

module _ (s : State) (n : ℕ) where
  pub constant_from : plain_kind (node_at s n).details.kind ≡ true → ((i : ℕ) → i < length (children s n) → IsConstant s (get_or (children s n) i n)) → IsConstant s n
  unfolding IsConstant
  constant_from here below = ends_from (children s) (λ i. plain_kind (node_at s i).details.kind) n here below

  constant_here : IsConstant s n → plain_kind (node_at s n).details.kind ≡ true
  unfolding IsConstant
  constant_here c = ends_here (children s) (λ i. plain_kind (node_at s i).details.kind) n c

  constant_below : (i : ℕ) → IsConstant s n → i < length (children s n) → IsConstant s (get_or (children s n) i n)
  unfolding IsConstant
  constant_below i c lt = ends_below (children s) (λ i. plain_kind (node_at s i).details.kind) n i c lt

  pub pure_from : harmless s n ≡ true → ((i : ℕ) → i < length (counted s n) → IsPure s (get_or (counted s n) i n)) → IsPure s n
  unfolding IsPure
  pure_from here below = ends_from (counted s) (harmless s) n here below

  pub pure_here : IsPure s n → harmless s n ≡ true
  unfolding IsPure
  pure_here p = ends_here (counted s) (harmless s) n p

  pure_below : (i : ℕ) → IsPure s n → i < length (counted s n) → IsPure s (get_or (counted s n) i n)
  unfolding IsPure
  pure_below i p lt = ends_below (counted s) (harmless s) n i p lt

-- what holds of a node at a place holds of a known node there
carried : (P : State → ℕ → Type 0) (k j : KnownNode) (n : ℕ) → IsAt k.table.now n j → P (state k) n → P (state j) j.n
carried P k j n is p = subst (λ t. P (table_state t) j.n) (sym is.0) (subst (P (state k)) (sym is.1) p)

-- a known node for which it does not hold: it fails at the node, or from one of its children
module _ (k : KnownNode) where
  pub constant_not_here : plain_kind (record_of k).details.kind ≡ false → IsConstant (state k) k.n → ⊥
  constant_not_here other c = let plain = constant_here (state k) k.n c in cc

  pub constant_not_below : (j : KnownNode) (i : ℕ) → IsAt k.table.now (get_or (children (state k) k.n) i k.n) j → (IsConstant (state j) j.n → ⊥) → i < length (children (state k) k.n)
      → IsConstant (state k) k.n → ⊥
  constant_not_below j i is never lt c = never (carried IsConstant k j (get_or (children (state k) k.n) i k.n) is (constant_below (state k) k.n i c lt))

  pub pure_not_below : (j : KnownNode) (i : ℕ) → IsAt k.table.now (get_or (counted (state k) k.n) i k.n) j → (IsPure (state j) j.n → ⊥) → i < length (counted (state k) k.n)
      → IsPure (state k) k.n → ⊥
  pure_not_below j i is never lt p = never (carried IsPure k j (get_or (counted (state k) k.n) i k.n) is (pure_below (state k) k.n i p lt))
