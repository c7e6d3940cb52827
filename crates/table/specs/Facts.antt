-- What always holds of a table's memory. Assumes nothing.
use Rattle.std.specs.Prelude.{◌≡◌, ℕ, suc, ◌+◌, ◌<◌, ◌≤◌, min, Bool, true, ◌&&◌, length, nat_le, nat_lt, slice_index, slice_index_or}
use Rattle.kind.specs.Kinds.{is_stmt}
use Rattle.node.specs.Parts.{kids}
use Rattle.node.specs.Parts as parts
use Rattle.node.specs.declared.records.Parts.{Parts}
use Rattle.table.specs.State.{State, node_at, links_of, arms_referred, children, held, has, distinct, up_number, highest, all_lines}

-- a place names a node
abbrev pub known : State → ℕ → Bool
known s i = nat_lt i s.used

-- a node's rank, above that of all that it holds: today its place
abbrev pub rank : State → ℕ → ℕ
rank s i = i

-- the k-th child that a node holds
abbrev pub kid : State → ℕ → ℕ → ℕ
kid s i k = links_of s (node_at s i) k

-- a known node holds a k-th child; it stands under p; it refers to arms, and there is a k-th reference
abbrev pub Holds : State → ℕ → ℕ → Type 0
Holds s i k = (i < s.used) × (k < kids (node_at s i).parts)

abbrev pub Under : State → ℕ → ℕ → Type 0
Under s i p = (i < s.used) × (up_number (node_at s i).up ≡ suc (suc p))

abbrev pub Refers : State → ℕ → ℕ → Type 0
Refers s i k = (i < s.used) × (k < length (arms_referred s i))

-- body and branch take statements, every other part expressions
abbrev pub takes_stmt : Parts → ℕ → Bool
takes_stmt p k = nat_le p.head k && nat_lt k (parts.held p)

-- no more nodes and links are in use than were lent, nor than the limits
abbrev pub NodesFit : State → Type 0
NodesFit s = s.used ≤ min (length s.nodes) 4096

abbrev pub LinksFit : State → Type 0
LinksFit s = s.linked ≤ min (length s.links) 8192

-- a node's links lie among those in use
abbrev pub RunsFit : State → Type 0
RunsFit s = (i : ℕ) → i < s.used → (node_at s i).parts.start + parts.links (node_at s i).parts ≤ s.linked

-- what a node holds is known, of lower rank, stands under it, and is there once
abbrev pub KidsKnown : State → Type 0
KidsKnown s = (i k : ℕ) → Holds s i k → kid s i k < s.used

abbrev pub KidsLower : State → Type 0
KidsLower s = (i k : ℕ) → Holds s i k → rank s (kid s i k) < rank s i

abbrev pub KidsUnder : State → Type 0
KidsUnder s = (i k : ℕ) → Holds s i k → up_number (node_at s (kid s i k)).up ≡ suc (suc i)

abbrev pub KidsOnce : State → Type 0
KidsOnce s = (i : ℕ) → i < s.used → distinct (held s i) ≡ true

-- what stands under a node is held by it
abbrev pub UpKnown : State → Type 0
UpKnown s = (i p : ℕ) → Under s i p → p < s.used

abbrev pub UpHolds : State → Type 0
UpHolds s = (i p : ℕ) → Under s i p → has (held s p) i ≡ true

-- statements and expressions stand where they may
abbrev pub KidsSorted : State → Type 0
KidsSorted s = (i k : ℕ) → Holds s i k → is_stmt (node_at s (kid s i k)).details.kind ≡ takes_stmt (node_at s i).parts k

-- an arm that is referred to is there
abbrev pub ArmsThere : State → Type 0
ArmsThere s = (i k : ℕ) → Refers s i k → slice_index (arms_referred s i) k < (node_at s i).parts.arms

-- the height is one above the highest walked child's, and at most 64
abbrev pub Heights : State → Type 0
Heights s = (i : ℕ) → i < s.used → (node_at s i).height ≡ suc (highest s (children s i))

abbrev pub HeightsFit : State → Type 0
HeightsFit s = (i : ℕ) → i < s.used → (node_at s i).height ≤ 64

-- the number of lines is one more than those of the walked children together, and at most 65,535
abbrev pub Lines : State → Type 0
Lines s = (i : ℕ) → i < s.used → (node_at s i).lines ≡ suc (all_lines s (children s i))

abbrev pub LinesFit : State → Type 0
LinesFit s = (i : ℕ) → i < s.used → (node_at s i).lines ≤ 65535

-- walked children are known and lower: the law of a tree
abbrev pub Walks : State → ℕ → ℕ → Type 0
Walks s i k = (i < s.used) × (k < length (children s i))

abbrev pub WalkedKnown : State → Type 0
WalkedKnown s = (i k : ℕ) → Walks s i k → slice_index_or (children s i) k i < s.used

abbrev pub WalkedLower : State → Type 0
WalkedLower s = (i k : ℕ) → Walks s i k → (node_at s (slice_index_or (children s i) k i)).height < (node_at s i).height

-- all of it
pub record Sound (s : State) : Type 0 where
  pub nodes_fit : NodesFit s
  pub links_fit : LinksFit s
  pub runs_fit : RunsFit s
  pub kids_known : KidsKnown s
  pub kids_lower : KidsLower s
  pub kids_under : KidsUnder s
  pub kids_once : KidsOnce s
  pub up_known : UpKnown s
  pub up_holds : UpHolds s
  pub kids_sorted : KidsSorted s
  pub arms_there : ArmsThere s
  pub heights : Heights s
  pub heights_fit : HeightsFit s
  pub lines : Lines s
  pub lines_fit : LinesFit s
  pub walked_known : WalkedKnown s
  pub walked_lower : WalkedLower s
