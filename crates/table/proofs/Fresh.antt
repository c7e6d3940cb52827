-- What is known of a node that is about to be put, once every refusal was tested. Assumes nothing.
use Rattle.std.proofs.Common.{◌≡◌, ℕ, suc, ◌+◌, ◌<◌, ◌≤◌, min, true, List, length, slice_index}
use Rattle.kind.specs.Kinds.{is_stmt}
use Rattle.node.specs.Parts.{kids}
use Rattle.node.specs.Parts as parts
use Rattle.node.specs.declared.records.Link.{Link}
use Rattle.node.specs.declared.records.Node.{Node}
use Rattle.draft.specs.Details.{details_of}
use Rattle.draft.specs.Fits.{handed, kids as draft_kids}
use Rattle.draft.specs.declared.drafts.Draft.{Draft}
use Rattle.table.specs.Facts.{takes_stmt}
use Rattle.table.specs.Puts.{handed_in, parts_of}
use Rattle.table.specs.State.{State, node_at, referred, walked, distinct, up_number, highest, all_lines}

pub record Fresh (s : State) (node : Node) (kid_list : List ℕ) (new : ℕ → Link) (count : ℕ) : Type 0 where
  pub start : node.parts.start ≡ s.linked
  pub counted : parts.links node.parts ≡ count
  pub listed : length kid_list ≡ kids node.parts
  pub links : (k : ℕ) → k < kids node.parts → (new k).place ≡ slice_index kid_list k
  pub nodes_fit : s.used < min (length s.nodes) 4096
  pub links_fit : s.linked + count ≤ min (length s.links) 8192
  pub known : (k : ℕ) → k < kids node.parts → slice_index kid_list k < s.used
  pub free : (k : ℕ) → k < kids node.parts → up_number (node_at s (slice_index kid_list k)).up ≡ 0
  pub once : distinct kid_list ≡ true
  pub sorted : (k : ℕ) → k < kids node.parts → is_stmt (node_at s (slice_index kid_list k)).details.kind ≡ takes_stmt node.parts k
  pub arms : (k : ℕ) → k < length (referred (λ i. (new i).place) node.details node.parts) → slice_index (referred (λ i. (new i).place) node.details node.parts) k < node.parts.arms
  pub height : node.height ≡ suc (highest s (walked (λ i. (new i).place) node.details node.parts))
  pub height_fits : node.height ≤ 64
  pub lines : node.lines ≡ suc (all_lines s (walked (λ i. (new i).place) node.details node.parts))
  pub lines_fit : node.lines ≤ 65535
  pub alone : up_number node.up ≡ 0

-- a draft whose parts and data fit, whose children are known and none of which has a parent
pub record Ready (s : State) (d : Draft) (places : List ℕ) : Type 0 where
  pub counted : handed d ≡ length places
  pub few : draft_kids d ≤ 4096
  pub children : (k : ℕ) → k < draft_kids d → slice_index places k < s.used
  pub arms_there : (k : ℕ) → k < length (referred (handed_in places) (details_of d) (parts_of d 0 0)) → slice_index (referred (handed_in places) (details_of d) (parts_of d 0 0)) k < d.arms
