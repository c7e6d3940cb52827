-- Where the counted children of a node stand among its links. Assumes nothing.
use Rattle.std.proofs.Common.{◌≡◌, ℕ, ◌+◌, ◌-◌, ◌/◌, ◌%◌, ◌<◌, ◌≤◌, List, [], ◌∷◌, ◌++◌, map, length, get_or, Some, ap, ◌∙◌, ap₂, arith}
use Rattle.std.proofs.lemmas.List.{length-append, get_or_append_left, get_or-append_right, length-map, get_or_default}
use Rattle.std.proofs.lemmas.Bool.{ltb-true}
use Rattle.std.specs.Option.{option_to_list}
use Rattle.node.specs.Parts.{default_arm, held, kids, references, run_count, run_from}
use Rattle.node.specs.declared.records.Details.{Details}
use Rattle.node.specs.declared.records.Node.{Node}
use Rattle.node.specs.declared.records.Parts.{Parts}
use Rattle.table.specs.Facts.{kid}
use Rattle.table.specs.Reads.{reference_at}
use Rattle.table.specs.State.{State, links_of, named, references_of, default_of, through, value_of}
use Rattle.table.proofs.Found.{length_named, getD_named, walked_run, length_through, getD_through, length_referred, getD_referred_left, getD_referred_right, one_default}
use Rattle.marks.specs.Asks.{state, record_of}
use Rattle.marks.specs.declared.asks.KnownNode.{KnownNode}
use Rattle.marks.specs.Marks.{counted_blocks, counted_of, counted}
use Rattle.marks.specs.Runs.{counted_count}

module _ (f : ℕ → ℕ) (d : Details) (p : Parts) where
  abbrev from : ℕ
  from = run_from (counted_blocks d.kind) p

  abbrev direct : ℕ
  direct = run_count (counted_blocks d.kind) p

  abbrev arms : List ℕ
  arms = through f p (references_of f p)

  abbrev defaults : List ℕ
  defaults = map (value_of f p) (default_of d.second)

  counted_is : counted_of f d p ≡ named f from direct ++ (arms ++ defaults)
  counted_is = ap (λ x. x ++ (arms ++ defaults)) (walked_run (counted_blocks d.kind) f p)

  length_arms : length arms ≡ references p + references p
  length_arms = length_through f p (references_of f p) ∙ ap (λ k. k + k) (length_named f (kids p) (references p))

  pub length_counted : length (counted_of f d p) ≡ counted_count d p
  length_counted =
      ap length counted_is
      ∙ length-append (named f from direct) (arms ++ defaults)
      ∙ ap₂ ◌+◌ (length_named f from direct) (length-append arms defaults ∙ ap₂ ◌+◌ length_arms (length-map (default_of d.second) (value_of f p)))

  pub counted_direct : (i : ℕ) → i < direct → get_or (counted_of f d p) i 0 ≡ f (from + i)
  counted_direct i lt =
      ap (λ x. get_or x i 0) counted_is
      ∙ get_or_append_left (named f from direct) _ 0 i (omega (arith, length_named f from direct))
      ∙ getD_named f from direct i 0 lt

  past_direct : (i : ℕ) → direct ≤ i → get_or (counted_of f d p) i 0 ≡ get_or (arms ++ defaults) (i - direct) 0
  past_direct i ge = ap (λ x. get_or x i 0) counted_is ∙ get_or-append_right (named f from direct) (arms ++ defaults) direct i 0 (length_named f from direct) ge

  pub counted_arm : (i : ℕ) → direct ≤ i → i - direct < references p + references p
      → get_or (counted_of f d p) i 0 ≡ f (held p + f (kids p + (i - direct) / 2) + f (kids p + (i - direct) / 2) + (i - direct) % 2)
  counted_arm i ge lt =
      let j = (i - direct) / 2 in
      let at : get_or (references_of f p) j 0 ≡ f (kids p + j) = getD_named f (kids p) (references p) j 0 (omega arith) in
      past_direct i ge
      ∙ get_or_append_left arms defaults 0 (i - direct) (omega (arith, length_arms))
      ∙ getD_through f p (references_of f p) (i - direct) 0 (omega (arith, length_named f (kids p) (references p)))
      ∙ ap (λ x. f (held p + x + x + (i - direct) % 2)) at

  pub counted_default : (i arm : ℕ) → default_arm d.second ≡ Some arm → direct ≤ i → references p + references p ≤ i - direct → i < counted_count d p
      → get_or (counted_of f d p) i 0 ≡ value_of f p arm
  counted_default i arm is ge more lt =
      let first : i - direct - (references p + references p) ≡ 0 = omega (arith, one_default (default_arm d.second)) in
      past_direct i ge
      ∙ get_or-append_right arms defaults (references p + references p) (i - direct) 0 length_arms more
      ∙ ap (λ x. get_or defaults x 0) first
      ∙ ap (λ x. get_or (map (value_of f p) (option_to_list x)) 0 0) is

-- where the code finds the arms and the counted children of a known node
module _ (k : KnownNode) where
  abbrev s : State
  s = state k

  abbrev node : Node
  node = record_of k

  abbrev runs : ℕ
  runs = run_count (counted_blocks node.details.kind) node.parts

  here : k.n < s.used
  here = ltb-true k.n s.used k.is_known

  pub counted_length : length (counted s k.n) ≡ counted_count node.details node.parts
  counted_length = length_counted (links_of s node) node.details node.parts

  -- an arm that it refers to is there
  pub reference_there : (j : ℕ) → j < references node.parts → reference_at s k.n j < node.parts.arms
  reference_there j lt =
      omega (arith, getD_referred_left (links_of s node) node.details node.parts j lt, k.table.now.arms_there k.n j (here, omega (arith, length_referred (links_of s node) node.details node.parts)))

  pub default_there : (arm : ℕ) → default_arm node.details.second ≡ Some arm → arm < node.parts.arms
  default_there arm is =
      let j = references node.parts in
      let none : j - j ≡ 0 = omega arith in
      let first : get_or (default_of node.details.second) (j - j) 0 ≡ arm = ap (λ x. get_or (option_to_list x) (j - j) 0) is ∙ ap (λ x. get_or (arm ∷ []) x 0) none in
      let one : length (default_of node.details.second) ≡ 1 = ap (λ x. length (option_to_list x)) is in
      omega (
        arith,
        first,
        getD_referred_right (links_of s node) node.details node.parts j (omega arith),
        k.table.now.arms_there k.n j (here, omega (arith, one, length_referred (links_of s node) node.details node.parts)),
      )

  module _ (i : ℕ) (inside : i < length (counted s k.n)) where
    pub direct_at : i < runs → get_or (counted s k.n) i k.n ≡ kid s k.n (run_from (counted_blocks node.details.kind) node.parts + i)
    direct_at lt = get_or_default (counted s k.n) i k.n 0 inside ∙ counted_direct (links_of s node) node.details node.parts i lt

    pub arm_at : runs ≤ i → i - runs < references node.parts + references node.parts
        → get_or (counted s k.n) i k.n ≡ kid s k.n (held node.parts + reference_at s k.n ((i - runs) / 2) + reference_at s k.n ((i - runs) / 2) + (i - runs) % 2)
    arm_at ge lt = get_or_default (counted s k.n) i k.n 0 inside ∙ counted_arm (links_of s node) node.details node.parts i ge lt

    pub default_at : (arm : ℕ) → default_arm node.details.second ≡ Some arm → runs ≤ i → references node.parts + references node.parts ≤ i - runs
        → get_or (counted s k.n) i k.n ≡ value_of (kid s k.n) node.parts arm
    default_at arm is ge more =
        get_or_default (counted s k.n) i k.n 0 inside
        ∙ counted_default (links_of s node) node.details node.parts i arm is ge more (omega (arith, inside, counted_length))

-- which child counts at a number, and that an arm which the code asks for is there
pub ruleset counted_places = (counted_length, direct_at, arm_at, default_at, reference_there, default_there)
