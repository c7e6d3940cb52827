-- What holds of the names that a walk was not refused for. Assumes nothing.
use Rattle.std.proofs.Common.{◌≡◌, ℕ, ◌≤◌, Bool, true, false, cond, leb, All, List, [], ◌∷◌, Some, None, Ok, Option, Result, refl}
use Rattle.std.proofs.lemmas.Bool.{leb-true}
use Rattle.std.proofs.lemmas.List.Elements.{All-nil, All-cons, All-weaker}
use Rattle.tree.specs.Answers.{first_failing, passed_unless}
use Rattle.tree.specs.Forests.{each_room, refusal_each}
use Rattle.tree.specs.Walks.{first_missing}

-- a call that only tests has passed
pub passed : {F : Type 0} (o : Option F) {r : Result (Unit {0}) F} {u : Unit {0}} → r ≡ passed_unless o → r ≡ Ok u → o ≡ None
passed None e is = refl
passed (Some f) e is = cc

-- where none is the first to fail a test, all pass it
pub all_pass : {N F : Type 0} (test : N → Bool) (fault : N → F) (names : List N) → first_failing test fault names ≡ None → All (λ n. test n ≡ true) names
all_pass test fault [] e = All-nil (λ n. test n ≡ true)
all_pass test fault (n ∷ ns) e = go (test n) refl e (all_pass test fault ns)
  where
    go : (b : Bool) → test n ≡ b → cond b (first_failing test fault ns) (Some (fault n)) ≡ None → (first_failing test fault ns ≡ None → All (λ m. test m ≡ true) ns) → All (λ m. test m ≡ true) (n ∷ ns)
    go true is e' rest = All-cons (λ m. test m ≡ true) n ns is (rest e')
    go false is e' rest = cc

-- no refusal is due for any of several names: the tree knows each, and each is low enough
pub admitted : {N F : Type 0} (known : N → Bool) (heights : N → ℕ) (missing : N → F) (names : List N) (capacity : ℕ) → refusal_each known heights missing names capacity ≡ None
    → All (λ n. known n ≡ true) names × All (λ n. heights n ≤ capacity) names
admitted {F = F} known heights missing names capacity e = go (first_missing known missing names) refl e
  where
    go : (o : Option F) → first_missing known missing names ≡ o → each_room heights names capacity o ≡ None → All (λ n. known n ≡ true) names × All (λ n. heights n ≤ capacity) names
    go None is e' = (
      all_pass known missing names is,
      All-weaker _ _ (λ n. leb-true (heights n) capacity) names (all_pass (λ n. leb (heights n) capacity) _ names e'),
    )
    go (Some f) is e' = cc
