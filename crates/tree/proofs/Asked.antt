-- What an answer of a tree tells of the name that was asked about. Assumes nothing.
use Rattle.std.proofs.Common.{◌≡◌, ℕ, ◌<◌, Bool, true, false, ◌&&◌, ltb, List, length, Ok, Result, sym, refl, subst}
use Rattle.std.proofs.lemmas.Bool.{and_parts, ltb-true}
use Rattle.tree.specs.Answers.{told}
use Rattle.tree.specs.Lines.{TreeLaw, child_of}

told_ok : {A F : Type 0} (b : Bool) (a : A) (f : F) {x : A} {r : Result A F} → r ≡ told b a f → r ≡ Ok x → (b ≡ true) × (x ≡ a)
told_ok true a f p q = (refl, cc)
told_ok false a f p q = cc

-- a child that was answered is one of its parent's, and so known and lower
pub child_told : {N F : Type 0} {known : N → Bool} {heights : N → ℕ} {children : N → List N} (law : TreeLaw known heights children) (missing : N → F) (n : N) (i : ℕ) {child : N} {r : Result N F}
    → r ≡ told (known n && ltb i (length (children n))) (child_of children n i) (missing n) → r ≡ Ok child
    → (i < length (children n)) × (child ≡ child_of children n i) × (known child ≡ true) × (heights child < heights n)
child_told {known} {heights} {children} law missing n i told is =
    let k = told_ok _ _ _ told is in
    let b = and_parts (known n) _ k.0 in
    let within = ltb-true _ _ b.1 in
    (within, k.1, subst (λ m. known m ≡ true) (sym k.1) (law.kept n i b.0 within), subst (λ m. heights m < heights n) (sym k.1) (law.falls n i b.0 within))
