-- How a comparison of texts decides what a path ends at. Assumes nothing.
use Rattle.std.proofs.Common.{◌≡◌, ℕ, Bool, true, false, ◌&&◌, eqb, List, length, sym, ap, ◌∙◌}
use Rattle.std.proofs.lemmas.Bool.{cond-false}
use Rattle.std.specs.Str.{bytes_eq}
use Rattle.outline.specs.Trees.{known_in, text_in}
use Rattle.outline.specs.Visits.{ends_at, last_of}
use Rattle.outline.specs.declared.entries.Entry.{Entry}
use Rattle.outline.specs.declared.outlines.Outline.{Outline}

pub ends_told : (o : Outline) (path : List Entry) (word : List ℕ) (r : Bool) {text : List ℕ} → eqb (length path) 0 ≡ false → known_in o (last_of path) ≡ true → text ≡ text_in o (last_of path) → r ≡ bytes_eq text word
    → r ≡ ends_at o path word
ends_told o path word r {text} some known is compared =
    compared ∙ ap (λ t. bytes_eq t word) is
    ∙ ap (λ b. b && bytes_eq (text_in o (last_of path)) word) (sym known) ∙ sym (cond-false (eqb (length path) 0) _ _ some)
