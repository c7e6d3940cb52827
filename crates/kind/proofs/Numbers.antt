-- What a list has at a number, or a refusal past its end. Assumes nothing.
use Rattle.std.proofs.Common.{◌≡◌, ℕ, ltb, List, length, get_or, if◌then◌else◌, Some, None, Ok, Err, Option, ap, ◌∙◌, le_refl}
use Rattle.std.specs.List.{ItemBy}
use Rattle.std.specs.Option.{ok_or, option_map}

pub read_or : {R X E : Type 0} (now : R → X) (xs : List X) (i : ℕ) (r : Option R) (d : X) (e : E) → ItemBy now xs i i r → ok_or (option_map now r) e ≡ (if ltb i (length xs) then Ok (get_or xs i d) else Err e)
read_or now xs i None d e at = ap (λ b. if b then Ok (get_or xs i d) else Err e) at.0
read_or now xs i (Some x) d e at = ap Ok (at.4 (le_refl i) d) ∙ ap (λ b. if b then Ok (get_or xs i d) else Err e) at.0
