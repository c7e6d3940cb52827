-- How a question is answered: with the one right answer where a test holds, else with a fault. And how a call that only
-- tests ends: with a refusal where one is due, else with nothing. Assumes nothing.
use Rattle.std.specs.Prelude.{Bool, true, false, cond, List, [], ◌∷◌, Ok, Err, Result, Some, None, Option}

abbrev pub told : {A F : Type 0} → Bool → A → F → Result A F
told true a f = Ok a
told false a f = Err f

abbrev pub passed_unless : {F : Type 0} → Option F → Result (Unit {0}) F
passed_unless None = Ok tt
passed_unless (Some f) = Err f

-- the fault of the first that fails a test, or none
abbrev pub first_failing : {N F : Type 0} → (N → Bool) → (N → F) → List N → Option F
first_failing test fault [] = None
first_failing test fault (n ∷ ns) = cond (test n) (first_failing test fault ns) (Some (fault n))
