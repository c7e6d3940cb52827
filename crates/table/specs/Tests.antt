-- The tests of a put on the children that are handed in. Assumes nothing.
use Rattle.std.specs.Prelude.{ℕ, Bool, cond, not, ◌&&◌, List, [], ◌∷◌, ◌++◌, length, Some, None, Option, ◌==◌, nat_le, nat_lt}
use Rattle.draft.specs.Fits.{same}
use Rattle.kind.specs.Kinds.{is_stmt}
use Rattle.node.specs.Parts.{held}
use Rattle.node.specs.declared.records.Parts.{Parts}
use Rattle.table.specs.Facts.{known}
use Rattle.table.specs.State.{State, node_at, has, up_number}

-- the first of some places that fails a test, which may look at those before it
abbrev pub first_failing : (List ℕ → ℕ → Bool) → List ℕ → List ℕ → Option ℕ
first_failing test done [] = None
first_failing test done (c ∷ cs) = cond (test done c) (first_failing test (done ++ c ∷ []) cs) (Some c)

-- a place names a node
abbrev pub is_known : State → List ℕ → ℕ → Bool
is_known s done c = known s c

-- a statement stands where the part takes statements, an expression where it takes expressions:
-- statements stand from one number until another
abbrev pub sorted_at : State → ℕ → ℕ → List ℕ → ℕ → Bool
sorted_at s from until done c = same (is_stmt (node_at s c).details.kind) (nat_le from (length done) && nat_lt (length done) until)

abbrev pub in_place : State → Parts → List ℕ → ℕ → Bool
in_place s p done c = sorted_at s p.head (held p) done c

-- a node stands under nothing, and was not named before
abbrev pub is_free : State → ℕ → Bool
is_free s c = up_number (node_at s c).up == 0

abbrev pub not_held : State → List ℕ → ℕ → Bool
not_held s done c = is_free s c && not (has done c)
