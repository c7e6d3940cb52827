-- What a path stack means: the names that it holds, and how many it can hold. Assumes nothing.
use Rattle.std.specs.Prelude.{◌≡◌, ℕ, ◌<◌, ◌≤◌, min, List, [], ◌∷◌, ◌++◌, length, take, Some, None, Ok, Err, Option, Result}
use Rattle.tree.specs.declared.paths.PathFault.{PathFault}
use Rattle.tree.specs.declared.stacks.PathStack.{PathStack}

-- the names on the path, the first first
abbrev pub names_of : {N : Type 0} → PathStack N → List N
names_of path = take path.len path.places.now

-- how many names fit: the places lent, and no more than 128 of them
abbrev pub capacity_of : {N : Type 0} → PathStack N → ℕ
capacity_of path = min (length path.places.now) 128

-- Two states of a path over one and the same lent memory.
pub record SameMemory {N : Type 0} (before after : PathStack N) : Type 0 where
  pub lent : after.places.ghost_name ≡ before.places.ghost_name
  pub sized : length after.places.now ≡ length before.places.now

-- a name more at the end where one fits; else fault 9 at that name, and the path and its memory are what they were
abbrev pub Pushed : {N : Type 0} → PathStack N → N → Result (Unit {0}) (PathFault N) → PathStack N → Type 0
Pushed before n (Ok _) after = (length (names_of before) < capacity_of before) × (names_of after ≡ names_of before ++ n ∷ [])
Pushed before n (Err f) after = (capacity_of before ≤ length (names_of before)) × (f.place ≡ n) × (after ≡ before)

-- the last name off the path, and none off an empty one
abbrev pub Popped : {N : Type 0} → PathStack N → Option N → PathStack N → Type 0
Popped before None after = (names_of before ≡ []) × (after ≡ before)
Popped before (Some n) after = names_of before ≡ names_of after ++ n ∷ []
