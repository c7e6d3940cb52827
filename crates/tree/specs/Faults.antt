-- The numbers and layers of the faults of this crate. Assumes nothing.
use Rattle.std.specs.Prelude.{ℕ}
use Rattle.tree.specs.declared.faults.Layer.{Layer}
use Rattle.tree.specs.declared.faults.Layer.TheVariants as layer
use Rattle.tree.specs.declared.limits.MemoryFault.{MemoryFault}
use Rattle.tree.specs.declared.paths.PathFault.{PathFault}
use Rattle.tree.specs.declared.walks.WalkFault.{WalkFault}
use Rattle.tree.specs.declared.walks.WalkFault.TheVariants.{Tree, Path}

-- memory over its limit is fault 1, of the memory's own layer
abbrev pub memory_number : MemoryFault → ℕ
memory_number f = 1

abbrev pub memory_layer : MemoryFault → Layer
memory_layer f = layer.Memory

-- a path that is too short is fault 9, of the path's layer
abbrev pub path_number : {N : Type 0} → PathFault N → ℕ
path_number f = 9

abbrev pub path_layer : {N : Type 0} → PathFault N → Layer
path_layer f = layer.Path

-- a walk passes the fault of its tree or of its path on whole
abbrev pub walk_number : {N F : Type 0} → (F → ℕ) → WalkFault N F → ℕ
walk_number number (Tree f) = number f
walk_number number (Path f) = path_number f

abbrev pub walk_layer : {N F : Type 0} → (F → Layer) → WalkFault N F → Layer
walk_layer found (Tree f) = found f
walk_layer found (Path f) = path_layer f
