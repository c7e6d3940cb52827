-- Inner: what the branches of an outline are once they are nested. Assumes nothing.
use Rattle.std.specs.Prelude.{◌≡◌, List}
use Rattle.outline.specs.Items.{branch_depths, children_lists, heights_of, items_of}
use Rattle.outline.specs.Nesting.{Measured, Parented, Shallow, roots_of}
use Rattle.outline.specs.declared.entries.Entry.{Entry}
use Rattle.outline.specs.declared.items.Branch.{Branch}

-- the same entries have their children and their heights, and the outermost are known
pub record Nested (before after : List Branch) (roots : List Entry) : Type 0 where
  pub items : items_of after ≡ items_of before
  pub parented : Parented (branch_depths before) (children_lists after)
  pub measured : Measured (branch_depths before) (heights_of after)
  pub shallow : Shallow (branch_depths before) (heights_of after)
  pub rooted : roots ≡ roots_of (branch_depths before)
