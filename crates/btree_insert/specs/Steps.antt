-- One step from a page to a child, with the place of the child's entry.
use Rattle.std.specs.Prelude.{◌≡◌, ℕ, ◌<◌, ◌≤◌, List}
use Rattle.page_face.specs.Nodes.{count_of}
use Rattle.btree_nodes.specs.declared.form.Form.{Form}
use Rattle.btree_nodes.specs.Nodes.{entries_in}
use Rattle.btree_nodes.specs.Tree.{IsPlaceFor}
use Rattle.btree_nodes.specs.Bounds.{low_at, high_at, child_of}

-- the key belongs to the entry at this place, the child is that of the entry, and its bounds are these
pub record StepsAt (form : Form) (page : List ℕ) (key low high at child lo hi : ℕ) : Type 0 where
  pub within : at < count_of page
  pub place : IsPlaceFor (entries_in form page) key at
  pub is : child ≡ child_of form page at
  pub from : lo ≡ low_at form page low at
  pub to : hi ≡ high_at form page high at
  pub over : low ≤ key → lo ≤ key
  pub under : key < high → key < hi
