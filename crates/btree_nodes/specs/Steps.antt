-- One step from a page to its child.
use Rattle.std.specs.Prelude.{◌≡◌, ℕ, ◌<◌, ◌≤◌, List, take}
use Rattle.page_face.specs.Nodes.{count_of}
use Rattle.page_face.specs.Number.{number}
use Rattle.btree_nodes.specs.declared.form.Form.{Form}
use Rattle.btree_nodes.specs.Nodes.{entries_in}
use Rattle.btree_nodes.specs.Tree.{IsPlaceFor}
use Rattle.btree_nodes.specs.Bounds.{upper_of, low_at, high_at, child_of}
use Rattle.btree_nodes.specs.declared.narrowing.Bounds.{Bounds}

-- the number of the lower bound
abbrev pub low_of : Form → Bounds → ℕ
low_of form bounds = number (take form.key bounds.low)

-- the number of the upper bound, or 256 ^ key where there is none
abbrev pub high_of : Form → Bounds → ℕ
high_of form bounds = upper_of form.key (take bounds.top bounds.high)

-- the child is that of the entry that the key belongs to, and these are its bounds
pub record StepsTo (form : Form) (page : List ℕ) (key low high child lo hi : ℕ) : Type 0 where
  pub at : ℕ
  pub within : at < count_of page
  pub place : IsPlaceFor (entries_in form page) key at
  pub is : child ≡ child_of form page at
  pub from : lo ≡ low_at form page low at
  pub to : hi ≡ high_at form page high at
  pub over : low ≤ key → lo ≤ key
  pub under : key < high → key < hi
