-- Bounds of keys.
use Rattle.std.specs.Prelude.{ℕ, suc, ◌^◌, List, [], ◌∷◌, drop, slice_index_or}
use Rattle.page_face.specs.Number.{number}
use Rattle.btree_nodes.specs.declared.form.Form.{Form}
use Rattle.btree_nodes.specs.Nodes.{entries_in}
use Rattle.btree_nodes.specs.Tree.{with_low, next_key}

-- the number that all keys of this length are below: that of the bound, or where it is empty that of all keys
abbrev pub upper_of : ℕ → List ℕ → ℕ
upper_of key [] = 256 ^ key
upper_of key (x ∷ xs) = number (x ∷ xs)

-- the lower bound of the child at a place of an inner page
abbrev pub low_at : Form → List ℕ → ℕ → ℕ → ℕ
low_at form page low at = (slice_index_or (with_low low (entries_in form page)) at (0, 0)).0

-- the upper bound of the child at a place of an inner page
abbrev pub high_at : Form → List ℕ → ℕ → ℕ → ℕ
high_at form page high at = next_key high (drop (suc at) (entries_in form page))

-- the child at a place of an inner page
abbrev pub child_of : Form → List ℕ → ℕ → ℕ
child_of form page at = (slice_index_or (entries_in form page) at (0, 0)).1
