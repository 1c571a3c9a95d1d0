-- Where a row was found, and how that is tied to the page looked at.
use Rattle.std.specs.Prelude.{◌≡◌, ℕ, ◌+◌, ◌*◌, ◌<◌, ◌≤◌, List, Option, option_map}
use Rattle.page_face.specs.Causes.{IsUncounted}
use Rattle.page_face.specs.Cells.{IsPlace, key_at}
use Rattle.page_face.specs.FreeList.{PageMap}
use Rattle.page_face.specs.Nodes.{count_of}
use Rattle.btree_nodes.specs.declared.form.Form.{Form}
use Rattle.btree_nodes.specs.Nodes.{IsLeaf, rows_in}
use Rattle.btree_nodes.specs.Rows.{IsWithin}
use Rattle.btree_nodes.specs.Tree.{IsMap}
use Rattle.btree_nodes.specs.Leaves.{IsLeafOf}
use Rattle.paged_map.specs.declared.replacing.RowSpot.{RowSpot}

-- the page of a row that was found
abbrev pub leaf_of : Option RowSpot → Option ℕ
leaf_of = option_map (λ (spot : RowSpot). spot.page)

-- The bytes are those of a leaf between some bounds that has the row of a key at the spot, whose page is counted.
pub record IsRowAt (form : Form) (count : ℕ) (bytes : List ℕ) (key : ℕ) (spot : RowSpot) : Type 0 where
  pub least : ℕ
  pub low : ℕ
  pub high : ℕ
  pub sound : IsLeaf form least bytes
  pub within : IsWithin low high (rows_in form bytes)
  pub from : low ≤ key
  pub to : key < high
  pub counted : IsUncounted count spot.page → ⊥
  pub fits : 16 + (form.key + form.value) * spot.count ≤ 4096
  pub small : spot.at < spot.count
  pub is : spot.count ≡ count_of bytes
  pub place : IsPlace form.key (form.key + form.value) spot.count bytes key spot.at
  pub same : key_at form.key (form.key + form.value) bytes spot.at ≡ key

-- The bytes are those of the spot's page, which is the leaf of the map at a root that the key belongs to.
pub record IsInLeaf (form : Form) (pages : PageMap) (root : ℕ) (bytes : List ℕ) (key : ℕ) (spot : RowSpot) : Type 0 where
  pub least : ℕ
  pub low : ℕ
  pub high : ℕ
  pub is : bytes ≡ pages spot.page
  pub leaf : IsLeafOf form pages root least spot.page low high
  pub from : low ≤ key
  pub to : key < high

-- The page looked at, which has these bytes, has the row of a key at the spot; if the map at the root is well formed, that page is its leaf.
pub record IsSpot (form : Form) (pages : PageMap) (count root : ℕ) (bytes : List ℕ) (key : ℕ) (spot : RowSpot) : Type 0 where
  pub row : IsRowAt form count bytes key spot
  pub leaf : IsMap form pages root → IsInLeaf form pages root bytes key spot
