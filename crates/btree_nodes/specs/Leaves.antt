-- The leaf of a map that a key belongs to.
use Rattle.std.specs.Prelude.{◌≡◌, ℕ, ◌^◌, ◌<◌, ◌≤◌, List, ◌++◌}
use Rattle.page_face.specs.FreeList.{PageMap, with_page}
use Rattle.page_face.specs.Nodes.{count_of}
use Rattle.btree_nodes.specs.declared.form.Form.{Form}
use Rattle.btree_nodes.specs.Rows.{Row, IsWithin}
use Rattle.btree_nodes.specs.Nodes.{rows_in, IsLeaf}
use Rattle.btree_nodes.specs.Tree.{IsMap, map_rows, map_uses}
use Rattle.btree_nodes.specs.declared.locating.Leaf.{Leaf}

-- What a page looked at shows of itself: a leaf of at least so many rows, between bounds that hold the key.
pub record IsShown (form : Form) (page : List ℕ) (key low high : ℕ) (leaf : Leaf) : Type 0 where
  pub some : 1 ≤ leaf.least
  pub sound : IsLeaf form leaf.least page
  pub within : IsWithin low high (rows_in form page)
  pub count : leaf.count ≡ count_of page
  pub from : low ≤ key
  pub to : key < high

-- pages that hold a map of these rows at a root, which uses the same pages
pub record HoldsInstead (form : Form) (pages pages' : PageMap) (root : ℕ) (rows : List Row) : Type 0 where
  pub map : IsMap form pages' root
  pub has : map_rows form pages' root ≡ rows
  pub uses : (n : ℕ) → map_uses form pages' root n ≡ map_uses form pages root n

-- The page is the leaf of a map that has the keys from `low` up to `high`: the map's rows are those in front, its own, and those behind. Another leaf of such keys, written in its place, gives the map its rows, where no page is used twice.
pub record IsLeafOf (form : Form) (pages : PageMap) (root least page low high : ℕ) : Type 0 where
  pub front : List Row
  pub back : List Row
  pub used : 0 < map_uses form pages root page
  pub leaf : IsLeaf form least (pages page)
  pub within : IsWithin low high (rows_in form (pages page))
  pub rows : map_rows form pages root ≡ front ++ (rows_in form (pages page) ++ back)
  pub before : IsWithin 0 low front
  pub behind : IsWithin high (256 ^ form.key) back
  pub edit : (bytes : List ℕ) → IsLeaf form least bytes → IsWithin low high (rows_in form bytes) → ((n : ℕ) → map_uses form pages root n ≤ 1)
      → HoldsInstead form pages (with_page page bytes pages) root (front ++ (rows_in form bytes ++ back))
