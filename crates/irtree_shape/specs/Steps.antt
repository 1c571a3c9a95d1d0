-- What single steps on pages and rows do to the nodes of a tree.
use Rattle.std.specs.Prelude.{◌≡◌, ℕ, ◌+◌, ◌<◌, List, Option, None, Some, nat_lt, if◌then◌else◌}
use Rattle.page_face.specs.FreeList.{PageMap}
use Rattle.btree_nodes.specs.Supply.{one_at}
use Rattle.rtree_nodes.specs.Slots.{Item, NodeMap, tops}
use Rattle.rtree_nodes.specs.Stock.{View, view}
use Rattle.node_rows.specs.Rows.{Bytes, bytes_in}
use Rattle.node_rows.specs.Impacts.{impact_in, raised, refreshed}
use Rattle.irtree_shape.specs.Stock.{Moves}

-- The pages `mine` have become `ours`: they hold what `held` does, and their rows say these bytes.
pub record Steps (before : View) (pages : PageMap) (rows count first : ℕ) (mine ours : ℕ → ℕ) (b : Bytes) (held : PageMap) : Type 0 where
  pub free : List ℕ
  pub moves : Moves before (view pages rows count first free) mine ours
  pub bytes : (n w i : ℕ) → 0 < ours n → bytes_in pages rows n w i ≡ b n w i
  pub holds : (n : ℕ) → 0 < ours n → pages n ≡ held n

-- a page was taken and holds these bytes, and no row names it
pub record Takes (before : View) (pages : PageMap) (rows count first page : ℕ) (bytes : List ℕ) : Type 0 where
  pub free : List ℕ
  pub moves : Moves before (view pages rows count first free) (λ n. 0) (one_at page)
  pub here : pages page ≡ bytes
  pub none : (w i : ℕ) → bytes_in pages rows page w i ≡ 0

-- a page holds these bytes and keeps its rows, and one that was taken holds those and has no row
pub record IsPaired (before : View) (pages : PageMap) (rows count first page right : ℕ) (front back : List ℕ) : Type 0 where
  pub free : List ℕ
  pub moves : Moves before (view pages rows count first free) (one_at page) (λ n. one_at page n + one_at right n)
  pub here : pages page ≡ front
  pub there : pages right ≡ back
  pub bytes : (w i : ℕ) → bytes_in pages rows page w i ≡ bytes_in before.pages before.rows page w i
  pub none : (w i : ℕ) → bytes_in pages rows right w i ≡ 0
  pub apart : page ≡ right → ⊥

-- a child's item with the words below it
abbrev pub bounding_child : NodeMap → Item → Item
bounding_child nodes x = record x { reach = λ d. if nat_lt d 4 then x.reach d else tops d (nodes x.to).slots }

-- the same, if there is one
abbrev pub bounding_child_in : NodeMap → Option Item → Option Item
bounding_child_in nodes None = None
bounding_child_in nodes (Some x) = Some (bounding_child nodes x)

-- the bytes of a slot whose child is still one node and took in these words, or was split
abbrev pub relinked : {X : Type 0} → Option X → ℕ → ℕ → ℕ → List (ℕ × ℕ) → Bytes → Bytes
relinked None page at child words b = raised page at (impact_in words) b
relinked (Some y) page at child words b = refreshed page at child b
