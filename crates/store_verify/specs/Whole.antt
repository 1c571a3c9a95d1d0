-- A store that is whole: it keeps each rule of its format.
use Rattle.std.specs.Prelude.{◌≡◌, ℕ, ◌+◌, List, length, sum_by, All, ◌==◌, if◌then◌else◌}
use Rattle.page_face.specs.FreeList.{PageMap, IsFreeList}
use Rattle.page_face.specs.declared.head.Head.{Head}
use Rattle.page_store.specs.declared.superblock.Superblock.{Superblock}
use Rattle.page_store.specs.Superblock.{IsInRange}
use Rattle.btree_nodes.specs.Supply.{times, uncounted}
use Rattle.btree_nodes.specs.Tree.{IsMap, map_uses}
use Rattle.spatial_base.specs.Key.{Name, form_of}
use Rattle.place_values.specs.State.{IsSerialAbove}
use Rattle.row_codec.specs.declared.stored.Stored.{Stored}
use Rattle.rtree_nodes.specs.Slots.{Item}
use Rattle.rtree_nodes.specs.Stock.{rows_form}
use Rattle.rtree_nodes.specs.Pages.{node_of}
use Rattle.rtree_nodes.specs.Reach.{place_item}
use Rattle.rtree_nodes.specs.Whole.{IsWell, tree_sum}
use Rattle.store_tables.specs.Entries.{Entries}
use Rattle.store_tables.specs.Holding.{Holds, table_uses}
use Rattle.store_tables.specs.Words.{WordsAgree}
use Rattle.store_model.specs.Stands.{tables_in}
use Rattle.store_verify.specs.Tree.{AreRowsOf, node_uses}

-- how often the tables, the tree and its rows use a page
abbrev pub store_uses : Head → PageMap → ℕ → ℕ
store_uses head pages n = table_uses pages (tables_in head) n + (node_uses head pages n + map_uses rows_form pages head.rows n)

-- 1 for page 0 and for a page that isn't counted, and else 0
unfoldable pub outside : ℕ → ℕ → ℕ
outside count n = if n == 0 then 1 else uncounted count n

-- the sum of f over the entries that places have in a tree, without their words: of each place its point and its key
abbrev pub place_sum : (Item → ℕ) → List (Name × Stored) → ℕ
place_sum f places = sum_by (λ (e : Name × Stored). f (place_item e.1.point (form_of e.0))) places

-- the number of live places and the next serial agree with the places
pub record AreCounts (head : Head) (places : List (Name × Stored)) : Type 0 where
  pub live : head.live ≡ length places
  pub serials : All (λ (e : Name × Stored). IsSerialAbove head.serial e.0) places

-- The store is whole, by these rules:
--
-- - Head: page 0's fields are in their ranges (`head`).
-- - Kind, Fill, Order, Spare, Level and Value in the tables: each is a well-formed map, and its rows are those of entries (`tables`).
-- - The same in the rows' map, in which any key and value is of its form (`map`).
-- - Kind, Fill, Spare, Level, Value and Rect in nodes: the tree by itself is well formed (`tree`).
-- - Row: the rows say of each word the impacts of the places in leaves, and the greatest byte below each slot in inner nodes; no row is
--   too many (`rows`).
-- - Kind and Spare in free pages: the free list ends at 0 (`chain`).
-- - Link and Shared: each page that is counted, but page 0, is once in exactly one of the tables, the tree, its rows and the free list.
--   Page 0 and a page that isn't counted are in none (`once`).
-- - Entry: the entries of the leaves are the places, each once with its point (`leaves`).
-- - Words: the words by text and by number agree with each other and with the places (`words`).
-- - Counts: the number of live places and the next serial agree with the places (`counts`).
pub record IsWhole (block : Superblock) (pages : PageMap) : Type 0 where
  pub entries : Entries
  pub free : List ℕ
  pub head : IsInRange block
  pub tables : Holds pages (tables_in block.head) entries
  pub map : IsMap rows_form pages block.head.rows
  pub tree : IsWell node_of pages block.head.tree
  pub rows : AreRowsOf block.head pages entries.places
  pub chain : IsFreeList pages block.counted block.first_free free
  pub once : (n : ℕ) → store_uses block.head pages n + times free n + outside block.counted n ≡ 1
  pub leaves : (f : Item → ℕ) → tree_sum node_of pages block.head.tree f ≡ place_sum f entries.places
  pub words : WordsAgree entries block.head.next_word
  pub counts : AreCounts block.head entries.places
