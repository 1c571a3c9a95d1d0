-- The state that an image of a store stands for.
use Rattle.std.specs.Prelude.{◌≡◌, ℕ, ◌+◌, ◌<◌, ◌≤◌, List, length, map, sum_by, All}
use Rattle.disk_model.specs.World.{Image}
use Rattle.page_face.specs.FreeList.{PageMap}
use Rattle.page_face.specs.declared.head.Head.{Head}
use Rattle.page_store.specs.declared.superblock.Superblock.{Superblock}
use Rattle.page_store.specs.Superblock.{IsInRange}
use Rattle.page_store.specs.Contents as stores
use Rattle.btree_nodes.specs.Supply.{view, spare}
use Rattle.btree_nodes.specs.Tree.{IsMap, map_rows, map_uses}
use Rattle.spatial_base.specs.Key.{Name}
use Rattle.place_values.specs.declared.place.Place.{Place}
use Rattle.place_values.specs.State.{Contents, IsSerialAbove, Places}
use Rattle.row_codec.specs.declared.counted.Counted.{Counted}
use Rattle.row_codec.specs.declared.stored.Stored.{Stored}
use Rattle.rtree_nodes.specs.Slots.{Item}
use Rattle.rtree_nodes.specs.Stock.{rows_form}
use Rattle.rtree_nodes.specs.Pages.{node_of}
use Rattle.node_rows.specs.Rows.{AreFilled, bytes_in}
use Rattle.irtree_shape.specs.Made.{nodes_in, IsBlank}
use Rattle.irtree_shape.specs.Whole.{IsWell, tree_uses, tree_sum}
use Rattle.irtree_shape.specs.Entries.{entry_at}
use Rattle.store_tables.specs.declared.tables.Tables.{Tables}
use Rattle.store_tables.specs.Entries.{Entries}
use Rattle.store_tables.specs.Holding.{Holds, IsApart, table_uses}
use Rattle.store_tables.specs.Words.{WordTablesAgree, holders, words_of_place}

-- a place: its point, its words, each read through the words by number, and its label
abbrev pub place_in : List (ℕ × Counted) → Stored → Place
place_in numbers stored = record { point = stored.point; words = words_of_place numbers stored; label = stored.label }

-- the places that the entries list, in the keys' order
abbrev pub places_in : Entries → Places
places_in entries = map (λ (e : Name × Stored). (e.0, place_in entries.numbers e.1)) entries.places

-- the state of these entries, with a next serial and an update number
abbrev pub state_in : Entries → ℕ → ℕ → Contents
state_in entries serial number = record { places = places_in entries; serial = serial; number = number }

-- One place more claims one more, and no fewer are claimed than there are places.
pub record IsCounting (claims : ℕ → ℕ → ℕ) : Type 0 where
  pub more : (n k : ℕ) → claims n (k + 1) ≡ claims n k + 1
  pub covers : (n k : ℕ) → k ≤ claims n k

-- The word tables agree with what is claimed of each number, by how many places hold it, and each live automatic key is below the
-- next serial.
pub record AreSoundFor (claims : ℕ → ℕ → ℕ) (entries : Entries) (next_word serial : ℕ) : Type 0 where
  pub words : WordTablesAgree (λ number. claims number (holders number entries.places)) entries.texts entries.numbers next_word
  pub serials : All (λ (e : Name × Stored). IsSerialAbove serial e.0) entries.places

-- each number is claimed by the places that hold it, and by nothing else
abbrev pub AreSound : Entries → ℕ → ℕ → Type 0
AreSound = AreSoundFor (λ number places. places)

-- the tables' roots and the next word number, which page 0 has
abbrev pub tables_in : Head → Tables
tables_in head = record { places = head.places; texts = head.texts; numbers = head.numbers; next_word = head.next_word }

-- page 0's fields at another update number
abbrev pub at_number : ℕ → Superblock → Superblock
at_number number block = record block { head = record block.head { number = number } }

-- The tables stand for the entries beside pages that belong to others: `others n` is 1 where page n does, and else 0. Page 0's
-- fields are in their ranges, where the next word number may be what it is by update number `last`; the maps are well formed and
-- hold the entries, which are sound for the claims; each page but page 0 is in exactly one of the maps, the pages of others, the
-- free list and the pages not counted yet; page 0 is none of the others; and the number of live places is that of the entries.
pub record TablesStandFor (claims : ℕ → ℕ → ℕ) (last : ℕ) (block : Superblock) (pages : PageMap) (others : ℕ → ℕ) (entries : Entries) : Type 0 where
  pub range : IsInRange (at_number last block)
  pub serials : block.head.serial ≤ block.head.number + 1
  pub free : List ℕ
  pub holds : Holds pages (tables_in block.head) entries
  pub apart : IsApart (view pages block.counted block.first_free free) (tables_in block.head)
  pub every : (n : ℕ) → 0 < n → table_uses pages (tables_in block.head) n + others n + spare free block.counted n ≡ 1
  pub away : others 0 ≡ 0
  pub sound : AreSoundFor claims entries block.head.next_word block.head.serial
  pub live : block.head.live ≡ length entries.places

-- where nothing is held ahead
abbrev pub TablesStand : Superblock → PageMap → (ℕ → ℕ) → Entries → Type 0
TablesStand block = TablesStandFor (λ number places. places) block.head.number block

-- the sum of f over the entries that places have in a tree: of each place its key, its point and its words
abbrev pub entry_sum : (Item → ℕ) → List (Name × Stored) → ℕ
entry_sum f places = sum_by (λ (e : Name × Stored). f (entry_at e.0 e.1)) places

-- What the tree and its rows are, and which pages belong to them: `uses n` is 1 where page n does, and else 0. The tree is well
-- formed with its rows, and the entries of its leaves are the places, each once, with its words. The rows' map is well formed, no
-- row is all zeros, no byte stands at an unused slot, and each row names a node of the tree.
pub record TreeStands (head : Head) (pages : PageMap) (entries : Entries) (uses : ℕ → ℕ) : Type 0 where
  pub tree : IsWell (nodes_in node_of pages head.rows) head.tree
  pub entries_are : (f : Item → ℕ) → tree_sum (nodes_in node_of pages head.rows) head.tree f ≡ entry_sum f entries.places
  pub map : IsMap rows_form pages head.rows
  pub filled : AreFilled (map_rows rows_form pages head.rows)
  pub blank : (n : ℕ) → IsBlank node_of pages head.rows n
  pub named : (n w i : ℕ) → tree_uses (nodes_in node_of pages head.rows) head.tree n ≡ 0 → bytes_in pages head.rows n w i ≡ 0
  pub uses_are : (n : ℕ) → uses n ≡ tree_uses (nodes_in node_of pages head.rows) head.tree n + map_uses rows_form pages head.rows n

-- Page 0's fields and the pages counted stand for a state: the tables stand for entries beside the pages of the tree and its rows,
-- these stand for the same entries, and the state is that of the entries.
pub record PagesStandFor (claims : ℕ → ℕ → ℕ) (last : ℕ) (block : Superblock) (pages : PageMap) (state : Contents) : Type 0 where
  pub entries : Entries
  pub others : ℕ → ℕ
  pub tables : TablesStandFor claims last block pages others entries
  pub tree : TreeStands block.head pages entries others
  pub is : state ≡ state_in entries block.head.serial block.head.number

-- where nothing is held ahead
abbrev pub PagesStand : Superblock → PageMap → Contents → Type 0
PagesStand block = PagesStandFor (λ number places. places) block.head.number block

-- The image stands for a state: with its journal applied, its pages do.
pub record Stands (image : Image) (state : Contents) : Type 0 where
  pub contents : stores.Contents
  pub holds : stores.HoldsContents contents image
  pub stand : PagesStand contents.block contents.pages state
