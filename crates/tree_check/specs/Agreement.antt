-- Whether the rows of words are right: at each slot of a node the greatest impact of each word below it (Cong, Jensen and Wu, VLDB 2009).
use Rattle.std.specs.Prelude.{◌≡◌, ◌⊎◌, ℕ, zero, suc, ◌<◌, List, ◌∷◌, ◌++◌, Option, Some, None, true}
use Rattle.std.specs.List.{AllByRecursion}
use Rattle.page_face.specs.FreeList.{PageMap}
use Rattle.page_face.specs.declared.fault.Damage.{Damage}
use Rattle.page_face.specs.declared.fault.Rule.TheVariants.{Row, Entry}
use Rattle.spatial_base.specs.Key.{Name, IsName, form_of}
use Rattle.row_codec.specs.declared.stored.Stored.{Stored}
use Rattle.row_codec.specs.Stored.{held_pairs}
use Rattle.rtree_nodes.specs.Slots.{Item}
use Rattle.rtree_nodes.specs.Pages.{level_in, is_form, slots_in}
use Rattle.rtree_nodes.specs.Reach.{place_item}
use Rattle.rtree_nodes.specs.declared.content.Slot.{Slot}
use Rattle.rtree_nodes.specs.declared.content.Slot.TheVariants.{Place, Child}
use Rattle.rtree_nodes.specs.Stock.{rows_form}
use Rattle.btree_nodes.specs.Damages.{AreReadable}
use Rattle.btree_nodes.specs.Tree.{IsMap, map_uses}
use Rattle.paged_map.specs.Maps.{AreCounted}
use Rattle.page_face.specs.Causes.{IsUncounted}
use Rattle.store_tables.specs.declared.tables.Tables.{Tables}
use Rattle.store_tables.specs.Holding.{Holds, table_uses}
use Rattle.node_rows.specs.Rows.{Bytes, bytes_in}
use Rattle.node_rows.specs.Impacts.{impact_in, top_at}
use Rattle.store_tables.specs.Entries.{Entries, place_of_key}

-- places by key, in the order of the keys
abbrev pub Placed : Type 0
Placed = List (Name × Stored)

-- the item of a leaf's slot is the entry of a place: it has the place's point and key
pub record IsEntry (places : Placed) (x : Item) : Type 0 where
  pub key : Name
  pub stored : Stored
  pub name : IsName key
  pub held : place_of_key key places ≡ Some stored
  pub is : x ≡ place_item stored.point (form_of key)

-- these are the impacts of the words of the item's place
pub record HasWords (places : Placed) (impacts : ℕ → ℕ) (x : Item) : Type 0 where
  pub entry : IsEntry places x
  pub words : (w : ℕ) → impacts w ≡ impact_in (held_pairs entry.stored) w

-- the bytes of a slot of a node of this level are right by what is below it: its place's impacts, the greatest bytes of its child, or none
abbrev pub IsRight : Bytes → Placed → ℕ → (ℕ → ℕ) → Option Item → Type 0
IsRight b places level impacts None = (w : ℕ) → impacts w ≡ 0
IsRight b places zero impacts (Some x) = HasWords places impacts x
IsRight b places (suc level) impacts (Some x) = (w : ℕ) → impacts w ≡ top_at b x.to w

-- the same of a slot's content
abbrev pub IsRightSlot : Bytes → Placed → (ℕ → ℕ) → Option Slot → Type 0
IsRightSlot b places impacts None = (w : ℕ) → impacts w ≡ 0
IsRightSlot b places impacts (Some (Place point key)) = HasWords places impacts (place_item point (form_of key))
IsRightSlot b places impacts (Some (Child rect page)) = (w : ℕ) → impacts w ≡ top_at b page w

-- the rows of the node at a page are right by what is below its slots
abbrev pub AreRight : PageMap → ℕ → Placed → ℕ → Type 0
AreRight pages rows places page =
    (i : ℕ) → i < 32 → IsRight (bytes_in pages rows) places (level_in (pages page)) (λ w. bytes_in pages rows page w i) (slots_in (pages page) i)

-- The rows' map is well formed, the tables hold these entries, and all their pages are counted and readable.
pub record AreSound (pages : PageMap) (count rows : ℕ) (tables : Tables) (entries : Entries) : Type 0 where
  pub readable : AreReadable pages count
  pub map : IsMap rows_form pages rows
  pub counted : AreCounted (map_uses rows_form pages rows) count
  pub holds : Holds pages tables entries
  pub tables_counted : AreCounted (table_uses pages tables) count

-- the page is a counted one, and a node's
pub record IsNodePage (pages : PageMap) (count page : ℕ) : Type 0 where
  pub counted : IsUncounted count page → ⊥
  pub form : is_form (pages page) ≡ true

-- a leaf's item is no place's entry, which is broken at page 0
pub record IsMissing (places : Placed) (x : Item) (damage : Damage) : Type 0 where
  pub named : damage ≡ record { page = 0; rule = Entry }
  pub missing : IsEntry places x → ⊥

-- a place in a slot is a place's entry
abbrev pub IsEntryIn : Placed → Option Slot → Type 0
IsEntryIn places None = Unit {0}
IsEntryIn places (Some (Place point key)) = IsEntry places (place_item point (form_of key))
IsEntryIn places (Some (Child rect page)) = Unit {0}

-- the slot's place is missing
abbrev pub IsMissingIn : Placed → Option Slot → Damage → Type 0
IsMissingIn places None damage = ⊥
IsMissingIn places (Some (Place point key)) damage = IsMissing places (place_item point (form_of key)) damage
IsMissingIn places (Some (Child rect page)) damage = ⊥

-- an item of a node of this level is a place's entry, if the node is a leaf
abbrev pub IsEntryAt : Placed → ℕ → Option Item → Type 0
IsEntryAt places level None = Unit {0}
IsEntryAt places zero (Some x) = IsEntry places x
IsEntryAt places (suc level) (Some x) = Unit {0}

-- the node is a leaf, and its item is no place's entry
abbrev pub IsMissingAt : Placed → ℕ → Option Item → Damage → Type 0
IsMissingAt places level None damage = ⊥
IsMissingAt places zero (Some x) damage = IsMissing places x damage
IsMissingAt places (suc level) (Some x) damage = ⊥

-- The damage is Row at a page: the rows' bytes at a slot of its node aren't right, though the slot's item in a leaf is a place's entry. The
-- node's bytes are these.
pub record HasWrongBytes (pages : PageMap) (rows : ℕ) (places : Placed) (page : ℕ) (bytes : List ℕ) (at : ℕ) (damage : Damage) : Type 0 where
  pub named : damage ≡ record { page = page; rule = Row }
  pub entry : IsEntryAt places (level_in bytes) (slots_in bytes at)
  pub wrong : IsRight (bytes_in pages rows) places (level_in bytes) (λ w. bytes_in pages rows page w at) (slots_in bytes at) → ⊥

-- the damage is of a slot of the node at a page: Row there if the rows' bytes aren't right, or Entry at page 0 if the slot's place is missing
abbrev pub IsWrongSlot : PageMap → ℕ → Placed → ℕ → List ℕ → ℕ → Damage → Type 0
IsWrongSlot pages rows places page bytes at damage =
    HasWrongBytes pages rows places page bytes at damage ⊎ IsMissingAt places (level_in bytes) (slots_in bytes at) damage

-- the damage is of the first slot of the node at a page that isn't right
pub record IsWrong (pages : PageMap) (rows : ℕ) (places : Placed) (page : ℕ) (damage : Damage) : Type 0 where
  pub at : ℕ
  pub within : at < 32
  pub before : (i : ℕ) → i < at → IsRight (bytes_in pages rows) places (level_in (pages page)) (λ w. bytes_in pages rows page w i) (slots_in (pages page) i)
  pub slot : IsWrongSlot pages rows places page (pages page) at damage

-- The damage is of the first page of a list whose rows aren't right.
pub record IsFirstWrong (pages : PageMap) (rows : ℕ) (places : Placed) (list : List ℕ) (damage : Damage) : Type 0 where
  pub front : List ℕ
  pub page : ℕ
  pub back : List ℕ
  pub is : list ≡ front ++ (page ∷ back)
  pub right : AllByRecursion (AreRight pages rows places) front
  pub wrong : IsWrong pages rows places page damage
