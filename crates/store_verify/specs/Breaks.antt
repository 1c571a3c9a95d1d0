-- Which rule a store breaks, and at which page.
use Rattle.std.specs.Prelude.{◌≡◌, ◌≢◌, ◌⊎◌, ℕ, zero, suc, ◌+◌, ◌<◌, ◌≤◌, List, [], ◌∷◌, ◌++◌, Some, true}
use Rattle.std.specs.List.{Contains}
use Rattle.page_face.specs.Causes.{IsUncounted}
use Rattle.page_face.specs.FreeList.{PageMap, BreaksFree, are_zero}
use Rattle.page_face.specs.declared.fault.Damage.{Damage}
use Rattle.page_face.specs.declared.fault.Rule.{Rule}
use Rattle.page_face.specs.declared.fault.Rule.TheVariants.{Head, Link, Kind, Fill, Order, Spare, Level, Value, Shared, Rect, Row, Entry, Words, Counts}
use Rattle.page_store.specs.declared.superblock.Superblock.{Superblock}
use Rattle.page_store.specs.Superblock.{IsInRange}
use Rattle.page_walks.specs.Chains.{IsReached}
use Rattle.btree_nodes.specs.declared.form.Form.{Form}
use Rattle.btree_nodes.specs.Nodes as maps
use Rattle.btree_nodes.specs.Rows as rows
use Rattle.btree_nodes.specs.Supply.{times}
use Rattle.btree_nodes.specs.Tree.{map_rows}
use Rattle.page_walks.specs.Maps.{IsBadLeafIn}
use Rattle.paged_map.specs.Maps.{IsMapDamaged}
use Rattle.spatial_base.specs.Key.{Name, IsName}
use Rattle.spatial_base.specs.Point.{Position}
use Rattle.term_impacts.specs.Form.{IsWordText}
use Rattle.row_codec.specs.Counted.{IsCounted, counted_value, number_bytes}
use Rattle.row_codec.specs.declared.stored.Stored.{Stored}
use Rattle.row_codec.specs.Stored.{place_value}
use Rattle.rtree_nodes.specs.Entries.{is_entry}
use Rattle.rtree_nodes.specs.Pages.{level_in, node_of}
use Rattle.rtree_nodes.specs.Slots.{Item, NodeMap, Slots, got, top_to}
use Rattle.rtree_nodes.specs.Stock.{rows_form}
use Rattle.rtree_nodes.specs.Trees.{root_least}
use Rattle.rtree_nodes.specs.Whole.{tree_sum}
use Rattle.node_rows.specs.Rows.{bytes_in, key_of}
use Rattle.store_tables.specs.Coded.{IsEntryOf, IsPlaceValue, IsU64, key_code, number_code, row_by, word_code}
use Rattle.store_tables.specs.Entries.{Entries}
use Rattle.store_tables.specs.Holding.{Holds, numbers_form, places_form, texts_form}
use Rattle.store_tables.specs.Words.{WordsAgree}
use Rattle.store_model.specs.Stands.{tables_in}
use Rattle.tree_check.specs.Damages.{BreaksPlaced}
use Rattle.store_verify.specs.Tree.{node_uses, plain_nodes, word_impact}
use Rattle.store_verify.specs.Whole.{AreCounts, place_sum, store_uses}

-- ---- pages that are named and used

-- the chain of free pages names this page
pub record IsNamedFree (block : Superblock) (pages : PageMap) (page : ℕ) : Type 0 where
  pub front : List ℕ
  pub some : 0 < page
  pub reached : IsReached pages block.first_free front page

-- Link: the page is named, and is 0 or isn't counted
abbrev pub BreaksLink : Superblock → PageMap → ℕ → Type 0
BreaksLink block pages page = IsUncounted block.counted page × ((0 < store_uses block.head pages page) ⊎ IsNamedFree block pages page)

-- the page is used twice, counting the pages that the chain of free pages goes over
pub record IsUsedTwice (block : Superblock) (pages : PageMap) (page : ℕ) : Type 0 where
  pub front : List ℕ
  pub next : ℕ
  pub some : 0 < next
  pub reached : IsReached pages block.first_free front next
  pub twice : 2 ≤ store_uses block.head pages page + times (front ++ next ∷ []) page

-- the page is counted, isn't page 0, and is neither used nor free
pub record IsLost (block : Superblock) (pages : PageMap) (page : ℕ) : Type 0 where
  pub some : 0 < page
  pub counted : page < block.counted
  pub unused : store_uses block.head pages page ≡ 0
  pub taken : (front : List ℕ) → IsReached pages block.first_free front page → ⊥

-- Shared: the page is used twice, or neither used nor free
abbrev pub BreaksShared : Superblock → PageMap → ℕ → Type 0
BreaksShared block pages page = (2 ≤ store_uses block.head pages page) ⊎ IsUsedTwice block pages page ⊎ IsLost block pages page

-- ---- pages of maps

-- a row of a leaf is no entry's
pub record HasBadRow {K V : Type 0} (form : Form) (code : K → ℕ) (value : V → List ℕ) (IsKey : K → Type 0) (IsValue : V → Type 0) (page : List ℕ) : Type 0 where
  pub row : rows.Row
  pub there : Contains (maps.rows_in form page) row
  pub bad : (e : K × V) → IsEntryOf IsKey IsValue e → row ≢ row_by code value e

-- a leaf of a table breaks Value if it has a row which is no entry's, and no other rule so
abbrev pub BreaksRow : {K V : Type 0} → Form → (K → ℕ) → (V → List ℕ) → (K → Type 0) → (V → Type 0) → Rule → List ℕ → Type 0
BreaksRow form code value IsKey IsValue rule page = (rule ≡ Value) × HasBadRow form code value IsKey IsValue page

-- a leaf of the place map has a row which is no place's
abbrev pub BreaksPlaceRow : Rule → List ℕ → Type 0
BreaksPlaceRow = BreaksRow places_form key_code place_value IsName IsPlaceValue

-- a leaf of the words by text has a row which is no word's
abbrev pub BreaksTextRow : Rule → List ℕ → Type 0
BreaksTextRow = BreaksRow texts_form word_code number_bytes IsWordText IsU64

-- a leaf of the words by number has a row which is no number's
abbrev pub BreaksNumberRow : Rule → List ℕ → Type 0
BreaksNumberRow = BreaksRow numbers_form number_code counted_value IsU64 IsCounted

-- Kind, Fill, Order, Spare and Level: the page breaks the rule in its place in one of the maps
abbrev pub BreaksMap : Superblock → PageMap → Damage → Type 0
BreaksMap block pages damage =
    IsMapDamaged places_form pages block.counted block.head.places damage
    ⊎ IsMapDamaged texts_form pages block.counted block.head.texts damage
    ⊎ IsMapDamaged numbers_form pages block.counted block.head.numbers damage
    ⊎ IsMapDamaged rows_form pages block.counted block.head.rows damage

-- Value: the page is a leaf of a table that has a row which is no entry's
abbrev pub BreaksValue : Superblock → PageMap → Damage → Type 0
BreaksValue block pages damage =
    IsBadLeafIn BreaksPlaceRow places_form pages block.head.places damage
    ⊎ IsBadLeafIn BreaksTextRow texts_form pages block.head.texts damage
    ⊎ IsBadLeafIn BreaksNumberRow numbers_form pages block.head.numbers damage

-- ---- free pages

-- Kind and Spare: the chain of free pages names the page, which hasn't the form of a free page
abbrev pub BreaksChain : Superblock → PageMap → Damage → Type 0
BreaksChain block pages damage = IsNamedFree block pages damage.page × BreaksFree damage.rule (pages damage.page)

-- ---- nodes

-- an item in some slot is so
pub record SomeItem (P : ℕ → Item → Type 0) (slots : Slots) : Type 0 where
  pub at : ℕ
  pub within : at < 32
  pub item : Item
  pub is : slots at ≡ Some item
  pub holds : P at item

-- some node of a tree is so, by the least number of its items, its level and its page
abbrev pub SomeNode : (ℕ → ℕ → ℕ → Type 0) → NodeMap → ℕ → ℕ → ℕ → Type 0
SomeNode P nodes least zero page = P least zero page
SomeNode P nodes least (suc level) page = P least (suc level) page ⊎ SomeItem (λ i x. SomeNode P nodes 12 level x.to) (nodes page).slots

-- some node of the tree at a root is so
abbrev pub SomeNodeOf : (ℕ → ℕ → ℕ → Type 0) → PageMap → ℕ → Type 0
SomeNodeOf P pages zero = ⊥
SomeNodeOf P pages (suc n) = SomeNode P (plain_nodes pages) (root_least (level_in (pages (suc n)))) (level_in (pages (suc n))) (suc n)

-- Kind, Fill, Spare, Level and Value: the page breaks the rule in its place in the tree
abbrev pub BreaksTree : Superblock → PageMap → Damage → Type 0
BreaksTree block pages damage = SomeNodeOf (λ least level page. (page ≡ damage.page) × BreaksPlaced damage.rule least level (pages page)) pages block.head.tree

-- Level: the page is the root of the tree, and is above level 9, which no tree is whose pages are counted by a u32
abbrev pub BreaksHeight : Superblock → PageMap → ℕ → Type 0
BreaksHeight block pages page = (page ≡ block.head.tree) × (0 < page) × (9 < level_in (pages page))

-- how far the points below an item of a node of this level reach to a side
abbrev pub greatest : NodeMap → ℕ → ℕ → Item → ℕ
greatest nodes side zero x = x.reach side
greatest nodes side (suc level) x = top_to 32 (λ i. got (greatest nodes side level) ((nodes x.to).slots i))

-- the item's rectangle isn't the least one round the points below it
abbrev pub IsNotLeast : NodeMap → ℕ → Item → Type 0
IsNotLeast nodes level x = ((side : ℕ) → side < 4 → x.reach side ≡ greatest nodes side level x) → ⊥

-- Rect: a rectangle of the page isn't the least one
abbrev pub BreaksRect : Superblock → PageMap → ℕ → Type 0
BreaksRect block pages page =
    SomeNodeOf (λ least level n. (n ≡ page) × SomeItem (λ i x. IsNotLeast (plain_nodes pages) level x) (plain_nodes pages n).slots) pages block.head.tree

-- ---- page 0

-- Entry: the tree and the place map have some key at some point not equally often
pub record BreaksEntry (block : Superblock) (pages : PageMap) : Type 0 where
  pub entries : Entries
  pub holds : Holds pages (tables_in block.head) entries
  pub point : Position
  pub bytes : List ℕ
  pub apart : tree_sum node_of pages block.head.tree (is_entry point bytes) ≢ place_sum (is_entry point bytes) entries.places

-- Words: the words by text and by number disagree with each other or with the places, or a number isn't below the next one
pub record BreaksWords (block : Superblock) (pages : PageMap) : Type 0 where
  pub entries : Entries
  pub holds : Holds pages (tables_in block.head) entries
  pub apart : WordsAgree entries block.head.next_word → ⊥

-- Counts: live places or the next serial disagree with the place map
pub record BreaksCounts (block : Superblock) (pages : PageMap) : Type 0 where
  pub entries : Entries
  pub holds : Holds pages (tables_in block.head) entries
  pub apart : AreCounts block.head entries.places → ⊥

-- ---- rows of words

-- the greatest impact below an item of a node of this level
abbrev pub greatest_impact : NodeMap → (List ℕ → ℕ) → ℕ → Item → ℕ
greatest_impact nodes impact zero x = impact x.key
greatest_impact nodes impact (suc level) x = top_to 32 (λ i. got (greatest_impact nodes impact level) ((nodes x.to).slots i))

-- the bytes of a node of this level aren't at each word and slot the greatest impact of the word below the slot
abbrev pub AreWrongBytes : PageMap → ℕ → List (Name × Stored) → ℕ → ℕ → Type 0
AreWrongBytes pages root places level page =
    ((word at : ℕ) → at < 32 → bytes_in pages root page word at ≡ got (greatest_impact (plain_nodes pages) (word_impact places word) level) ((plain_nodes pages page).slots at)) → ⊥

-- the page isn't a node's of the tree, and has a row that isn't all zeros
pub record IsStrayRow (block : Superblock) (pages : PageMap) (page : ℕ) : Type 0 where
  pub unused : node_uses block.head pages page ≡ 0
  pub word : ℕ
  pub at : ℕ
  pub some : bytes_in pages block.head.rows page word at ≢ 0

-- the page has a row that is all zeros
pub record IsZeroRow (block : Superblock) (pages : PageMap) (page : ℕ) : Type 0 where
  pub word : ℕ
  pub row : List ℕ
  pub there : rows.lookup (key_of page word) (map_rows rows_form pages block.head.rows) ≡ Some row
  pub zero : are_zero row ≡ true

-- a node's row isn't that of the greatest impacts
pub record IsWrongRow (block : Superblock) (pages : PageMap) (page : ℕ) : Type 0 where
  pub entries : Entries
  pub holds : Holds pages (tables_in block.head) entries
  pub node : SomeNodeOf (λ least level n. (n ≡ page) × AreWrongBytes pages block.head.rows entries.places level n) pages block.head.tree

-- Row: a row of the page isn't that of the greatest impacts, or there is one too many
abbrev pub BreaksRows : Superblock → PageMap → ℕ → Type 0
BreaksRows block pages page = IsWrongRow block pages page ⊎ IsStrayRow block pages page ⊎ IsZeroRow block pages page

-- ---- all rules

-- the damage of a rule at a page
abbrev pub damage_at : Rule → ℕ → Damage
damage_at rule page = record { page = page; rule = rule }

-- a page of a map, a node or a free page breaks a rule in its place
abbrev pub BreaksInPlace : Superblock → PageMap → Damage → Type 0
BreaksInPlace block pages damage = BreaksMap block pages damage ⊎ BreaksTree block pages damage ⊎ BreaksChain block pages damage

-- A store breaks a rule at a page: Head, Entry, Words and Counts at page 0; Link at the page that is named; Shared at the page that is
-- used twice or not at all; Row at the node that a row names, or that lacks it; each other rule at the page whose bytes break it.
abbrev pub BreaksRule : Rule → Superblock → PageMap → ℕ → Type 0
BreaksRule Head block pages page = (page ≡ 0) × (IsInRange block → ⊥)
BreaksRule Link block pages page = BreaksLink block pages page
BreaksRule Kind block pages page = BreaksInPlace block pages (damage_at Kind page)
BreaksRule Fill block pages page = BreaksInPlace block pages (damage_at Fill page)
BreaksRule Order block pages page = BreaksInPlace block pages (damage_at Order page)
BreaksRule Spare block pages page = BreaksInPlace block pages (damage_at Spare page)
BreaksRule Level block pages page = BreaksInPlace block pages (damage_at Level page) ⊎ BreaksHeight block pages page
BreaksRule Value block pages page = BreaksValue block pages (damage_at Value page) ⊎ BreaksTree block pages (damage_at Value page)
BreaksRule Shared block pages page = BreaksShared block pages page
BreaksRule Rect block pages page = BreaksRect block pages page
BreaksRule Row block pages page = BreaksRows block pages page
BreaksRule Entry block pages page = (page ≡ 0) × BreaksEntry block pages
BreaksRule Words block pages page = (page ≡ 0) × BreaksWords block pages
BreaksRule Counts block pages page = (page ≡ 0) × BreaksCounts block pages

-- what is named is broken there
abbrev pub IsBroken : Superblock → PageMap → Damage → Type 0
IsBroken block pages damage = BreaksRule damage.rule block pages damage.page
