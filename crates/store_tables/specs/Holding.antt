-- The pages of a store's tables, and what they hold.
use Rattle.std.specs.Prelude.{◌≡◌, ◌<◌, ℕ, ◌+◌, ◌≤◌, List, map, All}
use Rattle.std.proofs.Common.{lit≤}
use Rattle.page_face.specs.FreeList.{PageMap}
use Rattle.btree_nodes.specs.declared.form.Form.{Form}
use Rattle.btree_nodes.specs.Supply.{View, view, Moves, IsSupplied, spare_in}
use Rattle.btree_nodes.specs.Tree.{IsMap, map_rows, map_uses}
use Rattle.paged_map.specs.Heights.{height_of}
use Rattle.spatial_base.specs.Key.{Name, IsName}
use Rattle.term_impacts.specs.Form.{IsWordText}
use Rattle.row_codec.specs.declared.counted.Counted.{Counted}
use Rattle.row_codec.specs.declared.stored.Stored.{Stored}
use Rattle.row_codec.specs.Counted.{IsCounted, counted_value, number_bytes}
use Rattle.row_codec.specs.Stored.{place_value}
use Rattle.store_tables.specs.declared.tables.Tables.{Tables}
use Rattle.store_tables.specs.Coded.{IsEntryOf, IsPlaceValue, IsU64, key_code, number_code, row_by, word_code}
use Rattle.store_tables.specs.Entries.{Entries}

-- the place table: keys of 66 bytes, values of 649, map 5
abbrev pub places_form : Form
places_form = record { key = 66; value = 649; map = 5; some = lit≤ tt; short = lit≤ tt; fits = lit≤ tt }

-- the words by text: keys of 33 bytes, values of 8, map 2
abbrev pub texts_form : Form
texts_form = record { key = 33; value = 8; map = 2; some = lit≤ tt; short = lit≤ tt; fits = lit≤ tt }

-- the words by number: keys of 8 bytes, values of 37, map 3
abbrev pub numbers_form : Form
numbers_form = record { key = 8; value = 37; map = 3; some = lit≤ tt; short = lit≤ tt; fits = lit≤ tt }

-- The map with this root is well formed, and its rows are those of the entries, one by one.
pub record HoldsMap {K V : Type 0} (form : Form) (code : K → ℕ) (value : V → List ℕ) (IsKey : K → Type 0) (IsValue : V → Type 0) (pages : PageMap) (root : ℕ) (entries : List (K × V)) : Type 0 where
  pub tree : IsMap form pages root
  pub rows : map_rows form pages root ≡ map (row_by code value) entries
  pub each : All (IsEntryOf IsKey IsValue) entries

-- the place table holds these places
abbrev pub HoldsPlaces : PageMap → ℕ → List (Name × Stored) → Type 0
HoldsPlaces = HoldsMap places_form key_code place_value IsName IsPlaceValue

-- the words by text hold these numbers
abbrev pub HoldsTexts : PageMap → ℕ → List (List ℕ × ℕ) → Type 0
HoldsTexts = HoldsMap texts_form word_code number_bytes IsWordText IsU64

-- the words by number hold these words
abbrev pub HoldsNumbers : PageMap → ℕ → List (ℕ × Counted) → Type 0
HoldsNumbers = HoldsMap numbers_form number_code counted_value IsU64 IsCounted

-- the three maps hold the entries
pub record Holds (pages : PageMap) (tables : Tables) (entries : Entries) : Type 0 where
  pub places : HoldsPlaces pages tables.places entries.places
  pub texts : HoldsTexts pages tables.texts entries.texts
  pub numbers : HoldsNumbers pages tables.numbers entries.numbers

-- A map of which each page stayed is the same map: as well formed, of the same rows, on the same pages, and as high.
pub record IsSameMap (form : Form) (old new : PageMap) (root : ℕ) : Type 0 where
  pub tree : IsMap form new root
  pub rows : map_rows form new root ≡ map_rows form old root
  pub uses : (n : ℕ) → map_uses form new root n ≡ map_uses form old root n
  pub height : height_of new root ≡ height_of old root

-- how often the tables use a page
abbrev pub table_uses : PageMap → Tables → ℕ → ℕ
table_uses pages tables n =
    map_uses places_form pages tables.places n + map_uses texts_form pages tables.texts n + map_uses numbers_form pages tables.numbers n

-- how often the tables of words use a page
abbrev pub word_uses : PageMap → Tables → ℕ → ℕ
word_uses pages tables n = map_uses texts_form pages tables.texts n + map_uses numbers_form pages tables.numbers n

-- The free list ends at 0, no page is used twice or both used and free, each is counted, and none is page 0.
pub record IsApart (v : View) (tables : Tables) : Type 0 where
  pub supplied : IsSupplied v
  pub once : (n : ℕ) → table_uses v.pages tables n + spare_in v n ≤ 1
  pub away : table_uses v.pages tables 0 ≡ 0
  pub some : 0 < v.count

-- The tables now hold these entries, on pages that are apart. None of their pages is lost, and every page that was neither theirs nor free is as it was.
pub record IsChanged (before : View) (old : Tables) (pages : PageMap) (count first : ℕ) (new : Tables) (entries : Entries) : Type 0 where
  pub free : List ℕ
  pub holds : Holds pages new entries
  pub apart : IsApart (view pages count first free) new
  pub moves : Moves before (view pages count first free) (table_uses before.pages old) (table_uses pages new)
