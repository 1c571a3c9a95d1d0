-- Rows that aren't of their form.
use Rattle.std.specs.Prelude.{◌≡◌, ◌≢◌, ◌⊎◌, ℕ, ◌≤◌, List, Option, Some, None, Result, IsErrOf, option_map, unwrap_or}
use Rattle.page_face.specs.FreeList.{PageMap}
use Rattle.page_face.specs.declared.fault.Damage.{Damage}
use Rattle.page_face.specs.declared.fault.PageFault.{PageFault}
use Rattle.page_face.specs.declared.fault.PageFault.TheVariants.{Damaged}
use Rattle.page_face.specs.declared.fault.Rule.TheVariants.{Head, Value, Words}
use Rattle.btree_nodes.specs.declared.form.Form.{Form}
use Rattle.btree_nodes.specs.Damages.{AskedSince}
use Rattle.btree_nodes.specs.Rows.{Row, first_from, lookup}
use Rattle.btree_nodes.specs.Tree.{IsMap, map_rows, map_uses}
use Rattle.paged_map.specs.Answers.{HasRead, HoldsRow}
use Rattle.paged_map.specs.Maps.{IsMapDamaged}
use Rattle.spatial_base.specs.Key.{Name, IsName}
use Rattle.row_codec.specs.declared.counted.Counted.{Counted}
use Rattle.row_codec.specs.Counted.{IsCounted, counted_value, number_bytes}
use Rattle.row_codec.specs.declared.stored.Stored.{Stored}
use Rattle.row_codec.specs.Stored.{place_value}
use Rattle.store_tables.specs.Coded.{IsEntryOf, IsPlaceValue, IsU64, key_code, number_code, row_by, word_code}
use Rattle.store_tables.specs.Holding.{numbers_form, places_form, texts_form}
use Rattle.store_tables.specs.Words.{IsHoldableRow}
use Rattle.store_tables.specs.declared.tables.Tables.{Tables}

-- A row that was read at a leaf that was asked for is no entry's; where the map is well formed, the leaf is one of its pages.
pub record IsBroken {K V : Type 0} (form : Form) (code : K → ℕ) (value : V → List ℕ) (IsKey : K → Type 0) (IsValue : V → Type 0) (pages : PageMap) (root : ℕ) (before asked : List ℕ) (row : Row) (leaf : ℕ) : Type 0 where
  pub read : HasRead form pages before asked row leaf
  pub broken : (e : K × V) → IsEntryOf IsKey IsValue e → row ≢ row_by code value e
  pub held : IsMap form pages root → HoldsRow form pages (map_uses form pages root) row leaf

-- a row that was read in the place table is no place's
abbrev pub IsBrokenPlace : PageMap → ℕ → List ℕ → List ℕ → Row → ℕ → Type 0
IsBrokenPlace = IsBroken places_form key_code place_value IsName IsPlaceValue

-- a row that was read in the words by number is no word's
abbrev pub IsBrokenNumber : PageMap → ℕ → List ℕ → List ℕ → Row → ℕ → Type 0
IsBrokenNumber = IsBroken numbers_form number_code counted_value IsU64 IsCounted

-- the place's row was read at the key, at a leaf that was asked for
abbrev pub IsPlaceRead : PageMap → Name → List ℕ → List ℕ → Stored → Type 0
IsPlaceRead pages key before asked stored = (leaf : ℕ) × HasRead places_form pages before asked (key_code key, place_value stored) leaf

-- Why a place that was looked for is damaged: a page of the map that was asked for is, or the row that was read at the key is no place's.
abbrev pub IsPlaceDamage : PageMap → ℕ → ℕ → Name → List ℕ → List ℕ → Damage → Type 0
IsPlaceDamage pages count root key before asked damage =
    (IsMapDamaged places_form pages count root damage × AskedSince before asked damage.page)
    ⊎ ((damage.rule ≡ Value) × (bytes : List ℕ) × IsBrokenPlace pages root before asked (key_code key, bytes) damage.page)

-- Why a number that was looked for is damaged: a page of the map that was asked for is, or the row that was read at the number is no word's.
abbrev pub IsNumberDamage : PageMap → ℕ → ℕ → ℕ → List ℕ → List ℕ → Damage → Type 0
IsNumberDamage pages count root number before asked damage =
    (IsMapDamaged numbers_form pages count root damage × AskedSince before asked damage.page)
    ⊎ ((damage.rule ≡ Value) × (bytes : List ℕ) × IsBrokenNumber pages root before asked (number, bytes) damage.page)

-- Why the first place from a key's number on is damaged: a page of the map that was asked for is, or a row that was read there, which is the first one where the map is well formed, is no place's.
abbrev pub IsNextDamage : PageMap → ℕ → ℕ → ℕ → List ℕ → List ℕ → Damage → Type 0
IsNextDamage pages count root from before asked damage =
    (IsMapDamaged places_form pages count root damage × AskedSince before asked damage.page)
    ⊎ ((damage.rule ≡ Value) × (row : Row) × (from ≤ row.0) × IsBrokenPlace pages root before asked row damage.page
    × (IsMap places_form pages root → first_from from (map_rows places_form pages root) ≡ Some row))

-- the rule Words, broken at page 0
abbrev pub words_disagree : Damage
words_disagree = record { page = 0; rule = Words }

-- the place that the place table has at a key, or none, where it is well formed
abbrev pub IsPlaceSought : PageMap → Tables → Name → Option Stored → Type 0
IsPlaceSought pages tables key place =
    IsMap places_form pages tables.places → lookup (key_code key) (map_rows places_form pages tables.places) ≡ option_map place_value place

-- the number that the words by text have of a word, or none, where they are well formed
abbrev pub IsTextSought : PageMap → Tables → List ℕ → Option ℕ → Type 0
IsTextSought pages tables word found =
    IsMap texts_form pages tables.texts → lookup (word_code word) (map_rows texts_form pages tables.texts) ≡ option_map number_bytes found

-- the row that the words by number have of a number, or none, where they are well formed
abbrev pub IsRowSought : PageMap → Tables → ℕ → Option Counted → Type 0
IsRowSought pages tables number row =
    IsMap numbers_form pages tables.numbers → lookup number (map_rows numbers_form pages tables.numbers) ≡ option_map counted_value row

-- What the word tables say of a word, its number and that number's row, or that of the next number, is no word's that so many places more can hold.
pub record IsUnholdable (places : ℕ) (pages : PageMap) (tables : Tables) (word : List ℕ) : Type 0 where
  pub found : Option ℕ
  pub row : Option Counted
  pub text : IsTextSought pages tables word found
  pub number : IsRowSought pages tables (unwrap_or found tables.next_word) row
  pub unheld : IsHoldableRow places word found row → ⊥

-- Why a word's count is damaged: a page of the words by text is, or one of those by number, or there the row that was read of the word's number or of the next one is no word's, or the two disagree.
abbrev pub IsCountDamage : ℕ → PageMap → ℕ → Tables → List ℕ → List ℕ → List ℕ → Damage → Type 0
IsCountDamage places pages count tables word before asked damage =
    (IsMapDamaged texts_form pages count tables.texts damage × AskedSince before asked damage.page)
    ⊎ (IsMapDamaged numbers_form pages count tables.numbers damage × AskedSince before asked damage.page)
    ⊎ ((damage.rule ≡ Value) × (found : Option ℕ) × IsTextSought pages tables word found
    × (bytes : List ℕ) × IsBrokenNumber pages tables.numbers before asked (unwrap_or found tables.next_word, bytes) damage.page)
    ⊎ ((damage ≡ words_disagree) × IsUnholdable places pages tables word)

-- What the word tables say of a number is no word that can be released: there is no row, or the word of the row has its last place, and the words by text have another number of it, or none.
abbrev pub IsUnreleasable : PageMap → Tables → ℕ → Type 0
IsUnreleasable pages tables number =
    IsRowSought pages tables number None
    ⊎ ((counted : Counted) × IsRowSought pages tables number (Some counted) × (counted.places ≤ 1)
    × (found : Option ℕ) × IsTextSought pages tables counted.word found × (found ≢ Some number))

-- Why a release is damaged: a page of the words by number is, or the row that was read there is no word's, or a page of the words by text is, or the two disagree.
abbrev pub IsReleaseDamage : PageMap → ℕ → Tables → ℕ → List ℕ → List ℕ → Damage → Type 0
IsReleaseDamage pages count tables number before asked damage =
    (IsMapDamaged numbers_form pages count tables.numbers damage × AskedSince before asked damage.page)
    ⊎ ((damage.rule ≡ Value) × (bytes : List ℕ) × IsBrokenNumber pages tables.numbers before asked (number, bytes) damage.page)
    ⊎ (IsMapDamaged texts_form pages count tables.texts damage × AskedSince before asked damage.page)
    ⊎ ((damage ≡ words_disagree) × IsUnreleasable pages tables number)

-- The damage that a call refuses for is of another rule than Head, which is page 0's own, and which the tables don't look at.
abbrev pub SparesHead : {T : Type 0} → Result T PageFault → Type 0
SparesHead result = (damage : Damage) → IsErrOf result (Damaged damage) → damage.rule ≢ Head
