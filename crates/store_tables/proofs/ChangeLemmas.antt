-- Rows that were put or taken out are entries that were put or taken out.
use Rattle.std.proofs.Common.{◌≡◌, ℕ, Bool, List, Option, Some, None, is_some, option_map, refl, ap, ◌∙◌}
use Rattle.std.specs.BTreeMap.{insert_entry, is_at}
use Rattle.std.specs.Map.{lookup, remove_entry}
use Rattle.std.specs.declared.cmp.Ordering.{Ordering}
use Rattle.page_face.specs.FreeList.{PageMap}
use Rattle.btree_nodes.specs.declared.form.Form.{Form}
use Rattle.btree_nodes.specs.Rows.{put, without}
use Rattle.btree_nodes.specs.Rows as Rows
use Rattle.btree_nodes.specs.Supply.{View}
use Rattle.btree_nodes.specs.Tree.{map_rows}
use Rattle.spatial_base.specs.Key.{Name, IsName}
use Rattle.term_impacts.specs.Form.{IsWordText}
use Rattle.row_codec.specs.declared.counted.Counted.{Counted}
use Rattle.row_codec.specs.declared.stored.Stored.{Stored}
use Rattle.row_codec.specs.Counted.{IsCounted, counted_value, number_bytes}
use Rattle.row_codec.specs.Stored.{place_value}
use Rattle.store_tables.specs.declared.tables.Tables.{Tables}
use Rattle.paged_map.specs.Maps.{HasBecome}
use Rattle.store_tables.specs.Coded.{IsEntryOf, IsPlaceValue, IsU64, key_code, word_code}
use Rattle.store_tables.specs.Entries.{Entries, number_of_word, place_of_key, with_place, without_place, word_cmp, word_of_number}
use Rattle.store_tables.specs.Holding.{Holds, HoldsMap, IsApart, IsChanged, numbers_form, places_form, texts_form}
use Rattle.std.specs.Ordering.{nat_cmp}
use Rattle.store_tables.proofs.EntryLemmas.{IsCoding, insert-each, lookup-rows, put-rows, remove-each, without-rows}
use Rattle.store_tables.proofs.FrameLemmas.{numbers-changed, places-changed, texts-changed}
use Rattle.store_tables.proofs.LookupLemmas.{keys_coding, numbers_coding, words_coding}

-- a map with one row more holds one entry more
holds-put : {K V : Type 0} {form : Form} {code : K → ℕ} {value : V → List ℕ} {IsKey : K → Type 0} {IsValue : V → Type 0} {cmp : K → K → Ordering} {old : PageMap} {root : ℕ} {entries : List (K × V)} → IsCoding cmp IsKey code
    → HoldsMap form code value IsKey IsValue old root entries → (k : K) (v : V) (n : ℕ) (bytes : List ℕ) → IsKey k → IsValue v → n ≡ code k → bytes ≡ value v
    → {before : View} {was : ℕ} {pages : PageMap} {count first new : ℕ} → HasBecome form before pages count first was new (put n bytes (map_rows form old root))
    → HoldsMap form code value IsKey IsValue pages new (insert_entry cmp entries k v)
holds-put {code = code} {value = value} {IsKey = IsKey} {IsValue = IsValue} {cmp = cmp} {entries = entries} coding holds k v n bytes key is at stands c = record {
  tree = c.kept.map;
  rows = c.has ∙ (λ i. put (at i) (stands i) (holds.rows i)) ∙ put-rows cmp IsKey code IsValue value coding k key v entries holds.each;
  each = insert-each cmp IsKey IsValue k v entries key is holds.each;
}

some_of_map : {X Y : Type 0} (f : X → Y) (o : Option X) → is_some (option_map f o) ≡ is_some o
some_of_map f None = refl
some_of_map f (Some x) = refl

-- a row was there where the entry was
was-there : {K V : Type 0} {form : Form} {code : K → ℕ} {value : V → List ℕ} {IsKey : K → Type 0} {IsValue : V → Type 0} {cmp : K → K → Ordering} {old : PageMap} {root : ℕ} {entries : List (K × V)} → IsCoding cmp IsKey code
    → HoldsMap form code value IsKey IsValue old root entries → (k : K) (n : ℕ) → IsKey k → n ≡ code k → is_some (Rows.lookup n (map_rows form old root)) ≡ is_some (lookup (is_at (cmp k)) entries)
was-there {code = code} {value = value} {IsKey = IsKey} {IsValue = IsValue} {cmp = cmp} {entries = entries} coding holds k n key at =
    (λ i. is_some (Rows.lookup (at i) (holds.rows i))) ∙ ap is_some (lookup-rows cmp IsKey code IsValue value coding k key entries holds.each) ∙ some_of_map value (lookup (is_at (cmp k)) entries)

-- a place that was put
pub place-put : (before : View) (old : Tables) (entries : Entries) → Holds before.pages old entries → IsApart before old → (key : Name) (stored : Stored) (n : ℕ) (bytes : List ℕ) → IsName key → IsPlaceValue stored → n ≡ key_code key → bytes ≡ place_value stored
    → (pages : PageMap) (count first root : ℕ) (was : Bool) → was ≡ is_some (Rows.lookup n (map_rows places_form before.pages old.places)) → HasBecome places_form before pages count first old.places root (put n bytes (map_rows places_form before.pages old.places))
    → (was ≡ is_some (place_of_key key entries.places)) × IsChanged before old pages count first (record old { places = root }) (record entries { places = with_place key stored entries.places })
place-put before old entries holds apart key stored n bytes is formed at stands pages count first root was there c = (
  there ∙ was-there keys_coding holds.places key n is at,
  places-changed before old pages count first root _ entries _ holds apart c (holds-put keys_coding holds.places key stored n bytes is formed at stands c),
)

-- a word's number that was put
pub text-put : (before : View) (old : Tables) (entries : Entries) → Holds before.pages old entries → IsApart before old → (word : List ℕ) (number n : ℕ) (bytes : List ℕ) → IsWordText word → IsU64 number → n ≡ word_code word → bytes ≡ number_bytes number
    → (pages : PageMap) (count first root : ℕ) (was : Bool) → was ≡ is_some (Rows.lookup n (map_rows texts_form before.pages old.texts)) → HasBecome texts_form before pages count first old.texts root (put n bytes (map_rows texts_form before.pages old.texts))
    → (was ≡ is_some (number_of_word word entries.texts)) × IsChanged before old pages count first (record old { texts = root }) (record entries { texts = insert_entry word_cmp entries.texts word number })
text-put before old entries holds apart word number n bytes is formed at stands pages count first root was there c = (
  there ∙ was-there words_coding holds.texts word n is at,
  texts-changed before old pages count first root _ entries _ holds apart c (holds-put words_coding holds.texts word number n bytes is formed at stands c),
)

-- a number's word that was put
pub number-put : (before : View) (old : Tables) (entries : Entries) → Holds before.pages old entries → IsApart before old → (number : ℕ) (counted : Counted) (n : ℕ) (bytes : List ℕ) → IsU64 number → IsCounted counted → n ≡ number → bytes ≡ counted_value counted
    → (pages : PageMap) (count first root : ℕ) (was : Bool) → was ≡ is_some (Rows.lookup n (map_rows numbers_form before.pages old.numbers)) → HasBecome numbers_form before pages count first old.numbers root (put n bytes (map_rows numbers_form before.pages old.numbers))
    → (was ≡ is_some (word_of_number number entries.numbers)) × IsChanged before old pages count first (record old { numbers = root }) (record entries { numbers = insert_entry nat_cmp entries.numbers number counted })
number-put before old entries holds apart number counted n bytes is formed at stands pages count first root was there c = (
  there ∙ was-there numbers_coding holds.numbers number n is at,
  numbers-changed before old pages count first root _ entries _ holds apart c (holds-put numbers_coding holds.numbers number counted n bytes is formed at stands c),
)

-- ---- rows that were taken out

-- a map with one row less holds one entry less
holds-without : {K V : Type 0} {form : Form} {code : K → ℕ} {value : V → List ℕ} {IsKey : K → Type 0} {IsValue : V → Type 0} {cmp : K → K → Ordering} {old : PageMap} {root : ℕ} {entries : List (K × V)} → IsCoding cmp IsKey code
    → HoldsMap form code value IsKey IsValue old root entries → (k : K) (n : ℕ) → IsKey k → n ≡ code k
    → {before : View} {was : ℕ} {pages : PageMap} {count first new : ℕ} → HasBecome form before pages count first was new (without n (map_rows form old root))
    → HoldsMap form code value IsKey IsValue pages new (remove_entry (is_at (cmp k)) entries)
holds-without {code = code} {value = value} {IsKey = IsKey} {IsValue = IsValue} {cmp = cmp} {entries = entries} coding holds k n key at c = record {
  tree = c.kept.map;
  rows = c.has ∙ (λ i. without (at i) (holds.rows i)) ∙ without-rows cmp IsKey code IsValue value coding k key entries holds.each;
  each = remove-each (IsEntryOf IsKey IsValue) (is_at (cmp k)) entries holds.each;
}

-- a place that was taken out
pub place-removed : (before : View) (old : Tables) (entries : Entries) → Holds before.pages old entries → IsApart before old → (key : Name) (n : ℕ) → IsName key → n ≡ key_code key
    → (pages : PageMap) (count first root : ℕ) (was : Bool) → was ≡ is_some (Rows.lookup n (map_rows places_form before.pages old.places)) → HasBecome places_form before pages count first old.places root (without n (map_rows places_form before.pages old.places))
    → (was ≡ is_some (place_of_key key entries.places)) × IsChanged before old pages count first (record old { places = root }) (record entries { places = without_place key entries.places })
place-removed before old entries holds apart key n is at pages count first root was there c = (
  there ∙ was-there keys_coding holds.places key n is at,
  places-changed before old pages count first root _ entries _ holds apart c (holds-without keys_coding holds.places key n is at c),
)

-- a word whose row by text was taken out
pub text-removed : (before : View) (old : Tables) (entries : Entries) → Holds before.pages old entries → IsApart before old → (word : List ℕ) (n : ℕ) → IsWordText word → n ≡ word_code word
    → (pages : PageMap) (count first root : ℕ) (was : Bool) → was ≡ is_some (Rows.lookup n (map_rows texts_form before.pages old.texts)) → HasBecome texts_form before pages count first old.texts root (without n (map_rows texts_form before.pages old.texts))
    → (was ≡ is_some (number_of_word word entries.texts)) × IsChanged before old pages count first (record old { texts = root }) (record entries { texts = remove_entry (is_at (word_cmp word)) entries.texts })
text-removed before old entries holds apart word n is at pages count first root was there c = (
  there ∙ was-there words_coding holds.texts word n is at,
  texts-changed before old pages count first root _ entries _ holds apart c (holds-without words_coding holds.texts word n is at c),
)

-- a number whose row was taken out
pub number-removed : (before : View) (old : Tables) (entries : Entries) → Holds before.pages old entries → IsApart before old → (number n : ℕ) → IsU64 number → n ≡ number
    → (pages : PageMap) (count first root : ℕ) (was : Bool) → was ≡ is_some (Rows.lookup n (map_rows numbers_form before.pages old.numbers)) → HasBecome numbers_form before pages count first old.numbers root (without n (map_rows numbers_form before.pages old.numbers))
    → (was ≡ is_some (word_of_number number entries.numbers)) × IsChanged before old pages count first (record old { numbers = root }) (record entries { numbers = remove_entry (is_at (nat_cmp number)) entries.numbers })
number-removed before old entries holds apart number n is at pages count first root was there c = (
  there ∙ was-there numbers_coding holds.numbers number n is at,
  numbers-changed before old pages count first root _ entries _ holds apart c (holds-without numbers_coding holds.numbers number n is at c),
)
