-- Rows that were found are entries.
use Rattle.std.proofs.Common.{◌≡◌, ◌≢◌, ℕ, ◌<◌, ◌^◌, List, [], ◌∷◌, All, map, Option, Some, None, IfSome, Result, Err, option_map, refl, sym, ap, subst, ◌∙◌}
use Rattle.std.specs.BTreeMap.{is_at}
use Rattle.std.specs.Map.{lookup}
use Rattle.std.specs.Ordering.{is_lt, nat_cmp}
use Rattle.std.proofs.lemmas.List.Elements.{All-head}
use Rattle.std.specs.declared.cmp.Ordering.{Ordering}
use Rattle.page_face.specs.FreeList.{PageMap}
use Rattle.page_face.specs.declared.fault.Damage.{Damage}
use Rattle.page_face.specs.Number.{number}
use Rattle.btree_nodes.specs.declared.form.Form.{Form}
use Rattle.btree_nodes.specs.Rows.{Row}
use Rattle.btree_nodes.specs.Rows as Rows
use Rattle.btree_nodes.specs.Tree.{IsMap, map_rows, map_uses}
use Rattle.btree_nodes.specs.Damages.{AsksOnly}
use Rattle.btree_nodes.proofs.Harms.{asked-before, asks-keep}
use Rattle.page_face.specs.declared.fault.PageFault.{PageFault}
use Rattle.page_face.specs.declared.fault.PageFault.TheVariants.{Damaged}
use Rattle.page_face.specs.declared.fault.Rule.TheVariants.{Value}
use Rattle.paged_map.specs.Answers.{HasRead, HoldsRow, Locates}
use Rattle.spatial_base.specs.Key.{Name, IsName, form_of, key_cmp}
use Rattle.term_impacts.specs.Form.{IsWordText, word_form}
use Rattle.store_tables.specs.Broken.{IsBrokenNumber, IsBrokenPlace, IsPlaceRead}
use Rattle.store_tables.specs.Entries.{number_of_word, place_after, place_of_key, word_cmp, word_of_number}
use Rattle.store_tables.specs.Coded.{IsEntryOf, IsPlaceEntry, IsPlaceValue, IsU64, key_code, next_code, number_code, place_row, row_by, word_code}
use Rattle.store_tables.specs.Holding.{HoldsNumbers, HoldsPlaces, HoldsTexts, numbers_form, places_form, texts_form}
use Rattle.row_codec.specs.declared.stored.Stored.{Stored}
use Rattle.row_codec.specs.declared.counted.Counted.{Counted}
use Rattle.row_codec.specs.Counted.{IsCounted, counted_value, number_bytes}
use Rattle.row_codec.specs.Stored.{place_value}
use Rattle.store_tables.proofs.CodeLemmas.{key-order, number-number_bytes, word-order}
use Rattle.store_tables.proofs.EntryLemmas.{IsCoding, first-each, first-row, first-rows, found-each, lookup-rows}

-- the three tables number their keys in order
pub keys_coding : IsCoding key_cmp IsName key_code
keys_coding = record { agrees = key-order }

pub words_coding : IsCoding word_cmp IsWordText word_code
words_coding = record { agrees = word-order }

pub numbers_coding : IsCoding nat_cmp IsU64 number_code
numbers_coding = record { agrees = λ a b _ _. refl }

-- the number of a key's bytes
pub number-key : (bytes : List ℕ) (key : Name) → bytes ≡ form_of key → number bytes ≡ key_code key
unfolding key_code
number-key bytes key is = ap number is

-- the number of a word's bytes
pub number-word : (bytes word : List ℕ) → bytes ≡ word_form word → number bytes ≡ word_code word
unfolding word_code
number-word bytes word is = ap number is

none_map : {X Y : Type 0} (f : X → Y) (o : Option X) → option_map f o ≡ None → o ≡ None
none_map f None e = refl
none_map f (Some x) e = absurd (cc)

-- no row at a key's number is no entry at the key
pub found-none : {K V : Type 0} {cmp : K → K → Ordering} {IsKey : K → Type 0} {code : K → ℕ} (IsValue : V → Type 0) (value : V → List ℕ) → IsCoding cmp IsKey code
    → (k : K) → IsKey k → (es : List (K × V)) → All (IsEntryOf IsKey IsValue) es → (rows : List Row) → rows ≡ map (row_by code value) es
    → Rows.lookup (code k) rows ≡ None → lookup (is_at (cmp k)) es ≡ None
found-none {K} {V} {cmp} {IsKey} {code} IsValue value coding k is es each rows are none =
    none_map value (lookup (is_at (cmp k)) es) (sym (lookup-rows cmp IsKey code IsValue value coding k is es each) ∙ ap (λ (l : List Row). Rows.lookup (code k) l) (sym are) ∙ none)

-- the value that stands in a row's bytes
pub record IsFound {V : Type 0} (IsValue : V → Type 0) (value : V → List ℕ) (there : Option V) (bytes : List ℕ) : Type 0 where
  pub v : V
  pub is : there ≡ Some v
  pub formed : IsValue v
  pub bytes_are : bytes ≡ value v

some_map : {V : Type 0} (IsValue : V → Type 0) (value : V → List ℕ) (o : Option V) (bytes : List ℕ) → IfSome o IsValue → option_map value o ≡ Some bytes → IsFound IsValue value o bytes
some_map IsValue value None bytes each e = absurd (cc)
some_map IsValue value (Some x) bytes each e = record { v = x; is = refl; formed = each; bytes_are = (let same : value x ≡ bytes = cc e in sym same) }

-- the row at a key's number is that of the entry at the key
pub found-some : {K V : Type 0} {cmp : K → K → Ordering} {IsKey : K → Type 0} {code : K → ℕ} (IsValue : V → Type 0) (value : V → List ℕ) → IsCoding cmp IsKey code
    → (k : K) → IsKey k → (es : List (K × V)) → All (IsEntryOf IsKey IsValue) es → (rows : List Row) → rows ≡ map (row_by code value) es
    → (bytes : List ℕ) → Rows.lookup (code k) rows ≡ Some bytes → IsFound IsValue value (lookup (is_at (cmp k)) es) bytes
found-some {K} {V} {cmp} {IsKey} {code} IsValue value coding k is es each rows are bytes some =
    some_map IsValue value (lookup (is_at (cmp k)) es) bytes (found-each IsKey IsValue (is_at (cmp k)) es each)
    (sym (lookup-rows cmp IsKey code IsValue value coding k is es each) ∙ ap (λ (l : List Row). Rows.lookup (code k) l) (sym are) ∙ some)

located-none : {X : Type 0} (wanted : Option X) (found : X) (Holds : ℕ → Type 0) (at : Option ℕ) → at ≡ None → Locates wanted found Holds at → wanted ≡ None
located-none wanted found Holds None e there = there
located-none wanted found Holds (Some page) e there = absurd (cc)

located-some : {X : Type 0} (wanted : Option X) (found : X) (Holds : ℕ → Type 0) (at : Option ℕ) (page : ℕ) → at ≡ Some page → Locates wanted found Holds at → (wanted ≡ Some found) × Holds page
located-some wanted found Holds None page e there = absurd (cc)
located-some wanted found Holds (Some leaf) page e there = (let same : leaf ≡ page = cc e in (there.0, subst Holds same there.1))

-- ---- a row at a key, as a map told it

-- what a look-up at a key's number told
pub record Told (form : Form) (pages : PageMap) (root code : ℕ) (value : List ℕ) (leaf : ℕ) : Type 0 where
  pub is : Rows.lookup code (map_rows form pages root) ≡ Some value
  pub held : HoldsRow form pages (map_uses form pages root) (code, value) leaf

-- none was found
pub told-none : (form : Form) (pages : PageMap) (root n code : ℕ) (value : List ℕ) (at : Option ℕ) → n ≡ code → at ≡ None
    → Locates (Rows.lookup n (map_rows form pages root)) value (HoldsRow form pages (map_uses form pages root) (n, value)) at → Rows.lookup code (map_rows form pages root) ≡ None
told-none form pages root n code value at is none there =
    ap (λ (k : ℕ). Rows.lookup k (map_rows form pages root)) (sym is) ∙ located-none _ value (HoldsRow form pages (map_uses form pages root) (n, value)) at none there

-- one was found
pub told-some : (form : Form) (pages : PageMap) (root n code : ℕ) (value : List ℕ) (at : Option ℕ) (leaf : ℕ) → n ≡ code → at ≡ Some leaf
    → Locates (Rows.lookup n (map_rows form pages root)) value (HoldsRow form pages (map_uses form pages root) (n, value)) at → Told form pages root code value leaf
told-some form pages root n code value at leaf is some there =
    let one = located-some (Rows.lookup n (map_rows form pages root)) value (HoldsRow form pages (map_uses form pages root) (n, value)) at leaf some there in
    record {
      is = ap (λ (k : ℕ). Rows.lookup k (map_rows form pages root)) (sym is) ∙ one.0;
      held = subst (λ (k : ℕ). HoldsRow form pages (map_uses form pages root) (k, value) leaf) is one.1;
    }

-- and was read
pub read-some : (form : Form) (pages : PageMap) (before asked : List ℕ) (n code : ℕ) (value : List ℕ) (at : Option ℕ) (leaf : ℕ) → n ≡ code → at ≡ Some leaf
    → IfSome at (HasRead form pages before asked (n, value)) → HasRead form pages before asked (code, value) leaf
read-some form pages before asked n code value at leaf is some read =
    subst (λ (k : ℕ). HasRead form pages before asked (k, value) leaf) is (subst (λ (o : Option ℕ). IfSome o (HasRead form pages before asked (n, value))) some read)

-- what was read stays so where more pages are asked for
pub place-read-keeps : (mine : ℕ → ℕ) (pages : PageMap) (key : Name) (before middle after : List ℕ) (stored : Stored) → AsksOnly mine middle after → IsPlaceRead pages key before middle stored → IsPlaceRead pages key before after stored
place-read-keeps mine pages key before middle after stored asks r =
    (r.0, record { asked = asks-keep mine middle after asks before r.0 r.1.asked; leaf = r.1.leaf; holds = r.1.holds })

-- a key that no row has has no place
pub place-none : (pages : PageMap) (root : ℕ) (places : List (Name × Stored)) (key : Name) → IsName key → HoldsPlaces pages root places → Rows.lookup (key_code key) (map_rows places_form pages root) ≡ None → place_of_key key places ≡ None
place-none pages root places key is holds none = found-none IsPlaceValue place_value keys_coding key is places holds.each (map_rows places_form pages root) holds.rows none

-- a key's row is that of its place
pub place-some : (pages : PageMap) (root : ℕ) (places : List (Name × Stored)) (key : Name) (value : List ℕ) → IsName key → HoldsPlaces pages root places → Rows.lookup (key_code key) (map_rows places_form pages root) ≡ Some value
    → IsFound IsPlaceValue place_value (place_of_key key places) value
place-some pages root places key value is holds some = found-some IsPlaceValue place_value keys_coding key is places holds.each (map_rows places_form pages root) holds.rows value some

-- a row that was read is broken where no place has it
pub place-broken : (pages : PageMap) (root : ℕ) (before asked : List ℕ) (row : Row) (leaf : ℕ) → HasRead places_form pages before asked row leaf
    → (IsMap places_form pages root → HoldsRow places_form pages (map_uses places_form pages root) row leaf)
    → ((stored : Stored) → IsPlaceValue stored → row.1 ≢ place_value stored) → IsBrokenPlace pages root before asked row leaf
place-broken pages root before asked row leaf read held none = record { read = read; broken = λ e is same. none e.1 is.1 (ap (λ (r : Row). r.1) same); held = held }

-- one error's fault is the other's
pub same_fault : {T : Type 0} (a b : PageFault) (x y : Result T PageFault) → x ≡ Err a → y ≡ Err b → x ≡ y → a ≡ b
same_fault a b x y is was e = (let same : Err a ≡ Err b = sym is ∙ e ∙ was in cc same)

-- what a fault of a row that isn't of its form says
pub value_at : (leaf : ℕ) (fault : PageFault) (damage : Damage) → fault ≡ Damaged (record { page = leaf; rule = Value }) → fault ≡ Damaged damage → (leaf ≡ damage.page) × (damage.rule ≡ Value)
value_at leaf fault damage is e =
    let same : Damaged (record { page = leaf; rule = Value }) ≡ Damaged damage = sym is ∙ e in
    let one : record { page = leaf; rule = Value } ≡ damage = cc same in
    (ap (λ (d : Damage). d.page) one, sym (ap (λ (d : Damage). d.rule) one))

-- ---- words

-- a word that no row has has no number
pub text-none : (pages : PageMap) (root : ℕ) (texts : List (List ℕ × ℕ)) (word : List ℕ) → IsWordText word → HoldsTexts pages root texts → Rows.lookup (word_code word) (map_rows texts_form pages root) ≡ None → number_of_word word texts ≡ None
text-none pages root texts word is holds none = found-none IsU64 number_bytes words_coding word is texts holds.each (map_rows texts_form pages root) holds.rows none

-- a word's row is that of its number
pub text-some : (pages : PageMap) (root : ℕ) (texts : List (List ℕ × ℕ)) (word value : List ℕ) → IsWordText word → HoldsTexts pages root texts → Rows.lookup (word_code word) (map_rows texts_form pages root) ≡ Some value
    → IsFound IsU64 number_bytes (number_of_word word texts) value
text-some pages root texts word value is holds some = found-some IsU64 number_bytes words_coding word is texts holds.each (map_rows texts_form pages root) holds.rows value some

-- 8 bytes are one number's
pub number_bytes-same : (m n : ℕ) → m < 2 ^ 64 → n < 2 ^ 64 → number_bytes m ≡ number_bytes n → m ≡ n
number_bytes-same m n fits also same = sym (number-number_bytes m fits) ∙ ap number same ∙ number-number_bytes n also

-- a number that no row has has no word
pub number-none : (pages : PageMap) (root : ℕ) (numbers : List (ℕ × Counted)) (n : ℕ) → IsU64 n → HoldsNumbers pages root numbers → Rows.lookup n (map_rows numbers_form pages root) ≡ None → word_of_number n numbers ≡ None
number-none pages root numbers n is holds none = found-none IsCounted counted_value numbers_coding n is numbers holds.each (map_rows numbers_form pages root) holds.rows none

-- a number's row is that of its word
pub number-some : (pages : PageMap) (root : ℕ) (numbers : List (ℕ × Counted)) (n : ℕ) (value : List ℕ) → IsU64 n → HoldsNumbers pages root numbers → Rows.lookup n (map_rows numbers_form pages root) ≡ Some value
    → IsFound IsCounted counted_value (word_of_number n numbers) value
number-some pages root numbers n value is holds some = found-some IsCounted counted_value numbers_coding n is numbers holds.each (map_rows numbers_form pages root) holds.rows value some

-- a row that was read is broken where no word has it
pub number-broken : (pages : PageMap) (root : ℕ) (before asked : List ℕ) (row : Row) (leaf : ℕ) → HasRead numbers_form pages before asked row leaf
    → (IsMap numbers_form pages root → HoldsRow numbers_form pages (map_uses numbers_form pages root) row leaf)
    → ((counted : Counted) → IsCounted counted → row.1 ≢ counted_value counted) → IsBrokenNumber pages root before asked row leaf
number-broken pages root before asked row leaf read held none = record { read = read; broken = λ e is same. none e.1 is.1 (ap (λ (r : Row). r.1) same); held = held }

-- and so it is where other pages were asked for before
pub number-broken-later : (mine : ℕ → ℕ) (pages : PageMap) (root : ℕ) (before middle after : List ℕ) (row : Row) (leaf : ℕ) → AsksOnly mine before middle
    → IsBrokenNumber pages root middle after row leaf → IsBrokenNumber pages root before after row leaf
number-broken-later mine pages root before middle after row leaf asks b =
    record { read = record { asked = asked-before mine before middle after leaf asks b.read.asked; leaf = b.read.leaf; holds = b.read.holds }; broken = b.broken; held = b.held }

-- ---- the next place

row_none : (first : Option (Name × Stored)) → option_map place_row first ≡ None → first ≡ None
row_none None e = refl
row_none (Some e') e = absurd (cc)

-- the entry that stands in a row
pub record IsNext (there : Option (Name × Stored)) (row : Row) : Type 0 where
  pub e : Name × Stored
  pub is : there ≡ Some e
  pub formed : IsPlaceEntry e
  pub row_is : row ≡ place_row e

row_some : (first : Option (Name × Stored)) (row : Row) → IfSome first IsPlaceEntry → option_map place_row first ≡ Some row → IsNext first row
row_some None row each e = absurd (cc)
row_some (Some x) row each e = record { e = x; is = refl; formed = each; row_is = (let same : place_row x ≡ row = cc e in sym same) }

-- the rows from a place on, as entries
next-rows : (after : Option Name) (places : List (Name × Stored)) → IfSome after IsName → All IsPlaceEntry places → Rows.first_from (next_code after) (map place_row places) ≡ option_map place_row (place_after after places)
next-rows None [] is each = refl
next-rows None (e ∷ places) is each = first-row key_code place_value e places
next-rows (Some key) places is each = first-rows key_cmp IsName key_code IsPlaceValue place_value keys_coding key is places each

next-each : (after : Option Name) (places : List (Name × Stored)) → All IsPlaceEntry places → IfSome (place_after after places) IsPlaceEntry
next-each None [] each = tt
next-each None (e ∷ places) each = All-head IsPlaceEntry e places each
next-each (Some key) places each = first-each IsPlaceEntry (λ (e : Name × Stored). is_lt (key_cmp key e.0)) places each

-- no row from a place on is no place behind it
pub next-none : (pages : PageMap) (root : ℕ) (places : List (Name × Stored)) (after : Option Name) → IfSome after IsName → HoldsPlaces pages root places → Rows.first_from (next_code after) (map_rows places_form pages root) ≡ None → place_after after places ≡ None
next-none pages root places after is holds none =
    row_none (place_after after places) (sym (next-rows after places is holds.each) ∙ ap (λ (l : List Row). Rows.first_from (next_code after) l) (sym holds.rows) ∙ none)

-- the first row from a place on is that of the first place behind it
pub next-some : (pages : PageMap) (root : ℕ) (places : List (Name × Stored)) (after : Option Name) (row : Row) → IfSome after IsName → HoldsPlaces pages root places → Rows.first_from (next_code after) (map_rows places_form pages root) ≡ Some row
    → IsNext (place_after after places) row
next-some pages root places after row is holds some =
    row_some (place_after after places) row (next-each after places holds.each) (sym (next-rows after places is holds.each) ∙ ap (λ (l : List Row). Rows.first_from (next_code after) l) (sym holds.rows) ∙ some)

-- the number of a number's bytes
pub number-of_number : (bytes : List ℕ) (n : ℕ) → n < 2 ^ 64 → bytes ≡ number_bytes n → number bytes ≡ n
number-of_number bytes n fits is = ap number is ∙ number-number_bytes n fits

-- no first row was found
pub first-none : (form : Form) (pages : PageMap) (root n code : ℕ) (row : Row) (at : Option ℕ) → n ≡ code → at ≡ None
    → Locates (Rows.first_from n (map_rows form pages root)) row (HoldsRow form pages (map_uses form pages root) row) at → Rows.first_from code (map_rows form pages root) ≡ None
first-none form pages root n code row at is none there =
    ap (λ (k : ℕ). Rows.first_from k (map_rows form pages root)) (sym is) ∙ located-none _ row (HoldsRow form pages (map_uses form pages root) row) at none there

-- one was found
pub first-some : (form : Form) (pages : PageMap) (root n code : ℕ) (row : Row) (at : Option ℕ) (leaf : ℕ) → n ≡ code → at ≡ Some leaf
    → Locates (Rows.first_from n (map_rows form pages root)) row (HoldsRow form pages (map_uses form pages root) row) at
    → (Rows.first_from code (map_rows form pages root) ≡ Some row) × HoldsRow form pages (map_uses form pages root) row leaf
first-some form pages root n code row at leaf is some there =
    let one = located-some (Rows.first_from n (map_rows form pages root)) row (HoldsRow form pages (map_uses form pages root) row) at leaf some there in
    (ap (λ (k : ℕ). Rows.first_from k (map_rows form pages root)) (sym is) ∙ one.0, one.1)

-- a row that was read is broken where its key and value are no place's
pub place-unread : (pages : PageMap) (root : ℕ) (before asked : List ℕ) (row : Row) (leaf : ℕ) → HasRead places_form pages before asked row leaf
    → (IsMap places_form pages root → HoldsRow places_form pages (map_uses places_form pages root) row leaf)
    → ((e : Name × Stored) → IsPlaceEntry e → row.0 ≡ key_code e.0 → row.1 ≡ place_value e.1 → ⊥) → IsBrokenPlace pages root before asked row leaf
place-unread pages root before asked row leaf read held none = record { read = read; broken = λ e is same. none e is (ap (λ (r : Row). r.0) same) (ap (λ (r : Row). r.1) same); held = held }
