-- The entries that maps hold: they are in the order of their keys, and they are one list.
use Rattle.std.proofs.Common.{◌≡◌, ℕ, ℤ, zero, suc, ◌+◌, ◌<◌, ◌≤◌, ◌^◌, List, [], ◌∷◌, take, drop, drop_at, get_or, map, All, unsigned_abs, refl, sym, ap, subst, ◌∙◌, arith}
use Rattle.std.proofs.Math.Facts.{Fits-lt-pow, Fits-of_z}
use Rattle.std.proofs.lemmas.Int.{fits_signed_from_abs, to_z-of_z}
use Rattle.std.proofs.lemmas.List.Elements.{All-head, All-tail}
use Rattle.std.proofs.lemmas.Nat.{from_be_bytes-to_be_bytes_8}
use Rattle.std.specs.Cmp.{nat_cmp_is}
use Rattle.std.specs.Int.{cast_signed, cast_unsigned, from_be_bytes, to_be_bytes, w32, w64}
use Rattle.std.specs.List.{AllByRecursion}
use Rattle.std.specs.List.Sorted.{IsStrictlySortedBy}
use Rattle.std.specs.Map.{keys_of}
use Rattle.std.specs.declared.cmp.Ordering.{Ordering}
use Rattle.std.specs.declared.cmp.Ordering.TheVariants.{Less}
use Rattle.page_face.specs.FreeList.{PageMap}
use Rattle.spatial_base.specs.Point.{Position, IsOnMap}
use Rattle.term_impacts.specs.Form.{IsWordText, word_form}
use Rattle.page_face.specs.Number.{number}
use Rattle.btree_nodes.specs.declared.form.Form.{Form}
use Rattle.btree_nodes.specs.Rows.{IsWithin, Row}
use Rattle.btree_nodes.specs.Nodes.{least_of_root}
use Rattle.btree_nodes.specs.Tree.{IsMap, level_of, map_rows}
use Rattle.btree_nodes.proofs.Trees.{tree-within}
use Rattle.row_codec.specs.Counted.{IsCounted, counted_value, number_bytes}
use Rattle.row_codec.specs.Stored.{place_value, point_bytes}
use Rattle.row_codec.specs.declared.counted.Counted.{Counted}
use Rattle.row_codec.specs.declared.stored.Stored.{Stored}
use Rattle.term_impacts.specs.Label.{label_form}
use Rattle.term_impacts.proofs.LabelLemmas.{label_text_is}
use Rattle.row_codec.proofs.ValueLemmas.{label_part, pairs_part, places_part, same_place, word_part, word_same, length-word_form}
use Rattle.store_tables.specs.Coded.{IsEntryOf, IsPlaceValue, IsU64, row_by, word_code}
use Rattle.store_tables.specs.Entries.{Entries}
use Rattle.store_tables.specs.Holding.{Holds, HoldsMap}
use Rattle.store_tables.specs.declared.tables.Tables.{Tables}
use Rattle.store_tables.proofs.CodeLemmas.{word-order}
use Rattle.store_tables.proofs.EntryLemmas.{IsCoding, level}
use Rattle.store_tables.proofs.LookupLemmas.{keys_coding, numbers_coding, words_coding}
use Rattle.store_tables.proofs.MapLemmas.{IsOrder, keys_are_ordered, numbers_are_ordered, words_are_ordered}
use Rattle.store_model.proofs.Steps.{AreAscending}

-- ---- in order

-- the rows of a map are within bounds
rows-within : (form : Form) (pages : PageMap) (root : ℕ) → IsMap form pages root → (high : ℕ) × IsWithin 0 high (map_rows form pages root)
rows-within form pages zero tree = (0, omega arith)
rows-within form pages (suc n) tree = (256 ^ form.key, tree-within form (least_of_root (level_of (pages (suc n)))) pages (level_of (pages (suc n))) (suc n) 0 (256 ^ form.key) tree)

module _ {K V : Type 0} {cmp : K → K → Ordering} {IsKey : K → Type 0} {code : K → ℕ} (coding : IsCoding cmp IsKey code) (IsValue : V → Type 0) (value : V → List ℕ) where
  -- a key whose number is below the bound is below the keys of rows from the bound on
  below-rows : (k : K) (low high : ℕ) (es : List (K × V)) → IsKey k → code k < low → All (IsEntryOf IsKey IsValue) es → IsWithin low high (map (row_by code value) es) → AllByRecursion (λ y. cmp k y ≡ Less) (keys_of es)
  below-rows k low high [] is lt each within = tt
  below-rows k low high (e ∷ es) is lt each within =
      let here = All-head (IsEntryOf IsKey IsValue) e es each in
      let from = within.0 in (
        coding.agrees k e.0 is here.0 ∙ sym (nat_cmp_is (code k) (code e.0) Less (omega (arith, lt, from))),
        below-rows k (code e.0 + 1) high es is (omega (arith, lt, from)) (All-tail (IsEntryOf IsKey IsValue) e es each) within.1,
      )

  -- entries whose rows are within bounds are in the order of their keys
  ascending-rows : (low high : ℕ) (es : List (K × V)) → All (IsEntryOf IsKey IsValue) es → IsWithin low high (map (row_by code value) es) → IsStrictlySortedBy cmp (keys_of es)
  unfolding IsStrictlySortedBy
  ascending-rows low high [] each within = tt
  ascending-rows low high (e ∷ es) each within =
      let here = All-head (IsEntryOf IsKey IsValue) e es each in
      let rest = All-tail (IsEntryOf IsKey IsValue) e es each in
      (below-rows e.0 (code e.0 + 1) high es here.0 (omega arith) rest within.1, ascending-rows (code e.0 + 1) high es rest within.1)

  -- the entries that a map holds are in the order of their keys
  ascending-map : (form : Form) (pages : PageMap) (root : ℕ) (es : List (K × V)) → HoldsMap form code value IsKey IsValue pages root es → IsStrictlySortedBy cmp (keys_of es)
  ascending-map form pages root es holds =
      let within = rows-within form pages root holds.tree in
      ascending-rows 0 within.0 es holds.each (subst (IsWithin 0 within.0) holds.rows within.1)

-- the entries that tables hold are in the order of their keys
pub ascending-holds : (pages : PageMap) (tables : Tables) (entries : Entries) → Holds pages tables entries → AreAscending entries
ascending-holds pages tables entries holds = record {
  places = ascending-map keys_coding IsPlaceValue place_value _ pages tables.places entries.places holds.places;
  texts = ascending-map words_coding IsU64 number_bytes _ pages tables.texts entries.texts holds.texts;
  numbers = ascending-map numbers_coding IsCounted counted_value _ pages tables.numbers entries.numbers holds.numbers;
}

-- ---- one list

module _ {K V : Type 0} {cmp : K → K → Ordering} {IsKey : K → Type 0} {code : K → ℕ} (coding : IsCoding cmp IsKey code) (order : IsOrder cmp) (IsValue : V → Type 0) (value : V → List ℕ)
    (one : (v w : V) → IsValue v → IsValue w → value v ≡ value w → v ≡ w) where
  -- rows that are the same are those of the same entries
  entries-same : (es fs : List (K × V)) → All (IsEntryOf IsKey IsValue) es → All (IsEntryOf IsKey IsValue) fs → ◌≡◌ {A = List Row} (map (row_by code value) es) (map (row_by code value) fs) → es ≡ fs
  entries-same [] [] each also same = refl
  entries-same [] (f ∷ fs) each also same = absurd (cc)
  entries-same (e ∷ es) [] each also same = absurd (cc)
  entries-same (e ∷ es) (f ∷ fs) each also same =
      let here = All-head (IsEntryOf IsKey IsValue) e es each in
      let there = All-head (IsEntryOf IsKey IsValue) f fs also in
      let codes : code e.0 ≡ code f.0 = ap (λ (rows : List Row). (get_or rows 0 (0, [])).0) same in
      let values : value e.1 ≡ value f.1 = ap (λ (rows : List Row). (get_or rows 0 (0, [])).1) same in
      let keys : e.0 ≡ f.0 = order.same e.0 f.0 (coding.agrees e.0 f.0 here.0 there.0 ∙ level codes) in
      let value_is : e.1 ≡ f.1 = one e.1 f.1 here.1 there.1 values in
      let rest = entries-same es fs (All-tail (IsEntryOf IsKey IsValue) e es each) (All-tail (IsEntryOf IsKey IsValue) f fs also) (ap (λ (rows : List Row). drop 1 rows) same) in
      λ i. (keys i, value_is i) ∷ rest i

  -- a map holds one list of entries
  map-same : (form : Form) (pages : PageMap) (root : ℕ) (es fs : List (K × V)) → HoldsMap form code value IsKey IsValue pages root es → HoldsMap form code value IsKey IsValue pages root fs → es ≡ fs
  map-same form pages root es fs holds also = entries-same es fs holds.each also.each (sym holds.rows ∙ also.rows)

-- ---- values

-- eight bytes tell their number
number_bytes-same : (m n : ℕ) → IsU64 m → IsU64 n → number_bytes m ≡ number_bytes n → m ≡ n
unfolding number_bytes
number_bytes-same m n fits also same = sym (from_be_bytes-to_be_bytes_8 m fits) ∙ ap (from_be_bytes w64) same ∙ from_be_bytes-to_be_bytes_8 n also

-- a coordinate's bytes tell it
coordinate-same : (y z : ℤ) → unsigned_abs y ≤ 1800000000 → unsigned_abs z ≤ 1800000000 → to_be_bytes w32 (cast_unsigned w32 y) ≡ to_be_bytes w32 (cast_unsigned w32 z) → y ≡ z
coordinate-same y z small also same =
    let y_fits = fits_signed_from_abs w32 y (omega (arith, small)) in
    let z_fits = fits_signed_from_abs w32 z (omega (arith, also)) in
    sym (to_z-of_z w32 y y_fits) ∙ ap (cast_signed w32) (word_same (cast_unsigned w32 y) (cast_unsigned w32 z) (Fits-lt-pow (Fits-of_z y_fits)) (Fits-lt-pow (Fits-of_z z_fits)) same) ∙ to_z-of_z w32 z z_fits

-- a point's bytes tell it
point_bytes-same : (p q : Position) → IsOnMap p.x p.y → IsOnMap q.x q.y → point_bytes p ≡ point_bytes q → p ≡ q
unfolding point_bytes
point_bytes-same p q on also same =
    let x = coordinate-same p.x q.x on.0 also.0 (ap (λ (l : List ℕ). take 4 l) same) in
    let y = coordinate-same p.y q.y (omega (arith, on.1)) (omega (arith, also.1)) (ap (λ (l : List ℕ). drop 4 l) same) in
    λ i. record { x = x i; y = y i }

-- the first 8 bytes of a value are its point
point_first : (stored : Stored) → take 8 (place_value stored) ≡ point_bytes stored.point
unfolding place_value point_bytes
point_first stored = refl

-- the next is the count
count_next : (stored : Stored) → stored.count ≡ get_or (place_value stored) 8 0
unfolding place_value point_bytes
count_next stored = refl

-- a place's value tells it
place_value-same : (s t : Stored) → IsPlaceValue s → IsPlaceValue t → place_value s ≡ place_value t → s ≡ t
place_value-same s t is also same =
    let point = point_bytes-same s.point t.point is.0.point also.0.point (sym (point_first s) ∙ ap (λ (l : List ℕ). take 8 l) same ∙ point_first t) in
    let pairs = sym (pairs_part (place_value s) s is.0 refl) in
    let form = sym (label_part (place_value s) s is.0 refl) ∙ label_part (place_value s) t also.0 same in
    let label = sym (label_text_is (label_form s.label) s.label is.0.label refl) ∙ label_text_is (label_form s.label) t.label also.0.label form in
    same_place (place_value s) s t also.0 point (count_next s) pairs is.0.size is.0.pairs label same

-- a word's form tells it
pub word_form-same : (a b : List ℕ) → IsWordText a → IsWordText b → word_form a ≡ word_form b → a ≡ b
unfolding word_code
word_form-same a b is also same = words_are_ordered.same a b (word-order a b is also ∙ level (ap number same))

-- the bytes behind a word's form
places_last : (counted : Counted) → IsWordText counted.word → to_be_bytes w32 counted.places ≡ take 4 (drop 33 (counted_value counted))
unfolding counted_value
places_last counted is = sym (ap (λ (l : List ℕ). take 4 l) (drop_at (word_form counted.word) (to_be_bytes w32 counted.places) 33 (length-word_form counted.word is)))

-- a counted word's value tells it
counted_value-same : (c d : Counted) → IsCounted c → IsCounted d → counted_value c ≡ counted_value d → c ≡ d
counted_value-same c d is also same =
    let word = word_form-same c.word d.word is.word also.word (sym (word_part (counted_value c) c is refl) ∙ word_part (counted_value c) d also same) in
    let places = places_part (counted_value c) d c.places also same is.places (places_last c is.word) in
    λ i. record { word = word i; places = places i }

-- ---- the tables

-- the tables hold one list of entries each
pub holds-same : (pages : PageMap) (tables : Tables) (d e : Entries) → Holds pages tables d → Holds pages tables e → d ≡ e
holds-same pages tables d e holds also =
    let places = map-same keys_coding keys_are_ordered IsPlaceValue place_value place_value-same _ pages tables.places d.places e.places holds.places also.places in
    let texts = map-same words_coding words_are_ordered IsU64 number_bytes number_bytes-same _ pages tables.texts d.texts e.texts holds.texts also.texts in
    let numbers = map-same numbers_coding numbers_are_ordered IsCounted counted_value counted_value-same _ pages tables.numbers d.numbers e.numbers holds.numbers also.numbers in
    λ i. record { places = places i; texts = texts i; numbers = numbers i }
