-- Values of rows, as bytes.
use Rattle.std.proofs.Common.{◌≡◌, ℕ, ℤ, ◌+◌, ◌-◌, ◌<◌, ◌≤◌, ◌^◌, ◌↔◌, List, [], ◌∷◌, ◌++◌, length, take, drop, get_or, Option, Some, None, IsSome, IfSome, unsigned_abs, replicate, true≢false, All, refl, sym, ap, subst, ◌∙◌, arith}
use Rattle.std.proofs.Math.Facts.{Fits-lt-pow, Fits-of_z}
use Rattle.std.proofs.Math.Seq.{drop-cons}
use Rattle.std.proofs.lemmas.Int.{fits_signed_from_abs, of_z-to_z, to_z-of_z}
use Rattle.std.proofs.lemmas.List.{drop-drop, drop_at, length-append, length-drop, length-replicate, take-append-drop, take_all, take_at}
use Rattle.std.proofs.lemmas.Nat.{from_be_bytes-to_be_bytes_4}
use Rattle.std.specs.Int.{cast_signed, cast_unsigned, from_be_bytes, to_be_bytes, w32}
use Rattle.std.specs.List.{flat_map}
use Rattle.spatial_base.specs.Point.{Position, IsOnMap}
use Rattle.term_impacts.specs.Form.{IsWordText, word_form}
use Rattle.term_impacts.specs.Label.{IsLabelText, label_form}
use Rattle.row_codec.specs.declared.counted.Counted.{Counted}
use Rattle.row_codec.specs.declared.stored.Stored.{Stored}
use Rattle.row_codec.specs.Counted.{IsCounted, counted_value}
use Rattle.row_codec.specs.Pairs.{IsPair, pair_bytes}
use Rattle.row_codec.specs.Stored.{IsValue, point_bytes, place_value}
use Rattle.row_codec.proofs.PairLemmas.{length-pairs, pairs-same}

-- one piece more behind the pieces written so far
joined : {xs ys zs : List ℕ} (b : List ℕ) → xs ≡ ys ++ b → ys ≡ zs → xs ≡ zs ++ b
joined b whole front = whole ∙ ap (λ (l : List ℕ). l ++ b) front

-- what was written piece by piece is the place's value
pub written : (stored : Stored) (a b d o1 o2 o3 o4 o5 : List ℕ) → a ≡ to_be_bytes w32 (cast_unsigned w32 stored.point.x) → b ≡ to_be_bytes w32 (cast_unsigned w32 stored.point.y)
    → d ≡ label_form stored.label → length d ≡ 64
    → take (0 + length a) o1 ≡ a → take (4 + length b) o2 ≡ take 4 o1 ++ b → take 9 o3 ≡ take 8 o2 ++ stored.count ∷ []
    → take 585 o4 ≡ take 9 o3 ++ flat_map pair_bytes stored.pairs → take (585 + length d) o5 ≡ take 585 o4 ++ d → length o5 ≡ 649 → o5 ≡ place_value stored
unfolding place_value point_bytes
written stored a b d o1 o2 o3 o4 o5 x y z long w1 w2 w3 w4 w5 size =
    let four : 4 ≡ length a = sym (ap (λ (l : List ℕ). length l) x) in
    let more : 4 ≡ length b = sym (ap (λ (l : List ℕ). length l) y) in
    let front : take 4 o1 ≡ to_be_bytes w32 (cast_unsigned w32 stored.point.x) = ap (λ (n : ℕ). take (0 + n) o1) four ∙ w1 ∙ x in
    let point : take 8 o2 ≡ take 4 o1 ++ to_be_bytes w32 (cast_unsigned w32 stored.point.y) = ap (λ (n : ℕ). take (4 + n) o2) more ∙ w2 ∙ ap (λ (l : List ℕ). take 4 o1 ++ l) y in
    let counted = joined (stored.count ∷ []) w3 (joined (to_be_bytes w32 (cast_unsigned w32 stored.point.y)) point front) in
    let paired = joined (flat_map pair_bytes stored.pairs) w4 counted in
    let label : take 649 o5 ≡ take 585 o4 ++ label_form stored.label = ap (λ (n : ℕ). take (585 + n) o5) (sym long) ∙ w5 ∙ ap (λ (l : List ℕ). take 585 o4 ++ l) z in
    sym (take_all 649 o5 (omega arith)) ∙ joined (label_form stored.label) label paired

-- ---- points

-- a coordinate of a map fits an i32
fits_i32 : (z : ℤ) → unsigned_abs z ≤ 1800000000 → cast_signed w32 (cast_unsigned w32 z) ≡ z
fits_i32 z small = to_z-of_z w32 z (fits_signed_from_abs w32 z (omega arith))

fits_map : (z : ℤ) → unsigned_abs z ≤ 1800000000 → cast_unsigned w32 z < 2 ^ 32
fits_map z small = Fits-lt-pow (Fits-of_z (fits_signed_from_abs w32 z (omega arith)))

-- four bytes tell their number
pub word_same : (m n : ℕ) → m < 2 ^ 32 → n < 2 ^ 32 → to_be_bytes w32 m ≡ to_be_bytes w32 n → m ≡ n
word_same m n fits other same =
    sym (from_be_bytes-to_be_bytes_4 m fits) ∙ ap (λ (l : List ℕ). from_be_bytes w32 l) same ∙ from_be_bytes-to_be_bytes_4 n other

-- the coordinates of 8 bytes
pub record AreCoordinates (xs : List ℕ) (m n : ℕ) (x y : ℤ) : Type 0 where
  pub size : length xs ≡ 8
  pub first : to_be_bytes w32 m ≡ take 4 (drop 0 xs)
  pub second : to_be_bytes w32 n ≡ take 4 (drop 4 xs)
  pub first_fits : m < 2 ^ 32
  pub second_fits : n < 2 ^ 32
  pub x_is : x ≡ cast_signed w32 m
  pub y_is : y ≡ cast_signed w32 n

-- are those that are written so
coordinates_bytes : (xs : List ℕ) (m n : ℕ) (x y : ℤ) → AreCoordinates xs m n x y → xs ≡ to_be_bytes w32 (cast_unsigned w32 x) ++ to_be_bytes w32 (cast_unsigned w32 y)
coordinates_bytes xs m n x y c =
    let first_is : cast_unsigned w32 x ≡ m = ap (cast_unsigned w32) c.x_is ∙ of_z-to_z w32 m c.first_fits in
    let second_is : cast_unsigned w32 y ≡ n = ap (cast_unsigned w32) c.y_is ∙ of_z-to_z w32 n c.second_fits in
    let left : length (drop 4 xs) ≤ 4 = rw (length-drop 4 xs) (let size = c.size in omega arith) in
    sym (take-append-drop 4 xs)
    ∙ ap (λ (l : List ℕ). l ++ drop 4 xs) (sym c.first ∙ ap (to_be_bytes w32) (sym first_is))
    ∙ ap (λ (l : List ℕ). to_be_bytes w32 (cast_unsigned w32 x) ++ l) (sym (take_all 4 (drop 4 xs) left) ∙ sym c.second ∙ ap (to_be_bytes w32) (sym second_is))

-- the point of two coordinates is that of their bytes
pub point_made : (r : Option Position) (xs : List ℕ) (m n : ℕ) (x y : ℤ) → AreCoordinates xs m n x y → (IsSome r ↔ IsOnMap x y) → IfSome r (λ p. p ≡ record { x = x; y = y })
    → IfSome r (λ p. IsOnMap p.x p.y × (xs ≡ point_bytes p))
unfolding point_bytes
point_made None xs m n x y c some value = tt
point_made (Some p) xs m n x y c some value =
    let there : Position = record { x = x; y = y } in
    let P : Position → Type 0 = λ q. IsOnMap q.x q.y × (xs ≡ point_bytes q) in
    subst P (sym value) (some.0 refl, coordinates_bytes xs m n x y c)

-- and each point that is written so
pub point_every : (r : Option Position) (xs : List ℕ) (m n : ℕ) (x y : ℤ) → AreCoordinates xs m n x y → (IsSome r ↔ IsOnMap x y) → IfSome r (λ p. p ≡ record { x = x; y = y })
    → (p : Position) → IsOnMap p.x p.y → xs ≡ point_bytes p → r ≡ Some p
unfolding point_bytes
point_every r xs m n x y c some value p on is =
    let y_small : unsigned_abs p.y ≤ 1800000000 = omega (arith, on.1) in
    let m_is : m ≡ cast_unsigned w32 p.x = word_same m (cast_unsigned w32 p.x) c.first_fits (fits_map p.x on.0) (c.first ∙ ap (λ (l : List ℕ). take 4 (drop 0 l)) is) in
    let n_is : n ≡ cast_unsigned w32 p.y = word_same n (cast_unsigned w32 p.y) c.second_fits (fits_map p.y y_small) (c.second ∙ ap (λ (l : List ℕ). take 4 (drop 4 l)) is) in
    let x_is : x ≡ p.x = c.x_is ∙ ap (cast_signed w32) m_is ∙ fits_i32 p.x on.0 in
    let y_is : y ≡ p.y = c.y_is ∙ ap (cast_signed w32) n_is ∙ fits_i32 p.y y_small in
    let same : IsOnMap x y = (subst (λ z. unsigned_abs z ≤ 1800000000) (sym x_is) on.0, subst (λ z. unsigned_abs z ≤ 900000000) (sym y_is) on.1) in
    found r (some.1 same) value ∙ (λ i. Some (record { x = x_is i; y = y_is i }))
  where
    found : (r : Option Position) → IsSome r → IfSome r (λ q. q ≡ record { x = x; y = y }) → r ≡ Some (record { x = x; y = y })
    found None there value = absurd (true≢false (sym there))
    found (Some q) there value = ap Some value

-- ---- places

-- a label's form has 64 bytes
pub length-label_form : (text : List ℕ) → IsLabelText text → length (label_form text) ≡ 64
length-label_form text is =
    let fits = is.fits in
    omega (arith, length-append text (replicate (63 - length text) 0 ++ length text ∷ []), length-append (replicate (63 - length text) 0) (length text ∷ []), length-replicate {A = ℕ} (63 - length text) 0)

-- the bytes of a value are its point's, its count, its pairs' and its label's
pub value_parts : (xs : List ℕ) → length xs ≡ 649 → xs ≡ take 8 xs ++ (get_or xs 8 0 ∷ (take 576 (drop 9 xs) ++ take 64 (drop 585 xs)))
value_parts xs size =
    let last : length (drop 585 xs) ≤ 64 = rw (length-drop 585 xs) (omega arith) in
    let rest : drop 9 xs ≡ take 576 (drop 9 xs) ++ take 64 (drop 585 xs) =
    sym (take-append-drop 576 (drop 9 xs)) ∙ ap (λ (l : List ℕ). take 576 (drop 9 xs) ++ l) (drop-drop 576 9 xs ∙ sym (take_all 64 (drop 585 xs) last)) in
    sym (take-append-drop 8 xs)
    ∙ ap (λ (l : List ℕ). take 8 xs ++ l) (drop-cons xs 8 0 (omega arith) ∙ ap (λ (l : List ℕ). get_or xs 8 0 ∷ l) rest)

-- a value of these parts
pub value_of_parts : (xs : List ℕ) (stored : Stored) → length xs ≡ 649 → take 8 xs ≡ point_bytes stored.point → stored.count ≡ get_or xs 8 0 → flat_map pair_bytes stored.pairs ≡ take 576 (drop 9 xs)
    → label_form stored.label ≡ take 64 (drop 585 xs) → xs ≡ place_value stored
unfolding place_value
value_of_parts xs stored size point count pairs label =
    value_parts xs size ∙ ap (λ (l : List ℕ). l ++ (get_or xs 8 0 ∷ (take 576 (drop 9 xs) ++ take 64 (drop 585 xs)))) point
    ∙ ap (λ (n : ℕ). point_bytes stored.point ++ (n ∷ (take 576 (drop 9 xs) ++ take 64 (drop 585 xs)))) (sym count)
    ∙ ap (λ (l : List ℕ). point_bytes stored.point ++ (stored.count ∷ (l ++ take 64 (drop 585 xs)))) (sym pairs)
    ∙ ap (λ (l : List ℕ). point_bytes stored.point ++ (stored.count ∷ (flat_map pair_bytes stored.pairs ++ l))) (sym label)

-- a value's first 8 bytes are its point's
pub point_part : (xs : List ℕ) (stored : Stored) → xs ≡ place_value stored → take 8 xs ≡ point_bytes stored.point
unfolding place_value point_bytes
point_part xs stored is = ap (λ (l : List ℕ). take 8 l) is

-- the pairs of a value have 576 bytes
length-value_pairs : (stored : Stored) → IsValue stored → length (flat_map pair_bytes stored.pairs) ≡ 576
length-value_pairs stored value = let n = length-pairs stored.pairs in let s = value.size in omega arith

-- a value's bytes from the 9th on, but the last 64, are its pairs'
pub pairs_part : (xs : List ℕ) (stored : Stored) → IsValue stored → xs ≡ place_value stored → take 576 (drop 9 xs) ≡ flat_map pair_bytes stored.pairs
unfolding place_value point_bytes
pairs_part xs stored value is =
    ap (λ (l : List ℕ). take 576 (drop 9 l)) is ∙ take_at (flat_map pair_bytes stored.pairs) (label_form stored.label) 576 (length-value_pairs stored value)

-- a value's last 64 bytes are its label's
pub label_part : (xs : List ℕ) (stored : Stored) → IsValue stored → xs ≡ place_value stored → take 64 (drop 585 xs) ≡ label_form stored.label
unfolding place_value point_bytes
label_part xs stored value is =
    let size = length-label_form stored.label value.label in
    ap (λ (l : List ℕ). take 64 (drop 585 l)) is
    ∙ ap (λ (l : List ℕ). take 64 l) (drop_at (flat_map pair_bytes stored.pairs) (label_form stored.label) 576 (length-value_pairs stored value))
    ∙ take_all 64 (label_form stored.label) (omega arith)

-- the parsed place is the one whose value the bytes are
pub same_place : (xs : List ℕ) (made stored : Stored) → IsValue stored → made.point ≡ stored.point → made.count ≡ get_or xs 8 0 → flat_map pair_bytes made.pairs ≡ take 576 (drop 9 xs)
    → length made.pairs ≡ 64 → All IsPair made.pairs → made.label ≡ stored.label → xs ≡ place_value stored → made ≡ stored
unfolding place_value point_bytes
same_place xs made stored value point count pairs size fits label is =
    let count_is : made.count ≡ stored.count = count ∙ ap (λ (l : List ℕ). get_or l 8 0) is in
    let bytes : flat_map pair_bytes made.pairs ≡ flat_map pair_bytes stored.pairs = pairs ∙ pairs_part xs stored value is in
    let pairs_are : made.pairs ≡ stored.pairs = pairs-same made.pairs stored.pairs (size ∙ sym value.size) fits value.pairs bytes in
    λ i. record { point = point i; count = count_is i; pairs = pairs_are i; label = label i }

-- ---- words and their counts

pub length-word_form : (text : List ℕ) → IsWordText text → length (word_form text) ≡ 33
length-word_form text is =
    let fits = is.fits in
    omega (arith, length-append text (replicate (32 - length text) 0 ++ length text ∷ []), length-append (replicate (32 - length text) 0) (length text ∷ []), length-replicate {A = ℕ} (32 - length text) 0)

-- a value of these parts
pub counted_of_parts : (xs : List ℕ) (counted : Counted) → length xs ≡ 37 → take 33 xs ≡ word_form counted.word → to_be_bytes w32 counted.places ≡ take 4 (drop 33 xs) → xs ≡ counted_value counted
unfolding counted_value
counted_of_parts xs counted size word places =
    let rest : length (drop 33 xs) ≤ 4 = rw (length-drop 33 xs) (omega arith) in
    sym (take-append-drop 33 xs)
    ∙ ap (λ (l : List ℕ). l ++ drop 33 xs) word
    ∙ ap (λ (l : List ℕ). word_form counted.word ++ l) (sym (take_all 4 (drop 33 xs) rest) ∙ sym places)

-- the word's part of a value
pub word_part : (xs : List ℕ) (counted : Counted) → IsCounted counted → xs ≡ counted_value counted → take 33 xs ≡ word_form counted.word
unfolding counted_value
word_part xs counted is e = ap (λ (l : List ℕ). take 33 l) e ∙ take_at (word_form counted.word) (to_be_bytes w32 counted.places) 33 (length-word_form counted.word is.word)

-- the part of the number of places
pub places_part : (xs : List ℕ) (counted : Counted) (n : ℕ) → IsCounted counted → xs ≡ counted_value counted → n < 2 ^ 32 → to_be_bytes w32 n ≡ take 4 (drop 33 xs) → n ≡ counted.places
unfolding counted_value
places_part xs counted n is e fits bytes =
    word_same n counted.places fits is.places
    (bytes ∙ ap (λ (l : List ℕ). take 4 (drop 33 l)) e ∙ ap (λ (l : List ℕ). take 4 l) (drop_at (word_form counted.word) (to_be_bytes w32 counted.places) 33 (length-word_form counted.word is.word)))
