-- Values of version 1, and those of version 2 with the empty label.
use Rattle.std.proofs.Common.{◌≡◌, ℕ, List, [], ◌∷◌, ◌++◌, length, take, drop, replicate, refl, sym, ap, ◌∙◌, arith}
use Rattle.std.proofs.lemmas.List.{append_assoc, drop_at, length-append, take_at}
use Rattle.std.specs.List.{flat_map}
use Rattle.term_impacts.specs.Label.{form_text, label_form}
use Rattle.term_impacts.proofs.LabelLemmas.{label_text_is}
use Rattle.row_codec.specs.Pairs.{pair_bytes}
use Rattle.row_codec.specs.Stored.{IsValue, place_value, point_bytes}
use Rattle.row_codec.specs.declared.stored.Stored.{Stored}
use Rattle.row_codec.proofs.PairLemmas.{length-pairs}
use Rattle.row_codec.proofs.ValueLemmas.{label_part}
use Rattle.table_updates.specs.Version1.{value_of_version1}

-- a value of version 1 and 64 zeros are the value of the place with the empty label
pub value_longer : (stored : Stored) → stored.label ≡ [] → value_of_version1 stored ++ replicate 64 0 ≡ place_value stored
unfolding place_value value_of_version1
value_longer stored none =
    append_assoc (point_bytes stored.point) (stored.count ∷ flat_map pair_bytes stored.pairs) (replicate 64 0)
    ∙ ap (λ (label : List ℕ). point_bytes stored.point ++ (stored.count ∷ (flat_map pair_bytes stored.pairs ++ label_form label))) (sym none)

-- a value of version 1 has 585 bytes
pub length-value : (stored : Stored) → IsValue stored → length (value_of_version1 stored) ≡ 585
unfolding value_of_version1 point_bytes
length-value stored value =
    let pairs = length-pairs stored.pairs in
    let size = value.size in
    let point : length (point_bytes stored.point) ≡ 8 = refl in
    omega (arith, pairs, size, point, length-append (point_bytes stored.point) (stored.count ∷ flat_map pair_bytes stored.pairs))

-- a value that ends in 64 zeros is of a place with the empty label
label-none : (bytes : List ℕ) (stored : Stored) → IsValue stored → bytes ≡ place_value stored → take 64 (drop 585 bytes) ≡ replicate 64 0 → stored.label ≡ []
label-none bytes stored value is zeros =
    sym (label_text_is (label_form stored.label) stored.label value.label refl) ∙ ap form_text (sym (label_part bytes stored value is) ∙ zeros)

-- what a value is without 64 zeros at its end
pub record IsShort (bytes : List ℕ) (stored : Stored) : Type 0 where
  pub label : stored.label ≡ []
  pub value : bytes ≡ value_of_version1 stored

-- without them it is the value of version 1
pub value_shorter : (bytes longer : List ℕ) (stored : Stored) → IsValue stored → length bytes ≡ 585 → longer ≡ bytes ++ replicate 64 0 → longer ≡ place_value stored → IsShort bytes stored
value_shorter bytes longer stored value size zeros is =
    let label = label-none longer stored value is (ap (λ (l : List ℕ). take 64 (drop 585 l)) zeros ∙ ap (take 64) (drop_at bytes (replicate 64 0) 585 size)) in
    record {
      label = label;
      value = sym (take_at bytes (replicate 64 0) 585 size) ∙ ap (take 585) (sym zeros ∙ is ∙ sym (value_longer stored label))
          ∙ take_at (value_of_version1 stored) (replicate 64 0) 585 (length-value stored value);
    }
