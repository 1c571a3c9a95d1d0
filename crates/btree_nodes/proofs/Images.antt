-- Pages that were made of cells.
use Rattle.std.proofs.Common.{◌≡◌, ℕ, zero, suc, ◌+◌, ◌-◌, ◌*◌, ◌^◌, ◌<◌, ◌≤◌, List, ◌++◌, length, get_or, take, drop, map, replicate, arith, refl, sym, ap, ◌∙◌, subst, append-nil}
use Rattle.std.proofs.lemmas.List.{drop-drop, drop_at, length-append, length-replicate, take-append-le}
use Rattle.std.proofs.lemmas.Nat.{from_be_bytes-to_be_bytes_2}
use Rattle.std.proofs.Math.Nat.{mul-zero}
use Rattle.page_face.specs.Number as numbers
use Rattle.page_face.specs.Cells.{chop, cells, key_at}
use Rattle.btree_nodes.specs.Build.{image}
use Rattle.btree_nodes.proofs.Chops.{chop-append}
use Rattle.btree_nodes.specs.declared.form.Form.{Form}
use Rattle.page_face.specs.Nodes.{count_of, AreZero, IsNode}
use Rattle.btree_nodes.specs.Nodes.{rows_in, row_of, rows_of, entries_in, entry_of, entries_of}

zeros : (n : ℕ) → AreZero (replicate n 0)
zeros zero = refl
zeros (suc n) = zeros n

module _ (number kind level width least count : ℕ) (bytes : List ℕ) (small : count < 2 ^ 16) (whole : length bytes ≡ width * count) (fits : 16 + length bytes ≤ 4096) where
  pub image-count : count_of (image number kind level count bytes) ≡ count
  unfolding count_of image
  image-count = from_be_bytes-to_be_bytes_2 count small

  pub image-cells : cells width (count_of (image number kind level count bytes)) (image number kind level count bytes) ≡ chop width count bytes
  unfolding image
  image-cells =
      ap (λ (n : ℕ). cells width n (image number kind level count bytes)) image-count
      ∙ ap (λ (n : ℕ). chop width n (bytes ++ replicate (4080 - length bytes) 0)) (omega arith)
      ∙ chop-append width count 0 bytes (replicate (4080 - length bytes) 0) whole
      ∙ append-nil (chop width count bytes)

  image-size : length (image number kind level count bytes) ≡ 4096
  unfolding image
  image-size = omega (arith, length-append bytes (replicate (4080 - length bytes) 0), length-replicate {A = ℕ} (4080 - length bytes) 0)

  image-rest : AreZero (drop (16 + width * count_of (image number kind level count bytes)) (image number kind level count bytes))
  unfolding image
  image-rest =
      let n : 16 + width * count_of (image number kind level count bytes) ≡ 16 + length bytes = ap (λ (k : ℕ). 16 + width * k) image-count ∙ ap (λ (k : ℕ). 16 + k) (sym whole) in
      let d : drop (16 + length bytes) (image number kind level count bytes) ≡ replicate (4080 - length bytes) 0 =
      sym (drop-drop (length bytes) 16 (image number kind level count bytes)) ∙ drop_at bytes (replicate (4080 - length bytes) 0) (length bytes) refl in
      subst AreZero (sym (ap (λ (k : ℕ). drop k (image number kind level count bytes)) n ∙ d)) (zeros (4080 - length bytes))

  image-fields : (get_or (image number kind level count bytes) 0 0 ≡ kind) × (get_or (image number kind level count bytes) 1 0 ≡ number) × (get_or (image number kind level count bytes) 4 0 ≡ level)
      × AreZero (take 11 (drop 5 (image number kind level count bytes)))
  unfolding image
  image-fields = (refl, refl, refl, refl)

  pub image-node : 0 < count → least ≤ count → IsNode number kind level width least (image number kind level count bytes)
  image-node some enough = record {
    size = image-size;
    kind = image-fields.0;
    of = image-fields.1;
    level = image-fields.2;
    some = omega (arith, image-count);
    fill = omega (arith, image-count);
    fits = let n = ap (λ (k : ℕ). width * k) image-count in omega arith;
    plain = image-fields.3;
    rest = image-rest;
  }

-- the rows of a leaf that was made
pub image-rows : (form : Form) (count : ℕ) (bytes : List ℕ) → count < 2 ^ 16 → length bytes ≡ (form.key + form.value) * count → 16 + length bytes ≤ 4096
    → rows_in form (image form.map 1 0 count bytes) ≡ rows_of form count bytes
unfolding rows_in
image-rows form count bytes small whole fits = ap (map (row_of form.key)) (image-cells form.map 1 0 (form.key + form.value) 0 count bytes small whole fits)

-- the entries and the first key of an inner page that was made
pub image-entries : (form : Form) (level count : ℕ) (bytes : List ℕ) → count < 2 ^ 16 → length bytes ≡ (form.key + 4) * count → 16 + length bytes ≤ 4096
    → entries_in form (image form.map 2 level count bytes) ≡ entries_of form count bytes
unfolding entries_in
image-entries form level count bytes small whole fits = ap (map (entry_of form.key)) (image-cells form.map 2 level (form.key + 4) 0 count bytes small whole fits)

pub image-first : (form : Form) (level count : ℕ) (bytes : List ℕ) → form.key ≤ length bytes → key_at form.key (form.key + 4) (image form.map 2 level count bytes) 0 ≡ numbers.number (take form.key bytes)
unfolding image
image-first form level count bytes long =
    let from : 16 + (form.key + 4) * 0 ≡ 16 = omega (arith, mul-zero (form.key + 4)) in
    ap (λ (k : ℕ). numbers.number (take form.key (drop k (image form.map 2 level count bytes)))) from
    ∙ ap numbers.number (take-append-le form.key bytes (replicate (4080 - length bytes) 0) long)
