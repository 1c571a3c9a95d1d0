-- The rows and the entries of cells, apart from their page.
use Rattle.std.proofs.Common.{◌≡◌, ℕ, suc, ◌+◌, ◌*◌, ◌≤◌, List, ◌∷◌, ◌++◌, length, take, drop, map, replicate, arith, sym, ap, ◌∙◌}
use Rattle.std.specs.Int.{from_be_bytes, w32}
use Rattle.std.proofs.lemmas.List.{drop-take, drop-drop, length-map, length-replicate, take-take, take_at, drop_at}
use Rattle.page_face.specs.Number.{number}
use Rattle.page_face.specs.Cells.{chop}
use Rattle.btree_nodes.specs.declared.form.Form.{Form}
use Rattle.btree_nodes.specs.Nodes.{Entry, row_of, entry_of, rows_of, entries_of}
use Rattle.btree_nodes.specs.Tree.{next_key, with_low}
use Rattle.btree_nodes.proofs.Chops.{length-chop}
use Rattle.btree_nodes.proofs.Fans.{with_low-own, with_low-twice}
use Rattle.btree_nodes.proofs.Numbers.{number-zeros}

pub length-rows_of : (form : Form) (count : ℕ) (bytes : List ℕ) → length (rows_of form count bytes) ≡ count
length-rows_of form count bytes = length-map (chop (form.key + form.value) count bytes) (row_of form.key) ∙ length-chop (form.key + form.value) count bytes

pub length-entries_of : (form : Form) (count : ℕ) (bytes : List ℕ) → length (entries_of form count bytes) ≡ count
length-entries_of form count bytes = length-map (chop (form.key + 4) count bytes) (entry_of form.key) ∙ length-chop (form.key + 4) count bytes

-- the entries of cells whose first key is written anew
module _ (form : Form) (rest : ℕ) (key b : List ℕ) (long : (form.key + 4) * suc rest ≤ length b) (lk : length key ≡ form.key) where
  anew : List ℕ
  anew = key ++ drop form.key b

  child-same : drop form.key (take (form.key + 4) anew) ≡ drop form.key (take (form.key + 4) b)
  unfolding anew
  child-same = drop-take form.key 4 anew ∙ ap (take 4) (drop_at key (drop form.key b) form.key lk) ∙ sym (drop-take form.key 4 b)

  others-same : drop (form.key + 4) anew ≡ drop (form.key + 4) b
  unfolding anew
  others-same = sym (drop-drop 4 form.key anew) ∙ ap (drop 4) (drop_at key (drop form.key b) form.key lk) ∙ drop-drop 4 form.key b

  key-new : number (take form.key (take (form.key + 4) anew)) ≡ number key
  unfolding anew
  key-new = ap number (take-take form.key (form.key + 4) anew (omega arith) ∙ take_at key (drop form.key b) form.key lk)

  pub anew-entries : entries_of form (suc rest) (key ++ drop form.key b) ≡ with_low (number key) (entries_of form (suc rest) b)
  unfolding anew
  anew-entries =
      ap (λ (k : ℕ). (k, from_be_bytes w32 (drop form.key (take (form.key + 4) anew))) ∷ map (entry_of form.key) (chop (form.key + 4) rest (drop (form.key + 4) anew))) key-new
      ∙ ap (λ (c : List ℕ). (number key, from_be_bytes w32 c) ∷ map (entry_of form.key) (chop (form.key + 4) rest (drop (form.key + 4) anew))) child-same
      ∙ ap (λ (c : List ℕ). (number key, from_be_bytes w32 (drop form.key (take (form.key + 4) b))) ∷ map (entry_of form.key) (chop (form.key + 4) rest c)) others-same

pub key-first : (form : Form) (rest : ℕ) (b : List ℕ) (high : ℕ) → next_key high (entries_of form (suc rest) b) ≡ number (take form.key b)
key-first form rest b high = ap number (take-take form.key (form.key + 4) b (omega arith))

-- cells that are to be the first of a page: their first key becomes zeros, and the page's lower bound stands in its place
pub entries-zeroed : (form : Form) (rest : ℕ) (b : List ℕ) → (form.key + 4) * suc rest ≤ length b
    → entries_of form (suc rest) (replicate form.key 0 ++ drop form.key b) ≡ with_low 0 (entries_of form (suc rest) b)
entries-zeroed form rest b long =
    anew-entries form rest (replicate form.key 0) b long (length-replicate form.key 0) ∙ ap (λ (k : ℕ). with_low k (entries_of form (suc rest) b)) (number-zeros form.key)

pub zeroed-entries : (form : Form) (rest : ℕ) (b : List ℕ) → (form.key + 4) * suc rest ≤ length b
    → entries_of form (suc rest) b ≡ with_low (number (take form.key b)) (entries_of form (suc rest) (replicate form.key 0 ++ drop form.key b))
zeroed-entries form rest b long =
    let m : ℕ = number (take form.key b) in
    let ys : List Entry = entries_of form (suc rest) b in
    sym (ap (with_low m) (entries-zeroed form rest b long) ∙ with_low-twice m 0 ys ∙ with_low-own m ys 0 (omega arith) (key-first form rest b 0))
