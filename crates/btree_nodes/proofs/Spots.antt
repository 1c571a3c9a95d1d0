-- The cells of a page, and the rows and entries that they are.
use Rattle.std.proofs.Common.{◌≡◌, ℕ, suc, ◌+◌, ◌*◌, ◌<◌, ◌≤◌, List, [], length, get_or, take, drop, arith, sym, ap, ◌∙◌}
use Rattle.std.proofs.Math.Nat.{mul-le-mul_left, mul-suc}
use Rattle.std.specs.Int.{from_be_bytes, w32}
use Rattle.std.proofs.lemmas.List.{drop-drop, drop-take, take-take, get_or-map, length-map}
use Rattle.page_face.specs.Number.{number}
use Rattle.page_face.specs.Cells.{cells, key_at}
use Rattle.btree_nodes.proofs.Chops.{length-chop, get_or-cells}
use Rattle.btree_nodes.specs.declared.form.Form.{Form}
use Rattle.btree_nodes.specs.Rows.{Row}
use Rattle.page_face.specs.Nodes.{count_of}
use Rattle.btree_nodes.specs.Nodes.{Entry, row_of, rows_in, entry_of, entries_in}
use Rattle.btree_nodes.proofs.Fans.{no_entry}
use Rattle.btree_nodes.proofs.Spans.{no_row}

-- a cell of those that fit is within the page
pub fits_at : (width at count : ℕ) → at < count → 16 + width * count ≤ 4096 → 16 + width * at + width ≤ 4096
fits_at width at count h k = omega (arith, mul-le-mul_left {m = suc at} {n = count} width h, mul-suc width at)

-- the bytes of a cell
abbrev pub cell_at : ℕ → List ℕ → ℕ → List ℕ
cell_at width page i = take width (drop (16 + width * i) page)

-- a leaf has as many rows as it says
pub length-rows_in : (form : Form) (page : List ℕ) → length (rows_in form page) ≡ count_of page
unfolding rows_in
length-rows_in form page = length-map (cells (form.key + form.value) (count_of page) page) (row_of form.key) ∙ length-chop (form.key + form.value) (count_of page) (drop 16 page)

-- the row at a place
pub get_or-rows_in : (form : Form) (page : List ℕ) (i : ℕ) → i < count_of page → get_or (rows_in form page) i no_row ≡ row_of form.key (cell_at (form.key + form.value) page i)
unfolding rows_in
get_or-rows_in form page i h =
    get_or-map (row_of form.key) (cells (form.key + form.value) (count_of page) page) i [] no_row (rw (length-chop (form.key + form.value) (count_of page) (drop 16 page)) h)
    ∙ ap (row_of form.key) (get_or-cells (form.key + form.value) (count_of page) page i [] h)

-- its key
pub row-key : (form : Form) (page : List ℕ) (i : ℕ) → i < count_of page → (get_or (rows_in form page) i no_row).0 ≡ key_at form.key (form.key + form.value) page i
row-key form page i h = ap (λ (r : Row). r.0) (get_or-rows_in form page i h) ∙ ap number (take-take form.key (form.key + form.value) (drop (16 + (form.key + form.value) * i) page) (omega arith))

-- an inner page has as many entries as it says
pub length-entries_in : (form : Form) (page : List ℕ) → length (entries_in form page) ≡ count_of page
unfolding entries_in
length-entries_in form page = length-map (cells (form.key + 4) (count_of page) page) (entry_of form.key) ∙ length-chop (form.key + 4) (count_of page) (drop 16 page)

-- the entry at a place
pub get_or-entries_in : (form : Form) (page : List ℕ) (i : ℕ) → i < count_of page → get_or (entries_in form page) i no_entry ≡ entry_of form.key (cell_at (form.key + 4) page i)
unfolding entries_in
get_or-entries_in form page i h =
    get_or-map (entry_of form.key) (cells (form.key + 4) (count_of page) page) i [] no_entry (rw (length-chop (form.key + 4) (count_of page) (drop 16 page)) h)
    ∙ ap (entry_of form.key) (get_or-cells (form.key + 4) (count_of page) page i [] h)

-- its key
pub entry-key : (form : Form) (page : List ℕ) (i : ℕ) → i < count_of page → (get_or (entries_in form page) i no_entry).0 ≡ key_at form.key (form.key + 4) page i
entry-key form page i h = ap (λ (r : Entry). r.0) (get_or-entries_in form page i h) ∙ ap number (take-take form.key (form.key + 4) (drop (16 + (form.key + 4) * i) page) (omega arith))

-- the entry's page, in its cell's last four bytes
pub entry-child : (form : Form) (page : List ℕ) (i : ℕ) → i < count_of page → from_be_bytes w32 (take 4 (drop (16 + (form.key + 4) * i + form.key) page)) ≡ (get_or (entries_in form page) i no_entry).1
entry-child form page i h =
    ap (λ (x : List ℕ). from_be_bytes w32 (take 4 x)) (sym (drop-drop form.key (16 + (form.key + 4) * i) page))
    ∙ ap (from_be_bytes w32) (sym (drop-take form.key 4 (drop (16 + (form.key + 4) * i) page)))
    ∙ ap (λ (r : Entry). r.1) (sym (get_or-entries_in form page i h))
