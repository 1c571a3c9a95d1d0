-- Rows of words that are changed in memory, leaf by leaf.
use Rattle.std.proofs.Common.{◌≡◌, ℕ, ◌^◌, ◌<◌, max, arith, refl, sym, ap, ◌∙◌, subst, None, List, [], ◌∷◌, ◌++◌, ◌&&◌, ◌==◌, if◌then◌else◌, true, false, slice_index}
use Rattle.std.proofs.Math.Path.{fun_ext}
use Rattle.page_face.specs.FreeList.{PageMap, are_zero}
use Rattle.btree_nodes.specs.declared.form.Form.{Form}
use Rattle.btree_nodes.specs.Nodes.{rows_in}
use Rattle.btree_nodes.specs.Rows.{Row, IsWithin, lookup, put, without}
use Rattle.btree_nodes.specs.Supply.{View}
use Rattle.btree_nodes.proofs.Spans.{within-append}
use Rattle.paged_map.specs.Drafts.{IsDrafted}
use Rattle.paged_map.specs.Maps.{HasBecome}
use Rattle.rtree_nodes.specs.Stock.{rows_form}
use Rattle.node_rows.specs.Rows.{AreFilled, Bytes, IsFilled, byte_in, bytes_of, key_of, only}
use Rattle.node_rows.specs.Turns.{Turns, with_row}
use Rattle.node_rows.specs.Impacts.{impact_at, impact_in, raised}
use Rattle.node_inverted.specs.Drafts.{raised_by}
use Rattle.node_rows.proofs.Lookups.{lookup-put, lookup-put_other, lookup-without, lookup-without_other}
use Rattle.node_rows.proofs.Bytes.{bytes-set, zero-at}

-- the keys of a map's rows ascend, whatever leaf is drafted
pub drafted-within : (form : Form) (pages : PageMap) (root least page low high : ℕ) (bytes : List ℕ) (rows : List Row) → IsDrafted form pages root least page low high bytes rows → IsWithin low high (rows_in form bytes)
    → IsWithin 0 (256 ^ form.key) rows
drafted-within form pages root least page low high bytes rows drafted within =
    let l = drafted.leaf in
    subst (IsWithin 0 (256 ^ form.key)) (sym drafted.is)
    (within-append 0 low (256 ^ form.key) l.front (rows_in form bytes ++ l.back) l.before (within-append low high (256 ^ form.key) (rows_in form bytes) l.back within l.behind))

-- the bytes of rows of which one is put
pub put-bytes : (rows : List Row) (node word : ℕ) (value : List ℕ) (b : Bytes) → word < 2 ^ 64 → bytes_of rows ≡ b → bytes_of (put (key_of node word) value rows) ≡ with_row node word value b
put-bytes rows node word value b small e =
    fun_ext (λ n. fun_ext (λ w. fun_ext (λ i.
    bytes-set rows (put (key_of node word) value rows) node word value small (ap byte_in (lookup-put (key_of node word) value rows)) (λ q k. lookup-put_other (key_of node word) q value rows k) n w i
    ∙ ap (λ (f : Bytes). with_row node word value f n w i) e)))

-- the bytes of rows of which one is taken out
pub without-bytes : (low high : ℕ) (rows : List Row) (node word : ℕ) (value : List ℕ) (b : Bytes) → IsWithin low high rows → word < 2 ^ 64 → are_zero value ≡ true → bytes_of rows ≡ b
    → bytes_of (without (key_of node word) rows) ≡ with_row node word value b
without-bytes low high rows node word value b within small none e =
    let clear : byte_in None ≡ slice_index value = fun_ext (λ i. sym (zero-at value i none)) in
    fun_ext (λ n. fun_ext (λ w. fun_ext (λ i.
    bytes-set rows (without (key_of node word) rows) node word value small (ap byte_in (lookup-without low high (key_of node word) rows within) ∙ clear) (λ q k. lookup-without_other (key_of node word) q rows k) n w i
    ∙ ap (λ (f : Bytes). with_row node word value f n w i) e)))

-- a map that has become that of rows of these bytes
pub turned-become : (before : View) (pages : PageMap) (count first root root' : ℕ) (rows : List Row) (b : Bytes) → AreFilled rows → bytes_of rows ≡ b → HasBecome rows_form before pages count first root root' rows
    → Turns before root pages count first root' b
turned-become before pages count first root root' rows b filled e h = record {
  free = h.free;
  rows = record { kept = h.kept; filled = subst (λ (rs : List Row). (key : ℕ) → IsFilled (lookup key rs)) (sym h.has) filled };
  is = λ n w i. ap (λ (rs : List Row). bytes_of rs n w i) h.has ∙ ap (λ (f : Bytes). f n w i) e;
  moves = h.moves;
}

-- two raises of a slot are one
pub only-max : (node slot : ℕ) (f g : ℕ → ℕ) (n w i : ℕ) → max (only node slot f n w i) (only node slot g n w i) ≡ only node slot (λ v. max (f v) (g v)) n w i
only-max node slot f g n w i = elim ((n == node) && (i == slot)) as (λ b. max (if b then f w else 0) (if b then g w else 0) ≡ (if b then max (f w) (g w) else 0)) [ true ↦ refl | false ↦ refl ]

assoc-swap : (a b c : ℕ) → max (max a b) c ≡ max a (max c b)
assoc-swap a b c = omega arith

-- no pair
pub only-none : (node slot old n w i : ℕ) → old ≡ max old (only node slot (impact_in []) n w i)
only-none node slot old n w i = elim ((n == node) && (i == slot)) as (λ b. old ≡ max old (if b then 0 else 0)) [ true ↦ omega arith | false ↦ omega arith ]

-- pairs one after another raise a slot as all of them
pub raised-all : (node slot : ℕ) (pairs : List (ℕ × ℕ)) (b : Bytes) → raised_by node slot pairs b ≡ raised node slot (impact_in pairs) b
raised-all node slot [] b = fun_ext (λ n. fun_ext (λ w. fun_ext (λ i. only-none node slot (b n w i) n w i)))
raised-all node slot (p ∷ ps) b =
    raised-all node slot ps (raised node slot (impact_at p) b)
    ∙ fun_ext (λ n. fun_ext (λ w. fun_ext (λ i.
    assoc-swap (b n w i) (only node slot (impact_at p) n w i) (only node slot (impact_in ps) n w i) ∙ ap (max (b n w i)) (only-max node slot (impact_in ps) (impact_at p) n w i))))
