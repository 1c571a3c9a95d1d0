-- Rows that have turned into others.
use Rattle.std.proofs.Common.{◌≡◌, ℕ, ◌^◌, ◌<◌, refl, sym, ap, ◌∙◌, subst, None, List, true, false, slice_index}
use Rattle.std.proofs.Math.Path.{fun_ext}
use Rattle.page_face.specs.FreeList.{PageMap, are_zero}
use Rattle.btree_nodes.specs.Rows.{Row, IsWithin, lookup, put, without}
use Rattle.btree_nodes.specs.Supply.{View, view}
use Rattle.btree_nodes.specs.Tree.{map_rows}
use Rattle.btree_nodes.proofs.Supplies.{moves-further}
use Rattle.paged_map.specs.Maps.{HasBecome}
use Rattle.rtree_nodes.specs.Stock.{rows_form}
use Rattle.node_rows.specs.Rows.{Bytes, IsRows, key_of, byte_in, bytes_in, bytes_of, IsFilled}
use Rattle.node_rows.specs.Turns.{Turns, with_row}
use Rattle.node_rows.proofs.Lookups.{lookup-put, lookup-put_other, lookup-without, lookup-without_other}
use Rattle.node_rows.proofs.Bytes.{bytes-set, filled-put, filled-without, zero-at}

module _ (before : View) (pages : PageMap) (count first root root' node word : ℕ) (value : List ℕ) (small : word < 2 ^ 64) (rows : IsRows before root) where
  pub turned-put : are_zero value ≡ false → HasBecome rows_form before pages count first root root' (put (key_of node word) value (map_rows rows_form before.pages root))
      → Turns before root pages count first root' (with_row node word value (bytes_in before.pages root))
  turned-put some h = record {
    free = h.free;
    rows = record { kept = h.kept; filled = subst (λ (rs : List Row). (key : ℕ) → IsFilled (lookup key rs)) (sym h.has) (filled-put (key_of node word) value (map_rows rows_form before.pages root) some rows.filled) };
    is = λ n w i. ap (λ (rs : List Row). bytes_of rs n w i) h.has
        ∙ bytes-set (map_rows rows_form before.pages root) (put (key_of node word) value (map_rows rows_form before.pages root)) node word value small
        (ap byte_in (lookup-put (key_of node word) value (map_rows rows_form before.pages root)))
        (λ q k. lookup-put_other (key_of node word) q value (map_rows rows_form before.pages root) k) n w i;
    moves = h.moves;
  }

  pub turned-without : (low high : ℕ) → are_zero value ≡ true → IsWithin low high (map_rows rows_form before.pages root) → HasBecome rows_form before pages count first root root' (without (key_of node word) (map_rows rows_form before.pages root))
      → Turns before root pages count first root' (with_row node word value (bytes_in before.pages root))
  turned-without low high none within h = record {
    free = h.free;
    rows = record { kept = h.kept; filled = subst (λ (rs : List Row). (key : ℕ) → IsFilled (lookup key rs)) (sym h.has) (filled-without low high (key_of node word) (map_rows rows_form before.pages root) within rows.filled) };
    is = λ n w i. ap (λ (rs : List Row). bytes_of rs n w i) h.has
        ∙ bytes-set (map_rows rows_form before.pages root) (without (key_of node word) (map_rows rows_form before.pages root)) node word value small
        (ap byte_in (lookup-without low high (key_of node word) (map_rows rows_form before.pages root) within) ∙ clear)
        (λ q k. lookup-without_other (key_of node word) q (map_rows rows_form before.pages root) k) n w i;
    moves = h.moves;
  }
    where
      clear : byte_in None ≡ slice_index value
      clear = fun_ext (λ i. sym (zero-at value i none))

-- one turn after another
pub turns-further : (before : View) (root : ℕ) (mid : PageMap) (count first root' : ℕ) (b : Bytes) (turn : Turns before root mid count first root' b)
    (new : PageMap) (count' first' root'' : ℕ) (d : Bytes) → Turns (view mid count first turn.free) root' new count' first' root'' d → Turns before root new count' first' root'' d
turns-further before root mid count first root' b turn new count' first' root'' d next = record {
  free = next.free;
  rows = next.rows;
  is = next.is;
  moves = moves-further turn.moves next.moves;
}

-- the same, said otherwise
pub turns-as : (before : View) (root : ℕ) (pages : PageMap) (count first root' : ℕ) (b d : Bytes) → ((n w i : ℕ) → b n w i ≡ d n w i)
    → Turns before root pages count first root' b → Turns before root pages count first root' d
turns-as before root pages count first root' b d e turn = record { free = turn.free; rows = turn.rows; is = λ n w i. turn.is n w i ∙ e n w i; moves = turn.moves }

-- nothing has turned
pub turns-same : (before : View) (root : ℕ) → IsRows before root → Turns before root before.pages before.count before.first root (bytes_in before.pages root)
turns-same before root rows = record {
  free = before.free;
  rows = rows;
  is = λ n w i. refl;
  moves = record { supplied = rows.kept.supplied; kept = λ n. refl; others = λ n k l. refl };
}

-- views of the same
pub view-same : (a b : PageMap) (c d e f : ℕ) (free : List ℕ) → a ≡ b → c ≡ d → e ≡ f → view a c e free ≡ view b d f free
view-same a b c d e f free p q r = rw (p, q, r)

-- after a read, the same, said otherwise
pub turned-rest : (before : View) (root : ℕ) (old new : PageMap) (count count' first first' rows : ℕ) (b d : Bytes) → new ≡ old → count' ≡ count → first' ≡ first
    → ((n w i : ℕ) → b n w i ≡ d n w i) → Turns before root old count first rows b → Turns before root new count' first' rows d
turned-rest before root old new count count' first first' rows b d p q r e turn = rw (p, q, r) (turns-as before root old count first rows b d e turn)
