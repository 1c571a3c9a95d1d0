-- What a look-up in the rows' map finds.
use Rattle.std.proofs.Common.{◌≡◌, ℕ, ◌+◌, ◌*◌, ◌^◌, ◌<◌, ◌≤◌, Option, Some, None, List, false, arith, sym, ap, subst, ◌∙◌}
use Rattle.std.specs.Prelude.{IfSome}
use Rattle.page_face.specs.FreeList.{PageMap, are_zero}
use Rattle.btree_nodes.specs.Rows.{Row, lookup, first_from}
use Rattle.btree_nodes.specs.Tree.{IsMap, map_rows, map_uses}
use Rattle.paged_map.specs.Answers.{HoldsRow, Locates}
use Rattle.rtree_nodes.specs.Stock.{rows_form}
use Rattle.node_rows.specs.Rows.{AreFilled, HasBytes, byte_in, bytes_in, key_of}
use Rattle.node_rows.specs.Turns.{IsNext, Next}
use Rattle.node_rows.proofs.Bytes.{bytes-small, first-filled, next-away, next-here, next-none}
use Rattle.node_rows.proofs.Told.{map-within}

-- no page is named: what is wanted isn't there
pub located-none : {X : Type 0} (wanted : Option X) (found : X) (Holds : ℕ → Type 0) (at : Option ℕ) → at ≡ None → Locates wanted found Holds at → wanted ≡ None
located-none wanted found Holds None e there = there
located-none wanted found Holds (Some page) e there = absurd (cc)

-- a page is named: what is wanted is what was found
pub located-some : {X : Type 0} (wanted : Option X) (found : X) (Holds : ℕ → Type 0) (at : Option ℕ) (page : ℕ) → at ≡ Some page → Locates wanted found Holds at → wanted ≡ Some found
located-some wanted found Holds None page e there = absurd (cc)
located-some wanted found Holds (Some leaf) page e there = there.0

module _ (pages : PageMap) (root node word key : ℕ) (small : word < 2 ^ 64) (key_is : key ≡ key_of node word) (value : List ℕ) (at : Option ℕ)
    (there : Locates (lookup key (map_rows rows_form pages root)) value (HoldsRow rows_form pages (map_uses rows_form pages root) (key, value)) at) where
  byte-is : (o : Option (List ℕ)) → lookup key (map_rows rows_form pages root) ≡ o → (i : ℕ) → bytes_in pages root node word i ≡ byte_in o i
  byte-is o e i =
      bytes-small (map_rows rows_form pages root) node word i small ∙ ap (λ (k : ℕ). byte_in (lookup k (map_rows rows_form pages root)) i) (sym key_is) ∙ ap (λ (r : Option (List ℕ)). byte_in r i) e

  -- no leaf has the row of a node's word: its bytes are 0
  pub row-none : at ≡ None → (i : ℕ) → bytes_in pages root node word i ≡ 0
  row-none none i = byte-is None (located-none (lookup key (map_rows rows_form pages root)) value (HoldsRow rows_form pages (map_uses rows_form pages root) (key, value)) at none there) i

  -- a leaf has the row
  pub row-some : (leaf : ℕ) → at ≡ Some leaf → HasBytes value (bytes_in pages root node word)
  row-some leaf some i = sym (byte-is (Some value) (located-some (lookup key (map_rows rows_form pages root)) value (HoldsRow rows_form pages (map_uses rows_form pages root) (key, value)) at leaf some there) i)

module _ (pages : PageMap) (root node from key : ℕ) (small : from < 2 ^ 64) (key_is : key ≡ key_of node from) (row : Row) (at : Option ℕ) (map : IsMap rows_form pages root)
    (there : Locates (first_from key (map_rows rows_form pages root)) row (HoldsRow rows_form pages (map_uses rows_form pages root) row) at) where
  -- no row follows in the map
  pub next-lost : at ≡ None → Next (bytes_in pages root) node from None
  next-lost none =
      next-none (map_rows rows_form pages root) 0 (256 ^ rows_form.key) node from small (map-within rows_form pages root map)
      (ap (λ (k : ℕ). first_from k (map_rows rows_form pages root)) (sym key_is) ∙ located-none (first_from key (map_rows rows_form pages root)) row (HoldsRow rows_form pages (map_uses rows_form pages root) row) at none there)

  module _ (leaf n w : ℕ) (some : at ≡ Some leaf) (fits : w < 2 ^ 64) (is : row.0 ≡ key_of n w) where
    first-is : first_from (key_of node from) (map_rows rows_form pages root) ≡ Some (key_of n w, row.1)
    first-is =
        ap (λ (k : ℕ). first_from k (map_rows rows_form pages root)) (sym key_is)
        ∙ located-some (first_from key (map_rows rows_form pages root)) row (HoldsRow rows_form pages (map_uses rows_form pages root) row) at leaf some there
        ∙ ap (λ (k : ℕ). Some (k, row.1)) is

    -- the row that follows is the node's
    pub next-found : n ≡ node → IsNext (bytes_in pages root) node from w row.1
    next-found same = next-here (map_rows rows_form pages root) 0 (256 ^ rows_form.key) node from small (map-within rows_form pages root map) n w row.1 fits first-is same

    -- it isn't all zeros, where no row is
    pub found-filled : AreFilled (map_rows rows_form pages root) → are_zero row.1 ≡ false
    found-filled filled = first-filled 0 (256 ^ rows_form.key) (key_of node from) (key_of n w, row.1) (map_rows rows_form pages root) (map-within rows_form pages root map) filled first-is

    -- the row that follows is another node's
    pub next-passed : (n ≡ node → ⊥) → Next (bytes_in pages root) node from None
    next-passed other = next-away (map_rows rows_form pages root) 0 (256 ^ rows_form.key) node from small (map-within rows_form pages root map) n w row.1 fits first-is other

key-within : (node from n w : ℕ) → n ≡ node → key_of node from ≤ key_of n w → from ≤ w
unfolding key_of
key-within node from n w same h = let t : node * 2 ^ 64 + from ≤ node * 2 ^ 64 + w = subst (λ (k : ℕ). node * 2 ^ 64 + from ≤ k * 2 ^ 64 + w) same h in omega arith

-- where the row that follows is the node's, its word isn't less than the one asked for, on any pages
pub next-on : (at : Option ℕ) (leaf key found node from n w : ℕ) → at ≡ Some leaf → IfSome at (λ page. key ≤ found) → key ≡ key_of node from → found ≡ key_of n w → n ≡ node → from ≤ w
next-on at leaf key found node from n w some on key_is found_is same =
    let less : key ≤ found = subst (λ (o : Option ℕ). IfSome o (λ page. key ≤ found)) some on in
    let two : key_of node from ≤ key_of n w = subst (λ (k : ℕ). k ≤ key_of n w) key_is (subst (λ (k : ℕ). key ≤ k) found_is less) in
    key-within node from n w same two
