-- Rows that are right at each node of a well-formed tree, each of which names a node, are those of the places.
use Rattle.std.proofs.Common.{◌≡◌, ℕ, zero, suc, ◌+◌, ◌^◌, ◌<◌, ◌≤◌, ◌++◌, ◌==◌, ⊎_elim, if◌then◌else◌, Option, Some, None, List, [], ◌∷◌, Bool, true, false, length, map, take, drop, refl, sym, ap, subst, ◌∙◌, arith}
use Rattle.std.specs.List.{All, AllByRecursion, flat_map}
use Rattle.std.proofs.lemmas.Bool.{cases_Bool, cases_eq, cases_lt}
use Rattle.std.proofs.lemmas.List.{get_or_past, length-drop, length-take}
use Rattle.page_face.specs.Causes.{IsUncounted}
use Rattle.page_face.specs.Cells.{chop}
use Rattle.page_face.specs.FreeList.{PageMap}
use Rattle.page_face.specs.Nodes.{count_of}
use Rattle.page_face.specs.declared.head.Head.{Head}
use Rattle.spatial_base.specs.Key.{Name}
use Rattle.row_codec.specs.declared.stored.Stored.{Stored}
use Rattle.btree_nodes.specs.Nodes as maps
use Rattle.btree_nodes.specs.Rows.{Row, lookup}
use Rattle.btree_nodes.specs.Tree.{IsMap, level_of, map_rows, rows_at}
use Rattle.rtree_nodes.specs.Pages.{level_in, node_of, slots_in}
use Rattle.rtree_nodes.specs.Slots.{Item, NodeMap, NodeView}
use Rattle.rtree_nodes.specs.Stock.{rows_form}
use Rattle.rtree_nodes.specs.Trees.{node_uses as uses_at, uses}
use Rattle.rtree_nodes.specs.Whole as plain
use Rattle.rtree_nodes.proofs.Formed.{form-node}
use Rattle.node_rows.specs.Impacts.{top_at}
use Rattle.node_rows.specs.Rows.{Bytes, byte_in, bytes_in, key_of}
use Rattle.node_rows.proofs.Bytes.{bytes-large, bytes-small}
use Rattle.tree_check.specs.Nodes.{chained, listed, node_pages, pages_below, tree_pages}
use Rattle.store_tables.specs.Coded.{IsPlaceEntry}
use Rattle.tree_check.specs.Agreement.{AreRight, IsNodePage, IsRight}
use Rattle.tree_check.specs.Names.{AreNamed}
use Rattle.tree_check.proofs.Joined.{all-chained, all-parts}
use Rattle.tree_check.proofs.Listed.{tree-listed}
use Rattle.tree_check.proofs.Named.{named-filled, unnamed-bytes}
use Rattle.store_verify.specs.Tree.{AreRowsOf, node_uses, plain_nodes, word_impact}
use Rattle.store_verify.proofs.Joins.{amount-some, got-some, one-cases, used-within}
use Rattle.store_verify.proofs.LeafEntries.{found-impact}

-- ---- rows of the rows' map have no byte after the last slot

-- the rows have 32 bytes at most
abbrev AreShort : List Row → Type 0
AreShort rows = AllByRecursion (λ (row : Row). length row.1 ≤ 32) rows

join-short : (xs ys : List Row) → AreShort xs → AreShort ys → AreShort (xs ++ ys)
join-short [] ys a b = b
join-short (x ∷ xs) ys a b = (a.0, join-short xs ys a.1 b)

-- a cell's value is what comes after its key
cells-short : (key width n : ℕ) (bytes : List ℕ) → width ≤ key + 32 → AreShort (map (maps.row_of key) (chop width n bytes))
cells-short key width zero bytes fits = tt
cells-short key width (suc n) bytes fits = (
  (let cell = length-take width bytes in let value = length-drop key (take width bytes) in omega arith),
  cells-short key width n (drop width bytes) fits,
)

leaf-short : (page : List ℕ) → AreShort (maps.rows_in rows_form page)
unfolding maps.rows_in
leaf-short page = cells-short 12 44 (count_of page) (drop 16 page) (omega arith)

children-short : (below : ℕ → List Row) → ((page : ℕ) → AreShort (below page)) → (es : List maps.Entry) → AreShort (flat_map (λ (e : maps.Entry). below e.1) es)
children-short below each [] = tt
children-short below each (e ∷ es) = join-short (below e.1) (flat_map (λ (d : maps.Entry). below d.1) es) (each e.1) (children-short below each es)

rows-short : (pages : PageMap) (level page : ℕ) → AreShort (rows_at rows_form pages level page)
rows-short pages zero page = leaf-short (pages page)
rows-short pages (suc level) page = children-short (rows_at rows_form pages level) (λ c. rows-short pages level c) (maps.entries_in rows_form (pages page))

map-short : (pages : PageMap) (root : ℕ) → AreShort (map_rows rows_form pages root)
map-short pages zero = tt
map-short pages (suc n) = rows-short pages (level_of (pages (suc n))) (suc n)

-- so a row has no byte at a slot from 32 on
found-short : (key i : ℕ) (rows : List Row) → 32 ≤ i → AreShort rows → byte_in (lookup key rows) i ≡ 0
found-short key i [] past short = refl
found-short key i (row ∷ rows) past short = ⊎_elim
    (λ (t : (row.0 == key) ≡ true). ap (λ (c : Bool). byte_in (if c then Some row.1 else lookup key rows) i) t ∙ get_or_past row.1 i 0 (let s = short.0 in omega arith))
    (λ (f : (row.0 == key) ≡ false). ap (λ (c : Bool). byte_in (if c then Some row.1 else lookup key rows) i) f ∙ found-short key i rows past short.1)
    (cases_Bool (row.0 == key))

past-byte : (pages : PageMap) (root n w i : ℕ) → 32 ≤ i → bytes_in pages root n w i ≡ 0
past-byte pages root n w i past = ⊎_elim
    (λ (small : w < 2 ^ 64). bytes-small (map_rows rows_form pages root) n w i small ∙ found-short (key_of n w) i (map_rows rows_form pages root) past (map-short pages root))
    (λ (large : 2 ^ 64 ≤ w). bytes-large (map_rows rows_form pages root) n w i large)
    (cases_lt w (2 ^ 64))

-- ---- what holds of all pages of a tree holds of each that it uses

module _ (pages : PageMap) (P : ℕ → Type 0) where
  abbrev p : NodeMap
  p = plain_nodes pages

  node-each : (level page n : ℕ) → AllByRecursion P (node_pages p level page) → 0 < uses_at p level page n → P n
  node-each zero page n all used =
      let f : ℕ → List ℕ = λ k. listed (λ y. pages_below p zero y) ((p page).slots k) in
      let parts = all-parts P (chained 32 f) (page ∷ []) all in
      ⊎_elim
      (λ own. subst P (sym own) parts.1.0)
      (λ other.
      let at = amount-some (λ y. uses p zero y n) (p page).slots (omega arith) in
      let item = got-some (λ y. uses p zero y n) ((p page).slots at.0) at.2 in
      let none = item.2 in
      absurd (omega arith))
      (one-cases page n)
  node-each (suc level) page n all used =
      let f : ℕ → List ℕ = λ k. listed (λ y. pages_below p (suc level) y) ((p page).slots k) in
      let parts = all-parts P (chained 32 f) (page ∷ []) all in
      ⊎_elim
      (λ own. subst P (sym own) parts.1.0)
      (λ other.
      let at = amount-some (λ y. uses p (suc level) y n) (p page).slots (omega arith) in
      let item = got-some (λ y. uses p (suc level) y n) ((p page).slots at.0) at.2 in
      let below : AllByRecursion P (node_pages p level item.0.to) =
      subst (λ (o : Option Item). AllByRecursion P (listed (λ y. pages_below p (suc level) y) o)) item.1 (all-chained P 32 f parts.0 at.0 at.1) in
      node-each level item.0.to n below item.2)
      (one-cases page n)

  tree-each : (root n : ℕ) → AllByRecursion P (tree_pages pages root) → 0 < plain.tree_uses node_of pages root n → P n
  tree-each zero n all used = absurd (omega arith)
  tree-each (suc m) n all used = node-each (node_of (pages (suc m))).level (suc m) n all used

-- ---- slots of a page that is right

module _ (b : Bytes) (places : List (Name × Stored)) where
  -- no word at a slot that isn't used
  none-right : (level : ℕ) (impacts : ℕ → ℕ) (o : Option Item) → o ≡ None → IsRight b places level impacts o → (w : ℕ) → impacts w ≡ 0
  none-right level impacts o is right = subst (IsRight b places level impacts) is right

  -- the impacts of a leaf's item are those of its key's place
  place-right : (level : ℕ) (impacts : ℕ → ℕ) (o : Option Item) (x : Item) → All IsPlaceEntry places → level ≡ 0 → o ≡ Some x → IsRight b places level impacts o → (w : ℕ) → impacts w ≡ word_impact places w x.key
  place-right level impacts o x formed leaf is right w =
      let own : IsRight b places zero impacts (Some x) = subst (λ (k : ℕ). IsRight b places k impacts (Some x)) leaf (subst (IsRight b places level impacts) is right) in
      let entry = own.entry in
      own.words w ∙ sym (ap (λ (y : Item). word_impact places w y.key) entry.is ∙ found-impact w entry.key entry.stored places entry.name formed entry.held)

  -- and those of an inner node's item the greatest bytes of its child
  child-right : (level : ℕ) (impacts : ℕ → ℕ) (o : Option Item) (x : Item) → 0 < level → o ≡ Some x → IsRight b places level impacts o → (w : ℕ) → impacts w ≡ top_at b x.to w
  child-right zero impacts o x inner is right w = absurd (omega arith)
  child-right (suc level) impacts o x inner is right w = (subst (IsRight b places (suc level) impacts) is right) w

-- ---- the rows of the tree

-- rows that are right at each node of a well-formed tree, each of which names a node, are those of the places
pub rows-whole : (head : Head) (pages : PageMap) (count : ℕ) (places : List (Name × Stored)) → plain.IsWell node_of pages head.tree → IsMap rows_form pages head.rows
    → All IsPlaceEntry places
    → ((n : ℕ) → IsUncounted count n → node_uses head pages n ≡ 0)
    → AllByRecursion (AreRight pages head.rows places) (tree_pages pages head.tree)
    → AreNamed (map_rows rows_form pages head.rows) (node_uses head pages)
    → AreRowsOf head pages places
rows-whole head pages count places well rows formed counted right named = record {
  impacts = λ n used leaf w i x is. place-right (bytes_in pages head.rows) places (level_in (pages n)) (λ v. bytes_in pages head.rows n v i) (slots_in (pages n) i) x formed (sym (used-level n used) ∙ leaf) is
      (used-right n used i (used-within (pages n) i x is)) w;
  greatest = λ n used inner w i x is. child-right (bytes_in pages head.rows) places (level_in (pages n)) (λ v. bytes_in pages head.rows n v i) (slots_in (pages n) i) x
      (let same = used-level n used in omega arith) is (used-right n used i (used-within (pages n) i x is)) w;
  filled = named-filled (map_rows rows_form pages head.rows) (node_uses head pages) named;
  blank = λ n w i none. ⊎_elim (λ gone. unused n w i gone) (λ some. used-blank n (omega arith) w i none) (cases_eq (node_uses head pages n) 0);
  named = unused;
}
  where
    -- a page of the tree is right
    used-right : (n : ℕ) → 0 < node_uses head pages n → AreRight pages head.rows places n
    used-right n used = tree-each pages (AreRight pages head.rows places) head.tree n right used

    -- and its bytes have its node's level
    used-level : (n : ℕ) → 0 < node_uses head pages n → (node_of (pages n)).level ≡ level_in (pages n)
    used-level n used =
        let node = tree-each pages (IsNodePage pages count) head.tree n (tree-listed pages count head.tree well counted) used in
        ap (λ (v : NodeView). v.level) (form-node (pages n) node.form)

    -- no byte is at a slot of it that isn't used
    used-blank : (n : ℕ) → 0 < node_uses head pages n → (w i : ℕ) → slots_in (pages n) i ≡ None → bytes_in pages head.rows n w i ≡ 0
    used-blank n used w i none = ⊎_elim
        (λ (inside : i < 32). none-right (bytes_in pages head.rows) places (level_in (pages n)) (λ v. bytes_in pages head.rows n v i) (slots_in (pages n) i) none (used-right n used i inside) w)
        (λ (past : 32 ≤ i). past-byte pages head.rows n w i past)
        (cases_lt i 32)

    -- nor at a page that the tree doesn't use
    unused : (n w i : ℕ) → node_uses head pages n ≡ 0 → bytes_in pages head.rows n w i ≡ 0
    unused n w i none = unnamed-bytes (map_rows rows_form pages head.rows) (node_uses head pages) named n w i none
