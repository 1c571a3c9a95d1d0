-- The rows of a map, each of which is named or isn't.
use Rattle.std.proofs.Common.{◌≡◌, ◌⊎◌, ℕ, ◌+◌, ◌^◌, ◌<◌, ◌≤◌, List, [], ◌∷◌, Option, Some, None, Bool, true, false, get_or, take, arith, refl, sym, ap, ◌∙◌, subst, inl, inr, ⊎_elim}
use Rattle.std.specs.Prelude.{if◌then◌else◌, ◌==◌, option_map, IfNone, IfSome, MatchOption}
use Rattle.std.specs.List.{All, Contains}
use Rattle.std.proofs.lemmas.Bool.{cases_lt, cases_Bool, eqb-true, false≢true}
use Rattle.std.proofs.lemmas.List.{get_or_default, take_all}
use Rattle.std.proofs.lemmas.List.Elements.{All-head, All-more, All-tail, Contains-get_or}
use Rattle.page_face.specs.FreeList.{are_zero}
use Rattle.page_face.specs.Nodes.{count_of}
use Rattle.page_face.specs.declared.fault.Damage.{Damage}
use Rattle.btree_nodes.specs.Nodes.{rows_in}
use Rattle.btree_nodes.specs.Rows.{Row, IsWithin, lookup}
use Rattle.btree_nodes.proofs.Spans.{no_row}
use Rattle.btree_nodes.proofs.Spots.{length-rows_in}
use Rattle.paged_map.proofs.Rows.{lookup-at}
use Rattle.rtree_nodes.specs.Stock.{rows_form}
use Rattle.node_rows.specs.declared.key.RowKey.{RowKey}
use Rattle.node_rows.specs.Rows.{key_of, bytes_of, byte_in, AreFilled, IsFilled}
use Rattle.node_rows.proofs.Bytes.{node-same, bytes-small, bytes-large}
use Rattle.tree_check.specs.Names.{AreNamed, IsFound, IsNamed, IsStray, IsUnnamed, row_damage, row_of}
use Rattle.tree_check.specs.declared.rows.WordRow.{WordRow}

-- a row that is found is the first one or a later one
lookup-cases : (key : ℕ) (row : Row) (rows : List Row) (value : List ℕ) → lookup key (row ∷ rows) ≡ Some value → ((row.0 ≡ key) × (row.1 ≡ value)) ⊎ (lookup key rows ≡ Some value)
lookup-cases key row rows value e = ⊎_elim
    (λ (t : (row.0 == key) ≡ true). let f : Some row.1 ≡ Some value = ap (λ (b : Bool). if b then Some row.1 else lookup key rows) (sym t) ∙ e in let g : row.1 ≡ value = cc in inl (eqb-true row.0 key t, g))
    (λ (f : (row.0 == key) ≡ false). inr (ap (λ (b : Bool). if b then Some row.1 else lookup key rows) (sym f) ∙ e))
    (cases_Bool (row.0 == key))

-- a row that is one of those that are named is named
pub named-all : (rows : List Row) (nodes : ℕ → ℕ) → All (λ (row : Row). IsNamed nodes row.0 row.1) rows → AreNamed rows nodes
named-all [] nodes named key value held = absurd (cc)
named-all (row ∷ rows) nodes named key value held = ⊎_elim
    (λ (h : (row.0 ≡ key) × (row.1 ≡ value)). subst (λ (v : List ℕ). IsNamed nodes key v) h.1 (subst (λ (k : ℕ). IsNamed nodes k row.1) h.0 (All-head (λ (r : Row). IsNamed nodes r.0 r.1) row rows named)))
    (λ (h : lookup key rows ≡ Some value). named-all rows nodes (All-tail (λ (r : Row). IsNamed nodes r.0 r.1) row rows named) key value h)
    (lookup-cases key row rows value held)

-- a row is named whose node is one of the tree, and which isn't all zeros
pub named-row : (nodes : ℕ → ℕ) (row : WordRow) → row.key.number < 2 ^ 64 → nodes row.key.node ≡ 1 → are_zero row.bytes ≡ false → IsNamed nodes (row_of row).0 (row_of row).1
named-row nodes row small node some = record {
  some = some;
  node = λ n w e s. ap nodes (node-same n row.key.node w row.key.number s small (sym e)) ∙ node;
}

-- one row more of a leaf is named
pub named-more : (page : List ℕ) (at : ℕ) (nodes : ℕ → ℕ) (row : WordRow) → at < count_of page → get_or (rows_in rows_form page) at (0, []) ≡ row_of row → row.key.number < 2 ^ 64
    → nodes row.key.node ≡ 1 → are_zero row.bytes ≡ false
    → All (λ (r : Row). IsNamed nodes r.0 r.1) (take at (rows_in rows_form page)) → All (λ (r : Row). IsNamed nodes r.0 r.1) (take (at + 1) (rows_in rows_form page))
named-more page at nodes row inside is small node some named =
    All-more (λ (r : Row). IsNamed nodes r.0 r.1) (rows_in rows_form page) at (0, []) (let long = length-rows_in rows_form page in omega arith) named
    (subst (λ (r : Row). IsNamed nodes r.0 r.1) (sym is) (named-row nodes row small node some))

-- a row of a leaf that isn't named is found
pub stray-row : (page : List ℕ) (at : ℕ) (nodes : ℕ → ℕ) (row : WordRow) → at < count_of page → get_or (rows_in rows_form page) at (0, []) ≡ row_of row → row.key.number < 2 ^ 64
    → (nodes row.key.node ≡ 0) ⊎ (are_zero row.bytes ≡ true) → IsStray (rows_in rows_form page) nodes row.key
stray-row page at nodes row inside is small wrong = record {
  small = small;
  value = row.bytes;
  held = subst (Contains (rows_in rows_form page)) is (Contains-get_or (rows_in rows_form page) at (0, []) (let long = length-rows_in rows_form page in omega arith));
  wrong = wrong;
}

-- all rows of a leaf
pub named-whole : (page : List ℕ) (count : ℕ) (nodes : ℕ → ℕ) → count ≡ count_of page → All (λ (r : Row). IsNamed nodes r.0 r.1) (take count (rows_in rows_form page)) → All (λ (r : Row). IsNamed nodes r.0 r.1) (rows_in rows_form page)
named-whole page count nodes e named = subst (All (λ (r : Row). IsNamed nodes r.0 r.1)) (take_all count (rows_in rows_form page) (let long = length-rows_in rows_form page in omega arith)) named

-- among rows in the order of their keys, a row that isn't named is what is looked up at its key
pub stray-unnamed : (low high : ℕ) (rows : List Row) (nodes : ℕ → ℕ) (key : RowKey) → IsWithin low high rows → IsStray rows nodes key → IsUnnamed rows nodes (row_damage key)
stray-unnamed low high rows nodes key within stray =
    let row : Row = (key_of key.node key.number, stray.value) in
    let at : ℕ = stray.held.0 in
    let is : get_or rows at no_row ≡ row = get_or_default rows at no_row row stray.held.1 ∙ stray.held.2 in
    record {
      node = key.node;
      word = key.number;
      small = stray.small;
      named = refl;
      value = stray.value;
      held = subst (λ (r : Row). lookup r.0 rows ≡ Some r.1) is (lookup-at low high rows at within stray.held.1);
      wrong = stray.wrong;
    }

-- rows that are named have none that isn't
pub unnamed-apart : (rows : List Row) (nodes : ℕ → ℕ) (damage : Damage) → IsUnnamed rows nodes damage → AreNamed rows nodes → ⊥
unnamed-apart rows nodes damage wrong named =
    let is = named (key_of wrong.node wrong.word) wrong.value wrong.held in
    ⊎_elim
    (λ (none : nodes wrong.node ≡ 0). let one = is.node wrong.node wrong.word refl wrong.small in omega arith)
    (λ (zeros : are_zero wrong.value ≡ true). false≢true (sym is.some ∙ zeros))
    wrong.wrong

-- what a search finds decides whether all rows are named
module _ (low high : ℕ) (rows : List Row) (nodes : ℕ → ℕ) (within : IsWithin low high rows) (Whole : Type 0) (Broken : Damage → Type 0) (whole : Whole) where
  pub found-decides : (stray : Option RowKey) (found : Option Damage) → found ≡ option_map row_damage stray → IsFound rows nodes stray
      → MatchOption found (Whole × AreNamed rows nodes) (λ damage. Broken damage ⊎ (Whole × IsUnnamed rows nodes damage))
  found-decides None found e named =
      subst (λ (o : Option Damage). MatchOption o (Whole × AreNamed rows nodes) (λ damage. Broken damage ⊎ (Whole × IsUnnamed rows nodes damage))) (sym e) (whole, named-all rows nodes named)
  found-decides (Some key) found e stray =
      subst (λ (o : Option Damage). MatchOption o (Whole × AreNamed rows nodes) (λ damage. Broken damage ⊎ (Whole × IsUnnamed rows nodes damage))) (sym e)
      (inr (whole, stray-unnamed low high rows nodes key within stray))

  pub found-exact : (stray : Option RowKey) (found : Option Damage) → found ≡ option_map row_damage stray → IsFound rows nodes stray → IfSome found (λ damage. Whole × AreNamed rows nodes → ⊥)
  found-exact None found e named = subst (λ (o : Option Damage). IfSome o (λ damage. Whole × AreNamed rows nodes → ⊥)) (sym e) tt
  found-exact (Some key) found e stray = subst (λ (o : Option Damage). IfSome o (λ damage. Whole × AreNamed rows nodes → ⊥)) (sym e)
      (λ both. unnamed-apart rows nodes (row_damage key) (stray-unnamed low high rows nodes key within stray) both.1)

-- what is so in any case is so where there is none
pub none-any : {X Y : Type 0} (o : Option X) → Y → IfNone o Y
none-any None y = y
none-any (Some x) y = tt

-- a page that is none of the nodes has no byte
pub unnamed-bytes : (rows : List Row) (nodes : ℕ → ℕ) → AreNamed rows nodes → (n w i : ℕ) → nodes n ≡ 0 → bytes_of rows n w i ≡ 0
unnamed-bytes rows nodes named n w i none = ⊎_elim
    (λ (l : w < 2 ^ 64). bytes-small rows n w i l ∙ by (lookup (key_of n w) rows) l refl)
    (λ (l : 2 ^ 64 ≤ w). bytes-large rows n w i l)
    (cases_lt w (2 ^ 64))
  where
    by : (o : Option (List ℕ)) → w < 2 ^ 64 → lookup (key_of n w) rows ≡ o → byte_in o i ≡ 0
    by None l e = refl
    by (Some value) l e = let h = named (key_of n w) value e in let k = h.node n w refl l in absurd (omega arith)

-- no row is all zeros
pub named-filled : (rows : List Row) (nodes : ℕ → ℕ) → AreNamed rows nodes → AreFilled rows
named-filled rows nodes named key = by (lookup key rows) refl
  where
    by : (o : Option (List ℕ)) → lookup key rows ≡ o → IsFilled o
    by None e = tt
    by (Some value) e = let h = named key value e in h.some
