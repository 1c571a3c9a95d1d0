-- No two entries of a tree have one key, where it has the entries of the places of tables.
use Rattle.std.proofs.Common.{◌≡◌, ℕ, ◌+◌, ◌≤◌, true, false, cond, List, [], ◌∷◌, All, refl, sym, ap, subst, ◌∙◌, ⊎_elim, arith, sum_by}
use Rattle.std.proofs.lemmas.Cmp.{tied_itself}
use Rattle.std.proofs.lemmas.List.Elements.{All-head, All-tail}
use Rattle.std.proofs.lemmas.List.Sums.{sum_by-cons}
use Rattle.std.specs.List.{AllByRecursion, Contains}
use Rattle.std.specs.List.Sorted.{IsStrictlySortedBy}
use Rattle.std.specs.Map.{keys_of}
use Rattle.std.specs.Ordering.{is_eq}
use Rattle.std.specs.declared.cmp.Ordering.{Ordering}
use Rattle.std.specs.declared.cmp.Ordering.TheVariants.{Less, Equal, Greater}
use Rattle.spatial_base.specs.Key.{Name, form_of, key_cmp, key_cmp_total, key_cmp_same}
use Rattle.row_codec.specs.declared.stored.Stored.{Stored}
use Rattle.page_face.specs.FreeList.{PageMap}
use Rattle.node_rows.specs.declared.roots.Tree.{Tree}
use Rattle.place_values.specs.State.{Contents}
use Rattle.rtree_nodes.specs.Slots.{Item, NodeMap}
use Rattle.rtree_nodes.proofs.Keys.{named}
use Rattle.irtree_shape.specs.Entries.{entry_at}
use Rattle.irtree_shape.specs.Whole.{tree_sum}
use Rattle.node_filter.specs.Entries.{name_of, tree_places}
use Rattle.node_filter.proofs.Places.{tree-sum}
use Rattle.group_search.proofs.Members.{contains-cases, contains-none}
use Rattle.group_sum.specs.Named.{AreNamedOnce}
use Rattle.store_tables.specs.Coded.{IsPlaceEntry}
use Rattle.store_tables.specs.declared.tables.Tables.{Tables}
use Rattle.store_model.specs.Stands.{entry_sum}
use Rattle.store_model.proofs.Maps.{ascending-holds}
use Rattle.best_first.specs.Fits.{nodes_at}
use Rattle.query_execution.proofs.Kept.{AreKept}

-- what is in a list weighs no more than all of it
among-weighs : {X : Type 0} (f : X → ℕ) (xs : List X) (x : X) → Contains xs x → f x ≤ sum_by f xs
among-weighs f [] x among = absurd (contains-none x among)
among-weighs f (z ∷ xs) x among =
    let both = sum_by-cons f z xs in
    ⊎_elim (λ (same : z ≡ x). let here = ap f same in omega (arith, both, here)) (λ (later : Contains xs x). let rest = among-weighs f xs x later in omega (arith, both, rest)) (contains-cases z xs x among)

-- where all of a list weighs at most 1, two in it that weigh 1 are one
weighs-once : {X : Type 0} (f : X → ℕ) (xs : List X) → sum_by f xs ≤ 1 → (x y : X) → Contains xs x → Contains xs y → 1 ≤ f x → 1 ≤ f y → x ≡ y
weighs-once f [] once x y among also some one = absurd (contains-none x among)
weighs-once f (z ∷ xs) once x y among also some one =
    let both = sum_by-cons f z xs in
    ⊎_elim
    (λ (here : z ≡ x). ⊎_elim
    (λ (too : z ≡ y). sym here ∙ too)
    (λ (later : Contains xs y). let head = ap f here in let rest = among-weighs f xs y later in absurd (omega (arith, both, head, rest)))
    (contains-cases z xs y also))
    (λ (later : Contains xs x). ⊎_elim
    (λ (here : z ≡ y). let head = ap f here in let rest = among-weighs f xs x later in absurd (omega (arith, both, head, rest)))
    (λ (too : Contains xs y). weighs-once f xs (omega (arith, both)) x y later too some one)
    (contains-cases z xs y also))
    (contains-cases z xs x among)

-- 1 for a key, and 0 for any other
abbrev keyed : Name → Name → ℕ
keyed key other = cond (is_eq (key_cmp key other)) 1 0

-- 1 for an item of this key
abbrev item_keyed : Name → Item → ℕ
item_keyed key x = keyed key (name_of x)

keyed-itself : (key other : Name) → key ≡ other → 1 ≤ keyed key other
keyed-itself key other same =
    let one : keyed key other ≡ 1 = ap (λ (o : Ordering). cond (is_eq o) 1 0) (ap (key_cmp key) (sym same) ∙ tied_itself key_cmp_total key) in
    omega (arith, one)

module _ (key : Name) (f : Name × Stored → ℕ) (is : (e : Name × Stored) → IsPlaceEntry e → f e ≡ keyed key e.0) where
  -- keys behind this one in their order are other keys
  none-behind : (es : List (Name × Stored)) → All IsPlaceEntry es → AllByRecursion (λ (other : Name). key_cmp key other ≡ Less) (keys_of es) → sum_by f es ≡ 0
  none-behind [] each behind = refl
  none-behind (e ∷ es) each behind =
      let here : f e ≡ 0 = is e (All-head IsPlaceEntry e es each) ∙ ap (λ (o : Ordering). cond (is_eq o) 1 0) behind.0 in
      let rest = none-behind es (All-tail IsPlaceEntry e es each) behind.1 in
      omega (arith, sum_by-cons f e es, here, rest)

  -- at most one of some entries in the order of their keys has this key
  keyed-once : (es : List (Name × Stored)) → All IsPlaceEntry es → IsStrictlySortedBy key_cmp (keys_of es) → sum_by f es ≤ 1
  unfolding IsStrictlySortedBy
  keyed-once [] each sorted = omega arith
  keyed-once (e ∷ es) each sorted = by (key_cmp key e.0) refl sorted.0 (keyed-once es rest sorted.1)
    where
      rest : All IsPlaceEntry es
      rest = All-tail IsPlaceEntry e es each

      here : (o : Ordering) → key_cmp key e.0 ≡ o → f e ≡ cond (is_eq o) 1 0
      here o tied = is e (All-head IsPlaceEntry e es each) ∙ ap (λ (p : Ordering). cond (is_eq p) 1 0) tied

      by : (o : Ordering) → key_cmp key e.0 ≡ o → AllByRecursion (λ (other : Name). key_cmp e.0 other ≡ Less) (keys_of es) → sum_by f es ≤ 1 → sum_by f (e ∷ es) ≤ 1
      by Less tied behind few = let none = here Less tied in omega (arith, sum_by-cons f e es, none)
      by Greater tied behind few = let none = here Greater tied in omega (arith, sum_by-cons f e es, none)
      by Equal tied behind few =
          let same : e.0 ≡ key = sym (key_cmp_same key e.0 tied) in
          let one = here Equal tied in
          let none = none-behind es rest (subst (λ (k : Name). AllByRecursion (λ (other : Name). key_cmp k other ≡ Less) (keys_of es)) same behind) in
          omega (arith, sum_by-cons f e es, one, none)

-- a tree that has the entries of places in the order of their keys has none twice
pub named-once : (nodes : NodeMap) (root : ℕ) (places : List (Name × Stored)) → ((f : Item → ℕ) → tree_sum nodes root f ≡ entry_sum f places)
    → All IsPlaceEntry places → IsStrictlySortedBy key_cmp (keys_of places) → AreNamedOnce nodes root
named-once nodes root places are each sorted x y among also same =
    let key = name_of x in
    let few : entry_sum (item_keyed key) places ≤ 1 =
    keyed-once key (λ (e : Name × Stored). item_keyed key (entry_at e.0 e.1)) (λ e is. ap (λ (k : Name). keyed key k) (named e.0 is.0)) places each sorted in
    let sums : sum_by (item_keyed key) (tree_places nodes root) ≡ entry_sum (item_keyed key) places = sym (tree-sum nodes (item_keyed key) root) ∙ are (item_keyed key) in
    weighs-once (item_keyed key) (tree_places nodes root) (omega (arith, few, sums)) x y among also (keyed-itself key (name_of x) refl) (keyed-itself key (name_of y) same)

-- so it is with a tree over pages that keep the entries
pub kept-named : (pages : PageMap) (count first : ℕ) (tables : Tables) (tree : Tree) (state : Contents) → AreKept pages count first tables tree state → AreNamedOnce (nodes_at pages tree) tree.root
kept-named pages count first tables tree state kept =
    named-once (nodes_at pages tree) tree.root kept.entries.places kept.entries_are kept.holds.places.each (ascending-holds pages tables kept.entries kept.holds).places
