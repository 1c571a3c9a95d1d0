-- A leaf's item that is no place's entry is at a key and a point where the place map has none, so it breaks Entry.
use Rattle.std.proofs.Common.{◌≡◌, ℕ, zero, suc, ◌<◌, ◌&&◌, nat_lt, if◌then◌else◌, ⊎_elim, Option, Some, None, List, [], ◌∷◌, Bool, true, false, refl, sym, ap, subst, ◌∙◌, arith}
use Rattle.std.proofs.Math.Path.{fun_ext}
use Rattle.std.specs.List.{All, AllByRecursion}
use Rattle.std.specs.List.Sorted.{IsStrictlySortedBy}
use Rattle.std.specs.Map.{keys_of}
use Rattle.std.specs.BTreeMap.{is_at}
use Rattle.std.specs.Ordering.{is_eq}
use Rattle.std.specs.declared.cmp.Ordering.TheVariants.{Less}
use Rattle.std.proofs.lemmas.Bool.{cases_eq}
use Rattle.std.proofs.lemmas.List.Elements.{All-head, All-tail}
use Rattle.std.proofs.lemmas.List.Sums.{sum_by-cons}
use Rattle.page_face.specs.FreeList.{PageMap}
use Rattle.page_face.specs.declared.fault.Damage.{Damage}
use Rattle.page_store.specs.declared.superblock.Superblock.{Superblock}
use Rattle.spatial_base.specs.Key.{Name, IsName, form_of, key_cmp, key_cmp_same, key_cmp_total}
use Rattle.spatial_base.specs.Point.{Position}
use Rattle.spatial_base.specs.Rect.{rect_of}
use Rattle.row_codec.specs.declared.stored.Stored.{Stored}
use Rattle.rtree_nodes.specs.Cells.{item_in, key_of, point_of}
use Rattle.rtree_nodes.specs.Entries.{is_entry}
use Rattle.rtree_nodes.specs.Pages.{cell_at, is_form, is_used, item_at, level_in, node_of, slots_in, stored_in}
use Rattle.rtree_nodes.specs.Reach.{place_item, reach_of}
use Rattle.rtree_nodes.specs.Slots.{Item, NodeView, Slots}
use Rattle.rtree_nodes.specs.Whole as plain
use Rattle.rtree_nodes.proofs.Entries.{entry-is}
use Rattle.rtree_nodes.proofs.Formed.{form-node, form-slots, other-slots}
use Rattle.irtree_shape.proofs.Entries.{entry-counts}
use Rattle.tree_check.specs.Nodes.{tree_pages}
use Rattle.store_tables.specs.Coded.{IsPlaceEntry}
use Rattle.store_tables.specs.Entries.{Entries, place_of_key}
use Rattle.store_tables.specs.Holding.{Holds}
use Rattle.store_model.specs.Stands.{tables_in}
use Rattle.store_model.proofs.Maps.{ascending-holds}
use Rattle.tree_check.specs.Agreement.{IsEntry, IsFirstWrong, IsMissingAt}
use Rattle.store_verify.specs.Breaks.{IsBroken}
use Rattle.store_verify.specs.Whole.{place_sum}
use Rattle.store_verify.proofs.Entries.{entry-named}
use Rattle.store_verify.proofs.LeafEntries.{less-apart, self_tie, tie_from}
use Rattle.store_verify.proofs.Rows.{bytes-named, root-used}

-- ---- places at their keys

-- each of some places is found at its own key among all
abbrev Owns : List (Name × Stored) → List (Name × Stored) → Type 0
Owns all [] = Unit {0}
Owns all (e ∷ some) = (place_of_key e.0 all ≡ Some e.1) × Owns all some

-- a place of a lower key isn't found
lower-missed : (e f : Name × Stored) (all : List (Name × Stored)) → key_cmp e.0 f.0 ≡ Less → place_of_key f.0 (e ∷ all) ≡ place_of_key f.0 all
lower-missed e f all less = by (is_at (key_cmp f.0) e.0) refl
  where
    by : (t : Bool) → is_at (key_cmp f.0) e.0 ≡ t → (if t then Some e.1 else place_of_key f.0 all) ≡ place_of_key f.0 all
    by true here = absurd (less-apart e.0 f.0 less (sym (key_cmp_same f.0 e.0 (tie_from (key_cmp f.0 e.0) here))))
    by false apart = refl

owns-more : (e : Name × Stored) (all some : List (Name × Stored)) → AllByRecursion (λ y. key_cmp e.0 y ≡ Less) (keys_of some) → Owns all some → Owns (e ∷ all) some
owns-more e all [] less owns = tt
owns-more e all (f ∷ some) less owns = (lower-missed e f all less.0 ∙ owns.0, owns-more e all some less.1 owns.1)

owns-own : (places : List (Name × Stored)) → IsStrictlySortedBy key_cmp (keys_of places) → Owns places places
unfolding IsStrictlySortedBy
owns-own [] sorted = tt
owns-own (e ∷ places) sorted =
    let tied : is_at (key_cmp e.0) e.0 ≡ true = ap is_eq (self_tie (key_cmp e.0 e.0) (key_cmp_total.antisymm e.0 e.0)) in
    (ap (λ (t : Bool). if t then Some e.1 else place_of_key e.0 places) tied, owns-more e places places sorted.0 (owns-own places sorted.1))

-- ---- entries that count

-- points that reach as far to each of the four sides reach as far to all
same-sides : (p q : Position) → reach_of (rect_of p) 0 ≡ reach_of (rect_of q) 0 → reach_of (rect_of p) 1 ≡ reach_of (rect_of q) 1 → reach_of (rect_of p) 2 ≡ reach_of (rect_of q) 2 → reach_of (rect_of p) 3 ≡ reach_of (rect_of q) 3
    → (d : ℕ) → reach_of (rect_of p) d ≡ reach_of (rect_of q) d
same-sides p q a b c e zero = a
same-sides p q a b c e (suc zero) = b
same-sides p q a b c e (suc (suc zero)) = c
same-sides p q a b c e (suc (suc (suc zero))) = e
same-sides p q a b c e (suc (suc (suc (suc d)))) = refl

-- a place that counts as the entry of a point and a key's bytes is that entry's
counted-entry : (all : List (Name × Stored)) (point : Position) (bytes : List ℕ) (e : Name × Stored) → IsName e.0 → place_of_key e.0 all ≡ Some e.1
    → 0 < is_entry point bytes (place_item e.1.point (form_of e.0)) → IsEntry all (place_item point bytes)
counted-entry all point bytes e named held counts =
    let h = entry-is point bytes (place_item e.1.point (form_of e.0)) counts in
    let reach : reach_of (rect_of e.1.point) ≡ reach_of (rect_of point) = fun_ext (same-sides e.1.point point h.side_0 h.side_1 h.side_2 h.side_3) in
    record {
      key = e.0;
      stored = e.1;
      name = named;
      held = held;
      is = ap (λ (r : ℕ → ℕ). record { reach = r; to = 0; key = bytes }) (sym reach) ∙ ap (λ (k : List ℕ). place_item e.1.point k) (sym h.key_is);
    }

-- an entry that is no place's counts for none
none-counts : (all some : List (Name × Stored)) (point : Position) (bytes : List ℕ) → Owns all some → All IsPlaceEntry some → (IsEntry all (place_item point bytes) → ⊥) → place_sum (is_entry point bytes) some ≡ 0
none-counts all [] point bytes owns each missing = refl
none-counts all (e ∷ some) point bytes owns each missing =
    let first : is_entry point bytes (place_item e.1.point (form_of e.0)) ≡ 0 = ⊎_elim (λ none. none)
    (λ counts. absurd (missing (counted-entry all point bytes e (All-head IsPlaceEntry e some each).0 owns.0 (omega arith))))
    (cases_eq (is_entry point bytes (place_item e.1.point (form_of e.0))) 0) in
    let rest = none-counts all some point bytes owns.1 (All-tail IsPlaceEntry e some each) missing in
    let sum = sum_by-cons (λ (d : Name × Stored). is_entry point bytes (place_item d.1.point (form_of d.0))) e some in
    omega arith

-- an entry counts for one
own-counts : (point : Position) (bytes : List ℕ) → is_entry point bytes (place_item point bytes) ≡ 1
unfolding is_entry
own-counts point bytes = entry-counts point bytes (λ w. 0)

-- ---- items of leaves

-- bytes with an item are a node's
item-form : (page : List ℕ) (i : ℕ) (x : Item) → slots_in page i ≡ Some x → is_form page ≡ true
item-form page i x is = by (is_form page) refl
  where
    by : (t : Bool) → is_form page ≡ t → t ≡ true
    by true form = refl
    by false other = let none : slots_in page i ≡ None = ap (λ (s : Slots). s i) (other-slots page other) in absurd (cc)

-- a leaf's item is that of the point and the key in its bytes
leaf-place : (page : List ℕ) (i : ℕ) (x : Item) → level_in page ≡ 0 → slots_in page i ≡ Some x → x ≡ place_item (point_of (cell_at page i)) (key_of (cell_at page i))
unfolding stored_in
leaf-place page i x leaf is =
    test (nat_lt i 32 && is_used page i) (sym (ap (λ (s : Slots). s i) (form-slots page (item-form page i x is))) ∙ is) ∙ ap (λ (l : ℕ). item_in l (cell_at page i)) leaf
  where
    test : (t : Bool) → (if t then Some (item_at page i) else None) ≡ Some x → x ≡ item_at page i
    test true e = cc
    test false e = absurd (cc)

-- ---- what the walk over the rows names

-- an item of a well-formed tree that is no place's entry breaks Entry at page 0
pub missing-named : (block : Superblock) (pages : PageMap) (entries : Entries) (damage : Damage) → Holds pages (tables_in block.head) entries → plain.IsWell node_of pages block.head.tree
    → (first : IsFirstWrong pages block.head.rows entries.places (tree_pages pages block.head.tree) damage)
    → IsMissingAt entries.places (level_in (pages first.page)) (slots_in (pages first.page) first.wrong.at) damage → IsBroken block pages damage
missing-named block pages entries damage holds well first missing = by (level_in (pages first.page)) (slots_in (pages first.page) first.wrong.at) refl refl missing
  where
    by : (level : ℕ) (o : Option Item) → level_in (pages first.page) ≡ level → slots_in (pages first.page) first.wrong.at ≡ o → IsMissingAt entries.places level o damage → IsBroken block pages damage
    by level None leaf is m = absurd m
    by (suc level) (Some x) leaf is m = absurd m
    by zero (Some x) leaf is m =
        let bytes : List ℕ = pages first.page in
        let point : Position = point_of (cell_at bytes first.wrong.at) in
        let key : List ℕ = key_of (cell_at bytes first.wrong.at) in
        let place : x ≡ place_item point key = leaf-place bytes first.wrong.at x leaf is in
        let used = root-used pages block.head.rows entries.places holds.places.each first.page block.head.tree (first.front, first.back, first.is, first.right) in
        let none : place_sum (is_entry point key) entries.places ≡ 0 =
        none-counts entries.places entries.places point key (owns-own entries.places (ascending-holds pages (tables_in block.head) entries holds).places) holds.places.each
        (λ h. m.missing (subst (IsEntry entries.places) (sym place) h)) in
        subst (IsBroken block pages) (sym m.named)
        (entry-named block pages entries holds well first.page used (ap (λ (v : NodeView). v.level) (form-node bytes (item-form bytes first.wrong.at x is)) ∙ leaf) first.wrong.at x is point key
        (ap (is_entry point key) place ∙ own-counts point key) none)

-- what the walk over the rows of a well-formed tree's nodes names is broken
pub row-named : (block : Superblock) (pages : PageMap) (entries : Entries) (damage : Damage) → Holds pages (tables_in block.head) entries → plain.IsWell node_of pages block.head.tree
    → IsFirstWrong pages block.head.rows entries.places (tree_pages pages block.head.tree) damage → IsBroken block pages damage
row-named block pages entries damage holds well first =
    ⊎_elim (λ wrong. bytes-named block pages entries damage holds well first wrong) (λ missing. missing-named block pages entries damage holds well first missing) first.wrong.slot
