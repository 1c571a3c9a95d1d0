-- Sums over the entries that places have in a tree: with a place put, and with one taken out.
use Rattle.std.proofs.Common.{◌≡◌, ℕ, ◌+◌, inl, inr, Bool, true, false, cond, List, [], ◌∷◌, Option, Some, None, option_map, refl, sym, ap, subst, ◌∙◌, true≢false, arith}
use Rattle.std.proofs.lemmas.List.Sums.{sum_by-cons}
use Rattle.std.specs.BTreeMap.{is_at}
use Rattle.std.proofs.lemmas.List.Elements.{All-head, All-tail}
use Rattle.std.specs.List.{All, AllByRecursion}
use Rattle.std.specs.List.Sorted.{IsStrictlySortedBy}
use Rattle.std.specs.Map.{keys_of}
use Rattle.std.specs.Ordering.{is_eq, match_ordering, ordering_reverse}
use Rattle.std.specs.declared.cmp.Ordering.{Ordering}
use Rattle.std.specs.declared.cmp.Ordering.TheVariants.{Less, Equal, Greater}
use Rattle.page_face.specs.FreeList.{PageMap}
use Rattle.page_face.specs.declared.head.Head.{Head}
use Rattle.spatial_base.specs.Key.{IsName, Name, form_of, key_cmp, key_cmp_total}
use Rattle.spatial_base.specs.Point.{Position}
use Rattle.row_codec.specs.declared.stored.Stored.{Stored}
use Rattle.row_codec.specs.Stored.{held_pairs}
use Rattle.node_rows.specs.Impacts.{impact_in}
use Rattle.rtree_nodes.specs.Slots.{Item, got}
use Rattle.rtree_nodes.proofs.Heights.{none_or}
use Rattle.rtree_nodes.specs.Pages.{node_of}
use Rattle.rtree_nodes.specs.Entries.{is_entry}
use Rattle.rtree_nodes.proofs.Entries.{entry-is}
use Rattle.irtree_shape.specs.Made.{nodes_in}
use Rattle.irtree_shape.specs.Entries.{has_impact}
use Rattle.irtree_shape.proofs.Entries.{entry-counts, impact-none, other-none}
use Rattle.irtree_shape.specs.Entries.{HasEntry, entry_at}
use Rattle.store_tables.specs.Coded.{IsPlaceEntry}
use Rattle.store_tables.specs.Entries.{Entries, place_of_key, with_place, without_place}
use Rattle.store_tables.proofs.KeyLemmas.{form-same}
use Rattle.store_tables.proofs.MapLemmas.{keys_are_ordered, same_from_test}
use Rattle.store_model.specs.Stands.{TreeStands, entry_sum}
use Rattle.store_model.proofs.Ordered.{below_behind}

-- ---- put and taken out

-- the entry that a place at a key has, where there is one
abbrev pub entry_of : Name → Option Stored → Option Item
entry_of key found = option_map (entry_at key) found

module _ (key : Name) (f : Item → ℕ) where
  -- the sum with one place more in front
  sum-cons : (e : Name × Stored) (places : List (Name × Stored)) → entry_sum f (e ∷ places) ≡ f (entry_at e.0 e.1) + entry_sum f places
  sum-cons e places = sum_by-cons (λ (d : Name × Stored). f (entry_at d.0 d.1)) e places

  -- a key below all others isn't found
  absent : (places : List (Name × Stored)) → AllByRecursion (λ k. key_cmp key k ≡ Less) (keys_of places) → place_of_key key places ≡ None
  absent [] all = refl
  absent (e ∷ places) all = ap (λ (o : Ordering). cond (is_eq o) (Some e.1) (place_of_key key places)) all.0 ∙ absent places all.1

  -- with a place put: more by its entry, less by that of the place before
  pub sum-with : (stored : Stored) (places : List (Name × Stored)) → IsStrictlySortedBy key_cmp (keys_of places)
      → entry_sum f (with_place key stored places) + got f (entry_of key (place_of_key key places)) ≡ entry_sum f places + f (entry_at key stored)
  unfolding IsStrictlySortedBy
  sum-with stored [] sorted = omega (arith, sum-cons (key, stored) [])
  sum-with stored (e ∷ places) sorted = by (key_cmp key e.0) refl (sum-with stored places sorted.1)
    where
      by : (o : Ordering) → key_cmp key e.0 ≡ o → entry_sum f (with_place key stored places) + got f (entry_of key (place_of_key key places)) ≡ entry_sum f places + f (entry_at key stored)
          → entry_sum f (match_ordering o ((key, stored) ∷ (e ∷ places)) ((e.0, stored) ∷ places) (e ∷ with_place key stored places)) + got f (entry_of key (cond (is_eq o) (Some e.1) (place_of_key key places)))
          ≡ entry_sum f (e ∷ places) + f (entry_at key stored)
      by Less less rest =
          let none : got f (entry_of key (place_of_key key places)) ≡ 0 = ap (λ (found : Option Stored). got f (entry_of key found)) (absent places (below_behind key_cmp_total key e.0 (keys_of places) less sorted.0)) in
          omega (arith, none, sum-cons (key, stored) (e ∷ places))
      by Equal equal rest =
          let same : key ≡ e.0 = keys_are_ordered.same key e.0 equal in
          let new : f (entry_at key stored) ≡ f (entry_at e.0 stored) = ap (λ (k : Name). f (entry_at k stored)) same in
          let gone : f (entry_at key e.1) ≡ f (entry_at e.0 e.1) = ap (λ (k : Name). f (entry_at k e.1)) same in
          omega (arith, new, gone, sum-cons (e.0, stored) places, sum-cons e places)
      by Greater greater rest = omega (arith, rest, sum-cons e (with_place key stored places), sum-cons e places)

  -- with the key's place taken out: less by its entry
  pub sum-without : (places : List (Name × Stored)) → entry_sum f (without_place key places) + got f (entry_of key (place_of_key key places)) ≡ entry_sum f places
  sum-without [] = refl
  sum-without (e ∷ places) = by (is_at (key_cmp key) e.0) refl (sum-without places)
    where
      by : (b : Bool) → is_at (key_cmp key) e.0 ≡ b → entry_sum f (without_place key places) + got f (entry_of key (place_of_key key places)) ≡ entry_sum f places
          → entry_sum f (cond b places (e ∷ without_place key places)) + got f (entry_of key (cond b (Some e.1) (place_of_key key places))) ≡ entry_sum f (e ∷ places)
      by true here rest =
          let gone : f (entry_at key e.1) ≡ f (entry_at e.0 e.1) = ap (λ (k : Name). f (entry_at k e.1)) (same_from_test keys_are_ordered key e.0 here) in
          omega (arith, gone, sum-cons e places)
      by false other rest = omega (arith, rest, sum-cons e (without_place key places), sum-cons e places)

-- ---- the entry of a place

self_tie : (o : Ordering) → o ≡ ordering_reverse o → o ≡ Equal
self_tie Less e = absurd (cc)
self_tie Equal e = refl
self_tie Greater e = absurd (cc)

-- a key ties with itself
tied : (a b : Name) → a ≡ b → key_cmp a b ≡ Equal
tied a b e = ap (λ (k : Name). key_cmp a k) (sym e) ∙ self_tie (key_cmp a a) (key_cmp_total.antisymm a a)

module _ (key : Name) (f : Item → ℕ) (others : (k : Name) (s : Stored) → IsName k → (k ≡ key → ⊥) → f (entry_at k s) ≡ 0) where
  -- the places behind a key
  sum_behind : (m : Name) → m ≡ key → (places : List (Name × Stored)) → All IsPlaceEntry places → AllByRecursion (λ k. key_cmp m k ≡ Less) (keys_of places) → entry_sum f places ≡ 0
  sum_behind m is [] each all = refl
  sum_behind m is (e ∷ places) each all =
      let named = (All-head IsPlaceEntry e places each).0 in
      let here = others e.0 e.1 named (λ same. (let equal = tied m e.0 (is ∙ sym same) in let less = all.0 in absurd (cc))) in
      let rest = sum_behind m is places (All-tail IsPlaceEntry e places each) all.1 in
      omega (arith, here, rest, sum-cons key f e places)

  -- where only the key's own entry counts, the places count as it does
  sum_alone : (places : List (Name × Stored)) → All IsPlaceEntry places → IsStrictlySortedBy key_cmp (keys_of places) → entry_sum f places ≡ got f (entry_of key (place_of_key key places))
  unfolding IsStrictlySortedBy
  sum_alone [] each sorted = refl
  sum_alone (e ∷ places) each sorted = by (is_at (key_cmp key) e.0) refl (sum_alone places (All-tail IsPlaceEntry e places each) sorted.1)
    where
      by : (b : Bool) → is_at (key_cmp key) e.0 ≡ b → entry_sum f places ≡ got f (entry_of key (place_of_key key places)) → entry_sum f (e ∷ places) ≡ got f (entry_of key (cond b (Some e.1) (place_of_key key places)))
      by true here rest =
          let same : key ≡ e.0 = same_from_test keys_are_ordered key e.0 here in
          let own : f (entry_at key e.1) ≡ f (entry_at e.0 e.1) = ap (λ (k : Name). f (entry_at k e.1)) same in
          let none = sum_behind e.0 (sym same) places (All-tail IsPlaceEntry e places each) sorted.0 in
          omega (arith, own, none, sum-cons key f e places)
      by false apart rest =
          let named = (All-head IsPlaceEntry e places each).0 in
          let none = others e.0 e.1 named (λ same. (let equal = tied key e.0 (sym same) in let test : is_at (key_cmp key) e.0 ≡ true = ap is_eq equal in absurd (true≢false (sym test ∙ apart)))) in
          omega (arith, rest, none, sum-cons key f e places)

-- a key that a place was found at is a key's
found_name : (key : Name) (stored : Stored) (places : List (Name × Stored)) → All IsPlaceEntry places → place_of_key key places ≡ Some stored → IsName key
found_name key stored [] each found = absurd (cc)
found_name key stored (e ∷ places) each found = by (is_at (key_cmp key) e.0) refl (λ is. found_name key stored places (All-tail IsPlaceEntry e places each) is) found
  where
    by : (b : Bool) → is_at (key_cmp key) e.0 ≡ b → (place_of_key key places ≡ Some stored → IsName key) → cond b (Some e.1) (place_of_key key places) ≡ Some stored → IsName key
    by true here rest is = subst IsName (sym (same_from_test keys_are_ordered key e.0 here)) (All-head IsPlaceEntry e places each).0
    by false apart rest is = rest is

-- the entry of another key isn't this key's
other_key : (point : Position) (key k : Name) (s : Stored) → IsName key → IsName k → (k ≡ key → ⊥) → is_entry point (form_of key) (entry_at k s) ≡ 0
other_key point key k s named also apart = elim (none_or (is_entry point (form_of key) (entry_at k s))) [
  | inl none ↦ none
  | inr some ↦ absurd (apart (form-same k key also named (entry-is point (form_of key) (entry_at k s) some).key_is))
]

-- a tree that stands for the entries has that of each place, with its words and no others
pub place-has : (head : Head) (pages : PageMap) (entries : Entries) (uses : ℕ → ℕ) (key : Name) (stored : Stored) → TreeStands head pages entries uses → All IsPlaceEntry entries.places → IsStrictlySortedBy key_cmp (keys_of entries.places)
    → place_of_key key entries.places ≡ Some stored → HasEntry (nodes_in node_of pages head.rows) head.tree key stored
place-has head pages entries uses key stored stands each sorted is =
    let point : Position = stored.point in
    let form : List ℕ = form_of key in
    let named : IsName key = found_name key stored entries.places each is in
    let alone = λ (f : Item → ℕ) (others : (k : Name) (s : Stored) → IsName k → (k ≡ key → ⊥) → f (entry_at k s) ≡ 0).
    stands.entries_are f ∙ sum_alone key f others entries.places each sorted ∙ ap (λ (found : Option Stored). got f (entry_of key found)) is in
    record {
      there = (let one = alone (is_entry point form) (λ k s also apart. other_key point key k s named also apart) in let counts = entry-counts point form (impact_in (held_pairs stored)) in omega (arith, one, counts));
      words = λ w c apart. alone (has_impact point form w c) (λ k s also other. other-none point form w c (entry_at k s) (other_key point key k s named also other)) ∙ impact-none point form (impact_in (held_pairs stored)) w c apart;
    }
