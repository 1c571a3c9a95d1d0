-- Entries in the order of their keys: with one more, with one less, and with other values.
use Rattle.std.proofs.Common.{◌≡◌, ◌+◌, ◌≤◌, Bool, true, false, cond, ◌&&◌, T, List, [], ◌∷◌, length, map, Some, option_map, refl, sym, ap, subst, ◌∙◌, arith}
use Rattle.std.specs.BTreeMap.{insert_entry, is_at}
use Rattle.std.specs.Cmp.{IsTotalOrder}
use Rattle.std.specs.FinMap.Entries.{find, is_sorted, below_all, same_entries}
use Rattle.std.specs.List.{AllByRecursion}
use Rattle.std.specs.List.Sorted.{IsStrictlySortedBy}
use Rattle.std.specs.Map.{keys_of, lookup, remove_entry}
use Rattle.std.specs.Ordering.{is_eq, is_lt, match_ordering, ordering_reverse}
use Rattle.std.specs.declared.cmp.Ordering.{Ordering}
use Rattle.std.specs.declared.cmp.Ordering.TheVariants.{Less, Equal, Greater}
use Rattle.store_tables.proofs.MapLemmas.{IsOrder}

-- ---- in order

-- a key below another is below all that the other is below
pub below_behind : {K : Type 0} {cmp : K → K → Ordering} → IsTotalOrder cmp → (k m : K) (ks : List K) → cmp k m ≡ Less → AllByRecursion (λ y. cmp m y ≡ Less) ks → AllByRecursion (λ y. cmp k y ≡ Less) ks
below_behind order k m [] less all = tt
below_behind order k m (x ∷ ks) less all = (order.trans k m x less all.0, below_behind order k m ks less all.1)

-- what holds of a new key and of each key holds of all of them
each_inserted : {K V : Type 0} (cmp : K → K → Ordering) (P : K → Type 0) (k : K) (v : V) (es : List (K × V)) → P k → AllByRecursion P (keys_of es) → AllByRecursion P (keys_of (insert_entry cmp es k v))
each_inserted cmp P k v [] here all = (here, tt)
each_inserted {K} {V} cmp P k v (e ∷ es) here all =
    elim (cmp k e.0) as (λ o. AllByRecursion P (keys_of (match_ordering o ((k, v) ∷ (e ∷ es)) ((e.0, v) ∷ es) (e ∷ insert_entry cmp es k v)))) [
      | Less ↦ (here, all)
      | Equal ↦ all
      | Greater ↦ (all.0, each_inserted cmp P k v es here all.1)
    ]

-- entries in order with one more are in order
pub sorted-insert : {K V : Type 0} {cmp : K → K → Ordering} → IsTotalOrder cmp → (k : K) (v : V) (es : List (K × V)) → IsStrictlySortedBy cmp (keys_of es) → IsStrictlySortedBy cmp (keys_of (insert_entry cmp es k v))
unfolding IsStrictlySortedBy
sorted-insert order k v [] sorted = (tt, tt)
sorted-insert {K} {V} {cmp} order k v (e ∷ es) sorted =
    elim (cmp k e.0) as (λ o. cmp k e.0 ≡ o → IsStrictlySortedBy cmp (keys_of (match_ordering o ((k, v) ∷ (e ∷ es)) ((e.0, v) ∷ es) (e ∷ insert_entry cmp es k v)))) [
      | Less ↦ λ less. ((less, below_behind order k e.0 (keys_of es) less sorted.0), sorted)
      | Equal ↦ λ equal. sorted
      | Greater ↦ λ over. (each_inserted cmp (λ y. cmp e.0 y ≡ Less) k v es (order.antisymm e.0 k ∙ ap ordering_reverse over) sorted.0, sorted-insert order k v es sorted.1)
    ] refl

-- what holds of each key holds of all but one
each_left : {K V : Type 0} (P : K → Type 0) (test : K → Bool) (es : List (K × V)) → AllByRecursion P (keys_of es) → AllByRecursion P (keys_of (remove_entry test es))
each_left P test [] all = tt
each_left {K} {V} P test (e ∷ es) all =
    elim (test e.0) as (λ b. AllByRecursion P (keys_of (cond b es (e ∷ remove_entry test es)))) [
      | true ↦ all.1
      | false ↦ (all.0, each_left P test es all.1)
    ]

-- and so are those with one less
pub sorted-remove : {K V : Type 0} (cmp : K → K → Ordering) (test : K → Bool) (es : List (K × V)) → IsStrictlySortedBy cmp (keys_of es) → IsStrictlySortedBy cmp (keys_of (remove_entry test es))
unfolding IsStrictlySortedBy
sorted-remove cmp test [] sorted = tt
sorted-remove {K} {V} cmp test (e ∷ es) sorted =
    elim (test e.0) as (λ b. IsStrictlySortedBy cmp (keys_of (cond b es (e ∷ remove_entry test es)))) [
      | true ↦ sorted.1
      | false ↦ (each_left (λ y. cmp e.0 y ≡ Less) test es sorted.0, sorted-remove cmp test es sorted.1)
    ]

-- two tests that hold
both : (a b : Bool) → T a → T b → T (a && b)
both true b p q = q
both false b p q = p

-- a key below all others, as a test
below_test : {K V : Type 0} (cmp : K → K → Ordering) (k : K) (es : List (K × V)) → AllByRecursion (λ y. cmp k y ≡ Less) (keys_of es) → T (below_all cmp k es)
below_test cmp k [] all = tt
below_test cmp k (e ∷ es) all = both _ _ (subst (λ o. T (is_lt o)) (sym all.0) tt) (below_test cmp k es all.1)

-- entries in order, as a test
sorted_test : {K V : Type 0} (cmp : K → K → Ordering) (es : List (K × V)) → IsStrictlySortedBy cmp (keys_of es) → T (is_sorted cmp es)
unfolding IsStrictlySortedBy
sorted_test cmp [] sorted = tt
sorted_test cmp (e ∷ es) sorted = both _ _ (below_test cmp e.0 es sorted.0) (sorted_test cmp es sorted.1)

-- finding is looking up
find_is : {K V : Type 0} (cmp : K → K → Ordering) (q : K) (es : List (K × V)) → find cmp q es ≡ lookup (is_at (cmp q)) es
find_is cmp q [] = refl
find_is cmp q (e ∷ es) = ap (cond (is_eq (cmp q e.0)) (Some e.1)) (find_is cmp q es)

-- entries in order that have the same at each key are the same
pub same_from_lookups : {K V : Type 0} {cmp : K → K → Ordering} → IsOrder cmp → (es fs : List (K × V)) → IsStrictlySortedBy cmp (keys_of es) → IsStrictlySortedBy cmp (keys_of fs)
    → ((q : K) → lookup (is_at (cmp q)) es ≡ lookup (is_at (cmp q)) fs) → es ≡ fs
same_from_lookups {K} {V} {cmp} order es fs left right alike =
    same_entries cmp order.total order.same es fs (sorted_test cmp es left) (sorted_test cmp fs right) (λ q. find_is cmp q es ∙ alike q ∙ sym (find_is cmp q fs))

-- ---- how many

-- at most one entry more
pub length-insert : {K V : Type 0} (cmp : K → K → Ordering) (k : K) (v : V) (es : List (K × V)) → length (insert_entry cmp es k v) ≤ length es + 1
length-insert cmp k v [] = omega arith
length-insert {K} {V} cmp k v (e ∷ es) =
    let rest = length-insert cmp k v es in
    elim (cmp k e.0) as (λ o. length (match_ordering o ((k, v) ∷ (e ∷ es)) ((e.0, v) ∷ es) (e ∷ insert_entry cmp es k v)) ≤ length (e ∷ es) + 1) [
      | Less ↦ omega arith
      | Equal ↦ omega arith
      | Greater ↦ omega arith
    ]

-- ---- other values

-- what is found among other values is the other value of what is found
pub lookup-map : {K V W : Type 0} (f : V → W) (test : K → Bool) (es : List (K × V)) → lookup test (map (λ (e : K × V). (e.0, f e.1)) es) ≡ option_map f (lookup test es)
lookup-map f test [] = refl
lookup-map {K} {V} {W} f test (e ∷ es) =
    elim (test e.0) as (λ b. cond b (Some (f e.1)) (lookup test (map (λ (d : K × V). (d.0, f d.1)) es)) ≡ option_map f (cond b (Some e.1) (lookup test es))) [
      | true ↦ refl
      | false ↦ lookup-map f test es
    ]
