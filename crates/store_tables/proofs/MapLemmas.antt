-- What is found in entries after one was put or taken out.
use Rattle.std.proofs.Common.{◌≡◌, Bool, true, false, cond, List, [], ◌∷◌, Option, Some, None, refl, sym, ap, ◌∙◌}
use Rattle.std.proofs.lemmas.Cmp.{nat_cmp_total, nat_list_cmp_total, tied_itself}
use Rattle.std.proofs.lemmas.Map.{lookup-remove_entry}
use Rattle.std.proofs.lemmas.Map.Keys.{IsDistinct-from_sorted}
use Rattle.std.specs.BTreeMap.{insert_entry, is_at}
use Rattle.std.specs.Cmp.{IsTotalOrder, eq_by_cmp_equiv}
use Rattle.std.specs.FinMap.{nat_cmp-IsAntisymmetric, slice_cmp-IsAntisymmetric}
use Rattle.std.specs.List.Sorted.{IsStrictlySortedBy}
use Rattle.std.specs.Map.{keys_of, lookup, remove_entry}
use Rattle.std.specs.Ordering.{is_eq, match_ordering, nat_cmp}
use Rattle.std.specs.declared.cmp.Ordering.{Ordering}
use Rattle.std.specs.declared.cmp.Ordering.TheVariants.{Less, Equal, Greater}
use Rattle.spatial_base.specs.Key.{key_cmp, key_cmp_same, key_cmp_total}
use Rattle.store_tables.specs.Entries.{word_cmp}

-- a total order in which only equal keys tie
pub record IsOrder {K : Type 0} (cmp : K → K → Ordering) : Type 0 where
  pub total : IsTotalOrder cmp
  pub same : (a b : K) → cmp a b ≡ Equal → a ≡ b

pub numbers_are_ordered : IsOrder nat_cmp
numbers_are_ordered = record { total = nat_cmp_total; same = nat_cmp-IsAntisymmetric }

pub words_are_ordered : IsOrder word_cmp
words_are_ordered = record { total = nat_list_cmp_total; same = slice_cmp-IsAntisymmetric nat_cmp-IsAntisymmetric }

pub keys_are_ordered : IsOrder key_cmp
keys_are_ordered = record { total = key_cmp_total; same = key_cmp_same }

tie_from_test : (o : Ordering) → is_eq o ≡ true → o ≡ Equal
tie_from_test Less e = absurd (cc)
tie_from_test Equal e = refl
tie_from_test Greater e = absurd (cc)

-- a key that is found is the one that was asked for
pub same_from_test : {K : Type 0} {cmp : K → K → Ordering} → IsOrder cmp → (a b : K) → is_at (cmp a) b ≡ true → a ≡ b
same_from_test {K} {cmp} order a b e = order.same a b (tie_from_test (cmp a b) e)

-- and that one is found
pub test_of_same : {K : Type 0} {cmp : K → K → Ordering} → IsOrder cmp → (a b : K) → a ≡ b → is_at (cmp a) b ≡ true
test_of_same {K} {cmp} order a b e = ap (λ (k : K). is_at (cmp a) k) (sym e) ∙ ap is_eq (tied_itself order.total a)

merged : {V : Type 0} (b : Bool) (x y rest : Option V) → cond b x rest ≡ cond b x (cond b y rest)
merged true x y rest = refl
merged false x y rest = refl

swapped : {V : Type 0} (b c : Bool) (x y rest : Option V) → (b ≡ true → c ≡ true → ⊥) → cond b x (cond c y rest) ≡ cond c y (cond b x rest)
swapped true true x y rest apart = absurd (apart refl refl)
swapped true false x y rest apart = refl
swapped false c x y rest apart = refl

-- what is found after an entry was put
pub lookup-insert : {K V : Type 0} {cmp : K → K → Ordering} → IsOrder cmp → (q k : K) (v : V) (es : List (K × V))
    → lookup (is_at (cmp q)) (insert_entry cmp es k v) ≡ cond (is_at (cmp q) k) (Some v) (lookup (is_at (cmp q)) es)
lookup-insert order q k v [] = refl
lookup-insert {K} {V} {cmp} order q k v (e ∷ es) =
    let test = is_at (cmp q) in
    elim (cmp k e.0) as (λ o. cmp k e.0 ≡ o → lookup test (match_ordering o ((k, v) ∷ (e ∷ es)) ((e.0, v) ∷ es) (e ∷ insert_entry cmp es k v)) ≡ cond (test k) (Some v) (cond (test e.0) (Some e.1) (lookup test es))) [
      | Less ↦ λ _. refl
      | Equal ↦ λ tie. merged (test e.0) (Some v) (Some e.1) (lookup test es) ∙ ap (λ (key : K). cond (test key) (Some v) (cond (test e.0) (Some e.1) (lookup test es))) (sym (order.same k e.0 tie))
      | Greater ↦ λ over. ap (λ (r : Option V). cond (test e.0) (Some e.1) r) (lookup-insert order q k v es)
          ∙ swapped (test e.0) (test k) (Some e.1) (Some v) (lookup test es) (λ there here.
          let tie : cmp k e.0 ≡ Equal = ap (λ (key : K). cmp key e.0) (sym (same_from_test order q k here) ∙ same_from_test order q e.0 there) ∙ tied_itself order.total e.0 in
          let no : ⊥ = cc (tie, over) in no)
    ] refl

-- what is found after an entry was taken out
pub lookup-remove : {K V : Type 0} {cmp : K → K → Ordering} → IsOrder cmp → (q k : K) (es : List (K × V)) → IsStrictlySortedBy cmp (keys_of es)
    → lookup (is_at (cmp q)) (remove_entry (is_at (cmp k)) es) ≡ cond (is_at (cmp k) q) None (lookup (is_at (cmp q)) es)
lookup-remove {K} {V} {cmp} order q k es sorted =
    lookup-remove_entry (eq_by_cmp_equiv order.total) (is_at (cmp k)) (λ x y here. ap (λ (key : K). is_at (cmp key) y) (same_from_test order k x here)) q es (IsDistinct-from_sorted cmp (keys_of es) sorted)
