-- Entries in the order of their keys, and the rows that a map has of them.
use Rattle.std.proofs.Common.{◌≡◌, ℕ, ◌+◌, ◌<◌, Bool, true, false, cond, not, nat_lt, ◌==◌, eq-eqb, ⊎_elim, List, [], ◌∷◌, map, find, All, Option, Some, IfSome, option_map, refl, sym, ap, ◌∙◌, arith}
use Rattle.std.proofs.lemmas.Bool.{cases_order, ne_eqb, le-ltb, lt-ltb}
use Rattle.std.proofs.lemmas.List.Elements.{All-cons, All-head, All-nil, All-tail}
use Rattle.std.specs.BTreeMap.{insert_entry, is_at}
use Rattle.std.specs.Cmp.{nat_cmp_is}
use Rattle.std.specs.Map.{lookup, remove_entry}
use Rattle.std.specs.Ordering.{nat_cmp, is_eq, is_lt, match_ordering}
use Rattle.std.specs.declared.cmp.Ordering.{Ordering}
use Rattle.std.specs.declared.cmp.Ordering.TheVariants.{Less, Equal, Greater}
use Rattle.btree_nodes.specs.Rows.{Row, put, without}
use Rattle.btree_nodes.specs.Rows as Rows
use Rattle.btree_nodes.proofs.Puts.{put-before, put-here, put-behind}
use Rattle.store_tables.specs.Coded.{row_by, IsEntryOf}

-- a numbering of keys that has their order
pub record IsCoding {K : Type 0} (cmp : K → K → Ordering) (IsKey : K → Type 0) (code : K → ℕ) : Type 0 where
  pub agrees : (a b : K) → IsKey a → IsKey b → cmp a b ≡ nat_cmp (code a) (code b)

less : {m n : ℕ} → m < n → nat_cmp m n ≡ Less
less {m} {n} h = sym (nat_cmp_is m n Less h)

pub level : {m n : ℕ} → m ≡ n → nat_cmp m n ≡ Equal
level {m} {n} h = sym (nat_cmp_is m n Equal h)

greater : {m n : ℕ} → n < m → nat_cmp m n ≡ Greater
greater {m} {n} h = sym (nat_cmp_is m n Greater h)

-- a test of two numbers and of their order
pub equal_test : (m n : ℕ) → (n == m) ≡ is_eq (nat_cmp m n)
equal_test m n = ⊎_elim
    (λ (c : m ≡ n). eq-eqb n m (sym c) ∙ sym (ap is_eq (level c)))
    (⊎_elim
    (λ (c : m < n). ne_eqb n m (λ e. omega arith) ∙ sym (ap is_eq (less c)))
    (λ (c : n < m). ne_eqb n m (λ e. omega arith) ∙ sym (ap is_eq (greater c))))
    (cases_order m n)

below_test : (m n : ℕ) → nat_lt n (m + 1) ≡ not (is_lt (nat_cmp m n))
below_test m n = ⊎_elim
    (λ (c : m ≡ n). lt-ltb n (m + 1) (omega arith) ∙ sym (ap (λ o. not (is_lt o)) (level c)))
    (⊎_elim
    (λ (c : m < n). le-ltb n (m + 1) (omega arith) ∙ sym (ap (λ o. not (is_lt o)) (less c)))
    (λ (c : n < m). lt-ltb n (m + 1) (omega arith) ∙ sym (ap (λ o. not (is_lt o)) (greater c))))
    (cases_order m n)

picked : {X Y : Type 0} (f : X → Y) (c : Bool) (x : X) (there : Option Y) (here : Option X) → there ≡ option_map f here → cond c (Some (f x)) there ≡ option_map f (cond c (Some x) here)
picked f true x there here e = refl
picked f false x there here e = e

-- the value at a key's number is that of the key's entry
pub lookup-rows : {K V : Type 0} (cmp : K → K → Ordering) (IsKey : K → Type 0) (code : K → ℕ) (IsValue : V → Type 0) (value : V → List ℕ) → IsCoding cmp IsKey code
    → (k : K) → IsKey k → (es : List (K × V)) → All (IsEntryOf IsKey IsValue) es → Rows.lookup (code k) (map (row_by code value) es) ≡ option_map value (lookup (is_at (cmp k)) es)
lookup-rows cmp IsKey code IsValue value coding k is [] each = refl
lookup-rows {K} {V} cmp IsKey code IsValue value coding k is (e ∷ es) each =
    let key = (All-head (IsEntryOf IsKey IsValue) e es each).0 in
    let rest = lookup-rows cmp IsKey code IsValue value coding k is es (All-tail (IsEntryOf IsKey IsValue) e es each) in
    let test : (code e.0 == code k) ≡ is_at (cmp k) e.0 = equal_test (code k) (code e.0) ∙ sym (ap is_eq (coding.agrees k e.0 is key)) in
    ap (λ (b : Bool). cond b (Some (value e.1)) (Rows.lookup (code k) (map (row_by code value) es))) test
    ∙ picked value (is_at (cmp k) e.0) e.1 (Rows.lookup (code k) (map (row_by code value) es)) (lookup (is_at (cmp k)) es) rest

-- a row put at a key's number is an entry put at the key
pub put-rows : {K V : Type 0} (cmp : K → K → Ordering) (IsKey : K → Type 0) (code : K → ℕ) (IsValue : V → Type 0) (value : V → List ℕ) → IsCoding cmp IsKey code
    → (k : K) → IsKey k → (v : V) (es : List (K × V)) → All (IsEntryOf IsKey IsValue) es → put (code k) (value v) (map (row_by code value) es) ≡ map (row_by code value) (insert_entry cmp es k v)
put-rows cmp IsKey code IsValue value coding k is v [] each = refl
put-rows {K} {V} cmp IsKey code IsValue value coding k is v (e ∷ es) each =
    let key = (All-head (IsEntryOf IsKey IsValue) e es each).0 in
    let rest = put-rows cmp IsKey code IsValue value coding k is v es (All-tail (IsEntryOf IsKey IsValue) e es each) in
    let rows : List Row = map (row_by code value) es in
    let order = coding.agrees k e.0 is key in
    let made : Ordering → List Row = λ o. map (row_by code value) (match_ordering o ((k, v) ∷ (e ∷ es)) ((e.0, v) ∷ es) (e ∷ insert_entry cmp es k v)) in
    ⊎_elim
    (λ (c : code k ≡ code e.0). put-here (code k) (value v) (row_by code value e) rows (sym c) ∙ (λ i. (c i, value v) ∷ rows) ∙ sym (ap made (order ∙ level c)))
    (⊎_elim
    (λ (c : code k < code e.0). put-before (code k) (value v) (row_by code value e) rows c ∙ sym (ap made (order ∙ less c)))
    (λ (c : code e.0 < code k). put-behind (code k) (value v) (row_by code value e) rows c ∙ ap (λ (l : List Row). row_by code value e ∷ l) rest ∙ sym (ap made (order ∙ greater c))))
    (cases_order (code k) (code e.0))

-- the rows without a key's number are the entries without the key
pub without-rows : {K V : Type 0} (cmp : K → K → Ordering) (IsKey : K → Type 0) (code : K → ℕ) (IsValue : V → Type 0) (value : V → List ℕ) → IsCoding cmp IsKey code
    → (k : K) → IsKey k → (es : List (K × V)) → All (IsEntryOf IsKey IsValue) es → without (code k) (map (row_by code value) es) ≡ map (row_by code value) (remove_entry (is_at (cmp k)) es)
without-rows cmp IsKey code IsValue value coding k is [] each = refl
without-rows {K} {V} cmp IsKey code IsValue value coding k is (e ∷ es) each =
    let key = (All-head (IsEntryOf IsKey IsValue) e es each).0 in
    let rest = without-rows cmp IsKey code IsValue value coding k is es (All-tail (IsEntryOf IsKey IsValue) e es each) in
    let test : (code e.0 == code k) ≡ is_at (cmp k) e.0 = equal_test (code k) (code e.0) ∙ sym (ap is_eq (coding.agrees k e.0 is key)) in
    ap (λ (b : Bool). cond b (map (row_by code value) es) (row_by code value e ∷ without (code k) (map (row_by code value) es))) test
    ∙ dropped (is_at (cmp k) e.0) rest
  where
    dropped : (b : Bool) → without (code k) (map (row_by code value) es) ≡ map (row_by code value) (remove_entry (is_at (cmp k)) es)
        → cond b (map (row_by code value) es) (row_by code value e ∷ without (code k) (map (row_by code value) es)) ≡ map (row_by code value) (cond b es (e ∷ remove_entry (is_at (cmp k)) es))
    dropped true h = refl
    dropped false h = ap (λ (l : List Row). row_by code value e ∷ l) h

-- the first row behind a key's number is the first entry behind the key
pub first-rows : {K V : Type 0} (cmp : K → K → Ordering) (IsKey : K → Type 0) (code : K → ℕ) (IsValue : V → Type 0) (value : V → List ℕ) → IsCoding cmp IsKey code
    → (k : K) → IsKey k → (es : List (K × V)) → All (IsEntryOf IsKey IsValue) es
    → Rows.first_from (code k + 1) (map (row_by code value) es) ≡ option_map (row_by code value) (find (λ (e : K × V). is_lt (cmp k e.0)) es)
first-rows cmp IsKey code IsValue value coding k is [] each = refl
first-rows {K} {V} cmp IsKey code IsValue value coding k is (e ∷ es) each =
    let key = (All-head (IsEntryOf IsKey IsValue) e es each).0 in
    let rest = first-rows cmp IsKey code IsValue value coding k is es (All-tail (IsEntryOf IsKey IsValue) e es each) in
    let test : nat_lt (code e.0) (code k + 1) ≡ not (is_lt (cmp k e.0)) = below_test (code k) (code e.0) ∙ sym (ap (λ o. not (is_lt o)) (coding.agrees k e.0 is key)) in
    ap (λ (b : Bool). cond b (Rows.first_from (code k + 1) (map (row_by code value) es)) (Some (row_by code value e))) test
    ∙ found (is_lt (cmp k e.0)) rest
  where
    found : (b : Bool) → Rows.first_from (code k + 1) (map (row_by code value) es) ≡ option_map (row_by code value) (find (λ (e : K × V). is_lt (cmp k e.0)) es)
        → cond (not b) (Rows.first_from (code k + 1) (map (row_by code value) es)) (Some (row_by code value e)) ≡ option_map (row_by code value) (cond b (Some e) (find (λ (e : K × V). is_lt (cmp k e.0)) es))
    found true h = refl
    found false h = h

-- the first row of all
pub first-row : {K V : Type 0} (code : K → ℕ) (value : V → List ℕ) (e : K × V) (es : List (K × V)) → Rows.first_from 0 (map (row_by code value) (e ∷ es)) ≡ Some (row_by code value e)
first-row code value e es = ap (λ (b : Bool). cond b (Rows.first_from 0 (map (row_by code value) es)) (Some (row_by code value e))) (le-ltb (code e.0) 0 (omega arith))

-- ---- what holds of each entry

-- what holds of each value holds of the one that is found
pub found-each : {K V : Type 0} (IsKey : K → Type 0) (IsValue : V → Type 0) (test : K → Bool) (es : List (K × V)) → All (IsEntryOf IsKey IsValue) es → IfSome (lookup test es) IsValue
found-each IsKey IsValue test [] each = tt
found-each {K} {V} IsKey IsValue test (e ∷ es) each =
    picked_each (test e.0) (All-head (IsEntryOf IsKey IsValue) e es each).1 (found-each IsKey IsValue test es (All-tail (IsEntryOf IsKey IsValue) e es each))
  where
    picked_each : (b : Bool) → IsValue e.1 → IfSome (lookup test es) IsValue → IfSome (cond b (Some e.1) (lookup test es)) IsValue
    picked_each true here rest = here
    picked_each false here rest = rest

-- and of the first that passes
pub first-each : {X : Type 0} (P : X → Type 0) (test : X → Bool) (xs : List X) → All P xs → IfSome (find test xs) P
first-each P test [] each = tt
first-each {X} P test (x ∷ xs) each = picked_each (test x) (All-head P x xs each) (first-each P test xs (All-tail P x xs each))
  where
    picked_each : (b : Bool) → P x → IfSome (find test xs) P → IfSome (cond b (Some x) (find test xs)) P
    picked_each true here rest = here
    picked_each false here rest = rest

-- what holds of a new entry and of those that were there holds of all
pub insert-each : {K V : Type 0} (cmp : K → K → Ordering) (IsKey : K → Type 0) (IsValue : V → Type 0) (k : K) (v : V) (es : List (K × V)) → IsKey k → IsValue v → All (IsEntryOf IsKey IsValue) es
    → All (IsEntryOf IsKey IsValue) (insert_entry cmp es k v)
insert-each cmp IsKey IsValue k v [] is also each = All-cons (IsEntryOf IsKey IsValue) (k, v) [] (is, also) (All-nil (IsEntryOf IsKey IsValue))
insert-each {K} {V} cmp IsKey IsValue k v (e ∷ es) is also each =
    let here = All-head (IsEntryOf IsKey IsValue) e es each in
    let rest = All-tail (IsEntryOf IsKey IsValue) e es each in
    elim (cmp k e.0) as (λ o. All (IsEntryOf IsKey IsValue) (match_ordering o ((k, v) ∷ (e ∷ es)) ((e.0, v) ∷ es) (e ∷ insert_entry cmp es k v))) [
      | Less ↦ All-cons (IsEntryOf IsKey IsValue) (k, v) (e ∷ es) (is, also) each
      | Equal ↦ All-cons (IsEntryOf IsKey IsValue) (e.0, v) es (here.0, also) rest
      | Greater ↦ All-cons (IsEntryOf IsKey IsValue) e (insert_entry cmp es k v) here (insert-each cmp IsKey IsValue k v es is also rest)
    ]

-- what holds of all holds of all but one
pub remove-each : {K V : Type 0} (P : K × V → Type 0) (test : K → Bool) (es : List (K × V)) → All P es → All P (remove_entry test es)
remove-each P test [] each = each
remove-each {K} {V} P test (e ∷ es) each = kept (test e.0) (All-head P e es each) (All-tail P e es each) (remove-each P test es (All-tail P e es each))
  where
    kept : (b : Bool) → P e → All P es → All P (remove_entry test es) → All P (cond b es (e ∷ remove_entry test es))
    kept true here rest gone = rest
    kept false here rest gone = All-cons P e (remove_entry test es) here gone
