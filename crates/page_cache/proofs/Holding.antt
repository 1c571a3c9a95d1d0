-- What a cache holds after a page was used, put or taken out.
use Rattle.std.proofs.Common.{◌≡◌, ◌≢◌, ℕ, zero, suc, ◌<◌, ◌≤◌, ◌+◌, ◌-◌, Bool, cond, true, false, List, [], ◌∷◌, length, take, Option, Some, None, Result, Err, option_map, nat_eq, slice_get, Box, refl, sym, ap, ◌∙◌, arith}
use Rattle.std.specs.Option.{is_some, option_map_or}
use Rattle.std.specs.Result.{is_ok, IsOk}
use Rattle.std.specs.Map.{lookup, lookup_entry, remove_entry, set_value, keys_of, AreApart}
use Rattle.std.specs.List.{IsDistinct}
use Rattle.std.specs.Cmp.{nat_eq_equiv}
use Rattle.std.specs.declared.alloc.Global.{Global}
use Rattle.std.proofs.lemmas.Map.{lookup-remove_entry}
use Rattle.std.proofs.lemmas.Bool.{eqb-true, false≢true}
use Rattle.lru.proofs.Pairs.{lookup-lookup_entry}
use Rattle.lru.proofs.CallerLemmas.{Contains-lookup_entry}
use Rattle.lru.specs.LruCache.{lru_cache, promoted, put_entries}
use Rattle.page_cache.specs.Pairs.{Boxes, Pairs, pairs_in, bytes_at, first_bytes, without, to_front, with_first}

-- a page that one test finds the test of another doesn't
apart : (n k : ℕ) → k ≢ n → AreApart (nat_eq n) (nat_eq k)
apart n k ne x is = (elim (nat_eq k x) as (λ b. nat_eq k x ≡ b → b ≡ false) [
  | true ↦ λ t. absurd (ne (eqb-true k x t ∙ sym (eqb-true n x is)))
  | false ↦ λ f. refl
]) refl

-- ---- lists of entries of any value

module _ {V : Type 0} where
  -- a page that a test finds is the one asked for
  found_number : (n : ℕ) (es : List (ℕ × V)) (e : ℕ × V) → lookup_entry (nat_eq n) es ≡ Some e → e.0 ≡ n
  found_number n es e h = sym (eqb-true n e.0 (Contains-lookup_entry (nat_eq n) es e h).1)

  -- a look-up is that of the entry
  by_entry : (test : ℕ → Bool) (es : List (ℕ × V)) → lookup test es ≡ option_map (λ (e : ℕ × V). e.1) (lookup_entry test es)
  by_entry test es = sym (lookup-lookup_entry test es)

  -- another page is found as before once one was taken out
  lookup-other : (n k : ℕ) → k ≢ n → (es : List (ℕ × V)) → lookup (nat_eq k) (remove_entry (nat_eq n) es) ≡ lookup (nat_eq k) es
  lookup-other n k ne [] = refl
  lookup-other n k ne (e ∷ es) = (elim (nat_eq n e.0) as (λ b. nat_eq n e.0 ≡ b → lookup (nat_eq k) (cond b es (e ∷ remove_entry (nat_eq n) es)) ≡ lookup (nat_eq k) (e ∷ es)) [
    | true ↦ λ t. sym (ap (λ (b : Bool). cond b (Some e.1) (lookup (nat_eq k) es)) (apart n k ne e.0 t))
    | false ↦ λ f. ap (λ (o : Option V). cond (nat_eq k e.0) (Some e.1) o) (lookup-other n k ne es)
  ]) refl

  -- where the page isn't there nothing is taken out
  none_removed : (test : ℕ → Bool) (es : List (ℕ × V)) → lookup test es ≡ None → remove_entry test es ≡ es
  none_removed test [] none = refl
  none_removed test (e ∷ es) none = (elim (test e.0) as (λ b. cond b (Some e.1) (lookup test es) ≡ None → cond b es (e ∷ remove_entry test es) ≡ e ∷ es) [
    | true ↦ λ is. absurd (false≢true (ap is_some (sym is)))
    | false ↦ λ is. ap (λ (l : List (ℕ × V)). e ∷ l) (none_removed test es is)
  ]) none

  -- each page has the value that it had
  lookup-promoted : (n k : ℕ) (es : List (ℕ × V)) → lookup (nat_eq k) (promoted (nat_eq n) es) ≡ lookup (nat_eq k) es
  lookup-promoted n k es = by (lookup_entry (nat_eq n) es) refl
    where
      at_front : (e : ℕ × V) → lookup_entry (nat_eq n) es ≡ Some e → (b : Bool) → nat_eq k n ≡ b → lookup (nat_eq k) (e ∷ remove_entry (nat_eq n) es) ≡ lookup (nat_eq k) es
      at_front e h true t =
          let here : nat_eq k e.0 ≡ true = ap (nat_eq k) (found_number n es e h) ∙ t in
          ap (λ (b : Bool). cond b (Some e.1) (lookup (nat_eq k) (remove_entry (nat_eq n) es))) here
          ∙ sym (by_entry (nat_eq k) es ∙ ap (λ (m : ℕ). option_map (λ f. f.1) (lookup_entry (nat_eq m) es)) (eqb-true k n t) ∙ ap (λ (o : Option (ℕ × V)). option_map (λ f. f.1) o) h)
      at_front e h false f =
          let elsewhere : nat_eq k e.0 ≡ false = ap (nat_eq k) (found_number n es e h) ∙ f in
          ap (λ (b : Bool). cond b (Some e.1) (lookup (nat_eq k) (remove_entry (nat_eq n) es))) elsewhere
          ∙ lookup-other n k (λ same. false≢true (sym f ∙ ap (nat_eq k) (sym same) ∙ nat_eq_equiv.refl k)) es

      by : (o : Option (ℕ × V)) → lookup_entry (nat_eq n) es ≡ o → lookup (nat_eq k) (option_map_or (λ e. e ∷ remove_entry (nat_eq n) es) o es) ≡ lookup (nat_eq k) es
      by None h = refl
      by (Some e) h = at_front e h (nat_eq k n) refl

  -- the page that goes first is the one asked for
  first-promoted : (n : ℕ) (es : List (ℕ × V)) → is_some (lookup (nat_eq n) es) ≡ true → option_map (λ e. e.1) (slice_get (promoted (nat_eq n) es) 0) ≡ lookup (nat_eq n) es
  first-promoted n es there = by (lookup_entry (nat_eq n) es) refl ∙ sym (by_entry (nat_eq n) es)
    where
      by : (o : Option (ℕ × V)) → lookup_entry (nat_eq n) es ≡ o → option_map (λ e. e.1) (slice_get (option_map_or (λ e. e ∷ remove_entry (nat_eq n) es) o es) 0) ≡ option_map (λ e. e.1) (lookup_entry (nat_eq n) es)
      by None h = absurd (false≢true (sym (ap is_some (by_entry (nat_eq n) es ∙ ap (λ (o : Option (ℕ × V)). option_map (λ f. f.1) o) h)) ∙ there))
      by (Some e) h = sym (ap (λ (o : Option (ℕ × V)). option_map (λ f. f.1) o) h)

  take_all : (n : ℕ) (es : List (ℕ × V)) → length es ≤ n → take n es ≡ es
  take_all zero [] few = refl
  take_all zero (e ∷ es) few = absurd (omega (arith, few))
  take_all (suc n) [] few = refl
  take_all (suc n) (e ∷ es) few = ap (λ (l : List (ℕ × V)). e ∷ l) (take_all n es (omega (arith, few)))

  -- without an entry that is there the list is one shorter
  length-without : (test : ℕ → Bool) (es : List (ℕ × V)) (e : ℕ × V) → lookup_entry test es ≡ Some e → length (remove_entry test es) + 1 ≡ length es
  length-without test [] e h = absurd (false≢true (ap is_some h))
  length-without test (f ∷ es) e h = (elim (test f.0) as (λ b. cond b (Some f) (lookup_entry test es) ≡ Some e → length (cond b es (f ∷ remove_entry test es)) + 1 ≡ length (f ∷ es)) [
    | true ↦ λ is. omega arith
    | false ↦ λ is. omega (arith, length-without test es e is)
  ]) h

  -- what is put goes first, and only so many entries stay
  put_takes : (es : List (ℕ × V)) (room n : ℕ) (v : V) → length es ≤ room → 0 < room → put_entries nat_eq (lru_cache es room) n v ≡ take room ((n, v) ∷ remove_entry (nat_eq n) es)
  put_takes es zero n v few some = absurd (omega (arith, some))
  put_takes es (suc room) n v few some = by (lookup_entry (nat_eq n) es) refl
    where
      by : (o : Option (ℕ × V)) → lookup_entry (nat_eq n) es ≡ o → option_map_or (λ (e : ℕ × V). (e.0, v) ∷ remove_entry (nat_eq n) es) o ((n, v) ∷ take (suc room - 1) es) ≡ (n, v) ∷ take room (remove_entry (nat_eq n) es)
      by None h =
          let less : suc room - 1 ≡ room = omega arith in
          let none : lookup (nat_eq n) es ≡ None = by_entry (nat_eq n) es ∙ ap (λ (o : Option (ℕ × V)). option_map (λ f. f.1) o) h in
          ap (λ (k : ℕ). (n, v) ∷ take k es) less ∙ ap (λ (l : List (ℕ × V)). (n, v) ∷ take room l) (sym (none_removed (nat_eq n) es none))
      by (Some e) h =
          let shorter = length-without (nat_eq n) es e h in
          ap (λ (k : ℕ). (k, v) ∷ remove_entry (nat_eq n) es) (found_number n es e h)
          ∙ ap (λ (l : List (ℕ × V)). (n, v) ∷ l) (sym (take_all room (remove_entry (nat_eq n) es) (omega (arith, few, shorter))))

  -- a value that is set once its page went first is as one that is put
  set_puts : (es : List (ℕ × V)) (room n : ℕ) (v : V) → is_some (lookup (nat_eq n) es) ≡ true → set_value (nat_eq n) (promoted (nat_eq n) es) v ≡ put_entries nat_eq (lru_cache es room) n v
  set_puts es room n v there = by (lookup_entry (nat_eq n) es) refl
    where
      by : (o : Option (ℕ × V)) → lookup_entry (nat_eq n) es ≡ o
          → set_value (nat_eq n) (option_map_or (λ e. e ∷ remove_entry (nat_eq n) es) o es) v ≡ option_map_or (λ (e : ℕ × V). (e.0, v) ∷ remove_entry (nat_eq n) es) o ((n, v) ∷ take (room - 1) es)
      by None h = absurd (false≢true (sym (ap is_some (by_entry (nat_eq n) es ∙ ap (λ (o : Option (ℕ × V)). option_map (λ f. f.1) o) h)) ∙ there))
      by (Some e) h = ap (λ (b : Bool). cond b ((e.0, v) ∷ remove_entry (nat_eq n) es) (e ∷ set_value (nat_eq n) (remove_entry (nat_eq n) es) v)) (Contains-lookup_entry (nat_eq n) es e h).1

  -- what is found among the first entries is found among all
  lookup-take : (test : ℕ → Bool) (n : ℕ) (es : List (ℕ × V)) (v : V) → lookup test (take n es) ≡ Some v → lookup test es ≡ Some v
  lookup-take test zero es v h = absurd (false≢true (ap is_some h))
  lookup-take test (suc n) [] v h = h
  lookup-take test (suc n) (e ∷ es) v h = (elim (test e.0) as (λ b. cond b (Some e.1) (lookup test (take n es)) ≡ Some v → cond b (Some e.1) (lookup test es) ≡ Some v) [
    | true ↦ λ is. is
    | false ↦ λ is. lookup-take test n es v is
  ]) h

-- ---- pages in boxes and their bytes

value_of : Option (Box (List ℕ) Global) → Option (List ℕ)
value_of o = option_map (λ (b : Box (List ℕ) Global). b.value) o

bytes_of : ℕ × Box (List ℕ) Global → ℕ × List ℕ
bytes_of e = (e.0, e.1.value)

pairs-lookup : (test : ℕ → Bool) (es : Boxes) → lookup test (pairs_in es) ≡ option_map (λ (b : Box (List ℕ) Global). b.value) (lookup test es)
pairs-lookup test [] = refl
pairs-lookup test (e ∷ es) = (elim (test e.0) as (λ b. cond b (Some e.1.value) (lookup test (pairs_in es)) ≡ option_map (λ (b : Box (List ℕ) Global). b.value) (cond b (Some e.1) (lookup test es))) [
  | true ↦ refl
  | false ↦ pairs-lookup test es
])

pairs-entry : (test : ℕ → Bool) (es : Boxes) → lookup_entry test (pairs_in es) ≡ option_map (λ (e : ℕ × Box (List ℕ) Global). (e.0, e.1.value)) (lookup_entry test es)
pairs-entry test [] = refl
pairs-entry test (e ∷ es) = (elim (test e.0) as (λ b. cond b (Some (e.0, e.1.value)) (lookup_entry test (pairs_in es)) ≡ option_map (λ (f : ℕ × Box (List ℕ) Global). (f.0, f.1.value)) (cond b (Some e) (lookup_entry test es))) [
  | true ↦ refl
  | false ↦ pairs-entry test es
])

pub pairs-remove : (test : ℕ → Bool) (es : Boxes) → pairs_in (remove_entry test es) ≡ remove_entry test (pairs_in es)
pairs-remove test [] = refl
pairs-remove test (e ∷ es) = (elim (test e.0) as (λ b. pairs_in (cond b es (e ∷ remove_entry test es)) ≡ cond b (pairs_in es) ((e.0, e.1.value) ∷ remove_entry test (pairs_in es))) [
  | true ↦ refl
  | false ↦ ap (λ (l : Pairs). (e.0, e.1.value) ∷ l) (pairs-remove test es)
])

pairs-take : (n : ℕ) (es : Boxes) → pairs_in (take n es) ≡ take n (pairs_in es)
pairs-take zero es = refl
pairs-take (suc n) [] = refl
pairs-take (suc n) (e ∷ es) = ap (λ (l : Pairs). (e.0, e.1.value) ∷ l) (pairs-take n es)

some-value : (o : Option (Box (List ℕ) Global)) → is_some (option_map (λ (b : Box (List ℕ) Global). b.value) o) ≡ is_some o
some-value None = refl
some-value (Some b) = refl

-- whether a page is there
pub pairs-found : (n : ℕ) (es : Boxes) → is_some (bytes_at n (pairs_in es)) ≡ is_some (lookup (nat_eq n) es)
pairs-found n es = ap is_some (pairs-lookup (nat_eq n) es) ∙ some-value (lookup (nat_eq n) es)

-- a page that isn't there has no bytes
pub pairs-none : (n : ℕ) (es : Boxes) → lookup (nat_eq n) es ≡ None → bytes_at n (pairs_in es) ≡ None
pairs-none n es none = pairs-lookup (nat_eq n) es ∙ ap (λ (o : Option (Box (List ℕ) Global)). option_map (λ (b : Box (List ℕ) Global). b.value) o) none

-- the page used goes first
pub pairs-promoted : (n : ℕ) (es : Boxes) → pairs_in (promoted (nat_eq n) es) ≡ to_front n (pairs_in es)
pairs-promoted n es = by (lookup_entry (nat_eq n) es) ∙ sym (ap (λ (o : Option (ℕ × List ℕ)). option_map_or (λ e. e ∷ remove_entry (nat_eq n) (pairs_in es)) o (pairs_in es)) (pairs-entry (nat_eq n) es))
  where
    by : (o : Option (ℕ × Box (List ℕ) Global)) → pairs_in (option_map_or (λ e. e ∷ remove_entry (nat_eq n) es) o es)
        ≡ option_map_or (λ (e : ℕ × List ℕ). e ∷ remove_entry (nat_eq n) (pairs_in es)) (option_map (λ (e : ℕ × Box (List ℕ) Global). (e.0, e.1.value)) o) (pairs_in es)
    by None = refl
    by (Some e) = ap (λ (l : Pairs). (e.0, e.1.value) ∷ l) (pairs-remove (nat_eq n) es)

pub bytes-to_front : (n k : ℕ) (pairs : Pairs) → bytes_at k (to_front n pairs) ≡ bytes_at k pairs
bytes-to_front n k pairs = lookup-promoted n k pairs

pub first-to_front : (n : ℕ) (pairs : Pairs) → is_some (bytes_at n pairs) ≡ true → first_bytes (to_front n pairs) ≡ bytes_at n pairs
first-to_front n pairs there = first-promoted n pairs there

-- a page that is put goes first
pub pairs-put : (es : Boxes) (room n : ℕ) (held : Box (List ℕ) Global) → length es ≤ room → 0 < room → pairs_in (put_entries nat_eq (lru_cache es room) n held) ≡ with_first room n held.value (pairs_in es)
pairs-put es room n held few some =
    ap pairs_in (put_takes es room n held few some) ∙ pairs-take room ((n, held) ∷ remove_entry (nat_eq n) es)
    ∙ ap (λ (l : Pairs). take room ((n, held.value) ∷ l)) (pairs-remove (nat_eq n) es)

-- and so does one that is written where it lies
pub pairs-set : (es : Boxes) (room n : ℕ) (held : Box (List ℕ) Global) → length es ≤ room → 0 < room → is_some (lookup (nat_eq n) es) ≡ true
    → pairs_in (set_value (nat_eq n) (promoted (nat_eq n) es) held) ≡ with_first room n held.value (pairs_in es)
pairs-set es room n held few some there = ap pairs_in (set_puts es room n held there) ∙ pairs-put es room n held few some

-- its bytes are then the ones given
pub bytes-first : (room n : ℕ) (bytes held : List ℕ) (pairs : Pairs) → bytes_at n (with_first room n bytes pairs) ≡ Some held → held ≡ bytes
bytes-first zero n bytes held pairs h = absurd (false≢true (ap is_some h))
bytes-first (suc room) n bytes held pairs h =
    let is : Some bytes ≡ Some held = sym (ap (λ (b : Bool). cond b (Some bytes) (lookup (nat_eq n) (take room (without n pairs)))) (nat_eq_equiv.refl n)) ∙ h in
    cc

-- and every other page that is left has the bytes that it had
pub bytes-others : (room n k : ℕ) (bytes held : List ℕ) (pairs : Pairs) → k ≢ n → bytes_at k (with_first room n bytes pairs) ≡ Some held → bytes_at k pairs ≡ Some held
bytes-others room n k bytes held pairs ne h =
    let all : bytes_at k ((n, bytes) ∷ without n pairs) ≡ Some held = lookup-take (nat_eq k) room ((n, bytes) ∷ without n pairs) held h in
    sym (ap (λ (b : Bool). cond b (Some bytes) (lookup (nat_eq k) (without n pairs))) (apart n k ne n (nat_eq_equiv.refl n))
    ∙ lookup-other n k ne pairs)
    ∙ all

-- a page that was taken out is gone
pub bytes-gone : (n : ℕ) (es : Boxes) → IsDistinct nat_eq (keys_of es) → bytes_at n (pairs_in (remove_entry (nat_eq n) es)) ≡ None
bytes-gone n es distinct = pairs-none n (remove_entry (nat_eq n) es)
    (lookup-remove_entry nat_eq_equiv (nat_eq n) (λ x y h. ap (λ (z : ℕ). nat_eq z y) (eqb-true n x h)) n es distinct ∙ ap (λ (b : Bool). cond b None (lookup (nat_eq n) es)) (nat_eq_equiv.refl n))

-- and every other page stays
pub bytes-without : (n k : ℕ) (pairs : Pairs) → k ≢ n → bytes_at k (without n pairs) ≡ bytes_at k pairs
bytes-without n k pairs ne = lookup-other n k ne pairs

-- an option that isn't there is none
pub none_unless : {X : Type 0} (o : Option X) → (is_some o ≡ true → ⊥) → o ≡ None
none_unless None h = refl
none_unless (Some x) h = absurd (h refl)

-- a call that was refused didn't succeed
pub refused : {T E : Type 0} (result : Result T E) (fault : E) → result ≡ Err fault → IsOk result → ⊥
refused result fault is ok = false≢true (sym (ap is_ok is) ∙ ok)
