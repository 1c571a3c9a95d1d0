-- What tables, ordered maps and rooms hold once a page was moved.
use Rattle.std.proofs.Common.{◌≡◌, ◌≢◌, ◌⊎◌, inl, ⊎_elim, ℕ, ◌<◌, ◌≤◌, ◌++◌, ◌||◌, Bool, true, false, List, [], ◌∷◌, length, Option, Some, None, IsSome, IfSome, is_some, option_and_then, nat_eq, Box, refl, sym, ◌∙◌, ap, subst, arith}
use Rattle.std.specs.Map.{keys_of, lookup}
use Rattle.std.specs.BTreeMap.{is_at, get}
use Rattle.std.specs.HashMap.{get as value_at}
use Rattle.std.specs.List.{list_any}
use Rattle.std.specs.Option.{option_to_list}
use Rattle.std.specs.Ordering.{nat_cmp, is_eq}
use Rattle.std.specs.declared.cmp.Ordering.TheVariants.{Less, Equal, Greater}
use Rattle.std.specs.Cmp.{nat_cmp_is}
use Rattle.std.specs.declared.alloc.Global.{Global}
use Rattle.std.proofs.lemmas.Bool.{cases_lt, cases_eq, cond-true, cond-false, eq-eqb, ne_eqb, false≢true}
use Rattle.indexmap.specs.IndexMap.{Updates}
use Rattle.page_cache.specs.Pairs.{bytes_at, pairs_of}
use Rattle.page_cache.specs.declared.cache.Cache.{Cache}
use Rattle.page_cache.specs.Pages.{PageTable, first_page}
use Rattle.page_cache.specs.Rooms.{Rooms, boxed, room_page}

pub none_some : {X : Type 0} {o : Option X} {x : X} → o ≡ None → o ≡ Some x → ⊥
none_some none some = false≢true (sym (ap is_some none) ∙ ap is_some some)

-- ---- keys

-- the test of a look-up in an ordered map answers whether the keys are equal
pub same_key : (n k : ℕ) → n ≡ k → is_at (nat_cmp n) k ≡ true
same_key n k e = ap is_eq (sym (nat_cmp_is n k Equal e))

pub other_key : (n k : ℕ) → (n ≡ k → ⊥) → is_at (nat_cmp n) k ≡ false
other_key n k ne = ⊎_elim
    (λ (l : n < k). ap is_eq (sym (nat_cmp_is n k Less l)))
    (λ (g : k ≤ n). let above : k < n = omega arith in ap is_eq (sym (nat_cmp_is n k Greater above)))
    (cases_lt n k)

-- a key that is found stands among the keys
key_of : {X : Type 0} (entries : List (ℕ × X)) (n : ℕ) → is_some (lookup (nat_eq n) entries) ≡ true → list_any (nat_eq n) (keys_of entries) ≡ true
key_of [] n found = absurd (false≢true found)
key_of (e ∷ entries) n found = ⊎_elim
    (λ (same : n ≡ e.0). ap (λ (b : Bool). b || list_any (nat_eq n) (keys_of entries)) (eq-eqb n e.0 same))
    (λ (ne : n ≡ e.0 → ⊥). ap (λ (b : Bool). b || list_any (nat_eq n) (keys_of entries)) (ne_eqb n e.0 ne)
    ∙ key_of entries n (sym (ap is_some (cond-false (nat_eq n e.0) (Some e.1) (lookup (nat_eq n) entries) (ne_eqb n e.0 ne))) ∙ found))
    (cases_eq n e.0)

-- the room of each page of the table is there, but maybe for these numbers
abbrev pub HasRoomBut : List ℕ → PageTable → Rooms → Type 0
HasRoomBut rest table rooms = (n : ℕ) → IsSome (value_at nat_eq table n) → (list_any (nat_eq n) rest ≡ true) ⊎ IsSome (get nat_cmp rooms n)

-- no room is needed but for the table's own numbers
pub room_but_keys : (table : PageTable) (rooms : Rooms) → HasRoomBut (keys_of table.entries) table rooms
room_but_keys table rooms n found = inl (key_of table.entries n found)

-- ---- the page that was put in last

-- what is last is found where no key before it is the same
last_found : {X : Type 0} (entries : List (ℕ × X)) (k : ℕ) (value : X) → lookup (nat_eq k) entries ≡ None → lookup (nat_eq k) (entries ++ (k, value) ∷ []) ≡ Some value
last_found [] k value none = cond-true (nat_eq k k) (Some value) None (eq-eqb k k refl)
last_found (e ∷ entries) k value none = ⊎_elim
    (λ (same : k ≡ e.0). absurd (none_some none (cond-true (nat_eq k e.0) (Some e.1) (lookup (nat_eq k) entries) (eq-eqb k e.0 same))))
    (λ (ne : k ≡ e.0 → ⊥).
    let next = cond-false (nat_eq k e.0) (Some e.1) (lookup (nat_eq k) entries) (ne_eqb k e.0 ne) in
    cond-false (nat_eq k e.0) (Some e.1) (lookup (nat_eq k) (entries ++ (k, value) ∷ [])) (ne_eqb k e.0 ne) ∙ last_found entries k value (sym next ∙ none))
    (cases_eq k e.0)

-- what was taken from the end is what was found there
pub popped : (old new : PageTable) (result : Option (ℕ × Box (List ℕ) Global)) → old.entries ≡ new.entries ++ option_to_list result → IfSome result (λ p. Updates nat_eq old new p.0 None)
    → IfSome result (λ p. value_at nat_eq old p.0 ≡ Some p.1)
popped old new None entries updates = tt
popped old new (Some p) entries updates = ap (λ (es : List (ℕ × Box (List ℕ) Global)). lookup (nat_eq p.0) es) entries ∙ last_found new.entries p.0 p.1 updates.1

-- ---- the pages in rooms move into the cache

-- what is first stays so where what is behind it shrinks
pub first_shrinks : (a before after : Option (List ℕ)) (page : List ℕ) → (after ≡ Some page → before ≡ Some page) → first_page a after ≡ Some page → first_page a before ≡ Some page
first_shrinks (Some p) before after page shrinks is = is
first_shrinks None before after page shrinks is = shrinks is

-- without a room there is what is cached
pub no_room : (rooms : Rooms) (n : ℕ) (cached : Option (List ℕ)) → length rooms.entries ≡ 0 → first_page (room_page rooms n) cached ≡ cached
no_room rooms n cached none = by rooms.entries none
  where
    by : (entries : List (ℕ × Option (Box (List ℕ) Global))) → length entries ≡ 0 → first_page (option_and_then boxed (lookup (is_at (nat_cmp n)) entries)) cached ≡ cached
    by [] none = refl
    by (e ∷ entries) none = absurd (omega (arith, none))

-- one page moved
pub retired_one : (old new : Rooms) (cache after : Cache) (number : ℕ) (page : Option (Box (List ℕ) Global)) → get nat_cmp old number ≡ Some page → get nat_cmp new number ≡ None
    → ((n : ℕ) → n ≢ number → get nat_cmp new n ≡ get nat_cmp old n)
    → ((held : List ℕ) → bytes_at number (pairs_of after) ≡ Some held → first_page (boxed page) (bytes_at number (pairs_of cache)) ≡ Some held)
    → ((n : ℕ) (held : List ℕ) → n ≢ number → bytes_at n (pairs_of after) ≡ Some held → bytes_at n (pairs_of cache) ≡ Some held)
    → (n : ℕ) (held : List ℕ) → first_page (room_page new n) (bytes_at n (pairs_of after)) ≡ Some held → first_page (room_page old n) (bytes_at n (pairs_of cache)) ≡ Some held
retired_one old new cache after number page was gone others here behind n held is = ⊎_elim
    (λ (same : n ≡ number). subst (λ (k : ℕ). first_page (room_page old k) (bytes_at k (pairs_of cache)) ≡ Some held) (sym same)
    (ap (λ (o : Option (Option (Box (List ℕ) Global))). first_page (option_and_then boxed o) (bytes_at number (pairs_of cache))) was
    ∙ here held (sym (ap (λ (o : Option (Option (Box (List ℕ) Global))). first_page (option_and_then boxed o) (bytes_at number (pairs_of after))) gone)
    ∙ subst (λ (k : ℕ). first_page (room_page new k) (bytes_at k (pairs_of after)) ≡ Some held) same is)))
    (λ (ne : n ≡ number → ⊥).
    ap (λ (o : Option (Option (Box (List ℕ) Global))). first_page (option_and_then boxed o) (bytes_at n (pairs_of cache))) (sym (others n ne))
    ∙ first_shrinks (room_page new n) (bytes_at n (pairs_of cache)) (bytes_at n (pairs_of after)) held (behind n held ne) is)
    (cases_eq n number)
