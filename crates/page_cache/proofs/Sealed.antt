-- What is known of the pages in memory, once they have moved, were written, or were dropped.
use Rattle.std.proofs.Common.{◌≡◌, ◌≢◌, ◌⊎◌, ⊎_elim, ℕ, List, [], Option, Some, None, IsSome, is_some, option_map, nat_eq, Box, sym, ◌∙◌, ap, subst, refl}
use Rattle.std.specs.Map.{lookup}
use Rattle.std.specs.BTreeMap.{get}
use Rattle.std.specs.HashMap.{get as value_at}
use Rattle.std.specs.Ordering.{nat_cmp}
use Rattle.std.specs.declared.alloc.Global.{Global}
use Rattle.std.proofs.lemmas.Bool.{cases_eq, false≢true}
use Rattle.page_face.specs.Sound.{IsSound}
use Rattle.page_face.specs.declared.seal.Seal.{Seal}
use Rattle.page_cache.specs.Pairs.{bytes_at, first_bytes, pairs_of}
use Rattle.page_cache.specs.declared.cache.Cache.{Cache}
use Rattle.page_cache.specs.Pages.{PageTable, first_of, first_page, page_in}
use Rattle.page_cache.specs.Places.{AreTrue, held_page, looked_page, page_behind, seal_of}
use Rattle.page_cache.specs.Rooms.{HasRoomFor, Rooms, boxed, room_page}
use Rattle.page_cache.specs.declared.place.Place.{Place}
use Rattle.page_cache.specs.declared.place.Place.TheVariants as places
use Rattle.page_cache.specs.declared.seals.Seals.{Seals}
use Rattle.page_cache.proofs.Tables.{first_shrinks, none_some}

-- ---- the first of several pages

-- where no page is first there is none of either
pub none_of_both : (a b : Option (List ℕ)) → first_page a b ≡ None → (a ≡ None) × (b ≡ None)
none_of_both (Some p) b none = absurd (none_some none refl)
none_of_both None b none = (refl, none)

first_assoc : (a b c : Option (List ℕ)) → first_page a (first_page b c) ≡ first_page (first_page a b) c
first_assoc (Some p) b c = refl
first_assoc None b c = refl

-- a table without a page holds none
pub empty_table : (table : PageTable) (n : ℕ) → table.entries ≡ [] → page_in table n ≡ None
empty_table table n none = ap (λ (es : List (ℕ × Box (List ℕ) Global)). option_map (λ (p : Box (List ℕ) Global). p.value) (lookup (nat_eq n) es)) none

-- ---- what is sealed

-- no seal
pub true_none : (seals : Seals) (overlay : PageTable) (journal : PageTable) (cache : Cache) → ((n : ℕ) → seal_of seals n ≡ None) → AreTrue seals overlay journal cache
true_none seals overlay journal cache none = record { each = λ n seal page sealed is. absurd (none_some (none n) sealed) }

-- fewer pages are held
pub true_shrinks : (seals : Seals) (overlay later : PageTable) (old new : PageTable) (cache after : Cache)
    → ((n : ℕ) (page : List ℕ) → held_page later new after n ≡ Some page → held_page overlay old cache n ≡ Some page) → AreTrue seals overlay old cache → AreTrue seals later new after
true_shrinks seals overlay later old new cache after shrinks are = record { each = λ n seal page sealed is. are.each n seal page sealed (shrinks n page is) }

-- fewer pages are held behind the same overlay
pub true_behind : (seals : Seals) (overlay : PageTable) (old new : PageTable) (cache after : Cache)
    → ((n : ℕ) (page : List ℕ) → page_behind new after n ≡ Some page → page_behind old cache n ≡ Some page) → AreTrue seals overlay old cache → AreTrue seals overlay new after
true_behind seals overlay old new cache after shrinks are = true_shrinks seals overlay overlay old new cache after
    (λ n page. first_shrinks (page_in overlay n) (page_behind old cache n) (page_behind new after n) page (shrinks n page)) are

-- fewer pages are cached
pub behind_cache : (journal : PageTable) (old new : Cache) (n : ℕ) (page : List ℕ) → (bytes_at n (pairs_of new) ≡ Some page → bytes_at n (pairs_of old) ≡ Some page)
    → page_behind journal new n ≡ Some page → page_behind journal old n ≡ Some page
behind_cache journal old new n page shrinks = first_shrinks (page_in journal n) (bytes_at n (pairs_of old)) (bytes_at n (pairs_of new)) page shrinks

-- a cache with the same pages
pub true_same : (seals : Seals) (overlay : PageTable) (journal : PageTable) (old new : Cache) → ((n : ℕ) → bytes_at n (pairs_of new) ≡ bytes_at n (pairs_of old)) → AreTrue seals overlay journal old → AreTrue seals overlay journal new
true_same seals overlay journal old new same = true_behind seals overlay journal journal old new (λ n page. behind_cache journal old new n page (λ is. sym (same n) ∙ is))

-- a journal with the same pages
pub true_alike : (seals : Seals) (overlay : PageTable) (old new : PageTable) (cache : Cache) → ((n : ℕ) → page_in new n ≡ page_in old n) → AreTrue seals overlay old cache → AreTrue seals overlay new cache
true_alike seals overlay old new cache same = true_behind seals overlay old new cache cache (λ n page is. sym (ap (λ (o : Option (List ℕ)). first_page o (bytes_at n (pairs_of cache))) (same n)) ∙ is)

-- an overlay that moved into the journal
pub true_moved : (seals : Seals) (whole cleared : PageTable) (old new : PageTable) (cache : Cache) → cleared.entries ≡ [] → ((n : ℕ) → page_in new n ≡ first_page (page_in whole n) (page_in old n))
    → AreTrue seals whole old cache → AreTrue seals cleared new cache
true_moved seals whole cleared old new cache none moved = true_shrinks seals whole cleared old new cache cache
    (λ n page is. first_assoc (page_in whole n) (page_in old n) (bytes_at n (pairs_of cache))
    ∙ ap (λ (o : Option (List ℕ)). first_page o (bytes_at n (pairs_of cache))) (sym (moved n))
    ∙ sym (ap (λ (o : Option (List ℕ)). first_page o (page_behind new cache n)) (empty_table cleared n none)) ∙ is)

-- no later page is lost
pub moved_keeps : (whole : PageTable) (old new : PageTable) → ((n : ℕ) → page_in new n ≡ first_page (page_in whole n) (page_in old n)) → (n : ℕ) → page_in new n ≡ None → page_in old n ≡ None
moved_keeps whole old new moved n none = (none_of_both (page_in whole n) (page_in old n) (sym (moved n) ∙ none)).1

-- a page without a seal may change
pub true_but : (seals after : Seals) (overlay later : PageTable) (journal : PageTable) (cache new : Cache) (number : ℕ) → seal_of after number ≡ None → ((n : ℕ) → n ≢ number → seal_of after n ≡ seal_of seals n)
    → ((n : ℕ) (page : List ℕ) → n ≢ number → held_page later journal new n ≡ Some page → held_page overlay journal cache n ≡ Some page) → AreTrue seals overlay journal cache → AreTrue after later journal new
true_but seals after overlay later journal cache new number gone others shrinks are = record {
  each = λ n seal page sealed is. ⊎_elim
      (λ (same : n ≡ number). absurd (none_some gone (subst (λ (k : ℕ). seal_of after k ≡ Some seal) same sealed)))
      (λ (ne : n ≡ number → ⊥). are.each n seal page (sym (others n ne) ∙ sealed) (shrinks n page ne is))
      (cases_eq n number);
}

-- a page that was written has no seal
pub true_put : (seals after : Seals) (overlay later : PageTable) (number : ℕ) → seal_of after number ≡ None → ((n : ℕ) → n ≢ number → seal_of after n ≡ seal_of seals n)
    → ((n : ℕ) → n ≢ number → page_in later n ≡ page_in overlay n) → (journal : PageTable) (cache : Cache) → AreTrue seals overlay journal cache → AreTrue after later journal cache
true_put seals after overlay later number gone others same journal cache = true_but seals after overlay later journal cache cache number gone others
    (λ n page ne is. sym (ap (λ (o : Option (List ℕ)). first_page o (page_behind journal cache n)) (same n ne)) ∙ is)

-- nor has one that was read
pub true_read : (seals after : Seals) (overlay : PageTable) (journal : PageTable) (old new : Cache) (number : ℕ) → seal_of after number ≡ None → ((n : ℕ) → n ≢ number → seal_of after n ≡ seal_of seals n)
    → ((n : ℕ) (page : List ℕ) → n ≢ number → bytes_at n (pairs_of new) ≡ Some page → bytes_at n (pairs_of old) ≡ Some page) → AreTrue seals overlay journal old → AreTrue after overlay journal new
true_read seals after overlay journal old new number gone others shrinks = true_but seals after overlay overlay journal old new number gone others
    (λ n page ne. first_shrinks (page_in overlay n) (page_behind journal old n) (page_behind journal new n) page (behind_cache journal old new n page (shrinks n page ne)))

-- a page that is sound may be sealed
pub true_noted : (seals after : Seals) (overlay : PageTable) (journal : PageTable) (cache : Cache) (number : ℕ) (seal : Seal) (bytes : List ℕ) → held_page overlay journal cache number ≡ Some bytes → IsSound seal bytes
    → ((n : ℕ) (known : Seal) → seal_of after n ≡ Some known → ((n ≡ number) × (known ≡ seal)) ⊎ (seal_of seals n ≡ Some known)) → AreTrue seals overlay journal cache → AreTrue after overlay journal cache
true_noted seals after overlay journal cache number seal bytes held sound notes are = record {
  each = λ n known page sealed is. ⊎_elim
      (λ (new : (n ≡ number) × (known ≡ seal)).
      let here : held_page overlay journal cache number ≡ Some page = subst (λ (k : ℕ). held_page overlay journal cache k ≡ Some page) new.0 is in
      let both : Some bytes ≡ Some page = sym held ∙ here in
      let same : bytes ≡ page = cc in
      subst (λ (s : Seal). IsSound s page) (sym new.1) (subst (λ (p : List ℕ). IsSound seal p) same sound))
      (λ (old : seal_of seals n ≡ Some known). are.each n known page old is)
      (notes n known sealed);
}

-- ---- where the page looked at last lies

-- a page that was kept lies in the cache
pub kept_lies : (place : Place) (number : ℕ) (overlay : PageTable) (journal : PageTable) (old new : Cache) (bytes : List ℕ) → held_page overlay journal old number ≡ None → (place ≢ places.Spare → place ≡ places.Cache)
    → (place ≢ places.Spare → (bytes_at number (pairs_of new) ≡ Some bytes) × (first_bytes (pairs_of new) ≡ Some bytes)) → place ≢ places.Spare
    → held_page overlay journal new number ≡ Some (looked_page place overlay journal new bytes)
kept_lies place number overlay journal old new bytes none in_cache some held =
    let parts = none_of_both (page_in overlay number) (page_behind journal old number) none in
    let unkept = (none_of_both (page_in journal number) (bytes_at number (pairs_of old)) parts.1).0 in
    ap (λ (o : Option (List ℕ)). first_page o (page_behind journal new number)) parts.0
    ∙ ap (λ (o : Option (List ℕ)). first_page o (bytes_at number (pairs_of new))) unkept
    ∙ (some held).0
    ∙ sym (ap (λ (p : Place). Some (looked_page p overlay journal new bytes)) (in_cache held) ∙ ap (λ (o : Option (List ℕ)). Some (first_of o bytes)) (some held).1)

-- ---- the journal's pages move into their rooms and into the cache

-- a page or none
first_none : (a : Option (List ℕ)) → first_page a None ≡ a
first_none (Some p) = refl
first_none None = refl

-- rooms that held no page hold those of the table
pub filled_is : (table : PageTable) (before filled : Rooms) → ((n : ℕ) → room_page before n ≡ None) → ((n : ℕ) → room_page filled n ≡ first_page (page_in table n) (room_page before n))
    → (n : ℕ) → room_page filled n ≡ page_in table n
filled_is table before filled bare fills n = fills n ∙ ap (λ (o : Option (List ℕ)). first_page (page_in table n) o) (bare n) ∙ first_none (page_in table n)

-- behind the journal there is then no other page
pub retired_behind : (old new : PageTable) (filled : Rooms) (cache after : Cache) → ((n : ℕ) → room_page filled n ≡ page_in old n) → new.entries ≡ []
    → ((n : ℕ) (page : List ℕ) → bytes_at n (pairs_of after) ≡ Some page → first_page (room_page filled n) (bytes_at n (pairs_of cache)) ≡ Some page)
    → (n : ℕ) (page : List ℕ) → page_behind new after n ≡ Some page → page_behind old cache n ≡ Some page
retired_behind old new filled cache after fills none shrinks n page is =
    sym (ap (λ (o : Option (List ℕ)). first_page o (bytes_at n (pairs_of cache))) (fills n))
    ∙ shrinks n page (sym (ap (λ (o : Option (List ℕ)). first_page o (bytes_at n (pairs_of after))) (empty_table new n none)) ∙ is)

-- a table without a page needs no room
pub empty_has_room : (table : PageTable) (rooms : Rooms) → table.entries ≡ [] → HasRoomFor table rooms
empty_has_room table rooms none n found = absurd (false≢true (sym (ap (λ (es : List (ℕ × Box (List ℕ) Global)). is_some (lookup (nat_eq n) es)) none) ∙ found))

-- a table that pages moved into has room where both had
pub moved_has_room : (whole old new : PageTable) (rooms : Rooms) → HasRoomFor whole rooms → HasRoomFor old rooms → ((n : ℕ) → page_in new n ≡ first_page (page_in whole n) (page_in old n)) → HasRoomFor new rooms
moved_has_room whole old new rooms of_whole of_old moved n found =
    by (value_at nat_eq whole n) refl (value_at nat_eq old n) refl (value_at nat_eq new n) found (moved n)
  where
    by : (w : Option (Box (List ℕ) Global)) → value_at nat_eq whole n ≡ w → (o : Option (Box (List ℕ) Global)) → value_at nat_eq old n ≡ o → (x : Option (Box (List ℕ) Global)) → IsSome x
        → boxed x ≡ first_page (boxed (value_at nat_eq whole n)) (boxed (value_at nat_eq old n)) → IsSome (get nat_cmp rooms n)
    by (Some page) w o was x some is = of_whole n (ap is_some w)
    by None w (Some page) o x some is = of_old n (ap is_some o)
    by None w None o (Some page) some is = absurd (none_some (ap (λ (p : Option (Box (List ℕ) Global)). first_page (boxed p) (boxed (value_at nat_eq old n))) w ∙ ap boxed o) (sym is))
    by None w None o None some is = absurd (false≢true some)

-- an overlay with the same pages
pub true_pages : (seals : Seals) (overlay later journal : PageTable) (cache : Cache) → ((n : ℕ) → page_in later n ≡ page_in overlay n) → AreTrue seals overlay journal cache → AreTrue seals later journal cache
true_pages seals overlay later journal cache same = true_shrinks seals overlay later journal journal cache cache
    (λ n page is. sym (ap (λ (o : Option (List ℕ)). first_page o (page_behind journal cache n)) (same n)) ∙ is)
