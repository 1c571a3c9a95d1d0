-- What the journal's pages say of the disk.
use Rattle.std.proofs.Common.{◌≡◌, ⊎_elim, ℕ, List, [], ◌∷◌, length, Option, Some, None, IsSome, is_some, option_and_then, nat_eq, Box, refl, sym, ◌∙◌, ap, subst, arith}
use Rattle.std.specs.Map.{keys_of, lookup}
use Rattle.std.specs.BTreeMap.{is_at, get, IsOrdered}
use Rattle.std.specs.List.{AllByRecursion}
use Rattle.std.specs.List.Sorted.{IsStrictlySortedBy}
use Rattle.std.specs.Ordering.{nat_cmp, is_eq}
use Rattle.std.specs.declared.cmp.Ordering.TheVariants.{Less}
use Rattle.std.specs.declared.alloc.Global.{Global}
use Rattle.std.proofs.lemmas.Bool.{cases_eq, cond-true, cond-false}
use Rattle.disk_model.specs.World.{Image}
use Rattle.disk_model.specs.declared.disk.Area.TheVariants.{Pages, Journal}
use Rattle.page_journal.specs.Record.{applied, batch_of, given, kept, with_batch, AreLastImages, IsOverwritten, OverwritesAlso}
use Rattle.page_journal.proofs.Batches.{length_given}
use Rattle.page_cache.specs.Pages.{IsSized, PageTable, first_of, first_page, page_in}
use Rattle.page_cache.specs.Rooms.{HasRoomFor, Ordered, Rooms, boxed, ordered_page, room_page}
use Rattle.page_cache.proofs.Tables.{same_key, other_key, none_some}
use Rattle.page_cache.proofs.Sealed.{empty_table, empty_has_room, moved_has_room}
use Rattle.page_store.specs.Contents.{page_bytes}
use Rattle.page_store.specs.Held.{AreImages, AreKept}
use Rattle.page_store.proofs.Bytes.{area_by_pages}
use Rattle.page_store.proofs.Overlays.{AreSized, Found, Missing, found_or_missing, ascending_entries, page_bytes-with_entries, page_bytes-with_batch}

-- ---- the entries that have a page

abbrev filled : List (ℕ × Option (Box (List ℕ) Global)) → List (ℕ × Box (List ℕ) Global)
filled [] = []
filled ((n, Some page) ∷ entries) = (n, page) ∷ filled entries
filled ((n, None) ∷ entries) = filled entries

kept-filled : (entries : List (ℕ × Option (Box (List ℕ) Global))) → kept entries ≡ given (filled entries)
kept-filled [] = refl
kept-filled ((n, Some page) ∷ entries) = ap (λ (l : List (ℕ × List ℕ)). (n, page.value) ∷ l) (kept-filled entries)
kept-filled ((n, None) ∷ entries) = kept-filled entries

all_filled : (k : ℕ) (entries : List (ℕ × Option (Box (List ℕ) Global))) → AllByRecursion (λ (y : ℕ). nat_cmp k y ≡ Less) (keys_of entries) → AllByRecursion (λ (y : ℕ). nat_cmp k y ≡ Less) (keys_of (filled entries))
all_filled k [] all = tt
all_filled k ((n, Some page) ∷ entries) all = (all.0, all_filled k entries all.1)
all_filled k ((n, None) ∷ entries) all = all_filled k entries all.1

sorted_filled : (entries : List (ℕ × Option (Box (List ℕ) Global))) → IsStrictlySortedBy nat_cmp (keys_of entries) → IsStrictlySortedBy nat_cmp (keys_of (filled entries))
unfolding IsStrictlySortedBy
sorted_filled [] sorted = tt
sorted_filled ((n, Some page) ∷ entries) sorted = (all_filled n entries sorted.0, sorted_filled entries sorted.1)
sorted_filled ((n, None) ∷ entries) sorted = sorted_filled entries sorted.1

none_above : (entries : List (ℕ × Option (Box (List ℕ) Global))) (k n : ℕ) → n ≡ k → AllByRecursion (λ (y : ℕ). nat_cmp k y ≡ Less) (keys_of entries) → lookup (is_at (nat_cmp n)) (filled entries) ≡ None
none_above [] k n same all = refl
none_above ((m, Some page) ∷ entries) k n same all = cond-false _ _ _ (ap is_eq (subst (λ (x : ℕ). nat_cmp x m ≡ Less) (sym same) all.0)) ∙ none_above entries k n same all.1
none_above ((m, None) ∷ entries) k n same all = none_above entries k n same all.1

lookup-filled : (entries : List (ℕ × Option (Box (List ℕ) Global))) (n : ℕ) → IsStrictlySortedBy nat_cmp (keys_of entries)
    → boxed (lookup (is_at (nat_cmp n)) (filled entries)) ≡ option_and_then boxed (lookup (is_at (nat_cmp n)) entries)
unfolding IsStrictlySortedBy
lookup-filled [] n sorted = refl
lookup-filled ((k, Some page) ∷ entries) n sorted = ⊎_elim
    (λ (same : n ≡ k).
    ap (λ (o : Option (Box (List ℕ) Global)). boxed o) (cond-true (is_at (nat_cmp n) k) (Some page) (lookup (is_at (nat_cmp n)) (filled entries)) (same_key n k same))
    ∙ sym (ap (λ (o : Option (Option (Box (List ℕ) Global))). option_and_then boxed o) (cond-true (is_at (nat_cmp n) k) (Some (Some page)) (lookup (is_at (nat_cmp n)) entries) (same_key n k same))))
    (λ (ne : n ≡ k → ⊥).
    ap (λ (o : Option (Box (List ℕ) Global)). boxed o) (cond-false (is_at (nat_cmp n) k) (Some page) (lookup (is_at (nat_cmp n)) (filled entries)) (other_key n k ne))
    ∙ lookup-filled entries n sorted.1
    ∙ sym (ap (λ (o : Option (Option (Box (List ℕ) Global))). option_and_then boxed o) (cond-false (is_at (nat_cmp n) k) (Some (Some page)) (lookup (is_at (nat_cmp n)) entries) (other_key n k ne))))
    (cases_eq n k)
lookup-filled ((k, None) ∷ entries) n sorted = ⊎_elim
    (λ (same : n ≡ k).
    ap (λ (o : Option (Box (List ℕ) Global)). boxed o) (none_above entries k n same sorted.0)
    ∙ sym (ap (λ (o : Option (Option (Box (List ℕ) Global))). option_and_then boxed o) (cond-true (is_at (nat_cmp n) k) (Some None) (lookup (is_at (nat_cmp n)) entries) (same_key n k same))))
    (λ (ne : n ≡ k → ⊥).
    lookup-filled entries n sorted.1
    ∙ sym (ap (λ (o : Option (Option (Box (List ℕ) Global))). option_and_then boxed o) (cond-false (is_at (nat_cmp n) k) (Some None) (lookup (is_at (nat_cmp n)) entries) (other_key n k ne))))
    (cases_eq n k)

-- ---- a checkpoint

-- with the pages in rooms written a page is the one in its room, and else the one from before
page_bytes-with_rooms : (rooms : Rooms) (area : ℕ → ℕ) (n : ℕ) → IsOrdered nat_cmp rooms → ((n : ℕ) (page : List ℕ) → room_page rooms n ≡ Some page → length page ≡ 4096)
    → page_bytes (with_batch (batch_of (kept rooms.entries)) area) n ≡ first_of (room_page rooms n) (page_bytes area n)
page_bytes-with_rooms rooms area n ordered sized =
    let found = lookup-filled rooms.entries n ordered in
    ap (λ (pages : List (ℕ × List ℕ)). page_bytes (with_batch (batch_of pages) area) n) (kept-filled rooms.entries)
    ∙ page_bytes-with_entries (filled rooms.entries) area n (sorted_filled rooms.entries ordered) (λ page is. sized n page.value (sym found ∙ ap (λ (o : Option (Box (List ℕ) Global)). boxed o) is))
    ∙ ap (λ (o : Option (List ℕ)). first_of o (page_bytes area n)) found

-- pages in rooms are the last images where they give each page that the disk stands for, and the records write each of them
images_by_pages : (rooms : Rooms) (image : Image) → IsOrdered nat_cmp rooms → ((n : ℕ) (page : List ℕ) → room_page rooms n ≡ Some page → length page ≡ 4096)
    → ((n : ℕ) → page_bytes (applied image) n ≡ first_of (room_page rooms n) (page_bytes (image Pages) n))
    → ((n : ℕ) (page : List ℕ) → room_page rooms n ≡ Some page → IsOverwritten (image Journal) n) → AreLastImages (batch_of (kept rooms.entries)) image
images_by_pages rooms image ordered sized pages overwritten =
    let entries = filled rooms.entries in
    let sorted = sorted_filled rooms.entries ordered in
    let count = length_given entries in
    let b = batch_of (given entries) in
    subst (λ (l : List (ℕ × List ℕ)). AreLastImages (batch_of l) image) (sym (kept-filled rooms.entries)) record {
      ascending = ascending_entries entries sorted;
      are = area_by_pages _ _ (λ n. pages n ∙ sym (page_bytes-with_rooms rooms (image Pages) n ordered sized) ∙ ap (λ (l : List (ℕ × List ℕ)). page_bytes (with_batch (batch_of l) (image Pages)) n) (kept-filled rooms.entries));
      each = λ k lt. ⊎_elim
          (λ (f : Found entries (b.number k)). overwritten (b.number k) f.page.value (sym (lookup-filled rooms.entries (b.number k) ordered) ∙ ap (λ (o : Option (Box (List ℕ) Global)). boxed o) f.at))
          (λ (m : Missing entries (b.number k)). absurd (m.apart k (omega (arith, lt, count)) refl))
          (found_or_missing entries (b.number k));
    }

-- the journal's pages in their rooms are the last images
pub images_filled : (journal : PageTable) (rooms : Rooms) (image : Image) → IsOrdered nat_cmp rooms → IsSized journal → ((n : ℕ) → room_page rooms n ≡ page_in journal n) → AreImages journal image
    → AreLastImages (batch_of (kept rooms.entries)) image
images_filled journal rooms image ordered sized fills images = images_by_pages rooms image ordered
    (λ n page is. sized n page (sym (fills n) ∙ is))
    (λ n. images.are n ∙ sym (ap (λ (o : Option (List ℕ)). first_of o (page_bytes (image Pages) n)) (fills n)))
    (λ n page is. images.each n page (sym (fills n) ∙ is))

-- ---- no page is kept

-- a journal without a page is kept
pub kept_none : (journal : PageTable) (rooms : Rooms) → journal.entries ≡ [] → IsOrdered nat_cmp rooms → AreKept journal rooms
kept_none journal rooms none ordered = record {
  sized = λ n page is. absurd (none_some (empty_table journal n none) is);
  room = empty_has_room journal rooms none;
  ordered = ordered;
}

-- and it holds no page while the records are none
pub images_at_front : (journal : PageTable) (image : Image) → journal.entries ≡ [] → applied image ≡ image Pages → AreImages journal image
images_at_front journal image none front = record {
  are = λ n. ap (λ (area : ℕ → ℕ). page_bytes area n) front ∙ sym (ap (λ (o : Option (List ℕ)). first_of o (page_bytes (image Pages) n)) (empty_table journal n none));
  each = λ n page is. absurd (none_some (empty_table journal n none) is);
}

-- an ordered map without an entry has no page in a room
pub bare_none : (rooms : Rooms) (n : ℕ) → rooms.entries ≡ [] → room_page rooms n ≡ None
bare_none rooms n none = ap (λ (entries : List (ℕ × Option (Box (List ℕ) Global))). option_and_then boxed (lookup (is_at (nat_cmp n)) entries)) none

-- ---- more room

-- the same pages
pub same_pages : (old new : PageTable) (n : ℕ) → new.entries ≡ old.entries → page_in new n ≡ page_in old n
same_pages old new n same = ap (λ (es : List (ℕ × Box (List ℕ) Global)). boxed (lookup (nat_eq n) es)) same

-- they are kept
pub kept_alike : (old new : PageTable) (rooms later : Rooms) → AreKept old rooms → new.entries ≡ old.entries → ((n : ℕ) → IsSome (get nat_cmp rooms n) → IsSome (get nat_cmp later n)) → IsOrdered nat_cmp later
    → AreKept new later
kept_alike old new rooms later are same others ordered = record {
  sized = λ n page is. are.sized n page (sym (same_pages old new n same) ∙ is);
  room = λ n found. others n (are.room n (sym (ap (λ (es : List (ℕ × Box (List ℕ) Global)). is_some (lookup (nat_eq n) es)) same) ∙ found));
  ordered = ordered;
}

-- and are what they were of the disk
pub images_alike : (old new : PageTable) (image : Image) → new.entries ≡ old.entries → AreImages old image → AreImages new image
images_alike old new image same images = record {
  are = λ n. images.are n ∙ sym (ap (λ (o : Option (List ℕ)). first_of o (page_bytes (image Pages) n)) (same_pages old new n same));
  each = λ n page is. images.each n page (sym (same_pages old new n same) ∙ is);
}

-- ---- a record is written

-- one page in the place of another
first_twice : (a b : Option (List ℕ)) (page : List ℕ) → first_of a (first_of b page) ≡ first_of (first_page a b) page
first_twice (Some p) b page = refl
first_twice None b page = refl

sized_first : (a b : Option (List ℕ)) (page : List ℕ) → ((p : List ℕ) → a ≡ Some p → length p ≡ 4096) → ((p : List ℕ) → b ≡ Some p → length p ≡ 4096) → first_page a b ≡ Some page → length page ≡ 4096
sized_first (Some p) b page of_a of_b is = of_a page is
sized_first None b page of_a of_b is = of_b page is

-- with the pages of an overlay in their places the journal is kept
pub kept_after : (overlay old new : PageTable) (rooms : Rooms) → IsSized overlay → HasRoomFor overlay rooms → AreKept old rooms → ((n : ℕ) → page_in new n ≡ first_page (page_in overlay n) (page_in old n)) → AreKept new rooms
kept_after overlay old new rooms sized room are keeps = record {
  sized = λ n page is. sized_first (page_in overlay n) (page_in old n) page (sized n) (are.sized n) (sym (keeps n) ∙ is);
  room = moved_has_room overlay old new rooms room are.room keeps;
  ordered = are.ordered;
}

-- and it is what the disk stands for once the overlay's record is written
pub images_after : (whole : Ordered) (old new : PageTable) (before after : Image) → IsOrdered nat_cmp whole → AreSized whole
    → ((n : ℕ) → page_in new n ≡ first_page (ordered_page whole n) (page_in old n)) → AreImages old before
    → applied after ≡ with_batch (batch_of (given whole.entries)) (applied before) → after Pages ≡ before Pages → OverwritesAlso (batch_of (given whole.entries)) before after
    → AreImages new after
images_after whole old new before after in_order sized keeps images written area also =
    let count = length_given whole.entries in
    record {
      are = λ n.
          ap (λ (p : ℕ → ℕ). page_bytes p n) written ∙ page_bytes-with_batch whole (applied before) n in_order sized
          ∙ ap (λ (l : List ℕ). first_of (ordered_page whole n) l) (images.are n)
          ∙ first_twice (ordered_page whole n) (page_in old n) (page_bytes (before Pages) n)
          ∙ ap (λ (o : Option (List ℕ)). first_of o (page_bytes (before Pages) n)) (sym (keeps n))
          ∙ ap (λ (p : ℕ → ℕ). first_of (page_in new n) (page_bytes p n)) (sym area);
      each = λ n page is. ⊎_elim
          (λ (f : Found whole.entries n). subst (λ (m : ℕ). IsOverwritten (after Journal) m) f.number (also.also f.place (omega (arith, f.lt, count))))
          (λ (m : Missing whole.entries n).
          let none : ordered_page whole n ≡ None = ap (λ (o : Option (Box (List ℕ) Global)). boxed o) m.at in
          also.still n (images.each n page (sym (ap (λ (o : Option (List ℕ)). first_page o (page_in old n)) none) ∙ sym (keeps n) ∙ is)))
          (found_or_missing whole.entries n);
    }
