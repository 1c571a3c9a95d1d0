-- What the pages that memory holds say of the disk.
use Rattle.std.proofs.Common.{◌≡◌, ◌≢◌, ⊎_elim, ℕ, ◌<◌, Bool, true, false, List, [], length, cond, Option, Some, None, refl, sym, ◌∙◌, ap, subst, arith}
use Rattle.std.proofs.lemmas.Bool.{cases_eq}
use Rattle.disk_model.specs.World.{Image}
use Rattle.disk_model.specs.declared.disk.Area.TheVariants.{Pages}
use Rattle.page_journal.specs.Record.{applied}
use Rattle.page_cache.specs.Pairs.{bytes_at, pairs_of}
use Rattle.page_cache.specs.declared.cache.Cache.{Cache}
use Rattle.page_cache.specs.Pages.{PageTable, first_of, first_page, page_in}
use Rattle.page_cache.specs.Places.{held_page, page_behind}
use Rattle.page_cache.proofs.Tables.{none_some}
use Rattle.page_cache.proofs.Sealed.{none_of_both}
use Rattle.page_store.specs.Contents.{page_bytes, Overlay, shown}
use Rattle.page_store.specs.Held.{AreCached, AreImages}

-- ---- what the disk stands for

-- a page of the journal or the cache is the one that the disk stands for
behind_stands : (journal : PageTable) (cache : Cache) (image : Image) (n : ℕ) (page : List ℕ) → AreImages journal image → AreCached journal cache image
    → page_behind journal cache n ≡ Some page → page ≡ page_bytes (applied image) n
behind_stands journal cache image n page images cached is =
    by (page_in journal n) refl is ∙ sym (images.are n)
  where
    by : (o : Option (List ℕ)) → page_in journal n ≡ o → first_page o (bytes_at n (pairs_of cache)) ≡ Some page → page ≡ first_of (page_in journal n) (page_bytes (image Pages) n)
    by (Some p) was some = let same : page ≡ p = cc in same ∙ sym (ap (λ (o : Option (List ℕ)). first_of o (page_bytes (image Pages) n)) was)
    by None none some = cached.each n page some none ∙ sym (ap (λ (o : Option (List ℕ)). first_of o (page_bytes (image Pages) n)) none)

-- a page that memory holds is the one that is shown
pub shown_held : (readable : Bool) (overlay : Overlay) (journal : PageTable) (cache : Cache) (image : Image) (n : ℕ) (page : List ℕ)
    → (readable ≡ true → AreImages journal image) → (readable ≡ true → AreCached journal cache image)
    → held_page overlay journal cache n ≡ Some page → 0 < length (shown readable (applied image) overlay n) → page ≡ shown readable (applied image) overlay n
shown_held readable overlay journal cache image n page images cached is some = by readable images cached (page_in overlay n) is some
  where
    by : (t : Bool) → (t ≡ true → AreImages journal image) → (t ≡ true → AreCached journal cache image) → (o : Option (List ℕ)) → first_page o (page_behind journal cache n) ≡ Some page
        → 0 < length (first_of o (cond t (page_bytes (applied image) n) [])) → page ≡ first_of o (cond t (page_bytes (applied image) n) [])
    by t i c (Some p) first told = cc
    by true i c None first told = behind_stands journal cache image n page (i refl) (c refl) first
    by false i c None first told = absurd (omega (arith, told))

-- and one that it doesn't hold is that of the pages area
pub shown_unheld : (readable : Bool) (overlay : Overlay) (journal : PageTable) (cache : Cache) (image : Image) (n : ℕ) (page : List ℕ)
    → (readable ≡ true → AreImages journal image) → held_page overlay journal cache n ≡ None
    → (readable ≡ true → page ≡ page_bytes (image Pages) n) → 0 < length (shown readable (applied image) overlay n) → page ≡ shown readable (applied image) overlay n
shown_unheld readable overlay journal cache image n page images none is some =
    let parts = none_of_both (page_in overlay n) (page_behind journal cache n) none in
    let unkept = (none_of_both (page_in journal n) (bytes_at n (pairs_of cache)) parts.1).0 in
    by readable images is (page_in overlay n) parts.0 unkept some
  where
    by : (t : Bool) → (t ≡ true → AreImages journal image) → (t ≡ true → page ≡ page_bytes (image Pages) n) → (o : Option (List ℕ)) → o ≡ None → page_in journal n ≡ None
        → 0 < length (first_of o (cond t (page_bytes (applied image) n) [])) → page ≡ first_of o (cond t (page_bytes (applied image) n) [])
    by t i p (Some q) absent unkept told = absurd (none_some absent refl)
    by true i p None absent unkept told = p refl ∙ sym ((i refl).are n ∙ ap (λ (o : Option (List ℕ)). first_of o (page_bytes (image Pages) n)) unkept)
    by false i p None absent unkept told = absurd (omega (arith, told))

-- ---- what is cached

-- a cache with the same pages
pub cached_same : (journal : PageTable) (old new : Cache) (image : Image) → ((n : ℕ) → bytes_at n (pairs_of new) ≡ bytes_at n (pairs_of old)) → AreCached journal old image → AreCached journal new image
cached_same journal old new image same cached = record { each = λ n page is none. cached.each n page (sym (same n) ∙ is) none }

-- a cache that a page was read into
pub cached_read : (journal : PageTable) (old new : Cache) (image : Image) (number : ℕ) (bytes : List ℕ) → bytes ≡ page_bytes (image Pages) number
    → ((page : List ℕ) → bytes_at number (pairs_of new) ≡ Some page → page ≡ bytes)
    → ((n : ℕ) (page : List ℕ) → n ≢ number → bytes_at n (pairs_of new) ≡ Some page → bytes_at n (pairs_of old) ≡ Some page)
    → AreCached journal old image → AreCached journal new image
cached_read journal old new image number bytes read here others cached = record {
  each = λ n page is none. ⊎_elim
      (λ (same : n ≡ number). here page (subst (λ (k : ℕ). bytes_at k (pairs_of new) ≡ Some page) same is) ∙ read ∙ ap (page_bytes (image Pages)) (sym same))
      (λ (ne : n ≡ number → ⊥). cached.each n page (others n page ne is) none)
      (cases_eq n number);
}

-- the same image
pub cached_alike : (journal : PageTable) (cache : Cache) (before after : Image) → after ≡ before → AreCached journal cache before → AreCached journal cache after
cached_alike journal cache before after same cached = subst (λ (image : Image). AreCached journal cache image) (sym same) cached

-- a journal that keeps at least the same pages, over the same area
pub cached_later : (old new : PageTable) (cache : Cache) (before after : Image) → ((n : ℕ) → page_in new n ≡ None → page_in old n ≡ None) → after Pages ≡ before Pages → AreCached old cache before → AreCached new cache after
cached_later old new cache before after keeps area cached = record { each = λ n page is none. cached.each n page is (keeps n none) ∙ ap (λ (bytes : ℕ → ℕ). page_bytes bytes n) (sym area) }

-- a journal whose pages moved to their places and into the cache
pub cached_retired : (old new : PageTable) (cache later : Cache) (before after : Image) → AreImages old before → after Pages ≡ applied before
    → ((n : ℕ) (page : List ℕ) → page_behind new later n ≡ Some page → page_behind old cache n ≡ Some page) → AreCached old cache before → AreCached new later after
cached_retired old new cache later before after images in_place shrinks cached = record {
  each = λ n page is none.
      let there : page_behind new later n ≡ Some page = ap (λ (o : Option (List ℕ)). first_page o (bytes_at n (pairs_of later))) none ∙ is in
      behind_stands old cache before n page images cached (shrinks n page there) ∙ ap (λ (bytes : ℕ → ℕ). page_bytes bytes n) (sym in_place);
}

-- a cache without a page
pub cached_none : (journal : PageTable) (cache : Cache) (image : Image) → pairs_of cache ≡ [] → AreCached journal cache image
cached_none journal cache image none = record { each = λ n page is unkept. absurd (none_some (ap (bytes_at n) none) is) }
