-- Where the pages in memory lie, and what is known of them.
use Rattle.std.specs.Prelude.{◌≡◌, ◌%◌, ◌==◌, if◌then◌else◌, ℕ, List, Option, Some, None, slice_index_or}
use Rattle.page_face.specs.Sound.{IsSound}
use Rattle.page_face.specs.declared.seal.Seal.{Seal}
use Rattle.page_cache.specs.Pairs.{bytes_at, first_bytes, pairs_of}
use Rattle.page_cache.specs.declared.cache.Cache.{Cache}
use Rattle.page_cache.specs.Pages.{PageTable, first_of, first_page, page_at, page_in}
use Rattle.page_cache.specs.declared.place.Place.{Place}
use Rattle.page_cache.specs.declared.place.Place.TheVariants as places
use Rattle.page_cache.specs.declared.seals.Seals.{Seals}
use Rattle.page_cache.specs.declared.seals.SealedPage.{SealedPage}

-- the page of the journal, or else of the cache
abbrev pub page_behind : PageTable → Cache → ℕ → Option (List ℕ)
page_behind journal cache n = first_page (page_in journal n) (bytes_at n (pairs_of cache))

-- the page of the overlay, or else of the journal, or else of the cache
abbrev pub held_page : PageTable → PageTable → Cache → ℕ → Option (List ℕ)
held_page overlay journal cache n = first_page (page_in overlay n) (page_behind journal cache n)

-- the page looked at last, by where it lies
abbrev pub looked_page : Place → PageTable → PageTable → Cache → List ℕ → List ℕ
looked_page (places.Overlay index) overlay journal cache spare = first_of (page_at overlay index) spare
looked_page (places.Journal index) overlay journal cache spare = first_of (page_at journal index) spare
looked_page places.Cache overlay journal cache spare = first_of (first_bytes (pairs_of cache)) spare
looked_page places.Spare overlay journal cache spare = spare

-- the seal in a slot, if the slot is this page's
abbrev pub seal_in : ℕ → Option SealedPage → Option Seal
seal_in n (Some sealed) = if sealed.page == n then Some (record { map = sealed.map; key = sealed.key; value = sealed.value; level = sealed.level }) else None
seal_in n None = None

-- what a page is sealed as, by the one slot that may have its seal
abbrev pub seal_of : Seals → ℕ → Option Seal
seal_of seals n = seal_in n (slice_index_or seals.slots.items (n % 65536) None)

-- Each seal is true of the page that is held at its number.
pub record AreTrue (seals : Seals) (overlay : PageTable) (journal : PageTable) (cache : Cache) : Type 0 where
  pub each : (n : ℕ) (seal : Seal) (page : List ℕ) → seal_of seals n ≡ Some seal → held_page overlay journal cache n ≡ Some page → IsSound seal page
