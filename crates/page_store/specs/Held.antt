-- What the pages held in memory say of the disk.
pub use Rattle.page_cache.specs.Pairs.{room_of}
use Rattle.std.specs.Prelude.{◌≡◌, ℕ, List, Some, None}
use Rattle.std.specs.BTreeMap.{IsOrdered}
use Rattle.std.specs.Ordering.{nat_cmp}
use Rattle.disk_model.specs.World.{Image}
use Rattle.disk_model.specs.declared.disk.Area.TheVariants.{Pages, Journal}
use Rattle.page_cache.specs.Pairs.{bytes_at, pairs_of}
use Rattle.page_cache.specs.declared.cache.Cache.{Cache}
use Rattle.page_journal.specs.Record.{IsOverwritten, IsRecordOf, applied, given}
use Rattle.page_cache.specs.Pages.{IsSized, PageTable, first_of, page_in}
use Rattle.page_cache.specs.Rooms.{HasRoomFor, Ordered, Rooms, ordered_page}
use Rattle.page_store.specs.Contents.{page_bytes}

-- Each page of the journal has 4,096 bytes, and a room among those for a checkpoint, which are in order.
pub record AreKept (journal : PageTable) (rooms : Rooms) : Type 0 where
  pub sized : IsSized journal
  pub room : HasRoomFor journal rooms
  pub ordered : IsOrdered nat_cmp rooms

-- A page that the disk stands for is the journal's, and else that of the pages area. The records write each page of the journal whole.
pub record AreImages (journal : PageTable) (image : Image) : Type 0 where
  pub are : (n : ℕ) → page_bytes (applied image) n ≡ first_of (page_in journal n) (page_bytes (image Pages) n)
  pub each : (n : ℕ) (page : List ℕ) → page_in journal n ≡ Some page → IsOverwritten (image Journal) n

-- A cached page is that of the pages area, unless the journal has a later one.
pub record AreCached (journal : PageTable) (cache : Cache) (image : Image) : Type 0 where
  pub each : (n : ℕ) (page : List ℕ) → bytes_at n (pairs_of cache) ≡ Some page → page_in journal n ≡ None → page ≡ page_bytes (image Pages) n

-- The bytes are the record of a table's pages, in the order of their numbers.
pub record IsRecordOfTable (table : PageTable) (bytes : List ℕ) : Type 0 where
  pub ordered : Ordered
  pub ascends : IsOrdered nat_cmp ordered
  pub same : (n : ℕ) → ordered_page ordered n ≡ page_in table n
  pub are : IsRecordOf (given ordered.entries) bytes
