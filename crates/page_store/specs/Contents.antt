-- What a store holds: page 0's fields and the pages counted.
pub use Rattle.page_cache.specs.Pages.{IsSized, first_of, first_page, page_in}
use Rattle.std.specs.Prelude.{◌≡◌, ◌⊎◌, ℕ, ◌+◌, ◌*◌, Bool, true, List, [], map, cond, nat_lt, ◌==◌, if◌then◌else◌}
use Rattle.std.specs.List.{range_with_len}
use Rattle.disk_model.specs.World.{World, Image}
use Rattle.page_face.specs.FreeList.{PageMap}
use Rattle.page_cache.specs.Pages.{PageTable}
use Rattle.page_journal.specs.Record.{StandsFor, IsReady, applied}
use Rattle.page_store.specs.declared.superblock.Superblock.{Superblock}
use Rattle.page_face.specs.declared.head.Version.TheVariants.{One}
use Rattle.page_store.specs.Superblock.{superblock_in, in_version2, IsInRange, IsPageOfVersion1, IsStorePage}

-- the 4,096 bytes of a page of the area Pages
unfoldable pub page_bytes : (ℕ → ℕ) → ℕ → List ℕ
page_bytes area n = map (λ i. area (4096 * n + i)) (range_with_len 0 4096)

-- the pages from 1 up to those counted; no byte for any other
abbrev pub counted_pages : ℕ → PageMap → PageMap
counted_pages count pages n = if n == 0 then [] else if nat_lt n count then pages n else []

-- page 0's fields and the pages counted
pub record Contents : Type 0 where
  pub block : Superblock
  pub pages : PageMap

-- what pages hold
abbrev pub contents_in : (ℕ → ℕ) → Contents
contents_in area =
    let block = superblock_in (page_bytes area 0) in
    record { block = block; pages = counted_pages block.counted (page_bytes area) }

-- pages that are written and not yet committed
abbrev pub Overlay : Type 0
Overlay = PageTable

-- the pages of an overlay, and behind them those that the disk stands for, where it tells them
abbrev pub shown : Bool → (ℕ → ℕ) → Overlay → PageMap
shown readable area overlay n = first_of (page_in overlay n) (cond readable (page_bytes area n) [])

-- where these fields are those of a store of version 1 in their ranges, this page 0 is one of such a store
abbrev pub IsVersion1Page : Superblock → List ℕ → Type 0
IsVersion1Page block page = block.head.version ≡ One → IsInRange (in_version2 block) → IsPageOfVersion1 page

-- The disk is as a commit leaves it: nothing is pending, the next record of the journal begins here, and page 0 of the pages that the
-- disk stands for has these fields.
pub record IsCommitted (block : Superblock) (at : ℕ) (world : World) : Type 0 where
  pub ready : IsReady at world
  pub head : superblock_in (page_bytes (applied world.seen) 0) ≡ block
  pub page : IsInRange block → IsStorePage (page_bytes (applied world.seen) 0)
  pub version1 : IsVersion1Page block (page_bytes (applied world.seen) 0)

-- The image stands for pages with these contents. Where page 0's fields are in their ranges, its page 0 is one of a store of their version.
pub record HoldsContents (contents : Contents) (image : Image) : Type 0 where
  pub area : ℕ → ℕ
  pub stands : StandsFor image area
  pub holds : contents_in area ≡ contents
  pub page : IsInRange contents.block → IsStorePage (page_bytes area 0)
  pub version1 : IsVersion1Page contents.block (page_bytes area 0)

-- what an overlay holds over an area, with page 0's fields as they stand
abbrev pub contents_of : (ℕ → ℕ) → Overlay → Superblock → Contents
contents_of area overlay block = record { block = block; pages = counted_pages block.counted (shown true area overlay) }

-- the image holds one or the other of two contents, and nothing was said
abbrev pub HoldsOneOf : Contents → Contents → World → Image → List ℕ → Type 0
HoldsOneOf before after old image said = (HoldsContents before image ⊎ HoldsContents after image) × (said ≡ old.said)
