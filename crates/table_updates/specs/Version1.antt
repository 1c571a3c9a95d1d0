-- Which state the pages of a store of version 1 stand for.
use Rattle.std.specs.Prelude.{◌≡◌, ℕ, ◌+◌, ◌≤◌, List, [], ◌∷◌, ◌++◌, length, All}
use Rattle.std.proofs.Common.{lit≤}
use Rattle.std.specs.List.{flat_map}
use Rattle.spatial_base.specs.Key.{Name, IsName}
use Rattle.page_face.specs.FreeList.{PageMap}
use Rattle.page_face.specs.declared.head.Version.TheVariants.{One, Two}
use Rattle.disk_model.specs.World.{Image}
use Rattle.page_store.specs.Contents as stores
use Rattle.page_store.specs.Superblock.{IsInRange, in_version2}
use Rattle.page_store.specs.declared.superblock.Superblock.{Superblock}
use Rattle.btree_nodes.specs.declared.form.Form.{Form}
use Rattle.btree_nodes.specs.Tree.{map_uses}
use Rattle.place_values.specs.State.{Contents, IsSerialAbove}
use Rattle.row_codec.specs.Pairs.{pair_bytes}
use Rattle.row_codec.specs.Stored.{point_bytes}
use Rattle.row_codec.specs.declared.stored.Stored.{Stored}
use Rattle.store_tables.specs.Coded.{IsPlaceValue, key_code}
use Rattle.store_tables.specs.Entries.{Entries}
use Rattle.store_tables.specs.Holding.{HoldsMap}
use Rattle.store_tables.specs.Words.{holders}
use Rattle.store_model.specs.Stands.{TablesStandFor, TreeStands, state_in}

-- the place table of version 1: keys of 66 bytes, values of 585, map 1
abbrev pub places_form_version1 : Form
places_form_version1 = record { key = 66; value = 585; map = 1; some = lit≤ tt; short = lit≤ tt; fits = lit≤ tt }

-- the value of a place's row in version 1: its point, the count of its words, and 64 pairs
unfoldable pub value_of_version1 : Stored → List ℕ
value_of_version1 stored = point_bytes stored.point ++ (stored.count ∷ flat_map pair_bytes stored.pairs)

-- a place of its form, with the empty label
abbrev pub IsPlaceVersion1 : Stored → Type 0
IsPlaceVersion1 stored = IsPlaceValue stored × (stored.label ≡ [])

-- the place table of version 1 holds these places
abbrev pub HoldsPlacesVersion1 : PageMap → ℕ → List (Name × Stored) → Type 0
HoldsPlacesVersion1 = HoldsMap places_form_version1 key_code value_of_version1 IsName IsPlaceVersion1

-- how often the place table of version 1 uses a page
abbrev pub version1_uses : PageMap → ℕ → ℕ → ℕ
version1_uses = map_uses places_form_version1

-- each number is claimed by those of the places that hold it, wherever these stand
abbrev pub claims_of : List (Name × Stored) → ℕ → ℕ → ℕ
claims_of places number counted = holders number places

-- page 0's fields in version 2, with another root of the place map, and another number of live places
abbrev pub with_places : ℕ → ℕ → Superblock → Superblock
with_places root live block = record block { head = record block.head { version = Two; places = root; live = live } }

-- Page 0's fields and the pages counted stand for a state in version 1. The fields are in their ranges. The place table of version 1
-- lists the places, each with the empty label, at most 200,000 of them. The tables of words stand for what these places hold, with an
-- empty place map, beside the pages of the tree, of its rows and of the place table of version 1. The tree stands for the same places,
-- and the state lists them, where each word number is read through the words by number.
pub record PagesStandVersion1 (block : Superblock) (pages : PageMap) (state : Contents) : Type 0 where
  pub version : block.head.version ≡ One
  pub range : IsInRange (in_version2 block)
  pub entries : Entries
  pub others : ℕ → ℕ
  pub places : HoldsPlacesVersion1 pages block.head.places entries.places
  pub tables : TablesStandFor (claims_of entries.places) block.head.number (with_places 0 0 block) pages (λ n. others n + version1_uses pages block.head.places n) (record entries { places = [] })
  pub tree : TreeStands block.head pages entries others
  pub serials : All (λ (e : Name × Stored). IsSerialAbove block.head.serial e.0) entries.places
  pub live : block.head.live ≡ length entries.places
  pub few : block.head.live ≤ 200000
  pub is : state ≡ state_in entries block.head.serial block.head.number

-- The image stands for a state in version 1: with its journal applied, its pages do.
pub record StandsVersion1 (image : Image) (state : Contents) : Type 0 where
  pub contents : stores.Contents
  pub holds : stores.HoldsContents contents image
  pub stand : PagesStandVersion1 contents.block contents.pages state
