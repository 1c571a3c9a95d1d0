-- What the pages stand for while places are carried over.
use Rattle.std.specs.Prelude.{◌≡◌, ◌⊎◌, ℕ, ◌+◌, List, ◌++◌, length, map, All}
use Rattle.spatial_base.specs.Key.{Name}
use Rattle.page_face.specs.FreeList.{PageMap}
use Rattle.page_face.specs.declared.fault.Damage.{Damage}
use Rattle.page_face.specs.declared.fault.Rule.TheVariants.{Counts}
use Rattle.page_face.specs.declared.head.Head.{Head}
use Rattle.page_store.specs.declared.superblock.Superblock.{Superblock}
use Rattle.btree_nodes.specs.Damages.{AskedSince, IsRefusedTake}
use Rattle.btree_nodes.specs.Rows.{IsWithin}
use Rattle.place_values.specs.State.{IsSerialAbove}
use Rattle.row_codec.specs.declared.stored.Stored.{Stored}
use Rattle.store_tables.specs.Coded.{key_code, place_row, row_by}
use Rattle.store_tables.specs.Entries.{Entries}
use Rattle.store_model.specs.Stands.{TablesStandFor, TreeStands}
use Rattle.table_updates.specs.Version1.{HoldsPlacesVersion1, claims_of, value_of_version1, version1_uses, with_places}

-- page 0's fields: the pages counted, the first free page, and the head
abbrev pub block_of : ℕ → ℕ → Head → Superblock
block_of count first head = record { counted = count; first_free = first; head = head }

-- The tables stand for the places that were carried over, beside the pages of the tree, of its rows and of the map of version 1, which is
-- at `root` and holds the rest. Each word is counted for all of the places, and the tree stands for all of them.
pub record StandBeside (block : Superblock) (pages : PageMap) (others : ℕ → ℕ) (entries : Entries) (root : ℕ) (carried rest : List (Name × Stored)) : Type 0 where
  pub places : HoldsPlacesVersion1 pages root rest
  pub tables : TablesStandFor (claims_of entries.places) block.head.number (with_places block.head.places (length carried) block) pages (λ n. others n + version1_uses pages root n) (record entries { places = carried })
  pub tree : TreeStands block.head pages entries others

-- All places but the last ones, so many as are left, were carried over so, in the order of their keys.
pub record StandBetween (block : Superblock) (pages : PageMap) (others : ℕ → ℕ) (entries : Entries) (root left : ℕ) : Type 0 where
  pub carried : List (Name × Stored)
  pub rest : List (Name × Stored)
  pub all : carried ++ rest ≡ entries.places
  pub left_are : length rest ≡ left
  pub stand : StandBeside block pages others entries root carried rest
  pub middle : ℕ
  pub high : ℕ
  pub below : IsWithin 0 middle (map place_row carried)
  pub above : IsWithin middle high (map (row_by key_code value_of_version1) rest)
  pub serials : All (λ (e : Name × Stored). IsSerialAbove block.head.serial e.0) entries.places

-- whichever page it is
abbrev pub any_page : ℕ → ℕ
any_page page = 1

-- the number of live places disagrees with the place map
abbrev pub counts_disagree : Damage
counts_disagree = record { page = 0; rule = Counts }

-- Why carrying over finds damage: at a page that was asked for, as a take of a page refuses, or since page 0 counts other places than
-- the place map has.
abbrev pub IsCarryingDamage : PageMap → ℕ → ℕ → List ℕ → List ℕ → Damage → Type 0
IsCarryingDamage pages count first before asked damage =
    AskedSince before asked damage.page ⊎ IsRefusedTake pages count first damage ⊎ (damage ≡ counts_disagree)
