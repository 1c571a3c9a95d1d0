-- What the areas of a station in memory hold.
use Rattle.std.specs.Prelude.{◌≡◌, ℕ, ◌+◌, ◌-◌, ◌<◌, ◌≤◌, List, [], length, slice_index}
use Rattle.disk_model.specs.declared.areas.Areas.{Areas}
use Rattle.disk_model.specs.declared.disk.Area.{Area}
use Rattle.disk_model.specs.declared.disk.Area.TheVariants.{Pages, Journal}
use Rattle.disk_model.specs.World.{Image}
use Rattle.disk_model.specs.Replay.{State}

-- each area is a list of bytes, and zeros behind it
abbrev pub stored : List ℕ → List ℕ → Image
stored pages journal Pages i = slice_index pages i
stored pages journal Journal i = slice_index journal i

-- the image that the areas hold
abbrev pub image_of : Areas → Image
image_of areas = stored areas.pages.items areas.journal.items

-- the bytes kept of an area
abbrev pub bytes_of : Areas → Area → List ℕ
bytes_of areas Pages = areas.pages.items
bytes_of areas Journal = areas.journal.items

-- nothing pending, all of it safe, and nothing said
abbrev pub first_state : Areas → State
first_state areas = record { seen = image_of areas; pending = []; safe = image_of areas; said = [] }

-- new is old with these bytes at a place within it
pub record Put (at : ℕ) (bytes old new : List ℕ) : Type 0 where
  pub below : (i : ℕ) → i < at → slice_index new i ≡ slice_index old i
  pub inside : (i : ℕ) → at ≤ i → i < at + length bytes → slice_index new i ≡ slice_index bytes (i - at)
  pub above : (i : ℕ) → at + length bytes ≤ i → slice_index new i ≡ slice_index old i
