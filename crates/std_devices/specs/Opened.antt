-- The calls made of the two open files of a store.
use Rattle.std.specs.Prelude.{Bool, false, Option, Some, None}
use Rattle.disk_model.specs.declared.disk.Area.{Area}
use Rattle.disk_model.specs.declared.disk.Area.TheVariants.{Pages, Journal}
use Rattle.std_devices.specs.declared.store_files.OpenFiles.{OpenFiles}
use Rattle.std_devices.specs.FileCalls.{Calls}

-- the other area
abbrev pub other : Area → Area
other Pages = Journal
other Journal = Pages

-- the calls made of an area's file, by those made of a file
abbrev pub made_in : {F : Type 0} → (F → Calls) → Area → OpenFiles F → Calls
made_in made Pages files = made files.pages.file
made_in made Journal files = made files.journal.file

-- whether an area's file was found whole since its last sync
abbrev pub whole_in : {F : Type 0} → Area → OpenFiles F → Bool
whole_in Pages files = files.pages.is_whole
whole_in Journal files = files.journal.is_whole

-- the calls made of an area's file, of which nothing is known before it is open
abbrev pub made_of : {F : Type 0} → (F → Calls) → Area → Option (OpenFiles F) → Calls
made_of made area None = None
made_of made area (Some files) = made_in made area files

-- whether an area's file is open and was found whole since its last sync
abbrev pub whole_of : {F : Type 0} → Area → Option (OpenFiles F) → Bool
whole_of area None = false
whole_of area (Some files) = whole_in area files
