-- What is shown of a key over any image.
use Rattle.std.specs.Prelude.{Option}
use Rattle.page_store.specs.Contents as stores
use Rattle.place_values.specs.declared.place.Place.{Place}
use Rattle.spatial_base.specs.Key.{Name}
use Rattle.store_model.specs.Stands.{tables_in}
use Rattle.table_updates.specs.Shown.{IsPlaceFound}

-- the place, or none, that the tables of these pages have at a key, by ways on which each page keeps the rules in its place
abbrev pub IsShownBy : stores.Contents → Name → Option Place → Type 0
IsShownBy held key = IsPlaceFound held.pages held.block.counted (tables_in held.block.head) key
