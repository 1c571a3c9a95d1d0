-- The entry of a place, as it is handed to a tree.
use Rattle.spatial_base.specs.Key.{Name}
use Rattle.row_codec.specs.declared.stored.Stored.{Stored}
use Rattle.split_condense.specs.declared.entry.Entry.{Entry}

-- the entry of a key's place
abbrev pub entry_for : Name → Stored → Entry
entry_for key stored = record { key = key; point = stored.point; count = stored.count; pairs = stored.pairs }
