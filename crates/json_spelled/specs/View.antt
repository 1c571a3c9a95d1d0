-- The value that a tree stands for.
use Rattle.std.specs.Prelude.{List, map, String, string_bytes}
use Rattle.std.specs.declared.alloc.Global.{Global}
use Rattle.json_spelled.specs.Json.{Json, null, truth, spelled, text, list, object, no_items, no_members, Entry, items_onto, members_onto}
use Rattle.json_spelled.specs.declared.tree.Tree.{Tree, fold-Tree}
use Rattle.json_spelled.specs.declared.tree.Tree.TheOpen.{Tree-F}

-- a name with its value
abbrev pub entry_of : String Global × Json → Entry
entry_of m = (string_bytes m.0, m.1)

-- one level, with each value inside already seen as its own
abbrev pub view_step : Tree-F Json → Json
view_step Tree-F.Null = null
view_step (Tree-F.Truth b) = truth b
view_step (Tree-F.Spelled s) = spelled (string_bytes s)
view_step (Tree-F.Text s) = text (string_bytes s)
view_step (Tree-F.List v) = list (items_onto v.items no_items)
view_step (Tree-F.Members v) = object (members_onto (map entry_of v.items) no_members)

-- the value that a tree stands for
abbrev pub json_of : Tree → Json
json_of = fold-Tree Json view_step

-- the items and the members that vectors stand for
abbrev pub jsons_of : List Tree → List Json
jsons_of trees = map json_of trees

-- the members that a vector stands for
abbrev pub entries_of : List (String Global × Tree) → List Entry
entries_of members = map entry_of (map (λ m. (m.0, json_of m.1)) members)
