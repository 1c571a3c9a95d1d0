-- What a search among choices speaks of.
use Rattle.std.specs.Prelude.{List, ◌++◌, map, Vec}
use Rattle.std.specs.declared.alloc.Global.{Global}
use Rattle.place_values.specs.declared.query.Pick.{Pick}

-- the lists that are kept
abbrev pub lists_in : List (Vec Pick Global) → List (List Pick)
lists_in lists = map (λ list. list.items) lists

-- each of some lists behind a front
abbrev pub fronted : List Pick → List (List Pick) → List (List Pick)
fronted front lists = map (λ rest. front ++ rest) lists
