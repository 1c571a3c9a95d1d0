use Rattle.std.proofs.Common.{◌≡◌, map, take, length, option_copied}
use Rattle.json_spelled.specs.View.{jsons_of}
use Rattle.geojson_points.specs.Takes.{SaysEach, item_of}
use Rattle.geojson_points.proofs.outcome.each.Given as goal

abbrev pub invariant-loop-index : goal.invariant-loop-index
invariant-loop-index l = (length l.taken.items ≡ l.index) × SaysEach (option_copied l.only) 0 (jsons_of (take l.index l.items)) (map item_of l.taken.items)
