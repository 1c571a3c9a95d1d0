use Rattle.std.proofs.Common.{◌≡◌, List, ◌++◌}
use Rattle.json_spelled.specs.Json.{no_members, members_onto}
use Rattle.json_spelled.specs.View.{entries_of}
use Rattle.geojson_points.specs.Gathered.{Gathers}
use Rattle.geojson_points.proofs.Members.{Member}
use Rattle.geojson_points.proofs.text.strings.Given as goal

abbrev pub invariant-loop-name : goal.invariant-loop-name
invariant-loop-name l = (done : List Member) × (l.members ≡ l.name-iterator.iter.rest.now ++ done)
    × Gathers (members_onto (entries_of done) no_members) l.gathered.names l.gathered.strings.items
