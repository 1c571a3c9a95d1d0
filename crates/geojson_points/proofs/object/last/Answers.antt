use Rattle.std.proofs.Common.{◌∙◌, ap, option_map}
use Rattle.geojson_points.proofs.Members.{value_of, last_found}
use Rattle.geojson_points.proofs.object.last.Goals as goal

pub returns-in-Some : goal.returns-in-Some
returns-in-Some c = ap (option_map value_of) c.in-Some.ensures ∙ last_found c.args.name.now c.args.members.now

pub returns-in-None : goal.returns-in-None
returns-in-None c = ap (option_map value_of) c.in-None.ensures ∙ last_found c.args.name.now c.args.members.now
