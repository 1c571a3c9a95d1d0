use Rattle.std.proofs.Common.{◌≤◌, length, option_copied, sym, arith}
use Rattle.std.proofs.lemmas.List.{length-map}
use Rattle.json_spelled.specs.View.{json_of, jsons_of}
use Rattle.json_spelled.specs.Refusals.{level_limit}
use Rattle.geojson_points.proofs.Each.{all_text}
use Rattle.geojson_points.proofs.Sizes.{few_items}
use Rattle.geojson_points.proofs.outcome.take.Goals as goal
use Rattle.geojson_points.proofs.outcome.take.Goals.{In-Some}

-- the text has no more items than bytes
few : (c : In-Some) → length c.in-Some.items.now ≤ length c.args.bytes.now
few c = omega (
  arith,
  length-map c.in-Some.items.now json_of,
  few_items level_limit (json_of c.in-Ok.tree) (jsons_of c.in-Some.items.now) c.args.bytes.now c.in-Ok.ensures.read (sym c.in-Some.ensures),
)

pub each-requires : goal.each-requires
each-requires c = omega (arith, few c, c.requires)

pub returns-in-Ok-each-clause-keys : goal.returns-in-Ok-each-clause-keys
returns-in-Ok-each-clause-keys c = all_text (option_copied c.args.only) 0 (jsons_of c.in-Some.items.now) c.in-Ok-each.taken.items c.in-Ok-each.ensures.said

pub returns-in-Ok-each-clause-few : goal.returns-in-Ok-each-clause-few
returns-in-Ok-each-clause-few c = omega (arith, few (goal.at.returns-in-Ok-each-clause-few c).In-Some, c.in-Ok-each.ensures.len)
