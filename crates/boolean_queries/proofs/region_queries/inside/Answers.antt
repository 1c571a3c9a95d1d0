use Rattle.boolean_queries.proofs.region_queries.inside.Goals as goal

pub returns-clause-found : goal.returns-clause-found
returns-clause-found g c = λ free whole. c.walk.ensures.found c.west-west.ensures.valid (free, whole)

pub returns-clause-no_false_damage : goal.returns-clause-no_false_damage
returns-clause-no_false_damage g c = λ free whole. c.walk.ensures.no_false_damage (free, whole)
