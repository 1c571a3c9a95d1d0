use Rattle.place_values.proofs.Rarities.{weighed}
use Rattle.place_values.proofs.rare.rarity.Goals as goal

pub returns-clause-weight : goal.returns-clause-weight
returns-clause-weight c = weighed c.args.live c.args.count c.ilog2.result c.min.result c.if-count-eq0.false c.ilog2.ensures.power_le c.ilog2.ensures.next_power_gt c.min.ensures
