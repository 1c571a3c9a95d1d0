use Rattle.boolean_queries.proofs.Items.{slot-place-in, slot-place-out, slot-child-in, slot-child-out}
use Rattle.std.proofs.Common.{sym, ◌∙◌}
use Rattle.boolean_queries.proofs.near.item_in.Goals as goal

pub returns-then-has : goal.returns-then-has
returns-then-has c =
    slot-place-in c.args.region.now c.args.slot.now c.in-Place.point c.in-Place.key c.args.level c.hit.result c.in-Place.is c.requires c.has.ensures.on c.hit.ensures.name (sym c.has.ensures.has ∙ c.if-has.true) c.hit.ensures.hit

pub returns-else-has : goal.returns-else-has
returns-else-has c =
    slot-place-out c.args.region.now c.args.slot.now c.in-Place.point c.in-Place.key c.args.level c.in-Place.is c.requires c.has.ensures.on (sym c.has.ensures.has ∙ c.if-has.false)

pub returns-then-meets : goal.returns-then-meets
returns-then-meets c =
    slot-child-in c.args.region.now c.args.slot.now c.in-Child.rect c.in-Child.page c.args.level c.in-Child.is c.requires c.west-west.ensures.valid (sym c.meets.ensures ∙ c.if-meets.true)

pub returns-else-meets : goal.returns-else-meets
returns-else-meets c =
    slot-child-out c.args.region.now c.args.slot.now c.in-Child.rect c.in-Child.page c.args.level c.in-Child.is c.requires c.west-west.ensures.valid (sym c.meets.ensures ∙ c.if-meets.false)
