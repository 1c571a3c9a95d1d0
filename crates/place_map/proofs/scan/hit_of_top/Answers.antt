use Rattle.std.proofs.Common.{sym, ◌∙◌}
use Rattle.place_map.proofs.Relevance.{irrelevant, gives_top}
use Rattle.place_map.proofs.scan.hit_of_top.Goals as goal

pub returns-then-text-eq0 : goal.returns-then-text-eq0
returns-then-text-eq0 c =
    sym (irrelevant c.args.at.now c.args.alpha c.args.reach c.args.words.now (c.args.key.now, c.args.place.now) c.requires.words.weights (sym c.relevance_of-text.ensures ∙ c.if-text-eq0.true))

pub returns : goal.returns
returns c =
    sym
    (gives_top c.args.at.now c.args.alpha c.args.reach c.args.words.now (c.args.key.now, c.args.place.now) c.requires.words.weights c.cost_of.result c.sum_of_weights.result c.dist-dist.result c.relevance_of-text.result c.if-text-eq0.false c.cost_of.ensures.cost c.sum_of_weights.ensures.sum c.dist-dist.ensures.value c.relevance_of-text.ensures)
