use Rattle.std.proofs.Common.{◌≡◌, ◌+◌, ◌*◌, rules, sym, ap, ◌∙◌}
use Rattle.rtree_nodes.proofs.Formed.{stored-unused}
use Rattle.rtree_nodes.proofs.Children.{point_from}
use Rattle.boolean_queries.specs.Near.{near_item, listed}
use Rattle.boolean_queries.proofs.Items.{slot-far}
use Rattle.boolean_queries.proofs.near.may_have.Goals as goal

pub returns-then-not-is_used : goal.returns-then-not-is_used
returns-then-not-is_used c = record {
  far = λ e leaf. ap (listed (near_item c.args.region.now 0)) (stored-unused c.args.page.now c.args.at (sym c.is_used.ensures ∙ c.if-not-is_used.true));
}

pub returns-in-Some : goal.returns-in-Some
returns-in-Some c =
    let here : c.in-Some.point ≡ point_from c.args.page.now (16 + 74 * c.args.at) = search rules in
    record {
      far = λ e leaf.
          slot-far c.args.region.now c.args.page.now c.args.at c.in-Some.point here
          c.has.ensures.on (sym c.has.ensures.has ∙ e) c.requires (sym c.is_used.ensures ∙ c.if-not-is_used.false) leaf;
    }
