use Rattle.std.proofs.Common.{◌≡◌, ◌+◌, ◌*◌, rules, sym, ap, ◌∙◌}
use Rattle.rtree_nodes.proofs.Formed.{stored-unused}
use Rattle.rtree_nodes.proofs.Children.{rect_from}
use Rattle.boolean_queries.specs.Near.{near_item, listed}
use Rattle.boolean_queries.proofs.Items.{slot-beyond}
use Rattle.boolean_queries.proofs.near.may_meet.Goals as goal

pub returns-then-not-is_used : goal.returns-then-not-is_used
returns-then-not-is_used c = record {
  far = λ e. ap (listed (near_item c.args.region.now c.args.level)) (stored-unused c.args.page.now c.args.at (sym c.is_used.ensures ∙ c.if-not-is_used.true));
}

pub returns-in-Some : goal.returns-in-Some
returns-in-Some c =
    let here : c.in-Some.rect ≡ rect_from c.args.page.now (16 + 20 * c.args.at) = search rules in
    record {
      far = λ e.
          slot-beyond c.args.region.now c.args.page.now c.args.at c.args.level c.in-Some.rect here
          c.west-west.ensures.valid (sym c.meets.ensures ∙ e) c.requires.within (sym c.is_used.ensures ∙ c.if-not-is_used.false) c.requires.level c.requires.inner;
    }
