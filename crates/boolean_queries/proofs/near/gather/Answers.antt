use Rattle.std.proofs.Common.{ap, sym, ◌∙◌, ◌++◌, ℕ, List, map}
use Rattle.rtree_nodes.specs.Pages.{stored_in}
use Rattle.best_first.specs.declared.item.Item as best
use Rattle.boolean_queries.specs.declared.near.Near.{Near}
use Rattle.boolean_queries.specs.Near.{in_order, alone_in, is_near, numbered, near_slot}
use Rattle.boolean_queries.proofs.Lists.{in-order-none, in-order-more}
use Rattle.boolean_queries.proofs.Items.{alone-near, marks-begun, marks-more}
use Rattle.boolean_queries.proofs.near.gather.Goals as goal

pub loop-at-init : goal.loop-at-init
loop-at-init c = record {
  near = c.clear.ensures.items ∙ sym (in-order-none (near_slot c.args.region.now c.args.level (stored_in c.args.page.now)));
  slots = λ i l. marks-begun (λ k. is_near c.args.region.now c.args.level (stored_in c.args.page.now k)) i;
}

pub loop-at-preserved : goal.loop-at-preserved
loop-at-preserved c =
    let at : ℕ = c.loop-at.at in
    let stored = stored_in c.args.page.now in
    let each = near_slot c.args.region.now c.args.level stored in
    record {
      near = c.in_ok-add_near.ensures.near
          ∙ ap (λ (l : List Near). l ++ map (numbered at) (alone_in c.in-Ok.item)) c.loop-at.invariant.near
          ∙ ap (λ (l : List best.Item). in_order at each ++ map (numbered at) l) c.in-Ok.ensures.near
          ∙ sym (in-order-more at each);
      slots = marks-more c.loop-at.mask c.with_slot-mask.result at (λ k. is_near c.args.region.now c.args.level (stored k)) c.is_some.result
          (c.is_some.ensures ∙ alone-near c.args.region.now c.args.level (stored at) c.in-Ok.item c.in-Ok.ensures.near) c.with_slot-mask.ensures.here c.with_slot-mask.ensures.others c.loop-at.invariant.slots c.loop-at-test.true;
    }
