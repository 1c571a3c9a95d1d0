use Rattle.std.proofs.Common.{◌≡◌, ◌≤◌, ℕ, List, subst, arith}
use Rattle.std.proofs.lemmas.List.{take_all}
use Rattle.spatial_base.specs.Point.{distance}
use Rattle.place_values.specs.declared.query.Pick.{Pick}
use Rattle.place_values.specs.declared.query.Chosen.{Chosen}
use Rattle.group_search.specs.declared.bounding.Lead.{Lead}
use Rattle.group_search.specs.Blocks.{packed_lists}
use Rattle.group_search.specs.Leads.{Follows, lead_picks}
use Rattle.group_search.proofs.Blocks.{passed-dear, passed-behind, followed-more, last-more, last-now, lead-pick-member, one-lead}
use Rattle.group_search.proofs.Leads.{none-follows}
use Rattle.group_search.proofs.leading.follow_bounded.Goals as goal
use Rattle.boolean_queries.proofs.Histories.{all-contained}

pub loop-lead-init : goal.loop-lead-init
loop-lead-init c = record {
  followed = λ are bounds was. none-follows c.args.at.now (packed_lists c.args.packs.now) c.args.own c.args.best.now was;
  last = tt;
  cost = omega arith;
}

pub loop-lead-preserved-then-lead-best : goal.loop-lead-preserved-then-lead-best
loop-lead-preserved-then-lead-best c =
    let h = c.loop-lead.invariant in
    let lists = packed_lists c.args.packs.now in
    let leads : List Lead = c.args.leads.now in
    let lead : Lead = c.lead-item.result in
    let at : ℕ = c.loop-lead.lead-index in
    let best : Chosen = c.loop-lead.best in
    record {
      followed = λ are bounds was. passed-dear c.args.at.now lists c.args.own leads at lead c.loop-lead-test.true c.lead-item.is c.args.best.now best bounds (omega (arith, c.if-lead-best.true)) (h.followed are bounds was);
      last = last-more c.args.at.now lists c.args.own leads at lead c.loop-lead-test.true c.lead-item.is c.loop-lead.last h.last;
      cost = h.cost;
    }

pub loop-lead-preserved-then-is_behind : goal.loop-lead-preserved-then-is_behind
loop-lead-preserved-then-is_behind c =
    let h = c.loop-lead.invariant in
    let lists = packed_lists c.args.packs.now in
    let leads : List Lead = c.args.leads.now in
    let lead : Lead = c.lead-item.result in
    let at : ℕ = c.loop-lead.lead-index in
    let best : Chosen = c.loop-lead.best in
    record {
      followed = λ are bounds was. passed-behind c.args.at.now lists c.args.own leads at lead c.loop-lead-test.true c.lead-item.is c.loop-lead.last c.args.best.now best h.last (c.is_behind.ensures c.if-is_behind.true) (h.followed are bounds was);
      last = last-more c.args.at.now lists c.args.own leads at lead c.loop-lead-test.true c.lead-item.is c.loop-lead.last h.last;
      cost = h.cost;
    }

pub loop-lead-preserved : goal.loop-lead-preserved
loop-lead-preserved c =
    let h = c.loop-lead.invariant in
    let at = c.args.at.now in
    let own = c.args.own in
    let lists = packed_lists c.args.packs.now in
    let leads : List Lead = c.args.leads.now in
    let lead : Lead = c.lead-item.result in
    let index : ℕ = c.loop-lead.lead-index in
    let best : Chosen = c.loop-lead.best in
    let new : Chosen = c.follow_in.new.best in
    let member = lead-pick-member at lists own leads index lead c.loop-lead-test.true c.lead-item.is in
    record {
      followed = λ are bounds was.
          let so_far = h.followed are bounds was in
          followed-more at lists own leads index lead c.loop-lead-test.true c.lead-item.is c.args.best.now best new so_far (c.in_ok-follow_in.ensures.followed (one-lead lists own (lead_picks leads) lead.pick are member) so_far.chosen);
      last = last-now at lists own leads index lead c.loop-lead-test.true c.lead-item.is;
      cost = omega (arith, c.in_ok-follow_in.ensures.cost, h.cost);
    }

pub follow_in-requires-clause-anchor : goal.follow_in-requires-clause-anchor
follow_in-requires-clause-anchor c =
    let lists = packed_lists c.args.packs.now in
    let leads : List Lead = c.args.leads.now in
    let lead : Lead = c.lead-item.result in
    all-contained (λ (pick : Pick). pick.dist ≤ 2545584412) (lead_picks leads) lead.pick c.requires.leads (lead-pick-member c.args.at.now lists c.args.own leads c.loop-lead.lead-index lead c.loop-lead-test.true c.lead-item.is)

pub follow_in-requires-clause-anchor_measured : goal.follow_in-requires-clause-anchor_measured
follow_in-requires-clause-anchor_measured c =
    let lists = packed_lists c.args.packs.now in
    let leads : List Lead = c.args.leads.now in
    let lead : Lead = c.lead-item.result in
    all-contained (λ (pick : Pick). pick.dist ≡ distance c.args.at.now pick.point) (lead_picks leads) lead.pick c.requires.measured (lead-pick-member c.args.at.now lists c.args.own leads c.loop-lead.lead-index lead c.loop-lead-test.true c.lead-item.is)

pub returns-clause-followed : goal.returns-clause-followed
returns-clause-followed c = λ are bounds was.
    subst (λ (l : List Lead). Follows c.args.at.now (packed_lists c.args.packs.now) c.args.own (lead_picks l) c.args.best.now c.loop-lead.best) (take_all c.loop-lead.lead-index c.args.leads.now c.loop-lead-test.false)
    (c.loop-lead.invariant.followed are bounds was)
