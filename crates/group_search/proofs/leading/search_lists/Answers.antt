use Rattle.std.proofs.Common.{◌≡◌, ◌≤◌, ◌<◌, ◌∙◌, List, [], Vec, Global, get_or, length, sym, subst, arith}
use Rattle.std.proofs.lemmas.List.{length-map, get_or-map}
use Rattle.std.proofs.lemmas.Result.{on_ok_weaker}
use Rattle.std.specs.List.Sorted.{IsPermutation}
use Rattle.spatial_base.specs.Point.{distance}
use Rattle.best_first.specs.Lists.{all_moved}
use Rattle.place_values.specs.declared.query.Pick.{Pick}
use Rattle.place_values.specs.declared.query.Chosen.{Chosen}
use Rattle.place_values.specs.Search.{lists_in}
use Rattle.group_search.specs.declared.packing.Block.{Block}
use Rattle.group_search.specs.declared.bounding.Lead.{Lead}
use Rattle.group_search.specs.Blocks.{ArePacks, packed_lists}
use Rattle.group_search.specs.Choices.{AreCut}
use Rattle.group_search.specs.Leads.{AreLeads, IsBound, AreBounds, Follows, lead_picks}
use Rattle.group_search.specs.Picks.{AreNear, AreMeasured}
use Rattle.group_search.specs.Tried.{IsChosen, IsBetter, IsBest}
use Rattle.group_search.proofs.Blocks.{sorted-all, packed-leads, sorted-leads, searched-best, same-chosen, some-of}
use Rattle.group_search.proofs.leading.search_lists.Goals as goal

pub bounded-requires-clause-packs : goal.bounded-requires-clause-packs
bounded-requires-clause-packs c = subst (ArePacks c.args.at.now) (sym c.deref.ensures.value) (c.in_ok-packs.ensures.blocks c.args.at.now c.requires.measured)

pub bounded-requires-clause-measured : goal.bounded-requires-clause-measured
bounded-requires-clause-measured c = c.list_at-picks.ensures.measured c.args.at.now c.requires.measured

pub follow_bounded-requires-clause-packs : goal.follow_bounded-requires-clause-packs
follow_bounded-requires-clause-packs c = subst (ArePacks c.args.at.now) (sym c.deref-2.ensures.value) (c.in_ok-packs.ensures.blocks c.args.at.now c.requires.measured)

pub follow_bounded-requires-clause-leads : goal.follow_bounded-requires-clause-leads
follow_bounded-requires-clause-leads c =
    subst (λ (l : List Lead). AreNear (lead_picks l)) (sym c.deref-3.ensures.value)
    (sorted-all (λ (pick : Pick). pick.dist ≤ 2545584412) c.list_at-picks.result.now c.in_ok-leads.leads.items c.sort_unstable.new.self.items c.in_ok-leads.ensures.leads c.sort_unstable.ensures.permutation c.list_at-picks.ensures.near)

pub follow_bounded-requires-clause-measured : goal.follow_bounded-requires-clause-measured
follow_bounded-requires-clause-measured c =
    subst (λ (l : List Lead). AreMeasured c.args.at.now (lead_picks l)) (sym c.deref-3.ensures.value)
    (sorted-all (λ (pick : Pick). pick.dist ≡ distance c.args.at.now pick.point) c.list_at-picks.result.now c.in_ok-leads.leads.items c.sort_unstable.new.self.items c.in_ok-leads.ensures.leads c.sort_unstable.ensures.permutation (c.list_at-picks.ensures.measured c.args.at.now c.requires.measured))

pub returns-clause-least : goal.returns-clause-least
returns-clause-least c = λ inside was.
    let at = c.args.at.now in
    let own = c.args.own in
    let lists : List (Vec Pick Global) = c.args.lists.now in
    let packs : List (Vec Block Global) = c.in_ok-packs.packs.items in
    let mine : List (List Pick) = packed_lists packs in
    let same : AreCut (λ pick. Unit {0}) (lists_in lists) mine = c.in_ok-packs.ensures.same in
    let picks : List Pick = c.list_at-picks.result.now in
    let likely : List Lead = c.in_ok-leads.leads.items in
    let sorted : List Lead = c.sort_unstable.new.self.items in
    let moved : IsPermutation likely sorted = c.sort_unstable.ensures.permutation in
    let best : Chosen = c.args.best.now in
    let mid : Chosen = c.bounded.new.best in
    let new : Chosen = c.follow_bounded.new.best in
    let within : own < length (lists_in lists) = omega (arith, length-map lists (λ (list : Vec Pick Global). list.items)) in
    let one : Vec Pick Global = some-of lists own inside in
    let is : picks ≡ get_or (lists_in lists) own [] = c.list_at-picks.ensures.list inside one ∙ sym (get_or-map (λ (list : Vec Pick Global). list.items) lists own one [] inside) in
    let are : AreLeads mine own picks = packed-leads (lists_in lists) mine own picks within same is in
    let here : c.deref.result.now ≡ packs = c.deref.ensures.value in
    let better : IsBetter at mine best mid =
    subst (λ (p : List (Vec Block Global)). IsBetter at (packed_lists p) best mid) here
    (c.in_ok-leads.ensures.chosen (subst (λ (p : List (Vec Block Global)). AreLeads (packed_lists p) own picks) (sym here) are)
    (subst (λ (p : List (Vec Block Global)). IsChosen at (packed_lists p) best) (sym here) (same-chosen at (lists_in lists) mine best same was))) in
    let bounds : AreBounds at mine own likely =
    subst (λ (p : List (Vec Block Global)). AreBounds at (packed_lists p) own likely) here
    (c.in_ok-leads.ensures.bounds (subst (λ (p : List (Vec Block Global)). AreLeads (packed_lists p) own picks) (sym here) are)) in
    let sorted_bounds : AreBounds at mine own sorted = all_moved (λ (lead : Lead). IsBound at mine own lead.least lead.pick) likely sorted moved bounds in
    let sorted_are : AreLeads mine own (lead_picks sorted) = sorted-leads mine own picks likely sorted c.in_ok-leads.ensures.leads moved are in
    let there : c.deref-2.result.now ≡ packs = c.deref-2.ensures.value in
    let those : c.deref-3.result.now ≡ sorted = c.deref-3.ensures.value in
    on_ok_weaker {Q = IsBest at (lists_in lists) best new} c.follow_bounded.result
    (λ h.
    let follows : Follows at mine own (lead_picks sorted) mid new =
    subst (λ (l : List Lead). Follows at mine own (lead_picks l) mid new) those
    (subst (λ (p : List (Vec Block Global)). Follows at (packed_lists p) own (lead_picks c.deref-3.result.now) mid new) there h) in
    searched-best at (lists_in lists) mine own picks likely sorted best mid new within same is c.in_ok-leads.ensures.leads moved better follows)
    (c.follow_bounded.ensures.followed
    (subst (λ (l : List Lead). AreLeads (packed_lists c.deref-2.result.now) own (lead_picks l)) (sym those) (subst (λ (p : List (Vec Block Global)). AreLeads (packed_lists p) own (lead_picks sorted)) (sym there) sorted_are))
    (subst (λ (l : List Lead). AreBounds at (packed_lists c.deref-2.result.now) own l) (sym those) (subst (λ (p : List (Vec Block Global)). AreBounds at (packed_lists p) own sorted) (sym there) sorted_bounds))
    (subst (λ (p : List (Vec Block Global)). IsChosen at (packed_lists p) mid) (sym there) better.chosen))
