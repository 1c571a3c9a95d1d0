use Rattle.std.proofs.Common.{◌≡◌, ◌<◌, ◌∙◌, sym, ap, rules, length, get_or}
use Rattle.std.proofs.lemmas.List.{get_or_default}
use Rattle.rtree_nodes.specs.Slots.{Slots, filled, tops}
use Rattle.rtree_nodes.specs.Trees.{with_slot}
use Rattle.rtree_nodes.specs.Stock.{View, view}
use Rattle.rtree_nodes.proofs.Amounts.{with_slot-same}
use Rattle.rtree_nodes.specs.Reach.{reach_of, child_item, origin_rect}
use Rattle.rtree_nodes.specs.Pages.{slots_in, level_in}
use Rattle.irtree_insert.proofs.Counted.{counted-some}
use Rattle.irtree_insert.proofs.Loads.{inner-fits}
use Rattle.irtree_insert.proofs.Links.{rect-equal, some-slot, same-child, link-still, link-wrote}
use Rattle.irtree_insert.proofs.put.widen.Goals as goal

pub returns-then-eq-clause-made : goal.returns-then-eq-clause-made
returns-then-eq-clause-made g c = λ least below rows free draft level same child ready.
    let before : View = view (g.P.Pages.pages c.args.pages.now) rows (g.P.Pages.count c.args.pages.now) (g.P.Pages.first c.args.pages.now) free in
    let long : c.args.at < length c.args.draft.now.rects = search rules in
    let equal : c.args.rect.now ≡ get_or c.args.draft.now.rects c.args.at c.index-draft-at.result = rect-equal _ _ (sym c.eq.ensures ∙ c.if-eq.true) in
    let rect_is = equal ∙ get_or_default c.args.draft.now.rects c.args.at _ origin_rect long in
    let t_is = same-child c.args.draft.now below c.args.at c.args.child c.args.rect.now c.requires.within draft level child rect_is in
    let some = some-slot (slots_in c.args.draft.now.bytes) c.args.at child.item c.requires.within child.is in
    link-still before least below c.args.page (with_slot c.args.at (child_item c.args.rect.now c.args.child) (slots_in c.args.draft.now.bytes)) (reach_of c.bounds.result) ready
    c.args.draft.now.bytes same draft.form level t_is (λ d. c.bounds.ensures draft some d ∙ ap (tops d) (sym t_is))

pub returns-clause-made : goal.returns-clause-made
returns-clause-made g c = λ least below rows free draft level same child ready.
    let fits = inner-fits (level_in c.args.draft.now.bytes) below level in
    let next = c.put.ensures.draft draft fits in
    let t_is = c.put.ensures.slots draft fits in
    let some : 0 < filled (slots_in c.put.new.self.bytes) = some-slot (slots_in c.put.new.self.bytes) c.args.at (child_item c.args.rect.now c.args.child) c.requires.within
    (ap (λ (s : Slots). s c.args.at) t_is ∙ with_slot-same c.args.at (child_item c.args.rect.now c.args.child) (slots_in c.args.draft.now.bytes)) in
    link-wrote (g.P.Pages.pages c.args.pages.now) rows (g.P.Pages.count c.args.pages.now) (g.P.Pages.first c.args.pages.now) free least below c.args.page c.put.new.self.bytes
    (with_slot c.args.at (child_item c.args.rect.now c.args.child) (slots_in c.args.draft.now.bytes)) (reach_of c.bounds-2.result) (counted-some _ c.args.page c.requires.counted) next.form (c.put.ensures.level ∙ level) t_is (λ d. c.bounds-2.ensures next some d ∙ ap (tops d) t_is) ready
    (g.P.Pages.pages c.store.new.pages) (g.P.Pages.count c.store.new.pages) (g.P.Pages.first c.store.new.pages) c.in_ok-store.ensures.written c.in_ok-store.ensures.frame.count c.in_ok-store.ensures.first
