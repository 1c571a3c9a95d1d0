use Rattle.std.proofs.Common.{◌≡◌, ℕ, Option, sym, subst}
use Rattle.std.specs.Option.{MatchOption}
use Rattle.rtree_nodes.specs.Reach.{item_of, child_item}
use Rattle.rtree_nodes.specs.declared.content.Slot.{Slot}
use Rattle.rtree_nodes.specs.Entries.{IsShort}
use Rattle.rtree_nodes.proofs.Rounds.{child-kept}
use Rattle.rtree_nodes.proofs.round.child_of.Goals as goal

pub returns-in-Child : goal.returns-in-Child
returns-in-Child c = λ child.
    let r = c.in-Child.rect in
    let p = c.args.point.now in
    subst (λ (s : Slot). MatchOption c.then_some.result (IsShort p (item_of s)) (λ to. (item_of s).to ≡ to)) (sym c.in-Child.is)
    (subst (λ (o : Option ℕ). MatchOption o (IsShort p (child_item r c.in-Child.page)) (λ to. c.in-Child.page ≡ to)) (sym c.then_some.ensures)
    (child-kept r p c.in-Child.page c.holds.result c.west-west.ensures.valid c.holds.ensures.exact.1))
