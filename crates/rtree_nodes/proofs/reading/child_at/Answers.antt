use Rattle.std.proofs.Common.{◌≡◌, sym, subst}
use Rattle.rtree_nodes.specs.Slots.{Slots, IsChildAt, got, one}
use Rattle.rtree_nodes.proofs.Formed.{form-slots}
use Rattle.rtree_nodes.proofs.Children.{child-read}
use Rattle.rtree_nodes.proofs.reading.child_at.Goals as goal

pub returns-clause-child : goal.returns-clause-child
returns-clause-child c = λ form inner used.
    let Claim : Slots → Type 0 = λ s. got one (s c.args.at) ≡ 1 → IsChildAt s c.args.at c.u32_at.result in
    subst Claim (sym (form-slots c.args.page.now form)) (λ u. child-read c.args.page.now c.args.at c.u32_at.result inner c.requires u c.u32_at.ensures) used.1
