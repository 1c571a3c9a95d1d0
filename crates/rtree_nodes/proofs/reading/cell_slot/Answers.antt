use Rattle.std.proofs.Common.{◌≡◌, ◌↔◌, ◌<◌, Bool, true, sym, subst, arith}
use Rattle.std.specs.Prelude.{IfSome, IsSome}
use Rattle.rtree_nodes.specs.Slots.{Item}
use Rattle.rtree_nodes.specs.Reach.{item_of}
use Rattle.rtree_nodes.specs.Pages.{level_in}
use Rattle.rtree_nodes.proofs.Children.{leaf-form, leaf-item, inner-form, inner-item}
use Rattle.rtree_nodes.proofs.reading.cell_slot.Goals as goal

pub returns-then-level_of-eq0-clause-some : goal.returns-then-level_of-eq0-clause-some
returns-then-level_of-eq0-clause-some c =
    let z : level_in c.args.page.now ≡ 0 = omega (arith, c.level_of.ensures) in
    subst (λ (b : Bool). IsSome c.place_at.result ↔ (b ≡ true)) (sym (leaf-form c.args.page.now c.args.at z)) c.place_at.ensures.some

pub returns-then-level_of-eq0-clause-item : goal.returns-then-level_of-eq0-clause-item
returns-then-level_of-eq0-clause-item c =
    let z : level_in c.args.page.now ≡ 0 = omega (arith, c.level_of.ensures) in
    subst (λ (x : Item). IfSome c.place_at.result (λ slot. item_of slot ≡ x)) (sym (leaf-item c.args.page.now c.args.at z)) c.place_at.ensures.item

pub returns-else-level_of-eq0-clause-some : goal.returns-else-level_of-eq0-clause-some
returns-else-level_of-eq0-clause-some c =
    let some : 0 < level_in c.args.page.now = omega (arith, c.level_of.ensures) in
    subst (λ (b : Bool). IsSome c.child_in.result ↔ (b ≡ true)) (sym (inner-form c.args.page.now c.args.at some)) c.child_in.ensures.some

pub returns-else-level_of-eq0-clause-item : goal.returns-else-level_of-eq0-clause-item
returns-else-level_of-eq0-clause-item c =
    let some : 0 < level_in c.args.page.now = omega (arith, c.level_of.ensures) in
    subst (λ (x : Item). IfSome c.child_in.result (λ slot. item_of slot ≡ x)) (sym (inner-item c.args.page.now c.args.at some)) c.child_in.ensures.item
