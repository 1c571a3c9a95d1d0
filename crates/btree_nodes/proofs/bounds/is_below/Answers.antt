use Rattle.std.proofs.Common.{arith, refl, ◌≡◌, length}
use Rattle.std.proofs.lemmas.Bool.Decides.{nat_tests}
use Rattle.btree_nodes.proofs.Checks.{below-none}
use Rattle.btree_nodes.proofs.bounds.is_below.Goals as goal

pub returns-then-is_empty : goal.returns-then-is_empty
returns-then-is_empty c =
    let none : length c.args.high.now ≡ 0 = grind (arith, nat_tests, c.if-is_empty.ensures) in
    (λ h. below-none c.args.key.now c.args.high.now (λ i. let f = c.type_inv.key i in omega arith) none, λ h. refl)
