use Rattle.std.proofs.Common.{arith, ◌≡◌, ◌<◌, ◌^◌, ℕ, List, [], ◌∷◌, length, refl}
use Rattle.std.proofs.lemmas.Bool.Decides.{nat_tests}
use Rattle.page_face.specs.Number.{number}
use Rattle.btree_nodes.specs.Bounds.{upper_of}
use Rattle.btree_nodes.proofs.Numbers.{number_below}
use Rattle.paged_map.proofs.drafting.is_below.Goals as goal

-- an empty bound is above all keys
empty-above : (high : List ℕ) (key n : ℕ) → length high ≡ 0 → key < 256 ^ n → key < upper_of n high
empty-above [] key n e l = l
empty-above (x ∷ xs) key n e l = absurd (omega arith)

pub returns-then-is_empty : goal.returns-then-is_empty
returns-then-is_empty c =
    let none : length c.args.high.now ≡ 0 = grind (arith, nat_tests) in
    (λ t. empty-above c.args.high.now (number c.args.key.now) (length c.args.key.now) none (number_below c.args.key.now (λ i. let f = c.type_inv.key i in omega arith)), λ l. refl)
