use Rattle.std.proofs.Common.{arith, ◌≡◌, ◌+◌, ◌-◌, ℕ, ◌∙◌, ap, length, take, drop, List, subst, ◌++◌, length-take-le, length-drop}
use Rattle.std.proofs.lemmas.List.{take_rest}
use Rattle.btree_nodes.proofs.Writes.{spliced}
use Rattle.btree_nodes.proofs.writing.splice.Goals as goal

pub returns : goal.returns
returns c =
    let cells : List ℕ = c.args.cells.now in
    let n = c.args.at + length c.args.first.now + length c.args.second.now in
    let front : 0 + length (take c.args.at cells) ≡ c.args.at = omega (arith, length-take-le c.args.at cells (omega arith)) in
    let rest : length (take (length cells - c.args.until) (drop c.args.until cells)) ≡ length cells - c.args.until = ap length (take_rest cells c.args.until) ∙ length-drop c.args.until cells in
    spliced cells c.args.first.now c.args.second.now c.write_at.new.out c.write_at-2.new.out c.write_at-3.new.out c.write_at-4.new.out c.args.at c.args.until (omega arith) (omega arith) (omega arith)
    (subst (λ (k : ℕ). take k c.write_at.new.out ≡ take c.args.at cells) front c.write_at.ensures.front)
    c.write_at-2.ensures.front c.write_at-3.ensures.front
    (subst (λ (k : ℕ). take (n + k) c.write_at-4.new.out ≡ take n c.write_at-3.new.out ++ drop c.args.until cells) rest
    (c.write_at-4.ensures.front ∙ ap (λ (x : List ℕ). take n c.write_at-3.new.out ++ x) (take_rest cells c.args.until)))
