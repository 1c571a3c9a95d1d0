use Rattle.std.proofs.Common.{◌≡◌, ℕ, ◌∙◌, ap, sym, slice_index, arith}
use Rattle.rtree_nodes.specs.Slots.{top_to}
use Rattle.node_rows.proofs.Impacts.{top-next, top-none}
use Rattle.node_rows.proofs.slots.greatest.Goals as goal

pub loop-i-init : goal.loop-i-init
loop-i-init c = sym (top-none (λ i. slice_index c.args.row.now i))

pub loop-i-preserved : goal.loop-i-preserved
loop-i-preserved c = let n = top-next c.loop-i.i (λ i. slice_index c.args.row.now i) in let a = c.loop-i.invariant in let b = c.greater-top.ensures in omega arith

pub returns : goal.returns
returns c = let e : c.loop-i.i ≡ 32 = omega arith in c.loop-i.invariant ∙ ap (λ (m : ℕ). top_to m (λ i. slice_index c.args.row.now i)) e
