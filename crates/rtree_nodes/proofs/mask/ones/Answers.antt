use Rattle.std.proofs.Common.{arith, sym}
use Rattle.rtree_nodes.proofs.Masks.{marked-none, marked-more}
use Rattle.rtree_nodes.proofs.mask.ones.Goals as goal

pub loop-i-init : goal.loop-i-init
loop-i-init c = record { is = sym (marked-none c.args.mask); small = omega arith }

pub loop-i-preserved : goal.loop-i-preserved
loop-i-preserved c =
    let more = marked-more c.loop-i.i c.args.mask in
    let so_far = c.loop-i.invariant.is in
    record { is = omega arith; small = omega arith }
