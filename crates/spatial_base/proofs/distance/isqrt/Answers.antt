use Rattle.std.proofs.Common.{arith}
use Rattle.std.proofs.lemmas.Result.{OkIff-at_ok}
use Rattle.spatial_base.specs.RootLaws.{root-is}
use Rattle.spatial_base.proofs.distance.isqrt.Goals as goal

pub returns-in-Ok-clause-value : goal.returns-in-Ok-clause-value
returns-in-Ok-clause-value c =
    let small = (OkIff-at_ok c.try_from.result _ c.args.n c.in-Ok.small c.try_from.ensures c.in-Ok.is).1 in
    root-is c.args.n c.into.result (omega arith) (rw (c.into.ensures, ← small) c.root_of_u64.ensures.root)

pub returns-in-Err-clause-value : goal.returns-in-Err-clause-value
returns-in-Err-clause-value c = root-is c.args.n c.isqrt.result (omega arith) record { square = c.isqrt.ensures.square_le; next = c.isqrt.ensures.next_square_gt }
