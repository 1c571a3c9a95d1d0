use Rattle.std.proofs.Common.{arith, refl}
use Rattle.split_policy.proofs.Best.{greatest-first}
use Rattle.split_policy.proofs.Bits.{first-used}
use Rattle.text_policy.proofs.sharing.most_shared.Goals as goal

pub loop-slot-init : goal.loop-slot-init
loop-slot-init c =
    let first = first-used c.args.used c.requires (omega arith) in
    record { most = refl; best = greatest-first _ _ _ first.0 first.1 }
