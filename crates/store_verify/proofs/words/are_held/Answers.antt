use Rattle.store_verify.proofs.Runs.{held-counts}
use Rattle.store_verify.proofs.words.are_held.Goals as goal

pub returns : goal.returns
returns c = λ ascend. held-counts c.args.numbers.now c.args.held.now c.sort_unstable.new.self ascend c.sort_unstable.ensures.permutation c.sort_unstable.ensures.sorted c.are_counts.result (c.are_counts.ensures ascend)
