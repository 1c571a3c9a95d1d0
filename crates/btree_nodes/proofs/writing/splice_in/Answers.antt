use Rattle.std.proofs.Common.{arith, ◌+◌, ◌-◌, length, take, drop, replicate, ap, ◌∙◌, ◌++◌, ℕ}
use Rattle.btree_nodes.proofs.Tails.{spliced-in}
use Rattle.btree_nodes.proofs.writing.splice_in.Goals as goal

pub returns : goal.returns
returns c = λ zeros.
    let out = c.args.out.now in
    let f : ℕ = length c.args.first.now in
    let s : ℕ = length c.args.second.now in
    let a = c.move_tail.ensures in
    spliced-in out c.args.first.now c.args.second.now (drop c.args.until (take c.args.size out)) c.move_tail.new.out c.write_at.new.out c.write_at-2.new.out c.args.at c.args.size _ (omega arith) (omega arith)
    (a.front c.args.at (omega arith) (omega arith))
    (a.back zeros ∙ ap (λ (n : ℕ). drop c.args.until (take c.args.size out) ++ replicate n 0) {x = length out - (c.args.at + f + s + (c.args.size - c.args.until))} {y = length out + (c.args.until - c.args.at) - (c.args.size + (f + s))} (omega arith))
    c.write_at.ensures.all c.write_at.ensures.front c.write_at-2.ensures.all
