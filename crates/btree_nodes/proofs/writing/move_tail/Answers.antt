use Rattle.std.proofs.Common.{rules, arith, ◌+◌, ◌-◌, ℕ, replicate, ap, ◌∙◌}
use borrow.Rule.Slice.PartMut.{mid_len}
use Rattle.btree_nodes.proofs.Tails.{moved-back, moved-front}
use Rattle.btree_nodes.proofs.writing.move_tail.Goals as goal

pub returns-then-end-size-clause-back : goal.returns-then-end-size-clause-back
returns-then-end-size-clause-back c = λ zeros.
    let end : ℕ = c.args.to + (c.args.size - c.args.from) in
    let long = c.copy_within.ensures.len in
    moved-front c.args.out.now c.args.size c.args.from c.args.to (omega arith) (omega arith) (omega arith) zeros c.copy_within.new.self c.copy_within.ensures.after c.fill.new.self (omega arith)
    (c.fill.ensures.after (search rules) ∙ ap (λ (n : ℕ). replicate n 0) (mid_len end c.args.size c.copy_within.new.self (omega arith)))

pub returns-else-end-size-clause-back : goal.returns-else-end-size-clause-back
returns-else-end-size-clause-back c = λ zeros.
    moved-back c.args.out.now c.args.size c.args.from c.args.to (omega arith) (omega arith) (omega arith) zeros c.copy_within.new.self c.copy_within.ensures.after (omega arith)
