use Rattle.std.proofs.Common.{◌<◌, ℕ, refl, subst, sym, arith}
use Rattle.row_codec.specs.declared.counted.Counted.{Counted}
use Rattle.store_verify.proofs.Runs.{below-from, below-all}
use Rattle.store_verify.proofs.words.are_below.Goals as goal

pub returns-then-row-next_word : goal.returns-then-row-next_word
returns-then-row-next_word c = (
  (λ never. absurd (cc)),
  (λ below.
      let first : c.row-item.result.0 < c.args.next_word = subst (λ (r : ℕ × Counted). r.0 < c.args.next_word) (sym c.row-item.is) (below-from c.args.next_word c.args.numbers.now below c.loop-row.row-index c.row-item.result (omega arith)) in
      absurd (omega arith)),
)

pub returns : goal.returns
returns c = ((λ yes'. below-all c.args.next_word c.args.numbers.now (λ k d inside. c.loop-row.invariant k d (omega arith))), (λ below. refl))
