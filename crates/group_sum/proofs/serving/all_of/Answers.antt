use Rattle.std.proofs.Common.{◌≡◌, ◌+◌, ◌++◌, ◌∷◌, [], ◌∙◌, ◌&&◌, ℕ, Bool, List, nat_lt, length, sym, ap, take, arith}
use Rattle.std.proofs.lemmas.List.{take_more, take_all}
use Rattle.group_sum.specs.Held.{holds_all}
use Rattle.group_sum.proofs.Held.{held-more, no-words}
use Rattle.group_sum.proofs.serving.all_of.Goals as goal

pub loop-word-preserved : goal.loop-word-preserved
loop-word-preserved c =
    let words : List (List ℕ) = c.args.words.now in
    let at : ℕ = c.loop-word.word-index in
    let word : List ℕ = c.word-item.result in
    let more : take (at + 1) words ≡ take at words ++ word ∷ [] = take_more words at word c.loop-word-test.true ∙ ap (λ (w : List ℕ). take at words ++ w ∷ []) (sym c.word-item.is) in
    record {
      all = λ f level. c.in_ok-with_word.ensures f level ∙ ap (λ (b : Bool). b && nat_lt 0 (f word)) (c.loop-word.invariant.all f level) ∙ sym (held-more f (take at words) word) ∙ sym (ap (holds_all f) more);
      none = λ e. absurd (cc);
      some = omega arith;
    }

pub returns-clause-all : goal.returns-clause-all
returns-clause-all c = λ f level. c.loop-word.invariant.all f level ∙ ap (holds_all f) (take_all c.loop-word.word-index c.args.words.now (omega (arith, c.loop-word-test.false)))

pub returns-clause-none : goal.returns-clause-none
returns-clause-none c = λ e. let zero = c.loop-word.invariant.none e in no-words c.args.words.now (omega (arith, c.loop-word-test.false))
