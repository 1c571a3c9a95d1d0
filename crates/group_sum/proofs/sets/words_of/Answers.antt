use Rattle.std.proofs.Common.{◌≡◌, ◌-◌, ◌+◌, ◌++◌, ◌∷◌, [], true, false, drop, length, ap, sym, ◌∙◌}
use Rattle.group_sum.specs.Sets.{has_word, flags_from, flagged, in_set}
use Rattle.group_sum.proofs.Loops.{flagged-more}
use Rattle.group_sum.proofs.sets.words_of.Goals as goal
use Rattle.group_sum.proofs.sets.words_of.Goals.{then-has_word+in_ok-push, else-has_word}

pub loop-i-preserved : goal.loop-i-preserved
loop-i-preserved c =
    let rest = flagged (flags_from c.args.set (c.loop-i.i + 1) (length c.args.words.now - (c.loop-i.i + 1))) (drop (c.loop-i.i + 1) c.args.words.now) in
    let more = flagged-more c.args.set c.loop-i.i c.args.words.now c.loop-i.own.items (in_set c.args.set c.args.words.now) c.index-words-i.result in
    elim c.if-has_word.branch [
      | then-has_word+in_ok-push w ↦
          ap (λ l. l ++ rest) (ap (λ v. v.items) w.own-is ∙ w.in_ok-push.ensures.items)
          ∙ more true c.loop-i-test.true (sym c.index-words-i.is) (sym c.has_word.ensures ∙ w.if-has_word.true) c.loop-i.invariant
      | else-has_word w ↦
          ap (λ l. l ++ rest) (ap (λ v. v.items) w.own-is)
          ∙ more false c.loop-i-test.true (sym c.index-words-i.is) (sym c.has_word.ensures ∙ w.if-has_word.false) c.loop-i.invariant
    ]
