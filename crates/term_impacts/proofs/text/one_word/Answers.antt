use Rattle.std.proofs.Common.{sym, ap, ◌∙◌, Ok}
use Rattle.term_impacts.specs.Left.{words_left}
use Rattle.term_impacts.proofs.TextLemmas.{HasFound-first, only-second, only-all}
use Rattle.term_impacts.proofs.text.one_word.Goals as goal

pub loop-word-init : goal.loop-word-init
loop-word-init c =
    let left = ap words_left c.into_iter-word-iterator.ensures.into_iter_gives ∙ c.new-word-items.ensures.left in
    record { can = tt; finite = tt; found = record { all = sym left } }

pub returns-then-is_some : goal.returns-then-is_some
returns-then-is_some c = ap Ok (only-second _ _ _ _ _ c.loop-word.invariant.found c.if-is_some.ensures c.in-Some.ensures.steps)

pub loop-word-preserved : goal.loop-word-preserved
loop-word-preserved c =
    record { can = tt; finite = tt; found = HasFound-first _ _ _ _ _ c.loop-word.invariant.found c.if-is_some.ensures c.in-Some.ensures.steps }

pub returns : goal.returns
returns c = ap Ok (sym (only-all _ _ _ c.loop-word.invariant.found c.in-None.ensures.steps.0))
