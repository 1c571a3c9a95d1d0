use Rattle.std.proofs.Common.{◌<◌, chars, length, sym, subst, ◌∙◌, arith}
use Rattle.std.proofs.lemmas.Str.{Chars-gives, encodes-chars}
use Rattle.std.specs.Str.Iter.{chars_steps}
use Rattle.caseless.specs.Caseless.{default_case_fold}
use Rattle.caseless.specs.CaseFold.{FoldsCaseTo}
use Rattle.term_impacts.specs.Text.{folded}
use Rattle.term_impacts.proofs.FoldingLemmas.{IsWordText-written, written_none, written_more, written_all, written_over, written_fits}
use Rattle.term_impacts.proofs.folding.unicode_word.Goals as goal

pub characters-init : goal.characters-init
characters-init c =
    let piece = c.args.piece.now in
    let spelled = Chars-gives (chars piece) c.chars.result (encodes-chars piece c.utf8.piece ∙ sym c.chars.ensures.rest) in
    let folds = c.default_case_fold-c-items.ensures.text (chars piece) spelled in
    let left = subst (λ s. FoldsCaseTo chars_steps s (default_case_fold (chars piece))) (sym c.into_iter-c-iterator.ensures.into_iter_gives) folds in
    record { can = tt; finite = tt; written = written_none (FoldsCaseTo chars_steps) piece _ left }

pub returns-in_err-len : goal.returns-in_err-len
returns-in_err-len c =
    let over : 32 < length (folded c.args.piece.now) =
    written_over (FoldsCaseTo chars_steps) c.args.piece.now _ _ _ _ _ c.characters.invariant.written c.in-Some.ensures.steps.first c.in_err-len.ensures.room in
    rw c.from_residual.ensures (λ fits. omega arith)

pub characters-preserved : goal.characters-preserved
characters-preserved c =
    let put = c.in_ok-len.ensures.room in
    let written = written_more (FoldsCaseTo chars_steps) c.args.piece.now _ _ _ _ _ _ _ c.characters.invariant.written c.in-Some.ensures.steps.first put.0 put.1 put.2 put.3 c.in_ok-len.ensures.utf8 in
    record { can = tt; finite = tt; written = written }

pub sealed-requires-clause-text : goal.sealed-requires-clause-text
sealed-requires-clause-text c =
    IsWordText-written (FoldsCaseTo chars_steps) c.args.piece.now _ _ _ _ c.characters.invariant.written c.in-None.ensures.steps.first c.utf8.piece c.requires

pub returns : goal.returns
returns c =
    let written = c.characters.invariant.written in
    let ended = c.in-None.ensures.steps.first in (
      written_fits (FoldsCaseTo chars_steps) c.args.piece.now _ _ _ _ written ended,
      c.sealed.ensures ∙ written_all (FoldsCaseTo chars_steps) c.args.piece.now _ _ _ _ written ended,
    )
