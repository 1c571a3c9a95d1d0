use Rattle.std.proofs.Common.{◌-◌, option_map, sym, ap, ◌∙◌}
use Rattle.line_tokens.specs.Seen.{seen}
use Rattle.query_lang.specs.Word.{word_of}
use Rattle.query_lang.proofs.Wording.{more_end, more_extra, more_one, one_refused, one_taken}
use Rattle.query_lang.proofs.word.+words.Goals as goal

pub more_words-returns-in_default : goal.more_words-returns-in_default
more_words-returns-in_default t c = more_end word_of c.args.left c.args.words.items c.args.text.now (sym c.in-Ok.ensures.token ∙ ap (option_map (λ f. (seen f.0, f.1.now))) c.in_default.is)

pub more_words-returns-then-left-eq0 : goal.more_words-returns-then-left-eq0
more_words-returns-then-left-eq0 t c =
    let found = rw c.in-Some.is at c.in-Ok.ensures.token in
    λ m. more_extra word_of c.args.left c.args.words.items c.args.text.now _ _ c.if-left-eq0.true (sym found)

pub more_words-returns : goal.more_words-returns
more_words-returns t c =
    let found = rw c.in-Some.is at c.in-Ok.ensures.token in
    rw (more_one word_of c.args.left c.args.words.items c.args.text.now _ _ c.if-left-eq0.false (sym found)) c.next_word.ensures

pub next_word-returns-in-Err : goal.next_word-returns-in-Err
next_word-returns-in-Err t c =
    λ m. one_refused word_of c.args.left c.args.words.items (seen c.args.token.now) c.args.text.now _ (rw c.as_slice.ensures.value at (c.in-Err.ensures m))

pub next_word-returns : goal.next_word-returns
next_word-returns t c =
    rw (one_taken word_of c.args.left c.args.words.items _ (seen c.args.token.now) c.args.text.now _ (rw c.as_slice.ensures.value at c.in-Ok.ensures) c.in_ok-words.ensures.items) c.more_words.ensures
