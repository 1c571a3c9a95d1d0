use Rattle.std.proofs.Common.{sym, ◌∙◌, arith}
use Rattle.std.proofs.lemmas.Map.Made.{is_some-lookup}
use Rattle.std.specs.Str.{bytes_eq}
use Rattle.indexmap.proofs.CallerLemmas.{insert_entry-new}
use Rattle.term_impacts.proofs.TallyLemmas.{IsTally-again, IsTally-new, IsTally-beyond, count_le, None-from_is_some}
use Rattle.term_impacts.proofs.tally.Tally.add.Goals as goal

pub overflow_add-index_mut : goal.overflow_add-index_mut
overflow_add-index_mut c =
    let words = c.requires.0 in
    omega (arith, count_le words _ _ _ _ c.requires.1 c.index_mut.ensures.value, c.requires.2)

pub returns-in-Some : goal.returns-in-Some
returns-in-Some c words is =
    IsTally-again words c.args.word _ _ _ _ is c.in-Some.ensures.unique (sym c.in-Some.ensures.index) c.index_mut.ensures.value

pub returns-in_ok-insert : goal.returns-in_ok-insert
returns-in_ok-insert c words is =
    let found = c.in_default.ensures.found in
    let absent = sym (is_some-lookup (bytes_eq c.args.word) c.args.self.now.counts.entries) ∙ sym found in
    let grown = c.in_ok-insert.ensures.entries ∙ insert_entry-new bytes_eq c.args.self.now.counts c.args.word 1 (None-from_is_some _ found) in
    rw grown (IsTally-new words c.args.word _ _ is absent (omega (arith, c.len.ensures.len)))

pub returns-else-len-lt-WORDS_MAX : goal.returns-else-len-lt-WORDS_MAX
returns-else-len-lt-WORDS_MAX c words is =
    let absent = sym (is_some-lookup (bytes_eq c.args.word) c.args.self.now.counts.entries) ∙ sym c.in_default.ensures.found in
    IsTally-beyond words c.args.word _ _ is absent (omega (arith, c.len.ensures.len))
