use Rattle.std.proofs.Common.{length, ap, ◌∙◌}
use Rattle.term_impacts.proofs.FormLemmas.{zeros_left}
use Rattle.term_impacts.proofs.word.Word.of_text.Goals as goal

pub sealed-requires-clause-zeros : goal.sealed-requires-clause-zeros
sealed-requires-clause-zeros c =
    zeros_left c.copy_from_slice.new.self (length c.args.text.now) (ap length c.copy_from_slice.ensures.after ∙ ap length c.as_bytes.ensures.value)
