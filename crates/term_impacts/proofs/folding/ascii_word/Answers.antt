use Rattle.std.proofs.Common.{◌≤◌, length, take_at, drop_at, ap, sym, subst, ◌∙◌, arith}
use Rattle.term_impacts.specs.Form.{IsWordText}
use Rattle.term_impacts.specs.Text.{folded}
use Rattle.term_impacts.proofs.FormLemmas.{zeros_left}
use Rattle.term_impacts.proofs.FoldingLemmas.{length-folded-ascii, lowered, IsWordText-ascii}
use Rattle.term_impacts.proofs.folding.ascii_word.Goals as goal

pub returns-then-len-gt-WORD_MAX : goal.returns-then-len-gt-WORD_MAX
returns-then-len-gt-WORD_MAX c fits = omega (arith, length-folded-ascii c.args.piece.now c.requires.ascii)

pub sealed-requires-clause-text : goal.sealed-requires-clause-text
sealed-requires-clause-text c =
    let piece = c.args.piece.now in
    let low = lowered piece _ _ _ c.requires.ascii (c.copy_from_slice.ensures.after ∙ c.as_bytes.ensures.value) c.make_ascii_lowercase.ensures.after in
    let text = take_at c.make_ascii_lowercase.new.self _ (length piece) (ap length low ∙ length-folded-ascii piece c.requires.ascii) ∙ low in
    subst IsWordText (sym text) (IsWordText-ascii piece c.requires.ascii c.requires.some c.if-len-gt-WORD_MAX.false)

pub sealed-requires-clause-zeros : goal.sealed-requires-clause-zeros
sealed-requires-clause-zeros c =
    let piece = c.args.piece.now in
    let copy = c.copy_from_slice.ensures.after ∙ c.as_bytes.ensures.value in
    let low = lowered piece _ _ _ c.requires.ascii copy c.make_ascii_lowercase.ensures.after in
    drop_at c.make_ascii_lowercase.new.self _ (length piece) (ap length low ∙ length-folded-ascii piece c.requires.ascii)
    ∙ zeros_left c.copy_from_slice.new.self (length piece) (ap length copy)

pub returns : goal.returns
returns c =
    let piece = c.args.piece.now in
    let low = lowered piece _ _ _ c.requires.ascii (c.copy_from_slice.ensures.after ∙ c.as_bytes.ensures.value) c.make_ascii_lowercase.ensures.after in
    let size = length-folded-ascii piece c.requires.ascii in
    let text = take_at c.make_ascii_lowercase.new.self _ (length piece) (ap length low ∙ size) ∙ low in
    let fits : length (folded piece) ≤ 32 = omega (arith, size) in
    (fits, c.sealed.ensures ∙ text)
