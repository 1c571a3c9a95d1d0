use Rattle.std.proofs.Common.{◌==◌, ◌&&◌, get_or, ap, sym, ◌∙◌}
use Rattle.std.specs.List.{list_all}
use Rattle.std.proofs.lemmas.List.{take_all}
use Rattle.std.proofs.lemmas.List.Folds.{list_all_more}
use Rattle.page_face.proofs.zeros.are_zero.Goals as goal

pub loop-byte-preserved : goal.loop-byte-preserved
loop-byte-preserved c = record {
  clear = c.greater-greatest.ensures ∙ ap (λ clear. clear && (get_or c.args.bytes.now c.loop-byte.byte-index 0 == 0)) c.loop-byte.invariant.clear ∙ sym (list_all_more (λ b. b == 0) c.args.bytes.now c.loop-byte.byte-index 0 c.loop-byte-test.true);
}

pub returns : goal.returns
returns c = c.loop-byte.invariant.clear ∙ ap (list_all (λ b. b == 0)) (take_all c.loop-byte.byte-index c.args.bytes.now c.loop-byte-test.false)
