use Rattle.std.proofs.Common.{sym, ◌∙◌, arith}
use Rattle.std.specs.Prelude.{◌||◌}
use Rattle.page_face.specs.FreeList.{are_zero}
use Rattle.rtree_nodes.specs.Pages.{is_used, cell_at}
use Rattle.rtree_nodes.proofs.AllBelow.{all_below-none, all_below-more, all_below-false}
use Rattle.rtree_nodes.proofs.spare.has_clear_slots.Goals as goal

pub loop-i-init : goal.loop-i-init
loop-i-init c = all_below-none _

pub returns-then-not-is_used_or_clear : goal.returns-then-not-is_used_or_clear
returns-then-not-is_used_or_clear c =
    sym (all_below-false 32 (λ k. is_used c.args.page.now k || are_zero (cell_at c.args.page.now k)) c.loop-i.i (omega arith) (sym c.is_used_or_clear.ensures ∙ c.if-not-is_used_or_clear.true))

pub loop-i-preserved : goal.loop-i-preserved
loop-i-preserved c =
    all_below-more c.loop-i.i (λ k. is_used c.args.page.now k || are_zero (cell_at c.args.page.now k)) c.loop-i.invariant (sym c.is_used_or_clear.ensures ∙ c.if-not-is_used_or_clear.false)
