use Rattle.std.proofs.Common.{◌≡◌, ℕ, ◌+◌, ◌-◌, Bool, false, take, drop, arith, sym, ap, ◌∙◌}
use Rattle.std.specs.Prelude.{◌==◌, ◌||◌}
use Rattle.std.specs.Int.{bit_at}
use Rattle.page_face.specs.FreeList.{are_zero}
use Rattle.rtree_nodes.specs.Cells.{cell_width, cell_start}
use Rattle.rtree_nodes.specs.Pages.{level_in, is_used, cell_at}
use Rattle.rtree_nodes.proofs.spare.is_used_or_clear.Goals as goal

pub returns-else-is_set : goal.returns-else-is_set
unfolding cell_at
returns-else-is_set c =
    let page = c.args.page.now in
    let unused : is_used page c.args.at ≡ false = ap (λ (n : ℕ). bit_at n c.args.at == 1) (sym c.mask_of.ensures) ∙ sym c.is_set.ensures ∙ c.if-is_set.false in
    let start : c.start_of-start.result ≡ cell_start (level_in page) c.args.at = c.start_of-start.ensures.is ∙ ap (λ (n : ℕ). cell_start n c.args.at) c.level_of.ensures in
    let wide : c.width_at.result ≡ cell_width (level_in page) = c.width_at.ensures ∙ ap cell_width c.level_of-else-is_set.ensures in
    let width : c.start_of-start.result + c.width_at.result - c.start_of-start.result ≡ cell_width (level_in page) = omega (arith, wide) in
    c.are_zero.ensures ∙ (λ i. are_zero (take (width i) (drop (start i) page)))
    ∙ sym (ap (λ (b : Bool). b || are_zero (take (cell_width (level_in page)) (drop (cell_start (level_in page) c.args.at) page))) unused)
