use Rattle.std.proofs.Common.{◌≡◌, ◌+◌, ◌∙◌, is_some}
use Rattle.std.specs.Int.{w32, cast_signed, cast_unsigned}
use Rattle.std.proofs.lemmas.Int.{to_z-of_z}
use Rattle.rtree_nodes.specs.Numbers.{int_at}
use Rattle.rtree_nodes.proofs.Cells.{rect-test}
use Rattle.rtree_nodes.proofs.reading.rect_at.Goals as goal

pub returns-clause-some : goal.returns-clause-some
returns-clause-some c =
    let west : cast_signed w32 (cast_unsigned w32 c.i32_at.result) ≡ int_at c.args.at c.args.page.now = to_z-of_z w32 c.i32_at.result c.i32_at.ensures.fits ∙ c.i32_at.ensures.value in
    let south : cast_signed w32 (cast_unsigned w32 c.i32_at-2.result) ≡ int_at (c.args.at + 4) c.args.page.now = to_z-of_z w32 c.i32_at-2.result c.i32_at-2.ensures.fits ∙ c.i32_at-2.ensures.value in
    let east : cast_signed w32 (cast_unsigned w32 c.i32_at-3.result) ≡ int_at (c.args.at + 8) c.args.page.now = to_z-of_z w32 c.i32_at-3.result c.i32_at-3.ensures.fits ∙ c.i32_at-3.ensures.value in
    let north : cast_signed w32 (cast_unsigned w32 c.i32_at-4.result) ≡ int_at (c.args.at + 12) c.args.page.now = to_z-of_z w32 c.i32_at-4.result c.i32_at-4.ensures.fits ∙ c.i32_at-4.ensures.value in
    rect-test (is_some c.new.result) _ _ _ _ _ _ _ _ west south east north c.new.ensures.some
