use Rattle.std.proofs.Common.{◌≡◌, ◌∙◌, List, ℕ, take, drop, ap, sym}
use Rattle.std.proofs.lemmas.List.{take_rest}
use Rattle.page_face.specs.Number.{number}
use Rattle.btree_nodes.proofs.Spots.{get_or-rows_in}
use Rattle.btree_nodes.specs.Nodes.{row_of}
use Rattle.rtree_nodes.specs.Stock.{rows_form}
use Rattle.tree_check.proofs.rows.row_at.Goals as goal

pub returns : goal.returns
returns c =
    let cell : List ℕ = c.cell_at-cell.result.now in
    let key_is : c.copy_from_slice.new.self ≡ take 12 cell = c.copy_from_slice.ensures.after in
    let bytes_is : c.copy_from_slice-2.new.self ≡ drop 12 cell = c.copy_from_slice-2.ensures.after ∙ take_rest cell 12 in
    get_or-rows_in rows_form c.args.page.now c.args.at c.requires.within ∙ ap (row_of 12) (sym c.cell_at-cell.ensures.is)
    ∙ (λ i. ((ap number (sym key_is) ∙ c.of_bytes.ensures) i, sym bytes_is i))
