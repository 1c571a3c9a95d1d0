use Rattle.std.proofs.Common.{arith, ◌≡◌, ◌++◌, List, ap, ◌∙◌}
use Rattle.page_face.specs.FreeList.{PageMap}
use Rattle.page_face.specs.Number.{number}
use Rattle.btree_nodes.specs.Rows.{Row}
use Rattle.btree_nodes.specs.Tree.{rows_at}
use Rattle.btree_delete.specs.Body.{body_rows}
use Rattle.btree_delete.proofs.Holds.{becomes-as, holds-bytes}
use Rattle.btree_delete.proofs.joining.join.Goals as goal

pub returns-clause-becomes : goal.returns-clause-becomes
returns-clause-becomes g c = λ low high free left-is right-is left-count right-count first second enough supplied once.
    let old : PageMap = g.P.Pages.pages c.args.pages.now in
    let w = c.shape_at-width.ensures.width in
    let a = holds-bytes c.args.form 1 old c.args.level c.args.left low (number c.args.parting.now) c.args.left_count _ c.args.left_bytes.now c.body.result.now left-is left-count w c.body.ensures.is first in
    let b = holds-bytes c.args.form 1 old c.args.level c.args.right (number c.args.parting.now) high c.args.right_count _ c.args.right_bytes.now c.body-2.result.now right-is right-count w c.body-2.ensures.is second in
    let rows : body_rows c.args.form old c.args.level c.args.left_count c.body.result.now ++ body_rows c.args.form old c.args.level c.args.right_count c.body-2.result.now
    ≡ rows_at c.args.form old c.args.level c.args.left ++ rows_at c.args.form old c.args.level c.args.right =
    ap (λ (x : List Row). x ++ body_rows c.args.form old c.args.level c.args.right_count c.body-2.result.now) a.rows ∙ ap (λ (x : List Row). rows_at c.args.form old c.args.level c.args.left ++ x) b.rows in
    becomes-as (λ n. let u = a.used n in let v = b.used n in omega arith) rows
    (c.in_ok-merged.ensures.becomes low high free a.body b.body enough supplied (λ n. let u = a.used n in let v = b.used n in let o = once n in omega arith))
