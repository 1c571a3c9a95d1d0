use Rattle.std.proofs.Common.{arith, ℕ, List, sym, subst}
use Rattle.page_face.specs.FreeList.{PageMap}
use Rattle.btree_delete.proofs.Bodies.{IsSum}
use Rattle.btree_delete.proofs.Holds.{becomes-as, body-both}
use Rattle.btree_delete.proofs.joining.join_in.Goals as goal

pub returns-clause-becomes : goal.returns-clause-becomes
returns-clause-becomes g c = λ low high free first second enough supplied once.
    let old : PageMap = g.P.Pages.pages c.args.pages.now in
    let sum : IsSum c.args.form old c.args.level low high c.args.left_count c.args.right_count c.args.left_cells.now c.args.right_cells.now c.gather.new.out =
    subst (λ (x : List ℕ). IsSum c.args.form old c.args.level low high c.args.left_count c.args.right_count c.args.left_cells.now c.args.right_cells.now x) (sym c.gather.ensures)
    (body-both c.args.form old c.args.level low high c.args.left_count c.args.right_count c.args.parting.now c.args.left_cells.now c.args.right_cells.now
    c.requires.left_cells c.requires.right_cells (omega arith) (omega arith) c.requires.parting first second) in
    becomes-as (λ n. let u = sum.used n in omega arith) sum.rows
    (c.in_ok-merged.ensures.becomes low high free sum.body enough supplied (λ n. let u = sum.used n in let o = once n in omega arith))
