use Rattle.std.proofs.Common.{arith, ◌+◌, ◌-◌, ◌*◌, ◌/◌, ℕ, ◌∙◌, ap, length, take, drop, refl}
use Rattle.std.proofs.lemmas.Result.{err_from_is_err_and}
use Rattle.std.proofs.lemmas.List.{length-drop, take_rest}
use Rattle.btree_insert.proofs.Leaves.{one_leaf, two_leaves_as, few, many, back_fits}
use Rattle.btree_insert.proofs.Keeps.{one-kept}
use Rattle.btree_insert.proofs.leaf.store_leaf.Goals as goal

pub returns-then-cells-le4096-clause-grown : goal.returns-then-cells-le4096-clause-grown
returns-then-cells-le4096-clause-grown g c = λ low high free enough within supplied once.
    let f = few (c.args.form.key + c.args.form.value) c.args.count (omega arith) c.requires.some c.requires.few in
    one_leaf c.args.form c.args.least (g.P.Pages.pages c.args.pages.now) (g.P.Pages.pages c.store_one.new.pages) (g.P.Pages.count c.args.pages.now) (g.P.Pages.first c.args.pages.now) _ _
    c.args.page low high c.args.count _ c.args.cells.now free c.in_ok-store_one.ensures.written c.in_ok-store_one.ensures.frame.count c.in_ok-store_one.ensures.first
    c.requires.some enough (omega arith) c.requires.cells (omega arith) within supplied once

pub split_page-requires-clause-back : goal.split_page-requires-clause-back
split_page-requires-clause-back g c =
    let w : ℕ = c.args.form.key + c.args.form.value in
    let m = many w c.args.count (omega arith) (omega arith) in
    let b = back_fits w (c.args.count - 1) (c.args.count / 2) (length c.args.cells.now) (c.requires.cells ∙ ap (λ (k : ℕ). w * k) (omega arith)) c.requires.few (omega arith) in
    rw (take_rest c.args.cells.now (w * (c.args.count / 2)), length-drop (w * (c.args.count / 2)) c.args.cells.now) b

pub returns-clause-grown : goal.returns-clause-grown
returns-clause-grown g c = λ low high free enough within supplied once.
    let w : ℕ = c.args.form.key + c.args.form.value in
    let s = c.in_ok-right.ensures.split free supplied once in
    two_leaves_as c.args.form c.args.least _ (g.P.Pages.pages c.split_page.new.pages) _ _ c.args.page c.in_ok-right.right low high (c.args.count / 2) c.args.count (c.args.count - 1) c.args.cells.now _ _ _
    s refl (take_rest c.args.cells.now (w * (c.args.count / 2))) (c.copy_from_slice.ensures.after ∙ ap (λ (k : ℕ). take k (drop (w * (c.args.count / 2)) c.args.cells.now)) (omega arith)) refl (omega arith)
    (many w c.args.count (omega arith) (omega arith)) (omega arith) (few w c.args.count (omega arith) c.requires.some c.requires.few) c.in_ok-right.ensures.some c.requires.cells c.requires.few within

pub returns-in_err-right-clause-damaged : goal.returns-in_err-right-clause-damaged
returns-in_err-right-clause-damaged g c =
    let passed = err_from_is_err_and c.from_residual-in_err-right.result c.from_residual-in_err-right.ensures.1 in
    rw (passed.1, passed.2) (λ damage e. c.split_page.ensures.damaged damage (c.in_err-right.was ∙ e))

pub returns-then-cells-le4096-clause-kept : goal.returns-then-cells-le4096-clause-kept
returns-then-cells-le4096-clause-kept g c = λ told. one-kept _ _ _ _ c.args.page (g.P.Pages.count c.args.pages.now) _ _ (g.P.Pages.pages c.args.pages.now) _ told c.in_ok-store_one.ensures.written c.in_ok-store_one.ensures.frame.count

pub returns-in_err-right-clause-no_false_damage : goal.returns-in_err-right-clause-no_false_damage
returns-in_err-right-clause-no_false_damage g c =
    let passed = err_from_is_err_and c.from_residual-in_err-right.result c.from_residual-in_err-right.ensures.1 in
    rw (passed.1, passed.2) (λ free supplied damage e. c.split_page.ensures.no_false_damage free supplied damage (c.in_err-right.was ∙ e))
