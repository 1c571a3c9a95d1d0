use Rattle.std.proofs.Common.{arith, ◌≡◌, ◌+◌, ◌-◌, ◌*◌, ◌/◌, ℕ, ◌∙◌, ap, length, take, drop, suc, refl}
use Rattle.std.proofs.lemmas.Result.{err_from_is_err_and}
use Rattle.std.proofs.lemmas.List.{length-drop, take_rest}
use Rattle.btree_nodes.specs.Build.{image}
use Rattle.page_face.specs.FreeList.{PageMap, with_page}
use Rattle.btree_insert.proofs.Leaves.{few, many, back_fits}
use Rattle.btree_insert.proofs.Inners.{one_inner, two_inner_as}
use Rattle.btree_insert.proofs.Keeps.{one-kept}
use Rattle.btree_insert.proofs.inner.store_inner.Goals as goal

pub returns-then-cells-le4096-clause-grown : goal.returns-then-cells-le4096-clause-grown
returns-then-cells-le4096-clause-grown g c = λ low high free enough zero_key fan supplied once.
    let f = few (c.args.form.key + 4) c.args.count (omega arith) c.requires.some c.requires.few in
    let old : PageMap = g.P.Pages.pages c.args.pages.now in
    let up : c.args.below + 1 ≡ suc c.args.below = omega arith in
    one_inner c.args.form c.args.least old (g.P.Pages.pages c.store_one.new.pages) (g.P.Pages.count c.args.pages.now) (g.P.Pages.first c.args.pages.now) _ _
    c.args.below c.args.page low high c.args.count _ c.args.cells.now free
    (c.in_ok-store_one.ensures.written ∙ ap (λ (k : ℕ). with_page c.args.page (image c.args.form.map 2 k c.args.count c.args.cells.now) old) up)
    c.in_ok-store_one.ensures.frame.count c.in_ok-store_one.ensures.first
    c.requires.some enough (omega arith) c.requires.cells (omega arith) zero_key fan supplied once

pub split_page-requires-clause-back : goal.split_page-requires-clause-back
split_page-requires-clause-back g c =
    let w : ℕ = c.args.form.key + 4 in
    let m = many w c.args.count (omega arith) (omega arith) in
    let last : c.args.count ≡ suc (c.args.count - 1) = omega arith in
    let b = back_fits w (c.args.count - 1) (c.args.count / 2) (length c.clear_key.new.cells) (c.clear_key.auto.cells ∙ c.requires.cells ∙ ap (λ (k : ℕ). w * k) last) c.requires.few (omega arith) in
    rw (take_rest c.clear_key.new.cells (w * (c.args.count / 2)), length-drop (w * (c.args.count / 2)) c.clear_key.new.cells) b

pub returns-clause-grown : goal.returns-clause-grown
returns-clause-grown g c = λ low high free enough zero_key fan supplied once.
    let w : ℕ = c.args.form.key + 4 in
    let s = c.in_ok-right.ensures.split free supplied (λ n. let o = once n in omega arith) in
    two_inner_as c.args.form c.args.least _ (g.P.Pages.pages c.split_page.new.pages) _ _ c.args.below _ c.args.page c.in_ok-right.right low high (c.args.count / 2) c.args.count (c.args.count - 1) c.args.cells.now _ _ _
    s (omega arith) c.clear_key.ensures.front (take_rest c.clear_key.new.cells (w * (c.args.count / 2)) ∙ c.clear_key.ensures.back) (c.copy_key.ensures ∙ ap (λ (k : ℕ). take k (drop (w * (c.args.count / 2)) c.args.cells.now)) c.requires.middle) refl (omega arith)
    (many w c.args.count (omega arith) (omega arith)) (omega arith) (few w c.args.count (omega arith) c.requires.some c.requires.few) c.in_ok-right.ensures.some c.requires.cells c.requires.few zero_key fan once

pub returns-in_err-right-clause-damaged : goal.returns-in_err-right-clause-damaged
returns-in_err-right-clause-damaged g c =
    let passed = err_from_is_err_and c.from_residual-in_err-right.result c.from_residual-in_err-right.ensures.1 in
    rw (passed.1, passed.2) (λ damage e. c.split_page.ensures.damaged damage (c.in_err-right.was ∙ e))

pub returns-then-cells-le4096-clause-kept : goal.returns-then-cells-le4096-clause-kept
returns-then-cells-le4096-clause-kept g c = λ told. one-kept _ _ _ _ c.args.page (g.P.Pages.count c.args.pages.now) _ _ (g.P.Pages.pages c.args.pages.now) _ told c.in_ok-store_one.ensures.written c.in_ok-store_one.ensures.frame.count

pub returns-in_err-right-clause-no_false_damage : goal.returns-in_err-right-clause-no_false_damage
returns-in_err-right-clause-no_false_damage g c =
    let passed = err_from_is_err_and c.from_residual-in_err-right.result c.from_residual-in_err-right.ensures.1 in
    rw (passed.1, passed.2) (λ free supplied damage e. c.split_page.ensures.no_false_damage free supplied damage (c.in_err-right.was ∙ e))
