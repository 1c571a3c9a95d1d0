use Rattle.std.proofs.Common.{arith, ◌≡◌, ◌+◌, ◌-◌, ◌*◌, ◌<◌, ℕ, ◌∙◌, sym, ap, take, drop, length, List, ◌++◌, subst, Err}
use Rattle.page_face.specs.Number.{number}
use Rattle.page_face.specs.Nodes.{count_of}
use Rattle.page_face.specs.Cells.{IsPlace, key_at}
use Rattle.btree_nodes.specs.Nodes.{rows_in, rows_of}
use Rattle.btree_nodes.specs.Rows.{IsMade, put}
use Rattle.btree_nodes.proofs.Finds.{place_as}
use Rattle.btree_insert.proofs.PutLeaf.{put_cells, put-had}
use Rattle.std.proofs.lemmas.Result.{err_from_is_err_and}
use Rattle.btree_nodes.proofs.Walks.{same-fault}
use Rattle.btree_insert.specs.declared.leaf.Grown.{Grown}
use Rattle.btree_insert.proofs.leaf.put_row.Goals as goal

pub returns-clause-grown : goal.returns-clause-grown
returns-clause-grown g c = λ low high free within from to supplied once.
    let w : ℕ = c.args.form.key + c.args.form.value in
    let bytes : List ℕ = g.P.Pages.looked c.args.pages.now in
    let e : c.args.count ≡ count_of bytes = c.requires.count in
    let node = c.requires.sound in
    let at : ℕ = c.place-at.result in
    let width : ℕ = c.args.form.key + c.args.form.value in
    let key : ℕ = number c.args.key.now in
    let here : c.looked.result.now ≡ bytes = c.looked.ensures in
    let there : c.looked-2.result.now ≡ bytes = c.looked-2.ensures in
    let place = place_as c.requires.key e (omega arith) (subst (λ (b : List ℕ). IsPlace (length c.args.key.now) width c.args.count b (key + 0) at) here c.place-at.ensures) in
    let some : c.gone_at-gone.result ≡ 1 → (at < count_of bytes) × (key_at c.args.form.key width bytes at ≡ key) = λ h. let s = c.gone_at-gone.ensures.some h in (omega (arith, s.0, e), ap (λ (b : List ℕ). key_at c.args.form.key width b at) (sym there) ∙ s.1) in
    let none : (c.gone_at-gone.result ≡ 1 → ⊥) → at < count_of bytes → key_at c.args.form.key width bytes at ≡ key → ⊥ = λ n l k. c.gone_at-gone.ensures.none n (omega (arith, e)) (ap (λ (b : List ℕ). key_at c.args.form.key width b at) there ∙ k) in
    let enough = node.fill in
    let small = c.gone_at-gone.ensures.small in
    let made = put_cells c.args.form bytes c.args.key.now c.args.value.now low high c.place-at.result c.gone_at-gone.result (c.args.count + 1 - c.gone_at-gone.result)
    node.size node.fits c.requires.key c.requires.value place within from to some none c.gone_at-gone.ensures.small (omega arith) in
    c.in_ok-right.ensures.grown low high free (rows_in c.args.form bytes) (omega arith)
    (subst (λ (n : ℕ). IsMade low high (put (number c.args.key.now) c.args.value.now) (rows_in c.args.form bytes)
    (rows_of c.args.form (c.args.count + 1 - c.gone_at-gone.result) (take (w * c.place-at.result) (take (w * n) (drop 16 bytes)) ++ ((c.args.key.now ++ c.args.value.now) ++ drop (w * (c.place-at.result + c.gone_at-gone.result)) (take (w * n) (drop 16 bytes)))))) (sym e) made)
    supplied once

pub returns-clause-had : goal.returns-clause-had
returns-clause-had g c = λ low high within from to.
    let bytes : List ℕ = g.P.Pages.looked c.args.pages.now in
    let e : c.args.count ≡ count_of bytes = c.requires.count in
    let at : ℕ = c.place-at.result in
    let width : ℕ = c.args.form.key + c.args.form.value in
    let key : ℕ = number c.args.key.now in
    let here : c.looked.result.now ≡ bytes = c.looked.ensures in
    let there : c.looked-2.result.now ≡ bytes = c.looked-2.ensures in
    let place = place_as c.requires.key e (omega arith) (subst (λ (b : List ℕ). IsPlace (length c.args.key.now) width c.args.count b (key + 0) at) here c.place-at.ensures) in
    let some : c.gone_at-gone.result ≡ 1 → (at < count_of bytes) × (key_at c.args.form.key width bytes at ≡ key) = λ h. let s = c.gone_at-gone.ensures.some h in (omega (arith, s.0, e), ap (λ (b : List ℕ). key_at c.args.form.key width b at) (sym there) ∙ s.1) in
    let none : (c.gone_at-gone.result ≡ 1 → ⊥) → at < count_of bytes → key_at c.args.form.key width bytes at ≡ key → ⊥ = λ n l k. c.gone_at-gone.ensures.none n (omega (arith, e)) (ap (λ (b : List ℕ). key_at c.args.form.key width b at) there ∙ k) in
    put-had c.args.form bytes low high (number c.args.key.now) c.place-at.result c.gone_at-gone.result place within from to
    some none

pub returns-in_err-right-clause-damaged : goal.returns-in_err-right-clause-damaged
returns-in_err-right-clause-damaged g c =
    let passed = err_from_is_err_and c.from_residual.result c.from_residual.ensures.1 in
    rw (passed.1, passed.2) (λ damage e. c.put_at.ensures.damaged damage (c.in_err-right.was ∙ ap Err (same-fault {T = Grown} _ _ e)))
