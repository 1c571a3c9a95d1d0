use Rattle.std.proofs.Common.{arith, ◌≡◌, ◌++◌, ◌∷◌, [], ℕ, suc, List, sym, ap, ◌∙◌, subst, refl, Err}
use Rattle.std.proofs.lemmas.Result.{err_from_is_err_and}
use Rattle.page_face.specs.FreeList.{PageMap}
use Rattle.page_face.specs.declared.fault.Damage.{Damage}
use Rattle.page_face.specs.Number.{number}
use Rattle.btree_nodes.specs.Tree.{uses}
use Rattle.btree_nodes.specs.Bounds.{upper_of}
use Rattle.btree_nodes.specs.Damages.{AsksOnly}
use Rattle.btree_nodes.proofs.Trees.{tree-size}
use Rattle.btree_nodes.proofs.Harms.{asked-here, asks-here, asks-nothing}
use Rattle.btree_delete.specs.declared.settling.Beside.{Beside}
use Rattle.btree_nodes.proofs.Walks.{same-fault, told-read, uses-self, asks-read, damage-link, uses-below, tree-below, damage-below, named-refused}
use Rattle.btree_delete.proofs.Walks.{named-page, damage-rule}
use Rattle.btree_delete.proofs.beside.look_beside.Goals as goal

pub returns-in_err-page-clause-damaged : goal.returns-in_err-page-clause-damaged
returns-in_err-page-clause-damaged g c =
    let passed = err_from_is_err_and c.from_residual.result c.from_residual.ensures.1 in
    let old : PageMap = g.P.Pages.pages c.args.pages.now in
    rw (passed.1, passed.2) (λ page least told is damage e.
    let d = c.read.ensures.damaged damage (c.in_err-page.was ∙ ap Err (same-fault {T = Beside} _ _ e)) in
    let n = c.next_to-near.ensures.0 in
    damage-below c.args.form old c.args.bytes.now (suc c.args.below) c.args.below page c.next_to-near.result refl is (omega arith) (g.P.Pages.count c.args.pages.now) damage least _ (number c.args.low.now) (upper_of c.args.form.key c.args.high.now) _ _ c.child_at-child.result
    refl refl refl c.child_at-child.ensures
    (damage-link c.args.form old (g.P.Pages.count c.args.pages.now) damage _ c.args.below c.child_at-child.result _ _ d.0 d.1))

pub returns-in_err-page-clause-in_tree : goal.returns-in_err-page-clause-in_tree
returns-in_err-page-clause-in_tree g c =
    let passed = err_from_is_err_and c.from_residual.result c.from_residual.ensures.1 in
    let old : PageMap = g.P.Pages.pages c.args.pages.now in
    rw (passed.1, passed.2) (λ page least is tree damage e.
    let d = c.read.ensures.damaged damage (c.in_err-page.was ∙ ap Err (same-fault {T = Beside} _ _ e)) in
    let n = c.next_to-near.ensures.0 in
    damage-below c.args.form old c.args.bytes.now (suc c.args.below) c.args.below page c.next_to-near.result refl is (omega arith) (g.P.Pages.count c.args.pages.now) damage least _ (number c.args.low.now) (upper_of c.args.form.key c.args.high.now) _ _ c.child_at-child.result
    refl refl refl c.child_at-child.ensures
    (damage-link c.args.form old (g.P.Pages.count c.args.pages.now) damage _ c.args.below c.child_at-child.result _ _ d.0 d.1))

pub returns-in_err-page-clause-named : goal.returns-in_err-page-clause-named
returns-in_err-page-clause-named g c =
    let passed = err_from_is_err_and c.from_residual.result c.from_residual.ensures.1 in
    rw (passed.1, passed.2) (λ damage e.
    let was = c.in_err-page.was ∙ ap Err (same-fault {T = Beside} _ _ e) in
    named-refused (g.P.Pages.asked c.args.pages.now) (g.P.Pages.asked c.read.new.self) c.child_at-child.result c.read.result damage c.read.ensures.asked was
    (ap (λ (d : Damage). d.page) (c.read.ensures.damaged damage was).0))

pub returns-in_err-page-clause-own : goal.returns-in_err-page-clause-own
returns-in_err-page-clause-own g c = λ page is.
    let old : PageMap = g.P.Pages.pages c.args.pages.now in
    let mine : ℕ → ℕ = uses c.args.form old (suc c.args.below) page in
    let before : List ℕ = g.P.Pages.asked c.args.pages.now in
    let n = c.next_to-near.ensures.0 in
    let child = uses-below c.args.form old c.args.bytes.now (suc c.args.below) c.args.below page c.next_to-near.result refl is (omega arith) c.child_at-child.result c.child_at-child.result c.child_at-child.ensures (uses-self c.args.form old c.args.below c.child_at-child.result) in
    subst (λ (x : List ℕ). AsksOnly mine before x) (sym c.read.ensures.asked) (asks-read mine before before c.child_at-child.result c.read.result (asks-nothing mine before before refl) child)

pub returns-in_err-page-clause-more : goal.returns-in_err-page-clause-more
returns-in_err-page-clause-more g c =
    let before : List ℕ = g.P.Pages.asked c.args.pages.now in
    subst (λ (x : List ℕ). AsksOnly (λ _. 1) before x) (sym c.read.ensures.asked) (asks-read (λ _. 1) before before c.child_at-child.result c.read.result (asks-nothing (λ _. 1) before before refl) (omega arith))

pub returns-in-Ok-clause-own : goal.returns-in-Ok-clause-own
returns-in-Ok-clause-own g c = λ page is.
    let old : PageMap = g.P.Pages.pages c.args.pages.now in
    let n = c.next_to-near.ensures.0 in
    asks-here (uses c.args.form old (suc c.args.below) page) (g.P.Pages.asked c.args.pages.now) _ c.child_at-child.result
    (uses-below c.args.form old c.args.bytes.now (suc c.args.below) c.args.below page c.next_to-near.result refl is (omega arith) c.child_at-child.result c.child_at-child.result c.child_at-child.ensures (uses-self c.args.form old c.args.below c.child_at-child.result))
    c.in_ok-page.ensures.asked

pub returns-in-Err-clause-own : goal.returns-in-Err-clause-own
returns-in-Err-clause-own g c = λ page is.
    let old : PageMap = g.P.Pages.pages c.args.pages.now in
    let n = c.next_to-near.ensures.0 in
    asks-here (uses c.args.form old (suc c.args.below) page) (g.P.Pages.asked c.args.pages.now) _ c.child_at-child.result
    (uses-below c.args.form old c.args.bytes.now (suc c.args.below) c.args.below page c.next_to-near.result refl is (omega arith) c.child_at-child.result c.child_at-child.result c.child_at-child.ensures (uses-self c.args.form old c.args.below c.child_at-child.result))
    c.in_ok-page.ensures.asked

pub returns-in-Ok-clause-more : goal.returns-in-Ok-clause-more
returns-in-Ok-clause-more g c = asks-here (λ _. 1) (g.P.Pages.asked c.args.pages.now) _ c.child_at-child.result (omega arith) c.in_ok-page.ensures.asked

pub returns-in-Err-clause-more : goal.returns-in-Err-clause-more
returns-in-Err-clause-more g c = asks-here (λ _. 1) (g.P.Pages.asked c.args.pages.now) _ c.child_at-child.result (omega arith) c.in_ok-page.ensures.asked

pub returns-in-Err-clause-named : goal.returns-in-Err-clause-named
returns-in-Err-clause-named g c = λ damage e.
    let same : damage.page ≡ c.child_at-child.result = named-page {T = Beside} _ c.damaged.result c.child_at-child.result _ damage refl c.damaged.ensures e in
    asked-here (g.P.Pages.asked c.args.pages.now) _ damage.page (c.in_ok-page.ensures.asked ∙ ap (λ (p : ℕ). g.P.Pages.asked c.args.pages.now ++ p ∷ []) (sym same))

pub returns-in-Err-clause-damaged : goal.returns-in-Err-clause-damaged
returns-in-Err-clause-damaged g c = λ page least told is damage e.
    let old : PageMap = g.P.Pages.pages c.args.pages.now in
    let count : ℕ = g.P.Pages.count c.args.pages.now in
    let n = c.next_to-near.ensures.0 in
    let read = c.in_ok-page.ensures in
    let child : ℕ = c.child_at-child.result in
    let bytes = read.gives (told-read old count child told (λ u. let f = read.uncounted u in cc)) in
    let same = same-fault {T = Beside} _ _ e in
    damage-below c.args.form old c.args.bytes.now (suc c.args.below) c.args.below page c.next_to-near.result refl is (omega arith) count damage least c.least_at.result (number c.args.low.now) (upper_of c.args.form.key c.args.high.now)
    (number c.lower.result.now) (upper_of c.args.form.key c.upper.result.now) child c.least_at.ensures.is c.lower.ensures.is c.upper.ensures.is c.child_at-child.ensures
    (damage-rule c.args.form old count damage c.least_at.result c.args.below child (number c.lower.result.now) (upper_of c.args.form.key c.upper.result.now) c.in_ok-page.page c.in-Err.rule c.damaged.result bytes c.damaged.ensures same c.in-Err.ensures.breaks)

pub returns-in-Err-clause-in_tree : goal.returns-in-Err-clause-in_tree
returns-in-Err-clause-in_tree g c = λ page least is tree damage e.
    let old : PageMap = g.P.Pages.pages c.args.pages.now in
    let count : ℕ = g.P.Pages.count c.args.pages.now in
    let n = c.next_to-near.ensures.0 in
    let read = c.in_ok-page.ensures in
    let child : ℕ = c.child_at-child.result in
    let lo : ℕ = number c.lower.result.now in
    let hi : ℕ = upper_of c.args.form.key c.upper.result.now in
    let below_tree = tree-below c.args.form old c.args.bytes.now (suc c.args.below) c.args.below page c.next_to-near.result refl is (omega arith) least c.least_at.result (number c.args.low.now) (upper_of c.args.form.key c.args.high.now)
    lo hi child c.least_at.ensures.is c.lower.ensures.is c.upper.ensures.is c.child_at-child.ensures tree in
    let bytes = read.gives (tree-size c.args.form c.least_at.result old c.args.below child lo hi below_tree) in
    let same = same-fault {T = Beside} _ _ e in
    damage-below c.args.form old c.args.bytes.now (suc c.args.below) c.args.below page c.next_to-near.result refl is (omega arith) count damage least c.least_at.result (number c.args.low.now) (upper_of c.args.form.key c.args.high.now)
    (number c.lower.result.now) (upper_of c.args.form.key c.upper.result.now) child c.least_at.ensures.is c.lower.ensures.is c.upper.ensures.is c.child_at-child.ensures
    (damage-rule c.args.form old count damage c.least_at.result c.args.below child (number c.lower.result.now) (upper_of c.args.form.key c.upper.result.now) c.in_ok-page.page c.in-Err.rule c.damaged.result bytes c.damaged.ensures same c.in-Err.ensures.breaks)
