use Rattle.std.proofs.Common.{arith, ◌≡◌, ◌+◌, ◌-◌, ◌<◌, ◌≤◌, ℕ, ◌∙◌, sym, ap, List, subst, suc, ◌++◌, ◌∷◌, [], Err, inl, inr, ⊎_elim}
use Rattle.std.specs.Result.{IfOk}
use Rattle.std.specs.Option.{is_some}
use Rattle.std.proofs.lemmas.Result.{err_from_is_err_and}
use Rattle.page_face.specs.FreeList.{PageMap}
use Rattle.page_face.specs.Causes.{IsUncounted}
use Rattle.page_face.specs.Number.{number}
use Rattle.page_face.specs.Nodes.{count_of}
use Rattle.btree_nodes.specs.declared.form.Form.{Form}
use Rattle.btree_nodes.specs.Supply.{view, spare, one_at}
use Rattle.btree_nodes.specs.Rows.{lookup, put}
use Rattle.btree_nodes.specs.Nodes.{rows_in, IsInner}
use Rattle.btree_nodes.specs.Tree.{rows_at, uses}
use Rattle.btree_nodes.specs.Bounds.{upper_of}
use Rattle.btree_nodes.specs.Damages.{AskedSince, BreaksLeaf}
use Rattle.page_face.proofs.Frames.{changes_then, reads_change}
use Rattle.btree_nodes.specs.Store.{IsGrown}
use Rattle.btree_nodes.proofs.Harms.{asked-here, asked-sooner, asks-here, asks-further}
use Rattle.btree_nodes.proofs.Walks.{same-fault, uses-self}
use Rattle.btree_nodes.specs.Steps.{low_of, high_of}
use Rattle.btree_insert.specs.Keeps.{KeepsAbove}
use Rattle.btree_insert.specs.declared.leaf.Grown.{Grown}
use Rattle.btree_insert.proofs.Grows.{damage-leaf, mid-tree, mid-bytes, mid-supplied, mid-once, mid-had, mid-damage, mid-told, mid-own, mid-kept, whole, stayed, to-be-linked}
use Rattle.btree_insert.proofs.Keeps.{leaf-keeps, kept-higher, page-kept, inner-keeps, counted-below}
use Rattle.btree_insert.proofs.Readings.{ok-both}
use Rattle.btree_insert.proofs.put.+put_in.Goals as goal

pub returns-then-level-eq0-clause-grown : goal.returns-then-level-eq0-clause-grown
returns-then-level-eq0-clause-grown g t c = λ free is tree supplied once.
    let form : Form = c.args.form in
    let old : PageMap = g.P.Pages.pages c.args.pages.now in
    let page : ℕ = c.args.page in
    let key : ℕ = number c.args.key.now in
    let low : ℕ = low_of form c.args.bounds.now in
    let high : ℕ = high_of form c.args.bounds.now in
    let new : PageMap = g.P.Pages.pages c.put_leaf.new.pages in
    let z : c.args.level ≡ 0 = c.if-level-eq0.true in
    let once' : (n : ℕ) → one_at page n + spare free (g.P.Pages.count c.args.pages.now) n ≤ 1 = subst (λ (k : ℕ). (n : ℕ) → uses form old k page n + spare free (g.P.Pages.count c.args.pages.now) n ≤ 1) z once in
    subst (λ (k : ℕ). IfOk c.put_leaf.result (λ grown. IsGrown form c.args.least (view old (g.P.Pages.count c.args.pages.now) (g.P.Pages.first c.args.pages.now) free) (uses form old k page) new (g.P.Pages.count c.put_leaf.new.pages) (g.P.Pages.first c.put_leaf.new.pages)
    k page low high (put key c.args.value.now (rows_at form old k page)) grown.right (number c.put_leaf.new.middle))) (sym z)
    (subst (λ (b : List ℕ). IfOk c.put_leaf.result (λ grown. IsGrown form c.args.least (view old (g.P.Pages.count c.args.pages.now) (g.P.Pages.first c.args.pages.now) free) (one_at page) new (g.P.Pages.count c.put_leaf.new.pages) (g.P.Pages.first c.put_leaf.new.pages)
    0 page low high (put key c.args.value.now (rows_in form b)) grown.right (number c.put_leaf.new.middle))) is (subst (λ (x : ℕ). IfOk c.put_leaf.result (λ grown. IsGrown form c.args.least (view old (g.P.Pages.count c.args.pages.now) (g.P.Pages.first c.args.pages.now) free) (one_at page) new (g.P.Pages.count c.put_leaf.new.pages) (g.P.Pages.first c.put_leaf.new.pages) 0 page x high (put key c.args.value.now (rows_in form (g.P.Pages.looked c.args.pages.now))) grown.right (number c.put_leaf.new.middle))) (ap number c.low.ensures.is) (subst (λ (x : ℕ). IfOk c.put_leaf.result (λ grown. IsGrown form c.args.least (view old (g.P.Pages.count c.args.pages.now) (g.P.Pages.first c.args.pages.now) free) (one_at page) new (g.P.Pages.count c.put_leaf.new.pages) (g.P.Pages.first c.put_leaf.new.pages) 0 page (number c.low.result.now) x (put key c.args.value.now (rows_in form (g.P.Pages.looked c.args.pages.now))) grown.right (number c.put_leaf.new.middle))) (ap (upper_of form.key) c.high.ensures.is) (c.put_leaf.ensures.grown free supplied once'))))

pub returns-then-level-eq0-clause-had : goal.returns-then-level-eq0-clause-had
returns-then-level-eq0-clause-had g t c = λ is tree.
    let form : Form = c.args.form in
    let old : PageMap = g.P.Pages.pages c.args.pages.now in
    let z : c.args.level ≡ 0 = c.if-level-eq0.true in
    subst (λ (k : ℕ). IfOk c.put_leaf.result (λ grown. grown.had ≡ is_some (lookup (number c.args.key.now) (rows_at form old k c.args.page)))) (sym z)
    (subst (λ (b : List ℕ). IfOk c.put_leaf.result (λ grown. grown.had ≡ is_some (lookup (number c.args.key.now) (rows_in form b)))) is c.put_leaf.ensures.had)

pub returns-then-level-eq0-clause-kept : goal.returns-then-level-eq0-clause-kept
returns-then-level-eq0-clause-kept g t c = λ told is.
    let form : Form = c.args.form in
    let old : PageMap = g.P.Pages.pages c.args.pages.now in
    let count : ℕ = g.P.Pages.count c.args.pages.now in
    let new : PageMap = g.P.Pages.pages c.put_leaf.new.pages in
    let count' : ℕ = g.P.Pages.count c.put_leaf.new.pages in
    subst (λ (k : ℕ). IfOk c.put_leaf.result (λ grown. KeepsAbove k old count new count')) (sym c.if-level-eq0.true)
    (ok-both _ _ _ c.put_leaf.result (λ grown leaf kept. leaf-keeps form c.args.least c.args.page count count' (g.P.Pages.looked c.args.pages.now) old new is leaf kept) c.put_leaf.ensures.sound (c.put_leaf.ensures.kept told))

pub returns-then-level-eq0-clause-supplied : goal.returns-then-level-eq0-clause-supplied
returns-then-level-eq0-clause-supplied g t c = λ free is tree supplied once damage e.
    damage-leaf c.args.form (g.P.Pages.pages c.args.pages.now) (g.P.Pages.count c.args.pages.now) damage c.args.least c.args.level c.args.page _ _ (g.P.Pages.looked c.args.pages.now) c.if-level-eq0.true is (let b = c.put_leaf.ensures.supplied free supplied damage e in (b.0, (subst (λ (x : ℕ). BreaksLeaf damage.rule c.args.form c.args.least x (high_of c.args.form c.args.bounds.now) (g.P.Pages.looked c.args.pages.now)) (ap number c.low.ensures.is) (subst (λ (x : ℕ). BreaksLeaf damage.rule c.args.form c.args.least (number c.low.result.now) x (g.P.Pages.looked c.args.pages.now)) (ap (upper_of c.args.form.key) c.high.ensures.is) b.1))))

pub returns-then-level-eq0-clause-damaged : goal.returns-then-level-eq0-clause-damaged
returns-then-level-eq0-clause-damaged g t c = λ before asked told is damage e.
    ⊎_elim
    (λ b. inl (
      damage-leaf c.args.form (g.P.Pages.pages c.args.pages.now) (g.P.Pages.count c.args.pages.now) damage c.args.least c.args.level c.args.page _ _ (g.P.Pages.looked c.args.pages.now) c.if-level-eq0.true is (b.0, (subst (λ (x : ℕ). BreaksLeaf damage.rule c.args.form c.args.least x (high_of c.args.form c.args.bounds.now) (g.P.Pages.looked c.args.pages.now)) (ap number c.low.ensures.is) (subst (λ (x : ℕ). BreaksLeaf damage.rule c.args.form c.args.least (number c.low.result.now) x (g.P.Pages.looked c.args.pages.now)) (ap (upper_of c.args.form.key) c.high.ensures.is) b.1))),
      asked-here before _ damage.page (c.put_leaf.ensures.asked ∙ asked ∙ ap (λ (p : ℕ). before ++ p ∷ []) (sym b.0)),
    ))
    (λ r. inr r) (c.put_leaf.ensures.damaged damage e)

pub returns-then-level-eq0-clause-stays : goal.returns-then-level-eq0-clause-stays
returns-then-level-eq0-clause-stays g t c = λ told is damage e. c.put_leaf.ensures.stays damage e

pub returns-then-level-eq0-clause-own : goal.returns-then-level-eq0-clause-own
returns-then-level-eq0-clause-own g t c = λ before asked told is. asks-here (uses c.args.form (g.P.Pages.pages c.args.pages.now) c.args.level c.args.page) before _ c.args.page (uses-self c.args.form (g.P.Pages.pages c.args.pages.now) c.args.level c.args.page) (c.put_leaf.ensures.asked ∙ asked)

pub returns-in_err-step-clause-supplied : goal.returns-in_err-step-clause-supplied
returns-in_err-step-clause-supplied g t c =
    let passed = err_from_is_err_and c.from_residual.result c.from_residual.ensures.1 in
    rw (passed.1, passed.2) (λ free is tree supplied once damage e. c.go_down.ensures.damaged is damage (c.in_err-step.was ∙ ap Err (same-fault {T = Grown} _ _ e)))

pub returns-in_err-step-clause-damaged : goal.returns-in_err-step-clause-damaged
returns-in_err-step-clause-damaged g t c =
    let passed = err_from_is_err_and c.from_residual.result c.from_residual.ensures.1 in
    rw (passed.1, passed.2) (λ before asked told is damage e.
    let was = c.in_err-step.was ∙ ap Err (same-fault {T = Grown} _ _ e) in
    inl (c.go_down.ensures.damaged is damage was, c.go_down.ensures.named before asked damage was))

pub returns-in_err-step-clause-stays : goal.returns-in_err-step-clause-stays
returns-in_err-step-clause-stays g t c = λ told is damage e. inl (c.go_down.ensures.frame.pages, c.go_down.ensures.frame.count)

pub returns-in_err-step-clause-own : goal.returns-in_err-step-clause-own
returns-in_err-step-clause-own g t c = λ before asked told is. c.go_down.ensures.own before asked is

pub put_in-requires : goal.put_in-requires
put_in-requires g t c = λ κs within.
    let step = c.in_ok-step.ensures in (
      omega arith,
      (
        within,
        (
          c.least_at.ensures.some,
          (
            step.top,
            (
              c.requires.key,
              (step.steps.over c.requires.from, (step.steps.under c.requires.to, (c.requires.value, (c.requires.middle, λ u. step.counted (subst (λ (n : ℕ). IsUncounted n c.in_ok-step.step.child) step.frame.count u))))),
            ),
          ),
        ),
      ),
    )

pub returns-in_err-grown-clause-supplied : goal.returns-in_err-grown-clause-supplied
returns-in_err-grown-clause-supplied g t c =
    let passed = err_from_is_err_and c.from_residual-in_err-grown.result c.from_residual-in_err-grown.ensures.1 in
    let form : Form = c.args.form in
    let old : PageMap = g.P.Pages.pages c.args.pages.now in
    let l : ℕ = c.args.level - 1 in
    let up : c.args.level ≡ suc l = omega arith in
    let step = c.in_ok-step.ensures in
    let f = step.frame in
    rw (passed.1, passed.2) (λ free is tree supplied once damage e.
    mid-damage c.args.least old c.args.page l up is step.steps c.requires.from c.requires.to c.least_at.ensures.is f.pages f.count f.first step.gives damage
    (c.put_in.ensures.supplied free (mid-bytes c.args.least old c.args.page l up is step.steps c.requires.from c.requires.to c.least_at.ensures.is f.pages f.count f.first step.gives tree) (mid-tree c.args.least old c.args.page l up is step.steps c.requires.from c.requires.to c.least_at.ensures.is f.pages f.count f.first step.gives tree) (mid-supplied c.args.least old c.args.page l up is step.steps c.requires.from c.requires.to c.least_at.ensures.is f.pages f.count f.first step.gives free supplied) (mid-once c.args.least old c.args.page l up is step.steps c.requires.from c.requires.to c.least_at.ensures.is f.pages f.count f.first step.gives free once) damage (c.in_err-grown.was ∙ e)))

pub returns-in_err-grown-clause-damaged : goal.returns-in_err-grown-clause-damaged
returns-in_err-grown-clause-damaged g t c =
    let passed = err_from_is_err_and c.from_residual-in_err-grown.result c.from_residual-in_err-grown.ensures.1 in
    let form : Form = c.args.form in
    let old : PageMap = g.P.Pages.pages c.args.pages.now in
    let l : ℕ = c.args.level - 1 in
    let up : c.args.level ≡ suc l = omega arith in
    let step = c.in_ok-step.ensures in
    let f = step.frame in
    rw (passed.1, passed.2) (λ before asked told is damage e.
    let known = mid-told c.args.least old c.args.page l up is step.steps c.requires.from c.requires.to c.least_at.ensures.is f.pages f.count f.first step.gives told step.counted in
    ⊎_elim
    (λ d. inl (
      mid-damage c.args.least old c.args.page l up is step.steps c.requires.from c.requires.to c.least_at.ensures.is f.pages f.count f.first step.gives damage d.0,
      asked-sooner before _ c.args.page damage.page (subst (λ (x : List ℕ). AskedSince x (g.P.Pages.asked c.put_in.new.pages) damage.page) asked d.1),
    ))
    (λ r. inr r) (c.put_in.ensures.damaged (g.P.Pages.asked c.args.pages.now) step.asked known.0 known.1 damage (c.in_err-grown.was ∙ e)))

pub returns-in_err-grown-clause-stays : goal.returns-in_err-grown-clause-stays
returns-in_err-grown-clause-stays g t c =
    let passed = err_from_is_err_and c.from_residual-in_err-grown.result c.from_residual-in_err-grown.ensures.1 in
    let form : Form = c.args.form in
    let old : PageMap = g.P.Pages.pages c.args.pages.now in
    let l : ℕ = c.args.level - 1 in
    let up : c.args.level ≡ suc l = omega arith in
    let step = c.in_ok-step.ensures in
    let f = step.frame in
    rw (passed.1, passed.2) (λ told is damage e.
    let known = mid-told c.args.least old c.args.page l up is step.steps c.requires.from c.requires.to c.least_at.ensures.is f.pages f.count f.first step.gives told step.counted in
    ⊎_elim (λ same. inl (same.0 ∙ f.pages, same.1 ∙ f.count)) (λ r. inr r) (c.put_in.ensures.stays known.0 known.1 damage (c.in_err-grown.was ∙ e)))

pub returns-in_err-grown-clause-own : goal.returns-in_err-grown-clause-own
returns-in_err-grown-clause-own g t c = λ before asked told is.
    let form : Form = c.args.form in
    let old : PageMap = g.P.Pages.pages c.args.pages.now in
    let l : ℕ = c.args.level - 1 in
    let up : c.args.level ≡ suc l = omega arith in
    let step = c.in_ok-step.ensures in
    let f = step.frame in
    let known = mid-told c.args.least old c.args.page l up is step.steps c.requires.from c.requires.to c.least_at.ensures.is f.pages f.count f.first step.gives told step.counted in
    mid-own c.args.least old c.args.page l up is step.steps c.requires.from c.requires.to c.least_at.ensures.is f.pages f.count f.first step.gives before (g.P.Pages.asked c.args.pages.now) _ asked (c.put_in.ensures.own (g.P.Pages.asked c.args.pages.now) step.asked known.0 known.1)

pub returns-then-grown-eq0-clause-grown : goal.returns-then-grown-eq0-clause-grown
returns-then-grown-eq0-clause-grown g t c = λ free is tree supplied once.
    let form : Form = c.args.form in
    let old : PageMap = g.P.Pages.pages c.args.pages.now in
    let l : ℕ = c.args.level - 1 in
    let up : c.args.level ≡ suc l = omega arith in
    let step = c.in_ok-step.ensures in
    let f = step.frame in
    let grew = c.in_ok-grown.ensures.grown free (mid-bytes c.args.least old c.args.page l up is step.steps c.requires.from c.requires.to c.least_at.ensures.is f.pages f.count f.first step.gives tree) (mid-tree c.args.least old c.args.page l up is step.steps c.requires.from c.requires.to c.least_at.ensures.is f.pages f.count f.first step.gives tree) (mid-supplied c.args.least old c.args.page l up is step.steps c.requires.from c.requires.to c.least_at.ensures.is f.pages f.count f.first step.gives free supplied) (mid-once c.args.least old c.args.page l up is step.steps c.requires.from c.requires.to c.least_at.ensures.is f.pages f.count f.first step.gives free once) in
    whole c.args.least old c.args.page l up is step.steps c.requires.from c.requires.to c.least_at.ensures.is f.pages f.count f.first step.gives c.args.value.now free tree once (g.P.Pages.pages c.put_in.new.pages) (g.P.Pages.count c.put_in.new.pages) (g.P.Pages.first c.put_in.new.pages) c.in_ok-grown.grown.right (number c.put_in.new.middle) grew c.if-grown-eq0.true

pub returns-then-grown-eq0-clause-had : goal.returns-then-grown-eq0-clause-had
returns-then-grown-eq0-clause-had g t c = λ is tree.
    let form : Form = c.args.form in
    let old : PageMap = g.P.Pages.pages c.args.pages.now in
    let l : ℕ = c.args.level - 1 in
    let up : c.args.level ≡ suc l = omega arith in
    let step = c.in_ok-step.ensures in
    let f = step.frame in
    mid-had c.args.least old c.args.page l up is step.steps c.requires.from c.requires.to c.least_at.ensures.is f.pages f.count f.first step.gives c.in_ok-grown.grown.had tree (c.in_ok-grown.ensures.had (mid-bytes c.args.least old c.args.page l up is step.steps c.requires.from c.requires.to c.least_at.ensures.is f.pages f.count f.first step.gives tree) (mid-tree c.args.least old c.args.page l up is step.steps c.requires.from c.requires.to c.least_at.ensures.is f.pages f.count f.first step.gives tree))

pub returns-then-grown-eq0-clause-kept : goal.returns-then-grown-eq0-clause-kept
returns-then-grown-eq0-clause-kept g t c = λ told is.
    let form : Form = c.args.form in
    let old : PageMap = g.P.Pages.pages c.args.pages.now in
    let l : ℕ = c.args.level - 1 in
    let up : c.args.level ≡ suc l = omega arith in
    let step = c.in_ok-step.ensures in
    let f = step.frame in
    let known = mid-told c.args.least old c.args.page l up is step.steps c.requires.from c.requires.to c.least_at.ensures.is f.pages f.count f.first step.gives told step.counted in
    let kept = mid-kept c.args.least old c.args.page l up is step.steps c.requires.from c.requires.to c.least_at.ensures.is f.pages f.count f.first step.gives _ _ (c.in_ok-grown.ensures.kept known.0 known.1) in
    subst (λ (k : ℕ). KeepsAbove k old (g.P.Pages.count c.args.pages.now) (g.P.Pages.pages c.put_in.new.pages) (g.P.Pages.count c.put_in.new.pages)) (sym up) (kept-higher l _ _ old _ kept)

pub returns-then-grown-eq0-clause-own : goal.returns-then-grown-eq0-clause-own
returns-then-grown-eq0-clause-own g t c = λ before asked told is.
    let form : Form = c.args.form in
    let old : PageMap = g.P.Pages.pages c.args.pages.now in
    let l : ℕ = c.args.level - 1 in
    let up : c.args.level ≡ suc l = omega arith in
    let step = c.in_ok-step.ensures in
    let f = step.frame in
    let known = mid-told c.args.least old c.args.page l up is step.steps c.requires.from c.requires.to c.least_at.ensures.is f.pages f.count f.first step.gives told step.counted in
    mid-own c.args.least old c.args.page l up is step.steps c.requires.from c.requires.to c.least_at.ensures.is f.pages f.count f.first step.gives before (g.P.Pages.asked c.args.pages.now) _ asked (c.put_in.ensures.own (g.P.Pages.asked c.args.pages.now) step.asked known.0 known.1)

pub returns-in_err-more-clause-supplied : goal.returns-in_err-more-clause-supplied
returns-in_err-more-clause-supplied g t c =
    let passed = err_from_is_err_and c.from_residual-in_err-more.result c.from_residual-in_err-more.ensures.1 in
    let form : Form = c.args.form in
    let old : PageMap = g.P.Pages.pages c.args.pages.now in
    let l : ℕ = c.args.level - 1 in
    let up : c.args.level ≡ suc l = omega arith in
    let step = c.in_ok-step.ensures in
    let f = step.frame in
    rw (passed.1, passed.2) (λ free is tree supplied once damage e.
    let grew = c.in_ok-grown.ensures.grown free (mid-bytes c.args.least old c.args.page l up is step.steps c.requires.from c.requires.to c.least_at.ensures.is f.pages f.count f.first step.gives tree) (mid-tree c.args.least old c.args.page l up is step.steps c.requires.from c.requires.to c.least_at.ensures.is f.pages f.count f.first step.gives tree) (mid-supplied c.args.least old c.args.page l up is step.steps c.requires.from c.requires.to c.least_at.ensures.is f.pages f.count f.first step.gives free supplied) (mid-once c.args.least old c.args.page l up is step.steps c.requires.from c.requires.to c.least_at.ensures.is f.pages f.count f.first step.gives free once) in
    let same = stayed c.args.least old c.args.page l up is step.steps c.requires.from c.requires.to c.least_at.ensures.is f.pages f.count f.first step.gives c.args.value.now free tree once (g.P.Pages.pages c.put_in.new.pages) (g.P.Pages.count c.put_in.new.pages) (g.P.Pages.first c.put_in.new.pages) c.in_ok-grown.grown.right (number c.put_in.new.middle) grew in
    let k = to-be-linked c.args.least old c.args.page l up is step.steps c.requires.from c.requires.to c.least_at.ensures.is f.pages f.count f.first step.gives c.args.value.now free tree once (g.P.Pages.pages c.put_in.new.pages) (g.P.Pages.count c.put_in.new.pages) (g.P.Pages.first c.put_in.new.pages) c.in_ok-grown.grown.right (number c.put_in.new.middle) grew (omega arith) in
    absurd (c.relink.ensures.no_false_damage k.free_now (subst (IsInner form c.args.least (suc l)) (sym same) k.inner) (subst (λ (b : List ℕ). c.in_ok-step.step.at < count_of b) (is ∙ sym same) step.steps.within) k.supplied damage
    (c.in_err-more.was ∙ ap Err (same-fault {T = Grown} _ _ e))))

pub returns-in_err-more-clause-damaged : goal.returns-in_err-more-clause-damaged
returns-in_err-more-clause-damaged g t c =
    let passed = err_from_is_err_and c.from_residual-in_err-more.result c.from_residual-in_err-more.ensures.1 in
    let form : Form = c.args.form in
    let old : PageMap = g.P.Pages.pages c.args.pages.now in
    let l : ℕ = c.args.level - 1 in
    let up : c.args.level ≡ suc l = omega arith in
    let step = c.in_ok-step.ensures in
    let f = step.frame in
    rw (passed.1, passed.2) (λ before asked told is damage e.
    let known = mid-told c.args.least old c.args.page l up is step.steps c.requires.from c.requires.to c.least_at.ensures.is f.pages f.count f.first step.gives told step.counted in
    let kept = mid-kept c.args.least old c.args.page l up is step.steps c.requires.from c.requires.to c.least_at.ensures.is f.pages f.count f.first step.gives _ _ (c.in_ok-grown.ensures.kept known.0 known.1) in
    let inner = subst (λ (k : ℕ). IsInner form c.args.least k (g.P.Pages.looked c.args.pages.now)) up step.sound in
    let same = page-kept form c.args.least l c.args.page (g.P.Pages.count c.args.pages.now) _ (g.P.Pages.looked c.args.pages.now) old _ is inner (counted-below _ _ c.requires.counted) kept in
    inr (c.relink.ensures.damaged (subst (IsInner form c.args.least (suc l)) (sym same) inner) (subst (λ (b : List ℕ). c.in_ok-step.step.at < count_of b) (sym same) step.steps.within) damage
    (c.in_err-more.was ∙ ap Err (same-fault {T = Grown} _ _ e))))

pub returns-in_err-more-clause-stays : goal.returns-in_err-more-clause-stays
returns-in_err-more-clause-stays g t c =
    let passed = err_from_is_err_and c.from_residual-in_err-more.result c.from_residual-in_err-more.ensures.1 in
    let form : Form = c.args.form in
    let old : PageMap = g.P.Pages.pages c.args.pages.now in
    let l : ℕ = c.args.level - 1 in
    let up : c.args.level ≡ suc l = omega arith in
    let step = c.in_ok-step.ensures in
    let f = step.frame in
    rw (passed.1, passed.2) (λ told is damage e.
    let known = mid-told c.args.least old c.args.page l up is step.steps c.requires.from c.requires.to c.least_at.ensures.is f.pages f.count f.first step.gives told step.counted in
    let kept = mid-kept c.args.least old c.args.page l up is step.steps c.requires.from c.requires.to c.least_at.ensures.is f.pages f.count f.first step.gives _ _ (c.in_ok-grown.ensures.kept known.0 known.1) in
    let inner = subst (λ (k : ℕ). IsInner form c.args.least k (g.P.Pages.looked c.args.pages.now)) up step.sound in
    let same = page-kept form c.args.least l c.args.page (g.P.Pages.count c.args.pages.now) _ (g.P.Pages.looked c.args.pages.now) old _ is inner (counted-below _ _ c.requires.counted) kept in
    inr (c.relink.ensures.damaged (subst (IsInner form c.args.least (suc l)) (sym same) inner) (subst (λ (b : List ℕ). c.in_ok-step.step.at < count_of b) (sym same) step.steps.within) damage
    (c.in_err-more.was ∙ ap Err (same-fault {T = Grown} _ _ e))))

pub returns-in_err-more-clause-own : goal.returns-in_err-more-clause-own
returns-in_err-more-clause-own g t c = λ before asked told is.
    let form : Form = c.args.form in
    let old : PageMap = g.P.Pages.pages c.args.pages.now in
    let l : ℕ = c.args.level - 1 in
    let up : c.args.level ≡ suc l = omega arith in
    let step = c.in_ok-step.ensures in
    let f = step.frame in
    let known = mid-told c.args.least old c.args.page l up is step.steps c.requires.from c.requires.to c.least_at.ensures.is f.pages f.count f.first step.gives told step.counted in
    let mine : ℕ → ℕ = uses form old c.args.level c.args.page in
    asks-further mine before _ _ (mid-own c.args.least old c.args.page l up is step.steps c.requires.from c.requires.to c.least_at.ensures.is f.pages f.count f.first step.gives before (g.P.Pages.asked c.args.pages.now) _ asked (c.put_in.ensures.own (g.P.Pages.asked c.args.pages.now) step.asked known.0 known.1))
    (c.relink.ensures.own mine (uses-self form old c.args.level c.args.page))

pub returns-clause-grown : goal.returns-clause-grown
returns-clause-grown g t c = λ free is tree supplied once.
    let form : Form = c.args.form in
    let old : PageMap = g.P.Pages.pages c.args.pages.now in
    let l : ℕ = c.args.level - 1 in
    let up : c.args.level ≡ suc l = omega arith in
    let step = c.in_ok-step.ensures in
    let f = step.frame in
    let grew = c.in_ok-grown.ensures.grown free (mid-bytes c.args.least old c.args.page l up is step.steps c.requires.from c.requires.to c.least_at.ensures.is f.pages f.count f.first step.gives tree) (mid-tree c.args.least old c.args.page l up is step.steps c.requires.from c.requires.to c.least_at.ensures.is f.pages f.count f.first step.gives tree) (mid-supplied c.args.least old c.args.page l up is step.steps c.requires.from c.requires.to c.least_at.ensures.is f.pages f.count f.first step.gives free supplied) (mid-once c.args.least old c.args.page l up is step.steps c.requires.from c.requires.to c.least_at.ensures.is f.pages f.count f.first step.gives free once) in
    let same = stayed c.args.least old c.args.page l up is step.steps c.requires.from c.requires.to c.least_at.ensures.is f.pages f.count f.first step.gives c.args.value.now free tree once (g.P.Pages.pages c.put_in.new.pages) (g.P.Pages.count c.put_in.new.pages) (g.P.Pages.first c.put_in.new.pages) c.in_ok-grown.grown.right (number c.put_in.new.middle) grew in
    let k = to-be-linked c.args.least old c.args.page l up is step.steps c.requires.from c.requires.to c.least_at.ensures.is f.pages f.count f.first step.gives c.args.value.now free tree once (g.P.Pages.pages c.put_in.new.pages) (g.P.Pages.count c.put_in.new.pages) (g.P.Pages.first c.put_in.new.pages) c.in_ok-grown.grown.right (number c.put_in.new.middle) grew (omega arith) in
    let last : PageMap = g.P.Pages.pages c.relink.new.pages in
    let low : ℕ = low_of form c.args.bounds.now in
    let high : ℕ = high_of form c.args.bounds.now in
    let made = k.then_grown last (g.P.Pages.count c.relink.new.pages) (g.P.Pages.first c.relink.new.pages) c.in_ok-more.more (number c.relink.new.middle)
    (c.in_ok-more.ensures.grown (old c.args.page) low high k.free_now same k.inner (subst (λ (b : List ℕ). c.in_ok-step.step.at < count_of b) is step.steps.within) k.fan k.supplied k.once_more) in
    subst (λ (x : ℕ). IsGrown form c.args.least (view old (g.P.Pages.count c.args.pages.now) (g.P.Pages.first c.args.pages.now) free) (uses form old x c.args.page) last (g.P.Pages.count c.relink.new.pages) (g.P.Pages.first c.relink.new.pages) x c.args.page low high (put (number c.args.key.now) c.args.value.now (rows_at form old x c.args.page)) c.in_ok-more.more (number c.relink.new.middle)) (sym up) made

pub returns-clause-had : goal.returns-clause-had
returns-clause-had g t c = λ is tree.
    let form : Form = c.args.form in
    let old : PageMap = g.P.Pages.pages c.args.pages.now in
    let l : ℕ = c.args.level - 1 in
    let up : c.args.level ≡ suc l = omega arith in
    let step = c.in_ok-step.ensures in
    let f = step.frame in
    mid-had c.args.least old c.args.page l up is step.steps c.requires.from c.requires.to c.least_at.ensures.is f.pages f.count f.first step.gives c.in_ok-grown.grown.had tree (c.in_ok-grown.ensures.had (mid-bytes c.args.least old c.args.page l up is step.steps c.requires.from c.requires.to c.least_at.ensures.is f.pages f.count f.first step.gives tree) (mid-tree c.args.least old c.args.page l up is step.steps c.requires.from c.requires.to c.least_at.ensures.is f.pages f.count f.first step.gives tree))

pub returns-clause-kept : goal.returns-clause-kept
returns-clause-kept g t c = λ told is.
    let form : Form = c.args.form in
    let old : PageMap = g.P.Pages.pages c.args.pages.now in
    let l : ℕ = c.args.level - 1 in
    let up : c.args.level ≡ suc l = omega arith in
    let step = c.in_ok-step.ensures in
    let f = step.frame in
    let known = mid-told c.args.least old c.args.page l up is step.steps c.requires.from c.requires.to c.least_at.ensures.is f.pages f.count f.first step.gives told step.counted in
    let below = c.in_ok-grown.ensures.kept known.0 known.1 in
    let kept = mid-kept c.args.least old c.args.page l up is step.steps c.requires.from c.requires.to c.least_at.ensures.is f.pages f.count f.first step.gives _ _ below in
    let inner = subst (λ (k : ℕ). IsInner form c.args.least k (g.P.Pages.looked c.args.pages.now)) up step.sound in
    let m = c.put_in.ensures.frame.count in
    let e = f.count in
    subst (λ (k : ℕ). KeepsAbove k old (g.P.Pages.count c.args.pages.now) (g.P.Pages.pages c.relink.new.pages) (g.P.Pages.count c.relink.new.pages)) (sym up)
    (inner-keeps form c.args.least l c.args.page (g.P.Pages.count c.args.pages.now) (g.P.Pages.count c.put_in.new.pages) _ (g.P.Pages.looked c.args.pages.now) old (g.P.Pages.pages c.put_in.new.pages) _ is inner (omega arith) kept (c.in_ok-more.ensures.kept below.told))

pub returns-clause-own : goal.returns-clause-own
returns-clause-own g t c = λ before asked told is.
    let form : Form = c.args.form in
    let old : PageMap = g.P.Pages.pages c.args.pages.now in
    let l : ℕ = c.args.level - 1 in
    let up : c.args.level ≡ suc l = omega arith in
    let step = c.in_ok-step.ensures in
    let f = step.frame in
    let known = mid-told c.args.least old c.args.page l up is step.steps c.requires.from c.requires.to c.least_at.ensures.is f.pages f.count f.first step.gives told step.counted in
    let mine : ℕ → ℕ = uses form old c.args.level c.args.page in
    asks-further mine before _ _ (mid-own c.args.least old c.args.page l up is step.steps c.requires.from c.requires.to c.least_at.ensures.is f.pages f.count f.first step.gives before (g.P.Pages.asked c.args.pages.now) _ asked (c.put_in.ensures.own (g.P.Pages.asked c.args.pages.now) step.asked known.0 known.1))
    (c.relink.ensures.own mine (uses-self form old c.args.level c.args.page))

pub returns-then-grown-eq0-clause-frame : goal.returns-then-grown-eq0-clause-frame
returns-then-grown-eq0-clause-frame g t c = changes_then g.P.Pages g.met.P.Pages.goes_further _ _ _ (reads_change g.P.Pages _ _ c.in_ok-step.ensures.frame) c.put_in.ensures.frame

pub returns-in_err-more-clause-frame : goal.returns-in_err-more-clause-frame
returns-in_err-more-clause-frame g t c =
    changes_then g.P.Pages g.met.P.Pages.goes_further _ _ _ (changes_then g.P.Pages g.met.P.Pages.goes_further _ _ _ (reads_change g.P.Pages _ _ c.in_ok-step.ensures.frame) c.put_in.ensures.frame) c.relink.ensures.frame

pub returns-clause-frame : goal.returns-clause-frame
returns-clause-frame g t c =
    changes_then g.P.Pages g.met.P.Pages.goes_further _ _ _ (changes_then g.P.Pages g.met.P.Pages.goes_further _ _ _ (reads_change g.P.Pages _ _ c.in_ok-step.ensures.frame) c.put_in.ensures.frame) c.relink.ensures.frame

pub returns-clause-fails : goal.returns-clause-fails
returns-clause-fails g t c = record {
  disk = λ e. absurd (cc);
  hides_none = c.in_ok-more.ensures.fails.hides_none ∙ c.in_ok-grown.ensures.fails.hides_none ∙ c.in_ok-step.ensures.fails.hides_none;
  full = λ e. absurd (cc);
  stopped = λ e. absurd (cc);
}
