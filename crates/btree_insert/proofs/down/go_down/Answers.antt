use Rattle.std.proofs.Common.{arith, ◌≡◌, ◌-◌, ◌++◌, ◌∷◌, [], ℕ, ◌∙◌, sym, ap, List, subst, suc, refl, Err}
use Rattle.page_face.specs.FreeList.{PageMap}
use Rattle.page_face.specs.Causes.{IsUncounted, asked_after}
use Rattle.page_face.specs.declared.fault.Damage.{Damage}
use Rattle.btree_nodes.specs.declared.form.Form.{Form}
use Rattle.btree_nodes.specs.Nodes.{half_of}
use Rattle.btree_nodes.specs.Tree.{uses}
use Rattle.btree_nodes.specs.Damages.{AsksOnly}
use Rattle.btree_nodes.proofs.Harms.{asked-here, asks-here}
use Rattle.btree_nodes.proofs.Walks.{same-fault, named-read, uses-self, asks-read, damage-link, uses-below, damage-below}
use Rattle.btree_insert.specs.declared.down.Step.{Step}
use Rattle.btree_insert.proofs.Grows.{damage-inner}
use Rattle.btree_insert.proofs.down.go_down.Goals as goal
use Rattle.btree_nodes.proofs.Descents.{same-damage}

pub returns-in-Err-clause-damaged : goal.returns-in-Err-clause-damaged
returns-in-Err-clause-damaged g c = λ is damage e.
    let same = same-damage {T = Step} _ c.damaged.result (record { page = c.args.page; rule = c.in-Err.rule }) damage refl c.damaged.ensures e in
    damage-inner c.args.form (g.P.Pages.pages c.args.pages.now) (g.P.Pages.count c.args.pages.now) damage c.args.least c.args.level c.args.page _ _ c.in-Err.rule (g.P.Pages.looked c.args.pages.now)
    (λ z. let up = c.requires.level in omega arith) is same c.in-Err.ensures.breaks

pub returns-in-Err-clause-named : goal.returns-in-Err-clause-named
returns-in-Err-clause-named g c = λ before asked damage e.
    let same = same-damage {T = Step} _ c.damaged.result (record { page = c.args.page; rule = c.in-Err.rule }) damage refl c.damaged.ensures e in
    asked-here before _ damage.page (c.step_from.ensures.asked ∙ asked ∙ ap (λ (p : ℕ). before ++ p ∷ []) (sym (ap (λ (d : Damage). d.page) same)))

pub returns-in-Err-clause-own : goal.returns-in-Err-clause-own
returns-in-Err-clause-own g c = λ before asked is.
    asks-here (uses c.args.form (g.P.Pages.pages c.args.pages.now) c.args.level c.args.page) before _ c.args.page (uses-self c.args.form (g.P.Pages.pages c.args.pages.now) c.args.level c.args.page) (c.step_from.ensures.asked ∙ asked)

pub returns-in-Ok-look-clause-own : goal.returns-in-Ok-look-clause-own
returns-in-Ok-look-clause-own g c = λ before asked is.
    let form : Form = c.args.form in
    let old : PageMap = g.P.Pages.pages c.args.pages.now in
    let since : List ℕ = g.P.Pages.asked c.args.pages.now in
    let l : ℕ = c.args.level - 1 in
    let up : c.args.level ≡ suc l = let some = c.requires.level in omega arith in
    let s = c.in-Ok.ensures.steps in
    let child : ℕ = c.in-Ok.step.child in
    let mine : ℕ → ℕ = uses form old c.args.level c.args.page in
    let here = asks-here mine before since c.args.page (uses-self form old c.args.level c.args.page) asked in
    let below = uses-below form old (g.P.Pages.looked c.args.pages.now) c.args.level l c.args.page c.in-Ok.step.at up is s.within child child s.is (uses-self form old l child) in
    subst (λ (x : List ℕ). AsksOnly mine before x) (sym (c.look.ensures.asked ∙ ap (asked_after c.look.result child) c.step_from.ensures.asked)) (asks-read mine before since child c.look.result here below)

pub returns-in-Err-look-clause-damaged : goal.returns-in-Err-look-clause-damaged
returns-in-Err-look-clause-damaged g c = λ is damage e.
    let form : Form = c.args.form in
    let old : PageMap = g.P.Pages.pages c.args.pages.now in
    let count : ℕ = g.P.Pages.count c.args.pages.now in
    let l : ℕ = c.args.level - 1 in
    let up : c.args.level ≡ suc l = let some = c.requires.level in omega arith in
    let s = c.in-Ok.ensures.steps in
    let child : ℕ = c.in-Ok.step.child in
    let d = c.look.ensures.damaged damage (c.in-Err-look.is ∙ ap Err (same-fault {T = Step} _ _ e)) in
    damage-below form old (g.P.Pages.looked c.args.pages.now) c.args.level l c.args.page c.in-Ok.step.at up is s.within count damage c.args.least (half_of form l) _ _ _ _ child refl s.from s.to s.is
    (damage-link form old count damage (half_of form l) l child _ _ d.0 (subst (λ (n : ℕ). IsUncounted n child) c.step_from.ensures.frame.count d.1))

pub returns-in-Err-look-clause-named : goal.returns-in-Err-look-clause-named
returns-in-Err-look-clause-named g c = λ before asked damage e.
    let was = c.in-Err-look.is ∙ ap Err (same-fault {T = Step} _ _ e) in
    let d = c.look.ensures.damaged damage was in
    named-read before (g.P.Pages.asked c.args.pages.now) (g.P.Pages.asked c.look.new.self) c.args.page c.in-Ok.step.child c.look.result damage asked
    (c.look.ensures.asked ∙ ap (asked_after c.look.result c.in-Ok.step.child) c.step_from.ensures.asked) was (ap (λ (x : Damage). x.page) d.0)

pub returns-in-Err-look-clause-own : goal.returns-in-Err-look-clause-own
returns-in-Err-look-clause-own g c = λ before asked is.
    let form : Form = c.args.form in
    let old : PageMap = g.P.Pages.pages c.args.pages.now in
    let since : List ℕ = g.P.Pages.asked c.args.pages.now in
    let l : ℕ = c.args.level - 1 in
    let up : c.args.level ≡ suc l = let some = c.requires.level in omega arith in
    let s = c.in-Ok.ensures.steps in
    let child : ℕ = c.in-Ok.step.child in
    let mine : ℕ → ℕ = uses form old c.args.level c.args.page in
    let here = asks-here mine before since c.args.page (uses-self form old c.args.level c.args.page) asked in
    let below = uses-below form old (g.P.Pages.looked c.args.pages.now) c.args.level l c.args.page c.in-Ok.step.at up is s.within child child s.is (uses-self form old l child) in
    subst (λ (x : List ℕ). AsksOnly mine before x) (sym (c.look.ensures.asked ∙ ap (asked_after c.look.result child) c.step_from.ensures.asked)) (asks-read mine before since child c.look.result here below)
