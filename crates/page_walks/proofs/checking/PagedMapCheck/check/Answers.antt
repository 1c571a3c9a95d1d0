use Rattle.std.proofs.Common.{ℕ, List, Err, ap, subst}
use Rattle.page_face.specs.declared.fault.Rule.{Rule}
use Rattle.btree_nodes.specs.declared.form.Form.{Form}
use Rattle.page_walks.specs.Met.{held}
use Rattle.page_walks.specs.Maps.{IsBadMap}
use Rattle.page_walks.proofs.Roots.{bad-broken, broken-apart}
use Rattle.page_walks.proofs.checking.PagedMapCheck.check.Goals as goal

abbrev Never : Rule → List ℕ → Type 0
Never rule bytes = ⊥

pub returns-in-Err-Damaged-clause-decides : goal.returns-in-Err-Damaged-clause-decides
returns-in-Err-Damaged-clause-decides g c = λ told.
    let p = g.P.Pages in
    let d = c.in-Err-Damaged.damage in
    bad-broken g.L.Layout.form (p.pages c.args.pages.now) (p.count c.args.pages.now) (held c.args.seen.now) c.args.self.now.root d
    (subst (λ (f : Form). IsBadMap Never f (p.pages c.args.pages.now) (p.count c.args.pages.now) (held c.args.seen.now) c.args.self.now.root d) c.form_of.ensures
    (subst (λ (r : ℕ). IsBadMap Never c.form_of.result (p.pages c.args.pages.now) (p.count c.args.pages.now) (held c.args.seen.now) r d) c.root.ensures
    (c.in-Err-Damaged.ensures.damaged told d (ap Err c.in-Err-Damaged.field-0-is))))

pub returns-in-Err-Damaged-clause-exact : goal.returns-in-Err-Damaged-clause-exact
returns-in-Err-Damaged-clause-exact g c = λ told.
    let p = g.P.Pages in
    broken-apart g.L.Layout.form (p.pages c.args.pages.now) (p.count c.args.pages.now) (held c.args.seen.now) c.args.self.now.root c.in-Err-Damaged.damage (returns-in-Err-Damaged-clause-decides g c told)
