use Rattle.std.proofs.Common.{ℕ, Err, ap, subst}
use Rattle.btree_nodes.specs.declared.form.Form.{Form}
use Rattle.page_walks.specs.Met.{held}
use Rattle.page_walks.specs.Maps.{IsBadMap}
use Rattle.page_walks.proofs.Roots.{bad-apart}
use Rattle.page_walks.proofs.checking.PagedMapCheck.check_into.Goals as goal

pub returns-in-Err-Damaged-clause-exact : goal.returns-in-Err-Damaged-clause-exact
returns-in-Err-Damaged-clause-exact g c = λ told.
    let p = g.P.Pages in
    let d = c.in-Err-Damaged.damage in
    bad-apart g.S.Sink.breaks g.S.Sink.good g.met.S.Sink.apart g.L.Layout.form (p.pages c.args.pages.now) (p.count c.args.pages.now) (held c.args.seen.now) c.args.self.now.root d
    (subst (λ (f : Form). IsBadMap g.S.Sink.breaks f (p.pages c.args.pages.now) (p.count c.args.pages.now) (held c.args.seen.now) c.args.self.now.root d) c.form_of.ensures
    (subst (λ (r : ℕ). IsBadMap g.S.Sink.breaks c.form_of.result (p.pages c.args.pages.now) (p.count c.args.pages.now) (held c.args.seen.now) r d) c.root.ensures
    (c.in-Err-Damaged.ensures.damaged told d (ap Err c.in-Err-Damaged.field-0-is))))
