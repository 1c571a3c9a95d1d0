use Rattle.std.proofs.Common.{sym, ◌∙◌, subst, refl, ℕ, inr}
use Rattle.std.proofs.lemmas.Bool.{false≢true}
use Rattle.rtree_nodes.specs.Pages.{slots_in}
use Rattle.rtree_nodes.proofs.Bounding.{form-rects, some-form}
use Rattle.irtree_insert.specs.Drafts.{AreOutlined}
use Rattle.irtree_insert.proofs.Loads.{read-outlined, header-sound}
use Rattle.std.proofs.lemmas.Result.{err_from_is_err_and}
use Rattle.irtree_insert.proofs.Harms.{no-values}
use Rattle.irtree_insert.proofs.draft.Draft.load.Goals as goal

pub returns-in_err-head-clause-ok : goal.returns-in_err-head-clause-ok
returns-in_err-head-clause-ok c = λ some. absurd (header-sound c.in_err-head.field-0.0 c.args.page.now c.in_err-head.ensures some)

pub returns-in_err-self-clause-ok : goal.returns-in_err-self-clause-ok
returns-in_err-self-clause-ok c = λ some. absurd (false≢true (sym (c.in_err-self.ensures.value.0 refl) ∙ form-rects c.args.page.now (some-form c.args.page.now some)))

pub returns-clause-draft : goal.returns-clause-draft
returns-clause-draft c = λ form. record { form = form; outlined = subst (λ (u : ℕ). AreOutlined u c.in_ok-self.field-0 (slots_in c.args.page.now)) (sym c.in_ok-head.ensures.1) (read-outlined c.args.page.now c.in_ok-self.field-0 form (c.in_ok-self.ensures.reach form)) }

pub returns-in_err-self-clause-refuses : goal.returns-in_err-self-clause-refuses
returns-in_err-self-clause-refuses c =
    let r = err_from_is_err_and c.from_residual-in_err-self.result c.from_residual-in_err-self.ensures.1 in
    rw (r.1, r.2) (inr (c.in_err-self.ensures.rule, no-values c.args.page.now (c.in_err-self.ensures.value.0 refl)))
