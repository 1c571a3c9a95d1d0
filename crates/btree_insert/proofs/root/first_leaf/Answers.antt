use Rattle.std.proofs.Common.{arith, ◌∙◌, ◌^◌, ◌<◌, ℕ, subst}
use Rattle.std.proofs.lemmas.Result.{err_from_is_err_and}
use Rattle.page_face.specs.Number.{number}
use Rattle.btree_nodes.proofs.Numbers.{number_below}
use Rattle.btree_nodes.proofs.Supplies.{take-no_false_damage, refused-same}
use Rattle.btree_nodes.proofs.Tolds.{image_told}
use Rattle.btree_insert.proofs.Keeps.{told-taken}
use Rattle.btree_insert.proofs.Roots.{planted}
use Rattle.btree_insert.proofs.root.first_leaf.Goals as goal

pub returns-clause-grown : goal.returns-clause-grown
returns-clause-grown g c = λ free supplied once.
    let t = c.in_ok-root.ensures in
    planted c.args.form (g.P.Pages.pages c.args.pages.now) (g.P.Pages.pages c.take.new.self) (g.P.Pages.pages c.write_leaf.new.pages) (g.P.Pages.count c.args.pages.now) (g.P.Pages.count c.take.new.self) (g.P.Pages.first c.args.pages.now) (g.P.Pages.first c.take.new.self) _ _
    c.in_ok-root.root free c.args.key.now c.args.value.now supplied once t.counts_one t.takes_free t.others c.in_ok-write_leaf.ensures.written c.in_ok-write_leaf.ensures.frame.count c.in_ok-write_leaf.ensures.first c.requires.key c.requires.value
    (subst (λ (n : ℕ). number c.args.key.now < 256 ^ n) c.requires.key (number_below c.args.key.now (λ i. let f = c.type_inv.key i in omega arith)))

pub returns-in_err-root-clause-no_false_damage : goal.returns-in_err-root-clause-no_false_damage
returns-in_err-root-clause-no_false_damage g c =
    let passed = err_from_is_err_and c.from_residual.result c.from_residual.ensures.1 in
    rw (passed.1, passed.2) (λ free supplied damage e. take-no_false_damage (g.P.Pages.pages c.args.pages.now) (g.P.Pages.count c.args.pages.now) (g.P.Pages.first c.args.pages.now) free damage supplied
    (c.take.ensures.damaged damage (c.in_err-root.was ∙ e)))

pub returns-in_err-root-clause-damaged : goal.returns-in_err-root-clause-damaged
returns-in_err-root-clause-damaged g c =
    let passed = err_from_is_err_and c.from_residual.result c.from_residual.ensures.1 in
    let kept = c.in_err-root.ensures.kept in
    rw (passed.1, passed.2) (λ damage e. refused-same (g.P.Pages.pages c.args.pages.now) (g.P.Pages.pages c.take.new.self) (g.P.Pages.count c.args.pages.now) (g.P.Pages.count c.take.new.self)
    (g.P.Pages.first c.args.pages.now) (g.P.Pages.first c.take.new.self) damage kept.0 kept.1 kept.2 (c.take.ensures.damaged damage (c.in_err-root.was ∙ e)))

pub returns-clause-told : goal.returns-clause-told
returns-clause-told g c = λ told.
    let t = c.in_ok-root.ensures in
    let w = c.in_ok-write_leaf.ensures in
    told-taken (g.P.Pages.pages c.args.pages.now) (g.P.Pages.pages c.take.new.self) (g.P.Pages.pages c.write_leaf.new.pages) (g.P.Pages.count c.args.pages.now) (g.P.Pages.count c.take.new.self) (g.P.Pages.count c.write_leaf.new.pages)
    (g.P.Pages.first c.args.pages.now) (g.P.Pages.first c.take.new.self) c.in_ok-root.root _ told t.counts_one (λ h. let f = t.takes_free h in (f.0, f.1)) t.others w.written w.frame.count (image_told _ _ _ _ _)
