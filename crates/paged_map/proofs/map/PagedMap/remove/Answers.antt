use Rattle.std.proofs.Common.{◌≡◌, ℕ, ◌∙◌, sym, ap, subst, refl, Err, Bool}
use Rattle.std.specs.Option.{is_some}
use Rattle.std.proofs.lemmas.Result.{err_from_is_err_and}
use Rattle.page_face.specs.FreeList.{PageMap}
use Rattle.page_face.specs.Number.{number}
use Rattle.btree_nodes.specs.declared.form.Form.{Form}
use Rattle.btree_nodes.specs.Supply.{view}
use Rattle.btree_nodes.specs.Rows.{lookup, without}
use Rattle.btree_nodes.specs.Tree.{map_rows, map_uses}
use Rattle.btree_nodes.specs.Damages.{AskedSince, AsksOnly}
use Rattle.btree_nodes.proofs.Harms.{asks-nothing}
use Rattle.paged_map.specs.Maps.{IsKept, HasBecome, IsMapDamaged}
use Rattle.btree_nodes.proofs.Walks.{same-fault}
use Rattle.paged_map.proofs.Maps.{map-none}
use Rattle.paged_map.proofs.Removes.{stays}
use Rattle.paged_map.proofs.map.PagedMap.remove.Goals as goal

pub returns-then-self-eq0-clause-removed : goal.returns-then-self-eq0-clause-removed
returns-then-self-eq0-clause-removed g c = λ free kept.
    let form : Form = g.L.Layout.form in
    let old : PageMap = g.P.Pages.pages c.args.pages.now in
    let count : ℕ = g.P.Pages.count c.args.pages.now in
    let first : ℕ = g.P.Pages.first c.args.pages.now in
    let root : ℕ = c.args.self.now.root in
    let none = map-none form old root c.if-self-eq0.true in (
      sym (ap (λ rows. is_some (lookup (number c.args.key.now) rows)) none),
      subst (HasBecome form (view old count first free) old count first root root) (none ∙ sym (ap (without (number c.args.key.now)) none))
          (stays form (view old count first free) old count first root refl refl refl kept),
    )

pub returns-then-self-eq0-clause-own : goal.returns-then-self-eq0-clause-own
returns-then-self-eq0-clause-own g c = λ told. asks-nothing _ _ _ refl

pub returns-in_err-after-clause-no_false_damage : goal.returns-in_err-after-clause-no_false_damage
returns-in_err-after-clause-no_false_damage g c =
    let passed = err_from_is_err_and c.from_residual.result c.from_residual.ensures.1 in
    let form : Form = g.L.Layout.form in
    let old : PageMap = g.P.Pages.pages c.args.pages.now in
    let count : ℕ = g.P.Pages.count c.args.pages.now in
    let first : ℕ = g.P.Pages.first c.args.pages.now in
    let root : ℕ = c.args.self.now.root in
    let e = c.form_of.ensures in
    rw (passed.1, passed.2) (λ free kept damage e'.
    c.remove_row.ensures.no_false_damage free (subst (λ (f : Form). IsKept f (view old count first free) root) (sym e) kept) damage (c.in_err-after.was ∙ ap Err (same-fault {T = Bool} _ _ e')))

pub returns-in_err-after-clause-damaged : goal.returns-in_err-after-clause-damaged
returns-in_err-after-clause-damaged g c =
    let passed = err_from_is_err_and c.from_residual.result c.from_residual.ensures.1 in
    let form : Form = g.L.Layout.form in
    let old : PageMap = g.P.Pages.pages c.args.pages.now in
    let count : ℕ = g.P.Pages.count c.args.pages.now in
    let first : ℕ = g.P.Pages.first c.args.pages.now in
    let root : ℕ = c.args.self.now.root in
    let e = c.form_of.ensures in
    rw (passed.1, passed.2) (λ told damage e'.
    subst (λ (f : Form). IsMapDamaged f old count root damage × AskedSince (g.P.Pages.asked c.args.pages.now) (g.P.Pages.asked c.remove_row.new.pages) damage.page) e
    (c.remove_row.ensures.damaged told damage (c.in_err-after.was ∙ ap Err (same-fault {T = Bool} _ _ e'))))

pub returns-in_err-after-clause-stays : goal.returns-in_err-after-clause-stays
returns-in_err-after-clause-stays g c =
    let passed = err_from_is_err_and c.from_residual.result c.from_residual.ensures.1 in
    rw (passed.1, passed.2) (λ damage e. c.remove_row.ensures.stays damage (c.in_err-after.was ∙ ap Err (same-fault {T = Bool} _ _ e)))

pub returns-in_err-after-clause-own : goal.returns-in_err-after-clause-own
returns-in_err-after-clause-own g c = λ told.
    let form : Form = g.L.Layout.form in
    let old : PageMap = g.P.Pages.pages c.args.pages.now in
    let count : ℕ = g.P.Pages.count c.args.pages.now in
    let first : ℕ = g.P.Pages.first c.args.pages.now in
    let root : ℕ = c.args.self.now.root in
    let e = c.form_of.ensures in
    subst (λ (f : Form). AsksOnly (map_uses f old root) (g.P.Pages.asked c.args.pages.now) (g.P.Pages.asked c.remove_row.new.pages)) e (c.remove_row.ensures.own told)

pub returns-clause-own : goal.returns-clause-own
returns-clause-own g c = λ told.
    let form : Form = g.L.Layout.form in
    let old : PageMap = g.P.Pages.pages c.args.pages.now in
    let count : ℕ = g.P.Pages.count c.args.pages.now in
    let first : ℕ = g.P.Pages.first c.args.pages.now in
    let root : ℕ = c.args.self.now.root in
    let e = c.form_of.ensures in
    subst (λ (f : Form). AsksOnly (map_uses f old root) (g.P.Pages.asked c.args.pages.now) (g.P.Pages.asked c.remove_row.new.pages)) e (c.remove_row.ensures.own told)

pub returns-clause-removed : goal.returns-clause-removed
returns-clause-removed g c = λ free kept.
    let form : Form = g.L.Layout.form in
    let old : PageMap = g.P.Pages.pages c.args.pages.now in
    let count : ℕ = g.P.Pages.count c.args.pages.now in
    let first : ℕ = g.P.Pages.first c.args.pages.now in
    let root : ℕ = c.args.self.now.root in
    let e = c.form_of.ensures in
    subst (λ (f : Form). (c.in_ok-after.after.had ≡ is_some (lookup (number c.args.key.now) (map_rows f old root)))
    × HasBecome f (view old count first free) (g.P.Pages.pages c.remove_row.new.pages) (g.P.Pages.count c.remove_row.new.pages) (g.P.Pages.first c.remove_row.new.pages) root c.in_ok-after.after.root (without (number c.args.key.now) (map_rows f old root))) e
    (c.in_ok-after.ensures.removed free (subst (λ (f : Form). IsKept f (view old count first free) root) (sym e) kept))
