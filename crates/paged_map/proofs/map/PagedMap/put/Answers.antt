use Rattle.std.proofs.Common.{arith, ◌≡◌, ◌^◌, ℕ, ◌∙◌, sym, ap, [], ◌∷◌, subst, Err, Bool, inr, ◌⊎◌}
use Rattle.std.specs.Option.{is_some}
use Rattle.std.proofs.lemmas.Bool.Decides.{nat_tests}
use Rattle.std.proofs.lemmas.Result.{err_from_is_err_and}
use Rattle.page_face.specs.FreeList.{PageMap}
use Rattle.page_face.specs.Number.{number}
use Rattle.btree_nodes.specs.declared.form.Form.{Form}
use Rattle.btree_nodes.specs.Supply.{view}
use Rattle.btree_nodes.specs.Rows.{Row, lookup, put}
use Rattle.btree_nodes.specs.Tree.{IsMap, map_rows, map_uses}
use Rattle.btree_nodes.specs.Damages.{IsRefusedTake, AskedSince, AsksOnly}
use Rattle.btree_nodes.specs.Store.{IsGrown}
use Rattle.btree_nodes.proofs.Harms.{asks-nothing}
use Rattle.btree_insert.specs.Starts.{no_page}
use Rattle.paged_map.specs.Maps.{IsKept, HasBecome, IsMapDamaged}
use Rattle.btree_nodes.proofs.Walks.{same-fault}
use Rattle.paged_map.proofs.Maps.{map-none, unused, becomes}
use Rattle.paged_map.proofs.map.PagedMap.put.Goals as goal

pub returns-in_err-leaf-clause-no_false_damage : goal.returns-in_err-leaf-clause-no_false_damage
returns-in_err-leaf-clause-no_false_damage g c =
    let passed = err_from_is_err_and c.from_residual.result c.from_residual.ensures.1 in
    rw (passed.1, passed.2) (λ free kept damage e. c.first_leaf.ensures.no_false_damage free kept.supplied damage (c.in_err-leaf.was ∙ ap Err (same-fault {T = Bool} _ _ e)))

pub returns-in_err-leaf-clause-damaged : goal.returns-in_err-leaf-clause-damaged
returns-in_err-leaf-clause-damaged g c =
    let passed = err_from_is_err_and c.from_residual.result c.from_residual.ensures.1 in
    rw (passed.1, passed.2) (λ told damage e. inr (c.first_leaf.ensures.damaged damage (c.in_err-leaf.was ∙ ap Err (same-fault {T = Bool} _ _ e))))

pub returns-in_err-leaf-clause-stays : goal.returns-in_err-leaf-clause-stays
returns-in_err-leaf-clause-stays g c =
    let passed = err_from_is_err_and c.from_residual.result c.from_residual.ensures.1 in
    rw (passed.1, passed.2) (λ told damage e. inr (c.first_leaf.ensures.damaged damage (c.in_err-leaf.was ∙ ap Err (same-fault {T = Bool} _ _ e))))

pub returns-in_err-leaf-clause-own : goal.returns-in_err-leaf-clause-own
returns-in_err-leaf-clause-own g c = λ told. asks-nothing _ _ _ c.first_leaf.ensures.asked

pub returns-then-empty-clause-own : goal.returns-then-empty-clause-own
returns-then-empty-clause-own g c = λ told. asks-nothing _ _ _ c.first_leaf.ensures.asked

pub returns-then-empty-clause-becomes : goal.returns-then-empty-clause-becomes
returns-then-empty-clause-becomes g c = λ free kept.
    let form : Form = g.L.Layout.form in
    let old : PageMap = g.P.Pages.pages c.args.pages.now in
    let count : ℕ = g.P.Pages.count c.args.pages.now in
    let first : ℕ = g.P.Pages.first c.args.pages.now in
    let root : ℕ = c.args.self.now.root in
    let e = c.form_of-form.ensures in
    let none : root ≡ 0 = grind (arith, nat_tests, c.if-empty.true) in
    let row : Row = (number c.args.key.now, c.args.value.now) in
    let more = c.first_leaf.ensures.frame.count in
    let grew = subst (λ (f : Form). IsGrown f 1 (view old count first free) no_page (g.P.Pages.pages c.first_leaf.new.pages) (g.P.Pages.count c.first_leaf.new.pages) (g.P.Pages.first c.first_leaf.new.pages) 0 c.in_ok-leaf.leaf 0 (256 ^ f.key) (row ∷ []) 0 0) e
    (c.in_ok-leaf.ensures.grown free kept.supplied (λ n. let o = kept.once n in omega arith)) in
    subst (HasBecome form (view old count first free) (g.P.Pages.pages c.first_leaf.new.pages) (g.P.Pages.count c.first_leaf.new.pages) (g.P.Pages.first c.first_leaf.new.pages) root c.in_ok-leaf.leaf) (ap (put (number c.args.key.now) c.args.value.now) (sym (map-none form old root none)))
    (becomes form (view old count first free) (g.P.Pages.pages c.first_leaf.new.pages) (g.P.Pages.count c.first_leaf.new.pages) (g.P.Pages.first c.first_leaf.new.pages) 0 root c.in_ok-leaf.leaf 0 no_page (row ∷ []) c.in_ok-leaf.ensures.some more kept (λ n. sym (unused form old root n none)) grew)

pub returns-then-empty-clause-had : goal.returns-then-empty-clause-had
returns-then-empty-clause-had g c = λ map.
    let form : Form = g.L.Layout.form in
    let old : PageMap = g.P.Pages.pages c.args.pages.now in
    let count : ℕ = g.P.Pages.count c.args.pages.now in
    let first : ℕ = g.P.Pages.first c.args.pages.now in
    let root : ℕ = c.args.self.now.root in
    let e = c.form_of-form.ensures in
    let none : root ≡ 0 = grind (arith, nat_tests, c.if-empty.true) in
    ap (λ rows. is_some (lookup (number c.args.key.now) rows)) (sym (map-none form old root none))

pub returns-in_err-rooted-clause-no_false_damage : goal.returns-in_err-rooted-clause-no_false_damage
returns-in_err-rooted-clause-no_false_damage g c =
    let passed = err_from_is_err_and c.from_residual-in_err-rooted.result c.from_residual-in_err-rooted.ensures.1 in
    let form : Form = g.L.Layout.form in
    let old : PageMap = g.P.Pages.pages c.args.pages.now in
    let count : ℕ = g.P.Pages.count c.args.pages.now in
    let first : ℕ = g.P.Pages.first c.args.pages.now in
    let root : ℕ = c.args.self.now.root in
    let e = c.form_of-form.ensures in
    rw (passed.1, passed.2) (λ free kept damage e'.
    c.put_row.ensures.no_false_damage free (subst (λ (f : Form). IsKept f (view old count first free) root) (sym e) kept) damage (c.in_err-rooted.was ∙ ap Err (same-fault {T = Bool} _ _ e')))

pub returns-in_err-rooted-clause-damaged : goal.returns-in_err-rooted-clause-damaged
returns-in_err-rooted-clause-damaged g c =
    let passed = err_from_is_err_and c.from_residual-in_err-rooted.result c.from_residual-in_err-rooted.ensures.1 in
    let form : Form = g.L.Layout.form in
    let old : PageMap = g.P.Pages.pages c.args.pages.now in
    let count : ℕ = g.P.Pages.count c.args.pages.now in
    let first : ℕ = g.P.Pages.first c.args.pages.now in
    let root : ℕ = c.args.self.now.root in
    let e = c.form_of-form.ensures in
    rw (passed.1, passed.2) (λ told damage e'.
    subst (λ (f : Form). (IsMapDamaged f old count root damage × AskedSince (g.P.Pages.asked c.args.pages.now) (g.P.Pages.asked c.put_row.new.pages) damage.page) ⊎ IsRefusedTake (g.P.Pages.pages c.put_row.new.pages) (g.P.Pages.count c.put_row.new.pages) (g.P.Pages.first c.put_row.new.pages) damage) e
    (c.put_row.ensures.damaged told damage (c.in_err-rooted.was ∙ ap Err (same-fault {T = Bool} _ _ e'))))

pub returns-in_err-rooted-clause-stays : goal.returns-in_err-rooted-clause-stays
returns-in_err-rooted-clause-stays g c =
    let passed = err_from_is_err_and c.from_residual-in_err-rooted.result c.from_residual-in_err-rooted.ensures.1 in
    rw (passed.1, passed.2) (λ told damage e. c.put_row.ensures.stays told damage (c.in_err-rooted.was ∙ ap Err (same-fault {T = Bool} _ _ e)))

pub returns-in_err-rooted-clause-own : goal.returns-in_err-rooted-clause-own
returns-in_err-rooted-clause-own g c = λ told.
    let form : Form = g.L.Layout.form in
    let old : PageMap = g.P.Pages.pages c.args.pages.now in
    let count : ℕ = g.P.Pages.count c.args.pages.now in
    let first : ℕ = g.P.Pages.first c.args.pages.now in
    let root : ℕ = c.args.self.now.root in
    let e = c.form_of-form.ensures in
    subst (λ (f : Form). AsksOnly (map_uses f old root) (g.P.Pages.asked c.args.pages.now) (g.P.Pages.asked c.put_row.new.pages)) e (c.put_row.ensures.own told)

pub returns-clause-own : goal.returns-clause-own
returns-clause-own g c = λ told.
    let form : Form = g.L.Layout.form in
    let old : PageMap = g.P.Pages.pages c.args.pages.now in
    let count : ℕ = g.P.Pages.count c.args.pages.now in
    let first : ℕ = g.P.Pages.first c.args.pages.now in
    let root : ℕ = c.args.self.now.root in
    let e = c.form_of-form.ensures in
    subst (λ (f : Form). AsksOnly (map_uses f old root) (g.P.Pages.asked c.args.pages.now) (g.P.Pages.asked c.put_row.new.pages)) e (c.put_row.ensures.own told)

pub returns-clause-becomes : goal.returns-clause-becomes
returns-clause-becomes g c = λ free kept.
    let form : Form = g.L.Layout.form in
    let old : PageMap = g.P.Pages.pages c.args.pages.now in
    let count : ℕ = g.P.Pages.count c.args.pages.now in
    let first : ℕ = g.P.Pages.first c.args.pages.now in
    let root : ℕ = c.args.self.now.root in
    let e = c.form_of-form.ensures in
    subst (λ (f : Form). HasBecome f (view old count first free) (g.P.Pages.pages c.put_row.new.pages) (g.P.Pages.count c.put_row.new.pages) (g.P.Pages.first c.put_row.new.pages) root c.in_ok-rooted.rooted.root (put (number c.args.key.now) c.args.value.now (map_rows f old root))) e
    (c.in_ok-rooted.ensures.becomes free (subst (λ (f : Form). IsKept f (view old count first free) root) (sym e) kept))

pub returns-clause-had : goal.returns-clause-had
returns-clause-had g c = λ map.
    let form : Form = g.L.Layout.form in
    let old : PageMap = g.P.Pages.pages c.args.pages.now in
    let count : ℕ = g.P.Pages.count c.args.pages.now in
    let first : ℕ = g.P.Pages.first c.args.pages.now in
    let root : ℕ = c.args.self.now.root in
    let e = c.form_of-form.ensures in
    subst (λ (f : Form). c.in_ok-rooted.rooted.had ≡ is_some (lookup (number c.args.key.now) (map_rows f old root))) e
    (c.in_ok-rooted.ensures.had (subst (λ (f : Form). IsMap f old root) (sym e) map))
