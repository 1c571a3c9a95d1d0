use Rattle.std.proofs.Common.{◌≡◌, ◌<◌, ◌≤◌, ◌^◌, ℕ, List, Err, sym, ap, subst, ◌∙◌}
use Rattle.page_face.specs.FreeList.{PageMap}
use Rattle.btree_nodes.specs.declared.form.Form.{Form}
use Rattle.btree_nodes.specs.Bounds.{upper_of}
use Rattle.btree_nodes.specs.Damages.{AsksOnly, IsDamaged}
use Rattle.btree_nodes.specs.Nodes.{IsLeaf, least_of_root, rows_in}
use Rattle.btree_nodes.specs.Rows.{IsWithin}
use Rattle.btree_nodes.specs.Tree.{IsMap, level_of, map_uses}
use Rattle.btree_nodes.proofs.Walks.{same-fault}
use Rattle.btree_nodes.specs.Steps.{low_of, high_of}
use Rattle.paged_map.proofs.Maps.{map-damage, map-undamaged}
use Rattle.rtree_nodes.specs.Stock.{rows_form}
use Rattle.node_rows.specs.Rows.{key_of}
use Rattle.node_rows.proofs.Copies.{filled, leaf-filled}
use Rattle.node_rows.proofs.leaf.LeafCopy.fill.Goals as goal

pub returns-in-Ok-clause-copy : goal.returns-in-Ok-clause-copy
returns-in-Ok-clause-copy g c = λ b map same begun.
    let form : Form = c.row_form-form.result in
    let e : form ≡ rows_form = c.row_form-form.ensures in
    let old : PageMap = g.P.Pages.pages c.args.pages.now in
    let root : ℕ = c.args.tree.now.rows in
    let key : ℕ = key_of c.args.node c.args.from in
    let s = c.in-Ok.ensures.shown in
    let map' : IsMap form old root = subst (λ (f : Form). IsMap f old root) (sym e) map in
    let l = c.in-Ok.ensures.located map' in
    let low : ℕ = low_of form c.locate.new.bounds in
    let high : ℕ = high_of form c.locate.new.bounds in
    let bytes : List ℕ = c.looked.result.now in
    let high_is : upper_of 12 c.high.result.now ≡ high = ap (λ (f : Form). upper_of f.key c.high.result.now) (sym e) ∙ ap (λ (x : List ℕ). upper_of form.key x) c.high.ensures.is in
    let from : low ≤ key = subst (λ (k : ℕ). low ≤ k) c.bytes-key.ensures s.from in
    let to : key < high = subst (λ (k : ℕ). k < high) c.bytes-key.ensures s.to in
    let under : key < upper_of 12 c.high.result.now = subst (λ (k : ℕ). key < k) (sym high_is) to in
    filled form e old root c.args.node c.args.from c.in-Ok._leaf.least c.in-Ok._leaf.page low high b bytes c.word_at-self.result (c.looked.ensures ∙ l.0)
    (subst (IsLeaf form c.in-Ok._leaf.least) (sym c.looked.ensures) s.sound) (subst (λ (x : List ℕ). IsWithin low high (rows_in form x)) (sym c.looked.ensures) s.within) l.1 from
    (λ w small before. subst (λ (k : ℕ). key_of c.args.node w < k) high_is (c.word_at-self.ensures.below c.args.from w c.ranges.from.fits under small before)) same

pub returns-in-Ok-clause-own : goal.returns-in-Ok-clause-own
returns-in-Ok-clause-own g c = λ told.
    subst (λ (f : Form). AsksOnly (map_uses f (g.P.Pages.pages c.args.pages.now) c.args.tree.now.rows) (g.P.Pages.asked c.args.pages.now) (g.P.Pages.asked c.locate.new.pages)) c.row_form-form.ensures (c.in-Ok.ensures.own told)

pub returns-in-Err-clause-own : goal.returns-in-Err-clause-own
returns-in-Err-clause-own g c = λ told.
    subst (λ (f : Form). AsksOnly (map_uses f (g.P.Pages.pages c.args.pages.now) c.args.tree.now.rows) (g.P.Pages.asked c.args.pages.now) (g.P.Pages.asked c.locate.new.pages)) c.row_form-form.ensures (c.in-Err.ensures.own told)

pub returns-in-Err-clause-no_false_damage : goal.returns-in-Err-clause-no_false_damage
returns-in-Err-clause-no_false_damage g c = λ map counted told damage e.
    let old : PageMap = g.P.Pages.pages c.args.pages.now in
    let count : ℕ = g.P.Pages.count c.args.pages.now in
    let root : ℕ = c.args.tree.now.rows in
    map-undamaged rows_form old count root damage map counted
    (map-damage rows_form old count root damage c.requires.root (subst (λ (f : Form). IsDamaged f old count damage (least_of_root (level_of (old root))) (level_of (old root)) root 0 (256 ^ f.key)) c.row_form-form.ensures (c.locate.ensures.damaged told damage (c.in-Err.is ∙ ap Err (same-fault {T = Unit {0}} _ _ e)))))

pub returns-in-Ok-clause-filled : goal.returns-in-Ok-clause-filled
returns-in-Ok-clause-filled g c = λ map all begun.
    let form : Form = c.row_form-form.result in
    let e : form ≡ rows_form = c.row_form-form.ensures in
    let old : PageMap = g.P.Pages.pages c.args.pages.now in
    let root : ℕ = c.args.tree.now.rows in
    let s = c.in-Ok.ensures.shown in
    let map' : IsMap form old root = subst (λ (f : Form). IsMap f old root) (sym e) map in
    let l = c.in-Ok.ensures.located map' in
    let low : ℕ = low_of form c.locate.new.bounds in
    let high : ℕ = high_of form c.locate.new.bounds in
    let bytes : List ℕ = c.looked.result.now in
    leaf-filled form e old root c.in-Ok._leaf.least c.in-Ok._leaf.page low high bytes (c.looked.ensures ∙ l.0) (subst (λ (x : List ℕ). IsWithin low high (rows_in form x)) (sym c.looked.ensures) s.within) l.1 all
