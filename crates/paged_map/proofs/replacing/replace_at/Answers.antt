use Rattle.std.proofs.Common.{ℕ, List, ◌∙◌, ap, sym, subst}
use Rattle.page_face.specs.FreeList.{PageMap, with_page}
use Rattle.page_face.specs.Sound.{IsSound}
use Rattle.btree_nodes.specs.Build.{image}
use Rattle.btree_nodes.specs.declared.form.Form.{Form}
use Rattle.paged_map.specs.Edits.{edited}
use Rattle.paged_map.specs.declared.editing.Cut.{Cut}
use Rattle.paged_map.proofs.Spots.{on_ok, others-stay, replaced, replaced-sound}
use Rattle.paged_map.proofs.replacing.replace_at.Goals as goal

pub write_leaf-requires-clause-sound : goal.write_leaf-requires-clause-sound
write_leaf-requires-clause-sound g c =
    let form : Form = c.args.form in
    let bytes : List ℕ = g.P.Pages.looked c.args.pages.now in
    let n : ℕ = c.args.spot.now.count in
    subst (λ (x : Cut). IsSound (record { map = form.map; key = form.key; value = form.value; level = 0 }) (image form.map 1 0 n (edited x.size x.from x.until c.args.key.now c.args.value.now bytes)))
    (sym c.cut_of-cut.ensures.is)
    (replaced-sound form (g.P.Pages.count c.args.pages.now) bytes c.args.key.now c.args.value.now c.args.spot.now c.requires.key c.requires.value c.requires.row)

pub returns-clause-becomes : goal.returns-clause-becomes
returns-clause-becomes g c = λ root free kept leaf.
    let old : PageMap = g.P.Pages.pages c.args.pages.now in
    let n : ℕ = c.args.spot.now.count in
    on_ok c.write_leaf.result c.write_leaf.ensures.written
    (λ written. replaced c.args.form old root (g.P.Pages.count c.args.pages.now) (g.P.Pages.first c.args.pages.now) (g.P.Pages.looked c.args.pages.now) c.args.key.now c.args.value.now free c.args.spot.now
    (g.P.Pages.pages c.write_leaf.new.pages) (g.P.Pages.count c.write_leaf.new.pages) (g.P.Pages.first c.write_leaf.new.pages) c.requires.key c.requires.value c.requires.row leaf kept
    (written ∙ ap (λ (x : Cut). with_page c.args.spot.now.page (image c.args.form.map 1 0 n (edited x.size x.from x.until c.args.key.now c.args.value.now (g.P.Pages.looked c.args.pages.now))) old) c.cut_of-cut.ensures.is)
    c.write_leaf.ensures.count c.write_leaf.ensures.first)

pub returns-clause-alone : goal.returns-clause-alone
returns-clause-alone g c = others-stay c.write_leaf.result (g.P.Pages.pages c.args.pages.now) (g.P.Pages.pages c.write_leaf.new.pages) c.args.spot.now.page _ c.write_leaf.ensures.written c.write_leaf.ensures.kept
