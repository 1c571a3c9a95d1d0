use Rattle.std.proofs.Common.{ℕ, List, subst}
use Rattle.std.specs.Result.{OnOk}
use Rattle.page_face.specs.FreeList.{PageMap}
use Rattle.page_face.specs.Number.{number}
use Rattle.btree_nodes.specs.declared.form.Form.{Form}
use Rattle.btree_nodes.specs.Supply.{view}
use Rattle.btree_nodes.specs.Rows.{put}
use Rattle.btree_nodes.specs.Tree.{map_rows}
use Rattle.paged_map.specs.Maps.{IsKept, HasBecome}
use Rattle.paged_map.specs.Spots.{IsInLeaf}
use Rattle.paged_map.proofs.map.PagedMap.replace.Goals as goal

pub returns-clause-becomes : goal.returns-clause-becomes
returns-clause-becomes g c = λ free kept.
    let old : PageMap = g.P.Pages.pages c.args.pages.now in
    let count : ℕ = g.P.Pages.count c.args.pages.now in
    let first : ℕ = g.P.Pages.first c.args.pages.now in
    let looked : List ℕ = g.P.Pages.looked c.args.pages.now in
    let root : ℕ = c.args.self.now.root in
    let key : ℕ = number c.args.key.now in
    subst
    (λ (f : Form). IsKept f (view old count first free) root → IsInLeaf f old root looked key c.args.spot.now
    → OnOk c.replace_at.result (HasBecome f (view old count first free) (g.P.Pages.pages c.replace_at.new.pages) (g.P.Pages.count c.replace_at.new.pages) (g.P.Pages.first c.replace_at.new.pages) root root (put key c.args.value.now (map_rows f old root))))
    c.form_of.ensures (c.replace_at.ensures.becomes root free) kept (c.requires.spot.leaf kept.map)
