use Rattle.std.proofs.Common.{◌≡◌, ℕ, List, arith, sym, ap, subst, Err}
use Rattle.std.proofs.lemmas.Result.{err_from_is_err_and}
use Rattle.page_face.proofs.Frames.{changes_then, reads_change}
use Rattle.page_face.specs.FreeList.{PageMap}
use Rattle.page_face.specs.declared.fault.PageFault.TheVariants.{Damaged}
use Rattle.btree_nodes.specs.Damages.{AsksOnly}
use Rattle.btree_nodes.specs.Supply.{View, view}
use Rattle.btree_nodes.specs.Tree.{map_uses}
use Rattle.btree_nodes.proofs.Harms.{asks-further, asks-more}
use Rattle.paged_map.proofs.Maps.{kept-counted}
use Rattle.rtree_nodes.specs.Stock.{rows_form}
use Rattle.node_rows.specs.Rows.{Bytes, IsRows, bytes_in}
use Rattle.node_rows.specs.Turns.{Turns}
use Rattle.node_inverted.specs.Drafts.{IsDrafting, edited}
use Rattle.node_rows.proofs.Harms.{harm-later, harm-looked}
use Rattle.node_rows.proofs.Turned.{view-same}
use Rattle.node_inverted.proofs.drafting.edit_leaf.Goals as goal

pub returns-in_err-there-clause-no_false_damage : goal.returns-in_err-there-clause-no_false_damage
returns-in_err-there-clause-no_false_damage g c free rows told damage =
    let before : View = view (g.P.Pages.pages c.args.pages.now) (g.P.Pages.count c.args.pages.now) (g.P.Pages.first c.args.pages.now) free in
    let p = err_from_is_err_and c.from_residual.result c.from_residual.ensures.1 in
    λ e. (let same : c.in_err-there.field-0.0 ≡ Damaged damage = cc (p.1, p.2, e) in
    c.in_err-there.ensures.no_false_damage rows.kept.map (kept-counted rows_form before c.args.tree.now.rows rows.kept) told damage (ap Err same))

pub returns-in_err-edit_one-clause-no_false_damage : goal.returns-in_err-edit_one-clause-no_false_damage
returns-in_err-edit_one-clause-no_false_damage g c free rows told damage =
    let f = c.in_ok-there.ensures.frame in
    let p = err_from_is_err_and c.from_residual-in_err-edit_one.result c.from_residual-in_err-edit_one.ensures.1 in
    λ e. (let same : c.in_err-edit_one.field-0.0 ≡ Damaged damage = cc (p.1, p.2, e) in
    c.in_err-edit_one.ensures.no_false_damage free (rw (f.pages, f.count, f.first) rows) (rw (f.pages, f.count) told) damage (ap Err same))

pub write-requires : goal.write-requires
write-requires g c =
    let count : ℕ = g.P.Pages.count c.open.new.pages in
    c.edit_in_draft-left.ensures.sound count (c.edit_in.ensures.sound count (c.in_ok-there.ensures.sound c.if-there.true))

pub returns-then-edit_in-clause-turns : goal.returns-then-edit_in-clause-turns
returns-then-edit_in-clause-turns g c = λ free rows.
    let old : PageMap = g.P.Pages.pages c.args.pages.now in
    let mid : PageMap = g.P.Pages.pages c.open.new.pages in
    let new : PageMap = g.P.Pages.pages c.write.new.pages in
    let count : ℕ = g.P.Pages.count c.open.new.pages in
    let root : ℕ = c.args.tree.now.rows in
    let b : Bytes = bytes_in old root in
    let f = c.in_ok-there.ensures.frame in
    let sound = c.in_ok-there.ensures.sound c.if-there.true in
    let d = c.edit_in.ensures.edited count old root b sound (c.in_ok-there.ensures.drafting free rows c.if-there.true) c.if-edit_in.true in
    let t = c.edit_in_draft-left.ensures.edited count old root (edited c.args.node c.args.number c.args.first.now b) (c.edit_in.ensures.sound count sound) d in
    let there : IsRows (view mid count (g.P.Pages.first c.open.new.pages) free) root = rw (f.pages, f.count, f.first) rows in
    let drafting : IsDrafting mid root t.bytes c.edit_in_draft-left.new.draft = subst (λ (p : PageMap). IsDrafting p root t.bytes c.edit_in_draft-left.new.draft) (sym f.pages) t.drafting in
    record {
      bytes = t.bytes;
      turn = subst (λ (v : View). Turns v root new (g.P.Pages.count c.write.new.pages) (g.P.Pages.first c.write.new.pages) root t.bytes)
          (view-same mid old count (g.P.Pages.count c.args.pages.now) (g.P.Pages.first c.open.new.pages) (g.P.Pages.first c.args.pages.now) free f.pages f.count f.first)
          (c.in_ok-write.ensures.turns free t.bytes there drafting);
      is = t.is;
    }

pub returns-in_err-there-clause-damaged : goal.returns-in_err-there-clause-damaged
returns-in_err-there-clause-damaged g c = λ told damage.
    let p = g.P.Pages in
    let f = c.open.ensures.frame in
    let r = err_from_is_err_and c.from_residual.result c.from_residual.ensures.1 in
    λ e. (let same : c.in_err-there.field-0.0 ≡ Damaged damage = cc (r.1, r.2, e) in
    harm-looked (p.pages c.args.pages.now) (p.pages c.open.new.pages) (p.count c.args.pages.now) (p.count c.open.new.pages) (p.first c.open.new.pages) c.args.tree.now.rows (p.asked c.args.pages.now) (p.asked c.open.new.pages) damage
    f.pages f.count (c.in_err-there.ensures.damaged told damage (ap Err same)))

pub returns-in_err-there-clause-more : goal.returns-in_err-there-clause-more
returns-in_err-there-clause-more g c = λ told.
    let p = g.P.Pages in
    asks-more (map_uses rows_form (p.pages c.args.pages.now) c.args.tree.now.rows) (λ _. 1) (p.asked c.args.pages.now) (p.asked c.open.new.pages) (λ n h. omega arith) (c.open.ensures.own told)

pub returns-in_err-edit_one-clause-damaged : goal.returns-in_err-edit_one-clause-damaged
returns-in_err-edit_one-clause-damaged g c = λ told damage.
    let p = g.P.Pages in
    let f = c.open.ensures.frame in
    let r = err_from_is_err_and c.from_residual-in_err-edit_one.result c.from_residual-in_err-edit_one.ensures.1 in
    λ e. (let same : c.in_err-edit_one.field-0.0 ≡ Damaged damage = cc (r.1, r.2, e) in
    harm-later _ (map_uses rows_form (p.pages c.args.pages.now) c.args.tree.now.rows) (p.pages c.edit_one.new.pages) (p.count c.edit_one.new.pages) (p.first c.edit_one.new.pages)
    (p.asked c.args.pages.now) (p.asked c.open.new.pages) (p.asked c.edit_one.new.pages) damage (c.open.ensures.own told) (c.in_err-edit_one.ensures.damaged (rw (f.pages, f.count) told) damage (ap Err same)))

pub returns-in_err-edit_one-clause-more : goal.returns-in_err-edit_one-clause-more
returns-in_err-edit_one-clause-more g c = λ told.
    let p = g.P.Pages in
    let f = c.open.ensures.frame in
    asks-further (λ _. 1) (p.asked c.args.pages.now) (p.asked c.open.new.pages) (p.asked c.edit_one.new.pages)
    (asks-more (map_uses rows_form (p.pages c.args.pages.now) c.args.tree.now.rows) (λ _. 1) (p.asked c.args.pages.now) (p.asked c.open.new.pages) (λ n h. omega arith) (c.open.ensures.own told))
    (c.edit_one.ensures.more (rw (f.pages, f.count) told))

pub returns-in_err-edit_one-clause-frame : goal.returns-in_err-edit_one-clause-frame
returns-in_err-edit_one-clause-frame g c = changes_then g.P.Pages g.met.P.Pages.goes_further _ _ _ (reads_change g.P.Pages _ _ c.open.ensures.frame) c.edit_one.ensures.frame

pub returns-clause-more : goal.returns-clause-more
returns-clause-more g c = λ told.
    let p = g.P.Pages in
    let f = c.open.ensures.frame in
    asks-further (λ _. 1) (p.asked c.args.pages.now) (p.asked c.open.new.pages) (p.asked c.edit_one.new.pages)
    (asks-more (map_uses rows_form (p.pages c.args.pages.now) c.args.tree.now.rows) (λ _. 1) (p.asked c.args.pages.now) (p.asked c.open.new.pages) (λ n h. omega arith) (c.open.ensures.own told))
    (c.edit_one.ensures.more (rw (f.pages, f.count) told))

pub returns-clause-told : goal.returns-clause-told
returns-clause-told g c = λ told. let f = c.open.ensures.frame in c.in_ok-edit_one.ensures.told (rw (f.pages, f.count) told)

pub returns-clause-frame : goal.returns-clause-frame
returns-clause-frame g c = changes_then g.P.Pages g.met.P.Pages.goes_further _ _ _ (reads_change g.P.Pages _ _ c.open.ensures.frame) c.edit_one.ensures.frame

pub returns-then-edit_in-clause-more : goal.returns-then-edit_in-clause-more
returns-then-edit_in-clause-more g c = λ told.
    let p = g.P.Pages in
    subst (λ (x : List ℕ). AsksOnly (λ _. 1) (p.asked c.args.pages.now) x) (sym c.write.ensures.asked)
    (asks-more (map_uses rows_form (p.pages c.args.pages.now) c.args.tree.now.rows) (λ _. 1) (p.asked c.args.pages.now) (p.asked c.open.new.pages) (λ n h. omega arith) (c.open.ensures.own told))

pub returns-then-edit_in-clause-told : goal.returns-then-edit_in-clause-told
returns-then-edit_in-clause-told g c = λ told. let f = c.open.ensures.frame in c.in_ok-write.ensures.told (rw (f.pages, f.count) told)

pub returns-then-edit_in-clause-frame : goal.returns-then-edit_in-clause-frame
returns-then-edit_in-clause-frame g c = changes_then g.P.Pages g.met.P.Pages.goes_further _ _ _ (reads_change g.P.Pages _ _ c.open.ensures.frame) c.write.ensures.frame
