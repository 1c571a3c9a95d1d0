use Rattle.std.proofs.Common.{◌≡◌, ◌<◌, ◌≤◌, ℕ, Result, Ok, Err, refl, sym, subst, arith}
use Rattle.std.specs.Prelude.{OnOk}
use Rattle.std.proofs.lemmas.Result.{IfOk-weaker}
use Rattle.page_face.specs.FreeList.{PageMap}
use Rattle.btree_nodes.specs.Damages.{AreReadable, AsksOnly}
use Rattle.btree_nodes.specs.Tree.{IsMap, map_rows, map_uses}
use Rattle.btree_nodes.proofs.Harms.{asks-further}
use Rattle.rtree_nodes.specs.Stock.{rows_form}
use Rattle.node_rows.specs.Rows.{AreFilled, Bytes, bytes_in}
use Rattle.node_rows.specs.Turns.{Next}
use Rattle.node_rows.specs.Damages.{IsRowsDamage}
use Rattle.node_rows.proofs.Faults.{damage-later}
use Rattle.node_rows.proofs.Copies.{next-on}
use Rattle.node_rows.proofs.leaf.next_filled.Goals as goal

pub returns-in-Err-seek-clause-next : goal.returns-in-Err-seek-clause-next
returns-in-Err-seek-clause-next g c = λ b map same.
    let f = c.fill.ensures.frame in
    let root : ℕ = c.args.tree.now.rows in
    let mid : PageMap = g.P.Pages.pages c.fill.new.pages in
    let d : Bytes = bytes_in mid root in
    let node : ℕ = c.args.node in
    let at : ℕ = c.in-Err-seek.at in
    let le : c.args.from ≤ at = c.in-Err-seek.ensures.further in
    let quiet : (w i : ℕ) → c.args.from ≤ w → w < at → b node w i ≡ 0 = c.in-Err-seek.ensures.next b (c.in-Ok.ensures.copy b map same) in
    let same' : (w i : ℕ) → c.args.from ≤ w → d node w i ≡ b node w i = subst (λ (p : PageMap). (w i : ℕ) → c.args.from ≤ w → bytes_in p root node w i ≡ b node w i) (sym f.pages) same in
    IfOk-weaker c.next_row.result (Next d node at) (Next b node c.args.from) (λ o. next-on b d node c.args.from at o le (λ w i l. same' w i (omega arith)) quiet)
    (c.next_row.ensures.next (subst (λ (p : PageMap). IsMap rows_form p root) (sym f.pages) map))

pub returns-in-Err-seek-clause-damaged : goal.returns-in-Err-seek-clause-damaged
returns-in-Err-seek-clause-damaged g c = λ told damage e.
    let f = c.fill.ensures.frame in
    let old : PageMap = g.P.Pages.pages c.args.pages.now in
    let count : ℕ = g.P.Pages.count c.args.pages.now in
    let root : ℕ = c.args.tree.now.rows in
    let still : AreReadable (g.P.Pages.pages c.fill.new.pages) (g.P.Pages.count c.fill.new.pages) = rw (f.pages, f.count) told in
    damage-later old count root (map_uses rows_form old root) (g.P.Pages.asked c.args.pages.now) (g.P.Pages.asked c.fill.new.pages) (g.P.Pages.asked c.next_row.new.pages) damage (c.fill.ensures.own told)
    (subst (λ (n : ℕ). IsRowsDamage old n root (g.P.Pages.asked c.fill.new.pages) (g.P.Pages.asked c.next_row.new.pages) damage) f.count
    (subst (λ (q : PageMap). IsRowsDamage q (g.P.Pages.count c.fill.new.pages) root (g.P.Pages.asked c.fill.new.pages) (g.P.Pages.asked c.next_row.new.pages) damage) f.pages
    (c.next_row.ensures.damaged still damage e)))

pub returns-in-Err-seek-clause-own : goal.returns-in-Err-seek-clause-own
returns-in-Err-seek-clause-own g c = λ told.
    let f = c.fill.ensures.frame in
    let old : PageMap = g.P.Pages.pages c.args.pages.now in
    let root : ℕ = c.args.tree.now.rows in
    let still : AreReadable (g.P.Pages.pages c.fill.new.pages) (g.P.Pages.count c.fill.new.pages) = rw (f.pages, f.count) told in
    asks-further (map_uses rows_form old root) (g.P.Pages.asked c.args.pages.now) (g.P.Pages.asked c.fill.new.pages) (g.P.Pages.asked c.next_row.new.pages) (c.fill.ensures.own told)
    (subst (λ (p : PageMap). AsksOnly (map_uses rows_form p root) (g.P.Pages.asked c.fill.new.pages) (g.P.Pages.asked c.next_row.new.pages)) f.pages (c.next_row.ensures.own still))

-- a fact holds where a call succeeded, if it holds anyway
on-ok : {T E A : Type 0} (r : Result T E) → A → OnOk r A
on-ok (Ok v) a = a
on-ok (Err e) a = tt

pub returns-in-Ok-seek-clause-filled : goal.returns-in-Ok-seek-clause-filled
returns-in-Ok-seek-clause-filled g c = λ map all.
    let b : Bytes = bytes_in (g.P.Pages.pages c.args.pages.now) c.args.tree.now.rows in
    let filled = c.in-Ok.ensures.filled map all in
    (filled, c.in-Ok-seek.ensures.filled b (c.in-Ok.ensures.copy b map (λ w i l. refl)) filled)

pub returns-in-Err-seek-clause-filled : goal.returns-in-Err-seek-clause-filled
returns-in-Err-seek-clause-filled g c = λ map all.
    let f = c.fill.ensures.frame in
    let root : ℕ = c.args.tree.now.rows in (
      on-ok c.next_row.result (c.in-Ok.ensures.filled map all),
      c.next_row.ensures.filled (subst (λ (p : PageMap). IsMap rows_form p root) (sym f.pages) map) (subst (λ (p : PageMap). AreFilled (map_rows rows_form p root)) (sym f.pages) all),
    )
