use Rattle.std.proofs.Common.{◌≡◌, ℕ, ◌∙◌, ap, subst, sym, Err, Global, List, Option}
use Rattle.std.proofs.lemmas.Result.{err_from_is_err_and}
use Rattle.std.specs.declared.vec.Vec.{Vec}
use Rattle.page_face.specs.FreeList.{PageMap}
use Rattle.btree_nodes.specs.Supply as supply
use Rattle.btree_nodes.proofs.Walks.{same-fault}
use Rattle.paged_map.proofs.Maps.{kept-counted}
use Rattle.rtree_nodes.specs.Stock.{View, view, plain, rows_form}
use Rattle.node_rows.specs.Rows.{IsRows, bytes_in}
use Rattle.node_rows.specs.Turns.{Turns}
use Rattle.node_rows.specs.Impacts.{impact_in, raised}
use Rattle.node_rows.proofs.Told.{told-turned}
use Rattle.node_rows.proofs.Turned.{turns-as, view-same}
use Rattle.irtree_shape.proofs.Renewals.{steps-relinked}
use Rattle.irtree_insert.specs.declared.grown.Beside.{Beside}
use Rattle.irtree_insert.specs.Grown.{beside_top}
use Rattle.page_face.specs.declared.fault.PageFault.TheVariants.{Damaged}
use Rattle.btree_nodes.specs.Damages.{AreReadable, AsksOnly}
use Rattle.btree_nodes.proofs.Harms.{asks-further}
use Rattle.node_rows.proofs.Harms.{harm-later}
use Rattle.irtree_insert.proofs.put.relink.Goals as goal

pub returns-in_err-theirs-clause-no_false_damage : goal.returns-in_err-theirs-clause-no_false_damage
returns-in_err-theirs-clause-no_false_damage g c =
    let passed = err_from_is_err_and c.from_residual.result c.from_residual.ensures.1 in
    rw (passed.1, passed.2) (λ free supplied apart told damage e.
    let before : View = view (g.P.Pages.pages c.args.pages.now) c.args.tree.now.rows (g.P.Pages.count c.args.pages.now) (g.P.Pages.first c.args.pages.now) free in
    let kept = supplied.rows.kept in
    c.words_beside.ensures.no_false_damage kept.map (kept-counted rows_form (plain before) c.args.tree.now.rows kept) told damage (c.in_err-theirs.was ∙ ap Err (same-fault {T = Vec (ℕ × ℕ) Global} _ _ e)))

pub returns-in_err-renew-clause-no_false_damage : goal.returns-in_err-renew-clause-no_false_damage
returns-in_err-renew-clause-no_false_damage g c =
    let passed = err_from_is_err_and c.from_residual-in_err-renew.result c.from_residual-in_err-renew.ensures.1 in
    rw (passed.1, passed.2) (λ free supplied apart told damage e.
    let old : PageMap = g.P.Pages.pages c.args.pages.now in
    let rows : ℕ = c.args.tree.now.rows in
    let before : View = view old rows (g.P.Pages.count c.args.pages.now) (g.P.Pages.first c.args.pages.now) free in
    let mid : PageMap = g.P.Pages.pages c.raise.new.pages in
    let r1 : ℕ = c.raise.new.tree.rows in
    let c1 : ℕ = g.P.Pages.count c.raise.new.pages in
    let f1 : ℕ = g.P.Pages.first c.raise.new.pages in
    let above : List (ℕ × ℕ) = c.deref.result.now in
    let reads = c.in_ok-theirs.ensures.frame in
    let same = view-same (g.P.Pages.pages c.words_beside.new.pages) old (g.P.Pages.count c.words_beside.new.pages) (g.P.Pages.count c.args.pages.now) (g.P.Pages.first c.words_beside.new.pages) (g.P.Pages.first c.args.pages.now) free reads.pages reads.count reads.first in
    let Claim : supply.View → Type 0 = λ w. IsRows w rows → Turns w rows mid c1 f1 r1 (raised c.args.page c.args.at (impact_in above) (bytes_in w.pages rows)) in
    let turn = subst Claim same (c.in_ok-raise.ensures.turns free) supplied.rows in
    let told' = told-turned (plain before) rows mid c1 f1 r1 (raised c.args.page c.args.at (impact_in above) (bytes_in old rows)) turn told in
    c.in_err-renew.ensures.no_false_damage turn.free turn.rows apart told' damage (ap Err (same-fault {T = Vec (ℕ × ℕ) Global} _ _ e)))

pub returns-clause-steps : goal.returns-clause-steps
returns-clause-steps g c = λ free supplied unused apart known right.
    let old : PageMap = g.P.Pages.pages c.args.pages.now in
    let rows : ℕ = c.args.tree.now.rows in
    let before : View = view old rows (g.P.Pages.count c.args.pages.now) (g.P.Pages.first c.args.pages.now) free in
    let mid : PageMap = g.P.Pages.pages c.raise.new.pages in
    let r1 : ℕ = c.raise.new.tree.rows in
    let c1 : ℕ = g.P.Pages.count c.raise.new.pages in
    let f1 : ℕ = g.P.Pages.first c.raise.new.pages in
    let above : List (ℕ × ℕ) = c.deref.result.now in
    let reads = c.in_ok-theirs.ensures.frame in
    let same = view-same (g.P.Pages.pages c.words_beside.new.pages) old (g.P.Pages.count c.words_beside.new.pages) (g.P.Pages.count c.args.pages.now) (g.P.Pages.first c.words_beside.new.pages) (g.P.Pages.first c.args.pages.now) free reads.pages reads.count reads.first in
    let Claim : supply.View → Type 0 = λ w. IsRows w rows → Turns w rows mid c1 f1 r1 (raised c.args.page c.args.at (impact_in above) (bytes_in w.pages rows)) in
    let turned = subst Claim same (c.in_ok-raise.ensures.turns free) supplied.rows in
    let words_are : (n w i : ℕ) → raised c.args.page c.args.at (impact_in above) (bytes_in old rows) n w i ≡ raised c.args.page c.args.at (impact_in c.args.words.now) (bytes_in old rows) n w i =
    λ n w i. ap (λ (ps : List (ℕ × ℕ)). raised c.args.page c.args.at (impact_in ps) (bytes_in old rows) n w i) c.deref.ensures.value ∙ c.in_ok-above.ensures.raised (bytes_in old rows) c.args.page known n w i in
    let turn = turns-as (plain before) rows mid c1 f1 r1 (raised c.args.page c.args.at (impact_in above) (bytes_in old rows)) (raised c.args.page c.args.at (impact_in c.args.words.now) (bytes_in old rows)) words_are turned in
    let theirs : List (ℕ × ℕ) = c.deref-2.result.now in
    let is : (w : ℕ) → impact_in theirs w ≡ beside_top (bytes_in old rows) c.args.more.now w = λ w. ap (λ (ps : List (ℕ × ℕ)). impact_in ps w) c.deref-2.ensures.value ∙ c.in_ok-theirs.ensures.words supplied.rows.kept.map w in
    steps-relinked before mid (g.P.Pages.pages c.renew.new.pages) r1 c1 f1 c.renew.new.tree.rows (g.P.Pages.count c.renew.new.pages) (g.P.Pages.first c.renew.new.pages) c.args.page c.args.at c.args.child
    c.args.words.now theirs c.args.more.now supplied unused apart (λ e w. is w ∙ ap (λ (o : Option Beside). beside_top (bytes_in old rows) o w) e) (λ w z. right w (sym (is w) ∙ z))
    turn (c.in_ok-renew.ensures.turns turn.free turn.rows apart)

pub returns-in_err-theirs-clause-damaged : goal.returns-in_err-theirs-clause-damaged
returns-in_err-theirs-clause-damaged g c = λ told damage.
    let r = err_from_is_err_and c.from_residual.result c.from_residual.ensures.1 in
    λ e. (let same : c.in_err-theirs.field-0.0 ≡ Damaged damage = cc (r.1, r.2, e) in
    c.in_err-theirs.ensures.damaged told damage (ap Err same))

pub returns-in_err-raise-clause-damaged : goal.returns-in_err-raise-clause-damaged
returns-in_err-raise-clause-damaged g c = λ told damage.
    let p = g.P.Pages in
    let f = c.words_beside.ensures.frame in
    let told1 : AreReadable (p.pages c.words_beside.new.pages) (p.count c.words_beside.new.pages) = rw (f.pages, f.count) told in
    let r = err_from_is_err_and c.from_residual-in_err-raise.result c.from_residual-in_err-raise.ensures.1 in
    λ e. (let same : c.in_err-raise.field-0.0 ≡ Damaged damage = cc (r.1, r.2, e) in
    harm-later c.raise.new.tree.rows (λ _. 1) (p.pages c.raise.new.pages) (p.count c.raise.new.pages) (p.first c.raise.new.pages) (p.asked c.args.pages.now) (p.asked c.words_beside.new.pages) (p.asked c.raise.new.pages) damage
    (c.words_beside.ensures.more told) (c.in_err-raise.ensures.damaged told1 damage (ap Err same)))

pub returns-in_err-raise-clause-more : goal.returns-in_err-raise-clause-more
returns-in_err-raise-clause-more g c = λ told.
    let p = g.P.Pages in
    let a0 : List ℕ = p.asked c.args.pages.now in
    let a1 : List ℕ = p.asked c.words_beside.new.pages in
    let a2 : List ℕ = p.asked c.raise.new.pages in
    let f = c.words_beside.ensures.frame in
    let told1 : AreReadable (p.pages c.words_beside.new.pages) (p.count c.words_beside.new.pages) = rw (f.pages, f.count) told in
    let more2 : AsksOnly (λ _. 1) a0 a2 = asks-further (λ _. 1) a0 a1 a2 (c.words_beside.ensures.more told) (c.raise.ensures.more told1) in
    more2

pub returns-in_err-renew-clause-damaged : goal.returns-in_err-renew-clause-damaged
returns-in_err-renew-clause-damaged g c = λ told damage.
    let p = g.P.Pages in
    let a0 : List ℕ = p.asked c.args.pages.now in
    let a1 : List ℕ = p.asked c.words_beside.new.pages in
    let a2 : List ℕ = p.asked c.raise.new.pages in
    let f = c.words_beside.ensures.frame in
    let told1 : AreReadable (p.pages c.words_beside.new.pages) (p.count c.words_beside.new.pages) = rw (f.pages, f.count) told in
    let more2 : AsksOnly (λ _. 1) a0 a2 = asks-further (λ _. 1) a0 a1 a2 (c.words_beside.ensures.more told) (c.raise.ensures.more told1) in
    let a3 : List ℕ = p.asked c.renew.new.pages in
    let told2 : AreReadable (p.pages c.raise.new.pages) (p.count c.raise.new.pages) = c.in_ok-raise.ensures.told told1 in
    let r = err_from_is_err_and c.from_residual-in_err-renew.result c.from_residual-in_err-renew.ensures.1 in
    λ e. (let same : c.in_err-renew.field-0.0 ≡ Damaged damage = cc (r.1, r.2, e) in
    harm-later c.renew.new.tree.rows (λ _. 1) (p.pages c.renew.new.pages) (p.count c.renew.new.pages) (p.first c.renew.new.pages) a0 a2 a3 damage more2 (c.in_err-renew.ensures.damaged told2 damage (ap Err same)))

pub returns-in_err-renew-clause-more : goal.returns-in_err-renew-clause-more
returns-in_err-renew-clause-more g c = λ told.
    let p = g.P.Pages in
    let a0 : List ℕ = p.asked c.args.pages.now in
    let a1 : List ℕ = p.asked c.words_beside.new.pages in
    let a2 : List ℕ = p.asked c.raise.new.pages in
    let f = c.words_beside.ensures.frame in
    let told1 : AreReadable (p.pages c.words_beside.new.pages) (p.count c.words_beside.new.pages) = rw (f.pages, f.count) told in
    let more2 : AsksOnly (λ _. 1) a0 a2 = asks-further (λ _. 1) a0 a1 a2 (c.words_beside.ensures.more told) (c.raise.ensures.more told1) in
    let a3 : List ℕ = p.asked c.renew.new.pages in
    let told2 : AreReadable (p.pages c.raise.new.pages) (p.count c.raise.new.pages) = c.in_ok-raise.ensures.told told1 in
    asks-further (λ _. 1) a0 a2 a3 more2 (c.renew.ensures.more told2)

pub returns-clause-told : goal.returns-clause-told
returns-clause-told g c = λ told.
    let p = g.P.Pages in
    let a0 : List ℕ = p.asked c.args.pages.now in
    let a1 : List ℕ = p.asked c.words_beside.new.pages in
    let a2 : List ℕ = p.asked c.raise.new.pages in
    let f = c.words_beside.ensures.frame in
    let told1 : AreReadable (p.pages c.words_beside.new.pages) (p.count c.words_beside.new.pages) = rw (f.pages, f.count) told in
    let more2 : AsksOnly (λ _. 1) a0 a2 = asks-further (λ _. 1) a0 a1 a2 (c.words_beside.ensures.more told) (c.raise.ensures.more told1) in
    let a3 : List ℕ = p.asked c.renew.new.pages in
    let told2 : AreReadable (p.pages c.raise.new.pages) (p.count c.raise.new.pages) = c.in_ok-raise.ensures.told told1 in
    c.in_ok-renew.ensures.told told2

pub returns-clause-more : goal.returns-clause-more
returns-clause-more g c = λ told.
    let p = g.P.Pages in
    let a0 : List ℕ = p.asked c.args.pages.now in
    let a1 : List ℕ = p.asked c.words_beside.new.pages in
    let a2 : List ℕ = p.asked c.raise.new.pages in
    let f = c.words_beside.ensures.frame in
    let told1 : AreReadable (p.pages c.words_beside.new.pages) (p.count c.words_beside.new.pages) = rw (f.pages, f.count) told in
    let more2 : AsksOnly (λ _. 1) a0 a2 = asks-further (λ _. 1) a0 a1 a2 (c.words_beside.ensures.more told) (c.raise.ensures.more told1) in
    let a3 : List ℕ = p.asked c.renew.new.pages in
    let told2 : AreReadable (p.pages c.raise.new.pages) (p.count c.raise.new.pages) = c.in_ok-raise.ensures.told told1 in
    asks-further (λ _. 1) a0 a2 a3 more2 (c.renew.ensures.more told2)
