use Rattle.std.proofs.Common.{◌≡◌, ℕ, ◌∙◌, sym, ap, subst, Err, arith, List}
use Rattle.page_face.specs.FreeList.{PageMap}
use Rattle.btree_nodes.specs.Damages.{AreReadable}
use Rattle.btree_nodes.proofs.Walks.{same-fault}
use Rattle.rtree_nodes.specs.Slots.{Item}
use Rattle.rtree_nodes.specs.Stock.{View, view}
use Rattle.rtree_nodes.proofs.Climbs.{view-same}
use Rattle.rtree_nodes.specs.Pages.{level_in}
use Rattle.rtree_nodes.specs.Reach.{item_of}
use Rattle.node_rows.specs.Impacts.{impact_in}
use Rattle.irtree_shape.specs.Words.{worded}
use Rattle.irtree_insert.specs.declared.insert.Climbed.{Climbed}
use Rattle.irtree_insert.proofs.Loads.{some-told}
use Rattle.irtree_insert.proofs.Descents.{open-counted, open-some, open-level, puts-view, loaded}
use Rattle.irtree_insert.proofs.Tops.{puts-level, open-of-level, open-low}
use Rattle.btree_nodes.proofs.Harms.{asks-further}
use Rattle.irtree_insert.proofs.Harms.{page-harm, high-harm}
use Rattle.btree_nodes.proofs.Walks.{told-read as told-counted}
use Rattle.page_face.specs.declared.fault.PageFault.TheVariants.{Damaged}
use Rattle.page_face.specs.declared.fault.Rule.TheVariants.{Level}
use Rattle.irtree_insert.proofs.insert.climb.Goals as goal

pub returns-in-Err-clause-no_false_damage : goal.returns-in-Err-clause-no_false_damage
returns-in-Err-clause-no_false_damage g c = λ least level free opened fits all_told damage e.
    let before : View = view (g.P.Pages.pages c.args.pages.now) c.args.tree.now.rows (g.P.Pages.count c.args.pages.now) (g.P.Pages.first c.args.pages.now) free in
    let x : Item = worded (impact_in c.args.words.now) (item_of c.args.slot.now) in
    let root : ℕ = c.args.root in
    let target : ℕ = c.args.goal in
    c.fetch.ensures.no_false_damage (open-counted before least level root target x opened) (open-some before least level root target x opened) damage (c.in-Err.is ∙ ap Err (same-fault {T = Climbed} _ _ e))

pub returns-then-level-gt-LEVEL_MAX-clause-no_false_damage : goal.returns-then-level-gt-LEVEL_MAX-clause-no_false_damage
returns-then-level-gt-LEVEL_MAX-clause-no_false_damage g c = λ least level free opened fits all_told damage e.
    let old : PageMap = g.P.Pages.pages c.args.pages.now in
    let before : View = view old c.args.tree.now.rows (g.P.Pages.count c.args.pages.now) (g.P.Pages.first c.args.pages.now) free in
    let x : Item = worded (impact_in c.args.words.now) (item_of c.args.slot.now) in
    let root : ℕ = c.args.root in
    let target : ℕ = c.args.goal in
    let told = c.in-Ok.ensures.bytes (some-told (old root) (open-some before least level root target x opened)) in
    let found : c.in-Ok.level ≡ level = c.in-Ok.ensures.level ∙ ap level_in told ∙ open-level before least level root target x opened in
    let low = open-low before least level root target x (let a = c.counted-counted.ensures in let b = c.counted-counted.type_inv in omega arith) opened in
    let high = c.if-level-gt-LEVEL_MAX.true in
    absurd (omega arith)

pub returns-in-Ok-put_below-clause-made : goal.returns-in-Ok-put_below-clause-made
returns-in-Ok-put_below-clause-made g c = λ least level free opened fits.
    let old : PageMap = g.P.Pages.pages c.args.pages.now in
    let rows : ℕ = c.args.tree.now.rows in
    let before : View = view old rows (g.P.Pages.count c.args.pages.now) (g.P.Pages.first c.args.pages.now) free in
    let x : Item = worded (impact_in c.args.words.now) (item_of c.args.slot.now) in
    let root : ℕ = c.args.root in
    let target : ℕ = c.args.goal in
    let fetched = c.in-Ok.ensures in
    let looks = fetched.looks.frame in
    let told = fetched.bytes (some-told (old root) (open-some before least level root target x opened)) in
    let found : c.in-Ok.level ≡ level = fetched.level ∙ ap level_in told ∙ open-level before least level root target x opened in
    let now : View = view (g.P.Pages.pages c.fetch.new.pages) rows (g.P.Pages.count c.fetch.new.pages) (g.P.Pages.first c.fetch.new.pages) free in
    let v = view-same (g.P.Pages.pages c.fetch.new.pages) old rows (g.P.Pages.count c.fetch.new.pages) (g.P.Pages.count c.args.pages.now) (g.P.Pages.first c.fetch.new.pages) (g.P.Pages.first c.args.pages.now) free looks.pages looks.count looks.first in
    let h = loaded before now c.fetch.new.draft least c.in-Ok.level root target x v fetched.bytes fetched.draft (open-of-level (sym found) opened) in
    (found, puts-level target x found (puts-view target x v (c.in-Ok-put_below.ensures.made least free h.draft_is fetched.used h.bytes_are h.opened fits)))

pub returns-in-Err-put_below-clause-no_false_damage : goal.returns-in-Err-put_below-clause-no_false_damage
returns-in-Err-put_below-clause-no_false_damage g c = λ least level free opened fits all_told damage e.
    let old : PageMap = g.P.Pages.pages c.args.pages.now in
    let rows : ℕ = c.args.tree.now.rows in
    let before : View = view old rows (g.P.Pages.count c.args.pages.now) (g.P.Pages.first c.args.pages.now) free in
    let x : Item = worded (impact_in c.args.words.now) (item_of c.args.slot.now) in
    let root : ℕ = c.args.root in
    let target : ℕ = c.args.goal in
    let fetched = c.in-Ok.ensures in
    let looks = fetched.looks.frame in
    let told = fetched.bytes (some-told (old root) (open-some before least level root target x opened)) in
    let found : c.in-Ok.level ≡ level = fetched.level ∙ ap level_in told ∙ open-level before least level root target x opened in
    let now : View = view (g.P.Pages.pages c.fetch.new.pages) rows (g.P.Pages.count c.fetch.new.pages) (g.P.Pages.first c.fetch.new.pages) free in
    let v = view-same (g.P.Pages.pages c.fetch.new.pages) old rows (g.P.Pages.count c.fetch.new.pages) (g.P.Pages.count c.args.pages.now) (g.P.Pages.first c.fetch.new.pages) (g.P.Pages.first c.args.pages.now) free looks.pages looks.count looks.first in
    let h = loaded before now c.fetch.new.draft least c.in-Ok.level root target x v fetched.bytes fetched.draft (open-of-level (sym found) opened) in
    c.put_below.ensures.no_false_damage least free h.draft_is fetched.used h.bytes_are h.opened fits (subst (λ (w : View). AreReadable w.pages w.count) (sym v) all_told) damage (c.in-Err-put_below.is ∙ ap Err (same-fault {T = Climbed} _ _ e))

pub returns-in-Err-clause-damaged : goal.returns-in-Err-clause-damaged
returns-in-Err-clause-damaged g c = λ told damage e.
    let p = g.P.Pages in
    let f = c.fetch.ensures.looks.frame in
    let d = c.fetch.ensures.damaged damage (c.in-Err.is ∙ ap Err (same-fault {T = Climbed} _ _ e)) in
    page-harm _ (p.pages c.args.pages.now) (p.pages c.fetch.new.pages) (p.count c.args.pages.now) (p.count c.fetch.new.pages) (p.first c.fetch.new.pages) (p.asked c.args.pages.now) (p.asked c.fetch.new.pages) c.args.root damage
    f.pages f.count d.0 d.1 d.2

pub returns-then-level-gt-LEVEL_MAX-clause-damaged : goal.returns-then-level-gt-LEVEL_MAX-clause-damaged
returns-then-level-gt-LEVEL_MAX-clause-damaged g c = λ told damage e.
    let p = g.P.Pages in
    let f = c.fetch.ensures.looks.frame in
    let high = c.if-level-gt-LEVEL_MAX.true in
    let same : Damaged damage ≡ Damaged (record { page = c.args.root; rule = Level }) = sym (same-fault {T = Climbed} _ _ e) ∙ c.damaged.ensures in
    let is : damage ≡ record { page = c.args.root; rule = Level } = cc same in
    high-harm _ (p.pages c.args.pages.now) (p.pages c.fetch.new.pages) (p.count c.fetch.new.pages) (p.first c.fetch.new.pages) (p.asked c.args.pages.now) (p.asked c.fetch.new.pages) c.args.root c.in-Ok.level c.fetch.new.draft.bytes damage
    f.pages is c.in-Ok.ensures.here c.in-Ok.ensures.bytes c.in-Ok.ensures.level (omega arith)

pub returns-in-Err-put_below-clause-damaged : goal.returns-in-Err-put_below-clause-damaged
returns-in-Err-put_below-clause-damaged g c = λ told damage e.
    let p = g.P.Pages in
    let a0 : List ℕ = p.asked c.args.pages.now in
    let a1 : List ℕ = p.asked c.fetch.new.pages in
    let f = c.fetch.ensures.looks.frame in
    let told1 : AreReadable (p.pages c.fetch.new.pages) (p.count c.fetch.new.pages) = rw (f.pages, f.count) told in
    let a2 : List ℕ = p.asked c.put_below.new.pages in
    let fetched = c.in-Ok.ensures in
    let root : ℕ = c.args.root in
    let bytes1 = fetched.bytes (told-counted (p.pages c.args.pages.now) (p.count c.args.pages.now) root told fetched.counted) ∙ sym (ap (λ (q : PageMap). q root) f.pages) in
    c.put_below.ensures.damaged a0 told1 bytes1 fetched.used (sym fetched.level) fetched.here damage (c.in-Err-put_below.is ∙ ap Err (same-fault {T = Climbed} _ _ e))

pub returns-in-Err-put_below-clause-more : goal.returns-in-Err-put_below-clause-more
returns-in-Err-put_below-clause-more g c = λ told.
    let p = g.P.Pages in
    let a0 : List ℕ = p.asked c.args.pages.now in
    let a1 : List ℕ = p.asked c.fetch.new.pages in
    let f = c.fetch.ensures.looks.frame in
    let told1 : AreReadable (p.pages c.fetch.new.pages) (p.count c.fetch.new.pages) = rw (f.pages, f.count) told in
    let a2 : List ℕ = p.asked c.put_below.new.pages in
    asks-further (λ _. 1) a0 a1 a2 c.fetch.ensures.more (c.put_below.ensures.more told1)

pub returns-in-Ok-put_below-clause-told : goal.returns-in-Ok-put_below-clause-told
returns-in-Ok-put_below-clause-told g c = λ told.
    let p = g.P.Pages in
    let f = c.fetch.ensures.looks.frame in
    let told1 : AreReadable (p.pages c.fetch.new.pages) (p.count c.fetch.new.pages) = rw (f.pages, f.count) told in
    c.in-Ok-put_below.ensures.told told1

pub returns-in-Ok-put_below-clause-more : goal.returns-in-Ok-put_below-clause-more
returns-in-Ok-put_below-clause-more g c = λ told.
    let p = g.P.Pages in
    let a0 : List ℕ = p.asked c.args.pages.now in
    let a1 : List ℕ = p.asked c.fetch.new.pages in
    let f = c.fetch.ensures.looks.frame in
    let told1 : AreReadable (p.pages c.fetch.new.pages) (p.count c.fetch.new.pages) = rw (f.pages, f.count) told in
    let a2 : List ℕ = p.asked c.put_below.new.pages in
    asks-further (λ _. 1) a0 a1 a2 c.fetch.ensures.more (c.put_below.ensures.more told1)
