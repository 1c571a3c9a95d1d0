use Rattle.std.proofs.Common.{arith, ◌≡◌, ◌+◌, ◌-◌, ◌<◌, ◌≤◌, ℕ, ◌∙◌, sym, ap, subst, suc, List, length, Err, option_map}
use Rattle.std.proofs.lemmas.Result.{IfOk-weaker, err_from_is_err_and}
use Rattle.page_face.specs.FreeList.{PageMap}
use Rattle.page_face.proofs.Frames.{changes_then, reads_change}
use Rattle.btree_nodes.specs.Damages.{AreReadable, AskedSince, AsksOnly}
use Rattle.btree_nodes.specs.Supply.{one_at}
use Rattle.btree_nodes.proofs.Walks.{same-fault}
use Rattle.paged_map.proofs.Maps.{kept-counted}
use Rattle.rtree_nodes.specs.Slots.{Item}
use Rattle.rtree_nodes.specs.Stock.{View, view, plain, rows_form}
use Rattle.rtree_nodes.specs.Made.{Rises}
use Rattle.rtree_nodes.proofs.Climbs.{view-same}
use Rattle.rtree_nodes.specs.Reach.{reach_of, item_of}
use Rattle.rtree_nodes.specs.Pages.{node_of, level_in}
use Rattle.node_rows.specs.Rows.{bytes_in}
use Rattle.node_rows.specs.Impacts.{impact_in}
use Rattle.node_rows.specs.Known.{AreRowsAt}
use Rattle.irtree_shape.specs.Words.{worded}
use Rattle.irtree_shape.specs.Steps.{Steps, bounding_child_in, relinked}
use Rattle.irtree_shape.specs.Made.{nodes_in, IsOpen, Puts}
use Rattle.irtree_insert.specs.declared.grown.Grown.{Grown}
use Rattle.irtree_insert.specs.Fits.{Fits}
use Rattle.irtree_insert.specs.Grown.{beside_item, beside_top}
use Rattle.irtree_shape.proofs.Tolds.{told-made, told-step}
use Rattle.irtree_insert.proofs.Loads.{some-told}
use Rattle.irtree_insert.proofs.Rises.{rises-then}
use Rattle.irtree_insert.proofs.Descents.{open-counted, open-some, open-level, ready-here, puts-here, found-child, child-open, child-apart, parent-known, parent-spare, parent-still, parent-rest, parent-theirs, parent-ready, parent-put, loaded, puts-view}
use Rattle.irtree_insert.specs.contracts.put.put_below.dyn-1 as contract
use Rattle.page_face.specs.declared.fault.PageFault.TheVariants.{Damaged}
use Rattle.btree_nodes.specs.Tree.{map_uses}
use Rattle.btree_nodes.proofs.Harms.{asks-further, asks-more, asked-before}
use Rattle.node_rows.proofs.Harms.{harm-later, harm-looked}
use Rattle.irtree_insert.proofs.Harms.{asks-since, child-harm, rows-harm, stored-child}
use Rattle.btree_nodes.proofs.Walks.{told-read as told-counted}
use Rattle.irtree_insert.proofs.put.+put_below.Goals as goal

pub returns-then-level-goal-clause-made : goal.returns-then-level-goal-clause-made
returns-then-level-goal-clause-made g t c = λ least free draft used is opened fits.
    let before : View = view (g.P.Pages.pages c.args.pages.now) c.args.tree.now.rows (g.P.Pages.count c.args.pages.now) (g.P.Pages.first c.args.pages.now) free in
    let x : Item = worded (impact_in c.args.words.now) (item_of c.args.slot.now) in
    let same : c.args.level ≡ c.args.goal = let a = c.if-level-goal.true in let b = opened.deep in omega arith in
    let new : PageMap = g.P.Pages.pages c.add.new.pages in
    let rise : ℕ → Type 0 = Rises ((contract.members g.row.P g.dyn-1 c.args.policy.now).count c.args.policy.now.1) ((contract.members g.row.P g.dyn-1 (c.args.policy.now.0, c.add.new.policy)).count c.add.new.policy) in
    IfOk-weaker c.add.result _ _
    (λ h made. puts-here before new c.add.new.tree.rows (g.P.Pages.count c.add.new.pages) (g.P.Pages.first c.add.new.pages) least c.args.level c.args.page c.args.goal x c.args.draft.now.bytes
    (bounding_child_in (nodes_in node_of new c.add.new.tree.rows) (option_map beside_item h.more)) (reach_of h.rect) rise is same made)
    (c.add.ensures.made least c.args.level free (ready-here before least c.args.level c.args.page c.args.goal x c.args.draft.now.bytes is same opened) draft (subst (λ (k : ℕ). Fits k c.args.slot.now) (sym same) fits))

pub returns-then-level-goal-clause-no_false_damage : goal.returns-then-level-goal-clause-no_false_damage
returns-then-level-goal-clause-no_false_damage g t c = λ least free draft used is opened fits.
    let before : View = view (g.P.Pages.pages c.args.pages.now) c.args.tree.now.rows (g.P.Pages.count c.args.pages.now) (g.P.Pages.first c.args.pages.now) free in
    let x : Item = worded (impact_in c.args.words.now) (item_of c.args.slot.now) in
    let same : c.args.level ≡ c.args.goal = let a = c.if-level-goal.true in let b = opened.deep in omega arith in
    c.add.ensures.no_false_damage least c.args.level free (ready-here before least c.args.level c.args.page c.args.goal x c.args.draft.now.bytes is same opened) draft (subst (λ (k : ℕ). Fits k c.args.slot.now) (sym same) fits)

pub returns-in_err-known-clause-no_false_damage : goal.returns-in_err-known-clause-no_false_damage
returns-in_err-known-clause-no_false_damage g t c =
    let passed = err_from_is_err_and c.from_residual.result c.from_residual.ensures.1 in
    rw (passed.1, passed.2) (λ least free draft used is opened fits told damage e'.
    let before : View = view (g.P.Pages.pages c.args.pages.now) c.args.tree.now.rows (g.P.Pages.count c.args.pages.now) (g.P.Pages.first c.args.pages.now) free in
    let kept = opened.supplied.rows.kept in
    c.rows_at.ensures.no_false_damage kept.map (kept-counted rows_form (plain before) c.args.tree.now.rows kept) told damage (c.in_err-known.was ∙ ap Err (same-fault {T = Grown} _ _ e')))

pub returns-in_err-fetch_at-clause-no_false_damage : goal.returns-in_err-fetch_at-clause-no_false_damage
returns-in_err-fetch_at-clause-no_false_damage g t c =
    let passed = err_from_is_err_and c.from_residual-in_err-fetch_at.result c.from_residual-in_err-fetch_at.ensures.1 in
    rw (passed.1, passed.2) (λ least free draft used is opened fits told damage e'.
    let old : PageMap = g.P.Pages.pages c.args.pages.now in
    let rows : ℕ = c.args.tree.now.rows in
    let before : View = view old rows (g.P.Pages.count c.args.pages.now) (g.P.Pages.first c.args.pages.now) free in
    let words : List (ℕ × ℕ) = c.args.words.now in
    let item : Item = item_of c.args.slot.now in
    let x : Item = worded (impact_in words) item in
    let page : ℕ = c.args.page in
    let target : ℕ = c.args.goal in
    let l : ℕ = c.args.level - 1 in
    let e : c.args.level ≡ suc l = let a = c.if-level-goal.false in omega arith in
    let opened' = subst (λ (k : ℕ). IsOpen node_of before least k page target x) e opened in
    let low : target ≤ l = let a = c.if-level-goal.false in omega arith in
    let at : ℕ = c.choose-at.result in
    let within = c.choose-at.ensures.used.0 in
    let level_is : level_in c.args.draft.now.bytes ≡ suc l = ap level_in is ∙ open-level before least (suc l) page target x opened' in
    let child : ℕ = c.child_at-child.result in
    let found = found-child c.args.draft.now at child l draft used level_is within c.choose-at.ensures.used.1 c.child_at-child.ensures.child in
    let opened_c = child-open before least l page target words item c.args.draft.now is opened' low at child within found in
    let looks = c.in_ok-known.ensures.frame in
    let Claim : View → Type 0 = λ w. IsOpen node_of w 12 l child target x in
    let v = view-same (g.P.Pages.pages c.rows_at.new.pages) old rows (g.P.Pages.count c.rows_at.new.pages) (g.P.Pages.count c.args.pages.now) (g.P.Pages.first c.rows_at.new.pages) (g.P.Pages.first c.args.pages.now) free looks.pages looks.count looks.first in
    let now : View = view (g.P.Pages.pages c.rows_at.new.pages) rows (g.P.Pages.count c.rows_at.new.pages) (g.P.Pages.first c.rows_at.new.pages) free in
    let opened_n = subst Claim (sym v) opened_c in
    c.fetch_at.ensures.no_false_damage (open-counted now 12 l child target x opened_n) (open-some now 12 l child target x opened_n) (open-level now 12 l child target x opened_n) damage
    (c.in_err-fetch_at.was ∙ ap Err (same-fault {T = Grown} _ _ e')))

pub returns-in_err-grown-clause-no_false_damage : goal.returns-in_err-grown-clause-no_false_damage
returns-in_err-grown-clause-no_false_damage g t c =
    let passed = err_from_is_err_and c.from_residual-in_err-grown.result c.from_residual-in_err-grown.ensures.1 in
    rw (passed.1, passed.2) (λ least free draft used is opened fits told damage e'.
    let old : PageMap = g.P.Pages.pages c.args.pages.now in
    let rows : ℕ = c.args.tree.now.rows in
    let before : View = view old rows (g.P.Pages.count c.args.pages.now) (g.P.Pages.first c.args.pages.now) free in
    let words : List (ℕ × ℕ) = c.args.words.now in
    let item : Item = item_of c.args.slot.now in
    let x : Item = worded (impact_in words) item in
    let page : ℕ = c.args.page in
    let target : ℕ = c.args.goal in
    let l : ℕ = c.args.level - 1 in
    let e : c.args.level ≡ suc l = let a = c.if-level-goal.false in omega arith in
    let opened' = subst (λ (k : ℕ). IsOpen node_of before least k page target x) e opened in
    let low : target ≤ l = let a = c.if-level-goal.false in omega arith in
    let at : ℕ = c.choose-at.result in
    let within = c.choose-at.ensures.used.0 in
    let level_is : level_in c.args.draft.now.bytes ≡ suc l = ap level_in is ∙ open-level before least (suc l) page target x opened' in
    let child : ℕ = c.child_at-child.result in
    let found = found-child c.args.draft.now at child l draft used level_is within c.choose-at.ensures.used.1 c.child_at-child.ensures.child in
    let opened_c = child-open before least l page target words item c.args.draft.now is opened' low at child within found in
    let first_look = c.in_ok-known.ensures.frame in
    let second_look = c.in_ok-fetch_at.ensures.looks.frame in
    let now : View = view (g.P.Pages.pages c.fetch_at.new.pages) rows (g.P.Pages.count c.fetch_at.new.pages) (g.P.Pages.first c.fetch_at.new.pages) free in
    let v = view-same (g.P.Pages.pages c.fetch_at.new.pages) old rows (g.P.Pages.count c.fetch_at.new.pages) (g.P.Pages.count c.args.pages.now) (g.P.Pages.first c.fetch_at.new.pages) (g.P.Pages.first c.args.pages.now) free
    (second_look.pages ∙ first_look.pages) (second_look.count ∙ first_look.count) (second_look.first ∙ first_look.first) in
    let h = loaded before now c.fetch_at.new.draft 12 l child target x v (λ told. c.in_ok-fetch_at.ensures.bytes (subst (λ (p : PageMap). 0 < length (p child)) (sym first_look.pages) told) ∙ ap (λ (p : PageMap). p child) first_look.pages) c.in_ok-fetch_at.ensures.draft opened_c in
    c.put_below.ensures.no_false_damage 12 free h.draft_is c.in_ok-fetch_at.ensures.used h.bytes_are h.opened fits (subst (λ (w : View). AreReadable w.pages w.count) (sym v) told) damage
    (c.in_err-grown.was ∙ ap Err (same-fault {T = Grown} _ _ e')))

pub returns-in_err-theirs-clause-no_false_damage : goal.returns-in_err-theirs-clause-no_false_damage
returns-in_err-theirs-clause-no_false_damage g t c =
    let passed = err_from_is_err_and c.from_residual-in_err-theirs.result c.from_residual-in_err-theirs.ensures.1 in
    rw (passed.1, passed.2) (λ least free draft used is opened fits told damage e'.
    let old : PageMap = g.P.Pages.pages c.args.pages.now in
    let rows : ℕ = c.args.tree.now.rows in
    let before : View = view old rows (g.P.Pages.count c.args.pages.now) (g.P.Pages.first c.args.pages.now) free in
    let words : List (ℕ × ℕ) = c.args.words.now in
    let item : Item = item_of c.args.slot.now in
    let x : Item = worded (impact_in words) item in
    let page : ℕ = c.args.page in
    let target : ℕ = c.args.goal in
    let l : ℕ = c.args.level - 1 in
    let e : c.args.level ≡ suc l = let a = c.if-level-goal.false in omega arith in
    let opened' = subst (λ (k : ℕ). IsOpen node_of before least k page target x) e opened in
    let low : target ≤ l = let a = c.if-level-goal.false in omega arith in
    let at : ℕ = c.choose-at.result in
    let within = c.choose-at.ensures.used.0 in
    let level_is : level_in c.args.draft.now.bytes ≡ suc l = ap level_in is ∙ open-level before least (suc l) page target x opened' in
    let child : ℕ = c.child_at-child.result in
    let found = found-child c.args.draft.now at child l draft used level_is within c.choose-at.ensures.used.1 c.child_at-child.ensures.child in
    let opened_c = child-open before least l page target words item c.args.draft.now is opened' low at child within found in
    let first_look = c.in_ok-known.ensures.frame in
    let second_look = c.in_ok-fetch_at.ensures.looks.frame in
    let now : View = view (g.P.Pages.pages c.fetch_at.new.pages) rows (g.P.Pages.count c.fetch_at.new.pages) (g.P.Pages.first c.fetch_at.new.pages) free in
    let v = view-same (g.P.Pages.pages c.fetch_at.new.pages) old rows (g.P.Pages.count c.fetch_at.new.pages) (g.P.Pages.count c.args.pages.now) (g.P.Pages.first c.fetch_at.new.pages) (g.P.Pages.first c.args.pages.now) free
    (second_look.pages ∙ first_look.pages) (second_look.count ∙ first_look.count) (second_look.first ∙ first_look.first) in
    let h = loaded before now c.fetch_at.new.draft 12 l child target x v (λ told. c.in_ok-fetch_at.ensures.bytes (subst (λ (p : PageMap). 0 < length (p child)) (sym first_look.pages) told) ∙ ap (λ (p : PageMap). p child) first_look.pages) c.in_ok-fetch_at.ensures.draft opened_c in
    let more = c.in_ok-grown.grown.more in
    let mid : PageMap = g.P.Pages.pages c.put_below.new.pages in
    let mr : ℕ = c.put_below.new.tree.rows in
    let mc : ℕ = g.P.Pages.count c.put_below.new.pages in
    let mf : ℕ = g.P.Pages.first c.put_below.new.pages in
    let first_count : ℕ = (contract.members g.row.P g.dyn-1 (c.args.policy.now.0, c.choose-at.new.policy)).count c.choose-at.new.policy in
    let mid_count : ℕ = (contract.members g.row.P g.dyn-1 (c.args.policy.now.0, c.put_below.new.policy)).count c.put_below.new.policy in
    let rise : ℕ → Type 0 = Rises first_count mid_count in
    let put_b = puts-view target x v (c.in_ok-grown.ensures.made 12 free h.draft_is c.in_ok-fetch_at.ensures.used h.bytes_are h.opened fits) in
    let put = subst (λ (k : ℕ). Puts node_of before mid mr mc mf 12 l k target x (bounding_child_in (nodes_in node_of mid mr) (option_map beside_item more)) (reach_of c.in_ok-grown.grown.rect) rise) (sym found.to_is) put_b in
    let apart = child-apart before least l page target words item c.args.draft.now is opened' low at child within found in
    c.relink.ensures.no_false_damage put.free put.moves.supplied apart (told-made node_of some-told (omega arith) put told) damage (c.in_err-theirs.was ∙ ap Err (same-fault {T = Grown} _ _ e')))

pub returns-clause-made : goal.returns-clause-made
returns-clause-made g t c = λ least free draft used is opened fits.
    let old : PageMap = g.P.Pages.pages c.args.pages.now in
    let rows : ℕ = c.args.tree.now.rows in
    let before : View = view old rows (g.P.Pages.count c.args.pages.now) (g.P.Pages.first c.args.pages.now) free in
    let words : List (ℕ × ℕ) = c.args.words.now in
    let item : Item = item_of c.args.slot.now in
    let x : Item = worded (impact_in words) item in
    let page : ℕ = c.args.page in
    let target : ℕ = c.args.goal in
    let l : ℕ = c.args.level - 1 in
    let e : c.args.level ≡ suc l = let a = c.if-level-goal.false in omega arith in
    let opened' = subst (λ (k : ℕ). IsOpen node_of before least k page target x) e opened in
    let low : target ≤ l = let a = c.if-level-goal.false in omega arith in
    let at : ℕ = c.choose-at.result in
    let within = c.choose-at.ensures.used.0 in
    let level_is : level_in c.args.draft.now.bytes ≡ suc l = ap level_in is ∙ open-level before least (suc l) page target x opened' in
    let child : ℕ = c.child_at-child.result in
    let found = found-child c.args.draft.now at child l draft used level_is within c.choose-at.ensures.used.1 c.child_at-child.ensures.child in
    let opened_c = child-open before least l page target words item c.args.draft.now is opened' low at child within found in
    let first_look = c.in_ok-known.ensures.frame in
    let second_look = c.in_ok-fetch_at.ensures.looks.frame in
    let now : View = view (g.P.Pages.pages c.fetch_at.new.pages) rows (g.P.Pages.count c.fetch_at.new.pages) (g.P.Pages.first c.fetch_at.new.pages) free in
    let v = view-same (g.P.Pages.pages c.fetch_at.new.pages) old rows (g.P.Pages.count c.fetch_at.new.pages) (g.P.Pages.count c.args.pages.now) (g.P.Pages.first c.fetch_at.new.pages) (g.P.Pages.first c.args.pages.now) free
    (second_look.pages ∙ first_look.pages) (second_look.count ∙ first_look.count) (second_look.first ∙ first_look.first) in
    let h = loaded before now c.fetch_at.new.draft 12 l child target x v (λ told. c.in_ok-fetch_at.ensures.bytes (subst (λ (p : PageMap). 0 < length (p child)) (sym first_look.pages) told) ∙ ap (λ (p : PageMap). p child) first_look.pages) c.in_ok-fetch_at.ensures.draft opened_c in
    let more = c.in_ok-grown.grown.more in
    let mid : PageMap = g.P.Pages.pages c.put_below.new.pages in
    let mr : ℕ = c.put_below.new.tree.rows in
    let mc : ℕ = g.P.Pages.count c.put_below.new.pages in
    let mf : ℕ = g.P.Pages.first c.put_below.new.pages in
    let first_count : ℕ = (contract.members g.row.P g.dyn-1 (c.args.policy.now.0, c.choose-at.new.policy)).count c.choose-at.new.policy in
    let mid_count : ℕ = (contract.members g.row.P g.dyn-1 (c.args.policy.now.0, c.put_below.new.policy)).count c.put_below.new.policy in
    let rise : ℕ → Type 0 = Rises first_count mid_count in
    let put_b = puts-view target x v (c.in_ok-grown.ensures.made 12 free h.draft_is c.in_ok-fetch_at.ensures.used h.bytes_are h.opened fits) in
    let put = subst (λ (k : ℕ). Puts node_of before mid mr mc mf 12 l k target x (bounding_child_in (nodes_in node_of mid mr) (option_map beside_item more)) (reach_of c.in_ok-grown.grown.rect) rise) (sym found.to_is) put_b in
    let unused = parent-spare before least l page target words item c.args.draft.now is opened' low at child within found mid mr mc mf more c.in_ok-grown.grown.rect rise put in
    let apart = child-apart before least l page target words item c.args.draft.now is opened' low at child within found in
    let rest = parent-rest before least l page target words item c.args.draft.now is opened' low at child within found mid mr mc mf more c.in_ok-grown.grown.rect rise put in
    let known = parent-known before least l page target words item c.args.draft.now is opened' low at child within found mid mr mc mf more c.in_ok-grown.grown.rect rise put c.deref-2.result.now
    (subst (AreRowsAt (bytes_in old rows) page words) (sym c.deref-2.ensures.value) (c.in_ok-known.ensures.rows opened.supplied.rows.kept.map)) in
    let linked : PageMap = g.P.Pages.pages c.relink.new.pages in
    let lr : ℕ = c.relink.new.tree.rows in
    let lc : ℕ = g.P.Pages.count c.relink.new.pages in
    let lf : ℕ = g.P.Pages.first c.relink.new.pages in
    let steps = subst (λ (k : ℕ). Steps (view mid mr mc mf put.free) linked lr lc lf (one_at page) (one_at page) (relinked more page at k words (bytes_in mid mr)) mid) (sym found.to_is)
    (c.in_ok-theirs.ensures.steps put.free put.moves.supplied unused apart known rest) in
    let theirs : (w : ℕ) → impact_in c.deref-3.result.now w ≡ beside_top (bytes_in linked lr) more w = λ w. ap (λ (ps : List (ℕ × ℕ)). impact_in ps w) c.deref-3.ensures.value ∙ c.in_ok-theirs.ensures.theirs put.moves.supplied.rows.kept.map w
    ∙ parent-theirs before least l page target words item c.args.draft.now is opened' low at child within found mid mr mc mf more c.in_ok-grown.grown.rect rise put linked lr lc lf steps w in
    let old_count : ℕ = (contract.members g.row.P g.dyn-1 c.args.policy.now).count c.args.policy.now.1 in
    let last_count : ℕ = (contract.members g.row.P g.dyn-1 (c.args.policy.now.0, c.finish.new.policy)).count c.finish.new.policy in
    let joins : (a b : ℕ) → rise a → Rises mid_count last_count b → Rises old_count last_count (a + b) = λ a b p q.
    subst (λ (k : ℕ). Rises k last_count (a + b)) c.choose-at.ensures.count (rises-then first_count mid_count last_count a b p q) in
    let new : PageMap = g.P.Pages.pages c.finish.new.pages in
    let nr : ℕ = c.finish.new.tree.rows in
    IfOk-weaker c.finish.result _ _
    (λ h made. subst (λ (k : ℕ). Puts node_of before new nr (g.P.Pages.count c.finish.new.pages) (g.P.Pages.first c.finish.new.pages) least k page target x (bounding_child_in (nodes_in node_of new nr) (option_map beside_item h.more)) (reach_of h.rect) (Rises old_count last_count)) (sym e)
    (parent-put before least l page target words item c.args.draft.now is opened' low at child within found mid mr mc mf more c.in_ok-grown.grown.rect rise put linked lr lc lf steps
    new nr (g.P.Pages.count c.finish.new.pages) (g.P.Pages.first c.finish.new.pages) (bounding_child_in (nodes_in node_of new nr) (option_map beside_item h.more)) (reach_of h.rect) (Rises mid_count last_count) (Rises old_count last_count) joins made))
    (c.finish.ensures.made least l steps.free draft level_is (parent-still before least l page target words item c.args.draft.now is opened' low at child within found mid mr mc mf more c.in_ok-grown.grown.rect rise put linked lr lc lf steps) found
    (parent-ready before least l page target words item c.args.draft.now is opened' low at child within found mid mr mc mf more c.in_ok-grown.grown.rect rise put linked lr lc lf steps) theirs)

pub returns-clause-no_false_damage : goal.returns-clause-no_false_damage
returns-clause-no_false_damage g t c = λ least free draft used is opened fits told.
    let old : PageMap = g.P.Pages.pages c.args.pages.now in
    let rows : ℕ = c.args.tree.now.rows in
    let before : View = view old rows (g.P.Pages.count c.args.pages.now) (g.P.Pages.first c.args.pages.now) free in
    let words : List (ℕ × ℕ) = c.args.words.now in
    let item : Item = item_of c.args.slot.now in
    let x : Item = worded (impact_in words) item in
    let page : ℕ = c.args.page in
    let target : ℕ = c.args.goal in
    let l : ℕ = c.args.level - 1 in
    let e : c.args.level ≡ suc l = let a = c.if-level-goal.false in omega arith in
    let opened' = subst (λ (k : ℕ). IsOpen node_of before least k page target x) e opened in
    let low : target ≤ l = let a = c.if-level-goal.false in omega arith in
    let at : ℕ = c.choose-at.result in
    let within = c.choose-at.ensures.used.0 in
    let level_is : level_in c.args.draft.now.bytes ≡ suc l = ap level_in is ∙ open-level before least (suc l) page target x opened' in
    let child : ℕ = c.child_at-child.result in
    let found = found-child c.args.draft.now at child l draft used level_is within c.choose-at.ensures.used.1 c.child_at-child.ensures.child in
    let opened_c = child-open before least l page target words item c.args.draft.now is opened' low at child within found in
    let first_look = c.in_ok-known.ensures.frame in
    let second_look = c.in_ok-fetch_at.ensures.looks.frame in
    let now : View = view (g.P.Pages.pages c.fetch_at.new.pages) rows (g.P.Pages.count c.fetch_at.new.pages) (g.P.Pages.first c.fetch_at.new.pages) free in
    let v = view-same (g.P.Pages.pages c.fetch_at.new.pages) old rows (g.P.Pages.count c.fetch_at.new.pages) (g.P.Pages.count c.args.pages.now) (g.P.Pages.first c.fetch_at.new.pages) (g.P.Pages.first c.args.pages.now) free
    (second_look.pages ∙ first_look.pages) (second_look.count ∙ first_look.count) (second_look.first ∙ first_look.first) in
    let h = loaded before now c.fetch_at.new.draft 12 l child target x v (λ told. c.in_ok-fetch_at.ensures.bytes (subst (λ (p : PageMap). 0 < length (p child)) (sym first_look.pages) told) ∙ ap (λ (p : PageMap). p child) first_look.pages) c.in_ok-fetch_at.ensures.draft opened_c in
    let more = c.in_ok-grown.grown.more in
    let mid : PageMap = g.P.Pages.pages c.put_below.new.pages in
    let mr : ℕ = c.put_below.new.tree.rows in
    let mc : ℕ = g.P.Pages.count c.put_below.new.pages in
    let mf : ℕ = g.P.Pages.first c.put_below.new.pages in
    let first_count : ℕ = (contract.members g.row.P g.dyn-1 (c.args.policy.now.0, c.choose-at.new.policy)).count c.choose-at.new.policy in
    let mid_count : ℕ = (contract.members g.row.P g.dyn-1 (c.args.policy.now.0, c.put_below.new.policy)).count c.put_below.new.policy in
    let rise : ℕ → Type 0 = Rises first_count mid_count in
    let put_b = puts-view target x v (c.in_ok-grown.ensures.made 12 free h.draft_is c.in_ok-fetch_at.ensures.used h.bytes_are h.opened fits) in
    let put = subst (λ (k : ℕ). Puts node_of before mid mr mc mf 12 l k target x (bounding_child_in (nodes_in node_of mid mr) (option_map beside_item more)) (reach_of c.in_ok-grown.grown.rect) rise) (sym found.to_is) put_b in
    let unused = parent-spare before least l page target words item c.args.draft.now is opened' low at child within found mid mr mc mf more c.in_ok-grown.grown.rect rise put in
    let apart = child-apart before least l page target words item c.args.draft.now is opened' low at child within found in
    let rest = parent-rest before least l page target words item c.args.draft.now is opened' low at child within found mid mr mc mf more c.in_ok-grown.grown.rect rise put in
    let known = parent-known before least l page target words item c.args.draft.now is opened' low at child within found mid mr mc mf more c.in_ok-grown.grown.rect rise put c.deref-2.result.now
    (subst (AreRowsAt (bytes_in old rows) page words) (sym c.deref-2.ensures.value) (c.in_ok-known.ensures.rows opened.supplied.rows.kept.map)) in
    let linked : PageMap = g.P.Pages.pages c.relink.new.pages in
    let lr : ℕ = c.relink.new.tree.rows in
    let lc : ℕ = g.P.Pages.count c.relink.new.pages in
    let lf : ℕ = g.P.Pages.first c.relink.new.pages in
    let steps = subst (λ (k : ℕ). Steps (view mid mr mc mf put.free) linked lr lc lf (one_at page) (one_at page) (relinked more page at k words (bytes_in mid mr)) mid) (sym found.to_is)
    (c.in_ok-theirs.ensures.steps put.free put.moves.supplied unused apart known rest) in
    let theirs : (w : ℕ) → impact_in c.deref-3.result.now w ≡ beside_top (bytes_in linked lr) more w = λ w. ap (λ (ps : List (ℕ × ℕ)). impact_in ps w) c.deref-3.ensures.value ∙ c.in_ok-theirs.ensures.theirs put.moves.supplied.rows.kept.map w
    ∙ parent-theirs before least l page target words item c.args.draft.now is opened' low at child within found mid mr mc mf more c.in_ok-grown.grown.rect rise put linked lr lc lf steps w in
    c.finish.ensures.no_false_damage least l steps.free draft level_is (parent-still before least l page target words item c.args.draft.now is opened' low at child within found mid mr mc mf more c.in_ok-grown.grown.rect rise put linked lr lc lf steps) found
    (parent-ready before least l page target words item c.args.draft.now is opened' low at child within found mid mr mc mf more c.in_ok-grown.grown.rect rise put linked lr lc lf steps) theirs
    (told-step page steps unused (told-made node_of some-told (omega arith) put told))

pub returns-in_err-theirs-clause-frame : goal.returns-in_err-theirs-clause-frame
returns-in_err-theirs-clause-frame g t c =
    changes_then g.P.Pages g.met.P.Pages.goes_further _ _ _ (reads_change g.P.Pages _ _ c.in_ok-known.ensures.frame)
    (changes_then g.P.Pages g.met.P.Pages.goes_further _ _ _ (reads_change g.P.Pages _ _ c.in_ok-fetch_at.ensures.looks.frame)
    (changes_then g.P.Pages g.met.P.Pages.goes_further _ _ _ c.in_ok-grown.ensures.frame c.relink.ensures.frame))

pub returns-clause-frame : goal.returns-clause-frame
returns-clause-frame g t c =
    changes_then g.P.Pages g.met.P.Pages.goes_further _ _ _ (reads_change g.P.Pages _ _ c.in_ok-known.ensures.frame)
    (changes_then g.P.Pages g.met.P.Pages.goes_further _ _ _ (reads_change g.P.Pages _ _ c.in_ok-fetch_at.ensures.looks.frame)
    (changes_then g.P.Pages g.met.P.Pages.goes_further _ _ _ c.in_ok-grown.ensures.frame
    (changes_then g.P.Pages g.met.P.Pages.goes_further _ _ _ c.in_ok-theirs.ensures.frame c.finish.ensures.frame)))

pub returns-then-level-goal-clause-damaged : goal.returns-then-level-goal-clause-damaged
returns-then-level-goal-clause-damaged g t c = λ before told is used level asked damage e.
    let p = g.P.Pages in
    rows-harm c.add.new.tree.rows (p.pages c.add.new.pages) (p.count c.add.new.pages) (p.first c.add.new.pages) before (p.asked c.args.pages.now) (p.asked c.add.new.pages) c.args.page damage asked (c.add.ensures.damaged told damage e)

pub returns-in_err-known-clause-damaged : goal.returns-in_err-known-clause-damaged
returns-in_err-known-clause-damaged g t c = λ before told is used level asked damage.
    let p = g.P.Pages in
    let f = c.rows_at.ensures.frame in
    let r = err_from_is_err_and c.from_residual.result c.from_residual.ensures.1 in
    λ e. (let same : c.in_err-known.field-0.0 ≡ Damaged damage = cc (r.1, r.2, e) in
    rows-harm _ (p.pages c.rows_at.new.pages) (p.count c.rows_at.new.pages) (p.first c.rows_at.new.pages) before (p.asked c.args.pages.now) (p.asked c.rows_at.new.pages) c.args.page damage asked
    (harm-looked (p.pages c.args.pages.now) (p.pages c.rows_at.new.pages) (p.count c.args.pages.now) (p.count c.rows_at.new.pages) (p.first c.rows_at.new.pages) c.args.tree.now.rows (p.asked c.args.pages.now) (p.asked c.rows_at.new.pages) damage
    f.pages f.count (c.in_err-known.ensures.damaged told damage (ap Err same))))

pub returns-in_err-known-clause-more : goal.returns-in_err-known-clause-more
returns-in_err-known-clause-more g t c = λ told.
    let p = g.P.Pages in
    asks-more (map_uses rows_form (p.pages c.args.pages.now) c.args.tree.now.rows) (λ _. 1) (p.asked c.args.pages.now) (p.asked c.rows_at.new.pages) (λ n h. omega arith) (c.rows_at.ensures.own told)

pub returns-in_err-fetch_at-clause-damaged : goal.returns-in_err-fetch_at-clause-damaged
returns-in_err-fetch_at-clause-damaged g t c = λ before told is used level asked damage.
    let p = g.P.Pages in
    let a0 : List ℕ = p.asked c.args.pages.now in
    let a1 : List ℕ = p.asked c.rows_at.new.pages in
    let f1 = c.in_ok-known.ensures.frame in
    let told1 : AreReadable (p.pages c.rows_at.new.pages) (p.count c.rows_at.new.pages) = rw (f1.pages, f1.count) told in
    let more1 : AsksOnly (λ _. 1) a0 a1 = asks-more (map_uses rows_form (p.pages c.args.pages.now) c.args.tree.now.rows) (λ _. 1) a0 a1 (λ n h. omega arith) (c.rows_at.ensures.own told) in
    let a2 : List ℕ = p.asked c.fetch_at.new.pages in
    let f2 = c.fetch_at.ensures.looks.frame in
    let l : ℕ = c.args.level - 1 in
    let up : level_in c.args.draft.now.bytes ≡ suc l = let high = c.if-level-goal.false in omega arith in
    let at : ℕ = c.choose-at.result in
    let child : ℕ = c.child_at-child.result in
    let kept = stored-child c.args.draft.now at child used (omega arith) c.choose-at.ensures.used.0 c.choose-at.ensures.used.1 c.child_at-child.ensures.number in
    let r = err_from_is_err_and c.from_residual-in_err-fetch_at.result c.from_residual-in_err-fetch_at.ensures.1 in
    λ e. (let same : c.in_err-fetch_at.field-0.0 ≡ Damaged damage = cc (r.1, r.2, e) in
    child-harm _ (p.pages c.args.pages.now) (p.pages c.rows_at.new.pages) (p.pages c.fetch_at.new.pages) (p.count c.rows_at.new.pages) (p.count c.fetch_at.new.pages) (p.first c.fetch_at.new.pages) before a0 a1 a2
    c.args.draft.now.bytes l c.args.page at child damage f1.pages f2.pages f2.count is up kept asked more1 c.fetch_at.ensures.more (c.in_err-fetch_at.ensures.damaged damage (ap Err same)))

pub returns-in_err-fetch_at-clause-more : goal.returns-in_err-fetch_at-clause-more
returns-in_err-fetch_at-clause-more g t c = λ told.
    let p = g.P.Pages in
    let a0 : List ℕ = p.asked c.args.pages.now in
    let a1 : List ℕ = p.asked c.rows_at.new.pages in
    let f1 = c.in_ok-known.ensures.frame in
    let told1 : AreReadable (p.pages c.rows_at.new.pages) (p.count c.rows_at.new.pages) = rw (f1.pages, f1.count) told in
    let more1 : AsksOnly (λ _. 1) a0 a1 = asks-more (map_uses rows_form (p.pages c.args.pages.now) c.args.tree.now.rows) (λ _. 1) a0 a1 (λ n h. omega arith) (c.rows_at.ensures.own told) in
    let a2 : List ℕ = p.asked c.fetch_at.new.pages in
    let more2 : AsksOnly (λ _. 1) a0 a2 = asks-further (λ _. 1) a0 a1 a2 more1 c.fetch_at.ensures.more in
    more2

pub returns-in_err-grown-clause-damaged : goal.returns-in_err-grown-clause-damaged
returns-in_err-grown-clause-damaged g t c = λ before told is used level asked damage.
    let p = g.P.Pages in
    let a0 : List ℕ = p.asked c.args.pages.now in
    let a1 : List ℕ = p.asked c.rows_at.new.pages in
    let f1 = c.in_ok-known.ensures.frame in
    let told1 : AreReadable (p.pages c.rows_at.new.pages) (p.count c.rows_at.new.pages) = rw (f1.pages, f1.count) told in
    let more1 : AsksOnly (λ _. 1) a0 a1 = asks-more (map_uses rows_form (p.pages c.args.pages.now) c.args.tree.now.rows) (λ _. 1) a0 a1 (λ n h. omega arith) (c.rows_at.ensures.own told) in
    let a2 : List ℕ = p.asked c.fetch_at.new.pages in
    let f2 = c.in_ok-fetch_at.ensures.looks.frame in
    let told2 : AreReadable (p.pages c.fetch_at.new.pages) (p.count c.fetch_at.new.pages) = rw (f2.pages, f2.count) told1 in
    let child : ℕ = c.child_at-child.result in
    let asked2 : AskedSince before a2 child = asked-before (λ _. 1) before a0 a2 child (asks-since before a0 c.args.page asked) (asked-before (λ _. 1) a0 a1 a2 child more1 c.in_ok-fetch_at.ensures.here) in
    let bytes2 = c.in_ok-fetch_at.ensures.bytes (told-counted (p.pages c.rows_at.new.pages) (p.count c.rows_at.new.pages) child told1 c.in_ok-fetch_at.ensures.counted) ∙ sym (ap (λ (q : PageMap). q child) f2.pages) in
    let r = err_from_is_err_and c.from_residual-in_err-grown.result c.from_residual-in_err-grown.ensures.1 in
    λ e. (let same : c.in_err-grown.field-0.0 ≡ Damaged damage = cc (r.1, r.2, e) in
    c.in_err-grown.ensures.damaged before told2 bytes2 c.in_ok-fetch_at.ensures.used c.in_ok-fetch_at.ensures.level asked2 damage (ap Err same))

pub returns-in_err-grown-clause-more : goal.returns-in_err-grown-clause-more
returns-in_err-grown-clause-more g t c = λ told.
    let p = g.P.Pages in
    let a0 : List ℕ = p.asked c.args.pages.now in
    let a1 : List ℕ = p.asked c.rows_at.new.pages in
    let f1 = c.in_ok-known.ensures.frame in
    let told1 : AreReadable (p.pages c.rows_at.new.pages) (p.count c.rows_at.new.pages) = rw (f1.pages, f1.count) told in
    let more1 : AsksOnly (λ _. 1) a0 a1 = asks-more (map_uses rows_form (p.pages c.args.pages.now) c.args.tree.now.rows) (λ _. 1) a0 a1 (λ n h. omega arith) (c.rows_at.ensures.own told) in
    let a2 : List ℕ = p.asked c.fetch_at.new.pages in
    let more2 : AsksOnly (λ _. 1) a0 a2 = asks-further (λ _. 1) a0 a1 a2 more1 c.fetch_at.ensures.more in
    let f2 = c.in_ok-fetch_at.ensures.looks.frame in
    let told2 : AreReadable (p.pages c.fetch_at.new.pages) (p.count c.fetch_at.new.pages) = rw (f2.pages, f2.count) told1 in
    let a3 : List ℕ = p.asked c.put_below.new.pages in
    let more3 : AsksOnly (λ _. 1) a0 a3 = asks-further (λ _. 1) a0 a2 a3 more2 (c.put_below.ensures.more told2) in
    more3

pub returns-in_err-theirs-clause-damaged : goal.returns-in_err-theirs-clause-damaged
returns-in_err-theirs-clause-damaged g t c = λ before told is used level asked damage.
    let p = g.P.Pages in
    let a0 : List ℕ = p.asked c.args.pages.now in
    let a1 : List ℕ = p.asked c.rows_at.new.pages in
    let f1 = c.in_ok-known.ensures.frame in
    let told1 : AreReadable (p.pages c.rows_at.new.pages) (p.count c.rows_at.new.pages) = rw (f1.pages, f1.count) told in
    let more1 : AsksOnly (λ _. 1) a0 a1 = asks-more (map_uses rows_form (p.pages c.args.pages.now) c.args.tree.now.rows) (λ _. 1) a0 a1 (λ n h. omega arith) (c.rows_at.ensures.own told) in
    let a2 : List ℕ = p.asked c.fetch_at.new.pages in
    let more2 : AsksOnly (λ _. 1) a0 a2 = asks-further (λ _. 1) a0 a1 a2 more1 c.fetch_at.ensures.more in
    let f2 = c.in_ok-fetch_at.ensures.looks.frame in
    let told2 : AreReadable (p.pages c.fetch_at.new.pages) (p.count c.fetch_at.new.pages) = rw (f2.pages, f2.count) told1 in
    let a3 : List ℕ = p.asked c.put_below.new.pages in
    let more3 : AsksOnly (λ _. 1) a0 a3 = asks-further (λ _. 1) a0 a2 a3 more2 (c.put_below.ensures.more told2) in
    let told3 : AreReadable (p.pages c.put_below.new.pages) (p.count c.put_below.new.pages) = c.in_ok-grown.ensures.told told2 in
    let a4 : List ℕ = p.asked c.relink.new.pages in
    let r = err_from_is_err_and c.from_residual-in_err-theirs.result c.from_residual-in_err-theirs.ensures.1 in
    λ e. (let same : c.in_err-theirs.field-0.0 ≡ Damaged damage = cc (r.1, r.2, e) in
    rows-harm c.relink.new.tree.rows (p.pages c.relink.new.pages) (p.count c.relink.new.pages) (p.first c.relink.new.pages) before a0 a4 c.args.page damage asked
    (harm-later c.relink.new.tree.rows (λ _. 1) (p.pages c.relink.new.pages) (p.count c.relink.new.pages) (p.first c.relink.new.pages) a0 a3 a4 damage more3 (c.in_err-theirs.ensures.damaged told3 damage (ap Err same))))

pub returns-in_err-theirs-clause-more : goal.returns-in_err-theirs-clause-more
returns-in_err-theirs-clause-more g t c = λ told.
    let p = g.P.Pages in
    let a0 : List ℕ = p.asked c.args.pages.now in
    let a1 : List ℕ = p.asked c.rows_at.new.pages in
    let f1 = c.in_ok-known.ensures.frame in
    let told1 : AreReadable (p.pages c.rows_at.new.pages) (p.count c.rows_at.new.pages) = rw (f1.pages, f1.count) told in
    let more1 : AsksOnly (λ _. 1) a0 a1 = asks-more (map_uses rows_form (p.pages c.args.pages.now) c.args.tree.now.rows) (λ _. 1) a0 a1 (λ n h. omega arith) (c.rows_at.ensures.own told) in
    let a2 : List ℕ = p.asked c.fetch_at.new.pages in
    let more2 : AsksOnly (λ _. 1) a0 a2 = asks-further (λ _. 1) a0 a1 a2 more1 c.fetch_at.ensures.more in
    let f2 = c.in_ok-fetch_at.ensures.looks.frame in
    let told2 : AreReadable (p.pages c.fetch_at.new.pages) (p.count c.fetch_at.new.pages) = rw (f2.pages, f2.count) told1 in
    let a3 : List ℕ = p.asked c.put_below.new.pages in
    let more3 : AsksOnly (λ _. 1) a0 a3 = asks-further (λ _. 1) a0 a2 a3 more2 (c.put_below.ensures.more told2) in
    let told3 : AreReadable (p.pages c.put_below.new.pages) (p.count c.put_below.new.pages) = c.in_ok-grown.ensures.told told2 in
    let a4 : List ℕ = p.asked c.relink.new.pages in
    let more4 : AsksOnly (λ _. 1) a0 a4 = asks-further (λ _. 1) a0 a3 a4 more3 (c.relink.ensures.more told3) in
    more4

pub returns-clause-damaged : goal.returns-clause-damaged
returns-clause-damaged g t c = λ before told is used level asked damage e.
    let p = g.P.Pages in
    let a0 : List ℕ = p.asked c.args.pages.now in
    let a1 : List ℕ = p.asked c.rows_at.new.pages in
    let f1 = c.in_ok-known.ensures.frame in
    let told1 : AreReadable (p.pages c.rows_at.new.pages) (p.count c.rows_at.new.pages) = rw (f1.pages, f1.count) told in
    let more1 : AsksOnly (λ _. 1) a0 a1 = asks-more (map_uses rows_form (p.pages c.args.pages.now) c.args.tree.now.rows) (λ _. 1) a0 a1 (λ n h. omega arith) (c.rows_at.ensures.own told) in
    let a2 : List ℕ = p.asked c.fetch_at.new.pages in
    let more2 : AsksOnly (λ _. 1) a0 a2 = asks-further (λ _. 1) a0 a1 a2 more1 c.fetch_at.ensures.more in
    let f2 = c.in_ok-fetch_at.ensures.looks.frame in
    let told2 : AreReadable (p.pages c.fetch_at.new.pages) (p.count c.fetch_at.new.pages) = rw (f2.pages, f2.count) told1 in
    let a3 : List ℕ = p.asked c.put_below.new.pages in
    let more3 : AsksOnly (λ _. 1) a0 a3 = asks-further (λ _. 1) a0 a2 a3 more2 (c.put_below.ensures.more told2) in
    let told3 : AreReadable (p.pages c.put_below.new.pages) (p.count c.put_below.new.pages) = c.in_ok-grown.ensures.told told2 in
    let a4 : List ℕ = p.asked c.relink.new.pages in
    let more4 : AsksOnly (λ _. 1) a0 a4 = asks-further (λ _. 1) a0 a3 a4 more3 (c.relink.ensures.more told3) in
    let told4 : AreReadable (p.pages c.relink.new.pages) (p.count c.relink.new.pages) = c.in_ok-theirs.ensures.told told3 in
    let a5 : List ℕ = p.asked c.finish.new.pages in
    rows-harm c.finish.new.tree.rows (p.pages c.finish.new.pages) (p.count c.finish.new.pages) (p.first c.finish.new.pages) before a0 a5 c.args.page damage asked
    (harm-later c.finish.new.tree.rows (λ _. 1) (p.pages c.finish.new.pages) (p.count c.finish.new.pages) (p.first c.finish.new.pages) a0 a4 a5 damage more4 (c.finish.ensures.damaged told4 damage e))

pub returns-clause-told : goal.returns-clause-told
returns-clause-told g t c = λ told.
    let p = g.P.Pages in
    let a0 : List ℕ = p.asked c.args.pages.now in
    let a1 : List ℕ = p.asked c.rows_at.new.pages in
    let f1 = c.in_ok-known.ensures.frame in
    let told1 : AreReadable (p.pages c.rows_at.new.pages) (p.count c.rows_at.new.pages) = rw (f1.pages, f1.count) told in
    let more1 : AsksOnly (λ _. 1) a0 a1 = asks-more (map_uses rows_form (p.pages c.args.pages.now) c.args.tree.now.rows) (λ _. 1) a0 a1 (λ n h. omega arith) (c.rows_at.ensures.own told) in
    let a2 : List ℕ = p.asked c.fetch_at.new.pages in
    let more2 : AsksOnly (λ _. 1) a0 a2 = asks-further (λ _. 1) a0 a1 a2 more1 c.fetch_at.ensures.more in
    let f2 = c.in_ok-fetch_at.ensures.looks.frame in
    let told2 : AreReadable (p.pages c.fetch_at.new.pages) (p.count c.fetch_at.new.pages) = rw (f2.pages, f2.count) told1 in
    let a3 : List ℕ = p.asked c.put_below.new.pages in
    let more3 : AsksOnly (λ _. 1) a0 a3 = asks-further (λ _. 1) a0 a2 a3 more2 (c.put_below.ensures.more told2) in
    let told3 : AreReadable (p.pages c.put_below.new.pages) (p.count c.put_below.new.pages) = c.in_ok-grown.ensures.told told2 in
    let a4 : List ℕ = p.asked c.relink.new.pages in
    let more4 : AsksOnly (λ _. 1) a0 a4 = asks-further (λ _. 1) a0 a3 a4 more3 (c.relink.ensures.more told3) in
    let told4 : AreReadable (p.pages c.relink.new.pages) (p.count c.relink.new.pages) = c.in_ok-theirs.ensures.told told3 in
    c.finish.ensures.told told4

pub returns-clause-more : goal.returns-clause-more
returns-clause-more g t c = λ told.
    let p = g.P.Pages in
    let a0 : List ℕ = p.asked c.args.pages.now in
    let a1 : List ℕ = p.asked c.rows_at.new.pages in
    let f1 = c.in_ok-known.ensures.frame in
    let told1 : AreReadable (p.pages c.rows_at.new.pages) (p.count c.rows_at.new.pages) = rw (f1.pages, f1.count) told in
    let more1 : AsksOnly (λ _. 1) a0 a1 = asks-more (map_uses rows_form (p.pages c.args.pages.now) c.args.tree.now.rows) (λ _. 1) a0 a1 (λ n h. omega arith) (c.rows_at.ensures.own told) in
    let a2 : List ℕ = p.asked c.fetch_at.new.pages in
    let more2 : AsksOnly (λ _. 1) a0 a2 = asks-further (λ _. 1) a0 a1 a2 more1 c.fetch_at.ensures.more in
    let f2 = c.in_ok-fetch_at.ensures.looks.frame in
    let told2 : AreReadable (p.pages c.fetch_at.new.pages) (p.count c.fetch_at.new.pages) = rw (f2.pages, f2.count) told1 in
    let a3 : List ℕ = p.asked c.put_below.new.pages in
    let more3 : AsksOnly (λ _. 1) a0 a3 = asks-further (λ _. 1) a0 a2 a3 more2 (c.put_below.ensures.more told2) in
    let told3 : AreReadable (p.pages c.put_below.new.pages) (p.count c.put_below.new.pages) = c.in_ok-grown.ensures.told told2 in
    let a4 : List ℕ = p.asked c.relink.new.pages in
    let more4 : AsksOnly (λ _. 1) a0 a4 = asks-further (λ _. 1) a0 a3 a4 more3 (c.relink.ensures.more told3) in
    let told4 : AreReadable (p.pages c.relink.new.pages) (p.count c.relink.new.pages) = c.in_ok-theirs.ensures.told told3 in
    let a5 : List ℕ = p.asked c.finish.new.pages in
    let more5 : AsksOnly (λ _. 1) a0 a5 = asks-further (λ _. 1) a0 a4 a5 more4 (c.finish.ensures.more told4) in
    more5
