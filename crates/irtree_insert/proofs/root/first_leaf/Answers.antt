use Rattle.std.proofs.Common.{◌≡◌, ◌∙◌, ℕ, List, ap, Err, refl, inr}
use Rattle.std.proofs.lemmas.Result.{err_from_is_err_and}
use Rattle.page_face.specs.FreeList.{PageMap}
use Rattle.btree_nodes.proofs.Walks.{same-fault}
use Rattle.rtree_nodes.specs.Slots.{Item, Slots, NodeView}
use Rattle.rtree_nodes.specs.Stock.{View, view}
use Rattle.rtree_nodes.specs.Reach.{item_of}
use Rattle.rtree_nodes.specs.Pages.{node_of, slots_in, level_in}
use Rattle.node_rows.specs.Impacts.{impact_in}
use Rattle.irtree_shape.proofs.Plants.{leaf_spare, leaf_planted}
use Rattle.irtree_shape.proofs.Stepping.{steps-raised}
use Rattle.irtree_insert.proofs.Loads.{form-level, leaf-fits}
use Rattle.page_face.specs.declared.fault.PageFault.TheVariants.{Damaged}
use Rattle.btree_nodes.specs.Damages.{AreReadable, AsksOnly}
use Rattle.btree_nodes.proofs.Harms.{asks-further, asks-nothing}
use Rattle.node_rows.proofs.Harms.{harm-later}
use Rattle.irtree_insert.proofs.root.first_leaf.Goals as goal

pub returns-in_err-raise-clause-no_false_damage : goal.returns-in_err-raise-clause-no_false_damage
returns-in_err-raise-clause-no_false_damage g c =
    let passed = err_from_is_err_and c.from_residual-in_err-raise.result c.from_residual-in_err-raise.ensures.1 in
    rw (passed.1, passed.2) (λ free whole told damage e.
    let take = c.in_ok-top.ensures.taken c.args.tree.now.rows free whole.supplied in
    c.raise.ensures.no_false_damage take.free take.moves.supplied.rows (c.in_ok-top.ensures.told told) damage (c.in_err-raise.was ∙ ap Err (same-fault {T = ℕ} _ _ e)))

pub returns-clause-planted : goal.returns-clause-planted
returns-clause-planted g c = λ free place whole.
    let rows : ℕ = c.args.tree.now.rows in
    let words : List (ℕ × ℕ) = c.args.words.now in
    let x : Item = item_of c.args.slot.now in
    let before : View = view (g.P.Pages.pages c.args.pages.now) rows (g.P.Pages.count c.args.pages.now) (g.P.Pages.first c.args.pages.now) free in
    let s : Slots = slots_in c.new_node-bytes.result in
    let t : Slots = slots_in c.put_slot.new.page in
    let none = λ (i : ℕ). ap (λ (v : NodeView). v.slots i) c.new_node-bytes.ensures.node in
    let low : level_in c.new_node-bytes.result ≡ 0 = c.new_node-bytes.ensures.level in
    let fits = place ∙ leaf-fits (level_in c.new_node-bytes.result) low in
    let form = c.put_slot.ensures.form c.new_node-bytes.ensures.form fits in
    let t_is = c.put_slot.ensures.slots c.new_node-bytes.ensures.form fits in
    let level_is : (node_of c.put_slot.new.page).level ≡ 0 = form-level c.put_slot.new.page form ∙ c.put_slot.ensures.level ∙ low in
    let top : ℕ = c.in_ok-top.top in
    let taken : PageMap = g.P.Pages.pages c.store_new.new.pages in
    let c0 : ℕ = g.P.Pages.count c.store_new.new.pages in
    let f0 : ℕ = g.P.Pages.first c.store_new.new.pages in
    let take = c.in_ok-top.ensures.taken rows free whole.supplied in
    let some = c.in_ok-top.ensures.some in
    let unused = leaf_spare node_of before top words x (λ n. n ≡ 0) refl whole taken rows c0 f0 c.put_slot.new.page take some in
    let pages : PageMap = g.P.Pages.pages c.raise.new.pages in
    let c1 : ℕ = g.P.Pages.count c.raise.new.pages in
    let f1 : ℕ = g.P.Pages.first c.raise.new.pages in
    let steps = steps-raised (view taken rows c0 f0 take.free) pages c.raise.new.tree.rows c1 f1 top 0 (impact_in words) take.moves.supplied unused (c.in_ok-raise.ensures.turns take.free take.moves.supplied.rows) in
    leaf_planted node_of before top words x (λ n. n ≡ 0) refl whole taken rows c0 f0 c.put_slot.new.page take some pages c.raise.new.tree.rows c1 f1 steps s t none t_is
    (ap (λ (l : ℕ). record { level = l; slots = t }) level_is)

pub returns-in_err-top-clause-damaged : goal.returns-in_err-top-clause-damaged
returns-in_err-top-clause-damaged g c = λ told damage.
    let r = err_from_is_err_and c.from_residual.result c.from_residual.ensures.1 in
    λ e. (let same : c.in_err-top.field-0.0 ≡ Damaged damage = cc (r.1, r.2, e) in
    inr (c.in_err-top.ensures.damaged damage (ap Err same)))

pub returns-in_err-top-clause-more : goal.returns-in_err-top-clause-more
returns-in_err-top-clause-more g c = λ told.
    let p = g.P.Pages in
    asks-nothing (λ _. 1) (p.asked c.args.pages.now) (p.asked c.store_new.new.pages) c.store_new.ensures.asked

pub returns-in_err-raise-clause-damaged : goal.returns-in_err-raise-clause-damaged
returns-in_err-raise-clause-damaged g c = λ told damage.
    let p = g.P.Pages in
    let a0 : List ℕ = p.asked c.args.pages.now in
    let a1 : List ℕ = p.asked c.store_new.new.pages in
    let more1 : AsksOnly (λ _. 1) a0 a1 = asks-nothing (λ _. 1) a0 a1 c.store_new.ensures.asked in
    let told1 : AreReadable (p.pages c.store_new.new.pages) (p.count c.store_new.new.pages) = c.in_ok-top.ensures.told told in
    let a2 : List ℕ = p.asked c.raise.new.pages in
    let r = err_from_is_err_and c.from_residual-in_err-raise.result c.from_residual-in_err-raise.ensures.1 in
    λ e. (let same : c.in_err-raise.field-0.0 ≡ Damaged damage = cc (r.1, r.2, e) in
    harm-later c.raise.new.tree.rows (λ _. 1) (p.pages c.raise.new.pages) (p.count c.raise.new.pages) (p.first c.raise.new.pages) a0 a1 a2 damage more1 (c.in_err-raise.ensures.damaged told1 damage (ap Err same)))

pub returns-in_err-raise-clause-more : goal.returns-in_err-raise-clause-more
returns-in_err-raise-clause-more g c = λ told.
    let p = g.P.Pages in
    let a0 : List ℕ = p.asked c.args.pages.now in
    let a1 : List ℕ = p.asked c.store_new.new.pages in
    let more1 : AsksOnly (λ _. 1) a0 a1 = asks-nothing (λ _. 1) a0 a1 c.store_new.ensures.asked in
    let told1 : AreReadable (p.pages c.store_new.new.pages) (p.count c.store_new.new.pages) = c.in_ok-top.ensures.told told in
    let a2 : List ℕ = p.asked c.raise.new.pages in
    asks-further (λ _. 1) a0 a1 a2 more1 (c.raise.ensures.more told1)

pub returns-clause-told : goal.returns-clause-told
returns-clause-told g c = λ told. c.in_ok-raise.ensures.told (c.in_ok-top.ensures.told told)

pub returns-clause-more : goal.returns-clause-more
returns-clause-more g c = λ told.
    let p = g.P.Pages in
    let a0 : List ℕ = p.asked c.args.pages.now in
    let a1 : List ℕ = p.asked c.store_new.new.pages in
    let more1 : AsksOnly (λ _. 1) a0 a1 = asks-nothing (λ _. 1) a0 a1 c.store_new.ensures.asked in
    let told1 : AreReadable (p.pages c.store_new.new.pages) (p.count c.store_new.new.pages) = c.in_ok-top.ensures.told told in
    let a2 : List ℕ = p.asked c.raise.new.pages in
    asks-further (λ _. 1) a0 a1 a2 more1 (c.raise.ensures.more told1)
