use Rattle.std.proofs.Common.{◌≡◌, ◌∙◌, ℕ, List, suc, ap, Err, refl, add-one, inr}
use Rattle.std.proofs.lemmas.Result.{err_from_is_err_and}
use Rattle.page_face.specs.FreeList.{PageMap}
use Rattle.btree_nodes.proofs.Walks.{same-fault}
use Rattle.node_rows.proofs.Told.{told-turned}
use Rattle.rtree_nodes.specs.Slots.{Item, Slots, NodeView}
use Rattle.rtree_nodes.specs.Trees.{with_slot}
use Rattle.rtree_nodes.specs.Stock.{View, view, plain}
use Rattle.rtree_nodes.specs.Reach.{reach_of, child_item}
use Rattle.rtree_nodes.specs.Pages.{node_of, slots_in, level_in}
use Rattle.irtree_shape.proofs.Raises.{top_spare, root_apart, more_apart, top_spare1, root_stands}
use Rattle.irtree_shape.proofs.Stepping.{steps-refreshed}
use Rattle.irtree_insert.specs.Grown.{beside_item}
use Rattle.irtree_insert.proofs.Loads.{form-level, inner-fits}
use Rattle.page_face.specs.declared.fault.PageFault.TheVariants.{Damaged}
use Rattle.btree_nodes.specs.Damages.{AreReadable, AsksOnly}
use Rattle.btree_nodes.proofs.Harms.{asks-further, asks-nothing}
use Rattle.node_rows.proofs.Harms.{harm-later}
use Rattle.irtree_insert.proofs.root.raise_root.Goals as goal

pub returns-in_err-refresh-clause-no_false_damage : goal.returns-in_err-refresh-clause-no_false_damage
returns-in_err-refresh-clause-no_false_damage g c =
    let passed = err_from_is_err_and c.from_residual-in_err-refresh.result c.from_residual-in_err-refresh.ensures.1 in
    rw (passed.1, passed.2) (λ free sums wide least raised told damage e.
    let rows : ℕ = c.args.tree.now.rows in
    let before : View = view (g.P.Pages.pages c.args.pages.now) rows (g.P.Pages.count c.args.pages.now) (g.P.Pages.first c.args.pages.now) free in
    let left : Item = child_item c.args.rect.now c.args.root in
    let more : Item = beside_item c.args.more.now in
    let top : ℕ = c.in_ok-top.top in
    let taken : PageMap = g.P.Pages.pages c.store_new.new.pages in
    let c0 : ℕ = g.P.Pages.count c.store_new.new.pages in
    let f0 : ℕ = g.P.Pages.first c.store_new.new.pages in
    let take = c.in_ok-top.ensures.taken rows free raised.supplied in
    c.refresh.ensures.no_false_damage take.free take.moves.supplied.rows
    (root_apart node_of before least c.args.level c.args.root top left more sums wide (reach_of c.args.rect.now) raised refl (λ d. refl) taken rows c0 f0 c.put_slot-2.new.page take)
    (c.in_ok-top.ensures.told told) damage (c.in_err-refresh.was ∙ ap Err (same-fault {T = ℕ} _ _ e)))

pub returns-in_err-refresh-2-clause-no_false_damage : goal.returns-in_err-refresh-2-clause-no_false_damage
returns-in_err-refresh-2-clause-no_false_damage g c =
    let passed = err_from_is_err_and c.from_residual-in_err-refresh-2.result c.from_residual-in_err-refresh-2.ensures.1 in
    rw (passed.1, passed.2) (λ free sums wide least raised told damage e.
    let rows : ℕ = c.args.tree.now.rows in
    let before : View = view (g.P.Pages.pages c.args.pages.now) rows (g.P.Pages.count c.args.pages.now) (g.P.Pages.first c.args.pages.now) free in
    let left : Item = child_item c.args.rect.now c.args.root in
    let more : Item = beside_item c.args.more.now in
    let top : ℕ = c.in_ok-top.top in
    let taken : PageMap = g.P.Pages.pages c.store_new.new.pages in
    let c0 : ℕ = g.P.Pages.count c.store_new.new.pages in
    let f0 : ℕ = g.P.Pages.first c.store_new.new.pages in
    let take = c.in_ok-top.ensures.taken rows free raised.supplied in
    let turn = c.in_ok-refresh.ensures.turns take.free take.moves.supplied.rows
    (root_apart node_of before least c.args.level c.args.root top left more sums wide (reach_of c.args.rect.now) raised refl (λ d. refl) taken rows c0 f0 c.put_slot-2.new.page take) in
    c.refresh-2.ensures.no_false_damage turn.free turn.rows
    (more_apart node_of before least c.args.level c.args.root top left more sums wide (reach_of c.args.rect.now) raised refl (λ d. refl) taken rows c0 f0 c.put_slot-2.new.page take)
    (told-turned (plain (view taken rows c0 f0 take.free)) rows (g.P.Pages.pages c.refresh.new.pages) (g.P.Pages.count c.refresh.new.pages) (g.P.Pages.first c.refresh.new.pages) c.refresh.new.tree.rows _ turn (c.in_ok-top.ensures.told told))
    damage (c.in_err-refresh-2.was ∙ ap Err (same-fault {T = ℕ} _ _ e)))

pub returns-clause-made : goal.returns-clause-made
returns-clause-made g c = λ free sums wide least raised.
    let level : ℕ = c.args.level in
    let root : ℕ = c.args.root in
    let told : ℕ → ℕ = reach_of c.args.rect.now in
    let rows : ℕ = c.args.tree.now.rows in
    let before : View = view (g.P.Pages.pages c.args.pages.now) rows (g.P.Pages.count c.args.pages.now) (g.P.Pages.first c.args.pages.now) free in
    let left : Item = child_item c.args.rect.now root in
    let more : Item = beside_item c.args.more.now in
    let top : ℕ = c.in_ok-top.top in
    let taken : PageMap = g.P.Pages.pages c.store_new.new.pages in
    let c0 : ℕ = g.P.Pages.count c.store_new.new.pages in
    let f0 : ℕ = g.P.Pages.first c.store_new.new.pages in
    let take = c.in_ok-top.ensures.taken rows free raised.supplied in
    let bytes : List ℕ = c.put_slot-2.new.page in
    let s : Slots = slots_in c.new_node-bytes.result in
    let t : Slots = slots_in c.put_slot.new.page in
    let u : Slots = slots_in bytes in
    let none = λ (i : ℕ). ap (λ (v : NodeView). v.slots i) c.new_node-bytes.ensures.node in
    let low : level_in c.new_node-bytes.result ≡ suc level = c.new_node-bytes.ensures.level ∙ add-one level in
    let mid : level_in c.put_slot.new.page ≡ suc level = c.put_slot.ensures.level ∙ low in
    let left_fits = inner-fits (level_in c.new_node-bytes.result) level low in
    let more_fits = c.slot.ensures.child ∙ inner-fits (level_in c.put_slot.new.page) level mid in
    let t_form = c.put_slot.ensures.form c.new_node-bytes.ensures.form left_fits in
    let t_is = c.put_slot.ensures.slots c.new_node-bytes.ensures.form left_fits in
    let u_form = c.put_slot-2.ensures.form t_form more_fits in
    let u_is = c.put_slot-2.ensures.slots t_form more_fits ∙ ap (λ (y : Item). with_slot 1 y t) c.slot.ensures.item in
    let level_is : (node_of bytes).level ≡ suc level = form-level bytes u_form ∙ c.put_slot-2.ensures.level ∙ mid in
    let m1 : PageMap = g.P.Pages.pages c.refresh.new.pages in
    let c1 : ℕ = g.P.Pages.count c.refresh.new.pages in
    let f1 : ℕ = g.P.Pages.first c.refresh.new.pages in
    let m2 : PageMap = g.P.Pages.pages c.refresh-2.new.pages in
    let c2 : ℕ = g.P.Pages.count c.refresh-2.new.pages in
    let f2 : ℕ = g.P.Pages.first c.refresh-2.new.pages in
    let z0 = top_spare node_of before least level root top left more sums wide told raised refl (λ d. refl) taken rows c0 f0 bytes take in
    let s1 = steps-refreshed (view taken rows c0 f0 take.free) m1 c.refresh.new.tree.rows c1 f1 top 0 root take.moves.supplied z0
    (c.in_ok-refresh.ensures.turns take.free take.moves.supplied.rows (root_apart node_of before least level root top left more sums wide told raised refl (λ d. refl) taken rows c0 f0 bytes take)) in
    let z1 = top_spare1 node_of before least level root top left more sums wide told raised refl (λ d. refl) taken rows c0 f0 bytes take m1 c.refresh.new.tree.rows c1 f1 s1 in
    let s2 = steps-refreshed (view m1 c.refresh.new.tree.rows c1 f1 s1.free) m2 c.refresh-2.new.tree.rows c2 f2 top 1 more.to s1.moves.supplied z1
    (c.in_ok-refresh-2.ensures.turns s1.free s1.moves.supplied.rows (more_apart node_of before least level root top left more sums wide told raised refl (λ d. refl) taken rows c0 f0 bytes take)) in
    root_stands node_of before least level root top left more sums wide told raised refl (λ d. refl) taken rows c0 f0 bytes take m1 c.refresh.new.tree.rows c1 f1 s1 m2 c.refresh-2.new.tree.rows c2 f2 s2
    (node_of bytes).level s t u none t_is u_is level_is refl (λ n. n ≡ 1) refl

pub returns-in_err-top-clause-damaged : goal.returns-in_err-top-clause-damaged
returns-in_err-top-clause-damaged g c = λ told damage.
    let r = err_from_is_err_and c.from_residual.result c.from_residual.ensures.1 in
    λ e. (let same : c.in_err-top.field-0.0 ≡ Damaged damage = cc (r.1, r.2, e) in
    inr (c.in_err-top.ensures.damaged damage (ap Err same)))

pub returns-in_err-top-clause-more : goal.returns-in_err-top-clause-more
returns-in_err-top-clause-more g c = λ told.
    let p = g.P.Pages in
    asks-nothing (λ _. 1) (p.asked c.args.pages.now) (p.asked c.store_new.new.pages) c.store_new.ensures.asked

pub returns-in_err-refresh-clause-damaged : goal.returns-in_err-refresh-clause-damaged
returns-in_err-refresh-clause-damaged g c = λ told damage.
    let p = g.P.Pages in
    let a0 : List ℕ = p.asked c.args.pages.now in
    let a1 : List ℕ = p.asked c.store_new.new.pages in
    let more1 : AsksOnly (λ _. 1) a0 a1 = asks-nothing (λ _. 1) a0 a1 c.store_new.ensures.asked in
    let told1 : AreReadable (p.pages c.store_new.new.pages) (p.count c.store_new.new.pages) = c.in_ok-top.ensures.told told in
    let a2 : List ℕ = p.asked c.refresh.new.pages in
    let r = err_from_is_err_and c.from_residual-in_err-refresh.result c.from_residual-in_err-refresh.ensures.1 in
    λ e. (let same : c.in_err-refresh.field-0.0 ≡ Damaged damage = cc (r.1, r.2, e) in
    harm-later c.refresh.new.tree.rows (λ _. 1) (p.pages c.refresh.new.pages) (p.count c.refresh.new.pages) (p.first c.refresh.new.pages) a0 a1 a2 damage more1 (c.in_err-refresh.ensures.damaged told1 damage (ap Err same)))

pub returns-in_err-refresh-clause-more : goal.returns-in_err-refresh-clause-more
returns-in_err-refresh-clause-more g c = λ told.
    let p = g.P.Pages in
    let a0 : List ℕ = p.asked c.args.pages.now in
    let a1 : List ℕ = p.asked c.store_new.new.pages in
    let more1 : AsksOnly (λ _. 1) a0 a1 = asks-nothing (λ _. 1) a0 a1 c.store_new.ensures.asked in
    let told1 : AreReadable (p.pages c.store_new.new.pages) (p.count c.store_new.new.pages) = c.in_ok-top.ensures.told told in
    let a2 : List ℕ = p.asked c.refresh.new.pages in
    let more2 : AsksOnly (λ _. 1) a0 a2 = asks-further (λ _. 1) a0 a1 a2 more1 (c.refresh.ensures.more told1) in
    more2

pub returns-in_err-refresh-2-clause-damaged : goal.returns-in_err-refresh-2-clause-damaged
returns-in_err-refresh-2-clause-damaged g c = λ told damage.
    let p = g.P.Pages in
    let a0 : List ℕ = p.asked c.args.pages.now in
    let a1 : List ℕ = p.asked c.store_new.new.pages in
    let more1 : AsksOnly (λ _. 1) a0 a1 = asks-nothing (λ _. 1) a0 a1 c.store_new.ensures.asked in
    let told1 : AreReadable (p.pages c.store_new.new.pages) (p.count c.store_new.new.pages) = c.in_ok-top.ensures.told told in
    let a2 : List ℕ = p.asked c.refresh.new.pages in
    let more2 : AsksOnly (λ _. 1) a0 a2 = asks-further (λ _. 1) a0 a1 a2 more1 (c.refresh.ensures.more told1) in
    let told2 : AreReadable (p.pages c.refresh.new.pages) (p.count c.refresh.new.pages) = c.in_ok-refresh.ensures.told told1 in
    let a3 : List ℕ = p.asked c.refresh-2.new.pages in
    let r = err_from_is_err_and c.from_residual-in_err-refresh-2.result c.from_residual-in_err-refresh-2.ensures.1 in
    λ e. (let same : c.in_err-refresh-2.field-0.0 ≡ Damaged damage = cc (r.1, r.2, e) in
    harm-later c.refresh-2.new.tree.rows (λ _. 1) (p.pages c.refresh-2.new.pages) (p.count c.refresh-2.new.pages) (p.first c.refresh-2.new.pages) a0 a2 a3 damage more2 (c.in_err-refresh-2.ensures.damaged told2 damage (ap Err same)))

pub returns-in_err-refresh-2-clause-more : goal.returns-in_err-refresh-2-clause-more
returns-in_err-refresh-2-clause-more g c = λ told.
    let p = g.P.Pages in
    let a0 : List ℕ = p.asked c.args.pages.now in
    let a1 : List ℕ = p.asked c.store_new.new.pages in
    let more1 : AsksOnly (λ _. 1) a0 a1 = asks-nothing (λ _. 1) a0 a1 c.store_new.ensures.asked in
    let told1 : AreReadable (p.pages c.store_new.new.pages) (p.count c.store_new.new.pages) = c.in_ok-top.ensures.told told in
    let a2 : List ℕ = p.asked c.refresh.new.pages in
    let more2 : AsksOnly (λ _. 1) a0 a2 = asks-further (λ _. 1) a0 a1 a2 more1 (c.refresh.ensures.more told1) in
    let told2 : AreReadable (p.pages c.refresh.new.pages) (p.count c.refresh.new.pages) = c.in_ok-refresh.ensures.told told1 in
    let a3 : List ℕ = p.asked c.refresh-2.new.pages in
    asks-further (λ _. 1) a0 a2 a3 more2 (c.refresh-2.ensures.more told2)

pub returns-clause-told : goal.returns-clause-told
returns-clause-told g c = λ told.
    let p = g.P.Pages in
    let a0 : List ℕ = p.asked c.args.pages.now in
    let a1 : List ℕ = p.asked c.store_new.new.pages in
    let more1 : AsksOnly (λ _. 1) a0 a1 = asks-nothing (λ _. 1) a0 a1 c.store_new.ensures.asked in
    let told1 : AreReadable (p.pages c.store_new.new.pages) (p.count c.store_new.new.pages) = c.in_ok-top.ensures.told told in
    let a2 : List ℕ = p.asked c.refresh.new.pages in
    let more2 : AsksOnly (λ _. 1) a0 a2 = asks-further (λ _. 1) a0 a1 a2 more1 (c.refresh.ensures.more told1) in
    let told2 : AreReadable (p.pages c.refresh.new.pages) (p.count c.refresh.new.pages) = c.in_ok-refresh.ensures.told told1 in
    let a3 : List ℕ = p.asked c.refresh-2.new.pages in
    c.in_ok-refresh-2.ensures.told told2

pub returns-clause-more : goal.returns-clause-more
returns-clause-more g c = λ told.
    let p = g.P.Pages in
    let a0 : List ℕ = p.asked c.args.pages.now in
    let a1 : List ℕ = p.asked c.store_new.new.pages in
    let more1 : AsksOnly (λ _. 1) a0 a1 = asks-nothing (λ _. 1) a0 a1 c.store_new.ensures.asked in
    let told1 : AreReadable (p.pages c.store_new.new.pages) (p.count c.store_new.new.pages) = c.in_ok-top.ensures.told told in
    let a2 : List ℕ = p.asked c.refresh.new.pages in
    let more2 : AsksOnly (λ _. 1) a0 a2 = asks-further (λ _. 1) a0 a1 a2 more1 (c.refresh.ensures.more told1) in
    let told2 : AreReadable (p.pages c.refresh.new.pages) (p.count c.refresh.new.pages) = c.in_ok-refresh.ensures.told told1 in
    let a3 : List ℕ = p.asked c.refresh-2.new.pages in
    asks-further (λ _. 1) a0 a2 a3 more2 (c.refresh-2.ensures.more told2)
