use Rattle.std.proofs.Common.{arith, ◌≡◌, ◌≢◌, ℕ, ◌∙◌, ap, subst, refl, suc, Some, List, Err, option_map}
use Rattle.std.specs.Result.{IfOk}
use Rattle.page_face.specs.FreeList.{PageMap}
use Rattle.page_face.specs.declared.fault.Damage.{Damage}
use Rattle.page_face.specs.declared.fault.PageFault.TheVariants.{Damaged}
use Rattle.btree_nodes.specs.Damages.{AreReadable}
use Rattle.btree_nodes.specs.Supply.{one_at}
use Rattle.btree_nodes.proofs.Supplies.{one_at-same}
use Rattle.rtree_nodes.specs.Slots.{Item}
use Rattle.rtree_nodes.specs.Stock.{View, view}
use Rattle.rtree_nodes.specs.Made.{Rises}
use Rattle.rtree_nodes.specs.Reach.{reach_of}
use Rattle.rtree_nodes.specs.Pages.{node_of, slots_in}
use Rattle.node_rows.specs.Rows.{bytes_in}
use Rattle.node_rows.specs.Impacts.{impact_in}
use Rattle.irtree_shape.specs.Words.{joined, worded, words_on}
use Rattle.irtree_shape.specs.Steps.{bounding_child_in}
use Rattle.irtree_shape.specs.Made.{nodes_in, IsReady, Makes}
use Rattle.irtree_shape.proofs.Relinks.{worded-bounding}
use Rattle.irtree_insert.specs.Fits.{Fits}
use Rattle.irtree_insert.specs.Drafts.{IsDraft}
use Rattle.irtree_insert.specs.Grown.{beside_item}
use Rattle.irtree_insert.proofs.Loads.{inner-fits}
use Rattle.irtree_insert.proofs.put.add_child.Goals as goal

pub returns-clause-made : goal.returns-clause-made
returns-clause-made g c = λ least below free ready draft is.
    let old : PageMap = g.P.Pages.pages c.args.pages.now in
    let rows : ℕ = c.args.tree.now.rows in
    let before : View = view old rows (g.P.Pages.count c.args.pages.now) (g.P.Pages.first c.args.pages.now) free in
    let x : Item = beside_item c.args.more.now in
    let page : ℕ = c.args.page in
    let bytes : List ℕ = c.args.draft.now.bytes in
    let words : List (ℕ × ℕ) = c.args.words.now in
    let away : x.to ≡ page → ⊥ = λ e. let o = ready.once page in let p = one_at-same page in let q : one_at x.to page ≡ one_at page page = ap (λ (m : ℕ). one_at m page) e in omega arith in
    let same = ap (worded (impact_in words)) c.slot.ensures.item ∙ worded-bounding node_of old rows (impact_in words) x is (ready.blank x.to away) in
    let new : PageMap = g.P.Pages.pages c.add.new.pages in
    let rise : ℕ → Type 0 = Rises ((goal.SplitPolicy-dyn g c.args.policy.now).count c.args.policy.now.1) ((goal.SplitPolicy-dyn g (c.args.policy.now.0, c.add.new.policy)).count c.add.new.policy) in
    let Claim : Item → Type 0 = λ y. IsReady node_of before least (suc below) page (joined (node_of bytes) (bytes_in old rows page)) (Some y) → IsDraft c.args.draft.now → Fits (suc below) c.slot.result
    → IfOk c.add.result (λ h. Makes node_of before new c.add.new.tree.rows (g.P.Pages.count c.add.new.pages) (g.P.Pages.first c.add.new.pages) least (suc below) page (words_on (bytes_in old rows page) (slots_in bytes)) (Some y)
    (bounding_child_in (nodes_in node_of new c.add.new.tree.rows) (option_map beside_item h.more)) (reach_of h.rect) rise) in
    subst Claim same (c.add.ensures.made least (suc below) free) ready draft (c.slot.ensures.child ∙ inner-fits (suc below) below refl)

pub returns-clause-no_false_damage : goal.returns-clause-no_false_damage
returns-clause-no_false_damage g c = λ least below free ready draft is told.
    let old : PageMap = g.P.Pages.pages c.args.pages.now in
    let rows : ℕ = c.args.tree.now.rows in
    let before : View = view old rows (g.P.Pages.count c.args.pages.now) (g.P.Pages.first c.args.pages.now) free in
    let x : Item = beside_item c.args.more.now in
    let page : ℕ = c.args.page in
    let bytes : List ℕ = c.args.draft.now.bytes in
    let words : List (ℕ × ℕ) = c.args.words.now in
    let away : x.to ≡ page → ⊥ = λ e. let o = ready.once page in let p = one_at-same page in let q : one_at x.to page ≡ one_at page page = ap (λ (m : ℕ). one_at m page) e in omega arith in
    let same = ap (worded (impact_in words)) c.slot.ensures.item ∙ worded-bounding node_of old rows (impact_in words) x is (ready.blank x.to away) in
    let Claim : Item → Type 0 = λ y. IsReady node_of before least (suc below) page (joined (node_of bytes) (bytes_in old rows page)) (Some y) → IsDraft c.args.draft.now → Fits (suc below) c.slot.result
    → AreReadable old (g.P.Pages.count c.args.pages.now) → (damage : Damage) → c.add.result ≢ Err (Damaged damage) in
    subst Claim same (c.add.ensures.no_false_damage least (suc below) free) ready draft (c.slot.ensures.child ∙ inner-fits (suc below) below refl) told
