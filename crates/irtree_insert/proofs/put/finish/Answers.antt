use Rattle.std.proofs.Common.{◌∙◌, ℕ, suc, subst, Some, option_map}
use Rattle.std.specs.Result.{IfOk}
use Rattle.page_face.specs.FreeList.{PageMap}
use Rattle.rtree_nodes.specs.Slots.{Item, Slots, NodeView}
use Rattle.rtree_nodes.specs.Trees.{with_slot}
use Rattle.rtree_nodes.specs.Stock.{View, view}
use Rattle.rtree_nodes.specs.Made.{Rises}
use Rattle.rtree_nodes.specs.Reach.{reach_of, child_item}
use Rattle.rtree_nodes.specs.Pages.{node_of, slots_in, level_in}
use Rattle.node_rows.specs.Rows.{bytes_in}
use Rattle.irtree_shape.specs.Words.{joined, words_on}
use Rattle.irtree_shape.specs.Steps.{bounding_child, bounding_child_in}
use Rattle.irtree_shape.specs.Made.{nodes_in, IsReady, Makes}
use Rattle.irtree_insert.specs.Grown.{beside_item}
use Rattle.irtree_insert.proofs.Loads.{inner-fits}
use Rattle.irtree_insert.proofs.Links.{link-node}
use Rattle.irtree_insert.proofs.Rises.{rises-none, made-rise}
use Rattle.irtree_insert.proofs.put.finish.Goals as goal

pub returns-in-Some-clause-made : goal.returns-in-Some-clause-made
returns-in-Some-clause-made g c = λ least below free draft level same child.
    let old : PageMap = g.P.Pages.pages c.args.pages.now in
    let rows : ℕ = c.args.tree.now.rows in
    let before : View = view old rows (g.P.Pages.count c.args.pages.now) (g.P.Pages.first c.args.pages.now) free in
    let t : Slots = with_slot c.args.at (child_item c.args.grown.now.rect c.args.child) (slots_in c.args.draft.now.bytes) in
    let x : Item = bounding_child (nodes_in node_of old rows) (beside_item c.in-Some.more) in
    let fits = inner-fits (level_in c.args.draft.now.bytes) below level in
    let next = c.put.ensures.draft draft fits in
    let t_is = c.put.ensures.slots draft fits in
    let node_is = link-node c.put.new.self.bytes t below next.form (c.put.ensures.level ∙ level) t_is in
    let new : PageMap = g.P.Pages.pages c.add_child.new.pages in
    let rise : ℕ → Type 0 = Rises ((goal.SplitPolicy-dyn g c.args.policy.now).count c.args.policy.now.1) ((goal.SplitPolicy-dyn g (c.args.policy.now.0, c.add_child.new.policy)).count c.add_child.new.policy) in
    rw c.in-Some.is (λ ready is.
    subst (λ (s : Slots). IfOk c.add_child.result (λ h. Makes node_of before new c.add_child.new.tree.rows (g.P.Pages.count c.add_child.new.pages) (g.P.Pages.first c.add_child.new.pages) least (suc below) c.args.page
    (words_on (bytes_in old rows c.args.page) s) (Some x) (bounding_child_in (nodes_in node_of new c.add_child.new.tree.rows) (option_map beside_item h.more)) (reach_of h.rect) rise)) t_is
    (c.add_child.ensures.made least below free (subst (λ (v : NodeView). IsReady node_of before least (suc below) c.args.page (joined v (bytes_in old rows c.args.page)) (Some x)) node_is ready) next is))

pub returns-in-Some-clause-no_false_damage : goal.returns-in-Some-clause-no_false_damage
returns-in-Some-clause-no_false_damage g c = λ least below free draft level same child.
    let old : PageMap = g.P.Pages.pages c.args.pages.now in
    let rows : ℕ = c.args.tree.now.rows in
    let before : View = view old rows (g.P.Pages.count c.args.pages.now) (g.P.Pages.first c.args.pages.now) free in
    let t : Slots = with_slot c.args.at (child_item c.args.grown.now.rect c.args.child) (slots_in c.args.draft.now.bytes) in
    let x : Item = bounding_child (nodes_in node_of old rows) (beside_item c.in-Some.more) in
    let fits = inner-fits (level_in c.args.draft.now.bytes) below level in
    let next = c.put.ensures.draft draft fits in
    let t_is = c.put.ensures.slots draft fits in
    let node_is = link-node c.put.new.self.bytes t below next.form (c.put.ensures.level ∙ level) t_is in
    rw c.in-Some.is (λ ready is told.
    c.add_child.ensures.no_false_damage least below free (subst (λ (v : NodeView). IsReady node_of before least (suc below) c.args.page (joined v (bytes_in old rows c.args.page)) (Some x)) node_is ready) next is told)

pub returns-in_ok-rect-in-None-clause-made : goal.returns-in_ok-rect-in-None-clause-made
returns-in_ok-rect-in-None-clause-made g c = λ least below free draft level same child.
    rw c.in-None.is (λ ready is. made-rise (λ n e. rises-none _ n e) (c.in_ok-rect-in-None.ensures.made least below c.args.tree.now.rows free draft level same child ready))
