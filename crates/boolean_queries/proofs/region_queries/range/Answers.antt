use Rattle.std.proofs.Common.{◌≡◌, subst}
use Rattle.std.specs.Prelude.{IfOk}
use Rattle.std.specs.List.{flat_map}
use Rattle.page_face.specs.FreeList.{PageMap}
use Rattle.btree_nodes.specs.Tree.{map_uses}
use Rattle.spatial_base.specs.Point.{Viewpoint}
use Rattle.place_values.specs.First.{ranked}
use Rattle.place_values.specs.Hit.{comes_before}
use Rattle.rtree_nodes.specs.Stock.{rows_form}
use Rattle.rtree_nodes.specs.Slots.{NodeMap}
use Rattle.rtree_nodes.specs.Pages.{node_of}
use Rattle.irtree_shape.specs.Made.{nodes_in}
use Rattle.node_filter.specs.Entries.{tree_places}
use Rattle.node_filter.specs.Hits.{range_item}
use Rattle.boolean_queries.specs.declared.region.Region.TheVariants.{Within}
use Rattle.boolean_queries.specs.Opens.{Fits, filter_in, opens_in, starts_at}
use Rattle.boolean_queries.specs.Walked.{Walked}
use Rattle.boolean_queries.proofs.region_queries.range.Goals as goal

pub returns-clause-found : goal.returns-clause-found
returns-clause-found g c = λ free whole.
    let nodes : NodeMap = nodes_in node_of (g.P.Pages.pages c.args.pages.now) c.args.tree.now.rows in
    subst (λ (from : Viewpoint). IfOk c.walk.result (λ found.
    found.items ≡ ranked comes_before (flat_map (range_item c.args.ids.now from c.args.radius (filter_in c.args.filter)) (tree_places nodes c.args.tree.now.root))))
    c.at-at.ensures
    (c.walk.ensures.found c.point-point.ensures.valid (free, whole))

pub returns-clause-opened : goal.returns-clause-opened
returns-clause-opened g c = λ readable.
    let P = g.P.Pages in
    let pages : PageMap = P.pages c.args.pages.now in
    let tree = c.args.tree.now in
    let nodes : NodeMap = nodes_in node_of pages tree.rows in
    subst (λ (from : Viewpoint). IfOk c.walk.result (λ found.
    Walked (Within from c.args.radius) pages (map_uses rows_form pages tree.rows) (Fits pages tree.rows (P.count c.args.pages.now) (P.first c.args.pages.now) tree.root)
    (opens_in (Within from c.args.radius) c.args.ids.now (filter_in c.args.filter) nodes) (starts_at nodes tree.root) tree.root (P.asked c.args.pages.now) (P.asked c.walk.new.pages) found.items))
    c.at-at.ensures
    (c.walk.ensures.walked readable)

pub returns-clause-no_false_damage : goal.returns-clause-no_false_damage
returns-clause-no_false_damage g c = λ free whole. c.walk.ensures.no_false_damage (free, whole)
