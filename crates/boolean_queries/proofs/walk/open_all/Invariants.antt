use Rattle.std.proofs.Common.{◌≡◌, ◌∷◌, []}
use Rattle.std.specs.List.{AllByRecursion}
use Rattle.page_face.specs.Calls.{Reads}
use Rattle.btree_nodes.specs.Damages.{AreReadable}
use Rattle.btree_nodes.specs.Tree.{map_uses}
use Rattle.rtree_nodes.specs.Stock.{rows_form}
use Rattle.rtree_nodes.specs.Pages.{node_of}
use Rattle.irtree_shape.specs.Made.{nodes_in}
use Rattle.best_first.specs.declared.item.Item.TheVariants.{Node}
use Rattle.best_first.specs.Leads.{leads}
use Rattle.best_first.proofs.Steps.{work}
use Rattle.boolean_queries.specs.Waiting.{waits}
use Rattle.boolean_queries.specs.Opens.{IsGood, filter_in, opens_in}
use Rattle.boolean_queries.proofs.Walks.{Walking}
use Rattle.boolean_queries.proofs.Histories.{Underway}
use Rattle.boolean_queries.proofs.Subtrees.{IsSound}
use Rattle.boolean_queries.proofs.walk.open_all.Given as goal

-- each step opens a node, whose children have one level less
abbrev pub decreases-walk : goal.decreases-walk
decreases-walk g l = work (waits l.waiting.items)

abbrev pub invariant-walk : goal.invariant-walk
invariant-walk g l =
    let p = g.P.Pages in
    let nodes = nodes_in node_of (p.pages l.fn.pages) l.tree.rows in
    let opens = opens_in l.query.region l.query.ids.now (filter_in l.query.filter) nodes in
    let good = IsGood (p.pages l.fn.pages) l.tree.rows (p.count l.fn.pages) l.level l.tree.root in
    record {
      frame : Reads p l.fn.pages l.pages;
      faults : p.faults l.pages ≡ p.faults l.fn.pages;
      search : good → Walking opens (leads opens (Node l.tree.root l.level 0 ∷ [])) l.found.items (waits l.waiting.items);
      sound : good → AllByRecursion (IsSound nodes (p.count l.fn.pages)) (waits l.waiting.items);
      history : AreReadable (p.pages l.fn.pages) (p.count l.fn.pages) → Underway l.query.region (p.pages l.fn.pages) (map_uses rows_form (p.pages l.fn.pages) l.tree.rows) good opens l.tree.root l.level (p.asked l.fn.pages) (p.asked l.pages) l.found.items (waits l.waiting.items);
    }
