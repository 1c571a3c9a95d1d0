use Rattle.std.proofs.Common.{◌≡◌, take}
use Rattle.std.specs.Prelude.{IfSome}
use Rattle.std.specs.List.{All}
use Rattle.btree_nodes.specs.Nodes.{rows_in}
use Rattle.btree_nodes.specs.Rows.{Row}
use Rattle.page_walks.specs.Met.{held}
use Rattle.rtree_nodes.specs.Stock.{rows_form}
use Rattle.tree_check.specs.Names.{IsNamed}
use Rattle.tree_check.proofs.rows.stray_in.Given as goal

abbrev pub invariant-loop-at : goal.invariant-loop-at
invariant-loop-at l = record {
  last : IfSome l.last (λ n. held l.nodes n ≡ 1);
  named : All (λ (row : Row). IsNamed (held l.nodes) row.0 row.1) (take l.at (rows_in rows_form l.page));
}
