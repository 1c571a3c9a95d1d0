-- Which pages a search asks for.
use Rattle.std.proofs.Common.{ℕ, ◌<◌, List, [], ◌∷◌, sym, subst, arith}
use Rattle.std.specs.List.{Contains}
use Rattle.page_face.specs.FreeList.{PageMap}
use Rattle.btree_nodes.specs.Damages.{AsksOnly}
use Rattle.btree_nodes.specs.Supply.{one_at}
use Rattle.btree_nodes.specs.Tree.{map_uses}
use Rattle.btree_nodes.proofs.Supplies.{one_at-is}
use Rattle.rtree_nodes.specs.Stock.{rows_form}
use Rattle.best_first.specs.Openings.{AsksNodes}
use Rattle.best_first.specs.Lists.{all_weaker, all_in}
use Rattle.best_first.specs.Logs.{asks_then}
use Rattle.best_first.specs.Harms.{IsNodePage}

-- pages of the rows' map are no nodes
pub asks-rows : (pages : PageMap) (rows : ℕ) (ns old new : List ℕ) → AsksOnly (map_uses rows_form pages rows) old new → AsksNodes (IsNodePage pages rows) ns old new
asks-rows pages rows ns old new a = record {
  more = a.more;
  log = a.is;
  alone = all_weaker (λ n. 0 < map_uses rows_form pages rows n) (λ n. IsNodePage pages rows n → Contains ns n) (λ n used none. absurd (omega arith)) a.more a.own;
}

-- one page alone
pub asks-one : (pages : PageMap) (rows node : ℕ) (old new : List ℕ) → AsksOnly (one_at node) old new → AsksNodes (IsNodePage pages rows) (node ∷ []) old new
asks-one pages rows node old new a = record {
  more = a.more;
  log = a.is;
  alone = all_weaker (λ n. 0 < one_at node n) (λ n. IsNodePage pages rows n → Contains (node ∷ []) n) (λ n here none. subst (Contains (node ∷ [])) (sym (one_at-is node n here)) (all_in (node ∷ [])).0) a.more a.own;
}

-- rows, and then a node
pub asks-both : (pages : PageMap) (rows node : ℕ) (old mid new : List ℕ) → AsksOnly (map_uses rows_form pages rows) old mid → AsksOnly (one_at node) mid new → AsksNodes (IsNodePage pages rows) (node ∷ []) old new
asks-both pages rows node old mid new a b = asks_then (IsNodePage pages rows) (node ∷ []) old mid new (asks-rows pages rows (node ∷ []) old mid a) (asks-one pages rows node mid new b)
