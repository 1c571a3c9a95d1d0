-- The nearest places that are no farther than a limit.
use Rattle.std.proofs.Common.{◌≡◌, ℕ, ◌∙◌, List, Option, Some, None, take, refl, sym, ap}
use Rattle.std.specs.Borrow.{Bor}
use Rattle.std.specs.List.{flat_map}
use Rattle.page_face.specs.FreeList.{PageMap}
use Rattle.spatial_base.specs.Point.{Viewpoint, IsViewpoint}
use Rattle.place_values.specs.First.{first}
use Rattle.place_values.specs.Members.{SameMembers, ranked_same}
use Rattle.place_values.specs.declared.hit.Hit.{Hit}
use Rattle.place_values.specs.declared.query.Expr.{Expr}
use Rattle.place_values.specs.Hit.{comes_before, hits_linear}
use Rattle.node_rows.specs.declared.roots.Tree.{Tree}
use Rattle.node_rows.specs.Rows.{bytes_in}
use Rattle.node_filter.specs.Numbers.{Numbers}
use Rattle.node_filter.specs.Entries.{tree_places}
use Rattle.node_filter.specs.Hits.{near_item}
use Rattle.best_first.specs.declared.ask.Ask.{Ask}
use Rattle.best_first.specs.declared.ask.Ask.TheVariants.{Nearest}
use Rattle.best_first.specs.Asks.{filter_of, hits_for}
use Rattle.best_first.specs.Cuts.{affordable}
use Rattle.best_first.specs.Fits.{FitsTree, nodes_at}
use Rattle.best_first.specs.Leads.{leads}
use Rattle.best_first.specs.NodeOpenings.{opened_in, started_in}
use Rattle.best_first.specs.Laws.{fits-members}
use Rattle.best_first.proofs.Limits.{within, affordable-weight}
use Rattle.boolean_queries.specs.Opens.{filter_in}

-- the filter that is lent is one and the same to a search and to a walk
pub same-filter : (filter : Option (Bor Expr)) → filter_of filter ≡ filter_in filter
same-filter None = refl
same-filter (Some lent) = refl

-- of the same hits the same are affordable
same-affordable : (limit : Option ℕ) (xs ys : List Hit) → SameMembers xs ys → SameMembers (affordable limit xs) (affordable limit ys)
same-affordable limit xs ys same = λ w. affordable-weight limit w ys ∙ same (within limit w) ∙ sym (affordable-weight limit w xs)

-- the first k of a nearest query's hits within a limit
pub near-within : (limit : Option ℕ) (k : ℕ) (pages : PageMap) (count begin : ℕ) (told tree : Tree) (known ids : Numbers) (from at : Viewpoint) (filter : Option (Bor Expr)) (ask : Ask) → IsViewpoint from → FitsTree pages count begin told
    → told ≡ tree → known ≡ ids → from ≡ at → ask ≡ Nearest filter
    → first comes_before k (affordable limit (leads (opened_in known from ask (nodes_at pages told)) (started_in known ask (nodes_at pages told) (bytes_in pages told.rows) told.root)))
    ≡ first comes_before k (affordable limit (flat_map (near_item ids at (filter_of filter)) (tree_places (nodes_at pages tree) tree.root)))
near-within limit k pages count begin told tree known ids from at filter ask on fits t n p is =
    let led : List Hit = leads (opened_in known from ask (nodes_at pages told)) (started_in known ask (nodes_at pages told) (bytes_in pages told.rows) told.root) in
    let all : List Hit = flat_map (hits_for known from ask) (tree_places (nodes_at pages told) told.root) in
    ap (λ (hits : List Hit). take k hits) (ranked_same hits_linear (affordable limit all) (affordable limit led) (same-affordable limit all led (fits-members pages count begin told known from ask on fits)))
    ∙ ap (λ (a : Ask). first comes_before k (affordable limit (flat_map (hits_for known from a) (tree_places (nodes_at pages told) told.root)))) is
    ∙ (λ i. first comes_before k (affordable limit (flat_map (near_item (n i) (p i) (filter_of filter)) (tree_places (nodes_at pages (t i)) (t i).root))))
