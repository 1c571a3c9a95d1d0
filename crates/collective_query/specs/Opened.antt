-- Which nodes a group query opened, and where its picks are from.
use Rattle.std.specs.Prelude.{ℕ, ◌<◌, List, [], Option, Some, None}
use Rattle.page_face.specs.FreeList.{PageMap}
use Rattle.btree_nodes.specs.Tree.{map_uses}
use Rattle.spatial_base.specs.Point.{Viewpoint}
use Rattle.place_values.specs.declared.query.Pick.{Pick}
use Rattle.place_values.specs.declared.query.Chosen.{Chosen}
use Rattle.rtree_nodes.specs.Slots.{Item}
use Rattle.rtree_nodes.specs.Stock.{rows_form}
use Rattle.node_rows.specs.declared.roots.Tree.{Tree}
use Rattle.node_filter.specs.Numbers.{Numbers}
use Rattle.best_first.specs.Fits.{nodes_at}
use Rattle.boolean_queries.specs.Words.{OpensFewForWords}
use Rattle.collective_query.specs.TreePicks.{pick_item}

-- the picks of a choice, where there is one
abbrev pub picks_in : Option Chosen → List Pick
picks_in None = []
picks_in (Some chosen) = chosen.picks

-- what a place's item gives to the word of a pick
abbrev pub given_to : Numbers → Viewpoint → Pick → Item → List Pick
given_to ids at pick = pick_item ids at pick.word

-- Few nodes of a tree were opened for words, and beside them pages of its rows alone were asked for; and each pick is that of an item in a leaf
-- that was asked for.
abbrev pub FindsPicks : PageMap → Tree → Numbers → Viewpoint → List (List ℕ) → List ℕ → List ℕ → List Pick → Type 0
FindsPicks pages tree ids at words old new picks =
    OpensFewForWords (λ page. 0 < map_uses rows_form pages tree.rows page) (given_to ids at) ids words (nodes_at pages tree) tree.root old new picks
