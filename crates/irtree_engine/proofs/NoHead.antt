-- Damage that a change or a look finds is of another rule than Head, which is page 0's own.
use Rattle.std.proofs.Common.{◌≢◌, inr, ⊎_elim, ℕ, ◌<◌, List, Option, Some, None, ap}
use Rattle.std.specs.Prelude.{MatchOption}
use Rattle.page_face.specs.FreeList.{PageMap}
use Rattle.page_face.specs.declared.fault.Damage.{Damage}
use Rattle.page_face.specs.declared.fault.Rule.TheVariants.{Head}
use Rattle.btree_nodes.specs.Damages.{AreReadable}
use Rattle.node_rows.specs.declared.roots.Tree.{Tree}
use Rattle.rtree_nodes.specs.Stock.{rows_form}
use Rattle.irtree_shape.specs.Damages.{IsTreeHarm}
use Rattle.spatial_base.specs.Key.{Name}
use Rattle.spatial_base.specs.Point.{Position}
use Rattle.row_codec.specs.declared.stored.Stored.{Stored}
use Rattle.store_tables.specs.declared.tables.Tables.{Tables}
use Rattle.store_tables.specs.Holding.{texts_form}
use Rattle.store_tables.proofs.Heads.{map-spares_head, number-spares_head, place-spares_head, put-spares_head, words-spares_head}
use Rattle.irtree_shape.specs.Regrown.{IsMissing}
use Rattle.place_values.specs.declared.query.Query.{Query}
use Rattle.place_values.specs.declared.query.Query.TheVariants.{Range, Inside, Nearest, Top, Rare, Group, Gather}
use Rattle.collective_query.specs.Searches.{IsSearchHarm}
use Rattle.query_execution.specs.Damages.{IsHitsHarm, IsWeighingHarm}
use Rattle.irtree_engine.specs.Damages.{IsShownDamage}

-- that of a change of a tree, where the counted pages are told
pub tree-spares_head : (pages : PageMap) (count first rows : ℕ) (before after : List ℕ) (damage : Damage) → AreReadable pages count → first < count → IsTreeHarm pages count first rows before after damage → damage.rule ≢ Head
tree-spares_head pages count first rows before after damage told counted harm e =
    ⊎_elim
    (λ node. ⊎_elim (λ alone. (rw e at alone)) (λ below. (let is = below.0 in cc)) node.breaks)
    (λ change. ⊎_elim (λ map. map-spares_head rows_form pages count rows damage map.0 e) (λ take. put-spares_head rows_form pages count rows pages count first before after damage told counted (inr take) e) change)
    harm

-- that of an entry that is missing
pub missing-spares_head : (pages : PageMap) (rows count first root : ℕ) (key : Name) (point : Position) (damage : Damage) → IsMissing pages rows count first root key point damage → damage.rule ≢ Head
missing-spares_head pages rows count first root key point damage missing e = let is = ap (λ (d : Damage). d.rule) missing.named in cc

-- and where an old place's is
pub old-spares_head : (old : Option Stored) (pages : PageMap) (rows count first root : ℕ) (key : Name) (damage : Damage) → MatchOption old ⊥ (λ stored. IsMissing pages rows count first root key stored.point damage) → damage.rule ≢ Head
old-spares_head None pages rows count first root key damage missing = absurd missing
old-spares_head (Some stored) pages rows count first root key damage missing = missing-spares_head pages rows count first root key stored.point damage missing

-- that of a search of the tree
search-spares_head : (pages : PageMap) (count : ℕ) (tree : Tree) (before after : List ℕ) (damage : Damage) → IsSearchHarm pages count tree before after damage → damage.rule ≢ Head
search-spares_head pages count tree before after damage harm e =
    ⊎_elim
    (λ query. ⊎_elim
    (λ node. ⊎_elim (λ alone. (rw e at alone)) (λ wrong. (let is = wrong.0 in cc)) node.breaks)
    (λ map. map-spares_head rows_form pages count tree.rows damage map.0 e)
    query)
    (λ ranked. ⊎_elim
    (λ node. ⊎_elim (λ alone. (rw e at alone)) (λ below. (let is = below.0 in cc)) node)
    (λ map. map-spares_head rows_form pages count tree.rows damage map e)
    ranked.1)
    harm

-- that of words that are weighed
weighing-spares_head : (pages : PageMap) (count live : ℕ) (tables : Tables) (query : Query) (before after : List ℕ) (damage : Damage) → IsWeighingHarm pages count live tables query before after damage → damage.rule ≢ Head
weighing-spares_head pages count live tables (Rare at scale k alpha reach words) before after damage harm e =
    ⊎_elim (λ number. number-spares_head pages count tables.numbers number.0 before after damage number.1 e) (λ over. words-spares_head damage over.0 e) harm
weighing-spares_head pages count live tables (Range at scale radius filter) before after damage harm e = absurd harm
weighing-spares_head pages count live tables (Inside rect filter) before after damage harm e = absurd harm
weighing-spares_head pages count live tables (Nearest at scale k filter) before after damage harm e = absurd harm
weighing-spares_head pages count live tables (Top at scale k alpha reach words) before after damage harm e = absurd harm
weighing-spares_head pages count live tables (Group at scale words) before after damage harm e = absurd harm
weighing-spares_head pages count live tables (Gather at scale words) before after damage harm e = absurd harm

-- that of an answer to a query
pub answer-spares_head : (pages : PageMap) (count live : ℕ) (tables : Tables) (tree : Tree) (query : Query) (before after : List ℕ) (damage : Damage) → IsHitsHarm pages count live tables tree query before after damage → damage.rule ≢ Head
answer-spares_head pages count live tables tree query before after damage harm e =
    ⊎_elim
    (λ text. map-spares_head texts_form pages count tables.texts damage text.0 e)
    (λ behind. ⊎_elim
    (λ weighing. weighing-spares_head pages count live tables query behind.0 after damage weighing e)
    (λ later. search-spares_head pages count tree later.0 after damage later.2 e)
    behind.2)
    harm

-- that of a look at a key
pub shown-spares_head : (pages : PageMap) (count : ℕ) (tables : Tables) (key : Name) (before after : List ℕ) (damage : Damage) → IsShownDamage pages count tables key before after damage → damage.rule ≢ Head
shown-spares_head pages count tables key before after damage shown e =
    ⊎_elim
    (λ place. place-spares_head pages count tables.places key before after damage place e)
    (λ held. ⊎_elim (λ number. number-spares_head pages count tables.numbers held.words.1.0 before after damage number e) (λ words. words-spares_head damage words.0 e) held.words.4)
    shown
