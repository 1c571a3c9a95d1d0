-- Which nodes a query over tables and a tree opened.
use Rattle.std.specs.Prelude.{◌≡◌, ◌⊎◌, ℕ, ◌<◌, List, Option, None}
use Rattle.page_face.specs.FreeList.{PageMap}
use Rattle.spatial_base.specs.Point.{Viewpoint, seen_from}
use Rattle.btree_nodes.specs.Tree.{map_uses}
use Rattle.place_values.specs.declared.hit.Hit.{Hit}
use Rattle.place_values.specs.declared.query.Chosen.{Chosen}
use Rattle.place_values.specs.declared.query.Query.{Query}
use Rattle.place_values.specs.declared.query.Query.TheVariants.{Rare, Group, Gather}
use Rattle.place_values.specs.Answer.{asked_of}
use Rattle.place_values.specs.State.{Contents}
use Rattle.rtree_nodes.specs.Stock.{rows_form}
use Rattle.rtree_nodes.specs.Pages.{node_of}
use Rattle.node_rows.specs.declared.roots.Tree.{Tree}
use Rattle.irtree_shape.specs.Made.{nodes_in}
use Rattle.store_tables.specs.declared.tables.Tables.{Tables}
use Rattle.store_tables.specs.Entries.{Entries}
use Rattle.store_tables.specs.Holding.{Holds, numbers_form, texts_form}
use Rattle.node_filter.specs.Numbers.{Numbers}
use Rattle.boolean_queries.specs.Logs.{OpensFew}
use Rattle.boolean_queries.specs.Words.{OpensFewForWords}
use Rattle.collective_query.specs.Opened.{given_to, picks_in}
use Rattle.query_execution.specs.Answers.{hits_by}
use Rattle.query_execution.specs.Asked.{AreKnown, asked_in}

-- a page of the rows' map of a tree
abbrev pub IsRowsPage : PageMap → Tree → ℕ → Type 0
IsRowsPage pages tree page = 0 < map_uses rows_form pages tree.rows page

-- a page of the words by text
abbrev pub IsTextsPage : PageMap → Tables → ℕ → Type 0
IsTextsPage pages tables page = 0 < map_uses texts_form pages tables.texts page

-- how often a page is one of the words by number: a query by rarity asks for these, and no other query
abbrev pub count_uses : PageMap → Tables → Query → ℕ → ℕ
count_uses pages tables (Rare at scale k alpha reach words) = map_uses numbers_form pages tables.numbers
count_uses pages tables _ = λ page. 0

-- a page that a query may ask for beside the nodes of the tree: of the words by text, of the words by number, or of the tree's rows
abbrev pub IsBesidePage : PageMap → Tables → Tree → Query → ℕ → Type 0
IsBesidePage pages tables tree query page = IsTextsPage pages tables page ⊎ (0 < count_uses pages tables query page) ⊎ IsRowsPage pages tree page

-- Few nodes of a tree were opened, where its words have these numbers: beside them pages of this kind alone were asked for.
abbrev pub FewOpened : (ℕ → Type 0) → PageMap → Tree → Numbers → Query → List ℕ → List ℕ → List Hit → Type 0
FewOpened beside pages tree ids query old new found = OpensFew beside (hits_by ids query) ids query (nodes_in node_of pages tree.rows) tree.root old new found

-- Few nodes were opened for a query as it is asked of a state, each of whose words has the number that the words by text have for it. Beside the
-- nodes pages of the words by text and of the tree's rows were asked for, for a query by rarity those of the words by number, and no others.
pub record AreFewOpened (pages : PageMap) (tables : Tables) (tree : Tree) (state : Contents) (query : Query) (old new : List ℕ) (found : List Hit) : Type 0 where
  pub entries : Entries
  pub holds : Holds pages tables entries
  pub ids : Numbers
  pub known : AreKnown ids entries.texts (asked_in query)
  pub few : FewOpened (IsBesidePage pages tables tree query) pages tree ids (asked_of state query) old new found

-- Few nodes of a tree were opened for the words of a group or gather query, where these words have these numbers: beside them pages of this kind alone were
-- asked for; and each place of the choice, where there is one, is an item of a leaf that was asked for.
abbrev pub FewOpenedForGroup : (ℕ → Type 0) → PageMap → Tree → Numbers → Viewpoint → List (List ℕ) → List ℕ → List ℕ → Option Chosen → Type 0
FewOpenedForGroup beside pages tree ids at words old new chosen = OpensFewForWords beside (given_to ids at) ids words (nodes_in node_of pages tree.rows) tree.root old new (picks_in chosen)

-- Few nodes were opened for a group or gather query, each of whose words has the number that the words by text have for it. Beside the nodes pages of the
-- words by text and of the tree's rows were asked for, and no others.
pub record AreFewOpenedForGroup (pages : PageMap) (tables : Tables) (tree : Tree) (at : Viewpoint) (words : List (List ℕ)) (old new : List ℕ) (chosen : Option Chosen) : Type 0 where
  pub entries : Entries
  pub holds : Holds pages tables entries
  pub ids : Numbers
  pub known : AreKnown ids entries.texts words
  pub few : FewOpenedForGroup (λ page. IsTextsPage pages tables page ⊎ IsRowsPage pages tree page) pages tree ids at words old new chosen

-- Few nodes of a tree were opened for the words of a query that chooses a place for each; another query has no choice.
abbrev pub ChoosesByFew : PageMap → Tree → Numbers → Query → List ℕ → List ℕ → Option Chosen → Type 0
ChoosesByFew pages tree ids (Group at scale words) old new chosen = FewOpenedForGroup (IsRowsPage pages tree) pages tree ids (seen_from at scale) words old new chosen
ChoosesByFew pages tree ids (Gather at scale words) old new chosen = FewOpenedForGroup (IsRowsPage pages tree) pages tree ids (seen_from at scale) words old new chosen
ChoosesByFew pages tree ids _ old new chosen = chosen ≡ None

-- so it is with the words' numbers by text
abbrev pub IsChosenByFew : PageMap → Tables → Tree → Query → List ℕ → List ℕ → Option Chosen → Type 0
IsChosenByFew pages tables tree (Group at scale words) old new chosen = AreFewOpenedForGroup pages tables tree (seen_from at scale) words old new chosen
IsChosenByFew pages tables tree (Gather at scale words) old new chosen = AreFewOpenedForGroup pages tables tree (seen_from at scale) words old new chosen
IsChosenByFew pages tables tree _ old new chosen = chosen ≡ None
