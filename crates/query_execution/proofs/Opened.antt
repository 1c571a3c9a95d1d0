-- Few nodes are opened for each kind of query.
use Rattle.std.proofs.Common.{◌≡◌, ◌⊎◌, ℕ, ◌<◌, List, Option, Some, None, Result, Ok, Err, refl, subst}
use Rattle.std.specs.Borrow.{Bor}
use Rattle.std.specs.Option.{option_copied}
use Rattle.std.specs.Prelude.{IfOk}
use Rattle.page_face.specs.declared.fault.PageFault.{PageFault}
use Rattle.place_values.specs.declared.query.Expr.{Expr}
use Rattle.boolean_queries.specs.Opens.{filter_in}
use Rattle.boolean_queries.proofs.Behinds.{few-behind}
use Rattle.boolean_queries.proofs.Words.{few-behind-words}
use Rattle.btree_nodes.specs.Damages.{AsksOnly}
use Rattle.btree_nodes.specs.Tree.{map_uses}
use Rattle.collective_query.specs.Opened.{given_to, picks_in}
use Rattle.irtree_shape.specs.Made.{nodes_in}
use Rattle.node_filter.specs.Numbers.{Numbers}
use Rattle.node_rows.specs.declared.roots.Tree.{Tree}
use Rattle.page_face.specs.FreeList.{PageMap}
use Rattle.place_values.specs.Answer.{asked_of}
use Rattle.place_values.specs.State.{Contents}
use Rattle.place_values.specs.declared.hit.Hit.{Hit}
use Rattle.place_values.specs.declared.query.Chosen.{Chosen}
use Rattle.place_values.specs.declared.query.Query.{Query}
use Rattle.place_values.specs.declared.query.Query.TheVariants.{Range, Inside, Nearest, Top, Rare, Group, Gather}
use Rattle.rtree_nodes.specs.Pages.{node_of}
use Rattle.spatial_base.specs.Point.{Viewpoint, seen_from}
use Rattle.store_tables.specs.Entries.{Entries}
use Rattle.store_tables.specs.Holding.{Holds, texts_form}
use Rattle.store_tables.specs.declared.tables.Tables.{Tables}
use Rattle.query_execution.specs.Answers.{hits_by}
use Rattle.query_execution.specs.Asked.{AreKnown, asked_in}
use Rattle.query_execution.specs.Opened.{AreFewOpened, AreFewOpenedForGroup, ChoosesByFew, FewOpened, FewOpenedForGroup, IsBesidePage, IsChosenByFew, IsRowsPage, IsTextsPage, count_uses}

-- what follows from two facts of a result
pub ok-both : {X : Type 0} (r : Result X PageFault) (P Q R : X → Type 0) → ((x : X) → P x → Q x → R x) → IfOk r P → IfOk r Q → IfOk r R
ok-both (Ok x) P Q R f p q = f x p q
ok-both (Err fault) P Q R f p q = tt

-- a filter that is lent is the filter
pub lent-filter : (lent : Option (Bor Expr)) → filter_in lent ≡ option_copied lent
lent-filter None = refl
lent-filter (Some filter) = refl

module _ (pages : PageMap) (tables : Tables) (tree : Tree) (entries : Entries) (holds : Holds pages tables entries) (ids : Numbers) (before between : List ℕ) (own : AsksOnly (map_uses texts_form pages tables.texts) before between) where
  -- behind the words by text, and for a query by rarity the words by number, few nodes were opened for the query as it is asked
  pub hits-behind : (state : Contents) (query asked : Query) → AreKnown ids entries.texts (asked_in query) → asked ≡ asked_of state query → (later after : List ℕ) (found : List Hit)
      → AsksOnly (count_uses pages tables query) between later → FewOpened (IsRowsPage pages tree) pages tree ids asked later after found → AreFewOpened pages tables tree state query before after found
  hits-behind state query asked known is later after found counts few = record {
    entries = entries;
    holds = holds;
    ids = ids;
    known = known;
    few =
        subst (λ (q : Query). FewOpened (IsBesidePage pages tables tree query) pages tree ids q before after found) is
        (few-behind (IsTextsPage pages tables) (λ page. (0 < count_uses pages tables query page) ⊎ IsRowsPage pages tree page) (hits_by ids asked) ids asked (nodes_in node_of pages tree.rows) tree.root before between after own.more found own.is own.own
        (few-behind (λ page. 0 < count_uses pages tables query page) (IsRowsPage pages tree) (hits_by ids asked) ids asked (nodes_in node_of pages tree.rows) tree.root between later after counts.more found counts.is counts.own few));
  }

  -- behind the words by text, few nodes were opened for words
  words-behind : (at : Viewpoint) (words : List (List ℕ)) → AreKnown ids entries.texts words → (after : List ℕ) (chosen : Option Chosen)
      → FewOpenedForGroup (IsRowsPage pages tree) pages tree ids at words between after chosen → AreFewOpenedForGroup pages tables tree at words before after chosen
  words-behind at words known after chosen few = record {
    entries = entries;
    holds = holds;
    ids = ids;
    known = known;
    few = few-behind-words (IsTextsPage pages tables) (IsRowsPage pages tree) (given_to ids at) ids words (nodes_in node_of pages tree.rows) tree.root before between after own.more (picks_in chosen) own.is own.own few;
  }

  -- and so for a query that chooses a place for each
  pub choice-behind : (query : Query) → AreKnown ids entries.texts (asked_in query) → (after : List ℕ) (chosen : Option Chosen)
      → ChoosesByFew pages tree ids query between after chosen → IsChosenByFew pages tables tree query before after chosen
  choice-behind (Group at scale words) known after chosen few = words-behind (seen_from at scale) words known after chosen few
  choice-behind (Gather at scale words) known after chosen few = words-behind (seen_from at scale) words known after chosen few
  choice-behind (Range at scale radius filter) known after chosen few = few
  choice-behind (Inside rect filter) known after chosen few = few
  choice-behind (Nearest at scale k filter) known after chosen few = few
  choice-behind (Top at scale k alpha reach words) known after chosen few = few
  choice-behind (Rare at scale k alpha reach words) known after chosen few = few
