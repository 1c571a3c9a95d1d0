-- What a query asks for, how its answer was found, and which reads it took.
use Rattle.std.specs.Prelude.{◌≡◌, ℕ, List, [], ◌++◌}
use Rattle.std.specs.List.{AllByRecursion}
use Rattle.disk_model.specs.World.{World, Image, Range}
use Rattle.page_face.specs.FreeList.{PageMap}
use Rattle.page_journal.specs.Record.{applied}
use Rattle.page_store.specs.Contents as stores
use Rattle.page_store.specs.Store.{IsReadOf}
use Rattle.page_store.specs.declared.superblock.Superblock.{Superblock}
use Rattle.spatial_base.specs.Point.{seen_from}
use Rattle.place_values.specs.Answer.{answer_of}
use Rattle.place_values.specs.State.{Contents}
use Rattle.place_values.specs.declared.query.Query.{Query}
use Rattle.place_values.specs.declared.query.Query.TheVariants as queries
use Rattle.place_values.specs.declared.query.Answer.{Answer}
use Rattle.place_values.specs.declared.query.Answer.TheVariants.{Hits, Group}
use Rattle.store_model.specs.Stands.{tables_in}
use Rattle.query_execution.specs.Opened.{AreFewOpened, AreFewOpenedForGroup}
use Rattle.irtree_engine.specs.Changes.{tree_in}

-- the query asks for a place for each word
abbrev pub AsksForChoice : Query → Type 0
AsksForChoice (queries.Group at scale words) = Unit {0}
AsksForChoice (queries.Gather at scale words) = Unit {0}
AsksForChoice _ = ⊥

-- the query asks for hits: it is of another kind
abbrev pub AsksForHits : Query → Type 0
AsksForHits (queries.Group at scale words) = ⊥
AsksForHits (queries.Gather at scale words) = ⊥
AsksForHits _ = Unit {0}

-- Few nodes were opened for an answer in a state, with the pages asked for before and after: of hits and of a choice, each as its query's kind says it.
abbrev pub IsFoundByFew : PageMap → Superblock → Contents → Query → List ℕ → List ℕ → Answer → Type 0
IsFoundByFew pages block state query before after (Hits hits) = AreFewOpened pages (tables_in block.head) (tree_in block.head) state query before after hits
IsFoundByFew pages block state (queries.Group at scale words) before after (Group chosen) = AreFewOpenedForGroup pages (tables_in block.head) (tree_in block.head) (seen_from at scale) words before after chosen
IsFoundByFew pages block state (queries.Gather at scale words) before after (Group chosen) = AreFewOpenedForGroup pages (tables_in block.head) (tree_in block.head) (seen_from at scale) words before after chosen
IsFoundByFew pages block state _ before after (Group chosen) = ⊥

-- what an image holds, with its journal applied: page 0's fields and the pages counted
abbrev pub contents_held : Image → stores.Contents
contents_held image = stores.contents_in (applied image)

-- The read is of a page in a log by which the query's answer was found with few nodes opened.
pub record IsReadForQuery (held : stores.Contents) (state : Contents) (query : Query) (range : Range) : Type 0 where
  pub asked : List ℕ
  pub few : IsFoundByFew held.pages held.block state query [] asked (answer_of state query)
  pub page : IsReadOf asked range

-- each read taken from old to new has P
pub record EachRead (P : Range → Type 0) (old new : World) : Type 0 where
  pub taken : List Range
  pub are : new.reads ≡ old.reads ++ taken
  pub each : AllByRecursion P taken
