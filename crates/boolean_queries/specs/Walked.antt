-- Which nodes a walk opened.
use Rattle.std.specs.Prelude.{◌≡◌, ◌⊎◌, ℕ, ◌<◌, true, List, ◌∷◌, ◌++◌, length, Some}
use Rattle.std.specs.List.{AllByRecursion, Contains}
use Rattle.page_face.specs.FreeList.{PageMap}
use Rattle.btree_nodes.specs.Damages.{AskedSince}
use Rattle.place_values.specs.declared.hit.Hit.{Hit}
use Rattle.rtree_nodes.specs.Slots.{Item}
use Rattle.rtree_nodes.specs.Pages.{level_in, stored_in}
use Rattle.best_first.specs.declared.item.Item as best
use Rattle.best_first.specs.Items.{IsGivenAt, IsRootAlone}
use Rattle.best_first.specs.Openings.{Opening, pages_opened, IsTrail, IsFromLeaf}
use Rattle.boolean_queries.specs.declared.region.Region.{Region}
use Rattle.boolean_queries.specs.Near.{touches, given}

-- the item is that of a slot in these bytes of a node's page of this level, and touches the region
pub record Stood (region : Region) (bytes : List ℕ) (level : ℕ) (item : best.Item) : Type 0 where
  pub level_is : level_in bytes ≡ level
  pub at : ℕ
  pub slot : Item
  pub is : stored_in bytes at ≡ Some slot
  pub met : touches region level slot ≡ true
  pub item_is : item ≡ given region level slot

-- so it is, if the bytes are told
abbrev pub Stands : Region → List ℕ → ℕ → best.Item → Type 0
Stands region bytes level item = 0 < length bytes → Stood region bytes level item

-- pages were asked for: these nodes, and pages of the rows' map alone
pub record AsksFor (nodes : List ℕ) (mine : ℕ → ℕ) (old new : List ℕ) : Type 0 where
  pub more : List ℕ
  pub log : new ≡ old ++ more
  pub alone : AllByRecursion (λ page. Contains nodes page ⊎ (0 < mine page)) more

-- What is told of a walk's openings: `opens` and `starts` are what each node gives and where the walk starts, where the tree is as it has to be.
pub record Walked (region : Region) (pages : PageMap) (mine : ℕ → ℕ) (fits : Type 0) (opens : ℕ → ℕ → List best.Item) (starts : List best.Item) (root : ℕ) (old_log new_log : List ℕ) (found : List Hit) : Type 0 where
  -- the root, or nothing
  pub start : List best.Item
  pub alone : IsRootAlone root start
  pub begun : fits → start ≡ starts
  -- the nodes that were opened, each one given before
  pub openings : List Opening
  pub trail : IsTrail start openings
  -- what each gave: by its page's bytes, by its level, and by the tree
  pub stood : AllByRecursion (λ (o : Opening). AllByRecursion (Stands region (pages o.page) o.level) o.items) openings
  pub children : AllByRecursion (λ (o : Opening). AllByRecursion (IsGivenAt o.level) o.items) openings
  pub gave : fits → AllByRecursion (λ (o : Opening). o.items ≡ opens o.page o.level) openings
  -- each opened page was asked for, and no other page but the root and those of the rows' map
  pub read : AllByRecursion (λ (o : Opening). AskedSince old_log new_log o.page) openings
  pub log : AsksFor (root ∷ pages_opened openings) mine old_log new_log
  -- each place found was given by an opened leaf
  pub from_leaf : AllByRecursion (IsFromLeaf openings) found
