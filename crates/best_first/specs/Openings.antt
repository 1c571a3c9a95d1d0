-- Which nodes a search opened, and what the opener gave.
use Rattle.std.specs.Prelude.{◌≡◌, ℕ, ◌≤◌, List, [], ◌∷◌, ◌++◌, length, map, sum_by, nat_lt, if◌then◌else◌}
use Rattle.std.specs.List.{AllByRecursion, Contains}
use Rattle.page_face.specs.FreeList.{PageMap}
use Rattle.btree_nodes.specs.Damages.{AskedSince}
use Rattle.place_values.specs.declared.hit.Hit.{Hit}
use Rattle.best_first.specs.declared.item.Item.{Item}
use Rattle.best_first.specs.declared.item.Item.TheVariants.{Node, Place}
use Rattle.best_first.specs.Items.{IsGivenAt, IsRootAlone, pages_of}

-- pages were asked for, and of those that are nodes these alone
pub record AsksNodes (is_node : ℕ → Type 0) (nodes old new : List ℕ) : Type 0 where
  pub more : List ℕ
  pub log : new ≡ old ++ more
  pub alone : AllByRecursion (λ page. is_node page → Contains nodes page) more

-- a node that was opened, the bound that it was given with, and what it gave
pub record Opening : Type 0 where
  pub page : ℕ
  pub level : ℕ
  pub bound : ℕ
  pub items : List Item

-- the pages of the nodes that were opened
abbrev pub pages_opened : List Opening → List ℕ
pages_opened openings = map (λ (o : Opening). o.page) openings

-- what the opener gave at its start and by these openings
abbrev pub given_by : List Item → List Opening → List Item
given_by start [] = start
given_by start (o ∷ older) = o.items ++ given_by start older

-- Each opened node was given at the start or by an opening before it. The latest one stands first.
abbrev pub IsTrail : List Item → List Opening → Type 0
IsTrail start [] = Unit {0}
IsTrail start (o ∷ older) = Contains (given_by start older) (Node o.page o.level o.bound) × IsTrail start older

-- the place was given by a leaf among these
pub record IsFromLeaf (openings : List Opening) (hit : Hit) : Type 0 where
  pub leaf : Opening
  pub among : Contains openings leaf
  pub level : leaf.level ≡ 0
  pub gave : Contains leaf.items (Place hit)

-- What is told of a search's openings. `stands` says that an item stands in the bytes of a page as a node of a level; `opens` and
-- `starts` are what the opener gives where the pages fit.
pub record Told (stands : List ℕ → ℕ → Item → Type 0) (pages : PageMap) (is_node : ℕ → Type 0) (fits : Type 0) (opens : ℕ → ℕ → List Item) (starts : List Item) (root : ℕ) (old_log new_log : List ℕ) (found : List Hit) : Type 0 where
  -- what was given at the start: the root at most
  pub start : List Item
  pub alone : IsRootAlone root start
  pub begun : fits → start ≡ starts
  -- the nodes that were opened, each one given before
  pub openings : List Opening
  pub trail : IsTrail start openings
  -- what each gave: by its page's bytes, by its level and by the opener
  pub stood : AllByRecursion (λ (o : Opening). AllByRecursion (stands (pages o.page) o.level) o.items) openings
  pub children : AllByRecursion (λ (o : Opening). AllByRecursion (IsGivenAt o.level) o.items) openings
  pub gave : fits → AllByRecursion (λ (o : Opening). o.items ≡ opens o.page o.level) openings
  -- each opened page is in the log, and of the nodes no other but the root
  pub read : AllByRecursion (λ (o : Opening). AskedSince old_log new_log o.page) openings
  pub log : AsksNodes is_node (root ∷ pages_opened openings) old_log new_log
  pub log_given : fits → AsksNodes is_node (pages_of start ++ pages_opened openings) old_log new_log
  -- each place found was given by an opened leaf
  pub from_leaf : AllByRecursion (IsFromLeaf openings) found

-- the cost of the last one
abbrev pub last_cost : List Hit → ℕ
last_cost [] = 0
last_cost (h ∷ []) = h.cost
last_cost (h ∷ g ∷ hs) = last_cost (g ∷ hs)

-- how many cost less than a bound
abbrev pub cheaper : ℕ → List Hit → ℕ
cheaper bound hits = sum_by (λ (h : Hit). if nat_lt h.cost bound then 1 else 0) hits

-- Few nodes are opened: where k places were found, each opened node's bound is at most the last one's cost.
pub record Opened (stands : List ℕ → ℕ → Item → Type 0) (pages : PageMap) (is_node : ℕ → Type 0) (fits : Type 0) (opens : ℕ → ℕ → List Item) (starts : List Item) (root : ℕ) (old_log new_log : List ℕ) (k : ℕ) (found : List Hit) : Type 0 where
  pub told : Told stands pages is_node fits opens starts root old_log new_log found
  pub few : fits → length found ≡ k → AllByRecursion (λ (o : Opening). o.bound ≤ last_cost found) told.openings
