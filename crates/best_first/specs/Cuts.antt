-- What a search still asks for, and what an opener may leave out.
use Rattle.std.specs.Prelude.{◌≡◌, ℕ, Bool, true, false, ◌==◌, nat_lt, nat_le, if◌then◌else◌, List, [], ◌∷◌, ◌++◌, length, Option, Some, None, IsPermutation}
use Rattle.std.specs.List.{AllByRecursion, flat_map, filter}
use Rattle.place_values.specs.declared.hit.Hit.{Hit}
use Rattle.best_first.specs.declared.item.Item.{Item}
use Rattle.best_first.specs.Items.{bound_of, IsGivenAt}
use Rattle.best_first.specs.Openings.{last_cost}

-- a hit costs no more than the limit; without one, each does
abbrev pub is_affordable : Option ℕ → Hit → Bool
is_affordable None hit = true
is_affordable (Some limit) hit = nat_le hit.cost limit

-- the hits that cost no more than the limit
abbrev pub affordable : Option ℕ → List Hit → List Hit
affordable limit hits = filter (is_affordable limit) hits

-- what the kth of those found costs; the limit while fewer than k are found
abbrev pub most_of : Option ℕ → ℕ → List Hit → Option ℕ
most_of limit k found = if nat_lt (length found) k then limit else if k == 0 then limit else Some (last_cost found)

-- a cost is above the most that is asked for; without one, none is
abbrev pub is_over : Option ℕ → ℕ → Bool
is_over None cost = false
is_over (Some most) cost = nat_lt most cost

-- the item, unless its bound is above the most
abbrev pub kept_one : Option ℕ → Item → List Item
kept_one most item = if is_over most (bound_of item) then [] else item ∷ []

-- the items whose bound isn't above the most
abbrev pub kept_of : Option ℕ → List Item → List Item
kept_of most items = flat_map (kept_one most) items

-- these items are all but some whose bounds are above the most
pub record IsCut (most : Option ℕ) (all items : List Item) : Type 0 where
  pub out : List Item
  pub parts : IsPermutation all (items ++ out)
  pub over : AllByRecursion (λ (i : Item). is_over most (bound_of i) ≡ true) out

-- What a node of a level has for a search, of which it was given these items. `stand` says that an item is in the bytes of the node's page;
-- `whole` is what the node has if the pages fit.
pub record Gave (stand : Item → Type 0) (level : ℕ) (fits : Type 0) (whole : List Item) (most : Option ℕ) (items : List Item) : Type 0 where
  pub all : List Item
  pub stood : AllByRecursion stand all
  pub children : AllByRecursion (IsGivenAt level) all
  pub is : fits → all ≡ whole
  pub cut : IsCut most all items
