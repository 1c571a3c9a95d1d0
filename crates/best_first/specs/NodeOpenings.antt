-- What opening the nodes of a tree gives.
use Rattle.std.specs.Prelude.{◌≡◌, ℕ, zero, suc, ◌<◌, Bool, true, false, ◌||◌, if◌then◌else◌, List, [], ◌∷◌, ◌++◌, length, Option, Some, None}
use Rattle.page_face.specs.FreeList.{PageMap}
use Rattle.page_face.specs.Causes.{IsUncounted}
use Rattle.spatial_base.specs.Key.{form_of}
use Rattle.spatial_base.specs.Point.{Viewpoint}
use Rattle.rtree_nodes.specs.Slots as shape
use Rattle.rtree_nodes.specs.Slots.{Slots, NodeMap, IsChildAt}
use Rattle.rtree_nodes.specs.Reach.{place_item}
use Rattle.rtree_nodes.specs.Pages.{is_form, level_in, mask_of, stored_in}
use Rattle.irtree_shape.specs.Whole.{level_at}
use Rattle.best_first.specs.declared.item.Item.{Item}
use Rattle.best_first.specs.declared.item.Item.TheVariants.{Node, Place}
use Rattle.node_filter.specs.Numbers.{Numbers, impact_of, byte_of}
use Rattle.best_first.specs.declared.ask.Ask.{Ask}
use Rattle.best_first.specs.Asks.{qualifies, hit_by, bound_by, hit_with, bound_with}

-- what the item of a slot gives, by the impacts of its words: a place that qualifies its hit, and a child below which a place may qualify its node with a bound
abbrev pub given_by : Viewpoint → Ask → ℕ → (List ℕ → ℕ) → shape.Item → List Item
given_by at ask zero f x = if qualifies ask 0 f then Place (hit_by at ask f x) ∷ [] else []
given_by at ask (suc level) f x = if qualifies ask (suc level) f then Node x.to level (bound_by at ask f x) ∷ [] else []

-- what the item of a marked slot gives, by its relevance: a place its hit, and a child its node with a bound
abbrev pub marked_by : Viewpoint → Ask → ℕ → Bool → ℕ → shape.Item → List Item
marked_by at ask zero marked text x = if marked then Place (hit_with at ask text x) ∷ [] else []
marked_by at ask (suc level) marked text x = if marked then Node x.to level (bound_with at ask text x) ∷ [] else []

-- what a slot gives
abbrev pub given_at : (shape.Item → List Item) → Option shape.Item → List Item
given_at f (Some x) = f x
given_at f None = []

-- what the first n slots give, one behind another
unfoldable pub spread : ℕ → (ℕ → List Item) → List Item
spread zero f = []
spread (suc n) f = spread n f ++ f n

-- what a node of this level gives
abbrev pub opened_in : Numbers → Viewpoint → Ask → NodeMap → ℕ → ℕ → List Item
opened_in ids at ask nodes page level = spread 32 (λ i. given_at (λ x. given_by at ask level (impact_of ids x) x) ((nodes page).slots i))

-- one of the first n meets a test
unfoldable pub some_below : ℕ → (ℕ → Bool) → Bool
some_below zero test = false
some_below (suc n) test = test n || some_below n test

-- what a search starts with: nothing for the empty tree, of root 0, and the root where it may have an answer below it
abbrev pub first_in : Bool → ℕ → ℕ → List Item
first_in may zero level = []
first_in may (suc m) level = if may then Node (suc m) level 0 ∷ [] else []

-- the bytes of the root's rows allow an answer below one of its slots
abbrev pub started_in : Numbers → Ask → NodeMap → (ℕ → ℕ → ℕ → ℕ) → ℕ → List Item
started_in ids ask nodes bytes root = first_in (some_below 32 (λ i. qualifies ask 1 (byte_of ids (bytes root) i))) root (level_at nodes root)

-- a counted page has the form of a node's of this level, with a slot
pub record IsSoundNode (pages : PageMap) (count node level : ℕ) : Type 0 where
  pub counted : IsUncounted count node → ⊥
  pub form : is_form (pages node) ≡ true
  pub some : 0 < mask_of (pages node)
  pub level_is : level ≡ level_in (pages node)

-- the item is a place of one of these slots, or the child of one
abbrev pub IsIn : Slots → Item → Type 0
IsIn slots (Node page level bound) = (at : ℕ) × (at < 32) × IsChildAt slots at page
IsIn slots (Place hit) = (at : ℕ) × (at < 32) × (slots at ≡ Some (place_item hit.point (form_of hit.key)))

-- the item is in a slot that the bytes of a page have, if they are told
abbrev pub StandsIn : List ℕ → ℕ → Item → Type 0
StandsIn bytes level item = 0 < length bytes → IsIn (stored_in bytes) item

-- the bytes of a page are told, and say this level
abbrev pub SaysLevel : List ℕ → ℕ → Type 0
SaysLevel bytes level = (0 < length bytes) × (level_in bytes ≡ level)

-- what there is, as a list
abbrev pub listed_item : Option Item → List Item
listed_item (Some item) = item ∷ []
listed_item None = []
