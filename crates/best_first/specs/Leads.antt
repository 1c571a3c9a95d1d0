-- The places that items lead to, and what their nodes' bounds promise.
use Rattle.std.specs.Prelude.{ℕ, zero, suc, ◌≤◌, List, [], ◌∷◌}
use Rattle.std.specs.List.{AllByRecursion, flat_map}
use Rattle.place_values.specs.declared.hit.Hit.{Hit}
use Rattle.best_first.specs.declared.item.Item.{Item}
use Rattle.best_first.specs.declared.item.Item.TheVariants.{Node, Place}

-- a place leads to itself, and a node to what stands below its page
abbrev pub led : (ℕ → List Hit) → Item → List Hit
led under (Node page level bound) = under page
led under (Place hit) = hit ∷ []

-- P of the page of a node; nothing is asked of a place
abbrev pub at_node : (ℕ → Type 0) → Item → Type 0
at_node P (Node page level bound) = P page
at_node P (Place hit) = Unit {0}

-- `opens` gives the items of a page as a node of a level
module _ (opens : ℕ → ℕ → List Item) where
  -- the places below a page as a node of a level
  abbrev pub below : ℕ → ℕ → List Hit
  below zero page = flat_map (led (λ p. [])) (opens page 0)
  below (suc l) page = flat_map (led (λ p. below l p)) (opens page (suc l))

  -- the places that an item leads to
  abbrev pub reached : Item → List Hit
  reached (Node page level bound) = below level page
  reached (Place hit) = hit ∷ []

  -- the places that items lead to
  abbrev pub leads : List Item → List Hit
  leads items = flat_map reached items

  -- no place that the item leads to costs less
  abbrev pub IsAhead : ℕ → Item → Type 0
  IsAhead bound item = AllByRecursion (λ (h : Hit). bound ≤ h.cost) (reached item)

  -- a node's bound holds
  abbrev pub IsBound : Item → Type 0
  IsBound (Node page level bound) = AllByRecursion (λ (h : Hit). bound ≤ h.cost) (below level page)
  IsBound (Place hit) = Unit {0}

  -- and so do those of all nodes below it
  abbrev pub AreBounds : ℕ → ℕ → Type 0
  AreBounds zero page = Unit {0}
  AreBounds (suc l) page = AllByRecursion (λ (i : Item). IsBound i × at_node (λ p. AreBounds l p) i) (opens page (suc l))

  -- the bounds of all nodes below an item hold
  abbrev pub BoundsBelow : Item → Type 0
  BoundsBelow (Node page level bound) = AreBounds level page
  BoundsBelow (Place hit) = Unit {0}

  -- the bounds of these nodes, and of all below them, hold
  abbrev pub Bounds : List Item → Type 0
  Bounds items = AllByRecursion (λ (i : Item). IsBound i × BoundsBelow i) items
