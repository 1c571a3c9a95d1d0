-- Nodes that wait have the level that their page has, or were given below a parent.
use Rattle.std.proofs.Common.{◌≡◌, ◌⊎◌, ℕ, List, [], ◌∷◌, ◌++◌, inl, inr, ⊎_elim, IsPermutation}
use Rattle.std.specs.List.{AllByRecursion}
use Rattle.page_face.specs.FreeList.{PageMap}
use Rattle.btree_nodes.specs.Damages.{AskedSince}
use Rattle.best_first.specs.declared.item.Item.{Item}
use Rattle.best_first.specs.declared.item.Item.TheVariants.{Node, Place}
use Rattle.best_first.specs.Items.{IsGivenAt, OfNode, nodes_of}
use Rattle.best_first.specs.Levels.{IsGivenBelow}
use Rattle.best_first.specs.Openings.{AsksNodes}
use Rattle.best_first.specs.Queue.{IsNext}
use Rattle.best_first.proofs.Insides.{first_inside, next_inside, opened_inside}
use Rattle.best_first.specs.Lists.{all_weaker}
use Rattle.best_first.specs.Logs.{asked_before}

module _ (stands : List ℕ → ℕ → Item → Type 0) (has_level : List ℕ → ℕ → Type 0) (pages : PageMap) where
  -- a node's page has its level, or it was given below a parent
  abbrev pub IsLed : List ℕ → List ℕ → Item → Type 0
  IsLed old new (Node page level bound) = has_level (pages page) level ⊎ IsGivenBelow stands has_level pages old new page level
  IsLed old new (Place hit) = Unit {0}

  led_level : (old new : List ℕ) (item : Item) → OfNode (λ page level. has_level (pages page) level) item → IsLed old new item
  led_level old new (Node page level bound) h = inl h
  led_level old new (Place hit) h = tt

  -- where more was asked for, too
  led_later : (old mid more new : List ℕ) → new ≡ mid ++ more → (item : Item) → IsLed old mid item → IsLed old new item
  led_later old mid more new e (Node page level bound) h =
      ⊎_elim (λ has. inl has) (λ b. inr (record { parent = b.parent; above = b.above; bound = b.bound; asked = asked_before old mid more new b.parent b.asked e; has = b.has; stood = b.stood; below = b.below })) h
  led_later old mid more new e (Place hit) h = tt

  led_given : (old new : List ℕ) (parent above : ℕ) → AskedSince old new parent → has_level (pages parent) above → (items : List Item) → AllByRecursion (stands (pages parent) above) items → AllByRecursion (IsGivenAt above) items → AllByRecursion (IsLed old new) items
  led_given old new parent above asked has [] s g = tt
  led_given old new parent above asked has (Node page level bound ∷ items) s g =
      (inr (record { parent = parent; above = above; bound = bound; asked = asked; has = has; stood = s.0; below = g.0 }), led_given old new parent above asked has items s.1 g.1)
  led_given old new parent above asked has (Place hit ∷ items) s g = (tt, led_given old new parent above asked has items s.1 g.1)

  -- what waits at the start
  pub led_begun : (old new : List ℕ) (items empty queue : List Item) → empty ≡ [] → IsPermutation (nodes_of items ++ empty) queue → AllByRecursion (OfNode (λ page level. has_level (pages page) level)) items → AllByRecursion (IsLed old new) queue
  led_begun old new items empty queue e p h = first_inside (IsLed old new) items empty queue e p (all_weaker (OfNode (λ page level. has_level (pages page) level)) (IsLed old new) (led_level old new) items h)

  -- and after a node was opened
  pub led_opened : (is_node : ℕ → Type 0) (ns old mid new : List ℕ) (page level bound : ℕ) (items rest queue next : List Item) → AsksNodes is_node ns mid new → AskedSince old new page → has_level (pages page) level → IsNext (Node page level bound) rest queue → IsPermutation (nodes_of items ++ rest) next
      → AllByRecursion (stands (pages page) level) items → AllByRecursion (IsGivenAt level) items → AllByRecursion (IsLed old mid) queue → AllByRecursion (IsLed old new) next
  led_opened is_node ns old mid new page level bound items rest queue next a asked has n p s g h =
      opened_inside (IsLed old new) items rest next p (led_given old new page level asked has items s g)
      (all_weaker (IsLed old mid) (IsLed old new) (led_later old mid a.more new a.log) rest (next_inside (IsLed old mid) (Node page level bound) rest queue n h).1)

  -- a node that waited isn't of the level that it was given with: a parent gave it
  pub led_off : (is_node : ℕ → Type 0) (ns old mid new : List ℕ) (page level bound : ℕ) (rest queue : List Item) → AsksNodes is_node ns mid new → IsNext (Node page level bound) rest queue → AllByRecursion (IsLed old mid) queue → (has_level (pages page) level → ⊥) → IsGivenBelow stands has_level pages old new page level
  led_off is_node ns old mid new page level bound rest queue a n h off =
      ⊎_elim (λ has. absurd (off has)) (λ b. b) (led_later old mid a.more new a.log (Node page level bound) (next_inside (IsLed old mid) (Node page level bound) rest queue n h).0)
