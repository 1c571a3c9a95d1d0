-- What holds of each node that waits.
use Rattle.std.proofs.Common.{◌≡◌, List, [], ◌++◌, ◌∷◌, ap, subst, ◌∙◌, IsPermutation}
use Rattle.std.specs.List.{AllByRecursion}
use Rattle.std.proofs.lemmas.List.{append-nil}
use Rattle.best_first.specs.declared.item.Item.{Item}
use Rattle.best_first.specs.Items.{nodes_of}
use Rattle.best_first.specs.Queue.{IsNext}
use Rattle.best_first.specs.Lists.{all_append, all_moved}
use Rattle.best_first.proofs.Steps.{all_nodes}

-- of the nodes among the first items
pub first_inside : (P : Item → Type 0) (items empty queue : List Item) → empty ≡ [] → IsPermutation (nodes_of items ++ empty) queue → AllByRecursion P items → AllByRecursion P queue
first_inside P items empty queue e p h =
    all_moved P (nodes_of items) queue (subst (λ x. IsPermutation x queue) (ap (λ x. nodes_of items ++ x) e ∙ append-nil (nodes_of items)) p) (all_nodes (λ page level. []) P items h)

-- of the next node, and of those behind it
pub next_inside : (P : Item → Type 0) (item : Item) (rest queue : List Item) → IsNext item rest queue → AllByRecursion P queue → P item × AllByRecursion P rest
next_inside P item rest queue n h = all_moved P queue (item ∷ rest) n.members h

-- of those that wait after an opening
pub opened_inside : (P : Item → Type 0) (items rest next : List Item) → IsPermutation (nodes_of items ++ rest) next → AllByRecursion P items → AllByRecursion P rest → AllByRecursion P next
opened_inside P items rest next p h k = all_moved P (nodes_of items ++ rest) next p (all_append P (nodes_of items) rest (all_nodes (λ page level. []) P items h) k)
