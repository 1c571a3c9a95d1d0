-- The heap's order is that of bounds.
use Rattle.std.proofs.Common.{◌≡◌, ◌≤◌, List, [], ◌∷◌, refl, IsPermutation}
use Rattle.std.specs.List.{AllByRecursion}
use Rattle.std.specs.Ordering.{nat_cmp, ordering_then}
use Rattle.std.specs.declared.cmp.Ordering.{Ordering}
use Rattle.std.specs.declared.cmp.Reverse.{Reverse}
use Rattle.std.specs.BinaryHeap.{IsUpperBound}
use Rattle.std.proofs.lemmas.List.Sorted.{IsPermutation-map}
use Rattle.best_first.specs.declared.item.Item.{Item}
use Rattle.best_first.specs.declared.queue.Waiting.{Waiting}
use Rattle.best_first.specs.Items.{bound_of}
use Rattle.best_first.specs.Queue.{item_of, waiting, IsNext}
use Rattle.best_first.proofs.CostLaws.{not_less}

-- by bound, then by level and page
abbrev pub waiting_cmp : Waiting → Waiting → Ordering
waiting_cmp a b = ordering_then (nat_cmp a.bound b.bound) (ordering_then (nat_cmp a.level b.level) (nat_cmp a.page b.page))

module _ (R : Reverse Waiting → Reverse Waiting → Ordering) (same : (x y : Reverse Waiting) → R x y ≡ waiting_cmp y.0 x.0) where
  all_later : (x : Reverse Waiting) (ys : List (Reverse Waiting)) → IsUpperBound R x ys → AllByRecursion (λ (i : Item). x.0.bound ≤ bound_of i) (waiting ys)
  all_later x [] h = tt
  all_later x (y ∷ ys) h = (not_less y.0.bound x.0.bound (nat_cmp y.0.bound x.0.bound) _ refl (rw same at h.0), all_later x ys h.1)

  -- the top of the heap is next
  pub top_next : (x : Reverse Waiting) (old new : List (Reverse Waiting)) → IsPermutation old (x ∷ new) → IsUpperBound R x new → IsNext (item_of x.0) (waiting new) (waiting old)
  top_next x old new p u = record { members = IsPermutation-map (λ (r : Reverse Waiting). item_of r.0) old (x ∷ new) p; least = all_later x new u }
