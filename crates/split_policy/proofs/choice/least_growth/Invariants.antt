use Rattle.std.proofs.Common.{◌≡◌}
use Rattle.split_policy.specs.Areas.{rect_at, rect_area, growth_of}
use Rattle.split_policy.specs.Masks.{IsUsed}
use Rattle.split_policy.proofs.Best.{LeastBelow}
use Rattle.split_policy.proofs.choice.least_growth.Given as goal

abbrev pub invariant-loop-slot : goal.invariant-loop-slot
invariant-loop-slot l = record {
  gained : l.least.gained ≡ growth_of (rect_at l.rects l.best) l.add;
  had : l.least.had ≡ rect_area (rect_at l.rects l.best);
  best : LeastBelow l.slot (IsUsed l.used) (λ i. growth_of (rect_at l.rects i) l.add) (λ i. rect_area (rect_at l.rects i)) l.best;
}
