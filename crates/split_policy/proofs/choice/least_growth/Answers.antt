use Rattle.std.proofs.Common.{arith, ap, ◌∙◌}
use Rattle.split_policy.specs.Areas.{rect_area, growth_of}
use Rattle.spatial_base.specs.Rect.{Bounds}
use Rattle.split_policy.proofs.Areas.{read-rect}
use Rattle.split_policy.proofs.Best.{least-first}
use Rattle.split_policy.proofs.Bits.{first-used}
use Rattle.split_policy.proofs.choice.least_growth.Goals as goal

pub loop-slot-init : goal.loop-slot-init
loop-slot-init c =
    let first = first-used c.args.used c.requires (omega arith) in
    let read = read-rect c.args.rects.now _ 32 c.index-rects-first.result c.told-rects first.0.0 in
    record {
      gained = c.of-least.ensures.gained ∙ ap (λ (r : Bounds). growth_of r c.args.add.now) read;
      had = c.of-least.ensures.had ∙ ap rect_area read;
      best = least-first _ _ _ _ first.0 first.1;
    }
