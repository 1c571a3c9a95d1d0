use Rattle.std.proofs.Common.{◌≡◌, ℕ, ◌*◌, ◌/◌, sym, ap, ◌∙◌, arith}
use Rattle.spatial_base.specs.Laws.{split-square, full-square}
use Rattle.spatial_base.proofs.distance.scaled_square.Goals as goal

pub returns-then-scale-eq-SCALE_MAX-clause-value : goal.returns-then-scale-eq-SCALE_MAX-clause-value
returns-then-scale-eq-SCALE_MAX-clause-value c =
    let full : 1000 ≡ c.args.scale = omega arith in
    sym (full-square c.args.east) ∙ ap (λ (s : ℕ). s * c.args.east * (s * c.args.east) / 1000000) full

pub returns-clause-value : goal.returns-clause-value
returns-clause-value c =
    split-square (c.from.result * c.args.east) ∙ ap (λ (s : ℕ). s * c.args.east * (s * c.args.east) / 1000000) c.from.ensures
