use Rattle.std.proofs.Common.{ℕ, arith, sym, ap, ◌∙◌, refl, bit_or}
use Rattle.std.specs.Prelude.{bit_xor}
use Rattle.spatial_base.specs.Rect.{Bounds}
use Rattle.split_policy.specs.declared.group.Group.{Group}
use Rattle.split_policy.specs.Masks.{marked}
use Rattle.split_policy.specs.Quadratic.{is_preferred, with_entry}
use Rattle.split_policy.proofs.Areas.{read-rect}
use Rattle.split_policy.proofs.Divisions.{placed-moving, placed-staying, moved-divided, stayed-divided, fewer-left}
use Rattle.split_policy.proofs.division.Division.place.Goals as goal

pub returns-then-is_preferred-clause-placed : goal.returns-then-is_preferred-clause-placed
returns-then-is_preferred-clause-placed c =
    let d = c.args.self in
    let read = read-rect c.args.rects.now c.args.at 33 c.index-rects-at.result c.told-rects c.requires.is_left.0 in
    placed-moving c.args.rects.now c.args.at d _
    (ap (λ (r : Bounds). is_preferred r d.moving d.staying) (sym read) ∙ sym c.is_preferred.ensures ∙ c.if-is_preferred.true)
    (ap (bit_xor d.left) c.bit.ensures)
    (ap (bit_or d.moved) c.bit-then-is_preferred.ensures)
    refl
    (c.with.ensures ∙ ap (λ (r : Bounds). with_entry r d.moving) read)

pub returns-then-is_preferred-clause-divided : goal.returns-then-is_preferred-clause-divided
returns-then-is_preferred-clause-divided c =
    rw (c.bit.ensures, c.bit-then-is_preferred.ensures)
    (moved-divided c.args.self c.args.at c.with.result c.requires.divided c.requires.open c.requires.is_left (ap (λ (g : Group). g.count) c.with.ensures))

pub returns-then-is_preferred-clause-fewer : goal.returns-then-is_preferred-clause-fewer
returns-then-is_preferred-clause-fewer c =
    let a = fewer-left c.args.self.left c.args.at c.requires.is_left in
    let b = ap (λ (x : ℕ). marked 33 (bit_xor c.args.self.left x)) c.bit.ensures in
    omega arith

pub returns-else-is_preferred-clause-placed : goal.returns-else-is_preferred-clause-placed
returns-else-is_preferred-clause-placed c =
    let d = c.args.self in
    let read = read-rect c.args.rects.now c.args.at 33 c.index-rects-at.result c.told-rects c.requires.is_left.0 in
    placed-staying c.args.rects.now c.args.at d _
    (ap (λ (r : Bounds). is_preferred r d.moving d.staying) (sym read) ∙ sym c.is_preferred.ensures ∙ c.if-is_preferred.false)
    (ap (bit_xor d.left) c.bit-else-is_preferred.ensures)
    refl
    (c.with-else-is_preferred.ensures ∙ ap (λ (r : Bounds). with_entry r d.staying) read)
    refl

pub returns-else-is_preferred-clause-divided : goal.returns-else-is_preferred-clause-divided
returns-else-is_preferred-clause-divided c =
    rw c.bit-else-is_preferred.ensures
    (stayed-divided c.args.self c.args.at c.with-else-is_preferred.result c.requires.divided c.requires.open c.requires.is_left (ap (λ (g : Group). g.count) c.with-else-is_preferred.ensures))

pub returns-else-is_preferred-clause-fewer : goal.returns-else-is_preferred-clause-fewer
returns-else-is_preferred-clause-fewer c =
    let a = fewer-left c.args.self.left c.args.at c.requires.is_left in
    let b = ap (λ (x : ℕ). marked 33 (bit_xor c.args.self.left x)) c.bit-else-is_preferred.ensures in
    omega arith
