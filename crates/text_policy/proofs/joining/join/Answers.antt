use Rattle.std.proofs.Common.{ℕ, arith, sym, ap, ◌∙◌, refl, bit_or}
use Rattle.std.specs.Prelude.{bit_xor}
use Rattle.spatial_base.specs.Rect.{Bounds}
use Rattle.split_policy.specs.declared.group.Group.{Group}
use Rattle.split_policy.specs.Masks.{marked}
use Rattle.split_policy.specs.Quadratic.{with_entry}
use Rattle.split_policy.proofs.Areas.{read-rect}
use Rattle.split_policy.proofs.Divisions.{moved-divided, stayed-divided, fewer-left}
use Rattle.text_policy.proofs.Joins.{drawn-same, joined-moving, joined-staying}
use Rattle.text_policy.proofs.joining.join.Goals as goal

pub returns-then-is_drawn-clause-joined : goal.returns-then-is_drawn-clause-joined
returns-then-is_drawn-clause-joined c =
    let d = c.args.division in
    let read = read-rect c.args.rects.now c.args.at 33 c.index-rects-at.result c.told-rects c.requires.is_left.0 in
    let drawn = drawn-same d _ _ _ _ _ _ read c.shared_by-with_first.ensures c.shared_by-with_second.ensures in
    joined-moving c.args.rects.now c.args.like.now c.args.first c.args.second c.args.at d _
    (sym drawn ∙ sym c.is_drawn.ensures ∙ c.if-is_drawn.true)
    (ap (bit_xor d.left) c.bit.ensures)
    (ap (bit_or d.moved) c.bit-then-is_drawn.ensures)
    refl
    (c.with.ensures ∙ ap (λ (r : Bounds). with_entry r d.moving) read)

pub returns-then-is_drawn-clause-divided : goal.returns-then-is_drawn-clause-divided
returns-then-is_drawn-clause-divided c =
    rw (c.bit.ensures, c.bit-then-is_drawn.ensures)
    (moved-divided c.args.division c.args.at c.with.result c.requires.divided c.requires.open c.requires.is_left (ap (λ (g : Group). g.count) c.with.ensures))

pub returns-then-is_drawn-clause-fewer : goal.returns-then-is_drawn-clause-fewer
returns-then-is_drawn-clause-fewer c =
    let a = fewer-left c.args.division.left c.args.at c.requires.is_left in
    let b = ap (λ (x : ℕ). marked 33 (bit_xor c.args.division.left x)) c.bit.ensures in
    omega arith

pub returns-else-is_drawn-clause-joined : goal.returns-else-is_drawn-clause-joined
returns-else-is_drawn-clause-joined c =
    let d = c.args.division in
    let read = read-rect c.args.rects.now c.args.at 33 c.index-rects-at.result c.told-rects c.requires.is_left.0 in
    let drawn = drawn-same d _ _ _ _ _ _ read c.shared_by-with_first.ensures c.shared_by-with_second.ensures in
    joined-staying c.args.rects.now c.args.like.now c.args.first c.args.second c.args.at d _
    (sym drawn ∙ sym c.is_drawn.ensures ∙ c.if-is_drawn.false)
    (ap (bit_xor d.left) c.bit-else-is_drawn.ensures)
    refl
    (c.with-else-is_drawn.ensures ∙ ap (λ (r : Bounds). with_entry r d.staying) read)
    refl

pub returns-else-is_drawn-clause-divided : goal.returns-else-is_drawn-clause-divided
returns-else-is_drawn-clause-divided c =
    rw c.bit-else-is_drawn.ensures
    (stayed-divided c.args.division c.args.at c.with-else-is_drawn.result c.requires.divided c.requires.open c.requires.is_left (ap (λ (g : Group). g.count) c.with-else-is_drawn.ensures))

pub returns-else-is_drawn-clause-fewer : goal.returns-else-is_drawn-clause-fewer
returns-else-is_drawn-clause-fewer c =
    let a = fewer-left c.args.division.left c.args.at c.requires.is_left in
    let b = ap (λ (x : ℕ). marked 33 (bit_xor c.args.division.left x)) c.bit-else-is_drawn.ensures in
    omega arith
