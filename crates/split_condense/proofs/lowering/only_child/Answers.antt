use Rattle.std.proofs.Common.{arith, ◌≡◌, ◌<◌, ◌∙◌, ℕ, true, ap, sym}
use Rattle.std.specs.Int.{bit_at}
use Rattle.rtree_nodes.specs.Slots.{Slots, filled, got, one}
use Rattle.rtree_nodes.proofs.Fells.{enough-slots}
use Rattle.rtree_nodes.specs.Pages.{slots_in, level_in, is_form}
use Rattle.rtree_nodes.proofs.Formed.{form-slots}
use Rattle.rtree_nodes.proofs.Masks.{slot-bit}
use Rattle.rtree_nodes.proofs.Bounding.{some-form}
use Rattle.split_condense.proofs.lowering.only_child.Goals.{then-head-eq0-via-then-head-eq0, then-head-eq0-via-else-head-eq0+then-count-ge-INNER_ROOT_MIN}
use Rattle.split_condense.proofs.lowering.only_child.Goals as goal

pub returns-then-head-eq0-clause-child : goal.returns-then-head-eq0-clause-child
returns-then-head-eq0-clause-child c = λ some. elim c.then-head-eq0.branch [
  | then-head-eq0-via-then-head-eq0 w ↦ enough-slots (level_in c.args.bytes.now) (filled (slots_in c.args.bytes.now)) (omega arith)
      (λ up one. let a = w.if-head-eq0.true in let b = c.in-Ok.ensures.0 in omega arith)
  | then-head-eq0-via-else-head-eq0+then-count-ge-INNER_ROOT_MIN w ↦ enough-slots (level_in c.args.bytes.now) (filled (slots_in c.args.bytes.now)) (omega arith)
      (λ up one. let a = w.if-count-ge-INNER_ROOT_MIN.true in let b = w.count.ensures.filled (some-form c.args.bytes.now some) in omega arith)
]

pub returns-clause-child : goal.returns-clause-child
returns-clause-child c = λ some.
    let bytes = c.args.bytes.now in
    let at : ℕ = c.lowest_used.result in
    let form : is_form bytes ≡ true = some-form bytes some in
    let inner : 0 < level_in bytes = let a = c.if-head-eq0.false in let b = c.in-Ok.ensures.0 in omega arith in
    let within : at < 32 = c.lowest_used.ensures.within in
    let used : got one (slots_in bytes at) ≡ 1 = ap (λ (s : Slots). got one (s at)) (form-slots bytes form) ∙ sym (slot-bit bytes at within) ∙ ap (λ (m : ℕ). bit_at m at) (sym c.in-Ok.ensures.1) ∙ c.lowest_used.ensures.used in
    let child = c.child_at.ensures.child form inner (within, used) in
    record {
      inner = inner;
      alone = let a = c.if-count-ge-INNER_ROOT_MIN.false in let b = c.count.ensures.filled form in omega arith;
      at = at;
      item = child.item;
      there = (within, child.is);
      to_is = child.to_is;
    }
