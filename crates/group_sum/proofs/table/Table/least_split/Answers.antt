use Rattle.std.proofs.Common.{◌≡◌, ℕ, ◌+◌, ◌/◌, ◌<◌, ◌≤◌, length, get_or, List, Option, None, vec_len, sym, subst, ◌∙◌, bit_and, bit_xor, arith}
use Rattle.place_values.specs.declared.query.Chosen.{Chosen}
use Rattle.group_sum.specs.Splits.{sides_of, joined_of, split_at, first_of, IsPart}
use Rattle.group_sum.specs.Tables.{AreLow}
use Rattle.group_sum.proofs.Masks.{rest-sum}
use Rattle.group_sum.proofs.Firsts.{IsLeastBelow, below-part, below-other}
use Rattle.group_sum.proofs.Tables.{parts-fit, read-is}
use Rattle.group_sum.proofs.table.Table.least_split.Goals as goal
use Rattle.group_sum.proofs.table.Table.least_split.Goals.{then-part-set+in_ok-offer, else-part-set}

pub index-requires-then-part-set : goal.index-requires-then-part-set
index-requires-then-part-set c =
    let sum : c.loop-part.part + bit_xor c.len-set.result c.loop-part.part ≡ c.len-set.result = rest-sum c.len-set.result c.loop-part.part c.if-part-set.true in
    let some : 1 ≤ c.loop-part.part = c.loop-part.auto.part in
    let long : c.len-set.result ≡ vec_len c.args.self.now.kept = c.len-set.ensures in
    omega arith

pub offer-requires-clause-low : goal.offer-requires-clause-low
offer-requires-clause-low c =
    let kept : List (Option Chosen) = c.args.self.now.kept.items in
    let low : AreLow kept = c.args.self.now.low in
    let few : c.args.self.now.count ≤ 8 = c.args.self.now.few in
    let some : 1 ≤ c.loop-part.part = c.loop-part.auto.part in
    let test : c.loop-part.part < c.len-set.result / 2 + 1 = c.loop-part-test.true in
    let long : c.len-set.result ≡ vec_len c.args.self.now.kept = c.len-set.ensures in
    let items : vec_len c.args.self.now.kept ≡ length kept = c.args.self.now.kept.ok.0 in
    parts-fit kept c.len-set.result c.loop-part.part c.args.self.now.count c.index.result.now c.index-then-part-set.result.now low c.if-part-set.true (omega arith) (omega arith) (long ∙ items) (omega arith) few c.index.ensures c.index-then-part-set.ensures

pub loop-part-preserved : goal.loop-part-preserved
loop-part-preserved c =
    let kept : List (Option Chosen) = c.args.self.now.kept.items in
    let count : ℕ = c.args.self.now.count in
    let set : ℕ = c.len-set.result in
    let part : ℕ = c.loop-part.part in
    let some : 1 ≤ part = c.loop-part.auto.part in
    let test : part < set / 2 + 1 = c.loop-part-test.true in
    let long : set ≡ length kept = c.len-set.ensures ∙ c.args.self.now.kept.ok.0 in
    elim c.if-part-set.branch [
      | then-part-set+in_ok-offer w ↦
          let within : bit_and part set ≡ part = w.if-part-set.true in
          let here : IsPart set part = record { some = omega arith; half = omega arith; within = within } in
          let sum : part + bit_xor set part ≡ set = rest-sum set part within in
          let left : w.index.result.now ≡ get_or kept part None = read-is kept part w.index.result.now (omega arith) w.index.ensures in
          let right : w.index-then-part-set.result.now ≡ get_or kept (bit_xor set part) None = read-is kept (bit_xor set part) w.index-then-part-set.result.now (omega arith) w.index-then-part-set.ensures in
          let is : c.if-part-set.best ≡ first_of c.loop-part.best (split_at count kept set part) =
          w.best-is ∙ w.in_ok-offer.ensures ∙ (λ i. first_of c.loop-part.best (joined_of (sides_of count set part) (left i) (right i))) in
          subst (IsLeastBelow count kept set (part + 1)) (sym is) (below-part count kept set part c.loop-part.best here c.loop-part.invariant)
      | else-part-set w ↦ subst (IsLeastBelow count kept set (part + 1)) (sym w.best-is) (below-other count kept set part c.loop-part.best w.if-part-set.false c.loop-part.invariant)
    ]
