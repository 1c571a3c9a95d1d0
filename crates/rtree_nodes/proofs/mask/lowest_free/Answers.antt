use Rattle.std.proofs.Common.{◌≡◌, ℕ, ◌<◌, arith, sym, ap, ◌∙◌, subst}
use Rattle.std.specs.Int.{bit_at, w32}
use Rattle.std.proofs.lemmas.Nat.Bits.{bit_at_ones, bit_at-trailing_ones}
use Rattle.rtree_nodes.proofs.mask.lowest_free.Goals as goal

pub returns-then-mask-eq4294967295 : goal.returns-then-mask-eq4294967295
returns-then-mask-eq4294967295 c = λ i l. ap (λ (n : ℕ). bit_at n i) c.if-mask-eq4294967295.true ∙ bit_at_ones 32 i l

pub returns : goal.returns
returns c =
    let lowest = bit_at-trailing_ones w32 c.args.mask (omega arith) in
    subst (λ (at : ℕ). (at < 32) × (bit_at c.args.mask at ≡ 0) × ((i : ℕ) → i < at → bit_at c.args.mask i ≡ 1)) (sym c.trailing_ones.ensures) lowest
