use Rattle.std.proofs.Common.{◌≡◌, ℕ, ◌<◌, subst}
use Rattle.std.specs.Prelude.{MatchOption}
use Rattle.std.specs.Int.{bit_at}
use Rattle.rtree_nodes.proofs.Masks.{free-found}
use Rattle.rtree_nodes.proofs.mask.free_slot.Goals as goal

pub returns-clause-free : goal.returns-clause-free
returns-clause-free c = λ form. free-found c.args.page.now c.lowest_free.result form
    (subst (λ (mask : ℕ). MatchOption c.lowest_free.result ((i : ℕ) → i < 32 → bit_at mask i ≡ 1) (λ at. (at < 32) × (bit_at mask at ≡ 0) × ((i : ℕ) → i < at → bit_at mask i ≡ 1))) c.mask_of.ensures c.lowest_free.ensures)
