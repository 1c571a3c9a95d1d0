use Rattle.std.proofs.Common.{◌≡◌, ℕ, ◌<◌}
use Rattle.page_walks.specs.Met.{held}
use Rattle.page_walks.proofs.lost.first_lost.Given as goal

abbrev pub invariant-loop-page : goal.invariant-loop-page
invariant-loop-page l = (n : ℕ) → 0 < n → n < l.page → held l.met n ≡ 1
