-- How many slots are asked of a root.
use Rattle.std.proofs.Common.{ℕ, zero, suc, ◌<◌, ◌≤◌, arith}
use Rattle.rtree_nodes.specs.Trees.{root_least}

-- a root has a slot, and no more are asked of it than of another node
pub least-some : (level : ℕ) → (0 < root_least level) × (root_least level ≤ 12)
least-some zero = (omega arith, omega arith)
least-some (suc level) = (omega arith, omega arith)
