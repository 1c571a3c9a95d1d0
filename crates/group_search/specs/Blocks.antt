-- Picks in blocks, and what a choice with a pick of a block costs at least.
use Rattle.std.specs.Prelude.{◌≡◌, ℕ, ◌≤◌, List, Vec, map}
use Rattle.std.specs.List.{AllByRecursion, flat_map}
use Rattle.std.specs.declared.alloc.Global.{Global}
use Rattle.spatial_base.specs.Point.{Viewpoint, distance}
use Rattle.spatial_base.specs.Rect.{Holds}
use Rattle.place_values.specs.declared.query.Pick.{Pick}
use Rattle.group_search.specs.declared.packing.Block.{Block}
use Rattle.group_search.specs.Joins.{pair_cost}

-- The rectangle of a block holds its picks, and none is nearer to the point than it says. Each pick is as far from the point as it says.
pub record IsBlock (at : Viewpoint) (block : Block) : Type 0 where
  pub held : AllByRecursion (λ (pick : Pick). Holds block.bounds pick.point) block.picks.items
  pub lowest : AllByRecursion (λ (pick : Pick). block.nearest ≤ pick.dist) block.picks.items
  pub low : block.nearest ≤ 2545584412
  pub near : AllByRecursion (λ (pick : Pick). pick.dist ≤ 2545584412) block.picks.items
  pub measured : AllByRecursion (λ (pick : Pick). pick.dist ≡ distance at pick.point) block.picks.items

-- the picks of all blocks
abbrev pub block_picks : List Block → List Pick
block_picks blocks = flat_map (λ (block : Block). block.picks.items) blocks

-- the lists whose picks some blocks have
abbrev pub packed_lists : List (Vec Block Global) → List (List Pick)
packed_lists packs = map (λ (pack : Vec Block Global). block_picks pack.items) packs

-- each of them is of blocks
abbrev pub ArePacks : Viewpoint → List (Vec Block Global) → Type 0
ArePacks at packs = AllByRecursion (λ (pack : Vec Block Global). AllByRecursion (IsBlock at) pack.items) packs

-- no choice with a pick and one of these costs less
abbrev pub IsBelowPairs : ℕ → ℕ → Pick → List Pick → Type 0
IsBelowPairs scale cost anchor picks = AllByRecursion (λ (pick : Pick). cost ≤ pair_cost scale anchor pick) picks
