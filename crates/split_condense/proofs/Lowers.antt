-- A root of one child, with its words.
use Rattle.std.proofs.Common.{◌≡◌, ℕ, ap, ◌∙◌, option_map}
use Rattle.rtree_nodes.specs.Slots.{Item, Slots, filled}
use Rattle.rtree_nodes.specs.Loose.{IsAt}
use Rattle.irtree_shape.specs.Words.{joined_item, words_on}
use Rattle.irtree_shape.proofs.Words.{words-filled}

-- a single slot is single with its words
pub joined-alone : (b : ℕ → ℕ → ℕ) (s : Slots) → filled s ≡ 1 → filled (words_on b s) ≡ 1
joined-alone b s alone = words-filled b s ∙ alone

-- and its item stands there with them
pub joined-there : (b : ℕ → ℕ → ℕ) (s : Slots) (at : ℕ) (z : Item) → IsAt s at z → IsAt (words_on b s) at (joined_item b at z)
joined-there b s at z there = (there.0, ap (option_map (joined_item b at)) there.1)
