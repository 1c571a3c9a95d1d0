-- How often a policy was asked, over several steps.
use Rattle.std.proofs.Common.{◌≡◌, ℕ, ◌+◌, arith, Option}
use Rattle.page_face.specs.FreeList.{PageMap}
use Rattle.rtree_nodes.specs.Slots.{Item}
use Rattle.rtree_nodes.specs.Stock.{View}
use Rattle.rtree_nodes.specs.Made.{Reads, Rises}
use Rattle.irtree_shape.specs.Made.{IsMade}
use Rattle.irtree_shape.specs.Whole.{IsPlanted}

-- no split: the count stays
pub rises-none : (count n : ℕ) → n ≡ 0 → Rises count count n
rises-none count n e = λ l. omega arith

-- one step after another
pub rises-then : (first middle last a b : ℕ) → Rises first middle a → Rises middle last b → Rises first last (a + b)
rises-then first middle last a b p q = λ l. let y = q l in let x = p (omega arith) in omega arith

-- the same nodes, with another statement of the count
pub made-rise : {reads : Reads} {before : View} {pages : PageMap} {rows count first least level page : ℕ} {mine : ℕ → ℕ} {more : Option Item} {sums : (Item → ℕ) → ℕ} {counts : (ℕ → ℕ → ℕ) → ℕ} {reach told : ℕ → ℕ} {rise rise' : ℕ → Type 0}
    → ((n : ℕ) → rise n → rise' n) → IsMade reads before pages rows count first least level page mine more sums counts reach told rise → IsMade reads before pages rows count first least level page mine more sums counts reach told rise'
made-rise r h = record { free = h.free; fresh = h.fresh; moves = h.moves; stands = h.stands; told_is = h.told_is; blank = h.blank; counts_are = h.counts_are; counted = r _ h.counted }

-- the same tree, with another statement of the count
pub planted-rise : {reads : Reads} {before : View} {pages : PageMap} {rows count first old_root root : ℕ} {x : Item} {rise rise' : ℕ → Type 0}
    → ((n : ℕ) → rise n → rise' n) → IsPlanted reads before pages rows count first old_root root x rise → IsPlanted reads before pages rows count first old_root root x rise'
planted-rise r h = record { free = h.free; whole = h.whole; moves = h.moves; sum_is = h.sum_is; fresh = h.fresh; heads_are = h.heads_are; splits = h.splits; counted = r _ h.counted; many = h.many }
