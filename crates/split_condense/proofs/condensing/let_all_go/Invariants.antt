use Rattle.std.proofs.Common.{◌≡◌, ◌≤◌, ◌+◌, ℕ}
use Rattle.rtree_nodes.specs.Slots.{Item, NodeMap, Each, got, sum_to}
use Rattle.rtree_nodes.specs.Trees.{IsItem}
use Rattle.rtree_nodes.specs.Loose.{total_loose, AllLoose}
use Rattle.rtree_nodes.specs.Pages.{stored_in}
use Rattle.node_inverted.specs.Lifts.{lifted_at}
use Rattle.irtree_shape.specs.Words.{words_on}
use Rattle.split_condense.specs.Orphans.{loose_in, AreLow}
use Rattle.split_condense.proofs.condensing.let_all_go.Given as goal

abbrev pub invariant-loop-at : goal.invariant-loop-at
invariant-loop-at l = record {
  sums : (F : ℕ → Item → ℕ) (b : ℕ → ℕ → ℕ) → ((w i : ℕ) → lifted_at l.rows w i ≡ b w i)
      → total_loose F (loose_in l.orphans.items) ≡ total_loose F (loose_in l.initial.orphans.items) + sum_to l.at (λ k. got (F l.fn.level) (words_on b (stored_in l.fn.bytes) k));
  items : (nodes : NodeMap) (b : ℕ → ℕ → ℕ) → ((w i : ℕ) → lifted_at l.rows w i ≡ b w i) → Each (λ y. IsItem nodes l.fn.level y) (words_on b (stored_in l.fn.bytes))
      → AllLoose (λ m y. IsItem nodes m y) (loose_in l.initial.orphans.items) → AllLoose (λ m y. IsItem nodes m y) (loose_in l.orphans.items);
  low : (top : ℕ) → l.fn.level ≤ top → AreLow top (loose_in l.initial.orphans.items) → AreLow top (loose_in l.orphans.items);
}
