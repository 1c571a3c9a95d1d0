use Rattle.std.proofs.Common.{◌≡◌, ℕ, ◌+◌, ◌*◌, ◌≤◌, Bool, true, List, fold, length}
use Rattle.std.specs.Map.{keys_of}
use Rattle.store_model.specs.Ahead.{AreCountedWords, puts_in, times_counted, word_count, words_put}
use Rattle.table_updates.specs.Order.{behind, in_order}
use Rattle.table_updates.proofs.gathering.gather_words.Given as goal

abbrev pub invariant-loop-update : goal.invariant-loop-update
invariant-loop-update l = record {
  counted : AreCountedWords l.counts.entries;
  gathered : (has : List ℕ → Bool) → times_counted has l.counts.entries + word_count has l.left ≡ word_count has l.fn.updates;
  order : fold (λ words update. fold behind words (keys_of (words_put update))) (keys_of l.counts.entries) l.left ≡ in_order l.fn.updates;
  few : times_counted (λ w. true) l.counts.entries + 64 * puts_in l.left ≤ 64 * puts_in l.fn.updates;
  most : times_counted (λ w. true) l.counts.entries + 64 * length l.left ≤ 64 * length l.fn.updates;
}

abbrev pub decreases-loop-update : goal.decreases-loop-update
decreases-loop-update l = length l.left
