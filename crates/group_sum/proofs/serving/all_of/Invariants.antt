use Rattle.std.proofs.Common.{◌≡◌, ◌<◌, ℕ, List, None, take}
use Rattle.std.specs.Prelude.{IfSome}
use Rattle.node_filter.specs.Filters.{admits_by}
use Rattle.group_sum.specs.Held.{holds_all}
use Rattle.group_sum.proofs.serving.all_of.Given as goal

-- the words so far are asked for
abbrev pub invariant-loop-word : goal.invariant-loop-word
invariant-loop-word l = record {
  all : (f : List ℕ → ℕ) → (level : ℕ) → admits_by level f l.filter ≡ holds_all f (take l.word-index l.words);
  none : l.filter ≡ None → l.word-index ≡ 0;
  some : IfSome l.filter (λ condition. 0 < l.word-index);
}
