use Rattle.std.proofs.Common.{◌≡◌, ◌+◌, ◌<◌, ◌∙◌, ℕ, List, [], ◌∷◌, ◌++◌, Vec, Global, ap, sym, arith, take, get_or, slice_index}
use Rattle.std.proofs.lemmas.Bool.Decides.{nat_tests}
use Rattle.std.proofs.lemmas.List.{take_more}
use Rattle.tree_check.specs.Columns.{words_in}
use Rattle.tree_check.proofs.Columns.{words-more_with, words-more_without}
use Rattle.tree_check.proofs.reading.words_at.Goals as goal
use Rattle.tree_check.proofs.reading.words_at.Goals.{then-byte-ne0+in-Ok, else-byte-ne0}

pub loop-row-preserved : goal.loop-row-preserved
loop-row-preserved c =
    let at : ℕ = c.args.at in
    let k : ℕ = c.loop-row.row-index in
    let rows : List (ℕ × List ℕ) = c.args.rows.now in
    let row : ℕ × List ℕ = get_or rows k (0, []) in
    let more : take (k + 1) rows ≡ take k rows ++ row ∷ [] = take_more rows k (0, []) (omega arith) in
    let h = c.loop-row.invariant in
    elim c.if-byte-ne0.branch [
      | then-byte-ne0+in-Ok r ↦
          let some : 0 < slice_index row.1 at = let t = r.if-byte-ne0.true in grind (arith, nat_tests) in
          ap (λ (v : Vec (ℕ × ℕ) Global). v.items) r.words-is ∙ r.in-Ok.ensures.items some
          ∙ ap (λ (qs : List (ℕ × ℕ)). qs ++ (row.0, slice_index row.1 at) ∷ []) h
          ∙ sym (words-more_with at (take k rows) row (λ e. omega arith)) ∙ ap (words_in at) (sym more)
      | else-byte-ne0 r ↦
          let none : slice_index row.1 at ≡ 0 = let t = r.if-byte-ne0.false in grind (arith, nat_tests) in
          ap (λ (v : Vec (ℕ × ℕ) Global). v.items) r.words-is ∙ h ∙ sym (words-more_without at (take k rows) row none) ∙ ap (words_in at) (sym more)
    ]
