use Rattle.std.proofs.Common.{◌≡◌, ◌+◌, ℕ, ◌<◌, ◌⊎◌, inl, inr, ◌∙◌, min, ap, sym, arith, slice_index, slice_index_or, slice_set, List, []}
use Rattle.node_rows.specs.Counts.{cell, counted_on, most, sign}
use Rattle.node_rows.proofs.Counts.{counted-same, counted-set, set-here, set-other, set-long}
use Rattle.node_rows.proofs.pairing.add_pairs.Goals as goal
use Rattle.node_rows.proofs.pairing.add_pairs.Goals.{then-row-i-ne0, else-row-i-ne0}

below_or : (i n : ℕ) → i < n + 1 → (i < n) ⊎ (i ≡ n)
below_or i n l = grind arith

pub loop-i-preserved : goal.loop-i-preserved
loop-i-preserved c =
    let h = c.loop-i.invariant in
    let at : ℕ = c.loop-i.i in
    let t : List (List ℕ) = c.loop-i.table in
    let old : List (List ℕ) = c.args.table.now in
    let row : List ℕ = c.args.row.now in
    let small : at < 33 = omega arith in
    let line : slice_index_or t at [] ≡ slice_index_or old at [] = h.rest at (omega arith) in
    elim c.if-row-i-ne0.branch [
      | then-row-i-ne0 w ↦
          let v : List ℕ = w.add_line-more.result in
          record {
            long = rw w.table-is (set-long t at v ∙ h.long);
            done = λ i j l m. rw w.table-is (elim (below_or i at l) [
              | inl s ↦ ap (λ (x : List ℕ). slice_index x j) (set-other t at i v (λ e. omega arith)) ∙ h.done i j s m
              | inr e ↦
                  ap (λ (k : ℕ). slice_index (slice_index_or (slice_set t at v) k []) j) e ∙ ap (λ (x : List ℕ). slice_index x j) (set-here t at v (let q = h.long in omega arith)) ∙ w.add_line-more.ensures j m
                  ∙ ap (λ (x : List ℕ). min (slice_index x j + sign (slice_index row j)) most) line
                  ∙ counted-set (cell old at j) (slice_index row at) (slice_index row j) w.if-row-i-ne0.true
                  ∙ ap (λ (k : ℕ). counted_on (cell old k j) (slice_index row k) (slice_index row j)) (sym e)
            ]);
            rest = λ i l. rw w.table-is (set-other t at i v (λ e. omega arith) ∙ h.rest i (omega arith));
          }
      | else-row-i-ne0 w ↦ record {
        long = rw w.table-is h.long;
        done = λ i j l m. rw w.table-is (elim (below_or i at l) [
          | inl s ↦ h.done i j s m
          | inr e ↦
              ap (λ (k : ℕ). slice_index (slice_index_or t k []) j) e ∙ ap (λ (x : List ℕ). slice_index x j) line
              ∙ counted-same (cell old at j) (slice_index row at) (slice_index row j) w.if-row-i-ne0.false
              ∙ ap (λ (k : ℕ). counted_on (cell old k j) (slice_index row k) (slice_index row j)) (sym e)
        ]);
        rest = λ i l. rw w.table-is (h.rest i (omega arith));
      }
    ]
