use Rattle.std.proofs.Common.{arith, ◌≡◌, ◌<◌, ◌≤◌, ◌+◌, ⊎_elim, ℕ, subst, sym, ◌∙◌}
use Rattle.std.proofs.lemmas.Bool.{cases_lt}
use Rattle.page_face.specs.Cells.{key_at}
use Rattle.btree_nodes.proofs.Overlaps.{if-less, less-if}
use Rattle.btree_nodes.proofs.pairs.ascends_by_pairs.Goals as goal
use Rattle.btree_nodes.proofs.Spots.{fits_at}

pub pair_of-next-requires-clause-fits : goal.pair_of-next-requires-clause-fits
pair_of-next-requires-clause-fits c = fits_at c.args.width (c.loop-at.at + 1) c.args.count (omega arith) c.requires.fits

pub returns-then-not-is_less : goal.returns-then-not-is_less
returns-then-not-is_less c = (
  λ h i a b. cc,
  λ asc.
      let less = asc c.loop-at.at c.loop-at.auto.at (omega arith) in
      let yes = c.is_less.ensures.1 (less-if c.args.key c.args.width c.args.page.now c.args.count c.loop-at.at c.requires.long c.requires.short c.requires.wide c.requires.fits c.told-page c.fits-page (omega arith)
      c.loop-at.last c.pair_of-next.result c.loop-at.invariant.last c.pair_of-next.ensures less) in
      sym c.if-not-is_less.true ∙ yes,
)

pub loop-at-preserved : goal.loop-at-preserved
loop-at-preserved c = record {
  last = c.pair_of-next.ensures;
  order = λ i a l. ⊎_elim
      (λ (k : i < c.loop-at.at). c.loop-at.invariant.order i a k)
      (λ (k : c.loop-at.at ≤ i).
      let same : c.loop-at.at ≡ i = omega arith in
      subst (λ (n : ℕ). key_at c.args.key c.args.width c.args.page.now n < key_at c.args.key c.args.width c.args.page.now (n + 1)) same
      (if-less c.args.key c.args.width c.args.page.now c.args.count c.loop-at.at c.requires.long c.requires.short c.requires.wide c.requires.fits c.told-page c.fits-page (omega arith)
      c.loop-at.last c.pair_of-next.result c.loop-at.invariant.last c.pair_of-next.ensures (c.is_less.ensures.0 c.if-not-is_less.false)))
      (cases_lt i c.loop-at.at);
}
