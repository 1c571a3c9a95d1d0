use Rattle.std.proofs.Common.{ℕ, Err, refl, ap, subst, arith}
use Rattle.page_store.specs.Superblock.{IsInRange}
use Rattle.store_verify.proofs.Apart.{broken-apart}
use Rattle.store_verify.specs.Verdicts.{block_of}
use Rattle.store_verify.proofs.verdict.verify.Goals as goal

pub returns-in-Err-Damaged-clause-whole : goal.returns-in-Err-Damaged-clause-whole
returns-in-Err-Damaged-clause-whole g c = λ told. (
  (λ same. absurd (cc same)),
  (λ whole.
      let p = g.P.Pages in
      let old = c.args.pages.now in
      let range : IsInRange (block_of (p.count old) (p.first old) c.args.head.now) =
      subst (λ (n : ℕ). IsInRange (block_of n (p.first old) c.args.head.now)) c.counted.ensures
      (subst (λ (m : ℕ). IsInRange (block_of c.counted.result m c.args.head.now)) c.first_free.ensures (c.if-not-is_in_range.ensures.0 refl)) in
      absurd (broken-apart (block_of (p.count old) (p.first old) c.args.head.now) (p.pages old) c.in-Err-Damaged.damage (omega (arith, c.counted.ensures))
      (c.in-Err-Damaged.ensures.damaged told range c.in-Err-Damaged.damage (ap Err c.in-Err-Damaged.field-0-is)) whole)),
)
