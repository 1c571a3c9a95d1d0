use Rattle.std.proofs.Common.{◌++◌, length, take, drop, refl, sym, ap, ◌∙◌, arith}
use Rattle.load_run.proofs.Outcomes.{read-whole, read-more, read-long}
use Rattle.load_run.proofs.run.read_text.Goals as goal
use Rattle.run_outcome.proofs.Lists.{take-over}

pub returns-then-n-eq0-clause-told : goal.returns-then-n-eq0-clause-told
returns-then-n-eq0-clause-told g c = λ readable.
    let given = c.in-Ok-read.ensures.told readable in
    read-whole _ c.pieces.text.items (g.S.Source.left c.pieces.source) (g.S.Source.left c.read.new.self) _ (c.pieces.invariant.came readable) given.given (given.ends c.if-n-eq0.true)

pub returns-then-n-len-clause-told : goal.returns-then-n-len-clause-told
returns-then-n-len-clause-told g c = λ readable.
    read-long (g.S.Source.left c.args.source.now) c.pieces.text.items (g.S.Source.left c.pieces.source) (g.S.Source.left c.read.new.self) c.read.new.buf c.in-Ok-read.n (c.pieces.invariant.came readable) (c.in-Ok-read.ensures.told readable).given c.in-Ok-read.ensures.count
    (omega (arith, c.len.ensures, c.if-n-len.true))

pub pieces-preserved : goal.pieces-preserved
pieces-preserved g c = record {
  short = omega (arith, c.in-Ok-extend_from_slice.ensures.len, c.split_at.ensures.front_len, c.len.ensures, c.if-n-len.false, c.pieces.invariant.short);
  room = c.pieces.invariant.room;
  came = λ readable.
      read-more _ c.pieces.text.items (g.S.Source.left c.pieces.source) (g.S.Source.left c.read.new.self) c.split_at.result.0.now c.extend_from_slice.new.self.items (c.pieces.invariant.came readable)
      ((c.in-Ok-read.ensures.told readable).given ∙ ap (λ b. b ++ g.S.Source.left c.read.new.self) (sym (take-over c.in-Ok-read.n c.pieces.piece.len c.read.new.buf (drop (length c.read.new.buf) c.pieces.piece.items) c.in-Ok-read.ensures.count (omega (arith, c.read.auto.buf, c.deref_mut.ensures.len, c.pieces.invariant.room))) ∙ ap (take c.in-Ok-read.n) (sym c.as_slice.ensures.value) ∙ sym c.split_at.ensures.front))
      c.in-Ok-extend_from_slice.ensures.items;
  later = omega (arith, c.in-Ok-read.ensures.cause.later, c.pieces.invariant.later);
  stays = c.in-Ok-read.ensures.cause.stays ∙ c.pieces.invariant.stays;
}

pub returns-in-Err-read-clause-cause : goal.returns-in-Err-read-clause-cause
returns-in-Err-read-clause-cause g c = record {
  later = omega (arith, c.in-Err-read.ensures.cause.later, c.pieces.invariant.later);
  stays = λ other. absurd (other refl);
  cause = omega (arith, c.in-Err-read.ensures.cause.rose, c.pieces.invariant.later);
}
