use Rattle.std.proofs.Common.{ℕ, refl, arith, sym, subst}
use Rattle.std.proofs.lemmas.Bool.{false≢true}
use Rattle.page_journal.specs.Record.{IsReady}
use Rattle.page_journal.proofs.Gates.{ready_0}
use Rattle.page_cache.proofs.Sealed.{filled_is, retired_behind, true_behind, true_none}
use Rattle.page_store.proofs.Committed.{committed_later}
use Rattle.page_store.proofs.Holds.{cached_retired}
use Rattle.page_store.proofs.Kept.{bare_none, images_at_front, images_filled, kept_none}
use Rattle.page_store.proofs.store.Store.settle.Goals as goal

pub checkpoint-requires-clause-some : goal.checkpoint-requires-clause-some
checkpoint-requires-clause-some g c = λ t. omega (arith, (c.args.self.now.ready t c.if-self.false).ready.end, c.if-self-eq0.false)

pub checkpoint-requires-clause-images : goal.checkpoint-requires-clause-images
checkpoint-requires-clause-images g c = λ t.
    let self = c.args.self.now in
    images_filled self.journal c.fill.new.rooms _ c.fill.ensures.ordered self.in_order.sized (filled_is self.journal self.rooms c.fill.new.rooms (self.bare c.if-self.false) c.fill.ensures.filled) (self.images t c.if-self.false)

pub invariant_of-self : goal.invariant_of-self
invariant_of-self g c = let self = c.args.self.now in record {
  current_first = self.current_first;
  last_first = self.last_first;
  few = self.few;
  sized = self.sized;
  in_order = kept_none c.fill.new.table c.fill.new.rooms c.fill.ensures.empty c.fill.ensures.ordered;
  bare = λ on. absurd (false≢true (sym on));
  ready = λ t on. absurd (false≢true (sym on));
  images = λ t on. absurd (false≢true (sym on));
  cached = λ t on. absurd (false≢true (sym on));
  sealed = true_none c.clear.new.self self.overlay c.fill.new.table self.cache c.clear.ensures;
  lies = λ ne. absurd (ne refl);
}

pub invariant_of-self-2 : goal.invariant_of-self-2
invariant_of-self-2 g c =
    let self = c.args.self.now in
    let fills = filled_is self.journal self.rooms c.fill.new.rooms (self.bare c.if-self.false) c.fill.ensures.filled in
    let shrinks = retired_behind self.journal c.fill.new.table c.fill.new.rooms self.cache c.retire.new.cache fills c.fill.ensures.empty c.retire.ensures.shrinks in
    record {
      current_first = self.current_first;
      last_first = self.last_first;
      few = self.few;
      sized = self.sized;
      in_order = kept_none c.fill.new.table c.retire.new.rooms c.fill.ensures.empty c.retire.ensures.ordered;
      bare = λ on n. bare_none c.retire.new.rooms n c.retire.ensures.empty;
      ready = λ t on. committed_later (self.ready t c.if-self.false) (c.in-Ok.ensures.ready t) (c.in-Ok.ensures.applied t);
      images = λ t on. images_at_front c.fill.new.table _ c.fill.ensures.empty (ready_0 _ (c.in-Ok.ensures.ready t));
      cached = λ t on. cached_retired self.journal c.fill.new.table self.cache c.retire.new.cache _ _ (self.images t c.if-self.false) (c.in-Ok.ensures.in_place t) shrinks (self.cached t c.if-self.false);
      sealed = true_behind self.seals self.overlay self.journal c.fill.new.table self.cache c.retire.new.cache shrinks self.sealed;
      lies = λ ne. absurd (ne refl);
    }

pub returns-then-self-eq0-clause-in_place : goal.returns-then-self-eq0-clause-in_place
returns-then-self-eq0-clause-in_place g c = λ t. sym (ready_0 _ (subst (λ (at : ℕ). IsReady at (g.D.Disk.world c.args.self.now.disk.now)) c.if-self-eq0.true (c.args.self.now.ready t c.if-self.false).ready))
