use Rattle.std.proofs.Common.{◌≡◌, [], refl, sym, ◌∙◌, subst, arith, ℕ}
use Rattle.page_journal.specs.Record.{IsReady}
use Rattle.page_journal.proofs.Gates.{ready_0}
use Rattle.page_cache.proofs.Sealed.{empty_table, true_alike}
use Rattle.page_store.proofs.Holds.{cached_later}
use Rattle.page_store.proofs.Kept.{bare_none, images_at_front, images_alike, kept_alike, kept_none, same_pages}
use Rattle.page_store.proofs.store.Store.make_room.Goals as goal

pub invariant_of-self : goal.invariant_of-self
invariant_of-self g c =
    let self = c.args.self.now in
    let taken = c.take_room.ensures in
    let journal = c.take_room.new.journal in
    record {
      current_first = self.current_first;
      last_first = self.last_first;
      few = self.few;
      sized = self.sized;
      in_order = kept_alike self.journal journal self.rooms c.take_room.new.rooms self.in_order taken.same taken.others taken.ordered;
      bare = λ on n. taken.kept n ∙ self.bare on n;
      ready = self.ready;
      images = λ t on. images_alike self.journal journal _ taken.same (self.images t on);
      cached = λ t on. cached_later self.journal journal self.cache _ _ (λ n none. sym (same_pages self.journal journal n taken.same) ∙ none) refl (self.cached t on);
      sealed = true_alike self.seals self.overlay self.journal journal self.cache (λ n. same_pages self.journal journal n taken.same) self.sealed;
      lies = λ ne. absurd (ne refl);
    }

pub invariant_of-self-in-Ok : goal.invariant_of-self-in-Ok
invariant_of-self-in-Ok g c =
    let taken = c.take_room-2.ensures in
    let journal = c.take_room-2.new.journal in
    let rooms = c.take_room-2.new.rooms in
    let none : journal.entries ≡ [] = taken.same ∙ c.new-journal.ensures.empty in
    let settled = c.settle.new.self in
    let emptied : settled.journal.entries ≡ [] = c.in-Ok.ensures.retired (λ z. omega (arith, z, c.if-self-le-JOURNAL_MAX.false)) in
    record {
      current_first = settled.current_first;
      last_first = settled.last_first;
      few = settled.few;
      sized = settled.sized;
      in_order = kept_none journal rooms none taken.ordered;
      bare = λ on n. taken.kept n ∙ bare_none c.new-rooms.result n c.new-rooms.ensures.empty;
      ready = settled.ready;
      images = λ t on. images_at_front journal _ none (ready_0 _ (subst (λ (at : ℕ). IsReady at (g.D.Disk.world settled.disk.now)) c.in-Ok.ensures.front (settled.ready t on).ready));
      cached = λ t on. cached_later settled.journal journal settled.cache _ _ (λ n unkept. empty_table settled.journal n emptied) refl (settled.cached t on);
      sealed = true_alike settled.seals settled.overlay settled.journal journal settled.cache (λ n. empty_table journal n none ∙ sym (empty_table settled.journal n emptied)) settled.sealed;
      lies = λ ne. absurd (ne refl);
    }
