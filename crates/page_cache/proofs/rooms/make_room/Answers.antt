use Rattle.std.proofs.Common.{refl, sym, subst, ◌∙◌, List, ℕ}
use Rattle.page_cache.proofs.Tables.{HasRoomBut, room_but_keys}
use Rattle.page_cache.proofs.rooms.make_room.Goals as goal

pub loop-number-init : goal.loop-number-init
loop-number-init c = record {
  can_next = tt;
  is_finite = tt;
  ordered = c.requires.ordered;
  kept = λ n. refl;
  others = λ n has. has;
  room = subst (λ (rest : List ℕ). HasRoomBut rest c.args.table.now c.args.rooms.now) (sym (c.into_iter-number-iterator.ensures.into_iter_gives ∙ c.keys-number-items.ensures.rest))
      (room_but_keys c.args.table.now c.args.rooms.now);
}
