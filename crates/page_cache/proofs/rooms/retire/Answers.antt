use Rattle.std.proofs.Common.{◌≡◌, length, sym, ◌∙◌, rules}
use Rattle.page_cache.specs.Pairs.{bytes_at, pairs_of}
use Rattle.page_cache.proofs.Tables.{no_room, other_key, retired_one}
use Rattle.page_cache.proofs.rooms.retire.Goals as goal

pub loop-number-preserved : goal.loop-number-preserved
loop-number-preserved c = record {
  ordered = c.pop_first.ensures.ordered;
  shrinks = λ n page is. c.loop-number.invariant.shrinks n page
      (retired_one c.loop-number.rooms c.pop_first.new.self c.loop-number.cache c.retire_one.new.cache c.in-Some.number c.in-Some.page c.in-Some.ensures.value c.in-Some.ensures.updates.1
      (λ k ne. c.in-Some.ensures.updates.2 k (other_key c.in-Some.number k (λ e. ne (sym e)))) c.retire_one.ensures.here c.retire_one.ensures.others n page is);
  room = c.retire_one.ensures.room ∙ c.loop-number.invariant.room;
}

pub returns-clause-shrinks : goal.returns-clause-shrinks
returns-clause-shrinks c = λ n page is.
    let none : length c.loop-number.rooms.entries ≡ 0 = search rules in
    c.loop-number.invariant.shrinks n page (no_room c.loop-number.rooms n (bytes_at n (pairs_of c.loop-number.cache)) none ∙ is)
