use Rattle.std.proofs.Common.{◌≡◌, ◌-◌, ◌++◌, ℕ, List, take, drop, length, None, subst, arith, rules, length-take, length-drop}
use Rattle.json_spelled.specs.Reader.{state_of}
use Rattle.json_spelled.specs.Feeding.{Reading, IsRefused}
use Rattle.json_spelled.proofs.Feeds.{reading_of, refused_of, refused_on, stands_refused, cut_next, cut_rest}
use Rattle.json_spelled.proofs.feed.Feed.push.Goals as goal

pub returns-in-Some-clause-took : goal.returns-in-Some-clause-took
returns-in-Some-clause-took c = λ bytes h.
    let feed = c.args.self.now in
    let piece = c.args.piece.now in
    stands_refused (bytes ++ piece) feed.fault c.in-Some.fault feed.pending.items feed.at (state_of feed.reader) c.in-Some.is
    (refused_on bytes piece c.in-Some.fault (refused_of bytes feed.fault c.in-Some.fault feed.pending.items feed.at (state_of feed.reader) c.in-Some.is h))

pub loop-index-preserved : goal.loop-index-preserved
loop-index-preserved c =
    let piece = c.args.piece.now in
    let i = c.loop-index.index in
    let n = c.in-Ok.taken in
    let new = c.take_some.new.self in
    record {
      within = omega (arith, c.in-Ok.ensures.taken.1, length-take (length piece - i) (drop i piece), length-drop i piece);
      going = first_of (search rules, cc);
      counted = omega (arith, c.in-Ok.ensures.count, c.loop-index.invariant.counted);
      reading = λ bytes r. subst (λ (x : List ℕ). Reading x new.pending.items new.at (state_of new.reader)) (cut_next bytes piece i n)
          (c.in-Ok.ensures.reading (bytes ++ take i piece) (c.loop-index.invariant.reading bytes r));
    }

pub returns-in-Err-clause-took : goal.returns-in-Err-clause-took
returns-in-Err-clause-took c = λ bytes h.
    let feed = c.args.self.now in
    let piece = c.args.piece.now in
    let i = c.loop-index.index in
    let going : feed.fault ≡ None = search rules in
    let first = reading_of bytes feed.fault feed.pending.items feed.at (state_of feed.reader) going h in
    subst (λ (x : List ℕ). IsRefused x c.in-Err.fault) (cut_rest bytes piece i) (c.in-Err.ensures.refused (bytes ++ take i piece) (c.loop-index.invariant.reading bytes first))
