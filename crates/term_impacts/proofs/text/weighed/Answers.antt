use Rattle.std.proofs.Common.{[], sym, ap, subst, length, ◌∙◌, ◌≡◌, IfOk, arith}
use Rattle.term_impacts.specs.Impacts.{impacts_of}
use Rattle.term_impacts.specs.Left.{words_left}
use Rattle.term_impacts.proofs.TextLemmas.{HasTallied-more, HasTallied-all, length-seen}
use Rattle.term_impacts.proofs.text.weighed.Goals as goal

pub loop-word-init : goal.loop-word-init
loop-word-init c =
    let left = ap words_left c.into_iter-word-iterator.ensures.into_iter_gives ∙ c.new-word-items.ensures.left in
    record { can = tt; finite = tt; tallied = record { seen = []; all = sym left; tally = c.new-tally.ensures } }

pub add-requires : goal.add-requires
add-requires c =
    let tallied = c.loop-word.invariant.tallied in
    (tallied.seen, tallied.tally, omega (arith, length-seen _ _ _ _ tallied, ap length c.new-word-items.ensures.left, c.new-word-items.ensures.len))

pub loop-word-preserved : goal.loop-word-preserved
loop-word-preserved c =
    let tallied = c.loop-word.invariant.tallied in
    let more = HasTallied-more _ _ _ _ _ _ _ _ tallied c.in-Some.ensures.steps (c.in_ok-add.ensures tallied.seen tallied.tally) in
    record { can = tt; finite = tt; tallied = more }

pub impacts-requires : goal.impacts-requires
impacts-requires c =
    let tallied = c.loop-word.invariant.tallied in
    (tallied.seen, tallied.tally, omega (arith, length-seen _ _ _ _ tallied, ap length c.new-word-items.ensures.left, c.new-word-items.ensures.len))

pub returns : goal.returns
returns c =
    let tallied = c.loop-word.invariant.tallied in
    let all = HasTallied-all _ _ _ _ tallied c.in-None.ensures.steps.0 in
    subst (λ ws. IfOk c.impacts.result (λ map. map ≡ impacts_of ws)) all (c.impacts.ensures tallied.seen tallied.tally)
