use Rattle.std.proofs.Common.{[], sym, subst, ◌∙◌}
use Rattle.term_impacts.proofs.TallyLemmas.{HasWeighed, HasWeighed-none, HasWeighed-more, HasWeighed-all, count_le_total, some_total, room_for_more}
use Rattle.term_impacts.proofs.tally.Tally.impacts.Goals as goal

pub loop-word-init : goal.loop-word-init
loop-word-init c =
    let entries = c.args.self.now.counts.entries in
    let total = c.args.self.now.total in
    let left = c.into_iter-word-iterator.ensures.into_iter_gives ∙ c.iter-word-items.ensures.rest in
    let weighed =
    subst (λ ps. HasWeighed entries total ps c.into_iter-word-iterator.result) (sym c.in_ok-words.ensures)
    (subst (λ rest. HasWeighed entries total [] rest) (sym left) (HasWeighed-none entries total)) in
    record { can = tt; finite = tt; weighed = weighed }

pub impact-requires-clause-some : goal.impact-requires-clause-some
impact-requires-clause-some c =
    let weighed = subst (λ rest. HasWeighed c.args.self.now.counts.entries c.args.self.now.total c.loop-word.words rest) c.in-Some.ensures.steps c.loop-word.invariant.weighed in
    some_total c.requires.0 _ _ _ _ _ _ c.requires.1 weighed

pub impact-requires-clause-share : goal.impact-requires-clause-share
impact-requires-clause-share c =
    let weighed = subst (λ rest. HasWeighed c.args.self.now.counts.entries c.args.self.now.total c.loop-word.words rest) c.in-Some.ensures.steps c.loop-word.invariant.weighed in
    count_le_total c.requires.0 _ _ _ _ _ _ c.requires.1 weighed

pub put-requires-clause-room : goal.put-requires-clause-room
put-requires-clause-room c =
    let weighed = subst (λ rest. HasWeighed c.args.self.now.counts.entries c.args.self.now.total c.loop-word.words rest) c.in-Some.ensures.steps c.loop-word.invariant.weighed in
    room_for_more c.requires.0 _ _ _ _ _ c.requires.1 weighed

pub loop-word-preserved : goal.loop-word-preserved
loop-word-preserved c =
    let weighed = subst (λ rest. HasWeighed c.args.self.now.counts.entries c.args.self.now.total c.loop-word.words rest) c.in-Some.ensures.steps c.loop-word.invariant.weighed in
    record { can = tt; finite = tt; weighed = HasWeighed-more _ _ _ _ _ _ c.impact.result _ weighed c.impact.ensures.value c.in_ok-put.ensures }

pub returns : goal.returns
returns c words is = HasWeighed-all words _ _ _ _ is c.loop-word.invariant.weighed c.in-None.ensures.steps.0
