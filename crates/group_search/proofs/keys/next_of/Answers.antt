use Rattle.place_values.specs.Search.{lists_in}
use Rattle.group_search.proofs.Nexts.{next-passed, next-refused, next-taken}
use Rattle.group_search.proofs.keys.next_of.Goals as goal

pub returns-then-not-comes_first-clause-next : goal.returns-then-not-comes_first-clause-next
returns-then-not-comes_first-clause-next c = λ far wide sorted dist picks is.
    let at = c.args.at.now in
    next-passed at (lists_in c.args.lists.now) c.args.most c.args.front.now.items picks c.args.pick.now c.args.next is (c.comes_first.ensures.after c.if-not-comes_first.true)

pub returns-then-branch-clause-next : goal.returns-then-branch-clause-next
returns-then-branch-clause-next c = λ far wide sorted dist picks is.
    let at = c.args.at.now in
    next-taken at (lists_in c.args.lists.now) c.args.most c.args.front.now.items picks c.args.pick.now c.args.next is (c.comes_first.ensures.before c.if-not-comes_first.false)
    (c.in_ok-completes.ensures.completed c.if-branch.true far wide sorted dist)

pub returns-clause-next : goal.returns-clause-next
returns-clause-next c = λ far wide sorted dist picks is.
    let at = c.args.at.now in
    next-refused at (lists_in c.args.lists.now) c.args.most c.args.front.now.items picks c.args.pick.now c.args.next is
    (c.in_ok-completes.ensures.refused c.if-branch.false far wide sorted dist)
