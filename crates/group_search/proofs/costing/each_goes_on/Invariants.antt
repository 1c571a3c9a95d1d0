use Rattle.group_search.proofs.costing.each_goes_on.Given as goal

abbrev pub invariant-loop-list : goal.invariant-loop-list
invariant-loop-list l = Unit {0}
