use Rattle.split_condense.proofs.taking.+take_out.Given as goal

abbrev pub decreases-take_out : goal.decreases-take_out
decreases-take_out g l = l.level
