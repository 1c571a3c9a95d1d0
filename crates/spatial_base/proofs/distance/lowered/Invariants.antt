use Rattle.spatial_base.proofs.distance.lowered.Given as goal

abbrev pub decreases-loop-root : goal.decreases-loop-root
decreases-loop-root l = l.root
