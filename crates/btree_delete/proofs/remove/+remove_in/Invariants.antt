use Rattle.btree_delete.proofs.remove.+remove_in.Given as goal

abbrev pub decreases-remove_in : goal.decreases-remove_in
decreases-remove_in g l = l.level
