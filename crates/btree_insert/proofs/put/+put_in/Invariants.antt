use Rattle.btree_insert.proofs.put.+put_in.Given as goal

abbrev pub decreases-put_in : goal.decreases-put_in
decreases-put_in g l = l.level
