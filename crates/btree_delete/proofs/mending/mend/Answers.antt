use Rattle.btree_delete.proofs.mending.mend.Goals as goal

pub returns-clause-becomes : goal.returns-clause-becomes
returns-clause-becomes g c = c.in_ok-left.ensures.becomes
