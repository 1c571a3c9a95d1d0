use Rattle.std.proofs.Common.{sym, ◌∙◌}
use Rattle.std.proofs.lemmas.Bool.{false≢true}
use Rattle.tree_check.proofs.Ascents.{pairs-decide}
use Rattle.tree_check.proofs.words.are_same.Goals as goal

pub returns-clause-same : goal.returns-clause-same
returns-clause-same c = (pairs-decide c.args.first.now c.args.second.now c.eq.result c.eq.ensures).0

pub returns-clause-apart : goal.returns-clause-apart
returns-clause-apart c = λ no e. false≢true (sym no ∙ (pairs-decide c.args.first.now c.args.second.now c.eq.result c.eq.ensures).1 e)
