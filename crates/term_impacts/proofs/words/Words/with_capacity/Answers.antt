use Rattle.std.proofs.Common.{sym, subst}
use Rattle.term_impacts.specs.Pairs.{IsWordMap}
use Rattle.term_impacts.proofs.PairsLemmas.{IsWordMap-nil}
use Rattle.term_impacts.proofs.words.Words.with_capacity.Goals as goal

pub invariant_of-result : goal.invariant_of-result
invariant_of-result c = subst IsWordMap (sym c.in_ok-with_capacity.ensures.items) IsWordMap-nil
