use Rattle.number_grammar.proofs.Cuts.{one_set_of_parts}
use Rattle.number_grammar.proofs.parts_are_one.Goals as goal

pub returns : goal.returns
returns c = λ bytes one other. one_set_of_parts bytes one other
