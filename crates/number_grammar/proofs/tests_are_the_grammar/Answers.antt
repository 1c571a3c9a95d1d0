use Rattle.number_grammar.specs.Cut.{cut}
use Rattle.number_grammar.proofs.Tests.{number_passes, passed_number}
use Rattle.number_grammar.proofs.tests_are_the_grammar.Goals as goal

pub returns : goal.returns
returns c = λ bytes. (λ h. (cut bytes, passed_number bytes h), λ number. number_passes bytes number.0 number.1)
