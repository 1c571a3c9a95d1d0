use Rattle.fixed_coords.proofs.OneReading.{one_reading, one_coordinate}
use Rattle.fixed_coords.proofs.read.reading_is_one.Goals as goal

pub returns-clause-number : goal.returns-clause-number
returns-clause-number c = λ bytes one other. one_reading bytes one other

pub returns-clause-coordinate : goal.returns-clause-coordinate
returns-clause-coordinate c = λ most bytes one other. one_coordinate most bytes one other
