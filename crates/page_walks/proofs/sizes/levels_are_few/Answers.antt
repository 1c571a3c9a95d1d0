use Rattle.page_walks.proofs.Heights.{map-two, map-seven}
use Rattle.page_walks.proofs.sizes.levels_are_few.Goals as goal

pub returns-clause-two : goal.returns-clause-two
returns-clause-two c = map-two

pub returns-clause-seven : goal.returns-clause-seven
returns-clause-seven c = map-seven
