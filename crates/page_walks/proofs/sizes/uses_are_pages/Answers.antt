use Rattle.page_walks.proofs.Uses.{map-uses, map-all}
use Rattle.page_walks.proofs.sizes.uses_are_pages.Goals as goal

pub returns-clause-most : goal.returns-clause-most
returns-clause-most c = map-uses

pub returns-clause-all : goal.returns-clause-all
returns-clause-all c = map-all
