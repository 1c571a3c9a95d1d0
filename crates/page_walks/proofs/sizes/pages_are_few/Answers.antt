use Rattle.std.proofs.Common.{arith}
use Rattle.page_walks.proofs.Uses.{map-uses}
use Rattle.page_walks.proofs.Fills.{map-few, map-full}
use Rattle.page_walks.proofs.sizes.pages_are_few.Goals as goal

pub returns-clause-few : goal.returns-clause-few
returns-clause-few c = map-few

pub returns-clause-used : goal.returns-clause-used
returns-clause-used c = λ form pages root count map. let u = map-uses form pages root count in let f = map-few form pages root map in omega arith

pub returns-clause-full : goal.returns-clause-full
returns-clause-full c = map-full
