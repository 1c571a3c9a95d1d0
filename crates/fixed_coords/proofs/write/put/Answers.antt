use Rattle.std.proofs.Common.{rules}
use Rattle.std.proofs.lemmas.Slice.{drop-put_mid}
use Rattle.fixed_coords.proofs.write.put.Goals as goal

-- what stands behind the bytes stays
pub returns-clause-rest : goal.returns-clause-rest
returns-clause-rest c = search (rules, drop-put_mid)
