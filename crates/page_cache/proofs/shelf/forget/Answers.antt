use Rattle.std.proofs.Common.{◌∙◌, ap}
use Rattle.page_cache.specs.Pairs.{pairs_in, bytes_at}
use Rattle.page_cache.proofs.Holding.{pairs-remove, bytes-gone, bytes-without}
use Rattle.std.proofs.Common.{nat_eq}
use Rattle.page_cache.proofs.shelf.forget.Goals as goal

pub returns-clause-pairs : goal.returns-clause-pairs
returns-clause-pairs c = rw c.pop-held.ensures.entries (pairs-remove (nat_eq c.args.page) c.args.shelf.now.entries)

pub returns-clause-gone : goal.returns-clause-gone
returns-clause-gone c = rw c.pop-held.ensures.entries (bytes-gone c.args.page c.args.shelf.now.entries c.len-size.ensures.valid.0)

pub returns-clause-others : goal.returns-clause-others
returns-clause-others c = λ n ne. ap (bytes_at n) (returns-clause-pairs c) ∙ bytes-without c.args.page n (pairs_in c.args.shelf.now.entries) ne
