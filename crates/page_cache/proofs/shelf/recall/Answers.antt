use Rattle.std.proofs.Common.{sym, ◌∙◌, ap}
use Rattle.page_cache.specs.Pairs.{first_bytes, pairs_in, bytes_at}
use Rattle.page_cache.proofs.Holding.{pairs-found, pairs-promoted, first-to_front, bytes-to_front}
use Rattle.page_cache.proofs.shelf.recall.Goals as goal

pub returns-clause-found : goal.returns-clause-found
returns-clause-found c = c.promote.ensures.value ∙ sym (pairs-found c.args.page c.args.shelf.now.entries)

pub returns-clause-front : goal.returns-clause-front
returns-clause-front c = rw c.promote.ensures.entries (pairs-promoted c.args.page c.args.shelf.now.entries)

pub returns-clause-first : goal.returns-clause-first
returns-clause-first c = λ yes. ap first_bytes (returns-clause-front c) ∙ first-to_front c.args.page (pairs_in c.args.shelf.now.entries) (sym (returns-clause-found c) ∙ yes)

pub returns-clause-same : goal.returns-clause-same
returns-clause-same c = λ n. ap (bytes_at n) (returns-clause-front c) ∙ bytes-to_front c.args.page n (pairs_in c.args.shelf.now.entries)
