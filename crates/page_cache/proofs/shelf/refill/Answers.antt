use Rattle.std.proofs.Common.{refl, sym, ◌∙◌, ap}
use Rattle.std.specs.Box.{with_value}
use Rattle.std.specs.Option.{is_some}
use Rattle.std.proofs.lemmas.Bool.{false≢true}
use Rattle.page_cache.specs.Pairs.{pairs_in, bytes_at}
use Rattle.page_cache.proofs.Holding.{pairs-found, pairs-none, pairs-set, bytes-first, bytes-others}
use Rattle.page_cache.proofs.shelf.refill.Goals as goal

pub returns-in-Some-clause-found : goal.returns-in-Some-clause-found
returns-in-Some-clause-found c = ap is_some c.in-Some.ensures.value ∙ sym (pairs-found c.args.page c.args.shelf.now.entries)

pub returns-in-Some-clause-kept : goal.returns-in-Some-clause-kept
returns-in-Some-clause-kept c = λ yes. pairs-set c.args.shelf.now.entries c.args.shelf.now.cap c.args.page (with_value c.in-Some.held.now c.args.bytes.now) c.len-size.ensures.valid.1 c.len-size.ensures.valid.2 (sym (ap is_some c.in-Some.ensures.value))

pub returns-in-Some-clause-here : goal.returns-in-Some-clause-here
returns-in-Some-clause-here c = λ held is. bytes-first c.args.shelf.now.cap c.args.page c.args.bytes.now held (pairs_in c.args.shelf.now.entries) (sym (ap (bytes_at c.args.page) (returns-in-Some-clause-kept c refl)) ∙ is)

pub returns-in-Some-clause-others : goal.returns-in-Some-clause-others
returns-in-Some-clause-others c = λ n held ne is. bytes-others c.args.shelf.now.cap c.args.page n c.args.bytes.now held (pairs_in c.args.shelf.now.entries) ne (sym (ap (bytes_at n) (returns-in-Some-clause-kept c refl)) ∙ is)

pub returns-in-None-clause-found : goal.returns-in-None-clause-found
returns-in-None-clause-found c = ap is_some c.in-None.ensures.value ∙ sym (pairs-found c.args.page c.args.shelf.now.entries)

pub returns-in-None-clause-here : goal.returns-in-None-clause-here
returns-in-None-clause-here c = λ held is. absurd (false≢true (ap is_some (sym (pairs-none c.args.page c.args.shelf.now.entries (sym c.in-None.ensures.value)) ∙ is)))
