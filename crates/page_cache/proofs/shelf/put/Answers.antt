use Rattle.std.proofs.Common.{sym, ◌∙◌, ap}
use Rattle.std.specs.Option.{is_some}
use Rattle.std.specs.Map.{lookup}
use Rattle.std.proofs.Common.{nat_eq}
use Rattle.std.proofs.lemmas.Bool.{false≢true}
use Rattle.page_cache.specs.Pairs.{pairs_in, bytes_at, Shelf}
use Rattle.page_cache.proofs.Holding.{pairs-put, pairs-none, bytes-first, bytes-others, none_unless, refused}
use Rattle.page_cache.proofs.shelf.put.Goals as goal

pub returns-in-Ok-Some-clause-kept : goal.returns-in-Ok-Some-clause-kept
returns-in-Ok-Some-clause-kept c = rw c.in-Ok-Some.ensures.entries (pairs-put c.args.shelf.now.entries c.args.shelf.now.cap c.args.page c.args.bytes c.len-size.ensures.valid.1 c.len-size.ensures.valid.2)

pub returns-in-Ok-Some-clause-here : goal.returns-in-Ok-Some-clause-here
returns-in-Ok-Some-clause-here c = λ held is. bytes-first c.args.shelf.now.cap c.args.page c.args.bytes.value held (pairs_in c.args.shelf.now.entries) (sym (ap (bytes_at c.args.page) (returns-in-Ok-Some-clause-kept c)) ∙ is)

pub returns-in-Ok-Some-clause-others : goal.returns-in-Ok-Some-clause-others
returns-in-Ok-Some-clause-others c = λ n held ne is. bytes-others c.args.shelf.now.cap c.args.page n c.args.bytes.value held (pairs_in c.args.shelf.now.entries) ne (sym (ap (bytes_at n) (returns-in-Ok-Some-clause-kept c)) ∙ is)

pub returns-in-Ok-None-clause-kept : goal.returns-in-Ok-None-clause-kept
returns-in-Ok-None-clause-kept c = rw c.in-Ok-None.ensures.entries (pairs-put c.args.shelf.now.entries c.args.shelf.now.cap c.args.page c.args.bytes c.len-size.ensures.valid.1 c.len-size.ensures.valid.2)

pub returns-in-Ok-None-clause-here : goal.returns-in-Ok-None-clause-here
returns-in-Ok-None-clause-here c = λ held is. bytes-first c.args.shelf.now.cap c.args.page c.args.bytes.value held (pairs_in c.args.shelf.now.entries) (sym (ap (bytes_at c.args.page) (returns-in-Ok-None-clause-kept c)) ∙ is)

pub returns-in-Ok-None-clause-others : goal.returns-in-Ok-None-clause-others
returns-in-Ok-None-clause-others c = λ n held ne is. bytes-others c.args.shelf.now.cap c.args.page n c.args.bytes.value held (pairs_in c.args.shelf.now.entries) ne (sym (ap (bytes_at n) (returns-in-Ok-None-clause-kept c)) ∙ is)

pub returns-in-Err-clause-memory : goal.returns-in-Err-clause-memory
returns-in-Err-clause-memory c = pairs-none c.args.page c.args.shelf.now.entries
    (none_unless (lookup (nat_eq c.args.page) c.args.shelf.now.entries) (λ there. refused c.push.result c.in-Err.failed c.in-Err.is (c.push.ensures.succeeds there)))

pub returns-in-Err-clause-here : goal.returns-in-Err-clause-here
returns-in-Err-clause-here c = λ held is. let same = ap (λ (s : Shelf). bytes_at c.args.page (pairs_in s.entries)) c.in-Err.ensures.err in
    absurd (false≢true (ap is_some (sym (returns-in-Err-clause-memory c) ∙ sym same ∙ is)))
