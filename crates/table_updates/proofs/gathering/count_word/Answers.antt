use Rattle.std.proofs.Common.{◌≡◌, ℕ, List, Option, unwrap_or, sym, ap, subst, ◌∙◌, arith}
use Rattle.std.specs.List.{IsDistinct}
use Rattle.std.specs.Map.{keys_of}
use Rattle.std.specs.Str.{bytes_eq}
use Rattle.store_model.specs.Ahead.{AreCountedWords, times_counted}
use Rattle.table_updates.proofs.Counting.{counted-at, counted-more, keys-put, order-at, times-at, times-more, times-most, times-none, times_of}
use Rattle.table_updates.proofs.gathering.count_word.Goals as goal

pub overflow_add-index_mut : goal.overflow_add-index_mut
overflow_add-index_mut c =
    let times : times_of c.args.word.now c.args.counts.now.entries ≡ c.index_mut.result.now = ap (λ (f : Option ℕ). unwrap_or f 0) (sym c.in-Some.ensures.value ∙ c.index_mut.ensures.value) in
    let most = times-most c.args.word.now c.args.counts.now.entries in
    let room = c.requires.room in
    omega (arith, times, most, room)

pub returns-in-Some-clause-counted : goal.returns-in-Some-clause-counted
returns-in-Some-clause-counted c =
    counted-at c.args.word.now c.args.counts.now.entries c.in-Some.at c.index_mut.result.now (sym c.in-Some.ensures.index) c.requires.counted

pub returns-in-Some-clause-more : goal.returns-in-Some-clause-more
returns-in-Some-clause-more c = λ has.
    times-at c.args.word.now c.args.counts.now.entries c.in-Some.at c.index_mut.result.now (sym c.in-Some.ensures.index) has (ap (λ (f : Option ℕ). unwrap_or f 0) (sym c.in-Some.ensures.value ∙ c.index_mut.ensures.value))

pub returns-in-Ok-clause-counted : goal.returns-in-Ok-clause-counted
returns-in-Ok-clause-counted c =
    let put = c.in-Ok.ensures.entries in
    subst AreCountedWords (sym put) (counted-more c.args.word.now 0 c.args.counts.now.entries c.requires.counted (subst (λ (counts : List (List ℕ × ℕ)). IsDistinct bytes_eq (keys_of counts)) put c.insert.ensures.unique))

pub returns-in-Ok-clause-more : goal.returns-in-Ok-clause-more
returns-in-Ok-clause-more c = λ has.
    ap (times_counted has) c.in-Ok.ensures.entries ∙ times-more has c.args.word.now c.args.counts.now.entries 0 (times-none _ c.in_default.ensures.found)

pub returns-in-Some-clause-order : goal.returns-in-Some-clause-order
returns-in-Some-clause-order c = order-at c.args.word.now c.args.counts.now.entries c.in-Some.at c.index_mut.result.now (sym c.in-Some.ensures.index)

pub returns-in-Ok-clause-order : goal.returns-in-Ok-clause-order
returns-in-Ok-clause-order c = ap keys_of c.in-Ok.ensures.entries ∙ keys-put c.args.word.now 1 c.args.counts.now.entries
