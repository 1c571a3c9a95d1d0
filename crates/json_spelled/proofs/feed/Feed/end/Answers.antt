use Rattle.std.proofs.Common.{◌≡◌, ◌<◌, length, None, Some, sym, arith, rules}
use Rattle.std.proofs.lemmas.Bool.Decides.{nat_tests}
use Rattle.json_spelled.specs.Machine.{finish}
use Rattle.json_spelled.specs.View.{json_of}
use Rattle.json_spelled.specs.declared.tree.JsonFault.TheVariants.{NotUtf8, Syntax}
use Rattle.json_spelled.specs.Reader.{state_of}
use Rattle.json_spelled.proofs.Feeds.{ends, ends_early, ends_within, reading_of, refused_of, refused_all, told_read, told_refused}
use Rattle.json_spelled.proofs.feed.Feed.end.Goals as goal

pub returns-in-Some-clause-told : goal.returns-in-Some-clause-told
returns-in-Some-clause-told c = λ bytes h.
    told_refused bytes c.in-Some.fault (refused_all bytes c.in-Some.fault (refused_of bytes c.args.self.fault c.in-Some.fault c.args.self.pending.items c.args.self.at (state_of c.args.self.reader) c.in-Some.is h))

pub returns-then-not-is_empty-clause-told : goal.returns-then-not-is_empty-clause-told
returns-then-not-is_empty-clause-told c = λ bytes h.
    let going : c.args.self.fault ≡ None = search rules in
    let some : 0 < length c.args.self.pending.items = grind (arith, nat_tests) in
    told_refused bytes (NotUtf8 c.args.self.at)
    (λ known. ends_within bytes c.args.self.pending.items c.args.self.at (state_of c.args.self.reader) (reading_of bytes c.args.self.fault c.args.self.pending.items c.args.self.at (state_of c.args.self.reader) going h) some)

pub returns-in-Ok-Some-clause-told : goal.returns-in-Ok-Some-clause-told
returns-in-Ok-Some-clause-told c = λ bytes h.
    let going : c.args.self.fault ≡ None = search rules in
    let none : length c.args.self.pending.items ≡ 0 = grind (arith, nat_tests) in
    let value : finish (state_of c.args.self.reader) ≡ Some (json_of c.in-Ok-Some.tree) = sym (rw c.in-Ok-Some.field-0-is at c.in-Ok-Some.ensures) in
    told_read bytes c.in-Ok-Some.tree
    (ends bytes c.args.self.pending.items c.args.self.at (state_of c.args.self.reader) (json_of c.in-Ok-Some.tree) (reading_of bytes c.args.self.fault c.args.self.pending.items c.args.self.at (state_of c.args.self.reader) going h) none value)

pub returns-in-Ok-None-clause-told : goal.returns-in-Ok-None-clause-told
returns-in-Ok-None-clause-told c = λ bytes h.
    let going : c.args.self.fault ≡ None = search rules in
    let none : length c.args.self.pending.items ≡ 0 = grind (arith, nat_tests) in
    let value : finish (state_of c.args.self.reader) ≡ None = sym (rw c.in-Ok-None.field-0-is at c.in-Ok-None.ensures) in
    told_refused bytes (Syntax c.args.self.at)
    (λ known. ends_early bytes c.args.self.pending.items c.args.self.at (state_of c.args.self.reader) (reading_of bytes c.args.self.fault c.args.self.pending.items c.args.self.at (state_of c.args.self.reader) going h) none value)
