use Rattle.std.proofs.Common.{◌≡◌, ◌+◌, List, ℕ, [], ◌∷◌, ◌++◌, length, sym, subst, ◌∙◌, ap, arith, rules}
use Rattle.std.specs.Str.{IsUtf8}
use Rattle.json_spelled.specs.Reader.{state_of}
use Rattle.json_spelled.specs.Feeding.{Reads, StopsFrom, Reading}
use Rattle.json_spelled.proofs.Feeds.{takes, refuses, ill_formed, waits}
use Rattle.json_spelled.proofs.feed.Feed.take_byte.Goals as goal

pub returns-in-Err-clause-refused : goal.returns-in-Err-clause-refused
returns-in-Err-clause-refused c = λ bytes r.
    let feed = c.args.self.now in
    let e : c.push.new.self.items ≡ feed.pending.items ++ c.args.byte ∷ [] = search rules in
    let u : IsUtf8 (feed.pending.items ++ c.args.byte ∷ []) = subst IsUtf8 (c.deref.ensures.value ∙ e) c.in-Ok.ensures.cases.1 in
    refuses bytes feed.pending.items (c.args.byte ∷ []) feed.at (state_of feed.reader) c.in-Err.fault r u
    (subst (λ (x : List ℕ). StopsFrom x feed.at (state_of feed.reader) c.in-Err.fault) (c.in-Ok.ensures.cases.0 ∙ c.deref.ensures.value ∙ e) c.in-Err.ensures.stops)

pub returns-in-Ok-clause-reading : goal.returns-in-Ok-clause-reading
returns-in-Ok-clause-reading c = λ bytes r.
    let feed = c.args.self.now in
    let new = state_of c.take_text.new.self in
    let e : c.push.new.self.items ≡ feed.pending.items ++ c.args.byte ∷ [] = search rules in
    let u : IsUtf8 (feed.pending.items ++ c.args.byte ∷ []) = subst IsUtf8 (c.deref.ensures.value ∙ e) c.in-Ok.ensures.cases.1 in
    let done : Reading (bytes ++ c.args.byte ∷ []) [] (feed.at + length (feed.pending.items ++ c.args.byte ∷ [])) new =
    takes bytes feed.pending.items (c.args.byte ∷ []) feed.at (state_of feed.reader) new r u
    (subst (λ (x : List ℕ). Reads x (state_of feed.reader) new) (c.in-Ok.ensures.cases.0 ∙ c.deref.ensures.value ∙ e) c.in_default-take_text.ensures.reads) in
    let n : c.len.result ≡ length (feed.pending.items ++ c.args.byte ∷ []) = omega (arith, c.len.ensures, ap length e) in
    rw (c.clear.ensures.items, n) done

pub returns-then-len-ge4-clause-refused : goal.returns-then-len-ge4-clause-refused
returns-then-len-ge4-clause-refused c = λ bytes r.
    let feed = c.args.self.now in
    let e : c.push.new.self.items ≡ feed.pending.items ++ c.args.byte ∷ [] = search rules in
    ill_formed bytes feed.pending.items feed.at (state_of feed.reader) c.args.byte r
    (λ u. c.in_default.ensures.cases.0 (subst IsUtf8 (sym (c.deref.ensures.value ∙ e)) u))
    (omega (arith, ap length e, c.len-2.ensures))

pub returns-clause-reading : goal.returns-clause-reading
returns-clause-reading c = λ bytes r.
    let feed = c.args.self.now in
    let e : c.push.new.self.items ≡ feed.pending.items ++ c.args.byte ∷ [] = search rules in
    rw e
    (waits bytes feed.pending.items feed.at (state_of feed.reader) c.args.byte r
    (λ u. c.in_default.ensures.cases.0 (subst IsUtf8 (sym (c.deref.ensures.value ∙ e)) u))
    (omega (arith, ap length e, c.len-2.ensures)))
