use Rattle.std.proofs.Common.{◌≡◌, ◌<◌, ◌≤◌, ◌++◌, ℕ, List, length, get_or, None, false, subst, arith, rules}
use Rattle.std.specs.Prelude.{string_bytes, is_err}
use Rattle.json_spelled.specs.Grammar.{alone}
use Rattle.json_spelled.specs.Machine.{InText, InBytes}
use Rattle.json_spelled.specs.Reader.{state_of, use_of, around}
use Rattle.json_spelled.specs.Feeding.{IsTaken}
use Rattle.json_spelled.proofs.Runs.{run_leads, made_of}
use Rattle.json_spelled.proofs.reader.Reader.take_in_text.Goals as goal

pub returns-then-index-end-clause-leads : goal.returns-then-index-end-clause-leads
returns-then-index-end-clause-leads c =
    let old = c.args.self.now in
    let text = c.args.text.now in
    let i = c.args.index in
    let end = c.plain_end-end.result in
    let new = state_of c.take_run.new.self in
    let fine : is_err c.take_run.result ≡ false = first_of (search rules, cc) in
    let within : end ≤ length text = omega (arith, c.plain_end-end.ensures.within, c.as_bytes.ensures.len) in
    let plain = subst (λ (x : List ℕ). (k : ℕ) → i ≤ k → k < end → IsTaken (get_or x k 0)) c.as_bytes.ensures.value c.plain_end-end.ensures.taken in
    let made = made_of c.take_run.result (InText (use_of old.place) InBytes ((string_bytes old.token ++ alone old.high) ++ c.range.result.now) None (around old)) new fine c.take_run.ensures in
    run_leads text i end old new c.requires.lexeme c.utf8.text c.if-index-end.true within plain
    (subst (λ (x : List ℕ). new ≡ InText (use_of old.place) InBytes ((string_bytes old.token ++ alone old.high) ++ x) None (around old)) c.range.ensures.value made)
