use Rattle.std.proofs.Common.{ℕ, List, sym, ◌∙◌, subst}
use Rattle.json_spelled.specs.Grammar.{IsText}
use Rattle.json_spelled.specs.Json.{text}
use Rattle.line_tokens.proofs.Said.{literal_text, text_only}
use Rattle.line_tokens.proofs.literal.decoded.Goals as goal

pub returns-in-Ok : goal.returns-in-Ok
returns-in-Ok c = λ bytes says is literal.
    let utf8 = rw is at c.utf8.literal in
    let whole = c.as_bytes.ensures.value ∙ is in
    let same = c.in-Ok.ensures.only (text says) (subst (λ (x : List ℕ). IsText 64 (text says) x) (sym whole) (literal_text bytes says utf8 literal)) in
    text_only c.text_in.result _ c.ok_or.result _ says c.ok_or.ensures.value c.text_in.ensures same
