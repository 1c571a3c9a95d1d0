use Rattle.std.proofs.Common.{◌≡◌, ◌+◌, ◌-◌, ℕ, List, None, Some, length, length-drop, take, drop, suc, option_map, add-one, sym, ap, ◌∙◌, subst, arith}
use Rattle.std.proofs.lemmas.List.{drop-drop, take_all}
use Rattle.json_spelled.specs.Grammar.{Piece}
use Rattle.line_tokens.specs.Literal.{behind, escape_at}
use Rattle.line_tokens.proofs.Literals.{at_escape, at_no_escape, at_plain}
use Rattle.line_tokens.proofs.literal.literal_len.Goals as goal

-- the bytes behind a place, as the code cuts them
tail : (bytes : List ℕ) (at : ℕ) → take (length bytes - (at + 1)) (drop (at + 1) bytes) ≡ drop (suc at) bytes
tail bytes at = take_all _ (drop (at + 1) bytes) (omega (arith, length-drop (at + 1) bytes)) ∙ ap (λ n. drop n bytes) (add-one at)

pub returns-in_err-at-in-92-clause-rest : goal.returns-in_err-at-in-92-clause-rest
returns-in_err-at-in-92-clause-rest c =
    let bytes = c.args.bytes.now in
    let at = c.loop-at.at in
    let none = subst (λ (x : List ℕ). option_map {U = List ℕ} (λ (f : Piece × List ℕ). f.1) (escape_at x) ≡ None) (tail bytes at) c.in_err-at-in-92.ensures.rest in
    rw c.from_residual.ensures (c.loop-at.invariant.1 ∙ at_no_escape bytes at c.loop-at-test.true c.in-92.is none)

pub loop-at-preserved-in-92 : goal.loop-at-preserved-in-92
loop-at-preserved-in-92 c =
    let bytes = c.args.bytes.now in
    let at = c.loop-at.at in
    let len = c.in_ok-at-in-92.field-0 in
    let within = ap length (tail bytes at) in
    let ends = subst (λ (x : List ℕ). option_map {U = List ℕ} (λ (f : Piece × List ℕ). f.1) (escape_at x) ≡ Some (drop len x)) (tail bytes at) c.in_ok-at-in-92.ensures.rest in (
      omega (arith, c.in_ok-at-in-92.ensures.within, within, length-drop (suc at) bytes),
      c.loop-at.invariant.1 ∙ at_escape bytes at c.loop-at-test.true len c.in-92.is ends ∙ ap behind (drop-drop len (suc at) bytes ∙ ap (λ n. drop n bytes) (omega arith)),
    )

pub loop-at-preserved : goal.loop-at-preserved
loop-at-preserved c =
    let bytes = c.args.bytes.now in
    let at = c.loop-at.at in (
      omega arith,
      c.loop-at.invariant.1
          ∙ at_plain bytes at c.loop-at-test.true (λ e. absurd (omega (arith, e))) (λ e. absurd (omega (arith, e))) (omega arith)
          ∙ ap (λ n. behind (drop n bytes)) (sym (add-one at)),
    )
