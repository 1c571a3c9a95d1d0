use Rattle.std.proofs.Common.{◌≡◌, ℕ, ◌<◌, ◌∙◌, max, ap, sym, arith, take, get_or, length, List}
use Rattle.std.proofs.lemmas.List.{take_more}
use Rattle.node_rows.specs.Impacts.{impact_in, impact_at}
use Rattle.node_rows.proofs.Impacts.{impact-one}
use Rattle.node_rows.proofs.pairing.impact_of.Goals as goal

pub loop-pair-preserved : goal.loop-pair-preserved
loop-pair-preserved c =
    let l : c.loop-pair.pair-index < length c.args.words.now = omega arith in
    let p : ℕ × ℕ = get_or c.args.words.now c.loop-pair.pair-index (0, 0) in
    let front : List (ℕ × ℕ) = take c.loop-pair.pair-index c.args.words.now in
    let one : c.later-impact.result ≡ max c.loop-pair.impact (impact_at p c.args.number) = c.later-impact.ensures in
    one ∙ ap (λ (k : ℕ). max k (impact_at p c.args.number)) c.loop-pair.invariant ∙ sym (impact-one front p c.args.number)
    ∙ ap (λ (ps : List (ℕ × ℕ)). impact_in ps c.args.number) (sym (take_more c.args.words.now c.loop-pair.pair-index (0, 0) l))
