use Rattle.std.proofs.Common.{◌≡◌, ◌+◌, ℕ, ◌<◌, ◌≤◌, ◌∙◌, min, ap, sym, arith, refl, slice_index, take, get_or, length, List, [], ◌∷◌}
use Rattle.std.proofs.lemmas.List.{take_more, take_all}
use Rattle.node_rows.specs.Counts.{sign, most}
use Rattle.node_rows.proofs.Bytes.{zero-at}
use Rattle.node_rows.proofs.Counts.{capped}
use Rattle.node_rows.proofs.Known.{known-signs, signs_in, signs-push}
use Rattle.node_rows.proofs.sharing.shared_by.Goals as goal

pub loop-row-init : goal.loop-row-init
loop-row-init c = λ i l. zero-at (0 ∷ 0 ∷ 0 ∷ 0 ∷ 0 ∷ 0 ∷ 0 ∷ 0 ∷ 0 ∷ 0 ∷ 0 ∷ 0 ∷ 0 ∷ 0 ∷ 0 ∷ 0 ∷ 0 ∷ 0 ∷ 0 ∷ 0 ∷ 0 ∷ 0 ∷ 0 ∷ 0 ∷ 0 ∷ 0 ∷ 0 ∷ 0 ∷ 0 ∷ 0 ∷ 0 ∷ 0 ∷ []) i refl

pub loop-row-preserved : goal.loop-row-preserved
loop-row-preserved c = λ i l.
    let at : ℕ = c.loop-row.row-index in
    let r : List ℕ = get_or c.args.rows.now at [] in
    let front : List (List ℕ) = take at c.args.rows.now in
    let m : at < length c.args.rows.now = omega arith in
    let more : signs_in (take (at + 1) c.args.rows.now) i ≡ signs_in front i + sign (slice_index r i) =
    ap (λ (rs : List (List ℕ)). signs_in rs i) (take_more c.args.rows.now at [] m) ∙ signs-push front r i in
    c.add_signs.ensures i l ∙ ap (λ (k : ℕ). min (k + sign (slice_index r i)) most) (c.loop-row.invariant i l)
    ∙ capped (signs_in front i) (sign (slice_index r i)) most ∙ ap (λ (k : ℕ). min k most) (sym more)

pub returns : goal.returns
returns c = λ b node words known i l.
    let rest : length c.args.rows.now ≤ c.loop-row.row-index = omega arith in
    c.loop-row.invariant i l ∙ ap (λ (rs : List (List ℕ)). min (signs_in rs i) most) (take_all c.loop-row.row-index c.args.rows.now rest)
    ∙ ap (λ (k : ℕ). min k most) (known-signs b node words c.args.rows.now i known)
