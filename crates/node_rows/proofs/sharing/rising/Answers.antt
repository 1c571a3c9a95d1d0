use Rattle.std.proofs.Common.{◌≡◌, ◌+◌, ℕ, ◌<◌, ◌≤◌, ◌∙◌, max, ap, sym, arith, take, get_or, length, List, [], ◌∷◌, ◌++◌, nat_lt, Bool, true, false, cond, filter, append-nil, slice_index, slice_index_or, Vec, Global}
use Rattle.std.proofs.lemmas.Bool.Decides.{nat_tests}
use Rattle.std.proofs.lemmas.List.{take_all}
use Rattle.std.proofs.lemmas.List.Elements.{filter_more}
use Rattle.node_rows.specs.Impacts.{impact_in}
use Rattle.node_rows.specs.Known.{rises}
use Rattle.node_rows.proofs.Known.{known-at, raised-by, rising-all}
use Rattle.node_rows.proofs.sharing.rising.Goals as goal
use Rattle.node_rows.proofs.sharing.rising.Goals.{then-is_above+in_ok-push_word, else-is_above}

pub loop-at-preserved : goal.loop-at-preserved
loop-at-preserved c = λ b node known.
    let at : ℕ = c.loop-at.at in
    let p : ℕ × ℕ = get_or c.args.words.now at (0, 0) in
    let test : ℕ × ℕ → Bool = rises b node c.args.slot in
    let have : List (ℕ × ℕ) = filter test (take at c.args.words.now) in
    let m : at < length c.args.words.now = omega arith in
    let h = c.loop-at.invariant b node known in
    let said : test p ≡ nat_lt (slice_index (slice_index_or c.args.rows.now at []) c.args.slot) p.1 =
    ap (λ (k : ℕ). nat_lt k p.1) (sym (known-at b node c.args.words.now c.args.rows.now at known m c.args.slot)) in
    let more : (t : Bool) → test p ≡ t → have ++ cond t (p ∷ []) [] ≡ filter test (take (at + 1) c.args.words.now) =
    λ t e. (ap (λ (x : Bool). have ++ cond x (p ∷ []) []) (sym e) ∙ sym (filter_more test c.args.words.now at (0, 0) m)) in
    elim c.if-is_above.branch [
      | then-is_above+in_ok-push_word r ↦
          let yes : test p ≡ true = said ∙ sym c.is_above.ensures ∙ r.if-is_above.true in
          let some : 0 < p.1 = grind (arith, nat_tests) in
          ap (λ (v : Vec (ℕ × ℕ) Global). v.items) r.rising-is ∙ r.in_ok-push_word.ensures.items some ∙ ap (λ (qs : List (ℕ × ℕ)). qs ++ p ∷ []) h ∙ more true yes
      | else-is_above r ↦
          let no : test p ≡ false = said ∙ sym c.is_above.ensures ∙ r.if-is_above.false in
          ap (λ (v : Vec (ℕ × ℕ) Global). v.items) r.rising-is ∙ h ∙ sym (append-nil have) ∙ more false no
    ]

pub returns-clause-only : goal.returns-clause-only
returns-clause-only c = λ b node known.
    let all : length c.args.words.now ≤ c.loop-at.at = omega arith in
    c.loop-at.invariant b node known ∙ ap (filter (rises b node c.args.slot)) (take_all c.loop-at.at c.args.words.now all)

pub returns-clause-raised : goal.returns-clause-raised
returns-clause-raised c = λ b node known.
    let all : length c.args.words.now ≤ c.loop-at.at = omega arith in
    let only = c.loop-at.invariant b node known ∙ ap (filter (rises b node c.args.slot)) (take_all c.loop-at.at c.args.words.now all) in
    raised-by b node c.args.slot c.loop-at.rising.items c.args.words.now
    (λ w. ap (λ (ps : List (ℕ × ℕ)). max (b node w c.args.slot) (impact_in ps w)) only ∙ rising-all b node c.args.slot c.args.words.now w)
