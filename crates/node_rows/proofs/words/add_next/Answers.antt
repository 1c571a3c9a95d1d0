use Rattle.std.proofs.Common.{◌≡◌, ℕ, ◌^◌, ◌+◌, ◌∙◌, max, sym, ap, refl, subst, arith, List, Some, None, Option}
use Rattle.node_rows.specs.Rows.{Bytes, bytes_in}
use Rattle.node_rows.specs.Turns.{Next}
use Rattle.node_rows.specs.Ascents.{until}
use Rattle.node_rows.specs.Impacts.{impact_in, impact_at}
use Rattle.node_rows.specs.Words.{tops_of, no_bytes}
use Rattle.node_rows.proofs.Ascents.{ascend, rest, left}
use Rattle.node_rows.proofs.Impacts.{top-clear, top-row}
use Rattle.node_rows.proofs.Pairs.{impact-here, impact-other, max-none, max-zero, words-wider}
use Rattle.node_rows.proofs.words.add_next.Goals as goal

pub returns-clause-words : goal.returns-clause-words
returns-clause-words g c = λ map held is.
    let at : ℕ = c.args.at in
    let node : ℕ = c.args.node in
    let word : ℕ = c.in-Some.found.0 in
    let b : Bytes = bytes_in (g.P.Pages.pages c.args.pages.now) c.args.tree.now.rows in
    let next : Next b node at (Some c.in-Some.found) = subst (λ (o : Option (ℕ × List ℕ)). Next b node at o) c.in-Some.is (c.in_ok-found.ensures.next b map (λ w i l. refl) held) in
    let list : List (ℕ × ℕ) = c.args.words.now.items in
    let pair : ℕ × ℕ = (word, c.greatest.result) in
    let listed : (n w i : ℕ) → max (impact_in list w) (impact_at pair w) ≡ until (word + 1) (tops_of b node) no_bytes n w i =
    ascend (tops_of b node) no_bytes (λ n' w' i'. impact_in list w') at is (λ n' w' i'. max (impact_in list w') (impact_at pair w')) word next.on
    (λ n' w' i' k. max-zero (impact_in list w') (impact_at pair w') (impact-other word c.greatest.result w' (λ e. k (sym e))))
    (λ n' i'. max-none (impact_in list word) (impact_at pair word) (left (tops_of b node) no_bytes (λ n2 w2 i2. impact_in list w2) at is n' word i' next.on) ∙ impact-here word c.greatest.result word (λ j. word) ∙ c.greatest.ensures ∙ top-row b node word c.in-Some.found.1 next.is)
    (λ n' w' i' l m. top-clear b node w' (λ j. next.none w' j l m)) in
    λ n w i.
    let one : impact_in c.push_word.new.words.items w ≡ max (impact_in list w) (impact_at pair w) = c.in_ok-push_word.ensures.impacts w in
    one ∙ listed n w i ∙ ap (λ (k : ℕ). until k (tops_of b node) no_bytes n w i) (sym c.after.ensures.reached)

pub returns-in_default-clause-words : goal.returns-in_default-clause-words
returns-in_default-clause-words g c = λ map held is.
    let b : Bytes = bytes_in (g.P.Pages.pages c.args.pages.now) c.args.tree.now.rows in
    let next : Next b c.args.node c.args.at None = subst (λ (o : Option (ℕ × List ℕ)). Next b c.args.node c.args.at o) c.in_default.is (c.in_ok-found.ensures.next b map (λ w i l. refl) held) in
    let small = c.ranges.at.fits in
    λ n w i. rest (tops_of b c.args.node) no_bytes (λ n2 w2 i2. impact_in c.args.words.now.items w2) c.args.at is (2 ^ 64) (omega arith) (λ n' w' i' l. top-clear b c.args.node w' (λ j. next w' j l)) n w i

pub returns-in_default-clause-ordered : goal.returns-in_default-clause-ordered
returns-in_default-clause-ordered g c = λ h. let small = c.ranges.at.fits in words-wider 0 c.args.at (2 ^ 64) c.args.words.now.items h (omega arith)

pub returns-clause-copy : goal.returns-clause-copy
returns-clause-copy g c = λ map held. c.in_ok-found.ensures.copy (bytes_in (g.P.Pages.pages c.args.pages.now) c.args.tree.now.rows) map (λ w i l. refl) held

pub returns-in_default-clause-copy : goal.returns-in_default-clause-copy
returns-in_default-clause-copy g c = λ map held. c.in_ok-found.ensures.copy (bytes_in (g.P.Pages.pages c.args.pages.now) c.args.tree.now.rows) map (λ w i l. refl) held
