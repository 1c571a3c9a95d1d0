use Rattle.std.proofs.Common.{◌≡◌, ℕ, ◌<◌, ◌^◌, ◌∙◌, min, sym, ap, refl, subst, arith, List, Some, None, Option, slice_index, if◌then◌else◌, nat_lt}
use Rattle.node_rows.specs.Rows.{Bytes, bytes_in}
use Rattle.node_rows.specs.Turns.{Next}
use Rattle.node_rows.specs.Counts.{counted_on, most, alike, impact_33}
use Rattle.node_rows.proofs.Counts.{alike-next, alike-rest, counted-more}
use Rattle.node_rows.proofs.pairing.like_next.Goals as goal

pub returns-clause-counted : goal.returns-clause-counted
returns-clause-counted g c = λ map held is.
    let b : Bytes = bytes_in (g.P.Pages.pages c.args.pages.now) c.args.tree.now.rows in
    let node : ℕ = c.args.node in
    let at : ℕ = c.args.at in
    let word : ℕ = c.in-Some.found.0 in
    let ps : List (ℕ × ℕ) = c.args.words.now in
    let next : Next b node at (Some c.in-Some.found) = subst (λ (o : Option (ℕ × List ℕ)). Next b node at o) c.in-Some.is (c.in_ok-found.ensures.next b map (λ w i l. refl) held) in
    let row : List ℕ = c.with_entry-row.result in
    let same : (i : ℕ) → i < 33 → slice_index row i ≡ impact_33 b node ps word i = λ i l. c.with_entry-row.ensures i l
    ∙ ap (λ (k : ℕ). if nat_lt i 32 then k else c.impact_of.result) (next.is i) ∙ ap (λ (k : ℕ). if nat_lt i 32 then b node word i else k) c.impact_of.ensures in
    λ i j li lj h.
    c.add_pairs.ensures i j li lj ∙ ap (λ (k : ℕ). counted_on k (slice_index row i) (slice_index row j)) (is i j li lj h)
    ∙ ap (λ (k : ℕ). counted_on (min (alike b node ps at i j) most) k (slice_index row j)) (same i li) ∙ ap (λ (k : ℕ). counted_on (min (alike b node ps at i j) most) (impact_33 b node ps word i) k) (same j lj)
    ∙ counted-more (alike b node ps at i j) (impact_33 b node ps word i) (impact_33 b node ps word j)
    ∙ ap (λ (k : ℕ). min k most) (sym (alike-next b node ps at i j h word next.on (λ w q a l. next.none w q a l)))
    ∙ ap (λ (k : ℕ). min (alike b node ps k i j) most) (sym c.after.ensures.reached)

pub returns-in_default-clause-counted : goal.returns-in_default-clause-counted
returns-in_default-clause-counted g c = λ map held is.
    let b : Bytes = bytes_in (g.P.Pages.pages c.args.pages.now) c.args.tree.now.rows in
    let next : Next b c.args.node c.args.at None = subst (λ (o : Option (ℕ × List ℕ)). Next b c.args.node c.args.at o) c.in_default.is (c.in_ok-found.ensures.next b map (λ w i l. refl) held) in
    let small = c.ranges.at.fits in
    λ i j li lj h. is i j li lj h ∙ ap (λ (k : ℕ). min k most) (sym (alike-rest b c.args.node c.args.words.now c.args.at i j h (2 ^ 64) (omega arith) (λ w q a. next w q a)))

pub returns-clause-copy : goal.returns-clause-copy
returns-clause-copy g c = λ map held. c.in_ok-found.ensures.copy (bytes_in (g.P.Pages.pages c.args.pages.now) c.args.tree.now.rows) map (λ w i l. refl) held

pub returns-in_default-clause-copy : goal.returns-in_default-clause-copy
returns-in_default-clause-copy g c = λ map held. c.in_ok-found.ensures.copy (bytes_in (g.P.Pages.pages c.args.pages.now) c.args.tree.now.rows) map (λ w i l. refl) held
