use Rattle.std.proofs.Common.{◌≡◌, ℕ, ◌^◌, ◌+◌, ◌∙◌, max, sym, ap, refl, subst, arith, rules, List, Some, None, Option, slice_index}
use Rattle.node_rows.specs.Rows.{Bytes, bytes_in}
use Rattle.node_rows.specs.Turns.{Next}
use Rattle.node_rows.specs.Ascents.{until}
use Rattle.node_rows.specs.Impacts.{impact_at}
use Rattle.node_rows.specs.Words.{no_bytes}
use Rattle.node_rows.proofs.Ascents.{ascend, rest, left}
use Rattle.node_rows.proofs.Pairs.{impact-here, impact-other, max-none, max-zero}
use Rattle.tree_check.specs.Columns.{DoAscend, node_bytes, said_by}
use Rattle.tree_check.proofs.Columns.{ascend-push, ascend-wider, said-more}
use Rattle.tree_check.proofs.reading.add_next.Goals as goal

pub returns-clause-rows : goal.returns-clause-rows
returns-clause-rows g c = λ map held is.
    let at : ℕ = c.args.at in
    let node : ℕ = c.args.node in
    let found : ℕ × List ℕ = c.in-Some.found in
    let word : ℕ = found.0 in
    let b : Bytes = bytes_in (g.P.Pages.pages c.args.pages.now) c.args.tree.now.rows in
    let next : Next b node at (Some c.in-Some.found) = subst (λ (o : Option (ℕ × List ℕ)). Next b node at o) c.in-Some.is (c.in_ok-found.ensures.next b map (λ w i l. refl) held) in
    let list : List (ℕ × List ℕ) = c.args.rows.now.items in
    let more : Bytes = λ n w i. max (said_by list n w i) (impact_at (word, slice_index found.1 i) w) in
    let listed : (n w i : ℕ) → more n w i ≡ until (word + 1) (node_bytes b node) no_bytes n w i =
    ascend (node_bytes b node) no_bytes (said_by list) at is more word next.on
    (λ n' w' i' k. max-zero (said_by list n' w' i') (impact_at (word, slice_index found.1 i') w') (impact-other word (slice_index found.1 i') w' (λ e. k (sym e))))
    (λ n' i'. max-none (said_by list n' word i') (impact_at (word, slice_index found.1 i') word) (left (node_bytes b node) no_bytes (said_by list) at is n' word i' next.on)
    ∙ impact-here word (slice_index found.1 i') word (λ j. word) ∙ next.is i')
    (λ n' w' i' l m. next.none w' i' l m) in
    λ n w i.
    ap (λ (rows : List (ℕ × List ℕ)). said_by rows n w i) c.in_ok-push_row.ensures.items ∙ said-more list found n w i
    ∙ listed n w i ∙ ap (λ (k : ℕ). until k (node_bytes b node) no_bytes n w i) (sym c.after.ensures.reached)

pub returns-clause-ordered : goal.returns-clause-ordered
returns-clause-ordered g c = λ h.
    let pushed = subst (DoAscend 0 (c.in-Some.found.0 + 1)) (sym c.in_ok-push_row.ensures.items)
    (ascend-push 0 c.args.at c.in-Some.found c.args.rows.now.items h (search rules)) in
    subst (λ (k : ℕ). DoAscend 0 k c.push_row.new.rows.items) (sym c.after.ensures.reached) pushed

pub returns-in_default-clause-rows : goal.returns-in_default-clause-rows
returns-in_default-clause-rows g c = λ map held is.
    let b : Bytes = bytes_in (g.P.Pages.pages c.args.pages.now) c.args.tree.now.rows in
    let next : Next b c.args.node c.args.at None = subst (λ (o : Option (ℕ × List ℕ)). Next b c.args.node c.args.at o) c.in_default.is (c.in_ok-found.ensures.next b map (λ w i l. refl) held) in
    let small = c.ranges.at.fits in
    λ n w i. rest (node_bytes b c.args.node) no_bytes (said_by c.args.rows.now.items) c.args.at is (2 ^ 64) (omega arith) (λ n' w' i' l. next w' i' l) n w i

pub returns-in_default-clause-ordered : goal.returns-in_default-clause-ordered
returns-in_default-clause-ordered g c = λ h. let small = c.ranges.at.fits in ascend-wider 0 c.args.at (2 ^ 64) c.args.rows.now.items h (omega arith)

pub returns-clause-copy : goal.returns-clause-copy
returns-clause-copy g c = λ map held. c.in_ok-found.ensures.copy (bytes_in (g.P.Pages.pages c.args.pages.now) c.args.tree.now.rows) map (λ w i l. refl) held

pub returns-in_default-clause-copy : goal.returns-in_default-clause-copy
returns-in_default-clause-copy g c = λ map held. c.in_ok-found.ensures.copy (bytes_in (g.P.Pages.pages c.args.pages.now) c.args.tree.now.rows) map (λ w i l. refl) held
