use Rattle.std.proofs.Common.{◌≡◌, ℕ, ◌^◌, ◌+◌, ◌∙◌, max, sym, ap, refl, subst, arith, List, Some, None, Option}
use Rattle.node_rows.specs.Rows.{Bytes, bytes_in}
use Rattle.node_rows.specs.Turns.{Next}
use Rattle.node_rows.specs.Ascents.{until}
use Rattle.node_rows.specs.Words.{no_bytes}
use Rattle.node_inverted.specs.Lifts.{bytes_at, lifted_at, lifted_by}
use Rattle.node_inverted.specs.declared.taking.NodeRow.{NodeRow}
use Rattle.node_rows.proofs.Ascents.{ascend, rest, left}
use Rattle.node_rows.proofs.Pairs.{max-none, max-zero}
use Rattle.node_inverted.proofs.Lifts.{lifted-here, lifted-other, rows-wider}
use Rattle.node_inverted.proofs.taking.list_next.Goals as goal

pub returns-clause-listed : goal.returns-clause-listed
returns-clause-listed g c = λ map held is.
    let at : ℕ = c.args.at in
    let node : ℕ = c.args.node in
    let word : ℕ = c.in-Some.found.0 in
    let b : Bytes = bytes_in (g.P.Pages.pages c.args.pages.now) c.args.tree.now.rows in
    let next : Next b node at (Some c.in-Some.found) = subst (λ (o : Option (ℕ × List ℕ)). Next b node at o) c.in-Some.is (c.in_ok-found.ensures.next b map (λ w i l. refl) held) in
    let mine : NodeRow = record { number = word; bytes = c.in-Some.found.1 } in
    let list : List NodeRow = c.args.rows.now.items in
    let taken : (n w i : ℕ) → max (lifted_at list w i) (lifted_by mine w i) ≡ until (word + 1) (bytes_at node b) no_bytes n w i =
    ascend (bytes_at node b) no_bytes (λ n' w' i'. lifted_at list w' i') at is (λ n' w' i'. max (lifted_at list w' i') (lifted_by mine w' i')) word next.on
    (λ n' w' i' k. max-zero (lifted_at list w' i') (lifted_by mine w' i') (lifted-other mine w' i' (λ e. k (sym e))))
    (λ n' i'. max-none (lifted_at list word i') (lifted_by mine word i') (left (bytes_at node b) no_bytes (λ n2 w2 i2. lifted_at list w2 i2) at is n' word i' next.on) ∙ lifted-here mine word i' (λ j. word) ∙ next.is i')
    (λ n' w' i' l m. next.none w' i' l m) in
    λ n w i.
    let one : lifted_at c.push_row.new.rows.items w i ≡ max (lifted_at list w i) (lifted_by mine w i) = c.in_ok-push_row.ensures.lifted w i in
    one ∙ taken n w i ∙ ap (λ (k : ℕ). until k (bytes_at node b) no_bytes n w i) (sym c.after.ensures.reached)

pub returns-in_default-clause-listed : goal.returns-in_default-clause-listed
returns-in_default-clause-listed g c = λ map held is.
    let b : Bytes = bytes_in (g.P.Pages.pages c.args.pages.now) c.args.tree.now.rows in
    let next : Next b c.args.node c.args.at None = subst (λ (o : Option (ℕ × List ℕ)). Next b c.args.node c.args.at o) c.in_default.is (c.in_ok-found.ensures.next b map (λ w i l. refl) held) in
    let small = c.ranges.at.fits in
    λ n w i. rest (bytes_at c.args.node b) no_bytes (λ n2 w2 i2. lifted_at c.args.rows.now.items w2 i2) c.args.at is (2 ^ 64) (omega arith) (λ n' w' i' l. next w' i' l) n w i

pub returns-in_default-clause-ordered : goal.returns-in_default-clause-ordered
returns-in_default-clause-ordered g c = λ h. let small = c.ranges.at.fits in rows-wider 0 c.args.at (2 ^ 64) c.args.rows.now.items h (omega arith)

pub returns-clause-copy : goal.returns-clause-copy
returns-clause-copy g c = λ map held. c.in_ok-found.ensures.copy (bytes_in (g.P.Pages.pages c.args.pages.now) c.args.tree.now.rows) map (λ w i l. refl) held

pub returns-in_default-clause-copy : goal.returns-in_default-clause-copy
returns-in_default-clause-copy g c = λ map held. c.in_ok-found.ensures.copy (bytes_in (g.P.Pages.pages c.args.pages.now) c.args.tree.now.rows) map (λ w i l. refl) held
