use Rattle.std.proofs.Common.{◌≡◌, ◌<◌, ◌≤◌, ℕ, ◌∙◌, sym, arith}
use Rattle.std.proofs.lemmas.Result.{IfOk-weaker}
use Rattle.node_rows.specs.Turns.{Next}
use Rattle.node_rows.proofs.Copies.{bytes-empty, next-on}
use Rattle.node_rows.proofs.leaf.next_in.Goals as goal

pub returns-then-tree-eq0-clause-next : goal.returns-then-tree-eq0-clause-next
returns-then-tree-eq0-clause-next g c = λ b map same copy w i l.
    sym (same w i l) ∙ bytes-empty (g.P.Pages.pages c.args.pages.now) c.args.tree.now.rows c.args.node w i c.if-tree-eq0.true

pub returns-else-tree-eq0-clause-next : goal.returns-else-tree-eq0-clause-next
returns-else-tree-eq0-clause-next g c = λ b map same copy.
    let node : ℕ = c.args.node in
    let at : ℕ = c.in-Err.at in
    let le : c.args.from ≤ at = c.in-Err.ensures.further in
    let quiet : (w i : ℕ) → c.args.from ≤ w → w < at → b node w i ≡ 0 = c.in-Err.ensures.next b copy in
    IfOk-weaker c.next_filled.result (Next b node at) (Next b node c.args.from) (λ o. next-on b b node c.args.from at o le (λ w i l. sym (same w i (omega arith)) ∙ same w i (omega arith)) quiet)
    (c.next_filled.ensures.next b map (λ w i l. same w i (omega arith)))

pub returns-in-Ok-clause-filled : goal.returns-in-Ok-clause-filled
returns-in-Ok-clause-filled g c = λ b map all copy filled. (filled, c.in-Ok.ensures.filled b copy filled)

pub returns-else-tree-eq0-clause-filled : goal.returns-else-tree-eq0-clause-filled
returns-else-tree-eq0-clause-filled g c = λ b map all copy filled. c.next_filled.ensures.filled map all
