use Rattle.std.proofs.Common.{◌≡◌, ℕ, ◌+◌, ◌*◌, Option, rules, arith, sym, ap, ◌∙◌}
use Rattle.rtree_nodes.specs.Slots.{Item}
use Rattle.rtree_nodes.specs.Pages.{level_in, stored_in}
use Rattle.rtree_nodes.proofs.Formed.{stored-unused}
use Rattle.rtree_nodes.proofs.Children.{point_from}
use Rattle.best_first.specs.Cuts.{is_over, kept_of}
use Rattle.best_first.specs.NodeOpenings.{marked_by, given_at}
use Rattle.best_first.proofs.Marked.{place-far}
use Rattle.best_first.proofs.gathering.is_far.Goals as goal

pub returns-then-not-is_used : goal.returns-then-not-is_used
returns-then-not-is_used c = λ e leaf marked.
    ap (λ (o : Option Item). kept_of c.args.most (given_at (marked_by c.args.from.now c.args.ask.now c.args.level marked c.args.text) o)) (stored-unused c.args.page.now c.args.at (sym c.is_used.ensures ∙ c.if-not-is_used.true))

pub returns-in-Some : goal.returns-in-Some
returns-in-Some c =
    let here : c.in-Some.point ≡ point_from c.args.page.now (16 + 74 * c.args.at) = search rules in
    λ e same marked.
    let low = c.if-level-gt0.false in
    let zero : c.args.level ≡ 0 = omega arith in
    ap (λ (n : ℕ). kept_of c.args.most (given_at (marked_by c.args.from.now c.args.ask.now n marked c.args.text) (stored_in c.args.page.now c.args.at))) zero
    ∙ place-far c.args.from.now c.args.ask.now c.args.page.now c.args.at c.in-Some.point c.args.most marked c.args.text here c.cost_at.ensures.on
    (ap (is_over c.args.most) (sym c.cost_at.ensures.cost) ∙ sym c.is_over.ensures ∙ e) c.requires (sym c.is_used.ensures ∙ c.if-not-is_used.false) (sym same ∙ zero)
