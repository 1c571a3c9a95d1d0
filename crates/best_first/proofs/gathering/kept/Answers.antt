use Rattle.std.proofs.Common.{◌≡◌, ◌∙◌, Bool, true, false, if◌then◌else◌, [], ◌∷◌, sym, ap}
use Rattle.best_first.specs.Items.{bound_of}
use Rattle.best_first.specs.Cuts.{is_over}
use Rattle.best_first.proofs.gathering.kept.Goals as goal

pub returns-then-is_over-clause-kept : goal.returns-then-is_over-clause-kept
returns-then-is_over-clause-kept c =
    let over : is_over c.args.most (bound_of c.args.item) ≡ true = ap (is_over c.args.most) (sym c.bound_of.ensures) ∙ sym c.is_over.ensures ∙ c.if-is_over.true in
    sym (ap (λ (b : Bool). if b then [] else c.args.item ∷ []) over)

pub returns-else-is_over-clause-kept : goal.returns-else-is_over-clause-kept
returns-else-is_over-clause-kept c =
    let under : is_over c.args.most (bound_of c.args.item) ≡ false = ap (is_over c.args.most) (sym c.bound_of.ensures) ∙ sym c.is_over.ensures ∙ c.if-is_over.false in
    sym (ap (λ (b : Bool). if b then [] else c.args.item ∷ []) under)
