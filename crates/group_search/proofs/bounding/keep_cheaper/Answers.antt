use Rattle.std.proofs.Common.{◌∷◌, []}
use Rattle.std.proofs.lemmas.Result.{on_ok_weaker}
use Rattle.group_search.specs.Tried.{IsBetter}
use Rattle.group_search.proofs.Blocks.{kept-better, still-better}
use Rattle.group_search.proofs.Leads.{one-tried}
use Rattle.group_search.proofs.bounding.keep_cheaper.Goals as goal

pub returns-then-cost-best-clause-chosen : goal.returns-then-cost-best-clause-chosen
returns-then-cost-best-clause-chosen c = λ lists is was.
    let at = c.args.at.now in
    let best = c.args.best.now in
    let new = c.offer.new.best in
    on_ok_weaker {Q = IsBetter at lists best new} c.offer.result
    (λ h. kept-better at lists best new c.args.picks.now was is (h at c.cost_of_choice-cost.ensures.value (best.picks ∷ []) (one-tried at best was.cost)))
    c.offer.ensures.least

pub returns-clause-chosen : goal.returns-clause-chosen
returns-clause-chosen c = λ lists is was. still-better c.args.at.now lists c.args.best.now was
