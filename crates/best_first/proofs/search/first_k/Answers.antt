use Rattle.std.proofs.Common.{◌≡◌, Vec, Global, ◌∙◌, List, ap}
use Rattle.place_values.specs.First.{first}
use Rattle.place_values.specs.declared.hit.Hit.{Hit}
use Rattle.place_values.specs.Hit.{comes_before}
use Rattle.best_first.specs.Leads.{leads}
use Rattle.best_first.proofs.Limits.{affordable-all}
use Rattle.best_first.proofs.Outcomes.{ok-weaker}
use Rattle.best_first.proofs.search.first_k.Goals as goal

pub returns-clause-found : goal.returns-clause-found
returns-clause-found g c = λ f.
    let all : List Hit = leads (g.R.Ranked.opens c.args.ranked.now c.args.pages.now) (g.R.Ranked.starts c.args.ranked.now c.args.pages.now) in
    ok-weaker _ (λ (found : Vec Hit Global). found.items ≡ first comes_before c.args.k all) c.first_k_within.result
    (λ found e. e ∙ ap (first comes_before c.args.k) (affordable-all all)) (c.first_k_within.ensures.found f)
