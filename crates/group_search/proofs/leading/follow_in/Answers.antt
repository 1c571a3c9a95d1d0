use Rattle.std.proofs.Common.{◌≡◌, ◌∷◌, [], ◌∙◌, List, Vec, Global, Some, ap, sym, subst}
use Rattle.std.proofs.lemmas.Result.{on_ok_weaker}
use Rattle.std.specs.List.{AllByRecursion}
use Rattle.place_values.specs.declared.query.Pick.{Pick}
use Rattle.place_values.specs.declared.query.Chosen.{Chosen}
use Rattle.place_values.specs.Group.{product, least_of}
use Rattle.place_values.specs.Search.{lists_in}
use Rattle.group_search.specs.Blocks.{packed_lists}
use Rattle.group_search.specs.Choices.{AreCut}
use Rattle.group_search.specs.Leads.{led_by, IsPaired, AreGathered, OfEach, Follows}
use Rattle.group_search.specs.Picks.{AreNear, AreMeasured}
use Rattle.group_search.proofs.Blocks.{paired-follows}
use Rattle.group_search.proofs.Leads.{led-is, one-tried, cuts-better, none-better}
use Rattle.group_search.proofs.leading.follow_in.Goals as goal

pub returns-in-None-clause-followed : goal.returns-in-None-clause-followed
returns-in-None-clause-followed c = λ are was.
    let at = c.args.at.now in
    let own = c.args.own in
    let anchor : Pick = c.args.anchor.now in
    let best : Chosen = c.args.best.now in
    let lists : List (List Pick) = packed_lists c.args.packs.now in
    let led : List (List Pick) = led_by own anchor lists in
    let counts : Pick → Type 0 = IsPaired at anchor best.cost in
    paired-follows at lists own anchor best best are.inside was (none-better at lists counts led best was (subst (AreGathered counts led) c.in-None.is c.in_ok-gathered.ensures.gathered))

pub least_choice-requires-clause-near : goal.least_choice-requires-clause-near
least_choice-requires-clause-near c =
    subst (AllByRecursion (λ (list : Vec Pick Global). AreNear list.items)) (sym c.deref.ensures.value) (subst (OfEach AreNear) c.in-Some.is c.in_ok-gathered.ensures.near)

pub returns-in-Some-clause-followed : goal.returns-in-Some-clause-followed
returns-in-Some-clause-followed c = λ are was.
    let at = c.args.at.now in
    let own = c.args.own in
    let anchor : Pick = c.args.anchor.now in
    let best : Chosen = c.args.best.now in
    let new : Chosen = c.least_choice.new.best in
    let lists : List (List Pick) = packed_lists c.args.packs.now in
    let led : List (List Pick) = led_by own anchor lists in
    let counts : Pick → Type 0 = IsPaired at anchor best.cost in
    let kept : List (Vec Pick Global) = c.in-Some.lists.items in
    let cut : AreCut counts led (lists_in kept) = subst (AreGathered counts led) c.in-Some.is c.in_ok-gathered.ensures.gathered in
    let measured : AllByRecursion (λ (list : Vec Pick Global). AreMeasured at list.items) kept = subst (OfEach (AreMeasured at)) c.in-Some.is c.in_ok-gathered.ensures.measured in
    on_ok_weaker {Q = Follows at lists own (anchor ∷ []) best new} c.least_choice.result
    (λ h.
    let is : Some new ≡ least_of at (best.picks ∷ product (lists_in kept)) =
    h (subst (AllByRecursion (λ (list : Vec Pick Global). AreMeasured at list.items)) (sym c.deref.ensures.value) measured) (best.picks ∷ []) (one-tried at best was.cost)
    ∙ ap (λ (l : List (Vec Pick Global)). least_of at (best.picks ∷ product (lists_in l))) c.deref.ensures.value in
    paired-follows at lists own anchor best new are.inside was (cuts-better at lists counts led (lists_in kept) best new was (λ choice one. led-is own anchor lists choice are.among.0 one) cut is))
    c.least_choice.ensures.least
