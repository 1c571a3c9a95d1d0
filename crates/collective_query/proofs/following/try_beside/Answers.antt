use Rattle.std.proofs.Common.{◌≡◌, ◌++◌, ◌∷◌, [], ◌∙◌, ℕ, List, Vec, Global, None, Some, ap, sym, subst, ⊎_elim}
use Rattle.std.proofs.lemmas.List.Elements.{Contains-append_left, Contains-append_right, Contains-append_cases}
use Rattle.std.specs.List.{AllByRecursion, Contains}
use Rattle.page_face.specs.FreeList.{PageMap}
use Rattle.place_values.specs.declared.query.Pick.{Pick}
use Rattle.place_values.specs.declared.query.Chosen.{Chosen}
use Rattle.place_values.specs.Group.{product, least_of}
use Rattle.place_values.specs.Search.{lists_in}
use Rattle.best_first.specs.Fits.{nodes_at}
use Rattle.group_search.specs.Choices.{AreCut}
use Rattle.group_search.specs.Leads.{led_by, IsWanted, AreGathered, OfEach, gathered_picks}
use Rattle.collective_query.specs.Opened.{FindsPicks}
use Rattle.group_search.specs.Picks.{AreNear, AreMeasured, picks_of}
use Rattle.collective_query.specs.TreePicks.{tree_lists}
use Rattle.group_search.proofs.Leads.{led-is, one-tried, cuts-better, none-better}
use Rattle.collective_query.proofs.Opened.{finds-fewer, least-picks}
use Rattle.collective_query.proofs.following.try_beside.Goals as goal

pub returns-in-Ok-None-clause-tried : goal.returns-in-Ok-None-clause-tried
returns-in-Ok-None-clause-tried g c = λ fits same leads was before known has takes start.
    let P = g.P.Pages in
    let tree = c.args.tree.now in
    let ids = c.args.ids.now in
    let at = c.args.at.now in
    let words : List (List ℕ) = c.args.words.now in
    let anchor : Pick = c.args.anchor.now in
    let best : Chosen = c.args.best.now in
    let old : PageMap = P.pages c.args.pages.now in
    let all : List (List Pick) = tree_lists ids at (nodes_at old tree) tree.root words in
    let led : List (List Pick) = led_by c.args.own anchor all in
    let wanted : Pick → Type 0 = IsWanted at anchor c.args.most in
    let front : List Pick = known ++ best.picks in
    let left : (pick : Pick) → Contains known pick → Contains front pick = Contains-append_left known best.picks in
    let none : AreGathered wanted led None = subst (AreGathered wanted led) c.in-Ok-None.field-0-is (c.in-Ok-None.ensures.gathered fits same) in
    let after : List ℕ = P.asked c.gather.new.pages in
    let few : FindsPicks old tree ids at words before after (front ++ []) =
    subst (λ o. FindsPicks old tree ids at words before after (front ++ gathered_picks o)) c.in-Ok-None.field-0-is
    (c.in-Ok-None.ensures.opened fits before front (λ pick one. left pick (has pick one)) (left anchor takes) start) in
    (none-better at all wanted led best was none, finds-fewer old tree ids at words before after (front ++ []) front (λ pick one. Contains-append_left front [] pick one) few)

pub least_choice-requires-clause-near : goal.least_choice-requires-clause-near
least_choice-requires-clause-near g c =
    subst (AllByRecursion (λ (list : Vec Pick Global). AreNear list.items)) (sym c.deref.ensures.value) (subst (OfEach AreNear) c.in-Ok-Some.field-0-is c.in-Ok-Some.ensures.near)

pub returns-in-Ok-clause-tried : goal.returns-in-Ok-clause-tried
returns-in-Ok-clause-tried g c = λ fits same leads was before known has takes start.
    let P = g.P.Pages in
    let tree = c.args.tree.now in
    let ids = c.args.ids.now in
    let at = c.args.at.now in
    let own = c.args.own in
    let words : List (List ℕ) = c.args.words.now in
    let anchor : Pick = c.args.anchor.now in
    let best : Chosen = c.args.best.now in
    let new : Chosen = c.least_choice.new.best in
    let old : PageMap = P.pages c.args.pages.now in
    let all : List (List Pick) = tree_lists ids at (nodes_at old tree) tree.root words in
    let led : List (List Pick) = led_by own anchor all in
    let wanted : Pick → Type 0 = IsWanted at anchor c.args.most in
    let lists : List (Vec Pick Global) = c.in-Ok-Some.lists.items in
    let front : List Pick = known ++ best.picks in
    let left : (pick : Pick) → Contains known pick → Contains front pick = Contains-append_left known best.picks in
    let after : List ℕ = P.asked c.gather.new.pages in
    let cut : AreCut wanted led (lists_in lists) = subst (AreGathered wanted led) c.in-Ok-Some.field-0-is (c.in-Ok-Some.ensures.gathered fits same) in
    let measured : AllByRecursion (λ (list : Vec Pick Global). AreMeasured at list.items) lists = subst (OfEach (AreMeasured at)) c.in-Ok-Some.field-0-is c.in-Ok-Some.ensures.measured in
    let is : Some new ≡ least_of at (best.picks ∷ product (lists_in lists)) =
    c.in-Ok.ensures.least (subst (AllByRecursion (λ (list : Vec Pick Global). AreMeasured at list.items)) (sym c.deref.ensures.value) measured) (best.picks ∷ []) (one-tried at best was.cost)
    ∙ ap (λ (l : List (Vec Pick Global)). least_of at (best.picks ∷ product (lists_in l))) c.deref.ensures.value in
    let few : FindsPicks old tree ids at words before after (front ++ picks_of lists) =
    subst (λ o. FindsPicks old tree ids at words before after (front ++ gathered_picks o)) c.in-Ok-Some.field-0-is
    (c.in-Ok-Some.ensures.opened fits before front (λ pick one. left pick (has pick one)) (left anchor takes) start) in (
      cuts-better at all wanted led (lists_in lists) best new was (λ choice one. led-is own anchor all choice leads.among.0 one) cut is,
      finds-fewer old tree ids at words before after (front ++ picks_of lists) (known ++ new.picks)
          (λ pick one. ⊎_elim
          (λ (early : Contains known pick). Contains-append_left front (picks_of lists) pick (left pick early))
          (λ (mine : Contains new.picks pick). ⊎_elim
          (λ (kept : Contains best.picks pick). Contains-append_left front (picks_of lists) pick (Contains-append_right known best.picks pick kept))
          (λ (found : Contains (picks_of lists) pick). Contains-append_right front (picks_of lists) pick found)
          (Contains-append_cases best.picks (picks_of lists) pick (least-picks at lists best new is pick mine)))
          (Contains-append_cases known new.picks pick one)) few,
    )
