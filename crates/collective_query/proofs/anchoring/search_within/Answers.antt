use Rattle.std.proofs.Common.{◌≡◌, ◌++◌, ◌<◌, ℕ, List, Vec, Global, length, map, sym, subst, arith, ⊎_elim}
use Rattle.std.proofs.lemmas.List.{length-map}
use Rattle.std.proofs.lemmas.List.Elements.{Contains-append_left, Contains-append_right, Contains-append_cases}
use Rattle.std.specs.List.{Contains}
use Rattle.page_face.specs.FreeList.{PageMap}
use Rattle.place_values.specs.declared.query.Pick.{Pick}
use Rattle.place_values.specs.declared.query.Chosen.{Chosen}
use Rattle.place_values.specs.Search.{lists_in}
use Rattle.best_first.specs.Fits.{nodes_at}
use Rattle.group_search.specs.Choices.{IsWithin, IsInBoth, AreCut}
use Rattle.collective_query.specs.Opened.{FindsPicks}
use Rattle.group_search.specs.Picks.{picks_of}
use Rattle.collective_query.specs.TreePicks.{tree_picks}
use Rattle.group_search.specs.Tried.{IsChosen, IsBest}
use Rattle.group_search.proofs.Blocks.{cuts-wider, cut-length, within-chosen, within-best}
use Rattle.collective_query.proofs.Opened.{finds-fewer, choice-picks}
use Rattle.collective_query.proofs.anchoring.search_within.Goals as goal

pub returns-in-Ok-search_lists-clause-least : goal.returns-in-Ok-search_lists-clause-least
returns-in-Ok-search_lists-clause-least g c = λ fits same inside was before known has start.
    let P = g.P.Pages in
    let tree = c.args.tree.now in
    let ids = c.args.ids.now in
    let at = c.args.at.now in
    let own = c.args.own in
    let words : List (List ℕ) = c.args.words.now in
    let best : Chosen = c.args.best.now in
    let new : Chosen = c.search_lists.new.best in
    let old : PageMap = P.pages c.args.pages.now in
    let mine : List ℕ → List Pick = tree_picks ids at (nodes_at old tree) tree.root in
    let all : List (List Pick) = map mine words in
    let lists : List (Vec Pick Global) = c.in-Ok.lists.items in
    let both : Pick → Type 0 = IsInBoth at best.cost at best.cost in
    let close : Pick → Type 0 = IsWithin at best.cost in
    let after : List ℕ = P.asked c.within_each.new.pages in
    let is : c.deref.result.now ≡ lists = c.deref.ensures.value in
    let cut : AreCut close all (lists_in lists) = cuts-wider both close all (lists_in lists) (λ pick h. (h, h)) (c.in-Ok.ensures.cut fits same) in
    let there : own < length lists = omega (arith, length-map words mine, length-map lists (λ (list : Vec Pick Global). list.items), cut-length close all (lists_in lists) cut) in
    let front : List Pick = known ++ best.picks in
    let few : FindsPicks old tree ids at words before after (front ++ picks_of lists) = c.in-Ok.ensures.opened fits before front (λ pick one. Contains-append_left known best.picks pick (has pick one)) start in
    let done : IsBest at (lists_in lists) best new =
    subst (λ (l : List (Vec Pick Global)). IsBest at (lists_in l) best new) is
    (c.in-Ok-search_lists.ensures.least (subst (λ (l : List (Vec Pick Global)). own < length l) (sym is) there)
    (subst (λ (l : List (Vec Pick Global)). IsChosen at (lists_in l) best) (sym is) (within-chosen at all (lists_in lists) best cut was))) in (
      within-best at all (lists_in lists) best new cut was done,
      finds-fewer old tree ids at words before after (front ++ picks_of lists) (known ++ new.picks)
          (λ pick one. ⊎_elim
          (λ (early : Contains known pick). Contains-append_left front (picks_of lists) pick (Contains-append_left known best.picks pick early))
          (λ (late : Contains new.picks pick). Contains-append_right front (picks_of lists) pick (choice-picks lists new.picks done.chosen.choice pick late))
          (Contains-append_cases known new.picks pick one)) few,
    )
