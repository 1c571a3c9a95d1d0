use Rattle.std.proofs.Common.{◌≡◌, ◌++◌, ◌∙◌, ◌<◌, [], ℕ, List, Vec, Global, length, ap, sym, subst, arith, ⊎_elim}
use Rattle.std.proofs.lemmas.List.{length-map}
use Rattle.std.proofs.lemmas.List.Elements.{Contains-append_cases}
use Rattle.std.specs.List.{AllByRecursion, Contains}
use Rattle.page_face.specs.FreeList.{PageMap}
use Rattle.spatial_base.specs.Point.{Viewpoint}
use Rattle.place_values.specs.declared.query.Pick.{Pick}
use Rattle.place_values.specs.declared.query.Chosen.{Chosen}
use Rattle.place_values.specs.Group.{least_of}
use Rattle.place_values.specs.Search.{lists_in}
use Rattle.rtree_nodes.specs.Slots.{NodeMap}
use Rattle.best_first.specs.Fits.{FitsTree, nodes_at}
use Rattle.collective_query.specs.Opened.{FindsPicks}
use Rattle.group_search.specs.Picks.{AreMeasured, GoesBeyond, picks_of}
use Rattle.collective_query.specs.TreePicks.{tree_lists, first_picks, first_lists}
use Rattle.group_search.specs.Tried.{IsChosen, IsFirst, IsLeast}
use Rattle.collective_query.proofs.Firsts.{first-chosen, firsts-cut, no-first}
use Rattle.group_search.proofs.Leads.{cut-first, first-least}
use Rattle.group_search.proofs.Members.{map-all}
use Rattle.collective_query.proofs.Opened.{choice-picks, finds-fewer}
use Rattle.group_search.proofs.Products.{product-none}
use Rattle.collective_query.proofs.Searches.{searches-give, searches-refused, searches-then}
use Rattle.collective_query.proofs.query.least_group.Goals as goal

-- each list's picks are as far as they say
abbrev Measured : Viewpoint → List (Vec Pick Global) → Type 0
Measured at lists = AllByRecursion (λ (list : Vec Pick Global). AreMeasured at list.items) lists

-- a choice of the lists that none of theirs comes before
abbrev Leads : Viewpoint → Chosen → List (Vec Pick Global) → Type 0
Leads at best lists = IsChosen at (lists_in lists) best × IsFirst at (lists_in lists) best

pub returns-in-Ok-None-clause-chosen : goal.returns-in-Ok-None-clause-chosen
returns-in-Ok-None-clause-chosen g c = λ fits.
    let tree = c.args.tree.now in
    let ids = c.args.ids.now in
    let at = c.args.at.now in
    let words : List (List ℕ) = c.args.words.now in
    let nodes : NodeMap = nodes_at (g.P.Pages.pages c.args.pages.now) tree in
    let lists : List (Vec Pick Global) = c.deref.result.now in
    let kept : lists_in lists ≡ first_lists ids at nodes tree.root words = ap lists_in c.deref.ensures.value ∙ c.in-Ok.ensures.lists fits in
    let measured : Measured at lists = subst (Measured at) (sym c.deref.ensures.value) c.in-Ok.ensures.measured in
    let none : Contains (lists_in lists) [] = subst (IsLeast at (lists_in lists)) c.in-Ok-None.field-0-is (c.in-Ok-None.ensures.least measured) in
    ap (least_of at) (sym (product-none (tree_lists ids at nodes tree.root words) (no-first ids at nodes tree.root words (subst (λ (l : List (List Pick)). Contains l []) kept none))))

pub returns-in_default-clause-chosen : goal.returns-in_default-clause-chosen
returns-in_default-clause-chosen g c = λ fits.
    let tree = c.args.tree.now in
    let ids = c.args.ids.now in
    let at = c.args.at.now in
    let words : List (List ℕ) = c.args.words.now in
    let nodes : NodeMap = nodes_at (g.P.Pages.pages c.args.pages.now) tree in
    let nearest : List (Vec Pick Global) = c.in-Ok.nearest.items in
    let best : Chosen = c.in-Ok-Some.best in
    let all : List (List Pick) = tree_lists ids at nodes tree.root words in
    let firsts : List (List Pick) = first_lists ids at nodes tree.root words in
    let kept : lists_in nearest ≡ firsts = c.in-Ok.ensures.lists fits in
    let measured : Measured at c.deref.result.now = subst (Measured at) (sym c.deref.ensures.value) c.in-Ok.ensures.measured in
    let begun : Leads at best nearest = subst (Leads at best) c.deref.ensures.value (subst (IsLeast at (lists_in c.deref.result.now)) c.in-Ok-Some.field-0-is (c.in-Ok-Some.ensures.least measured)) in
    let chosen : IsChosen at all best = first-chosen ids at nodes tree.root words best (subst (λ (l : List (List Pick)). IsChosen at l best) kept begun.0) in
    let beyond : AllByRecursion (GoesBeyond 5 best.cost) firsts =
    subst (AllByRecursion (GoesBeyond 5 best.cost)) (ap lists_in c.deref-2.ensures.value ∙ kept) (map-all (GoesBeyond 5 best.cost) (λ (list : Vec Pick Global). list.items) c.deref-2.result.now c.in_default.ensures.none) in
    first-least at all best chosen (cut-first at all firsts best chosen (firsts-cut ids at nodes tree.root best.cost words beyond) (subst (λ (l : List (List Pick)). IsFirst at l best) kept begun.1))

pub returns-in_default-clause-opened : goal.returns-in_default-clause-opened
returns-in_default-clause-opened g c = λ fits.
    let P = g.P.Pages in
    let tree = c.args.tree.now in
    let ids = c.args.ids.now in
    let at = c.args.at.now in
    let words : List (List ℕ) = c.args.words.now in
    let old : PageMap = P.pages c.args.pages.now in
    let nearest : List (Vec Pick Global) = c.in-Ok.nearest.items in
    let best : Chosen = c.in-Ok-Some.best in
    let measured : Measured at c.deref.result.now = subst (Measured at) (sym c.deref.ensures.value) c.in-Ok.ensures.measured in
    let begun : Leads at best nearest = subst (Leads at best) c.deref.ensures.value (subst (IsLeast at (lists_in c.deref.result.now)) c.in-Ok-Some.field-0-is (c.in-Ok-Some.ensures.least measured)) in
    finds-fewer old tree ids at words (P.asked c.args.pages.now) (P.asked c.nearest_each.new.pages) (picks_of nearest) best.picks (choice-picks nearest best.picks begun.0.choice) (c.in-Ok.ensures.opened fits)

pub search_by_anchor-requires-clause-measured : goal.search_by_anchor-requires-clause-measured
search_by_anchor-requires-clause-measured g c = subst (Measured c.args.at.now) (sym c.deref-3.ensures.value) c.in-Ok.ensures.measured

pub returns-in-Ok-search_by_anchor-clause-chosen : goal.returns-in-Ok-search_by_anchor-clause-chosen
returns-in-Ok-search_by_anchor-clause-chosen g c = λ fits.
    let P = g.P.Pages in
    let f = c.nearest_each.ensures.search.frame in
    let tree = c.args.tree.now in
    let ids = c.args.ids.now in
    let at = c.args.at.now in
    let words : List (List ℕ) = c.args.words.now in
    let old : PageMap = P.pages c.args.pages.now in
    let mid : PageMap = P.pages c.nearest_each.new.pages in
    let before : List ℕ = P.asked c.args.pages.now in
    let between : List ℕ = P.asked c.nearest_each.new.pages in
    let after : List ℕ = P.asked c.search_by_anchor.new.pages in
    let nearest : List (Vec Pick Global) = c.in-Ok.nearest.items in
    let best : Chosen = c.in-Ok-Some.best in
    let new : Chosen = c.search_by_anchor.new.best in
    let all : PageMap → List (List Pick) = λ p. tree_lists ids at (nodes_at p tree) tree.root words in
    let firsts : PageMap → List (List Pick) = λ p. first_lists ids at (nodes_at p tree) tree.root words in
    let kept : lists_in nearest ≡ firsts old = c.in-Ok.ensures.lists fits in
    let measured : Measured at c.deref.result.now = subst (Measured at) (sym c.deref.ensures.value) c.in-Ok.ensures.measured in
    let begun : Leads at best nearest = subst (Leads at best) c.deref.ensures.value (subst (IsLeast at (lists_in c.deref.result.now)) c.in-Ok-Some.field-0-is (c.in-Ok-Some.ensures.least measured)) in
    let chosen : IsChosen at (all old) best = first-chosen ids at (nodes_at old tree) tree.root words best (subst (λ (l : List (List Pick)). IsChosen at l best) kept begun.0) in
    let still : FitsTree mid (P.count c.nearest_each.new.pages) (P.first c.nearest_each.new.pages) tree = rw (f.pages, f.count, f.first) fits in
    let inside : c.in-Some.own < length words =
    (let n = ap length (ap lists_in c.deref-2.ensures.value ∙ kept) in let less = c.in-Some.ensures.some in
    omega (arith, length-map c.deref-2.result.now (λ (list : Vec Pick Global). list.items), length-map words (first_picks ids at at (nodes_at old tree) tree.root))) in
    let few : FindsPicks old tree ids at words before between (picks_of nearest ++ best.picks) =
    finds-fewer old tree ids at words before between (picks_of nearest) (picks_of nearest ++ best.picks)
    (λ pick one. ⊎_elim (λ (early : Contains (picks_of nearest) pick). early) (λ (mine : Contains best.picks pick). choice-picks nearest best.picks begun.0.choice pick mine) (Contains-append_cases (picks_of nearest) best.picks pick one))
    (c.in-Ok.ensures.opened fits) in
    let there : List (Vec Pick Global) = c.deref-3.result.now in
    let found : (IsChosen at (all old) new × IsFirst at (all old) new) × FindsPicks old tree ids at words before after new.picks =
    subst (λ (p : PageMap). (IsChosen at (all p) new × IsFirst at (all p) new) × FindsPicks p tree ids at words before after new.picks) f.pages
    (c.in-Ok-search_by_anchor.ensures.least still
    (ap lists_in c.deref-3.ensures.value ∙ kept ∙ ap firsts (sym f.pages)) inside
    (subst (λ (p : PageMap). IsChosen at (all p) best) (sym f.pages) chosen) before
    (subst (λ (l : List (Vec Pick Global)). FindsPicks mid tree ids at words before between (picks_of l ++ best.picks)) (sym c.deref-3.ensures.value)
    (subst (λ (p : PageMap). FindsPicks p tree ids at words before between (picks_of nearest ++ best.picks)) (sym f.pages) few))) in
    first-least at (all old) new found.0.0 found.0.1

pub returns-in-Ok-search_by_anchor-clause-opened : goal.returns-in-Ok-search_by_anchor-clause-opened
returns-in-Ok-search_by_anchor-clause-opened g c = λ fits.
    let P = g.P.Pages in
    let f = c.nearest_each.ensures.search.frame in
    let tree = c.args.tree.now in
    let ids = c.args.ids.now in
    let at = c.args.at.now in
    let words : List (List ℕ) = c.args.words.now in
    let old : PageMap = P.pages c.args.pages.now in
    let mid : PageMap = P.pages c.nearest_each.new.pages in
    let before : List ℕ = P.asked c.args.pages.now in
    let between : List ℕ = P.asked c.nearest_each.new.pages in
    let after : List ℕ = P.asked c.search_by_anchor.new.pages in
    let nearest : List (Vec Pick Global) = c.in-Ok.nearest.items in
    let best : Chosen = c.in-Ok-Some.best in
    let new : Chosen = c.search_by_anchor.new.best in
    let all : PageMap → List (List Pick) = λ p. tree_lists ids at (nodes_at p tree) tree.root words in
    let firsts : PageMap → List (List Pick) = λ p. first_lists ids at (nodes_at p tree) tree.root words in
    let kept : lists_in nearest ≡ firsts old = c.in-Ok.ensures.lists fits in
    let measured : Measured at c.deref.result.now = subst (Measured at) (sym c.deref.ensures.value) c.in-Ok.ensures.measured in
    let begun : Leads at best nearest = subst (Leads at best) c.deref.ensures.value (subst (IsLeast at (lists_in c.deref.result.now)) c.in-Ok-Some.field-0-is (c.in-Ok-Some.ensures.least measured)) in
    let chosen : IsChosen at (all old) best = first-chosen ids at (nodes_at old tree) tree.root words best (subst (λ (l : List (List Pick)). IsChosen at l best) kept begun.0) in
    let still : FitsTree mid (P.count c.nearest_each.new.pages) (P.first c.nearest_each.new.pages) tree = rw (f.pages, f.count, f.first) fits in
    let inside : c.in-Some.own < length words =
    (let n = ap length (ap lists_in c.deref-2.ensures.value ∙ kept) in let less = c.in-Some.ensures.some in
    omega (arith, length-map c.deref-2.result.now (λ (list : Vec Pick Global). list.items), length-map words (first_picks ids at at (nodes_at old tree) tree.root))) in
    let few : FindsPicks old tree ids at words before between (picks_of nearest ++ best.picks) =
    finds-fewer old tree ids at words before between (picks_of nearest) (picks_of nearest ++ best.picks)
    (λ pick one. ⊎_elim (λ (early : Contains (picks_of nearest) pick). early) (λ (mine : Contains best.picks pick). choice-picks nearest best.picks begun.0.choice pick mine) (Contains-append_cases (picks_of nearest) best.picks pick one))
    (c.in-Ok.ensures.opened fits) in
    let there : List (Vec Pick Global) = c.deref-3.result.now in
    let found : (IsChosen at (all old) new × IsFirst at (all old) new) × FindsPicks old tree ids at words before after new.picks =
    subst (λ (p : PageMap). (IsChosen at (all p) new × IsFirst at (all p) new) × FindsPicks p tree ids at words before after new.picks) f.pages
    (c.in-Ok-search_by_anchor.ensures.least still
    (ap lists_in c.deref-3.ensures.value ∙ kept ∙ ap firsts (sym f.pages)) inside
    (subst (λ (p : PageMap). IsChosen at (all p) best) (sym f.pages) chosen) before
    (subst (λ (l : List (Vec Pick Global)). FindsPicks mid tree ids at words before between (picks_of l ++ best.picks)) (sym c.deref-3.ensures.value)
    (subst (λ (p : PageMap). FindsPicks p tree ids at words before between (picks_of nearest ++ best.picks)) (sym f.pages) few))) in
    found.1

pub returns-clause-damaged : goal.returns-clause-damaged
returns-clause-damaged g c =
    (searches-refused g.P.Pages c.args.tree.now _ _ _ _ c.in-Err-search_by_anchor.is
    (searches-then {X = ℕ} g.P.Pages g.met.P.Pages.goes_further g.met.P.Pages.reads_further c.args.tree.now _ _ _ _ _ (searches-give g.P.Pages c.args.tree.now _ _ _ _ 0 c.in-Ok.is c.nearest_each.ensures.search) c.search_by_anchor.ensures.search)).damaged
