use Rattle.std.proofs.Common.{◌≡◌, ◌++◌, ◌∙◌, ◌<◌, [], ℕ, List, Vec, Global, get_or, length, ap, sym, subst, rules, arith, ⊎_elim}
use Rattle.std.specs.Prelude.{OnOk}
use Rattle.std.proofs.lemmas.List.{length-map, get_or-map}
use Rattle.std.proofs.lemmas.List.Elements.{Contains-get_or, Contains-append_left, Contains-append_right, Contains-append_cases}
use Rattle.std.proofs.lemmas.Result.{on_ok_weaker}
use Rattle.std.specs.List.{AllByRecursion, Contains}
use Rattle.page_face.specs.FreeList.{PageMap}
use Rattle.best_first.specs.Lists.{all_in, all_weaker}
use Rattle.place_values.specs.declared.query.Pick.{Pick}
use Rattle.place_values.specs.declared.query.Chosen.{Chosen}
use Rattle.best_first.specs.Fits.{FitsTree, nodes_at}
use Rattle.group_search.specs.Choices.{IsWithin, IsInBoth, IsCut}
use Rattle.group_search.specs.Leads.{AreLeads, Follows}
use Rattle.collective_query.specs.Opened.{FindsPicks}
use Rattle.group_search.specs.Picks.{picks_of}
use Rattle.collective_query.specs.TreePicks.{tree_picks, tree_lists, first_picks, first_lists}
use Rattle.group_search.specs.Tried.{IsChosen}
use Rattle.group_search.proofs.Cuts.{cut-wider}
use Rattle.collective_query.proofs.Firsts.{first-among}
use Rattle.group_search.proofs.Leads.{follows-all}
use Rattle.collective_query.proofs.Opened.{finds-fewer}
use Rattle.collective_query.proofs.Searches.{searches-give, searches-refused, searches-then}
use Rattle.collective_query.proofs.anchoring.search_by_anchor.Goals as goal

pub begin-requires-clause-leads_measured : goal.begin-requires-clause-leads_measured
begin-requires-clause-leads_measured g c = c.list_at-known.ensures.measured c.args.at.now c.requires.measured

pub candidates-requires-clause-measured : goal.candidates-requires-clause-measured
candidates-requires-clause-measured g c = c.list_at-known.ensures.measured c.args.at.now c.requires.measured

pub returns-in-Err-candidates-clause-search : goal.returns-in-Err-candidates-clause-search
returns-in-Err-candidates-clause-search g c =
    searches-refused g.P.Pages c.args.tree.now _ _ _ _ c.in-Err-candidates.is
    (searches-then {X = ℕ} g.P.Pages g.met.P.Pages.goes_further g.met.P.Pages.reads_further c.args.tree.now _ _ _ _ _ (searches-give g.P.Pages c.args.tree.now _ _ _ _ 0 c.in-Ok.is c.begin.ensures.search) c.candidates.ensures.search)

pub returns-clause-search : goal.returns-clause-search
returns-clause-search g c =
    let P = g.P.Pages in
    let tree = c.args.tree.now in
    let further = g.met.P.Pages.goes_further in
    let more = g.met.P.Pages.reads_further in
    searches-then {X = ℕ} P further more tree _ _ _ _ _
    (searches-give P tree _ _ _ _ 0 c.in-Ok-candidates.is (searches-then {X = ℕ} P further more tree _ _ _ _ _ (searches-give P tree _ _ _ _ 0 c.in-Ok.is c.begin.ensures.search) c.candidates.ensures.search))
    c.follow_leads.ensures.search

pub returns-clause-least : goal.returns-clause-least
returns-clause-least g c = λ fits same inside was before start.
    let P = g.P.Pages in
    let tree = c.args.tree.now in
    let ids = c.args.ids.now in
    let at = c.args.at.now in
    let own = c.args.own in
    let words : List (List ℕ) = c.args.words.now in
    let nearest : List (Vec Pick Global) = c.args.nearest.now in
    let word : List ℕ = c.in-Some.word.now in
    let known : List Pick = c.list_at-known.result.now in
    let leads : List Pick = c.deref.result.now in
    let best : Chosen = c.begin.new.best in
    let new : Chosen = c.follow_leads.new.best in
    let f : _ = c.begin.ensures.search.frame in
    let k : _ = c.candidates.ensures.search.frame in
    let old : PageMap = P.pages c.args.pages.now in
    let mid : PageMap = P.pages c.begin.new.pages in
    let end : PageMap = P.pages c.candidates.new.pages in
    let back : end ≡ old = k.pages ∙ f.pages in
    let between : List ℕ = P.asked c.begin.new.pages in
    let later : List ℕ = P.asked c.candidates.new.pages in
    let after : List ℕ = P.asked c.follow_leads.new.pages in
    let all : PageMap → List ℕ → List Pick = λ p. tree_picks ids at (nodes_at p tree) tree.root in
    let lists : PageMap → List (List Pick) = λ p. tree_lists ids at (nodes_at p tree) tree.root words in
    let firsts : PageMap → List ℕ → List Pick = λ p. first_picks ids at at (nodes_at p tree) tree.root in
    let word_is : get_or words own word ≡ word = search rules in
    let among : Contains words word = subst (Contains words) word_is (Contains-get_or words own word inside) in
    let own_list : get_or (lists old) own [] ≡ all old word = get_or-map (all old) words own word [] inside ∙ ap (all old) word_is in
    let n = ap length same in
    let within : own < length nearest = omega (arith, length-map nearest (λ (list : Vec Pick Global). list.items), length-map words (firsts old)) in
    let here : own < length (lists old) = omega (arith, length-map words (all old)) in
    let known_is : known ≡ firsts old word =
    c.list_at-known.ensures.list within c.in-Ok-candidates.leads
    ∙ sym (get_or-map (λ (list : Vec Pick Global). list.items) nearest own c.in-Ok-candidates.leads [] within)
    ∙ ap (λ l. get_or l own []) same ∙ get_or-map (firsts old) words own word [] inside ∙ ap (firsts old) word_is in
    let first_leads : AllByRecursion (Contains (get_or (lists old) own [])) known =
    subst (λ (l : List Pick). AllByRecursion (Contains l) known) (sym own_list)
    (subst (AllByRecursion (Contains (all old word))) (sym known_is)
    (all_weaker (Contains (firsts old word)) (Contains (all old word)) (first-among ids at at (nodes_at old tree) tree.root word) (firsts old word) (all_in (firsts old word)))) in
    let are_first : AreLeads (lists old) own known = record { inside = here; among = first_leads } in
    let begun = c.in-Ok.ensures.chosen fits same are_first was before (picks_of nearest) (λ pick one. one) c.list_at-known.ensures.among start in
    let still : FitsTree mid (P.count c.begin.new.pages) (P.first c.begin.new.pages) tree = rw (f.pages, f.count, f.first) fits in
    let still_more : FitsTree end (P.count c.candidates.new.pages) (P.first c.candidates.new.pages) tree = rw (k.pages, k.count, k.first) still in
    let both : Pick → Type 0 = IsInBoth at best.cost at best.cost in
    let close : Pick → Type 0 = IsWithin at best.cost in
    let cut_here : IsCut both (all old word) leads =
    subst (IsCut both (all old word)) (sym c.deref.ensures.value)
    (subst (λ (p : PageMap). IsCut both (all p word) c.in-Ok-candidates.leads.items) f.pages (c.in-Ok-candidates.ensures.cut still (known_is ∙ ap (λ (p : PageMap). firsts p word) (sym f.pages)))) in
    let cut : IsCut close (get_or (lists old) own []) leads = subst (λ (l : List Pick). IsCut close l leads) (sym own_list) (cut-wider both close (all old word) leads (λ pick h. (h, h)) cut_here) in
    let found : List Pick = picks_of nearest ++ best.picks in
    let more : List Pick = found ++ leads in
    let wide : FindsPicks old tree ids at words before later more =
    subst (λ (l : List Pick). FindsPicks old tree ids at words before later (found ++ l)) (sym c.deref.ensures.value)
    (subst (λ (p : PageMap). FindsPicks p tree ids at words before later (found ++ c.in-Ok-candidates.leads.items)) f.pages
    (c.in-Ok-candidates.ensures.opened still words among before found (λ pick one. Contains-append_left (picks_of nearest) best.picks pick (c.list_at-known.ensures.among pick one))
    (subst (λ (p : PageMap). FindsPicks p tree ids at words before between found) (sym f.pages) begun.1))) in
    let enough : FindsPicks old tree ids at words before later (more ++ best.picks) =
    finds-fewer old tree ids at words before later more (more ++ best.picks)
    (λ pick one. ⊎_elim (λ (early : Contains more pick). early)
    (λ (mine : Contains best.picks pick). Contains-append_left found leads pick (Contains-append_right (picks_of nearest) best.picks pick mine))
    (Contains-append_cases more best.picks pick one)) wide in
    let are : AreLeads (lists old) own leads = record { inside = here; among = all_weaker (Contains leads) (Contains (get_or (lists old) own [])) cut.among leads (all_in leads) } in
    let Is : PageMap → Type 0 = λ p. Follows at (lists p) own leads best new × FindsPicks p tree ids at words before after (more ++ new.picks) in
    let followed : OnOk c.follow_leads.result (Is old) =
    subst (λ (p : PageMap). OnOk c.follow_leads.result (Is p)) back
    (c.follow_leads.ensures.followed still_more
    (same ∙ ap (λ (p : PageMap). first_lists ids at (nodes_at p tree) tree.root words) (sym back))
    (subst (λ (p : PageMap). AreLeads (lists p) own leads) (sym back) are)
    (subst (λ (p : PageMap). IsChosen at (lists p) best) (sym back) begun.0)
    before more
    (λ pick one. Contains-append_left found leads pick (Contains-append_left (picks_of nearest) best.picks pick one))
    (λ pick one. Contains-append_right found leads pick one)
    (subst (λ (p : PageMap). FindsPicks p tree ids at words before later (more ++ best.picks)) (sym back) enough)) in
    on_ok_weaker c.follow_leads.result
    (λ (h : Is old). (
      (h.0.chosen, follows-all at (lists old) own leads best new here begun.0 cut h.0),
      finds-fewer old tree ids at words before after (more ++ new.picks) new.picks (λ pick one. Contains-append_right more new.picks pick one) h.1,
    ))
    followed
