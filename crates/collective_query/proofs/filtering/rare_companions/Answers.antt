use Rattle.std.proofs.Common.{◌≡◌, ◌++◌, ◌∷◌, [], ◌∙◌, ◌<◌, ℕ, List, Vec, Some, Global, ap, sym, subst, map, get_or, length, if◌then◌else◌, arith, ⊎_elim}
use Rattle.std.proofs.lemmas.List.{map-append, length-map, get_or-map}
use Rattle.std.proofs.lemmas.List.Elements.{Contains-get_or, Contains-append_left, Contains-append_cases}
use Rattle.std.specs.List.{AllByRecursion, Contains}
use Rattle.page_face.specs.FreeList.{PageMap}
use Rattle.best_first.specs.Lists.{all_append}
use Rattle.place_values.specs.declared.query.Pick.{Pick}
use Rattle.place_values.specs.Search.{lists_in}
use Rattle.best_first.specs.Fits.{FitsTree, nodes_at}
use Rattle.group_search.specs.Choices.{IsCut}
use Rattle.group_search.specs.Leads.{IsWanted}
use Rattle.collective_query.specs.Opened.{FindsPicks}
use Rattle.group_search.specs.Picks.{AreNear, AreMeasured, picks_of}
use Rattle.collective_query.specs.TreePicks.{tree_picks, first_picks}
use Rattle.group_search.proofs.Leads.{companion-met}
use Rattle.group_search.proofs.Members.{contains-cases, contains-none}
use Rattle.collective_query.proofs.Opened.{finds-behind}
use Rattle.collective_query.proofs.Searches.{searches-give, searches-refused, searches-then}
use Rattle.collective_query.proofs.filtering.rare_companions.Goals as goal

pub companions-requires-clause-measured : goal.companions-requires-clause-measured
companions-requires-clause-measured g c = c.list_at-known.ensures.measured c.args.at.now c.requires.measured

pub returns-in-Err-clause-search : goal.returns-in-Err-clause-search
returns-in-Err-clause-search g c =
    searches-refused g.P.Pages c.args.tree.now _ _ _ _ c.in-Err.is (searches-then g.P.Pages g.met.P.Pages.goes_further g.met.P.Pages.reads_further c.args.tree.now _ _ _ _ _ c.loop-index.invariant.search c.companions.ensures.search)

pub loop-index-preserved : goal.loop-index-preserved
loop-index-preserved g c =
    let P = g.P.Pages in
    let h = c.loop-index.invariant in
    let f = h.search.frame in
    let tree = c.args.tree.now in
    let ids = c.args.ids.now in
    let from = c.args.at.now in
    let own = c.args.own in
    let anchor : Pick = c.args.anchor.now in
    let wanted : Pick → Type 0 = IsWanted from anchor (Some c.args.most) in
    let words : List (List ℕ) = c.args.words.now in
    let nearest : List (Vec Pick Global) = c.args.nearest.now in
    let at : ℕ = c.loop-index.index in
    let word : List ℕ = c.index-words-index.result in
    let old : PageMap = P.pages c.args.pages.now in
    let all : PageMap → List ℕ → List Pick = λ p. tree_picks ids from (nodes_at p tree) tree.root in
    let firsts : PageMap → List ℕ → List Pick = λ p. first_picks ids from from (nodes_at p tree) tree.root in
    let inside : at < length words = omega arith in
    let among : Contains words word = subst (Contains words) (sym c.index-words-index.is) (Contains-get_or words at word inside) in
    let lists = c.loop-index.lists.items in
    let picks = c.in-Ok.picks in
    let pushed : c.push.new.self.items ≡ lists ++ picks ∷ [] = c.in-Ok-push.ensures.items in
    let between : List ℕ = P.asked c.loop-index.pages in
    let after : List ℕ = P.asked c.companions.new.pages in
    record {
      met = λ fits same led choice one cheap list there.
          let still : FitsTree (P.pages c.loop-index.pages) (P.count c.loop-index.pages) (P.first c.loop-index.pages) tree = rw (f.pages, f.count, f.first) fits in
          let n = ap length same in
          let within : at < length nearest = omega (arith, length-map nearest (λ (list : Vec Pick Global). list.items), length-map words (firsts old)) in
          let here : at < length (map (all old) words) = omega (arith, length-map words (all old)) in
          let own_here : own < length (map (all old) words) = omega (arith, length-map words (all old)) in
          let known : c.list_at-known.result.now ≡ firsts old word =
          c.list_at-known.ensures.list within picks
          ∙ sym (get_or-map (λ (list : Vec Pick Global). list.items) nearest at picks [] within)
          ∙ ap (λ l. get_or l at []) same ∙ get_or-map (firsts old) words at word [] inside ∙ ap (firsts old) (sym c.index-words-index.is) in
          let cut : IsCut wanted (if c.is_alone-alone.result then anchor ∷ [] else all old word) picks.items =
          subst (λ (p : PageMap). IsCut wanted (if c.is_alone-alone.result then anchor ∷ [] else all p word) picks.items) f.pages
          (c.in-Ok.ensures.cut still (known ∙ ap (λ (p : PageMap). firsts p word) (sym f.pages))) in
          ⊎_elim
          (λ (early : Contains (lists_in lists) list). h.met fits same led choice one cheap list early)
          (λ (last : Contains (picks.items ∷ []) list). ⊎_elim
          (λ (is : picks.items ≡ list). subst (λ (l : List Pick). (pick : Pick) × Contains choice pick × Contains l pick) is
          (companion-met from (map (all old) words) own at anchor c.args.most (all old word) picks.items choice c.is_alone-alone.result own_here here
          (get_or-map (all old) words at word [] inside ∙ ap (all old) (sym c.index-words-index.is)) c.is_alone-alone.ensures cut one cheap))
          (λ (later : Contains [] list). absurd (contains-none list later))
          (contains-cases picks.items [] list last))
          (Contains-append_cases (lists_in lists) (picks.items ∷ []) list
          (subst (λ (l : List (List Pick)). Contains l list) (ap lists_in pushed ∙ map-append (λ (list : Vec Pick Global). list.items) lists (picks ∷ [])) there));
      near = subst (AllByRecursion (λ (list : Vec Pick Global). AreNear list.items)) (sym pushed) (all_append (λ (list : Vec Pick Global). AreNear list.items) lists (picks ∷ []) h.near (c.in-Ok.ensures.near, tt));
      measured = subst (AllByRecursion (λ (list : Vec Pick Global). AreMeasured from list.items)) (sym pushed) (all_append (λ (list : Vec Pick Global). AreMeasured from list.items) lists (picks ∷ []) h.measured (c.in-Ok.ensures.measured, tt));
      opened = λ fits before found has takes start.
          let still : FitsTree (P.pages c.loop-index.pages) (P.count c.loop-index.pages) (P.first c.loop-index.pages) tree = rw (f.pages, f.count, f.first) fits in
          let so_far : List Pick = found ++ picks_of lists in
          let left : (pick : Pick) → Contains found pick → Contains so_far pick = Contains-append_left found (picks_of lists) in
          finds-behind old tree ids from words before after found lists c.push.new.self.items picks pushed
          (subst (λ (p : PageMap). FindsPicks p tree ids from words before after (so_far ++ picks.items)) f.pages
          (c.in-Ok.ensures.opened still words among before so_far (λ pick one. left pick (has pick (c.list_at-known.ensures.among pick one))) (left anchor takes)
          (subst (λ (p : PageMap). FindsPicks p tree ids from words before between so_far) (sym f.pages) (h.opened fits before found has takes start))));
      search = searches-give P tree _ _ _ _ 0 c.in-Ok.is (searches-then P g.met.P.Pages.goes_further g.met.P.Pages.reads_further tree _ _ _ _ _ h.search c.companions.ensures.search);
    }
