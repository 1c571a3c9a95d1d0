use Rattle.std.proofs.Common.{◌≡◌, ◌++◌, ◌∷◌, [], ◌∙◌, ◌<◌, ◌≤◌, ℕ, List, Vec, Global, ap, sym, subst, take, map, get_or, length, arith}
use Rattle.std.proofs.lemmas.List.{map-append, take_all, take_more, length-map, get_or-map}
use Rattle.std.proofs.lemmas.List.Elements.{Contains-get_or, Contains-append_left}
use Rattle.std.specs.List.{AllByRecursion, Contains}
use Rattle.page_face.specs.FreeList.{PageMap}
use Rattle.best_first.specs.Lists.{all_append}
use Rattle.place_values.specs.declared.query.Pick.{Pick}
use Rattle.place_values.specs.Search.{lists_in}
use Rattle.best_first.specs.Fits.{FitsTree, nodes_at}
use Rattle.group_search.specs.Choices.{IsInBoth, IsCut, AreCut}
use Rattle.collective_query.specs.Opened.{FindsPicks}
use Rattle.group_search.specs.Picks.{AreNear, AreMeasured, picks_of}
use Rattle.collective_query.specs.TreePicks.{tree_picks, first_picks}
use Rattle.group_search.proofs.Cuts.{cut-push}
use Rattle.collective_query.proofs.Opened.{finds-behind}
use Rattle.collective_query.proofs.Searches.{searches-give, searches-refused, searches-then}
use Rattle.collective_query.proofs.anchoring.within_each.Goals as goal

pub returns-in-Err-clause-search : goal.returns-in-Err-clause-search
returns-in-Err-clause-search g c =
    searches-refused g.P.Pages c.args.tree.now _ _ _ _ c.in-Err.is (searches-then g.P.Pages g.met.P.Pages.goes_further g.met.P.Pages.reads_further c.args.tree.now _ _ _ _ _ c.loop-index.invariant.search c.candidates.ensures.search)

pub loop-index-preserved : goal.loop-index-preserved
loop-index-preserved g c =
    let P = g.P.Pages in
    let h = c.loop-index.invariant in
    let f = h.search.frame in
    let tree = c.args.tree.now in
    let ids = c.args.ids.now in
    let from = c.args.at.now in
    let most = c.args.most in
    let both : Pick → Type 0 = IsInBoth from most from most in
    let words : List (List ℕ) = c.args.words.now in
    let nearest : List (Vec Pick Global) = c.args.nearest.now in
    let at : ℕ = c.loop-index.index in
    let word : List ℕ = c.index-words-index.result in
    let old : PageMap = P.pages c.args.pages.now in
    let all : PageMap → List ℕ → List Pick = λ p. tree_picks ids from (nodes_at p tree) tree.root in
    let firsts : PageMap → List ℕ → List Pick = λ p. first_picks ids from from (nodes_at p tree) tree.root in
    let lists_all : List (List Pick) = map (all old) words in
    let inside : at < length words = omega arith in
    let among : Contains words word = subst (Contains words) (sym c.index-words-index.is) (Contains-get_or words at word inside) in
    let lists = c.loop-index.lists.items in
    let picks = c.in-Ok.picks in
    let pushed : c.push.new.self.items ≡ lists ++ picks ∷ [] = c.in-Ok-push.ensures.items in
    let between : List ℕ = P.asked c.loop-index.pages in
    let after : List ℕ = P.asked c.candidates.new.pages in
    record {
      cut = λ fits same.
          let still : FitsTree (P.pages c.loop-index.pages) (P.count c.loop-index.pages) (P.first c.loop-index.pages) tree = rw (f.pages, f.count, f.first) fits in
          let n = ap length same in
          let within : at < length nearest = omega (arith, length-map nearest (λ (list : Vec Pick Global). list.items), length-map words (firsts old)) in
          let there : at < length lists_all = omega (arith, length-map words (all old)) in
          let known : c.list_at-known.result.now ≡ firsts old word =
          c.list_at-known.ensures.list within picks
          ∙ sym (get_or-map (λ (list : Vec Pick Global). list.items) nearest at picks [] within)
          ∙ ap (λ l. get_or l at []) same ∙ get_or-map (firsts old) words at word [] inside ∙ ap (firsts old) (sym c.index-words-index.is) in
          let cut : IsCut both (all old word) picks.items =
          subst (λ (p : PageMap). IsCut both (all p word) picks.items) f.pages
          (c.in-Ok.ensures.cut still (known ∙ ap (λ (p : PageMap). firsts p word) (sym f.pages))) in
          let is : get_or lists_all at [] ≡ all old word = get_or-map (all old) words at word [] inside ∙ ap (all old) (sym c.index-words-index.is) in
          subst (λ ls. AreCut both ls (lists_in c.push.new.self.items)) (sym (take_more lists_all at [] there ∙ ap (λ (l : List Pick). take at lists_all ++ l ∷ []) is))
          (subst (AreCut both (take at lists_all ++ all old word ∷ [])) (sym (ap lists_in pushed ∙ map-append (λ (list : Vec Pick Global). list.items) lists (picks ∷ [])))
          (cut-push both (take at lists_all) (lists_in lists) (all old word) picks.items (h.cut fits same) cut));
      near = subst (AllByRecursion (λ (list : Vec Pick Global). AreNear list.items)) (sym pushed) (all_append (λ (list : Vec Pick Global). AreNear list.items) lists (picks ∷ []) h.near (c.in-Ok.ensures.near, tt));
      measured = subst (AllByRecursion (λ (list : Vec Pick Global). AreMeasured from list.items)) (sym pushed) (all_append (λ (list : Vec Pick Global). AreMeasured from list.items) lists (picks ∷ []) h.measured (c.in-Ok.ensures.measured, tt));
      opened = λ fits before found has start.
          let still : FitsTree (P.pages c.loop-index.pages) (P.count c.loop-index.pages) (P.first c.loop-index.pages) tree = rw (f.pages, f.count, f.first) fits in
          let so_far : List Pick = found ++ picks_of lists in
          let left : (pick : Pick) → Contains found pick → Contains so_far pick = Contains-append_left found (picks_of lists) in
          finds-behind old tree ids from words before after found lists c.push.new.self.items picks pushed
          (subst (λ (p : PageMap). FindsPicks p tree ids from words before after (so_far ++ picks.items)) f.pages
          (c.in-Ok.ensures.opened still words among before so_far (λ pick one. left pick (has pick (c.list_at-known.ensures.among pick one)))
          (subst (λ (p : PageMap). FindsPicks p tree ids from words before between so_far) (sym f.pages) (h.opened fits before found has start))));
      search = searches-give P tree _ _ _ _ 0 c.in-Ok.is (searches-then P g.met.P.Pages.goes_further g.met.P.Pages.reads_further tree _ _ _ _ _ h.search c.candidates.ensures.search);
    }

pub candidates-requires-clause-measured : goal.candidates-requires-clause-measured
candidates-requires-clause-measured g c = c.list_at-known.ensures.measured c.args.at.now c.requires.measured

pub returns-clause-cut : goal.returns-clause-cut
returns-clause-cut g c = λ fits same.
    let tree = c.args.tree.now in
    let words : List (List ℕ) = c.args.words.now in
    let all : List ℕ → List Pick = tree_picks c.args.ids.now c.args.at.now (nodes_at (g.P.Pages.pages c.args.pages.now) tree) tree.root in
    let long : length (map all words) ≤ c.loop-index.index = omega (arith, length-map words all) in
    subst (λ (l : List (List Pick)). AreCut (IsInBoth c.args.at.now c.args.most c.args.at.now c.args.most) l (lists_in c.loop-index.lists.items)) (take_all c.loop-index.index (map all words) long)
    (c.loop-index.invariant.cut fits same)
