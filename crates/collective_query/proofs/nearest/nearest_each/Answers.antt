use Rattle.std.proofs.Common.{◌≡◌, ◌+◌, ◌++◌, ◌∷◌, [], ◌∙◌, ℕ, List, Vec, Global, ap, sym, subst, take, map}
use Rattle.std.proofs.lemmas.List.{map-append, take_more}
use Rattle.std.proofs.lemmas.List.Elements.{Contains-get_or}
use Rattle.std.specs.List.{AllByRecursion, Contains}
use Rattle.page_face.specs.FreeList.{PageMap}
use Rattle.best_first.specs.Lists.{all_append}
use Rattle.place_values.specs.declared.query.Pick.{Pick}
use Rattle.place_values.specs.Search.{lists_in}
use Rattle.best_first.specs.Fits.{FitsTree, nodes_at}
use Rattle.collective_query.specs.Opened.{FindsPicks}
use Rattle.group_search.specs.Picks.{AreNear, AreMeasured}
use Rattle.collective_query.specs.TreePicks.{first_picks}
use Rattle.collective_query.proofs.Opened.{finds-pushed}
use Rattle.collective_query.proofs.Searches.{searches-give, searches-refused, searches-then}
use Rattle.collective_query.proofs.nearest.nearest_each.Goals as goal

pub returns-in-Err-clause-search : goal.returns-in-Err-clause-search
returns-in-Err-clause-search g c =
    searches-refused g.P.Pages c.args.tree.now _ _ _ _ c.in-Err.is (searches-then g.P.Pages g.met.P.Pages.goes_further g.met.P.Pages.reads_further c.args.tree.now _ _ _ _ _ c.loop-word.invariant.search c.nearest_picks.ensures.search)

pub loop-word-preserved : goal.loop-word-preserved
loop-word-preserved g c =
    let P = g.P.Pages in
    let h = c.loop-word.invariant in
    let f = h.search.frame in
    let tree = c.args.tree.now in
    let ids = c.args.ids.now in
    let from = c.args.at.now in
    let words : List (List ℕ) = c.args.words.now in
    let at : ℕ = c.loop-word.word-index in
    let word : List ℕ = c.word-item.result in
    let old : PageMap = P.pages c.args.pages.now in
    let picks : PageMap → List ℕ → List Pick = λ p. first_picks ids from from (nodes_at p tree) tree.root in
    let mine : List ℕ → List Pick = picks old in
    let more : take (at + 1) words ≡ take at words ++ word ∷ [] = take_more words at word c.loop-word-test.true ∙ ap (λ (w : List ℕ). take at words ++ w ∷ []) (sym c.word-item.is) in
    let among : Contains words word = subst (Contains words) (sym c.word-item.is) (Contains-get_or words at word c.loop-word-test.true) in
    let lists = c.loop-word.lists.items in
    let pushed : c.push.new.self.items ≡ lists ++ c.in-Ok.picks ∷ [] = c.in-Ok-push.ensures.items in
    let before : List ℕ = P.asked c.args.pages.now in
    let between : List ℕ = P.asked c.loop-word.pages in
    let after : List ℕ = P.asked c.nearest_picks.new.pages in
    record {
      lists = λ fits.
          let still : FitsTree (P.pages c.loop-word.pages) (P.count c.loop-word.pages) (P.first c.loop-word.pages) tree = rw (f.pages, f.count, f.first) fits in
          let here : c.in-Ok.picks.items ≡ mine word = c.in-Ok.ensures.picks still ∙ ap (λ (p : PageMap). picks p word) f.pages in
          ap lists_in pushed ∙ map-append (λ (list : Vec Pick Global). list.items) lists (c.in-Ok.picks ∷ [])
          ∙ (λ i. h.lists fits i ++ here i ∷ []) ∙ sym (map-append mine (take at words) (word ∷ [])) ∙ ap (map mine) (sym more);
      near = subst (AllByRecursion (λ (list : Vec Pick Global). AreNear list.items)) (sym pushed) (all_append (λ (list : Vec Pick Global). AreNear list.items) lists (c.in-Ok.picks ∷ []) h.near (c.in-Ok.ensures.near, tt));
      measured = subst (AllByRecursion (λ (list : Vec Pick Global). AreMeasured from list.items)) (sym pushed) (all_append (λ (list : Vec Pick Global). AreMeasured from list.items) lists (c.in-Ok.picks ∷ []) h.measured (c.in-Ok.ensures.measured, tt));
      opened = λ fits.
          let still : FitsTree (P.pages c.loop-word.pages) (P.count c.loop-word.pages) (P.first c.loop-word.pages) tree = rw (f.pages, f.count, f.first) fits in
          finds-pushed old tree ids from words before between after lists c.push.new.self.items c.in-Ok.picks pushed (h.opened fits)
          (subst (λ (p : PageMap). FindsPicks p tree ids from words between after c.in-Ok.picks.items) f.pages (c.in-Ok.ensures.opened still words among));
      search = searches-give P tree _ _ _ _ 0 c.in-Ok.is (searches-then P g.met.P.Pages.goes_further g.met.P.Pages.reads_further tree _ _ _ _ _ h.search c.nearest_picks.ensures.search);
    }
