use Rattle.std.proofs.Common.{◌≡◌, ◌++◌, ◌∷◌, [], ◌∙◌, ◌<◌, ◌≤◌, ℕ, List, Vec, vec_len, refl, append-nil, Global, ap, sym, subst, take, map, get_or, length, nat_eq, if◌then◌else◌, arith}
use Rattle.std.proofs.lemmas.Bool.{eqb-true}
use Rattle.std.proofs.lemmas.List.{map-append, take_all, take_more, length-map, get_or-map}
use Rattle.std.proofs.lemmas.List.Elements.{Contains-get_or, Contains-append_left}
use Rattle.std.specs.List.{AllByRecursion, Contains}
use Rattle.page_face.specs.FreeList.{PageMap}
use Rattle.best_first.specs.Lists.{all_append}
use Rattle.place_values.specs.declared.query.Pick.{Pick}
use Rattle.place_values.specs.Search.{lists_in}
use Rattle.best_first.specs.Fits.{FitsTree, nodes_at}
use Rattle.group_search.specs.Choices.{IsCut, AreCut}
use Rattle.group_search.specs.Leads.{led_by, IsWanted}
use Rattle.collective_query.specs.Opened.{FindsPicks}
use Rattle.group_search.specs.Picks.{AreNear, AreMeasured, picks_of}
use Rattle.collective_query.specs.TreePicks.{tree_picks, first_picks}
use Rattle.group_search.proofs.Cuts.{cut-push, none-counted}
use Rattle.group_search.proofs.Leads.{led-length, led-here}
use Rattle.collective_query.proofs.Opened.{finds-behind, finds-fewer}
use Rattle.collective_query.proofs.Searches.{searches-give, searches-refused, searches-then}
use Rattle.collective_query.proofs.gathering.gather.Goals as goal

pub returns-in-Err-clause-search : goal.returns-in-Err-clause-search
returns-in-Err-clause-search g c =
    searches-refused g.P.Pages c.args.tree.now _ _ _ _ c.in-Err.is (searches-then g.P.Pages g.met.P.Pages.goes_further g.met.P.Pages.reads_further c.args.tree.now _ _ _ _ _ c.loop-index.invariant.search c.companions.ensures.search)

pub loop-index-preserved : goal.loop-index-preserved
loop-index-preserved g c =
    let P = g.P.Pages in
    let h = c.loop-index.invariant in
    let f = h.search.frame in
    let tree = c.args.tree.now in
    let ids = c.args.ids.now in
    let from = c.args.at.now in
    let own = c.args.own in
    let anchor : Pick = c.args.anchor.now in
    let wanted : Pick → Type 0 = IsWanted from anchor c.args.most in
    let words : List (List ℕ) = c.args.words.now in
    let nearest : List (Vec Pick Global) = c.args.nearest.now in
    let at : ℕ = c.loop-index.index in
    let word : List ℕ = c.index-words-index.result in
    let old : PageMap = P.pages c.args.pages.now in
    let all : PageMap → List ℕ → List Pick = λ p. tree_picks ids from (nodes_at p tree) tree.root in
    let firsts : PageMap → List ℕ → List Pick = λ p. first_picks ids from from (nodes_at p tree) tree.root in
    let led : List (List Pick) = led_by own anchor (map (all old) words) in
    let inside : at < length words = omega arith in
    let among : Contains words word = subst (Contains words) (sym c.index-words-index.is) (Contains-get_or words at word inside) in
    let lists = c.loop-index.lists.items in
    let picks = c.in-Ok.picks in
    let pushed : c.push.new.self.items ≡ lists ++ picks ∷ [] = c.in-Ok-push.ensures.items in
    let between : List ℕ = P.asked c.loop-index.pages in
    let after : List ℕ = P.asked c.companions.new.pages in
    record {
      cut = λ fits same.
          let still : FitsTree (P.pages c.loop-index.pages) (P.count c.loop-index.pages) (P.first c.loop-index.pages) tree = rw (f.pages, f.count, f.first) fits in
          let n = ap length same in
          let within : at < length nearest = omega (arith, length-map nearest (λ (list : Vec Pick Global). list.items), length-map words (firsts old)) in
          let here : at < length (map (all old) words) = omega (arith, length-map words (all old)) in
          let there : at < length led = omega (arith, led-length own anchor (map (all old) words)) in
          let known : c.list_at-known.result.now ≡ firsts old word =
          c.list_at-known.ensures.list within picks
          ∙ sym (get_or-map (λ (list : Vec Pick Global). list.items) nearest at picks [] within)
          ∙ ap (λ l. get_or l at []) same ∙ get_or-map (firsts old) words at word [] inside ∙ ap (firsts old) (sym c.index-words-index.is) in
          let cut : IsCut wanted (if nat_eq at own then anchor ∷ [] else all old word) picks.items =
          subst (λ (p : PageMap). IsCut wanted (if nat_eq at own then anchor ∷ [] else all p word) picks.items) f.pages
          (c.in-Ok.ensures.cut still (known ∙ ap (λ (p : PageMap). firsts p word) (sym f.pages))) in
          let is : get_or led at [] ≡ (if nat_eq at own then anchor ∷ [] else all old word) =
          led-here own at anchor (map (all old) words) (all old word) here (get_or-map (all old) words at word [] inside ∙ ap (all old) (sym c.index-words-index.is)) in
          subst (λ ls. AreCut wanted ls (lists_in c.push.new.self.items)) (sym (take_more led at [] there ∙ ap (λ (l : List Pick). take at led ++ l ∷ []) is))
          (subst (AreCut wanted (take at led ++ (if nat_eq at own then anchor ∷ [] else all old word) ∷ [])) (sym (ap lists_in pushed ∙ map-append (λ (list : Vec Pick Global). list.items) lists (picks ∷ [])))
          (cut-push wanted (take at led) (lists_in lists) (if nat_eq at own then anchor ∷ [] else all old word) picks.items (h.cut fits same) cut));
      near = subst (AllByRecursion (λ (list : Vec Pick Global). AreNear list.items)) (sym pushed) (all_append (λ (list : Vec Pick Global). AreNear list.items) lists (picks ∷ []) h.near (c.in-Ok.ensures.near, tt));
      measured = subst (AllByRecursion (λ (list : Vec Pick Global). AreMeasured from list.items)) (sym pushed) (all_append (λ (list : Vec Pick Global). AreMeasured from list.items) lists (picks ∷ []) h.measured (c.in-Ok.ensures.measured, tt));
      opened = λ fits before found has takes start.
          let still : FitsTree (P.pages c.loop-index.pages) (P.count c.loop-index.pages) (P.first c.loop-index.pages) tree = rw (f.pages, f.count, f.first) fits in
          let so_far : List Pick = found ++ picks_of lists in
          let left : (pick : Pick) → Contains found pick → Contains so_far pick = Contains-append_left found (picks_of lists) in
          finds-behind old tree ids from words before after found lists c.push.new.self.items picks pushed
          (subst (λ (p : PageMap). FindsPicks p tree ids from words before after (so_far ++ picks.items)) f.pages
          (c.in-Ok.ensures.opened still words among before so_far (λ pick one. left pick (has pick (c.list_at-known.ensures.among pick one))) (left anchor takes)
          (subst (λ (p : PageMap). FindsPicks p tree ids from words before between so_far) (sym f.pages) (h.opened fits before found has takes start))));
      search = searches-give P tree _ _ _ _ 0 c.in-Ok.is (searches-then P g.met.P.Pages.goes_further g.met.P.Pages.reads_further tree _ _ _ _ _ h.search c.companions.ensures.search);
    }

pub companions-requires-clause-measured : goal.companions-requires-clause-measured
companions-requires-clause-measured g c = c.list_at-known.ensures.measured c.args.at.now c.requires.measured

-- an empty list
no-items : (xs : List Pick) → length xs ≡ 0 → xs ≡ []
no-items [] none = refl
no-items (x ∷ xs) none = absurd (omega arith)

pub returns-then-is_empty-clause-gathered : goal.returns-then-is_empty-clause-gathered
returns-then-is_empty-clause-gathered g c = λ fits same choice is all_count.
    let P = g.P.Pages in
    let h = c.loop-index.invariant in
    let f = h.search.frame in
    let tree = c.args.tree.now in
    let ids = c.args.ids.now in
    let from = c.args.at.now in
    let own = c.args.own in
    let anchor : Pick = c.args.anchor.now in
    let wanted : Pick → Type 0 = IsWanted from anchor c.args.most in
    let words : List (List ℕ) = c.args.words.now in
    let nearest : List (Vec Pick Global) = c.args.nearest.now in
    let at : ℕ = c.loop-index.index in
    let word : List ℕ = c.index-words-index.result in
    let old : PageMap = P.pages c.args.pages.now in
    let all : PageMap → List ℕ → List Pick = λ p. tree_picks ids from (nodes_at p tree) tree.root in
    let firsts : PageMap → List ℕ → List Pick = λ p. first_picks ids from from (nodes_at p tree) tree.root in
    let led : List (List Pick) = led_by own anchor (map (all old) words) in
    let inside : at < length words = omega arith in
    let picks = c.in-Ok.picks in
    let still : FitsTree (P.pages c.loop-index.pages) (P.count c.loop-index.pages) (P.first c.loop-index.pages) tree = rw (f.pages, f.count, f.first) fits in
    let n = ap length same in
    let within : at < length nearest = omega (arith, length-map nearest (λ (list : Vec Pick Global). list.items), length-map words (firsts old)) in
    let here : at < length (map (all old) words) = omega (arith, length-map words (all old)) in
    let there : at < length led = omega (arith, led-length own anchor (map (all old) words)) in
    let known : c.list_at-known.result.now ≡ firsts old word =
    c.list_at-known.ensures.list within picks
    ∙ sym (get_or-map (λ (list : Vec Pick Global). list.items) nearest at picks [] within)
    ∙ ap (λ l. get_or l at []) same ∙ get_or-map (firsts old) words at word [] inside ∙ ap (firsts old) (sym c.index-words-index.is) in
    let cut : IsCut wanted (if nat_eq at own then anchor ∷ [] else all old word) picks.items =
    subst (λ (p : PageMap). IsCut wanted (if nat_eq at own then anchor ∷ [] else all p word) picks.items) f.pages
    (c.in-Ok.ensures.cut still (known ∙ ap (λ (p : PageMap). firsts p word) (sym f.pages))) in
    let own_list : get_or led at [] ≡ (if nat_eq at own then anchor ∷ [] else all old word) =
    led-here own at anchor (map (all old) words) (all old word) here (get_or-map (all old) words at word [] inside ∙ ap (all old) (sym c.index-words-index.is)) in
    let len : vec_len picks ≡ 0 = eqb-true (vec_len picks) 0 (sym c.is_empty.ensures ∙ c.if-is_empty.true) in
    let empty : picks.items ≡ [] = no-items picks.items (omega arith) in
    none-counted wanted led choice (get_or led at []) (Contains-get_or led at [] there)
    (subst (λ (l : List Pick). IsCut wanted l []) (sym own_list) (subst (IsCut wanted (if nat_eq at own then anchor ∷ [] else all old word)) empty cut)) is all_count

pub returns-then-is_empty-clause-opened : goal.returns-then-is_empty-clause-opened
returns-then-is_empty-clause-opened g c = λ fits before found has takes start.
    let P = g.P.Pages in
    let h = c.loop-index.invariant in
    let f = h.search.frame in
    let tree = c.args.tree.now in
    let ids = c.args.ids.now in
    let from = c.args.at.now in
    let anchor : Pick = c.args.anchor.now in
    let words : List (List ℕ) = c.args.words.now in
    let at : ℕ = c.loop-index.index in
    let word : List ℕ = c.index-words-index.result in
    let old : PageMap = P.pages c.args.pages.now in
    let inside : at < length words = omega arith in
    let among : Contains words word = subst (Contains words) (sym c.index-words-index.is) (Contains-get_or words at word inside) in
    let lists = c.loop-index.lists.items in
    let picks = c.in-Ok.picks in
    let between : List ℕ = P.asked c.loop-index.pages in
    let after : List ℕ = P.asked c.companions.new.pages in
    let still : FitsTree (P.pages c.loop-index.pages) (P.count c.loop-index.pages) (P.first c.loop-index.pages) tree = rw (f.pages, f.count, f.first) fits in
    let so_far : List Pick = found ++ picks_of lists in
    let left : (pick : Pick) → Contains found pick → Contains so_far pick = Contains-append_left found (picks_of lists) in
    finds-fewer old tree ids from words before after (so_far ++ picks.items) (found ++ [])
    (λ pick one. Contains-append_left so_far picks.items pick (left pick (subst (λ (l : List Pick). Contains l pick) (append-nil found) one)))
    (subst (λ (p : PageMap). FindsPicks p tree ids from words before after (so_far ++ picks.items)) f.pages
    (c.in-Ok.ensures.opened still words among before so_far (λ pick one. left pick (has pick (c.list_at-known.ensures.among pick one))) (left anchor takes)
    (subst (λ (p : PageMap). FindsPicks p tree ids from words before between so_far) (sym f.pages) (h.opened fits before found has takes start))))

pub returns-then-is_empty-clause-search : goal.returns-then-is_empty-clause-search
returns-then-is_empty-clause-search g c =
    searches-give g.P.Pages c.args.tree.now _ _ _ _ _ c.in-Ok.is (searches-then g.P.Pages g.met.P.Pages.goes_further g.met.P.Pages.reads_further c.args.tree.now _ _ _ _ _ c.loop-index.invariant.search c.companions.ensures.search)

pub returns-clause-gathered : goal.returns-clause-gathered
returns-clause-gathered g c = λ fits same.
    let tree = c.args.tree.now in
    let words : List (List ℕ) = c.args.words.now in
    let all : List ℕ → List Pick = tree_picks c.args.ids.now c.args.at.now (nodes_at (g.P.Pages.pages c.args.pages.now) tree) tree.root in
    let led : List (List Pick) = led_by c.args.own c.args.anchor.now (map all words) in
    let long : length led ≤ c.loop-index.index = omega (arith, led-length c.args.own c.args.anchor.now (map all words), length-map words all) in
    subst (λ (l : List (List Pick)). AreCut (IsWanted c.args.at.now c.args.anchor.now c.args.most) l (lists_in c.loop-index.lists.items)) (take_all c.loop-index.index led long)
    (c.loop-index.invariant.cut fits same)
