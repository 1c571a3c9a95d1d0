use Rattle.std.proofs.Common.{◌≡◌, ◌∷◌, [], ◌++◌, ℕ, List, Option, None, Bool, false, sym, subst, ⊎_elim}
use Rattle.std.proofs.lemmas.List.Elements.{Contains-get_or}
use Rattle.std.specs.List.{Contains}
use Rattle.page_face.specs.FreeList.{PageMap}
use Rattle.place_values.specs.declared.hit.Hit.{Hit}
use Rattle.place_values.specs.declared.query.Pick.{Pick}
use Rattle.best_first.specs.Fits.{FitsTree, nodes_at}
use Rattle.collective_query.specs.Opened.{FindsPicks}
use Rattle.collective_query.specs.TreePicks.{tree_lists}
use Rattle.collective_query.proofs.Opened.{finds-fewer, finds-then}
use Rattle.collective_query.proofs.Searches.{searches-give, searches-refused, searches-then}
use Rattle.group_search.proofs.Members.{contains-none, contains-cases}
use Rattle.group_sum.specs.Named.{AreNamedOnce}
use Rattle.group_sum.specs.Shared.{IsNearestShared, shared_in}
use Rattle.group_sum.proofs.TreeSets.{lacks-one}
use Rattle.group_sum.proofs.filling.has_each.Goals as goal

pub loop-word-preserved : goal.loop-word-preserved
loop-word-preserved g c =
    let P = g.P.Pages in
    let h = c.loop-word.invariant in
    let f = h.search.frame in
    let tree = c.args.tree.now in
    let ids = c.args.ids.now in
    let at = c.args.at.now in
    let words : List (List ℕ) = c.args.words.now in
    let word : List ℕ = c.word-item.result in
    let old : PageMap = P.pages c.args.pages.now in
    let before : List ℕ = P.asked c.args.pages.now in
    let between : List ℕ = P.asked c.loop-word.pages in
    let after : List ℕ = P.asked c.nearest_with_all.new.pages in
    let inside : Contains words word = subst (Contains words) (sym c.word-item.is) (Contains-get_or words c.loop-word.word-index word c.loop-word-test.true) in
    let among : (w : List ℕ) → Contains (word ∷ []) w → Contains words w =
    λ w one. ⊎_elim (λ (same : word ≡ w). subst (Contains words) same inside) (λ (none : Contains [] w). absurd (contains-none w none)) (contains-cases word [] w one) in
    let shared : List Pick = shared_in at (word ∷ []) c.in-Ok-Some.field-0 in
    record {
      opened = λ fits.
          let still : FitsTree (P.pages c.loop-word.pages) (P.count c.loop-word.pages) (P.first c.loop-word.pages) tree = rw (f.pages, f.count, f.first) fits in
          finds-fewer old tree ids at words before after ([] ++ shared) [] (λ pick none. absurd (contains-none pick none))
          (finds-then old tree ids at words before between after [] shared (h.opened fits) (subst (λ (p : PageMap). FindsPicks p tree ids at words between after shared) f.pages (c.in-Ok-Some.ensures.opened still words among)));
      search = searches-give P tree _ _ _ _ 0 c.in-Ok-Some.is (searches-then P g.met.P.Pages.goes_further g.met.P.Pages.reads_further tree _ _ _ _ _ h.search c.nearest_with_all.ensures.search);
    }

pub returns-in-Ok-None-clause-lacking : goal.returns-in-Ok-None-clause-lacking
returns-in-Ok-None-clause-lacking g c = λ fits once no.
    let P = g.P.Pages in
    let f = c.loop-word.invariant.search.frame in
    let tree = c.args.tree.now in
    let ids = c.args.ids.now in
    let at = c.args.at.now in
    let words : List (List ℕ) = c.args.words.now in
    let word : List ℕ = c.word-item.result in
    let old : PageMap = P.pages c.args.pages.now in
    let still : FitsTree (P.pages c.loop-word.pages) (P.count c.loop-word.pages) (P.first c.loop-word.pages) tree = rw (f.pages, f.count, f.first) fits in
    let named : AreNamedOnce (nodes_at (P.pages c.loop-word.pages) tree) tree.root = rw f.pages once in
    let inside : Contains words word = subst (Contains words) (sym c.word-item.is) (Contains-get_or words c.loop-word.word-index word c.loop-word-test.true) in
    lacks-one ids at (nodes_at old tree) tree.root words word inside
    (subst (λ (hit : Option Hit). IsNearestShared at (word ∷ []) (tree_lists ids at (nodes_at old tree) tree.root (word ∷ [])) None hit) c.in-Ok-None.field-0-is
    (subst (λ (p : PageMap). IsNearestShared at (word ∷ []) (tree_lists ids at (nodes_at p tree) tree.root (word ∷ [])) None c.in-Ok-None.field-0) f.pages (c.in-Ok-None.ensures.nearest still named)))

pub returns-in-Ok-None-clause-opened : goal.returns-in-Ok-None-clause-opened
returns-in-Ok-None-clause-opened g c = λ fits.
    let P = g.P.Pages in
    let h = c.loop-word.invariant in
    let f = h.search.frame in
    let tree = c.args.tree.now in
    let ids = c.args.ids.now in
    let at = c.args.at.now in
    let words : List (List ℕ) = c.args.words.now in
    let word : List ℕ = c.word-item.result in
    let old : PageMap = P.pages c.args.pages.now in
    let before : List ℕ = P.asked c.args.pages.now in
    let between : List ℕ = P.asked c.loop-word.pages in
    let after : List ℕ = P.asked c.nearest_with_all.new.pages in
    let inside : Contains words word = subst (Contains words) (sym c.word-item.is) (Contains-get_or words c.loop-word.word-index word c.loop-word-test.true) in
    let among : (w : List ℕ) → Contains (word ∷ []) w → Contains words w =
    λ w one. ⊎_elim (λ (same : word ≡ w). subst (Contains words) same inside) (λ (none : Contains [] w). absurd (contains-none w none)) (contains-cases word [] w one) in
    let shared : List Pick = shared_in at (word ∷ []) c.in-Ok-None.field-0 in
    let still : FitsTree (P.pages c.loop-word.pages) (P.count c.loop-word.pages) (P.first c.loop-word.pages) tree = rw (f.pages, f.count, f.first) fits in
    finds-fewer old tree ids at words before after ([] ++ shared) [] (λ pick none. absurd (contains-none pick none))
    (finds-then old tree ids at words before between after [] shared (h.opened fits) (subst (λ (p : PageMap). FindsPicks p tree ids at words between after shared) f.pages (c.in-Ok-None.ensures.opened still words among)))

pub returns-in-Ok-None-clause-search : goal.returns-in-Ok-None-clause-search
returns-in-Ok-None-clause-search g c =
    searches-give g.P.Pages c.args.tree.now _ _ _ _ false c.in-Ok-None.is (searches-then g.P.Pages g.met.P.Pages.goes_further g.met.P.Pages.reads_further c.args.tree.now _ _ _ _ _ c.loop-word.invariant.search c.nearest_with_all.ensures.search)

pub returns-in-Err-clause-search : goal.returns-in-Err-clause-search
returns-in-Err-clause-search g c =
    searches-refused g.P.Pages c.args.tree.now _ _ _ _ c.in-Err.is (searches-then g.P.Pages g.met.P.Pages.goes_further g.met.P.Pages.reads_further c.args.tree.now _ _ _ _ _ c.loop-word.invariant.search c.nearest_with_all.ensures.search)
