use Rattle.std.proofs.Common.{◌≡◌, ◌∙◌, ◌+◌, ◌-◌, ◌^◌, [], ℕ, List, Option, None, length, get_or, sym, ap, subst, arith}
use Rattle.std.proofs.lemmas.List.{length-map}
use Rattle.std.proofs.lemmas.List.Elements.{Contains-get_or}
use Rattle.std.specs.List.{Contains}
use Rattle.page_face.specs.FreeList.{PageMap}
use Rattle.place_values.specs.declared.query.Pick.{Pick}
use Rattle.place_values.specs.declared.query.Chosen.{Chosen}
use Rattle.place_values.specs.Group.{product, least_by}
use Rattle.place_values.specs.Sum.{sum_cost}
use Rattle.best_first.specs.Fits.{FitsTree, nodes_at}
use Rattle.collective_query.specs.Opened.{FindsPicks, picks_in}
use Rattle.collective_query.specs.TreePicks.{tree_picks, tree_lists}
use Rattle.collective_query.proofs.Opened.{finds-fewer}
use Rattle.collective_query.proofs.Searches.{searches-give, searches-refused, searches-then}
use Rattle.group_search.proofs.Members.{contains-none, contains-flat}
use Rattle.group_sum.specs.Named.{AreNamedOnce}
use Rattle.group_sum.specs.Sets.{in_set}
use Rattle.group_sum.specs.Tables.{AreLeast, picks_kept}
use Rattle.group_sum.proofs.Masks.{in-set-full}
use Rattle.group_sum.proofs.TreeSets.{none-whole}
use Rattle.group_sum.proofs.query.fill.Goals as goal

pub loop-set-preserved : goal.loop-set-preserved
loop-set-preserved g c =
    let P = g.P.Pages in
    let h = c.loop-set.invariant in
    let f = h.search.frame in
    let tree = c.args.tree.now in
    let ids = c.args.ids.now in
    let at = c.args.at.now in
    let words : List (List ℕ) = c.args.words.now in
    let mid : PageMap = P.pages c.loop-set.pages in
    let of : PageMap → List (List Pick) = λ p. tree_lists ids at (nodes_at p tree) tree.root words in
    let kept : List (Option Chosen) = c.loop-set.table.kept.items in
    let new : List (Option Chosen) = c.keep_next.new.table.kept.items in
    let between : List ℕ = P.asked c.loop-set.pages in
    let after : List ℕ = P.asked c.keep_next.new.pages in
    record {
      count = c.keep_next.ensures.count ∙ h.count;
      kept = c.in-Ok-true.ensures.longer ∙ ap (λ (n : ℕ). n + 1) h.kept;
      end = h.end;
      low = omega (arith, c.loop-set-test.true);
      least = λ fits once.
          let still : FitsTree mid (P.count c.loop-set.pages) (P.first c.loop-set.pages) tree = rw (f.pages, f.count, f.first) fits in
          let named : AreNamedOnce (nodes_at mid tree) tree.root = rw f.pages once in
          subst (λ (p : PageMap). AreLeast (of p) new) f.pages (c.in-Ok-true.ensures.least still named (subst (λ (p : PageMap). AreLeast (of p) kept) (sym f.pages) (h.least fits once)));
      opened = λ fits before known.
          let still : FitsTree mid (P.count c.loop-set.pages) (P.first c.loop-set.pages) tree = rw (f.pages, f.count, f.first) fits in
          subst (λ (p : PageMap). FindsPicks p tree ids at words before after (picks_kept new)) f.pages
          (c.in-Ok-true.ensures.opened still before (subst (λ (p : PageMap). FindsPicks p tree ids at words before between (picks_kept kept)) (sym f.pages) (h.opened fits before known)));
      search = searches-give P tree _ _ _ _ 0 c.in-Ok-true.is (searches-then P g.met.P.Pages.goes_further g.met.P.Pages.reads_further tree _ _ _ _ _ h.search c.keep_next.ensures.search);
    }

pub returns-in-Ok-false-clause-chosen : goal.returns-in-Ok-false-clause-chosen
returns-in-Ok-false-clause-chosen g c = λ fits once.
    let P = g.P.Pages in
    let h = c.loop-set.invariant in
    let f = h.search.frame in
    let tree = c.args.tree.now in
    let ids = c.args.ids.now in
    let at = c.args.at.now in
    let words : List (List ℕ) = c.args.words.now in
    let mid : PageMap = P.pages c.loop-set.pages in
    let of : PageMap → List (List Pick) = λ p. tree_lists ids at (nodes_at p tree) tree.root words in
    let kept : List (Option Chosen) = c.loop-set.table.kept.items in
    let new : List (Option Chosen) = c.keep_next.new.table.kept.items in
    let still : FitsTree mid (P.count c.loop-set.pages) (P.first c.loop-set.pages) tree = rw (f.pages, f.count, f.first) fits in
    let named : AreNamedOnce (nodes_at mid tree) tree.root = rw f.pages once in
    let least : AreLeast (of (P.pages c.args.pages.now)) new =
    subst (λ (p : PageMap). AreLeast (of p) new) f.pages (c.in-Ok-false.ensures.least still named (subst (λ (p : PageMap). AreLeast (of p) kept) (sym f.pages) (h.least fits once))) in
    let longer : length new ≡ length kept + 1 = c.in-Ok-false.ensures.longer in
    sym (none-whole (length kept) (of (P.pages c.args.pages.now)) (sym (least (length kept) (omega arith)) ∙ c.in-Ok-false.ensures.none c.in-Ok-false.field-0-test))

pub returns-in-Ok-false-clause-opened : goal.returns-in-Ok-false-clause-opened
returns-in-Ok-false-clause-opened g c = λ fits before known.
    let P = g.P.Pages in
    let h = c.loop-set.invariant in
    let f = h.search.frame in
    let tree = c.args.tree.now in
    let ids = c.args.ids.now in
    let at = c.args.at.now in
    let words : List (List ℕ) = c.args.words.now in
    let mid : PageMap = P.pages c.loop-set.pages in
    let kept : List (Option Chosen) = c.loop-set.table.kept.items in
    let new : List (Option Chosen) = c.keep_next.new.table.kept.items in
    let between : List ℕ = P.asked c.loop-set.pages in
    let after : List ℕ = P.asked c.keep_next.new.pages in
    let still : FitsTree mid (P.count c.loop-set.pages) (P.first c.loop-set.pages) tree = rw (f.pages, f.count, f.first) fits in
    finds-fewer (P.pages c.args.pages.now) tree ids at words before after (picks_kept new) [] (λ pick none. absurd (contains-none pick none))
    (subst (λ (p : PageMap). FindsPicks p tree ids at words before after (picks_kept new)) f.pages
    (c.in-Ok-false.ensures.opened still before (subst (λ (p : PageMap). FindsPicks p tree ids at words before between (picks_kept kept)) (sym f.pages) (h.opened fits before known))))

pub returns-in-Ok-false-clause-search : goal.returns-in-Ok-false-clause-search
returns-in-Ok-false-clause-search g c =
    searches-give g.P.Pages c.args.tree.now _ _ _ _ None c.in-Ok-false.is (searches-then g.P.Pages g.met.P.Pages.goes_further g.met.P.Pages.reads_further c.args.tree.now _ _ _ _ _ c.loop-set.invariant.search c.keep_next.ensures.search)

pub returns-in-Err-keep_next-clause-search : goal.returns-in-Err-keep_next-clause-search
returns-in-Err-keep_next-clause-search g c =
    searches-refused g.P.Pages c.args.tree.now _ _ _ _ c.in-Err-keep_next.is (searches-then g.P.Pages g.met.P.Pages.goes_further g.met.P.Pages.reads_further c.args.tree.now _ _ _ _ _ c.loop-set.invariant.search c.keep_next.ensures.search)

pub returns-clause-chosen : goal.returns-clause-chosen
returns-clause-chosen g c = λ fits once.
    let h = c.loop-set.invariant in
    let tree = c.args.tree.now in
    let words : List (List ℕ) = c.args.words.now in
    let of : List (List ℕ) → List (List Pick) = tree_lists c.args.ids.now c.args.at.now (nodes_at (g.P.Pages.pages c.args.pages.now) tree) tree.root in
    let lists : List (List Pick) = of words in
    let kept : List (Option Chosen) = c.loop-set.table.kept.items in
    let begun = c.loop-set.table.begun in
    let many : length lists ≡ length words = length-map words (tree_picks c.args.ids.now c.args.at.now (nodes_at (g.P.Pages.pages c.args.pages.now) tree) tree.root) in
    let all : length kept ≡ 2 ^ length words =
    (let a = h.kept in let b = h.low in let d = h.end in omega (arith, c.loop-set-test.false)) in
    let last : length kept - 1 ≡ 2 ^ length lists - 1 = ap (λ (n : ℕ). n - 1) (all ∙ ap (λ (n : ℕ). 2 ^ n) (sym many)) in
    c.into_last.ensures.last ∙ h.least fits once (length kept - 1) (omega arith)
    ∙ ap (λ (n : ℕ). least_by sum_cost (product (in_set n lists))) last
    ∙ ap (λ (l : List (List Pick)). least_by sum_cost (product l)) (in-set-full lists)

pub returns-clause-opened : goal.returns-clause-opened
returns-clause-opened g c = λ fits before known.
    let P = g.P.Pages in
    let kept : List (Option Chosen) = c.loop-set.table.kept.items in
    let begun = c.loop-set.table.begun in
    let there : Contains kept (get_or kept (length kept - 1) None) = Contains-get_or kept (length kept - 1) None (omega arith) in
    finds-fewer (P.pages c.args.pages.now) c.args.tree.now c.args.ids.now c.args.at.now c.args.words.now before (P.asked c.loop-set.pages) (picks_kept kept) (picks_in c.into_last.result)
    (λ pick one. contains-flat picks_in kept (get_or kept (length kept - 1) None) pick there (subst (λ (o : Option Chosen). Contains (picks_in o) pick) c.into_last.ensures.last one))
    (c.loop-set.invariant.opened fits before known)
