use Rattle.std.proofs.Common.{◌≡◌, ◌+◌, ◌<◌, ◌≤◌, ◌∙◌, All, Err, ℕ, List, get_or, length, true, arith, ap}
use Rattle.std.specs.Prelude.{sum_by}
use Rattle.std.proofs.lemmas.List.{take_all}
use Rattle.std.proofs.lemmas.List.Elements.{All-get_or, All-same}
use Rattle.page_face.specs.Causes.{IsUncounted}
use Rattle.page_face.specs.FreeList.{PageMap}
use Rattle.page_face.proofs.Frames.{reads_then}
use Rattle.btree_nodes.proofs.Walks.{same-fault}
use Rattle.page_walks.proofs.Chains.{readable}
use Rattle.rtree_nodes.specs.Pages.{is_form}
use Rattle.rtree_nodes.proofs.Bounding.{some-form}
use Rattle.tree_check.specs.Nodes.{tree_pages}
use Rattle.store_verify.specs.Sites.{site_sum}
use Rattle.store_verify.specs.EntrySums.{IsFilledPage, page_sum}
use Rattle.store_verify.proofs.NodeEntries.{node-on, pages-more, tree-nodes, tree-sums}
use Rattle.store_verify.proofs.sites.sites_of.Goals as goal

pub returns-in-Err-clause-no_false_damage : goal.returns-in-Err-clause-no_false_damage
returns-in-Err-clause-no_false_damage g c = λ root tree counted damage e.
    let p = g.P.Pages in
    let f = c.loop-page.invariant.frame in
    let pages : PageMap = p.pages c.args.pages.now in
    let pages' : PageMap = p.pages c.loop-page.pages in
    let count : ℕ = p.count c.args.pages.now in
    let count' : ℕ = p.count c.loop-page.pages in
    let list : List ℕ = c.args.list.now in
    let small : c.loop-page.page-index < length list = omega arith in
    let nodes : All (IsFilledPage (IsUncounted count) pages) list =
    All-same (IsFilledPage (IsUncounted count) pages) list (tree_pages pages root) tree.is (tree-nodes (IsUncounted count) pages root tree.tree counted) in
    let page : ℕ = get_or list c.loop-page.page-index 0 in
    let node : IsFilledPage (IsUncounted count) pages page = All-get_or (IsFilledPage (IsUncounted count) pages) list c.loop-page.page-index 0 small nodes in
    c.in-Err.ensures.no_false_damage (readable pages pages' count count' f.pages f.count tree.readable) (node-on pages pages' count count' page f.pages f.count node) damage (ap Err (same-fault _ _ e))

pub loop-page-preserved : goal.loop-page-preserved
loop-page-preserved g c =
    let p = g.P.Pages in
    let r = c.loop-page.invariant.frame in
    let pages : PageMap = p.pages c.args.pages.now in
    let pages' : PageMap = p.pages c.loop-page.pages in
    let list : List ℕ = c.args.list.now in
    let at : ℕ = c.loop-page.page-index in
    let page : ℕ = get_or list at 0 in
    let small : at < length list = omega arith in
    record {
      frame = reads_then p g.met.P.Pages.goes_further g.met.P.Pages.reads_further _ _ _ r c.in-Ok.ensures.frame;
      faults = c.in-Ok.ensures.fails.hides_none ∙ c.loop-page.invariant.faults;
      are = c.in-Ok.ensures.are;
      sum = λ told nodes f.
          let node = All-get_or (IsFilledPage (λ (n : ℕ). ⊥) pages) list at 0 small nodes in
          let form : is_form (pages' page) ≡ true = ap (λ (q : PageMap). is_form (q page)) r.pages ∙ some-form (pages page) node.some in
          pages-more (λ (n : ℕ). page_sum f (pages n)) list at (site_sum f c.loop-page.found.items) (site_sum f c.add_page.new.found.items) small (c.loop-page.invariant.sum told nodes f)
          (c.in-Ok.ensures.sum (readable pages pages' (p.count c.args.pages.now) (p.count c.loop-page.pages) r.pages r.count told) form f
          ∙ ap (λ (q : PageMap). site_sum f c.loop-page.found.items + page_sum f (q page)) r.pages);
    }

pub returns-clause-sites : goal.returns-clause-sites
returns-clause-sites g c = λ root tree f.
    let pages : PageMap = g.P.Pages.pages c.args.pages.now in
    let list : List ℕ = c.args.list.now in
    let all : length list ≤ c.loop-page.page-index = omega arith in
    let nodes : All (IsFilledPage (λ (n : ℕ). ⊥) pages) list =
    All-same (IsFilledPage (λ (n : ℕ). ⊥) pages) list (tree_pages pages root) tree.is (tree-nodes (λ (n : ℕ). ⊥) pages root tree.tree (λ n out. absurd out)) in
    c.loop-page.invariant.sum tree.readable nodes f ∙ ap (sum_by (λ (n : ℕ). page_sum f (pages n))) (take_all c.loop-page.page-index list all ∙ tree.is) ∙ tree-sums pages f root tree.tree
