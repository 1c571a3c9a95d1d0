use Rattle.std.proofs.Common.{arith, ℕ, suc, ◌≡◌, ◌+◌, ◌<◌, ◌∙◌, List, length, get_or, take, refl, subst, sym}
use Rattle.std.specs.List.{AllByRecursion}
use Rattle.page_face.specs.FreeList.{PageMap}
use Rattle.page_face.proofs.Frames.{reads_then}
use Rattle.tree_check.specs.Agreement.{AreRight, IsNodePage}
use Rattle.tree_check.proofs.Rights.{sound-on, node-right_on, node-wrong_on, node-page_on, all-at, first-wrong, right-more}
use Rattle.tree_check.proofs.agreeing.check_words.Goals as goal

pub loop-page-preserved : goal.loop-page-preserved
loop-page-preserved g c =
    let p = g.P.Pages in
    let f = c.loop-page.invariant.frame in
    let pages : PageMap = p.pages c.args.pages.now in
    let pages' : PageMap = p.pages c.loop-page.pages in
    let count : ℕ = p.count c.args.pages.now in
    let count' : ℕ = p.count c.loop-page.pages in
    let root : ℕ = c.args.tree.now.rows in
    let list : List ℕ = c.args.list.now in
    let at : ℕ = c.loop-page.page-index in
    let page : ℕ = get_or list at 0 in
    let small : at < length list = omega arith in
    record {
      frame = reads_then p g.met.P.Pages.goes_further g.met.P.Pages.reads_further _ _ _ f c.in-Ok.ensures.frame;
      faults = c.in-Ok.ensures.fails.hides_none ∙ c.loop-page.invariant.faults;
      right = λ entries sound nodes.
          let next : at + 1 ≡ suc at = omega arith in
          subst (λ (k : ℕ). AllByRecursion (AreRight pages root entries.places) (take k list)) (sym next)
          (right-more (AreRight pages root entries.places) list at page small refl (c.loop-page.invariant.right entries sound nodes)
          (node-right_on pages pages' root entries.places page f.pages
          (c.in-Ok.ensures.right entries (sound-on pages pages' count count' root c.args.tables.now entries f.pages f.count sound)
          (node-page_on pages pages' count count' page f.pages f.count (all-at (IsNodePage pages count) list at page small refl nodes)))));
    }

pub returns-in-Err-clause-damaged : goal.returns-in-Err-clause-damaged
returns-in-Err-clause-damaged g c = λ entries sound nodes damage e.
    let p = g.P.Pages in
    let f = c.loop-page.invariant.frame in
    let pages : PageMap = p.pages c.args.pages.now in
    let pages' : PageMap = p.pages c.loop-page.pages in
    let count : ℕ = p.count c.args.pages.now in
    let count' : ℕ = p.count c.loop-page.pages in
    let list : List ℕ = c.args.list.now in
    let at : ℕ = c.loop-page.page-index in
    let page : ℕ = get_or list at 0 in
    let small : at < length list = omega arith in
    first-wrong pages c.args.tree.now.rows entries.places list at page damage small refl (c.loop-page.invariant.right entries sound nodes)
    (node-wrong_on pages pages' c.args.tree.now.rows entries.places page damage f.pages
    (c.in-Err.ensures.damaged entries (sound-on pages pages' count count' c.args.tree.now.rows c.args.tables.now entries f.pages f.count sound)
    (node-page_on pages pages' count count' page f.pages f.count (all-at (IsNodePage pages count) list at page small refl nodes)) damage e))
