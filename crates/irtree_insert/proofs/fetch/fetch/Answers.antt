use Rattle.std.proofs.Common.{◌<◌, ◌∙◌, ℕ, List, sym, subst}
use Rattle.std.proofs.lemmas.Bool.{false≢true}
use Rattle.page_face.specs.FreeList.{PageMap}
use Rattle.rtree_nodes.specs.Pages.{slots_in}
use Rattle.rtree_nodes.specs.Slots.{filled}
use Rattle.irtree_insert.proofs.Loads.{some-told}
use Rattle.irtree_insert.proofs.fetch.fetch.Goals as goal

pub returns-in-Err-load-clause-no_false_damage : goal.returns-in-Err-load-clause-no_false_damage
returns-in-Err-load-clause-no_false_damage g c = λ counted some damage e.
    let old : PageMap = g.P.Pages.pages c.args.pages.now in
    let same = c.looked.ensures ∙ c.in_default.ensures.gives (some-told (old c.args.page) some) in
    false≢true (c.in-Err-load.ensures.ok (subst (λ (b : List ℕ). 0 < filled (slots_in b)) (sym same) some))
