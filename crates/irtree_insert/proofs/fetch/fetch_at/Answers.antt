use Rattle.std.proofs.Common.{◌≡◌, ◌∙◌, ap, arith, Err, inl}
use Rattle.page_face.specs.FreeList.{PageMap}
use Rattle.rtree_nodes.specs.Pages.{level_in}
use Rattle.irtree_insert.proofs.Loads.{some-told}
use Rattle.btree_nodes.proofs.Walks.{same-fault}
use Rattle.irtree_insert.proofs.fetch.fetch_at.Goals as goal

pub returns-else-found-level-clause-no_false_damage : goal.returns-else-found-level-clause-no_false_damage
returns-else-found-level-clause-no_false_damage g c = λ counted some level damage e.
    let old : PageMap = g.P.Pages.pages c.args.pages.now in
    let same = c.in-Ok.ensures.bytes (some-told (old c.args.page) some) in
    let found : c.in-Ok.found ≡ c.args.level = c.in-Ok.ensures.level ∙ ap level_in same ∙ level in
    let other = c.if-found-level.false in
    absurd (omega arith)

pub returns-in-Err-clause-damaged : goal.returns-in-Err-clause-damaged
returns-in-Err-clause-damaged g c = λ damage e.
    let d = c.fetch.ensures.damaged damage (c.in-Err.is ∙ ap Err (same-fault {T = Unit {0}} _ _ e)) in
    (d.0, d.1, inl d.2)
