use Rattle.std.proofs.Common.{arith, ◌<◌, ℕ, ◌∙◌, sym, List, length, subst}
use Rattle.page_face.specs.FreeList.{PageMap}
use Rattle.page_face.specs.Number.{number}
use Rattle.btree_insert.proofs.Readings.{link-carried}
use Rattle.btree_insert.proofs.link.relink.Goals as goal

pub returns-in-Some-clause-grown : goal.returns-in-Some-clause-grown
returns-in-Some-clause-grown g c = λ bytes low high free is inner within.
    let f = c.in-Ok.ensures in
    let old : PageMap = g.P.Pages.pages c.args.pages.now in
    let size = inner.node.size in
    let told : 0 < length (old c.args.page) = subst (λ (b : List ℕ). 0 < length b) (sym is) (omega arith) in
    let lent = f.gives told ∙ is in
    link-carried c.args.form c.args.least old (g.P.Pages.pages c.look.new.self) (g.P.Pages.count c.args.pages.now) (g.P.Pages.count c.look.new.self) (g.P.Pages.first c.args.pages.now) (g.P.Pages.first c.look.new.self)
    free c.args.below c.args.page low high c.args.at c.in-Some.found.at c.args.right (number c.args.middle.now) (g.P.Pages.pages c.link.new.pages) (g.P.Pages.count c.link.new.pages) (g.P.Pages.first c.link.new.pages) (number c.link.new.middle)
    c.link.result bytes (g.P.Pages.looked c.look.new.self) f.pages f.count f.first c.in-Some.ensures.found.0 lent (c.link.ensures.grown low high free) inner

pub returns-in-Some-clause-no_false_damage : goal.returns-in-Some-clause-no_false_damage
returns-in-Some-clause-no_false_damage g c = λ free inner within supplied damage.
    let f = c.in-Ok.ensures in
    c.link.ensures.no_false_damage free (rw (f.pages, f.count, f.first) supplied) damage
