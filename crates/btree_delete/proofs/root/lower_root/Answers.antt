use Rattle.std.proofs.Common.{ℕ, subst, sym, suc, ◌∷◌, []}
use Rattle.page_face.specs.FreeList.{PageMap}
use Rattle.btree_nodes.specs.Nodes.{half_of}
use Rattle.btree_nodes.specs.Tree.{uses, rows_at}
use Rattle.btree_nodes.specs.Supply.{view}
use Rattle.btree_nodes.proofs.Tolds.{told_given}
use Rattle.btree_delete.specs.Mended.{Becomes}
use Rattle.btree_nodes.proofs.Gives.{page-some}
use Rattle.btree_delete.proofs.Lowers.{lowered}
use Rattle.btree_delete.proofs.root.lower_root.Goals as goal

pub returns-clause-lowered : goal.returns-clause-lowered
returns-clause-lowered g c = λ low high below least free is tree supplied once.
    let old : PageMap = g.P.Pages.pages c.args.pages.now in
    let new : PageMap = g.P.Pages.pages c.give_back.new.self in
    let count : ℕ = g.P.Pages.count c.args.pages.now in
    let first : ℕ = g.P.Pages.first c.args.pages.now in
    let b = c.in_ok-give_back.ensures in
    let p = page-some count c.args.page c.requires.page in
    let made = lowered c.args.form old new count first (g.P.Pages.count c.give_back.new.self) (g.P.Pages.first c.give_back.new.self) least below c.args.page low high free c.args.bytes.now is c.requires.one tree supplied once p.0 p.1
    b.freed.0 b.freed.1 b.others b.count b.freed.2 in
    subst (λ (r : ℕ). Becomes c.args.form (half_of c.args.form below) (view old count first free) (uses c.args.form old (suc below) c.args.page) new (g.P.Pages.count c.give_back.new.self) (g.P.Pages.first c.give_back.new.self) below low high
    (rows_at c.args.form old (suc below) c.args.page) ((low, r) ∷ [])) (sym c.child_at-root.ensures) made

pub returns-clause-told : goal.returns-clause-told
returns-clause-told g c = λ told.
    let b = c.in_ok-give_back.ensures in
    told_given (g.P.Pages.pages c.args.pages.now) (g.P.Pages.pages c.give_back.new.self) c.args.page (g.P.Pages.count c.args.pages.now) (g.P.Pages.count c.give_back.new.self) b.freed.0 b.others b.count told
