use Rattle.std.proofs.Common.{arith, ◌≡◌, ℕ, List, Err, sym, ap, ◌∙◌, subst}
use Rattle.page_face.specs.FreeList.{PageMap}
use Rattle.page_face.proofs.Frames.{reads_then}
use Rattle.btree_nodes.proofs.Walks.{same-fault}
use Rattle.page_walks.specs.Met.{held}
use Rattle.page_walks.proofs.Misuses.{same-damage}
use Rattle.page_walks.proofs.Chains.{readable}
use Rattle.rtree_nodes.specs.Trees.{root_least}
use Rattle.rtree_nodes.specs.Pages.{level_in}
use Rattle.rtree_nodes.proofs.Heights.{root-some}
use Rattle.tree_check.specs.Damages.{IsBrokenBelow}
use Rattle.tree_check.specs.Walks.{IsWalked}
use Rattle.tree_check.proofs.Placed.{header-placed}
use Rattle.tree_check.proofs.Trees.{none-well, none-uses, none-pages, root-well, root-counted, root-met, root-pages, root-misused, root-placed, root-below}
use Rattle.tree_check.proofs.check.walk_tree.Goals as goal

pub returns-then-root-eq0-clause-tree : goal.returns-then-root-eq0-clause-tree
returns-then-root-eq0-clause-tree g c = λ told. none-well (g.P.Pages.pages c.args.pages.now) c.args.root c.if-root-eq0.true

pub returns-then-root-eq0-clause-counted : goal.returns-then-root-eq0-clause-counted
returns-then-root-eq0-clause-counted g c = λ told n u. none-uses (g.P.Pages.pages c.args.pages.now) c.args.root n c.if-root-eq0.true

pub returns-then-root-eq0-clause-met : goal.returns-then-root-eq0-clause-met
returns-then-root-eq0-clause-met g c = λ told n. let z = none-uses (g.P.Pages.pages c.args.pages.now) c.args.root n c.if-root-eq0.true in omega arith

pub returns-then-root-eq0-clause-list : goal.returns-then-root-eq0-clause-list
returns-then-root-eq0-clause-list g c = λ told. none-pages (g.P.Pages.pages c.args.pages.now) c.args.root c.args.list.now.items c.if-root-eq0.true

pub returns-in-Err-clause-damaged : goal.returns-in-Err-clause-damaged
returns-in-Err-clause-damaged g c = λ told damage e.
    let p = g.P.Pages in
    root-misused (p.pages c.args.pages.now) (p.count c.args.pages.now) (held c.args.met.now) c.args.root (omega arith) damage (c.in-Err.ensures.damaged damage e)

pub returns-in-Err-header-clause-damaged : goal.returns-in-Err-header-clause-damaged
returns-in-Err-header-clause-damaged g c = λ told damage e.
    let p = g.P.Pages in
    let bytes : List ℕ = c.looked.result.now in
    root-placed (p.pages c.args.pages.now) (p.count c.args.pages.now) (held c.args.met.now) c.args.root (omega arith) bytes (c.looked.ensures ∙ c.in-Ok.ensures.looked told)
    c.in-Err-header.rule (header-placed c.in-Err-header.rule (root_least (level_in bytes)) (level_in bytes) bytes (root-some (level_in bytes)) c.in-Err-header.ensures)
    damage (same-damage _ _ (sym c.damaged.ensures ∙ same-fault _ _ e))

pub returns-in-Ok-walk_node-clause-tree : goal.returns-in-Ok-walk_node-clause-tree
returns-in-Ok-walk_node-clause-tree g c = λ told.
    let p = g.P.Pages in
    let f = c.in-Ok.ensures.frame in
    let pages : PageMap = p.pages c.args.pages.now in
    let count : ℕ = p.count c.args.pages.now in
    let root : ℕ = c.args.root in
    let level : ℕ = c.in-Ok-header.head.level in
    let at : level ≡ level_in (pages root) = c.in-Ok-header.ensures.0 ∙ ap level_in (c.looked.ensures ∙ c.in-Ok.ensures.looked told) in
    root-well pages (p.pages c.enter.new.pages) count (p.count c.enter.new.pages) root level (omega arith) f.pages f.count at (held c.args.met.now) (held c.enter.new.met) (held c.walk_node.new.met)
    c.args.list.now.items c.walk_node.new.list.items c.in-Ok.ensures.met
    (subst (λ (k : ℕ). IsWalked (p.pages c.enter.new.pages) (p.count c.enter.new.pages) k level root (held c.enter.new.met) (held c.walk_node.new.met) c.args.list.now.items c.walk_node.new.list.items) c.root_least-least.ensures.is
    (c.in-Ok-walk_node.ensures.walked (readable pages (p.pages c.enter.new.pages) count (p.count c.enter.new.pages) f.pages f.count told)))

pub returns-in-Ok-walk_node-clause-counted : goal.returns-in-Ok-walk_node-clause-counted
returns-in-Ok-walk_node-clause-counted g c = λ told.
    let p = g.P.Pages in
    let f = c.in-Ok.ensures.frame in
    let pages : PageMap = p.pages c.args.pages.now in
    let count : ℕ = p.count c.args.pages.now in
    let root : ℕ = c.args.root in
    let level : ℕ = c.in-Ok-header.head.level in
    let at : level ≡ level_in (pages root) = c.in-Ok-header.ensures.0 ∙ ap level_in (c.looked.ensures ∙ c.in-Ok.ensures.looked told) in
    root-counted pages (p.pages c.enter.new.pages) count (p.count c.enter.new.pages) root level (omega arith) f.pages f.count at (held c.args.met.now) (held c.enter.new.met) (held c.walk_node.new.met)
    c.args.list.now.items c.walk_node.new.list.items c.in-Ok.ensures.met
    (subst (λ (k : ℕ). IsWalked (p.pages c.enter.new.pages) (p.count c.enter.new.pages) k level root (held c.enter.new.met) (held c.walk_node.new.met) c.args.list.now.items c.walk_node.new.list.items) c.root_least-least.ensures.is
    (c.in-Ok-walk_node.ensures.walked (readable pages (p.pages c.enter.new.pages) count (p.count c.enter.new.pages) f.pages f.count told)))
    c.in-Ok.ensures.counted

pub returns-in-Ok-walk_node-clause-met : goal.returns-in-Ok-walk_node-clause-met
returns-in-Ok-walk_node-clause-met g c = λ told.
    let p = g.P.Pages in
    let f = c.in-Ok.ensures.frame in
    let pages : PageMap = p.pages c.args.pages.now in
    let count : ℕ = p.count c.args.pages.now in
    let root : ℕ = c.args.root in
    let level : ℕ = c.in-Ok-header.head.level in
    let at : level ≡ level_in (pages root) = c.in-Ok-header.ensures.0 ∙ ap level_in (c.looked.ensures ∙ c.in-Ok.ensures.looked told) in
    root-met pages (p.pages c.enter.new.pages) count (p.count c.enter.new.pages) root level (omega arith) f.pages f.count at (held c.args.met.now) (held c.enter.new.met) (held c.walk_node.new.met)
    c.args.list.now.items c.walk_node.new.list.items c.in-Ok.ensures.met
    (subst (λ (k : ℕ). IsWalked (p.pages c.enter.new.pages) (p.count c.enter.new.pages) k level root (held c.enter.new.met) (held c.walk_node.new.met) c.args.list.now.items c.walk_node.new.list.items) c.root_least-least.ensures.is
    (c.in-Ok-walk_node.ensures.walked (readable pages (p.pages c.enter.new.pages) count (p.count c.enter.new.pages) f.pages f.count told)))

pub returns-in-Ok-walk_node-clause-list : goal.returns-in-Ok-walk_node-clause-list
returns-in-Ok-walk_node-clause-list g c = λ told.
    let p = g.P.Pages in
    let f = c.in-Ok.ensures.frame in
    let pages : PageMap = p.pages c.args.pages.now in
    let count : ℕ = p.count c.args.pages.now in
    let root : ℕ = c.args.root in
    let level : ℕ = c.in-Ok-header.head.level in
    let at : level ≡ level_in (pages root) = c.in-Ok-header.ensures.0 ∙ ap level_in (c.looked.ensures ∙ c.in-Ok.ensures.looked told) in
    root-pages pages (p.pages c.enter.new.pages) count (p.count c.enter.new.pages) root level (omega arith) f.pages f.count at (held c.args.met.now) (held c.enter.new.met) (held c.walk_node.new.met)
    c.args.list.now.items c.walk_node.new.list.items c.in-Ok.ensures.met
    (subst (λ (k : ℕ). IsWalked (p.pages c.enter.new.pages) (p.count c.enter.new.pages) k level root (held c.enter.new.met) (held c.walk_node.new.met) c.args.list.now.items c.walk_node.new.list.items) c.root_least-least.ensures.is
    (c.in-Ok-walk_node.ensures.walked (readable pages (p.pages c.enter.new.pages) count (p.count c.enter.new.pages) f.pages f.count told)))

pub returns-in-Ok-walk_node-clause-frame : goal.returns-in-Ok-walk_node-clause-frame
returns-in-Ok-walk_node-clause-frame g c = reads_then g.P.Pages g.met.P.Pages.goes_further g.met.P.Pages.reads_further _ _ _ c.in-Ok.ensures.frame c.in-Ok-walk_node.ensures.frame

pub returns-in-Err-walk_node-clause-damaged : goal.returns-in-Err-walk_node-clause-damaged
returns-in-Err-walk_node-clause-damaged g c = λ told damage e.
    let p = g.P.Pages in
    let f = c.in-Ok.ensures.frame in
    let pages : PageMap = p.pages c.args.pages.now in
    let count : ℕ = p.count c.args.pages.now in
    let root : ℕ = c.args.root in
    let level : ℕ = c.in-Ok-header.head.level in
    let at : level ≡ level_in (pages root) = c.in-Ok-header.ensures.0 ∙ ap level_in (c.looked.ensures ∙ c.in-Ok.ensures.looked told) in
    root-below pages (p.pages c.enter.new.pages) count (p.count c.enter.new.pages) root level (omega arith) f.pages f.count at (held c.args.met.now) (held c.enter.new.met) c.in-Ok.ensures.met damage
    (subst (λ (k : ℕ). IsBrokenBelow (p.pages c.enter.new.pages) (p.count c.enter.new.pages) (held c.enter.new.met) k level root damage) c.root_least-least.ensures.is
    (c.in-Err-walk_node.ensures.damaged (readable pages (p.pages c.enter.new.pages) count (p.count c.enter.new.pages) f.pages f.count told) damage (ap Err (same-fault _ _ e))))

pub returns-in-Err-walk_node-clause-frame : goal.returns-in-Err-walk_node-clause-frame
returns-in-Err-walk_node-clause-frame g c = reads_then g.P.Pages g.met.P.Pages.goes_further g.met.P.Pages.reads_further _ _ _ c.in-Ok.ensures.frame c.in-Err-walk_node.ensures.frame
