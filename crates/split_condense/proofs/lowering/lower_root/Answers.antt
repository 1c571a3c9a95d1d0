use Rattle.std.proofs.Common.{arith, ◌≡◌, ◌<◌, ◌≤◌, ◌-◌, ◌∙◌, ℕ, suc, List, [], ◌∷◌, Option, Result, Err, MatchOption, refl, ap, sym, subst, inl, inr}
use Rattle.page_face.specs.FreeList.{PageMap}
use Rattle.page_face.specs.Causes.{asked_after}
use Rattle.page_face.specs.declared.fault.PageFault.{PageFault}
use Rattle.btree_nodes.specs.Damages.{AreReadable, AsksOnly}
use Rattle.btree_nodes.specs.Supply as supply
use Rattle.btree_nodes.specs.Supply.{one_at}
use Rattle.btree_nodes.proofs.Supplies.{none}
use Rattle.btree_nodes.proofs.Harms.{asks-here, asks-further, asks-nothing}
use Rattle.btree_nodes.proofs.Walks.{same-fault, asks-read}
use Rattle.btree_nodes.proofs.Gives.{page-some}
use Rattle.rtree_nodes.specs.Slots.{filled}
use Rattle.rtree_nodes.specs.Trees.{root_least}
use Rattle.rtree_nodes.specs.Stock.{View, view, plain}
use Rattle.rtree_nodes.specs.Pages.{node_of, slots_in, level_in}
use Rattle.rtree_nodes.proofs.Bounding.{some-form}
use Rattle.node_rows.specs.Rows.{IsRows, bytes_in}
use Rattle.node_rows.specs.Turns.{Turns, dropped}
use Rattle.node_rows.proofs.Harms.{harm-later}
use Rattle.node_rows.proofs.Turned.{view-same as supply-same}
use Rattle.irtree_shape.specs.Words.{joined_item}
use Rattle.irtree_shape.specs.Stock.{Moves}
use Rattle.irtree_shape.specs.Made.{nodes_in}
use Rattle.irtree_shape.specs.Loose.{IsStanding}
use Rattle.irtree_shape.specs.Whole.{tree_uses, IsFelled}
use Rattle.irtree_shape.specs.Damages.{IsTreeHarm}
use Rattle.irtree_shape.proofs.Stocks.{moves-give, moves-further}
use Rattle.irtree_shape.proofs.Words.{words-filled}
use Rattle.irtree_shape.proofs.Fells.{felled_same, felled_child}
use Rattle.split_condense.specs.Orphans.{IsHeadless, IsOnlyChild}
use Rattle.split_condense.proofs.Dissolves.{moves-dropped, dropped-none}
use Rattle.split_condense.proofs.Forms.{has-head, told-given}
use Rattle.rtree_nodes.proofs.Laws.{form-bytes as form-told}
use Rattle.split_condense.proofs.Harms.{looked-counted, link-harm, head-harm}
use Rattle.split_condense.proofs.Lowers.{joined-alone, joined-there}
use Rattle.split_condense.proofs.Takes.{standing-some, standing-level, standing-counted, standing-unused}
use Rattle.split_condense.proofs.lowering.lower_root.Goals as goal

-- the root isn't lent
pub returns-in-Err-clause-no_false_damage : goal.returns-in-Err-clause-no_false_damage
returns-in-Err-clause-no_false_damage g c = λ before free level mine sums start standing told damage e.
    let old : PageMap = g.P.Pages.pages c.args.pages.now in
    let d = c.look.ensures.damaged damage (c.in-Err.is ∙ ap Err (same-fault {T = Unit {0}} _ _ e)) in
    standing-counted before old c.args.tree.now.rows (g.P.Pages.count c.args.pages.now) (g.P.Pages.first c.args.pages.now) level c.args.tree.now.root free [] mine sums start standing d.1

-- it isn't a node's page
pub returns-in-Err-only_child-clause-no_false_damage : goal.returns-in-Err-only_child-clause-no_false_damage
returns-in-Err-only_child-clause-no_false_damage g c = λ before free level mine sums start standing told damage e.
    let old : PageMap = g.P.Pages.pages c.args.pages.now in
    let root : ℕ = c.args.tree.now.root in
    let some = standing-some before old c.args.tree.now.rows (g.P.Pages.count c.args.pages.now) (g.P.Pages.first c.args.pages.now) level root free [] mine sums start standing in
    let seen : c.looked.result.now ≡ old root = c.looked.ensures ∙ c.in-Ok.ensures.gives (form-told (old root) (some-form (old root) some)) in
    has-head root c.looked.result.now damage (subst (λ (b : List ℕ). 0 < filled (slots_in b)) (sym seen) some)
    (subst (IsHeadless root c.looked.result.now) (same-fault {T = Unit {0}} _ _ e) c.in-Err-only_child.ensures.refuses)

-- its rows aren't dropped
pub returns-in-Err-drop_node-clause-no_false_damage : goal.returns-in-Err-drop_node-clause-no_false_damage
returns-in-Err-drop_node-clause-no_false_damage g c = λ before free level mine sums start standing told damage e.
    let old : PageMap = g.P.Pages.pages c.args.pages.now in
    let rows : ℕ = c.args.tree.now.rows in
    let read = c.in-Ok.ensures in
    let look : PageMap = g.P.Pages.pages c.look.new.self in
    let same = supply-same look old (g.P.Pages.count c.look.new.self) (g.P.Pages.count c.args.pages.now) (g.P.Pages.first c.look.new.self) (g.P.Pages.first c.args.pages.now) free read.pages read.count read.first in
    let rows-look : IsRows (supply.view look (g.P.Pages.count c.look.new.self) (g.P.Pages.first c.look.new.self) free) rows = subst (λ (w : supply.View). IsRows w rows) (sym same) standing.moves.supplied.rows in
    let told-look : AreReadable look (g.P.Pages.count c.look.new.self) = rw (read.pages, read.count) told in
    c.in-Err-drop_node.ensures.no_false_damage free rows-look told-look damage (ap Err (same-fault {T = Unit {0}} _ _ e))

-- the root stays
pub returns-in-Ok-None-clause-lowered : goal.returns-in-Ok-None-clause-lowered
returns-in-Ok-None-clause-lowered g c = λ before free level old_root x sums start standing less.
    let old : PageMap = g.P.Pages.pages c.args.pages.now in
    let rows : ℕ = c.args.tree.now.rows in
    let count : ℕ = g.P.Pages.count c.args.pages.now in
    let first : ℕ = g.P.Pages.first c.args.pages.now in
    let root : ℕ = c.args.tree.now.root in
    let mine : ℕ → ℕ = tree_uses (nodes_in node_of before.pages before.rows) old_root in
    let some = standing-some before old rows count first level root free [] mine sums start.supplied standing in
    let seen : c.looked.result.now ≡ old root = c.looked.ensures ∙ c.in-Ok.ensures.gives (form-told (old root) (some-form (old root) some)) in
    let some' : 0 < filled (slots_in c.looked.result.now) = subst (λ (b : List ℕ). 0 < filled (slots_in b)) (sym seen) some in
    let enough : root_least (level_in c.looked.result.now) ≤ filled (slots_in c.looked.result.now) =
    subst (λ (o : Option ℕ). MatchOption o (root_least (level_in c.looked.result.now) ≤ filled (slots_in c.looked.result.now)) (IsOnlyChild c.looked.result.now)) c.in-Ok-None.field-0-is (c.in-Ok-None.ensures.child some') in
    let level_is = standing-level before old rows count first level root free [] mine sums start.supplied standing in
    let enough' : root_least level ≤ filled (slots_in (old root)) =
    subst (λ (l : ℕ). root_least l ≤ filled (slots_in (old root))) level_is (subst (λ (b : List ℕ). root_least (level_in b) ≤ filled (slots_in b)) seen enough) in
    let w = words-filled (bytes_in old rows root) (slots_in (old root)) in
    rw (c.look.ensures.pages, c.look.ensures.count, c.look.ensures.first) (felled_same node_of before (view old rows count first free) level root old_root x sums start standing less (omega arith))

-- its only child takes its place
pub returns-in-Ok-give_back-clause-lowered : goal.returns-in-Ok-give_back-clause-lowered
returns-in-Ok-give_back-clause-lowered g c = λ before free level old_root x sums start standing less.
    let old : PageMap = g.P.Pages.pages c.args.pages.now in
    let rows : ℕ = c.args.tree.now.rows in
    let count : ℕ = g.P.Pages.count c.args.pages.now in
    let first : ℕ = g.P.Pages.first c.args.pages.now in
    let mid : PageMap = g.P.Pages.pages c.drop_node.new.pages in
    let mid_rows : ℕ = c.drop_node.new.tree.rows in
    let mid_count : ℕ = g.P.Pages.count c.drop_node.new.pages in
    let mid_first : ℕ = g.P.Pages.first c.drop_node.new.pages in
    let new : PageMap = g.P.Pages.pages c.give_back.new.self in
    let root : ℕ = c.args.tree.now.root in
    let mine : ℕ → ℕ = tree_uses (nodes_in node_of before.pages before.rows) old_root in
    let now : View = view old rows count first free in
    let some = standing-some before old rows count first level root free [] mine sums start.supplied standing in
    let seen : c.looked.result.now ≡ old root = c.looked.ensures ∙ c.in-Ok.ensures.gives (form-told (old root) (some-form (old root) some)) in
    let some' : 0 < filled (slots_in c.looked.result.now) = subst (λ (b : List ℕ). 0 < filled (slots_in b)) (sym seen) some in
    let only-l : IsOnlyChild c.looked.result.now c.in-Ok-Some.child =
    subst (λ (o : Option ℕ). MatchOption o (root_least (level_in c.looked.result.now) ≤ filled (slots_in c.looked.result.now)) (IsOnlyChild c.looked.result.now)) c.in-Ok-Some.field-0-is (c.in-Ok-Some.ensures.child some') in
    let only : IsOnlyChild (old root) c.in-Ok-Some.child = subst (λ (b : List ℕ). IsOnlyChild b c.in-Ok-Some.child) seen only-l in
    let level_is = standing-level before old rows count first level root free [] mine sums start.supplied standing in
    let l : ℕ = level - 1 in
    let e : level ≡ suc l = let a = only.inner in omega arith in
    let standing' : IsStanding node_of before now (suc l) root [] mine sums = subst (λ (k : ℕ). IsStanding node_of before now k root [] mine sums) e standing in
    let counted = page-some count root (standing-counted before old rows count first level root free [] mine sums start.supplied standing) in
    let unused = standing-unused before old rows count first level root free [] mine sums start.supplied standing in
    let read = c.in-Ok.ensures in
    let look : PageMap = g.P.Pages.pages c.look.new.self in
    let same = supply-same look old (g.P.Pages.count c.look.new.self) count (g.P.Pages.first c.look.new.self) first free read.pages read.count read.first in
    let rows-look : IsRows (supply.view look (g.P.Pages.count c.look.new.self) (g.P.Pages.first c.look.new.self) free) rows = subst (λ (w : supply.View). IsRows w rows) (sym same) standing.moves.supplied.rows in
    let turn : Turns (plain now) rows mid mid_count mid_first mid_rows (dropped root (bytes_in old rows)) =
    subst (λ (w : supply.View). Turns w rows mid mid_count mid_first mid_rows (dropped root (bytes_in w.pages rows))) same (c.in-Ok-drop_node.ensures.turns free rows-look) in
    let dropped-moves = moves-dropped now mid mid_rows mid_count mid_first root standing.moves.supplied unused turn in
    let gave = c.in-Ok-give_back.ensures in
    let more = c.in-Ok-drop_node.ensures.frame.count in
    let given = moves-give mid new mid_rows mid_count mid_first root turn.free dropped-moves.supplied (let k = dropped-moves.kept root in omega arith) counted.0 (let r = read.count in omega arith)
    gave.freed.0 gave.freed.1 gave.others (dropped-none now (bytes_in old rows) mid mid_rows root turn.is) in
    let given' : Moves (view mid mid_rows mid_count mid_first turn.free) (view new mid_rows (g.P.Pages.count c.give_back.new.self) (g.P.Pages.first c.give_back.new.self) (root ∷ turn.free)) (one_at root) none = rw (gave.count, gave.freed.2) given in
    subst (λ (k : ℕ). IsFelled node_of before new mid_rows (g.P.Pages.count c.give_back.new.self) (g.P.Pages.first c.give_back.new.self) old_root k x) only.to_is
    (felled_child node_of before now l root old_root x sums start standing' less only.at (joined_item (bytes_in old rows root) only.at only.item)
    (joined-alone (bytes_in old rows root) (slots_in (old root)) only.alone) (joined-there (bytes_in old rows root) (slots_in (old root)) only.at only.item only.there)
    new mid_rows (g.P.Pages.count c.give_back.new.self) (g.P.Pages.first c.give_back.new.self) (root ∷ turn.free) (moves-further dropped-moves given'))

-- the root isn't lent
pub returns-in-Err-clause-damaged : goal.returns-in-Err-clause-damaged
returns-in-Err-clause-damaged g c = λ told damage e.
    let p = g.P.Pages in
    let root : ℕ = c.args.tree.now.root in
    let r = c.in-Err.is ∙ ap Err (same-fault {T = Unit {0}} _ _ e) in
    let d = c.look.ensures.damaged damage r in
    link-harm _ (p.pages c.args.pages.now) (p.pages c.look.new.self) (p.count c.args.pages.now) (p.count c.look.new.self) (p.first c.look.new.self) (p.asked c.args.pages.now) (p.asked c.look.new.self) root damage
    c.look.ensures.pages c.look.ensures.count (c.look.ensures.asked ∙ ap (λ (x : Result (Unit {0}) PageFault). asked_after x root (p.asked c.args.pages.now)) r) d.0 d.1

pub returns-in-Err-clause-more : goal.returns-in-Err-clause-more
returns-in-Err-clause-more g c = λ told.
    let p = g.P.Pages in
    subst (λ (xs : List ℕ). AsksOnly (λ _. 1) (p.asked c.args.pages.now) xs) (sym c.look.ensures.asked)
    (asks-read (λ _. 1) (p.asked c.args.pages.now) (p.asked c.args.pages.now) c.args.tree.now.root c.look.result (asks-nothing (λ _. 1) (p.asked c.args.pages.now) (p.asked c.args.pages.now) refl) (omega arith))

-- it isn't a node's page
pub returns-in-Err-only_child-clause-damaged : goal.returns-in-Err-only_child-clause-damaged
returns-in-Err-only_child-clause-damaged g c = λ told damage e.
    let p = g.P.Pages in
    let root : ℕ = c.args.tree.now.root in
    let read = c.in-Ok.ensures in
    head-harm _ (p.pages c.args.pages.now) (p.pages c.look.new.self) (p.count c.args.pages.now) (p.count c.look.new.self) (p.first c.look.new.self) (p.asked c.args.pages.now) (p.asked c.look.new.self) root damage
    read.pages read.count read.asked c.looked.result.now (λ some. c.looked.ensures ∙ read.gives some)
    (subst (IsHeadless root c.looked.result.now) (same-fault {T = Unit {0}} _ _ e) c.in-Err-only_child.ensures.refuses)

pub returns-in-Err-only_child-clause-more : goal.returns-in-Err-only_child-clause-more
returns-in-Err-only_child-clause-more g c = λ told. asks-here (λ _. 1) _ _ c.args.tree.now.root (omega arith) c.in-Ok.ensures.asked

-- its rows aren't dropped
pub returns-in-Err-drop_node-clause-damaged : goal.returns-in-Err-drop_node-clause-damaged
returns-in-Err-drop_node-clause-damaged g c = λ told damage e.
    let p = g.P.Pages in
    let read = c.in-Ok.ensures in
    let told-look : AreReadable (p.pages c.look.new.self) (p.count c.look.new.self) = rw (read.pages, read.count) told in
    inr (harm-later c.drop_node.new.tree.rows (λ _. 1) (p.pages c.drop_node.new.pages) (p.count c.drop_node.new.pages) (p.first c.drop_node.new.pages) (p.asked c.args.pages.now) (p.asked c.look.new.self) (p.asked c.drop_node.new.pages) damage
    (asks-here (λ _. 1) _ _ c.args.tree.now.root (omega arith) read.asked)
    (c.in-Err-drop_node.ensures.damaged told-look damage (ap Err (same-fault {T = Unit {0}} _ _ e))))

pub returns-in-Err-drop_node-clause-more : goal.returns-in-Err-drop_node-clause-more
returns-in-Err-drop_node-clause-more g c = λ told.
    let p = g.P.Pages in
    let read = c.in-Ok.ensures in
    let told-look : AreReadable (p.pages c.look.new.self) (p.count c.look.new.self) = rw (read.pages, read.count) told in
    asks-further (λ _. 1) _ _ _ (asks-here (λ _. 1) _ _ c.args.tree.now.root (omega arith) read.asked) (c.drop_node.ensures.more told-look)

-- the root stays
pub returns-in-Ok-None-clause-told : goal.returns-in-Ok-None-clause-told
returns-in-Ok-None-clause-told g c = λ told. let read = c.in-Ok.ensures in rw (read.pages, read.count) told

pub returns-in-Ok-None-clause-more : goal.returns-in-Ok-None-clause-more
returns-in-Ok-None-clause-more g c = λ told. asks-here (λ _. 1) _ _ c.args.tree.now.root (omega arith) c.in-Ok.ensures.asked

-- it is given back
pub returns-in-Err-give_back-clause-damaged : goal.returns-in-Err-give_back-clause-damaged
returns-in-Err-give_back-clause-damaged g c = λ told damage e.
    let count : ℕ = g.P.Pages.count c.args.pages.now in
    let root : ℕ = c.args.tree.now.root in
    let read = c.in-Ok.ensures in
    let d = c.in-Err-give_back.ensures.damaged damage (ap Err (same-fault {T = Unit {0}} _ _ e)) in
    let counted = page-some count root (looked-counted count root read.uncounted) in
    let same = read.count in
    let more = c.in-Ok-drop_node.ensures.frame.count in
    let p = g.P.Pages in
    let none : ⊥ = elim d.1 [ inl z ↦ omega arith | inr l ↦ omega arith ] in
    absurd {A = IsTreeHarm (p.pages c.give_back.new.self) (p.count c.give_back.new.self) (p.first c.give_back.new.self) _ (p.asked c.args.pages.now) (p.asked c.give_back.new.self) damage} none

pub returns-in-Err-give_back-clause-more : goal.returns-in-Err-give_back-clause-more
returns-in-Err-give_back-clause-more g c = λ told.
    let p = g.P.Pages in
    let read = c.in-Ok.ensures in
    let told-look : AreReadable (p.pages c.look.new.self) (p.count c.look.new.self) = rw (read.pages, read.count) told in
    asks-further (λ _. 1) _ _ _ (asks-further (λ _. 1) _ _ _ (asks-here (λ _. 1) _ _ c.args.tree.now.root (omega arith) read.asked) (c.drop_node.ensures.more told-look)) (asks-nothing (λ _. 1) _ _ c.give_back.ensures.asked)

pub returns-in-Ok-give_back-clause-told : goal.returns-in-Ok-give_back-clause-told
returns-in-Ok-give_back-clause-told g c = λ told.
    let p = g.P.Pages in
    let read = c.in-Ok.ensures in
    let gave = c.in-Ok-give_back.ensures in
    let told-look : AreReadable (p.pages c.look.new.self) (p.count c.look.new.self) = rw (read.pages, read.count) told in
    subst (AreReadable (p.pages c.give_back.new.self)) (sym gave.count)
    (told-given (p.pages c.drop_node.new.pages) (p.pages c.give_back.new.self) c.args.tree.now.root (p.count c.drop_node.new.pages) gave.freed.0 gave.others (c.in-Ok-drop_node.ensures.told told-look))

pub returns-in-Ok-give_back-clause-more : goal.returns-in-Ok-give_back-clause-more
returns-in-Ok-give_back-clause-more g c = λ told.
    let p = g.P.Pages in
    let read = c.in-Ok.ensures in
    let told-look : AreReadable (p.pages c.look.new.self) (p.count c.look.new.self) = rw (read.pages, read.count) told in
    asks-further (λ _. 1) _ _ _ (asks-further (λ _. 1) _ _ _ (asks-here (λ _. 1) _ _ c.args.tree.now.root (omega arith) read.asked) (c.drop_node.ensures.more told-look)) (asks-nothing (λ _. 1) _ _ c.give_back.ensures.asked)
