use Rattle.std.proofs.Common.{◌≡◌, ◌≤◌, ◌<◌, ◌+◌, ◌∙◌, ℕ, List, ◌∷◌, length, Option, Err, arith, ap, refl, subst, sym, true≢false, inl, inr}
use Rattle.page_face.specs.FreeList.{PageMap}
use Rattle.btree_nodes.specs.Damages.{AreReadable}
use Rattle.btree_nodes.specs.Supply.{one_at}
use Rattle.btree_nodes.proofs.Harms.{asks-further, asks-nothing}
use Rattle.btree_nodes.proofs.Supplies.{none}
use Rattle.btree_nodes.proofs.Walks.{same-fault}
use Rattle.btree_nodes.proofs.Gives.{page-some}
use Rattle.rtree_nodes.specs.Slots.{Item, Slots, NodeView, one, filled, amount, Each}
use Rattle.rtree_nodes.specs.Trees.{IsItem}
use Rattle.rtree_nodes.specs.Stock.{View, view}
use Rattle.rtree_nodes.specs.Loose.{Loose, total_loose}
use Rattle.rtree_nodes.specs.Pages.{node_of, slots_in, stored_in}
use Rattle.rtree_nodes.specs.Reach.{child_item}
use Rattle.rtree_nodes.specs.declared.content.Slot.{Slot}
use Rattle.rtree_nodes.proofs.Formed.{form-slots}
use Rattle.node_rows.specs.Damages.{IsRowsHarm}
use Rattle.node_rows.specs.Rows.{bytes_in}
use Rattle.irtree_shape.specs.Words.{joined, words_on}
use Rattle.irtree_shape.specs.Stock.{Moves}
use Rattle.irtree_shape.specs.Made.{nodes_in}
use Rattle.irtree_shape.specs.Steps.{bounding_child}
use Rattle.irtree_shape.proofs.Stocks.{moves-write, moves-give, moves-further}
use Rattle.irtree_shape.proofs.Words.{words-filled}
use Rattle.irtree_shape.proofs.Settling.{page_unspared, settled_stays, settled_gone}
use Rattle.split_condense.specs.Orphans.{loose_in}
use Rattle.split_condense.proofs.Forms.{told-given}
use Rattle.split_condense.proofs.Dissolves.{wrote-bytes, wrote-here, wrote-blank, wrote-reach}
use Rattle.split_condense.proofs.Keeps.{keeps-still, keeps-gone}
use Rattle.split_condense.proofs.condensing.settle.Goals as goal

pub returns-in-Ok-write_changed-clause-settled : goal.returns-in-Ok-write_changed-clause-settled
returns-in-Ok-write_changed-clause-settled g c = λ free form ready unchanged.
    let old : PageMap = g.P.Pages.pages c.args.pages.now in
    let new : PageMap = g.P.Pages.pages c.write_changed.new.pages in
    let rows : ℕ = c.args.tree.now.rows in
    let count : ℕ = g.P.Pages.count c.args.pages.now in
    let first : ℕ = g.P.Pages.first c.args.pages.now in
    let page : ℕ = c.args.page in
    let bytes : List ℕ = c.args.bytes.now in
    let before : View = view old rows count first free in
    let loose : Loose = loose_in c.args.orphans.now.items in
    let node : NodeView = joined (node_of bytes) (bytes_in old rows page) in
    let enough : c.args.least ≤ filled node.slots = let w = words-filled (bytes_in old rows page) (node_of bytes).slots in let a = c.count.ensures.filled form in let b = c.if-count-least.true in omega arith in
    let some : 0 < filled (slots_in bytes) = let a = c.count.ensures.filled form in let b = c.if-count-least.true in let d = c.requires.some in omega arith in
    let unused = page_unspared node_of before c.args.level page node loose ready in
    let wrote = c.in-Ok-write_changed.ensures.written unchanged in
    let moves = moves-write old bytes rows count first page free ready.supplied unused (page-some count page c.requires.page).0 in
    let moved : Moves before (view new rows (g.P.Pages.count c.write_changed.new.pages) (g.P.Pages.first c.write_changed.new.pages) free) (one_at page) (one_at page)
    = rw (wrote, c.write_changed.ensures.frame.count, c.write_changed.ensures.first) moves in
    let child : Item = child_item c.in-Ok.rect page in
    settled_stays node_of before c.args.level page node loose ready
    new rows (g.P.Pages.count c.write_changed.new.pages) (g.P.Pages.first c.write_changed.new.pages) c.args.least free moved
    (wrote-here old new rows count first page free bytes ready.supplied unused wrote) (wrote-blank old new rows count first page free bytes ready.supplied unused wrote ready.empty) enough
    (bounding_child (nodes_in node_of new rows) child) refl (wrote-reach old new rows count first page free bytes ready.supplied unused wrote child refl (λ d. c.in-Ok.ensures.reach some d))

pub returns-in-Ok-give_back-clause-settled : goal.returns-in-Ok-give_back-clause-settled
returns-in-Ok-give_back-clause-settled g c = λ free form ready unchanged.
    let old : PageMap = g.P.Pages.pages c.args.pages.now in
    let mid : PageMap = g.P.Pages.pages c.dissolve.new.pages in
    let new : PageMap = g.P.Pages.pages c.give_back.new.self in
    let rows : ℕ = c.args.tree.now.rows in
    let count : ℕ = g.P.Pages.count c.args.pages.now in
    let first : ℕ = g.P.Pages.first c.args.pages.now in
    let mid_rows : ℕ = c.dissolve.new.tree.rows in
    let mid_count : ℕ = g.P.Pages.count c.dissolve.new.pages in
    let mid_first : ℕ = g.P.Pages.first c.dissolve.new.pages in
    let page : ℕ = c.args.page in
    let bytes : List ℕ = c.args.bytes.now in
    let before : View = view old rows count first free in
    let loose : Loose = loose_in c.args.orphans.now.items in
    let loose' : Loose = loose_in c.dissolve.new.orphans.items in
    let node : NodeView = joined (node_of bytes) (bytes_in old rows page) in
    let unused = page_unspared node_of before c.args.level page node loose ready in
    let gone = c.in-Ok-dissolve.ensures.dissolved free ready.supplied unused in
    let gave = c.in-Ok-give_back.ensures in
    let counted = page-some count page c.requires.page in
    let more = c.in-Ok-dissolve.ensures.frame.count in
    let given = moves-give mid new mid_rows mid_count mid_first page gone.free gone.moves.supplied (let k = gone.moves.kept page in omega arith) counted.0 (omega arith)
    gave.freed.0 gave.freed.1 gave.others gone.none in
    let given' : Moves (view mid mid_rows mid_count mid_first gone.free) (view new mid_rows (g.P.Pages.count c.give_back.new.self) (g.P.Pages.first c.give_back.new.self) (page ∷ gone.free)) (one_at page) none = rw (gave.count, gave.freed.2) given in
    let slots_are : slots_in bytes ≡ stored_in bytes = form-slots bytes form in
    settled_gone node_of before c.args.level page node loose ready
    new mid_rows (g.P.Pages.count c.give_back.new.self) (g.P.Pages.first c.give_back.new.self) c.args.least (page ∷ gone.free) loose' (moves-further gone.moves given')
    (λ F. gone.sums F ∙ ap (λ (s : Slots). total_loose F loose + amount (F c.args.level) (words_on (bytes_in old rows page) s)) (sym slots_are))
    (gone.items (nodes_in node_of old rows) (subst (λ (s : Slots). Each (λ y. IsItem (nodes_in node_of old rows) c.args.level y) (words_on (bytes_in old rows page) s)) slots_are ready.items) ready.others)

pub returns-in-Ok-write_changed-clause-others : goal.returns-in-Ok-write_changed-clause-others
returns-in-Ok-write_changed-clause-others g c = λ free form ready unchanged.
    let old : PageMap = g.P.Pages.pages c.args.pages.now in
    let new : PageMap = g.P.Pages.pages c.write_changed.new.pages in
    let rows : ℕ = c.args.tree.now.rows in
    let count : ℕ = g.P.Pages.count c.args.pages.now in
    let first : ℕ = g.P.Pages.first c.args.pages.now in
    let page : ℕ = c.args.page in
    let bytes : List ℕ = c.args.bytes.now in
    let node : NodeView = joined (node_of bytes) (bytes_in old rows page) in
    let unused = page_unspared node_of (view old rows count first free) c.args.level page node (loose_in c.args.orphans.now.items) ready in
    keeps-still page (length c.args.orphans.now.items) (bytes_in old rows) (bytes_in new rows)
    (wrote-bytes old new rows count first page free bytes ready.supplied unused (c.in-Ok-write_changed.ensures.written unchanged))

pub returns-in-Ok-give_back-clause-others : goal.returns-in-Ok-give_back-clause-others
returns-in-Ok-give_back-clause-others g c = λ free form ready unchanged.
    let old : PageMap = g.P.Pages.pages c.args.pages.now in
    let rows : ℕ = c.args.tree.now.rows in
    let count : ℕ = g.P.Pages.count c.args.pages.now in
    let first : ℕ = g.P.Pages.first c.args.pages.now in
    let page : ℕ = c.args.page in
    let bytes : List ℕ = c.args.bytes.now in
    let node : NodeView = joined (node_of bytes) (bytes_in old rows page) in
    let loose : Loose = loose_in c.args.orphans.now.items in
    let unused = page_unspared node_of (view old rows count first free) c.args.level page node loose ready in
    let gone = c.in-Ok-dissolve.ensures.dissolved free ready.supplied unused in
    let slots_are : slots_in bytes ≡ stored_in bytes = form-slots bytes form in
    keeps-gone page (bytes_in old rows) (bytes_in (g.P.Pages.pages c.give_back.new.self) c.dissolve.new.tree.rows) node.slots c.args.orphans.now.items c.dissolve.new.orphans.items ready.empty
    ((returns-in-Ok-give_back-clause-settled g c free form ready unchanged).dropped refl)
    (gone.sums (λ l y. one y) ∙ ap (λ (s : Slots). total_loose (λ l y. one y) loose + amount one (words_on (bytes_in old rows page) s)) (sym slots_are))

pub returns-in-Ok-give_back-clause-told : goal.returns-in-Ok-give_back-clause-told
returns-in-Ok-give_back-clause-told g c = λ told.
    let new : PageMap = g.P.Pages.pages c.give_back.new.self in
    let gave = c.in-Ok-give_back.ensures in
    subst (AreReadable new) (sym gave.count)
    (told-given (g.P.Pages.pages c.dissolve.new.pages) new c.args.page (g.P.Pages.count c.dissolve.new.pages) gave.freed.0 gave.others (c.in-Ok-dissolve.ensures.told told))

pub returns-in-Ok-give_back-clause-gone : goal.returns-in-Ok-give_back-clause-gone
returns-in-Ok-give_back-clause-gone g c = λ form none. (
  let a = c.count.ensures.filled form in let b = c.if-count-least.false in omega arith,
  c.in-Ok-dissolve.ensures.many ∙ ap (λ (s : Slots). length c.args.orphans.now.items + filled s) (sym (form-slots c.args.bytes.now form)),
)

-- a node's slots have a rectangle
pub returns-in-Err-clause-damaged : goal.returns-in-Err-clause-damaged
returns-in-Err-clause-damaged g c = λ form told damage e.
    let p = g.P.Pages in
    absurd {A = IsRowsHarm (p.pages c.args.pages.now) (p.count c.args.pages.now) (p.first c.args.pages.now) _ (p.asked c.args.pages.now) (p.asked c.args.pages.now) damage} (true≢false (sym (c.in-Err.ensures.ok form)))

pub returns-in-Err-clause-more : goal.returns-in-Err-clause-more
returns-in-Err-clause-more g c = λ told. asks-nothing (λ _. 1) _ _ refl

pub returns-in-Err-write_changed-clause-damaged : goal.returns-in-Err-write_changed-clause-damaged
returns-in-Err-write_changed-clause-damaged g c = λ form told damage e.
    let p = g.P.Pages in
    absurd {A = IsRowsHarm (p.pages c.write_changed.new.pages) (p.count c.write_changed.new.pages) (p.first c.write_changed.new.pages) _ (p.asked c.args.pages.now) (p.asked c.write_changed.new.pages) damage}
    (c.in-Err-write_changed.ensures.sound damage (ap Err (same-fault {T = Option Slot} _ _ e)))

pub returns-in-Err-write_changed-clause-more : goal.returns-in-Err-write_changed-clause-more
returns-in-Err-write_changed-clause-more g c = λ told. asks-nothing (λ _. 1) _ _ c.write_changed.ensures.frame.asked

pub returns-in-Ok-write_changed-clause-more : goal.returns-in-Ok-write_changed-clause-more
returns-in-Ok-write_changed-clause-more g c = λ told. asks-nothing (λ _. 1) _ _ c.write_changed.ensures.frame.asked

pub returns-in-Err-dissolve-clause-damaged : goal.returns-in-Err-dissolve-clause-damaged
returns-in-Err-dissolve-clause-damaged g c = λ form told damage e. c.in-Err-dissolve.ensures.damaged form told damage (ap Err (same-fault {T = Option Slot} _ _ e))

-- the page is counted still
pub returns-in-Err-give_back-clause-damaged : goal.returns-in-Err-give_back-clause-damaged
returns-in-Err-give_back-clause-damaged g c = λ form told damage e.
    let d = c.in-Err-give_back.ensures.damaged damage (ap Err (same-fault {T = Option Slot} _ _ e)) in
    let counted = page-some (g.P.Pages.count c.args.pages.now) c.args.page c.requires.page in
    let more = c.in-Ok-dissolve.ensures.frame.count in
    let p = g.P.Pages in
    let none : ⊥ = elim d.1 [ inl z ↦ omega arith | inr l ↦ omega arith ] in
    absurd {A = IsRowsHarm (p.pages c.give_back.new.self) (p.count c.give_back.new.self) (p.first c.give_back.new.self) _ (p.asked c.args.pages.now) (p.asked c.give_back.new.self) damage} none

pub returns-in-Err-give_back-clause-more : goal.returns-in-Err-give_back-clause-more
returns-in-Err-give_back-clause-more g c = λ told. asks-further (λ _. 1) _ _ _ (c.dissolve.ensures.more told) (asks-nothing (λ _. 1) _ _ c.give_back.ensures.asked)

pub returns-in-Ok-give_back-clause-more : goal.returns-in-Ok-give_back-clause-more
returns-in-Ok-give_back-clause-more g c = λ told. asks-further (λ _. 1) _ _ _ (c.dissolve.ensures.more told) (asks-nothing (λ _. 1) _ _ c.give_back.ensures.asked)
