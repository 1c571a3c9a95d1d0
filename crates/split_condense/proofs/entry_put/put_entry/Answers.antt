use Rattle.std.proofs.Common.{◌≡◌, ◌≢◌, None, inl, inr, ⊎_elim, subst, sym, Some, Option, Ok, Err, Result, ap, ◌∙◌, option_map}
use Rattle.std.specs.Borrow.{Bor}
use Rattle.std.specs.Prelude.{IfSome, OnOk, MatchOption}
use Rattle.std.specs.Option.{option_copied}
use Rattle.std.proofs.lemmas.Result.{err_from_is_err_and}
use Rattle.page_face.specs.declared.fault.PageFault.TheVariants.{Damaged}
use Rattle.row_codec.specs.declared.stored.Stored.{Stored}
use Rattle.rtree_nodes.specs.Slots.{Item}
use Rattle.rtree_nodes.specs.Stock.{View, view}
use Rattle.rtree_nodes.specs.Pages.{node_of}
use Rattle.irtree_shape.specs.Made.{nodes_in}
use Rattle.irtree_shape.proofs.Harms.{tree-later}
use Rattle.irtree_shape.specs.Entries.{HasEntry, HasPlace, entry_at}
use Rattle.irtree_shape.specs.Regrown.{IsMissing, IsRegrown}
use Rattle.split_condense.proofs.Regrowths.{nothing-regrown, planted-for, planted-regrown, regrown-further}
use Rattle.split_condense.specs.Entries.{entry_item}
use Rattle.split_condense.specs.Updates.{entry_for}
use Rattle.split_condense.specs.declared.entry.Entry.{Entry}
use Rattle.split_condense.proofs.Same.{none-same}
use Rattle.split_condense.proofs.Told.{told-regrown}
use Rattle.split_condense.proofs.entry_put.put_entry.Goals as goal

-- what follows from a fact of an Ok is one of it too
ok_then : {T E : Type 0} (r : Result T E) {A B : Type 0} → (A → B) → OnOk r A → OnOk r B
ok_then (Ok v) f a = f a
ok_then (Err e) f a = tt

pub returns-in_default-clause-put : goal.returns-in_default-clause-put
returns-in_default-clause-put g c = λ free whole has.
    let P = g.P.Pages in
    let tree = c.args.tree.now in
    let before : View = view (P.pages c.args.pages.now) tree.rows (P.count c.args.pages.now) (P.first c.args.pages.now) free in
    let y : Item = entry_at c.args.key.now c.args.new.now in
    ok_then c.insert.result
    (λ h. subst (λ (o : Option (Bor Stored)). IsRegrown node_of before (P.pages c.insert.new.pages) c.insert.new.tree.rows (P.count c.insert.new.pages) (P.first c.insert.new.pages) tree.root c.insert.new.tree.root (option_map (entry_at c.args.key.now) (option_copied o)) (Some y)) (sym c.in_default.is)
    (planted-regrown before (P.pages c.insert.new.pages) c.insert.new.tree.rows (P.count c.insert.new.pages) (P.first c.insert.new.pages) tree.root c.insert.new.tree.root c.entry_of.result c.args.key.now c.args.new.now c.entry_of.ensures h))
    (c.insert.ensures.planted free whole)

pub returns-in_default-clause-no_false_damage : goal.returns-in_default-clause-no_false_damage
returns-in_default-clause-no_false_damage g c = λ free whole has told damage e. c.insert.ensures.no_false_damage free whole told damage e

pub returns-then-is_same_entry-clause-put : goal.returns-then-is_same_entry-clause-put
returns-then-is_same_entry-clause-put g c = λ free whole has.
    let P = g.P.Pages in
    let tree = c.args.tree.now in
    let equal : entry_for c.args.key.now c.in-Some.old.now ≡ entry_for c.args.key.now c.args.new.now = c.is_same_entry.ensures.same c.if-is_same_entry.true c.args.key.now in
    let same : option_map (entry_at c.args.key.now) (option_copied c.args.old) ≡ Some (entry_at c.args.key.now c.args.new.now) =
    ap (λ (o : Option (Bor Stored)). option_map (entry_at c.args.key.now) (option_copied o)) c.in-Some.is ∙ ap (λ (e : Entry). Some (entry_item e)) equal in
    nothing-regrown (P.pages c.args.pages.now) tree.rows (P.count c.args.pages.now) (P.first c.args.pages.now) tree.root free _ _ same whole

pub returns-in_err-insert-clause-no_false_damage : goal.returns-in_err-insert-clause-no_false_damage
returns-in_err-insert-clause-no_false_damage g c = λ free whole has told damage e.
    let P = g.P.Pages in
    let tree = c.args.tree.now in
    let before : View = view (P.pages c.args.pages.now) tree.rows (P.count c.args.pages.now) (P.first c.args.pages.now) free in
    let passed = err_from_is_err_and c.from_residual-in_err-insert.result c.from_residual-in_err-insert.ensures.1 in
    let fault_is : c.in_err-insert.field-0.0 ≡ Damaged damage = let r = passed.1 in let f = passed.2 in cc in
    let had : HasEntry (nodes_in node_of (P.pages c.args.pages.now) tree.rows) tree.root c.args.key.now c.in-Some.old.now
    = subst (λ (o : Option (Bor Stored)). IfSome (option_copied o) (HasEntry (nodes_in node_of (P.pages c.args.pages.now) tree.rows) tree.root c.args.key.now)) c.in-Some.is has in
    let gone = c.in_ok-take_entry.ensures.taken free whole had in
    let there = told-regrown before (P.pages c.take_entry.new.pages) c.take_entry.new.tree.rows (P.count c.take_entry.new.pages) (P.first c.take_entry.new.pages) tree.root c.take_entry.new.tree.root _ _ gone told in
    c.insert-2.ensures.no_false_damage gone.free gone.whole there damage (c.in_err-insert.was ∙ ap Err fault_is)

pub returns-clause-put : goal.returns-clause-put
returns-clause-put g c = λ free whole has.
    let P = g.P.Pages in
    let tree = c.args.tree.now in
    let before : View = view (P.pages c.args.pages.now) tree.rows (P.count c.args.pages.now) (P.first c.args.pages.now) free in
    let x : Item = entry_at c.args.key.now c.in-Some.old.now in
    let y : Item = entry_at c.args.key.now c.args.new.now in
    let had : HasEntry (nodes_in node_of (P.pages c.args.pages.now) tree.rows) tree.root c.args.key.now c.in-Some.old.now
    = subst (λ (o : Option (Bor Stored)). IfSome (option_copied o) (HasEntry (nodes_in node_of (P.pages c.args.pages.now) tree.rows) tree.root c.args.key.now)) c.in-Some.is has in
    let gone = c.in_ok-take_entry.ensures.taken free whole had in
    let mid : View = view (P.pages c.take_entry.new.pages) c.take_entry.new.tree.rows (P.count c.take_entry.new.pages) (P.first c.take_entry.new.pages) gone.free in
    let come = planted-regrown mid (P.pages c.insert-2.new.pages) c.insert-2.new.tree.rows (P.count c.insert-2.new.pages) (P.first c.insert-2.new.pages) c.take_entry.new.tree.root c.insert-2.new.tree.root
    c.entry_of-2.result c.args.key.now c.args.new.now c.entry_of-2.ensures (c.in_ok-insert.ensures.planted gone.free gone.whole) in
    subst (λ (o : Option (Bor Stored)). IsRegrown node_of before (P.pages c.insert-2.new.pages) c.insert-2.new.tree.rows (P.count c.insert-2.new.pages) (P.first c.insert-2.new.pages) tree.root c.insert-2.new.tree.root (option_map (entry_at c.args.key.now) (option_copied o)) (Some y)) (sym c.in-Some.is)
    (regrown-further before (P.pages c.take_entry.new.pages) c.take_entry.new.tree.rows (P.count c.take_entry.new.pages) (P.first c.take_entry.new.pages) c.take_entry.new.tree.root
    (P.pages c.insert-2.new.pages) c.insert-2.new.tree.rows (P.count c.insert-2.new.pages) (P.first c.insert-2.new.pages) tree.root c.insert-2.new.tree.root x y gone come)

pub returns-in_default-clause-damaged : goal.returns-in_default-clause-damaged
returns-in_default-clause-damaged g c = λ told damage e. inl (c.insert.ensures.damaged told damage e)

pub returns-in_err-take_entry-clause-damaged : goal.returns-in_err-take_entry-clause-damaged
returns-in_err-take_entry-clause-damaged g c = λ told damage e.
    let P = g.P.Pages in
    let tree = c.args.tree.now in
    let passed = err_from_is_err_and c.from_residual.result c.from_residual.ensures.1 in
    let fault_is : c.in_err-take_entry.field-0.0 ≡ Damaged damage = cc (passed.1, passed.2, e) in
    ⊎_elim (λ harm. inl harm)
    (λ missing. inr (subst (λ (o : Option (Bor Stored)). MatchOption (option_copied o) ⊥ (λ stored. IsMissing (P.pages c.args.pages.now) tree.rows (P.count c.args.pages.now) (P.first c.args.pages.now) tree.root c.args.key.now stored.point damage))
    (sym c.in-Some.is) missing))
    (c.take_entry.ensures.damaged told damage (c.in_err-take_entry.was ∙ ap Err fault_is))

pub returns-in_err-insert-clause-damaged : goal.returns-in_err-insert-clause-damaged
returns-in_err-insert-clause-damaged g c = λ told damage e.
    let P = g.P.Pages in
    let passed = err_from_is_err_and c.from_residual-in_err-insert.result c.from_residual-in_err-insert.ensures.1 in
    let fault_is : c.in_err-insert.field-0.0 ≡ Damaged damage = cc (passed.1, passed.2, e) in
    inl (tree-later c.insert-2.new.tree.rows (λ _. 1) (P.pages c.insert-2.new.pages) (P.count c.insert-2.new.pages) (P.first c.insert-2.new.pages) (P.asked c.args.pages.now) (P.asked c.take_entry.new.pages) (P.asked c.insert-2.new.pages) damage
    (c.take_entry.ensures.more told) (c.insert-2.ensures.damaged (c.in_ok-take_entry.ensures.told told) damage (c.in_err-insert.was ∙ ap Err fault_is)))

-- ---- the old place was there

pub returns-in_default-clause-there : goal.returns-in_default-clause-there
returns-in_default-clause-there g c = λ free whole.
    let P = g.P.Pages in
    let tree = c.args.tree.now in
    ok_then c.insert.result
    (λ h. subst (λ (o : Option (Bor Stored)). IfSome (option_copied o) (λ stored. entry_for c.args.key.now stored ≢ entry_for c.args.key.now c.args.new.now → HasPlace (nodes_in node_of (P.pages c.args.pages.now) tree.rows) tree.root c.args.key.now stored.point)) (sym c.in_default.is) tt)
    (c.insert.ensures.planted free whole)

pub returns-then-is_same_entry-clause-there : goal.returns-then-is_same_entry-clause-there
returns-then-is_same_entry-clause-there g c = λ free whole.
    let P = g.P.Pages in
    let tree = c.args.tree.now in
    let equal : entry_for c.args.key.now c.in-Some.old.now ≡ entry_for c.args.key.now c.args.new.now = c.is_same_entry.ensures.same c.if-is_same_entry.true c.args.key.now in
    subst (λ (o : Option (Bor Stored)). IfSome (option_copied o) (λ stored. entry_for c.args.key.now stored ≢ entry_for c.args.key.now c.args.new.now → HasPlace (nodes_in node_of (P.pages c.args.pages.now) tree.rows) tree.root c.args.key.now stored.point)) (sym c.in-Some.is) (λ differs. absurd (differs equal))

pub returns-clause-there : goal.returns-clause-there
returns-clause-there g c = λ free whole.
    let P = g.P.Pages in
    let tree = c.args.tree.now in
    subst (λ (o : Option (Bor Stored)). IfSome (option_copied o) (λ stored. entry_for c.args.key.now stored ≢ entry_for c.args.key.now c.args.new.now → HasPlace (nodes_in node_of (P.pages c.args.pages.now) tree.rows) tree.root c.args.key.now stored.point)) (sym c.in-Some.is)
    (λ differs. c.in_ok-take_entry.ensures.there free whole)

-- ---- nothing is done where both are the same

pub returns-in_default-clause-same : goal.returns-in_default-clause-same
returns-in_default-clause-same g c = λ same. let none : None ≡ Some (entry_for c.args.key.now c.args.new.now) = sym (ap (λ (o : Option (Bor Stored)). option_map (entry_for c.args.key.now) (option_copied o)) c.in_default.is) ∙ same in absurd (cc)

pub returns-in_err-take_entry-clause-same : goal.returns-in_err-take_entry-clause-same
returns-in_err-take_entry-clause-same g c = λ same. absurd (none-same c.args.key.now c.args.old c.in-Some.old c.args.new.now c.is_same_entry.result c.in-Some.is c.is_same_entry.ensures.differs c.if-is_same_entry.false same)

pub returns-in_err-insert-clause-same : goal.returns-in_err-insert-clause-same
returns-in_err-insert-clause-same g c = λ same. absurd (none-same c.args.key.now c.args.old c.in-Some.old c.args.new.now c.is_same_entry.result c.in-Some.is c.is_same_entry.ensures.differs c.if-is_same_entry.false same)

pub returns-clause-same : goal.returns-clause-same
returns-clause-same g c = λ same. absurd (none-same c.args.key.now c.args.old c.in-Some.old c.args.new.now c.is_same_entry.result c.in-Some.is c.is_same_entry.ensures.differs c.if-is_same_entry.false same)

-- ---- no split is counted then

pub returns-in_default-clause-unsplit : goal.returns-in_default-clause-unsplit
returns-in_default-clause-unsplit g c = λ same. let none : None ≡ Some (entry_for c.args.key.now c.args.new.now) = sym (ap (λ (o : Option (Bor Stored)). option_map (entry_for c.args.key.now) (option_copied o)) c.in_default.is) ∙ same in absurd (cc)

pub returns-in_err-take_entry-clause-unsplit : goal.returns-in_err-take_entry-clause-unsplit
returns-in_err-take_entry-clause-unsplit g c = λ same. absurd (none-same c.args.key.now c.args.old c.in-Some.old c.args.new.now c.is_same_entry.result c.in-Some.is c.is_same_entry.ensures.differs c.if-is_same_entry.false same)

pub returns-in_err-insert-clause-unsplit : goal.returns-in_err-insert-clause-unsplit
returns-in_err-insert-clause-unsplit g c = λ same. absurd (none-same c.args.key.now c.args.old c.in-Some.old c.args.new.now c.is_same_entry.result c.in-Some.is c.is_same_entry.ensures.differs c.if-is_same_entry.false same)

pub returns-clause-unsplit : goal.returns-clause-unsplit
returns-clause-unsplit g c = λ same. absurd (none-same c.args.key.now c.args.old c.in-Some.old c.args.new.now c.is_same_entry.result c.in-Some.is c.is_same_entry.ensures.differs c.if-is_same_entry.false same)

-- ---- a new place's entry

pub returns-in_default-clause-planted : goal.returns-in_default-clause-planted
returns-in_default-clause-planted g c = λ free whole none.
    let P = g.P.Pages in
    let tree = c.args.tree.now in
    let before : View = view (P.pages c.args.pages.now) tree.rows (P.count c.args.pages.now) (P.first c.args.pages.now) free in
    planted-for c.insert.result before (P.pages c.insert.new.pages) c.insert.new.tree.rows (P.count c.insert.new.pages) (P.first c.insert.new.pages) tree.root c.insert.new.tree.root c.entry_of.result c.args.key.now c.args.new.now _
    c.entry_of.ensures (c.insert.ensures.planted free whole)

pub returns-then-is_same_entry-clause-planted : goal.returns-then-is_same_entry-clause-planted
returns-then-is_same_entry-clause-planted g c = λ free whole none. (let some : Some c.in-Some.old.now ≡ None = sym (ap option_copied c.in-Some.is) ∙ none in absurd (cc))

pub returns-clause-planted : goal.returns-clause-planted
returns-clause-planted g c = λ free whole none. (let some : Some c.in-Some.old.now ≡ None = sym (ap option_copied c.in-Some.is) ∙ none in absurd (cc))
