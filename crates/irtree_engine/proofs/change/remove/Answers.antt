use Rattle.std.proofs.Common.{◌≡◌, ⊎_elim, ℕ, ◌-◌, ◌^◌, true, false, List, ◌∷◌, option_map, Option, Some, None, IfSome, Err, Result, IfErr, is_some, refl, sym, ap, subst, ◌∙◌, arith}
use Rattle.std.proofs.lemmas.Result.{err_from_is_err_and}
use Rattle.page_face.specs.FreeList.{PageMap}
use Rattle.page_face.specs.declared.head.Head.{Head}
use Rattle.btree_nodes.specs.Damages.{AreReadable}
use Rattle.btree_nodes.specs.Supply.{view}
use Rattle.paged_map.specs.Maps.{AreCounted}
use Rattle.node_rows.specs.declared.roots.Tree.{Tree}
use Rattle.rtree_nodes.specs.Stock as stock
use Rattle.rtree_nodes.specs.Pages.{node_of}
use Rattle.irtree_shape.specs.Made.{nodes_in}
use Rattle.irtree_shape.specs.Whole.{IsWhole}
use Rattle.irtree_shape.specs.Entries.{HasEntry, entry_at}
use Rattle.irtree_shape.specs.Regrown.{IsRegrown}
use Rattle.place_values.specs.declared.update.Applied.{Applied}
use Rattle.place_values.specs.Update.{Effect, removed_at}
use Rattle.place_values.specs.declared.update.Update.TheVariants.{Remove}
use Rattle.store_model.specs.Ahead.{StandAhead, claimed}
use Rattle.store_model.specs.Stands.{tables_in}
use Rattle.store_model.proofs.Batches.{counting-claimed, stand-absent}
use Rattle.store_model.specs.Updates.{after_remove}
use Rattle.row_codec.specs.declared.stored.Stored.{Stored}
use Rattle.store_tables.specs.declared.tables.Tables.{Tables}
use Rattle.store_tables.specs.Entries.{place_of_key}
use Rattle.store_tables.specs.Holding.{Holds, IsApart, IsChanged, table_uses}
use Rattle.store_tables.specs.Words.{WordTablesAgree, holders}
use Rattle.store_tables.proofs.Heads.{place-spares_head}
use Rattle.store_tables.proofs.ToldLemmas.{told-changed}
use Rattle.irtree_engine.specs.declared.fault.EngineFault.{EngineFault}
use Rattle.irtree_engine.specs.declared.fault.EngineFault.TheVariants.{Damaged}
use Rattle.irtree_engine.specs.Changes.{AreNumbersAhead, block_with, head_with, tree_in}
use Rattle.irtree_engine.specs.Faults.{fault_of_pages}
use Rattle.irtree_engine.specs.Updates.{IsDueTo}
use Rattle.irtree_engine.proofs.Dues.{passed-due}
use Rattle.irtree_engine.proofs.Effects.{remove-absent, remove-done, remove-stands, remove-worn, stand-same}
use Rattle.irtree_engine.proofs.Hiding.{other-fault}
use Rattle.irtree_engine.proofs.NoHead.{missing-spares_head, tree-spares_head}
use Rattle.irtree_engine.proofs.Numbers.{numbers-absent, numbers-removed}
use Rattle.irtree_engine.proofs.Standing.{damaged-from, stand-counted}
use Rattle.irtree_engine.proofs.Trees.{tree-has, tree-whole}
use Rattle.irtree_engine.proofs.change.remove.Goals as goal

-- no place is found where none is the one
none_there : (found : Option Stored) → ((stored : Stored) → found ≡ Some stored → ⊥) → is_some found ≡ false
none_there None none = refl
none_there (Some stored) none = absurd (none stored refl)

-- src/change.rt:257:21
pub returns-in_err-old-clause-due : goal.returns-in_err-old-clause-due
returns-in_err-old-clause-due g c = λ state left stand told.
    let outcome = (removed_at state c.args.key.now).answer in
    let tables = c.tables_of-tables.result in
    let pages : PageMap = g.P.Pages.pages c.args.pages.now in
    let passed = err_from_is_err_and c.from_residual.result c.from_residual.ensures.1 in
    let holds : Holds pages tables stand.stand.entries = subst (λ (t : Tables). Holds pages t stand.stand.entries) (sym c.tables_of-tables.ensures) stand.stand.tables.holds in
    let counted : AreCounted (table_uses pages tables) (g.P.Pages.count c.args.pages.now) = subst (λ (t : Tables). AreCounted (table_uses pages t) (g.P.Pages.count c.args.pages.now)) (sym c.tables_of-tables.ensures) (stand-counted stand.stand) in
    subst (λ (r : Result Applied EngineFault). IfErr r (IsDueTo outcome)) (sym passed.1)
    (passed-due outcome c.in_err-old.field-0.0 passed.0 passed.2 (λ damage is. c.place.ensures.no_false_damage stand.stand.entries holds told counted damage (c.in_err-old.was ∙ ap Err is)))

-- src/change.rt:258:9
pub returns-in_default-clause-updated : goal.returns-in_default-clause-updated
returns-in_default-clause-updated g c = λ state left stand.
    let head = c.args.head.now in
    let numbers : Option (List (List ℕ × ℕ)) = option_map (λ numbers. numbers.entries) c.args.held.now in
    let tables = c.tables_of-tables.result in
    let tables_are : tables ≡ tables_in head = c.tables_of-tables.ensures in
    let old = c.args.pages.now in
    let mid = c.place.new.pages in
    let ahead = stand-same numbers (Remove c.args.key.now ∷ left) head (g.P.Pages.pages old) (g.P.Pages.pages mid) (g.P.Pages.count old) (g.P.Pages.count mid) (g.P.Pages.first old) (g.P.Pages.first mid) state c.place.ensures.frame.pages c.place.ensures.frame.count c.place.ensures.frame.first stand in
    let there = ahead.stand in
    let holds : Holds (g.P.Pages.pages mid) tables there.entries = subst (λ (t : Tables). Holds (g.P.Pages.pages mid) t there.entries) (sym tables_are) there.tables.holds in
    let is_found : c.in_ok-old.field-0 ≡ place_of_key c.args.key.now there.entries.places = c.in_ok-old.ensures.found there.entries (subst (λ (p : PageMap). Holds p tables there.entries) c.place.ensures.frame.pages holds) in
    let none : is_some c.in_ok-old.field-0 ≡ false = none_there c.in_ok-old.field-0 c.in_default.not-Some in
    let absent = remove-absent head (g.P.Pages.count mid) (g.P.Pages.first mid) (g.P.Pages.pages mid) state there c.args.key.now c.in_ok-old.field-0 is_found none in (
      ap (λ (e : Effect). e.answer) absent,
      subst (λ (e : Effect). StandAhead numbers left (block_with (g.P.Pages.count mid) (g.P.Pages.first mid) head) (g.P.Pages.pages mid) e.state) (sym absent)
          (stand-absent numbers left c.args.key.now (block_with (g.P.Pages.count mid) (g.P.Pages.first mid) head) (g.P.Pages.pages mid) state ahead),
    )

-- src/change.rt:261:9
pub returns-then-head-eq-NUMBER_MAX-clause-due : goal.returns-then-head-eq-NUMBER_MAX-clause-due
returns-then-head-eq-NUMBER_MAX-clause-due g c = λ state left stand told.
    let head = c.args.head.now in
    let numbers : Option (List (List ℕ × ℕ)) = option_map (λ numbers. numbers.entries) c.args.held.now in
    let tables = c.tables_of-tables.result in
    let tables_are : tables ≡ tables_in head = c.tables_of-tables.ensures in
    let old = c.args.pages.now in
    let mid = c.place.new.pages in
    let ahead = stand-same numbers (Remove c.args.key.now ∷ left) head (g.P.Pages.pages old) (g.P.Pages.pages mid) (g.P.Pages.count old) (g.P.Pages.count mid) (g.P.Pages.first old) (g.P.Pages.first mid) state c.place.ensures.frame.pages c.place.ensures.frame.count c.place.ensures.frame.first stand in
    let there = ahead.stand in
    let holds : Holds (g.P.Pages.pages mid) tables there.entries = subst (λ (t : Tables). Holds (g.P.Pages.pages mid) t there.entries) (sym tables_are) there.tables.holds in
    let is_found : c.in_ok-old.field-0 ≡ place_of_key c.args.key.now there.entries.places = c.in_ok-old.ensures.found there.entries (subst (λ (p : PageMap). Holds p tables there.entries) c.place.ensures.frame.pages holds) in
    remove-worn head (g.P.Pages.count mid) (g.P.Pages.first mid) (g.P.Pages.pages mid) state there c.args.key.now c.in_ok-old.field-0 is_found (ap is_some c.in-Some.is) (omega arith)

-- src/change.rt:266:5
pub returns-in_err-remove_place-clause-due : goal.returns-in_err-remove_place-clause-due
returns-in_err-remove_place-clause-due g c = λ state left stand told.
    let head = c.args.head.now in
    let numbers : Option (List (List ℕ × ℕ)) = option_map (λ numbers. numbers.entries) c.args.held.now in
    let tables = c.tables_of-tables.result in
    let tables_are : tables ≡ tables_in head = c.tables_of-tables.ensures in
    let old = c.args.pages.now in
    let mid = c.place.new.pages in
    let ahead = stand-same numbers (Remove c.args.key.now ∷ left) head (g.P.Pages.pages old) (g.P.Pages.pages mid) (g.P.Pages.count old) (g.P.Pages.count mid) (g.P.Pages.first old) (g.P.Pages.first mid) state c.place.ensures.frame.pages c.place.ensures.frame.count c.place.ensures.frame.first stand in
    let there = ahead.stand in
    let holds : Holds (g.P.Pages.pages mid) tables there.entries = subst (λ (t : Tables). Holds (g.P.Pages.pages mid) t there.entries) (sym tables_are) there.tables.holds in
    let is_found : c.in_ok-old.field-0 ≡ place_of_key c.args.key.now there.entries.places = c.in_ok-old.ensures.found there.entries (subst (λ (p : PageMap). Holds p tables there.entries) c.place.ensures.frame.pages holds) in
    let apart : IsApart (view (g.P.Pages.pages mid) (g.P.Pages.count mid) (g.P.Pages.first mid) there.tables.free) tables =
    subst (λ (t : Tables). IsApart (view (g.P.Pages.pages mid) (g.P.Pages.count mid) (g.P.Pages.first mid) there.tables.free) t) (sym tables_are) there.tables.apart in
    let outcome = (removed_at state c.args.key.now).answer in
    let claims : ℕ → ℕ → ℕ = claimed numbers (Remove c.args.key.now ∷ left) in
    let agree : WordTablesAgree (λ n. claims n (holders n there.entries.places)) there.entries.texts there.entries.numbers tables.next_word =
    subst (λ (t : Tables). WordTablesAgree (λ n. claims n (holders n there.entries.places)) there.entries.texts there.entries.numbers t.next_word) (sym tables_are) there.tables.sound.words in
    let told_there : AreReadable (g.P.Pages.pages mid) (g.P.Pages.count mid) =
    subst (λ (p : PageMap). AreReadable p (g.P.Pages.count mid)) (sym c.place.ensures.frame.pages) (subst (λ n. AreReadable (g.P.Pages.pages old) n) (sym c.place.ensures.frame.count) told) in
    let passed = err_from_is_err_and c.from_residual-in_err-remove_place.result c.from_residual-in_err-remove_place.ensures.1 in
    subst (λ (r : Result Applied EngineFault). IfErr r (IsDueTo outcome)) (sym passed.1)
    (passed-due outcome c.in_err-remove_place.field-0.0 passed.0 passed.2
    (λ damage is. c.remove_place.ensures.no_false_damage there.entries there.tables.free holds apart (sym is_found ∙ c.in-Some.is) claims (counting-claimed numbers (Remove c.args.key.now ∷ left)) agree told_there damage (c.in_err-remove_place.was ∙ ap Err is)))

-- src/change.rt:268:5
pub returns-in_err-take_entry-clause-due : goal.returns-in_err-take_entry-clause-due
returns-in_err-take_entry-clause-due g c = λ state left stand told.
    let head = c.args.head.now in
    let numbers : Option (List (List ℕ × ℕ)) = option_map (λ numbers. numbers.entries) c.args.held.now in
    let tables = c.tables_of-tables.result in
    let tables_are : tables ≡ tables_in head = c.tables_of-tables.ensures in
    let old = c.args.pages.now in
    let mid = c.place.new.pages in
    let ahead = stand-same numbers (Remove c.args.key.now ∷ left) head (g.P.Pages.pages old) (g.P.Pages.pages mid) (g.P.Pages.count old) (g.P.Pages.count mid) (g.P.Pages.first old) (g.P.Pages.first mid) state c.place.ensures.frame.pages c.place.ensures.frame.count c.place.ensures.frame.first stand in
    let there = ahead.stand in
    let holds : Holds (g.P.Pages.pages mid) tables there.entries = subst (λ (t : Tables). Holds (g.P.Pages.pages mid) t there.entries) (sym tables_are) there.tables.holds in
    let is_found : c.in_ok-old.field-0 ≡ place_of_key c.args.key.now there.entries.places = c.in_ok-old.ensures.found there.entries (subst (λ (p : PageMap). Holds p tables there.entries) c.place.ensures.frame.pages holds) in
    let apart : IsApart (view (g.P.Pages.pages mid) (g.P.Pages.count mid) (g.P.Pages.first mid) there.tables.free) tables =
    subst (λ (t : Tables). IsApart (view (g.P.Pages.pages mid) (g.P.Pages.count mid) (g.P.Pages.first mid) there.tables.free) t) (sym tables_are) there.tables.apart in
    let after = c.remove_place.new.pages in
    let now = c.remove_place.new.tables in
    let moves : IsChanged (view (g.P.Pages.pages mid) (g.P.Pages.count mid) (g.P.Pages.first mid) there.tables.free) (tables_in head) (g.P.Pages.pages after) (g.P.Pages.count after) (g.P.Pages.first after) now (after_remove c.args.key.now there.entries) =
    subst (λ (t : Tables). IsChanged (view (g.P.Pages.pages mid) (g.P.Pages.count mid) (g.P.Pages.first mid) there.tables.free) t (g.P.Pages.pages after) (g.P.Pages.count after) (g.P.Pages.first after) now (after_remove c.args.key.now there.entries)) tables_are
    (c.in_ok-remove_place.ensures.removed there.entries there.tables.free holds apart (sym is_found ∙ c.in-Some.is)) in
    let tree_is : c.tree_of-tree.result ≡ tree_in head = c.tree_of-tree.ensures in
    let block = block_with (g.P.Pages.count mid) (g.P.Pages.first mid) head in
    let whole : IsWhole node_of (stock.view (g.P.Pages.pages after) c.tree_of-tree.result.rows (g.P.Pages.count after) (g.P.Pages.first after) moves.free) c.tree_of-tree.result.root =
    subst (λ (t : Tree). IsWhole node_of (stock.view (g.P.Pages.pages after) t.rows (g.P.Pages.count after) (g.P.Pages.first after) moves.free) t.root) (sym tree_is)
    (tree-whole block (g.P.Pages.pages mid) state there (g.P.Pages.pages after) (g.P.Pages.count after) (g.P.Pages.first after) now (after_remove c.args.key.now there.entries) moves) in
    let has : HasEntry (nodes_in node_of (g.P.Pages.pages after) c.tree_of-tree.result.rows) c.tree_of-tree.result.root c.args.key.now c.in-Some.old =
    subst (λ (t : Tree). HasEntry (nodes_in node_of (g.P.Pages.pages after) t.rows) t.root c.args.key.now c.in-Some.old) (sym tree_is)
    (subst (λ (found : Option Stored). IfSome found (HasEntry (nodes_in node_of (g.P.Pages.pages after) head.rows) head.tree c.args.key.now)) c.in-Some.is
    (tree-has block (g.P.Pages.pages mid) state there (g.P.Pages.pages after) (g.P.Pages.count after) (g.P.Pages.first after) now (after_remove c.args.key.now there.entries) moves c.args.key.now c.in_ok-old.field-0 is_found)) in
    let outcome = (removed_at state c.args.key.now).answer in
    let told_there : AreReadable (g.P.Pages.pages mid) (g.P.Pages.count mid) =
    subst (λ (p : PageMap). AreReadable p (g.P.Pages.count mid)) (sym c.place.ensures.frame.pages) (subst (λ n. AreReadable (g.P.Pages.pages old) n) (sym c.place.ensures.frame.count) told) in
    let told_after = told-changed (view (g.P.Pages.pages mid) (g.P.Pages.count mid) (g.P.Pages.first mid) there.tables.free) (tables_in head) (g.P.Pages.pages after) (g.P.Pages.count after) (g.P.Pages.first after) now (after_remove c.args.key.now there.entries) moves told_there in
    let passed = err_from_is_err_and c.from_residual-in_err-take_entry.result c.from_residual-in_err-take_entry.ensures.1 in
    subst (λ (r : Result Applied EngineFault). IfErr r (IsDueTo outcome)) (sym passed.1)
    (passed-due outcome c.in_err-take_entry.field-0.0 passed.0 passed.2
    (λ damage is. c.take_entry.ensures.no_false_damage moves.free whole has told_after damage (c.in_err-take_entry.was ∙ ap Err is)))

-- src/change.rt:230:1
pub returns-clause-updated : goal.returns-clause-updated
returns-clause-updated g c = λ state left stand.
    let head = c.args.head.now in
    let numbers : Option (List (List ℕ × ℕ)) = option_map (λ numbers. numbers.entries) c.args.held.now in
    let tables = c.tables_of-tables.result in
    let tables_are : tables ≡ tables_in head = c.tables_of-tables.ensures in
    let old = c.args.pages.now in
    let mid = c.place.new.pages in
    let ahead = stand-same numbers (Remove c.args.key.now ∷ left) head (g.P.Pages.pages old) (g.P.Pages.pages mid) (g.P.Pages.count old) (g.P.Pages.count mid) (g.P.Pages.first old) (g.P.Pages.first mid) state c.place.ensures.frame.pages c.place.ensures.frame.count c.place.ensures.frame.first stand in
    let there = ahead.stand in
    let holds : Holds (g.P.Pages.pages mid) tables there.entries = subst (λ (t : Tables). Holds (g.P.Pages.pages mid) t there.entries) (sym tables_are) there.tables.holds in
    let is_found : c.in_ok-old.field-0 ≡ place_of_key c.args.key.now there.entries.places = c.in_ok-old.ensures.found there.entries (subst (λ (p : PageMap). Holds p tables there.entries) c.place.ensures.frame.pages holds) in
    let apart : IsApart (view (g.P.Pages.pages mid) (g.P.Pages.count mid) (g.P.Pages.first mid) there.tables.free) tables =
    subst (λ (t : Tables). IsApart (view (g.P.Pages.pages mid) (g.P.Pages.count mid) (g.P.Pages.first mid) there.tables.free) t) (sym tables_are) there.tables.apart in
    let after = c.remove_place.new.pages in
    let now = c.remove_place.new.tables in
    let moves : IsChanged (view (g.P.Pages.pages mid) (g.P.Pages.count mid) (g.P.Pages.first mid) there.tables.free) (tables_in head) (g.P.Pages.pages after) (g.P.Pages.count after) (g.P.Pages.first after) now (after_remove c.args.key.now there.entries) =
    subst (λ (t : Tables). IsChanged (view (g.P.Pages.pages mid) (g.P.Pages.count mid) (g.P.Pages.first mid) there.tables.free) t (g.P.Pages.pages after) (g.P.Pages.count after) (g.P.Pages.first after) now (after_remove c.args.key.now there.entries)) tables_are
    (c.in_ok-remove_place.ensures.removed there.entries there.tables.free holds apart (sym is_found ∙ c.in-Some.is)) in
    let tree_is : c.tree_of-tree.result ≡ tree_in head = c.tree_of-tree.ensures in
    let block = block_with (g.P.Pages.count mid) (g.P.Pages.first mid) head in
    let whole : IsWhole node_of (stock.view (g.P.Pages.pages after) c.tree_of-tree.result.rows (g.P.Pages.count after) (g.P.Pages.first after) moves.free) c.tree_of-tree.result.root =
    subst (λ (t : Tree). IsWhole node_of (stock.view (g.P.Pages.pages after) t.rows (g.P.Pages.count after) (g.P.Pages.first after) moves.free) t.root) (sym tree_is)
    (tree-whole block (g.P.Pages.pages mid) state there (g.P.Pages.pages after) (g.P.Pages.count after) (g.P.Pages.first after) now (after_remove c.args.key.now there.entries) moves) in
    let has : HasEntry (nodes_in node_of (g.P.Pages.pages after) c.tree_of-tree.result.rows) c.tree_of-tree.result.root c.args.key.now c.in-Some.old =
    subst (λ (t : Tree). HasEntry (nodes_in node_of (g.P.Pages.pages after) t.rows) t.root c.args.key.now c.in-Some.old) (sym tree_is)
    (subst (λ (found : Option Stored). IfSome found (HasEntry (nodes_in node_of (g.P.Pages.pages after) head.rows) head.tree c.args.key.now)) c.in-Some.is
    (tree-has block (g.P.Pages.pages mid) state there (g.P.Pages.pages after) (g.P.Pages.count after) (g.P.Pages.first after) now (after_remove c.args.key.now there.entries) moves c.args.key.now c.in_ok-old.field-0 is_found)) in
    let some : is_some c.in_ok-old.field-0 ≡ true = ap is_some c.in-Some.is in
    let less : head.number ≡ 2 ^ 40 → ⊥ = λ e. omega arith in
    let next : now.next_word ≡ head.next_word = c.remove_place.ensures.next ∙ ap (λ (t : Tables). t.next_word) tables_are in
    let last = c.take_entry.new.pages in
    let tree = c.take_entry.new.tree in
    let regrown : IsRegrown node_of (stock.view (g.P.Pages.pages after) head.rows (g.P.Pages.count after) (g.P.Pages.first after) moves.free) (g.P.Pages.pages last) tree.rows (g.P.Pages.count last) (g.P.Pages.first last) head.tree tree.root (Some (entry_at c.args.key.now c.in-Some.old)) None =
    subst (λ (t : Tree). IsRegrown node_of (stock.view (g.P.Pages.pages after) t.rows (g.P.Pages.count after) (g.P.Pages.first after) moves.free) (g.P.Pages.pages last) tree.rows (g.P.Pages.count last) (g.P.Pages.first last) t.root tree.root (Some (entry_at c.args.key.now c.in-Some.old)) None) tree_is
    (c.in_ok-take_entry.ensures.taken moves.free whole has) in
    let done = remove-done head (g.P.Pages.count mid) (g.P.Pages.first mid) (g.P.Pages.pages mid) state there c.args.key.now c.in_ok-old.field-0 is_found some less in (
      ap (λ (e : Effect). e.answer) done,
      subst (λ (h : Head). StandAhead numbers left (block_with (g.P.Pages.count last) (g.P.Pages.first last) h) (g.P.Pages.pages last) (removed_at state c.args.key.now).state) (sym c.head_after.ensures)
          (remove-stands numbers left head (g.P.Pages.count mid) (g.P.Pages.first mid) (g.P.Pages.pages mid) state c.args.key.now c.in_ok-old.field-0 c.requires.numbers.1.number (g.P.Pages.pages after) (g.P.Pages.count after) (g.P.Pages.first after) (g.met.P.Pages.first_is_counted after) (omega (arith, c.remove_place.ensures.frame.count)) now
          (g.P.Pages.pages last) (g.P.Pages.count last) (g.P.Pages.first last) (g.met.P.Pages.first_is_counted last) c.take_entry.ensures.frame.count tree
          c.in-Some.old (head.live - 1) ahead is_found c.in-Some.is less (omega arith) next moves regrown),
    )

pub head_after-requires : goal.head_after-requires
head_after-requires g c = c.requires.numbers.1.number

pub returns-in_default-clause-numbers : goal.returns-in_default-clause-numbers
returns-in_default-clause-numbers g c = λ left are. numbers-absent _ c.args.key.now left c.args.head.now are

pub returns-clause-numbers : goal.returns-clause-numbers
returns-clause-numbers g c = λ left are.
    let head = c.args.head.now in
    let numbers : Option (List (List ℕ × ℕ)) = option_map (λ numbers. numbers.entries) c.args.held.now in
    let now = c.remove_place.new.tables in
    subst (λ (h : Head). AreNumbersAhead numbers left h) (sym c.head_after.ensures)
    (numbers-removed numbers c.args.key.now left head (head_with head now c.take_entry.new.tree (head.live - 1) head.serial) are (λ e. omega arith) refl refl (c.remove_place.ensures.next ∙ ap (λ (t : Tables). t.next_word) c.tables_of-tables.ensures))

pub returns-in_err-old-clause-no_head : goal.returns-in_err-old-clause-no_head
returns-in_err-old-clause-no_head g c = λ told damage is.
    let passed = err_from_is_err_and c.from_residual.result c.from_residual.ensures.1 in
    let result_is = passed.1 in
    let fault_is = passed.2 in
    let was : fault_of_pages c.in_err-old.field-0.0 ≡ Damaged damage = cc in
    place-spares_head _ _ _ _ _ _ damage (c.place.ensures.damaged (told c.args.pages.now) damage (c.in_err-old.was ∙ ap Err (damaged-from _ damage was)))

pub returns-in_err-remove_place-clause-no_head : goal.returns-in_err-remove_place-clause-no_head
returns-in_err-remove_place-clause-no_head g c = λ told damage is.
    let passed = err_from_is_err_and c.from_residual-in_err-remove_place.result c.from_residual-in_err-remove_place.ensures.1 in
    let result_is = passed.1 in
    let fault_is = passed.2 in
    let was : fault_of_pages c.in_err-remove_place.field-0.0 ≡ Damaged damage = cc in
    c.remove_place.ensures.no_head told damage (c.in_err-remove_place.was ∙ ap Err (damaged-from _ damage was))

pub returns-in_err-take_entry-clause-no_head : goal.returns-in_err-take_entry-clause-no_head
returns-in_err-take_entry-clause-no_head g c = λ told damage is.
    let passed = err_from_is_err_and c.from_residual-in_err-take_entry.result c.from_residual-in_err-take_entry.ensures.1 in
    let result_is = passed.1 in
    let fault_is = passed.2 in
    let was : fault_of_pages c.in_err-take_entry.field-0.0 ≡ Damaged damage = cc in
    let last = c.take_entry.new.pages in
    ⊎_elim (λ harm. tree-spares_head _ _ _ _ _ _ damage (told last) (g.met.P.Pages.first_is_counted last) harm) (λ missing. missing-spares_head _ _ _ _ _ _ _ damage missing)
    (c.take_entry.ensures.damaged (told c.remove_place.new.pages) damage (c.in_err-take_entry.was ∙ ap Err (damaged-from _ damage was)))

pub returns-in_err-old-clause-stays : goal.returns-in_err-old-clause-stays
returns-in_err-old-clause-stays g c = λ other.
    let passed = err_from_is_err_and c.from_residual.result c.from_residual.ensures.1 in
    c.in_err-old.ensures.fails.hides_none (other-fault c.in_err-old.field-0.0 passed.0 c.from_residual.result passed.2 passed.1 other)

pub returns-in_err-remove_place-clause-stays : goal.returns-in_err-remove_place-clause-stays
returns-in_err-remove_place-clause-stays g c = λ other.
    let passed = err_from_is_err_and c.from_residual-in_err-remove_place.result c.from_residual-in_err-remove_place.ensures.1 in
    c.in_err-remove_place.ensures.fails.hides_none (other-fault c.in_err-remove_place.field-0.0 passed.0 c.from_residual-in_err-remove_place.result passed.2 passed.1 other) ∙ c.in_ok-old.ensures.fails.hides_none

pub returns-in_err-take_entry-clause-stays : goal.returns-in_err-take_entry-clause-stays
returns-in_err-take_entry-clause-stays g c = λ other.
    let passed = err_from_is_err_and c.from_residual-in_err-take_entry.result c.from_residual-in_err-take_entry.ensures.1 in
    c.in_err-take_entry.ensures.fails.hides_none (other-fault c.in_err-take_entry.field-0.0 passed.0 c.from_residual-in_err-take_entry.result passed.2 passed.1 other) ∙ c.in_ok-remove_place.ensures.fails.hides_none ∙ c.in_ok-old.ensures.fails.hides_none

pub returns-clause-stays : goal.returns-clause-stays
returns-clause-stays g c = λ other. c.in_ok-take_entry.ensures.fails.hides_none ∙ c.in_ok-remove_place.ensures.fails.hides_none ∙ c.in_ok-old.ensures.fails.hides_none

pub returns-clause-absent : goal.returns-clause-absent
returns-clause-absent g c = λ is. absurd (cc)
