use Rattle.std.proofs.Common.{◌≡◌, ⊎_elim, ℕ, ◌+◌, ◌<◌, ◌≤◌, ◌^◌, Bool, true, false, not, cond, List, ◌∷◌, Option, Some, IfSome, option_map, Ok, Err, Result, IfErr, is_none, is_some, refl, sym, ap, subst, subst₂, ◌∙◌, true≢false, arith}
use Rattle.std.specs.Option.{option_copied}
use Rattle.std.proofs.lemmas.Result.{err_from_is_err_and}
use Rattle.page_face.proofs.Frames.{changes_then, reads_change}
use Rattle.page_face.specs.Calls.{Changes, Reads}
use Rattle.page_face.specs.declared.pages.Pages.{Ghosts}
use Rattle.page_face.specs.FreeList.{PageMap}
use Rattle.page_face.specs.declared.head.Head.{Head}
use Rattle.btree_nodes.specs.Damages.{AreReadable}
use Rattle.btree_nodes.specs.Supply.{view}
use Rattle.paged_map.specs.Maps.{AreCounted}
use Rattle.row_codec.specs.declared.stored.Stored.{Stored}
use Rattle.node_rows.specs.declared.roots.Tree.{Tree}
use Rattle.rtree_nodes.specs.Stock as stock
use Rattle.rtree_nodes.specs.Pages.{node_of}
use Rattle.irtree_shape.specs.Made.{nodes_in}
use Rattle.irtree_shape.specs.Whole.{IsWhole}
use Rattle.irtree_shape.specs.Entries.{HasEntry, entry_at}
use Rattle.irtree_shape.specs.Regrown.{IsRegrown}
use Rattle.place_values.specs.declared.place.Place.{Place}
use Rattle.place_values.specs.declared.update.Applied.{Applied}
use Rattle.place_values.specs.declared.update.Applied.TheVariants.{New, Replaced}
use Rattle.place_values.specs.Update.{Effect, put_at}
use Rattle.place_values.specs.declared.update.Update.TheVariants.{Put}
use Rattle.store_model.specs.Ahead.{StandAhead, after_put_by, claimed, next_by, pairs_by}
use Rattle.store_model.specs.Stands.{tables_in}
use Rattle.store_model.specs.Updates.{by_number, stored_with}
use Rattle.store_tables.specs.declared.tables.Tables.{Tables}
use Rattle.store_tables.specs.Entries.{place_of_key}
use Rattle.store_tables.specs.Holding.{Holds, IsApart, IsChanged, table_uses}
use Rattle.store_tables.specs.Words.{WordTablesAgree, holders}
use Rattle.store_tables.proofs.Heads.{place-spares_head}
use Rattle.store_tables.proofs.ToldLemmas.{told-changed}
use Rattle.irtree_engine.specs.declared.fault.EngineFault.{EngineFault}
use Rattle.irtree_engine.specs.declared.fault.EngineFault.TheVariants.{Damaged}
use Rattle.irtree_engine.specs.Changes.{AreNumbersAhead, block_with, head_with, tree_in}
use Rattle.irtree_engine.specs.Faults.{fault_of_pages}
use Rattle.irtree_engine.specs.Updates.{IsDueTo}
use Rattle.irtree_engine.proofs.Dues.{passed-due}
use Rattle.irtree_engine.proofs.Effects.{few-left, put-done, put-full, put-stands, put-worn, stand-same}
use Rattle.irtree_engine.proofs.Hiding.{other-fault}
use Rattle.irtree_engine.proofs.NoHead.{old-spares_head, tree-spares_head}
use Rattle.irtree_engine.proofs.Numbers.{next-most, numbers-put, some-mapped}
use Rattle.irtree_engine.proofs.Standing.{damaged-from, stand-counted}
use Rattle.irtree_engine.proofs.Trees.{tree-has, tree-whole}
use Rattle.irtree_engine.proofs.change.put.Goals as goal
use Rattle.irtree_engine.proofs.change.put.Goals.{else-is_new-via-then-is_new+else-head-ge-PLACES_MAX, else-is_new-via-else-is_new, then-is_new-2, else-is_new-2}

-- a test and its opposite
flipped : (test there : Bool) → there ≡ not test → test ≡ not there
flipped true there e = sym (ap not e)
flipped false there e = sym (ap not e)

-- src/change.rt:206:15
pub returns-in_err-old-clause-due : goal.returns-in_err-old-clause-due
returns-in_err-old-clause-due g c = λ state name left stand told.
    let outcome = (put_at state c.args.key.now c.args.serial (record { point = c.args.point; words = c.args.words.now; label = c.args.label })).answer in
    let tables = c.tables_of-tables.result in
    let pages : PageMap = g.P.Pages.pages c.args.pages.now in
    let passed = err_from_is_err_and c.from_residual.result c.from_residual.ensures.1 in
    let holds : Holds pages tables stand.stand.entries = subst (λ (t : Tables). Holds pages t stand.stand.entries) (sym c.tables_of-tables.ensures) stand.stand.tables.holds in
    let counted : AreCounted (table_uses pages tables) (g.P.Pages.count c.args.pages.now) = subst (λ (t : Tables). AreCounted (table_uses pages t) (g.P.Pages.count c.args.pages.now)) (sym c.tables_of-tables.ensures) (stand-counted stand.stand) in
    subst (λ (r : Result Applied EngineFault). IfErr r (IsDueTo outcome)) (sym passed.1)
    (passed-due outcome c.in_err-old.field-0.0 passed.0 passed.2 (λ damage is. c.place.ensures.no_false_damage stand.stand.entries holds told counted damage (c.in_err-old.was ∙ ap Err is)))

-- src/change.rt:209:9
pub returns-then-head-ge-PLACES_MAX-clause-due : goal.returns-then-head-ge-PLACES_MAX-clause-due
returns-then-head-ge-PLACES_MAX-clause-due g c = λ state name left stand told.
    let head = c.args.head.now in
    let numbers : Option (List (List ℕ × ℕ)) = option_map (λ numbers. numbers.entries) c.args.held.now in
    let tables = c.tables_of-tables.result in
    let tables_are : tables ≡ tables_in head = c.tables_of-tables.ensures in
    let old = c.args.pages.now in
    let mid = c.place.new.pages in
    let ahead = stand-same numbers (Put name c.args.point c.args.words.now c.args.label ∷ left) head (g.P.Pages.pages old) (g.P.Pages.pages mid) (g.P.Pages.count old) (g.P.Pages.count mid) (g.P.Pages.first old) (g.P.Pages.first mid) state c.place.ensures.frame.pages c.place.ensures.frame.count c.place.ensures.frame.first stand in
    let there = ahead.stand in
    let holds : Holds (g.P.Pages.pages mid) tables there.entries = subst (λ (t : Tables). Holds (g.P.Pages.pages mid) t there.entries) (sym tables_are) there.tables.holds in
    let new_is : c.is_none-is_new.result ≡ is_none c.in_ok-old.old = flipped c.is_none-is_new.result (is_some c.in_ok-old.old) c.is_none-is_new.ensures in
    let is_found : c.in_ok-old.old ≡ place_of_key c.args.key.now there.entries.places = c.in_ok-old.ensures.found there.entries (subst (λ (p : PageMap). Holds p tables there.entries) c.place.ensures.frame.pages holds) in
    put-full head (g.P.Pages.count mid) (g.P.Pages.first mid) (g.P.Pages.pages mid) state there c.args.key.now c.in_ok-old.old is_found c.args.serial (record { point = c.args.point; words = c.args.words.now; label = c.args.label })
    (sym new_is ∙ c.if-is_new.true) (omega arith)

-- src/change.rt:212:9
pub returns-then-head-eq-NUMBER_MAX-clause-due : goal.returns-then-head-eq-NUMBER_MAX-clause-due
returns-then-head-eq-NUMBER_MAX-clause-due g c = λ state name left stand told.
    let head = c.args.head.now in
    let numbers : Option (List (List ℕ × ℕ)) = option_map (λ numbers. numbers.entries) c.args.held.now in
    let tables = c.tables_of-tables.result in
    let tables_are : tables ≡ tables_in head = c.tables_of-tables.ensures in
    let old = c.args.pages.now in
    let mid = c.place.new.pages in
    let ahead = stand-same numbers (Put name c.args.point c.args.words.now c.args.label ∷ left) head (g.P.Pages.pages old) (g.P.Pages.pages mid) (g.P.Pages.count old) (g.P.Pages.count mid) (g.P.Pages.first old) (g.P.Pages.first mid) state c.place.ensures.frame.pages c.place.ensures.frame.count c.place.ensures.frame.first stand in
    let there = ahead.stand in
    let holds : Holds (g.P.Pages.pages mid) tables there.entries = subst (λ (t : Tables). Holds (g.P.Pages.pages mid) t there.entries) (sym tables_are) there.tables.holds in
    let new_is : c.is_none-is_new.result ≡ is_none c.in_ok-old.old = flipped c.is_none-is_new.result (is_some c.in_ok-old.old) c.is_none-is_new.ensures in
    let is_found : c.in_ok-old.old ≡ place_of_key c.args.key.now there.entries.places = c.in_ok-old.ensures.found there.entries (subst (λ (p : PageMap). Holds p tables there.entries) c.place.ensures.frame.pages holds) in
    let room : is_none c.in_ok-old.old ≡ true → head.live < 1000000 = λ new. elim c.else-is_new.branch [
      | else-is_new-via-then-is_new+else-head-ge-PLACES_MAX w ↦ omega arith
      | else-is_new-via-else-is_new w ↦ absurd (true≢false (sym new ∙ sym new_is ∙ w.if-is_new.false))
    ] in
    put-worn head (g.P.Pages.count mid) (g.P.Pages.first mid) (g.P.Pages.pages mid) state there c.args.key.now c.in_ok-old.old is_found c.args.serial (record { point = c.args.point; words = c.args.words.now; label = c.args.label }) room (omega arith)

-- src/change.rt:216:5
pub returns-in_err-new-clause-due : goal.returns-in_err-new-clause-due
returns-in_err-new-clause-due g c = λ state name left stand told.
    let head = c.args.head.now in
    let numbers : Option (List (List ℕ × ℕ)) = option_map (λ numbers. numbers.entries) c.args.held.now in
    let tables = c.tables_of-tables.result in
    let tables_are : tables ≡ tables_in head = c.tables_of-tables.ensures in
    let old = c.args.pages.now in
    let mid = c.place.new.pages in
    let ahead = stand-same numbers (Put name c.args.point c.args.words.now c.args.label ∷ left) head (g.P.Pages.pages old) (g.P.Pages.pages mid) (g.P.Pages.count old) (g.P.Pages.count mid) (g.P.Pages.first old) (g.P.Pages.first mid) state c.place.ensures.frame.pages c.place.ensures.frame.count c.place.ensures.frame.first stand in
    let there = ahead.stand in
    let holds : Holds (g.P.Pages.pages mid) tables there.entries = subst (λ (t : Tables). Holds (g.P.Pages.pages mid) t there.entries) (sym tables_are) there.tables.holds in
    let new_is : c.is_none-is_new.result ≡ is_none c.in_ok-old.old = flipped c.is_none-is_new.result (is_some c.in_ok-old.old) c.is_none-is_new.ensures in
    let is_found : c.in_ok-old.old ≡ place_of_key c.args.key.now there.entries.places = c.in_ok-old.ensures.found there.entries (subst (λ (p : PageMap). Holds p tables there.entries) c.place.ensures.frame.pages holds) in
    let outcome = (put_at state c.args.key.now c.args.serial (record { point = c.args.point; words = c.args.words.now; label = c.args.label })).answer in
    let room : is_none c.in_ok-old.old ≡ true → head.live < 1000000 = λ new. elim c.else-is_new.branch [
      | else-is_new-via-then-is_new+else-head-ge-PLACES_MAX w ↦ omega arith
      | else-is_new-via-else-is_new w ↦ absurd (true≢false (sym new ∙ sym new_is ∙ w.if-is_new.false))
    ] in
    let few = few-left head (g.P.Pages.count mid) (g.P.Pages.first mid) (g.P.Pages.pages mid) state there c.args.key.now c.in_ok-old.old is_found room (omega arith) in
    let passed = err_from_is_err_and c.from_residual-in_err-new.result c.from_residual-in_err-new.ensures.1 in
    let apart : IsApart (view (g.P.Pages.pages mid) (g.P.Pages.count mid) (g.P.Pages.first mid) there.tables.free) tables =
    subst (λ (t : Tables). IsApart (view (g.P.Pages.pages mid) (g.P.Pages.count mid) (g.P.Pages.first mid) there.tables.free) t) (sym tables_are) there.tables.apart in
    let agree : WordTablesAgree (λ n. claimed numbers (Put name c.args.point c.args.words.now c.args.label ∷ left) n (holders n there.entries.places)) there.entries.texts there.entries.numbers tables.next_word =
    subst (λ (t : Tables). WordTablesAgree (λ n. claimed numbers (Put name c.args.point c.args.words.now c.args.label ∷ left) n (holders n there.entries.places)) there.entries.texts there.entries.numbers t.next_word) (sym tables_are) there.tables.sound.words in
    let told_there : AreReadable (g.P.Pages.pages mid) (g.P.Pages.count mid) =
    subst (λ (p : PageMap). AreReadable p (g.P.Pages.count mid)) (sym c.place.ensures.frame.pages) (subst (λ n. AreReadable (g.P.Pages.pages old) n) (sym c.place.ensures.frame.count) told) in
    subst (λ (r : Result Applied EngineFault). IfErr r (IsDueTo outcome)) (sym passed.1)
    (passed-due outcome c.in_err-new.field-0.0 passed.0 passed.2
    (λ damage is. c.put_in_batch.ensures.no_false_damage there.entries there.tables.free holds apart (c.as_ref.ensures.value ∙ is_found) few name left agree ahead.named told_there damage (c.in_err-new.was ∙ ap Err is)))

-- src/change.rt:219:5
pub returns-in_err-put_entry-clause-due : goal.returns-in_err-put_entry-clause-due
returns-in_err-put_entry-clause-due g c = λ state name left stand told.
    let head = c.args.head.now in
    let numbers : Option (List (List ℕ × ℕ)) = option_map (λ numbers. numbers.entries) c.args.held.now in
    let tables = c.tables_of-tables.result in
    let tables_are : tables ≡ tables_in head = c.tables_of-tables.ensures in
    let old = c.args.pages.now in
    let mid = c.place.new.pages in
    let ahead = stand-same numbers (Put name c.args.point c.args.words.now c.args.label ∷ left) head (g.P.Pages.pages old) (g.P.Pages.pages mid) (g.P.Pages.count old) (g.P.Pages.count mid) (g.P.Pages.first old) (g.P.Pages.first mid) state c.place.ensures.frame.pages c.place.ensures.frame.count c.place.ensures.frame.first stand in
    let there = ahead.stand in
    let holds : Holds (g.P.Pages.pages mid) tables there.entries = subst (λ (t : Tables). Holds (g.P.Pages.pages mid) t there.entries) (sym tables_are) there.tables.holds in
    let is_found : c.in_ok-old.old ≡ place_of_key c.args.key.now there.entries.places = c.in_ok-old.ensures.found there.entries (subst (λ (p : PageMap). Holds p tables there.entries) c.place.ensures.frame.pages holds) in
    let outcome = (put_at state c.args.key.now c.args.serial (record { point = c.args.point; words = c.args.words.now; label = c.args.label })).answer in
    let apart : IsApart (view (g.P.Pages.pages mid) (g.P.Pages.count mid) (g.P.Pages.first mid) there.tables.free) tables =
    subst (λ (t : Tables). IsApart (view (g.P.Pages.pages mid) (g.P.Pages.count mid) (g.P.Pages.first mid) there.tables.free) t) (sym tables_are) there.tables.apart in
    let after = c.put_in_batch.new.pages in
    let now = c.put_in_batch.new.tables in
    let changed = c.in_ok-new.ensures.put there.entries there.tables.free holds apart (c.as_ref.ensures.value ∙ is_found) in
    let moves : IsChanged (view (g.P.Pages.pages mid) (g.P.Pages.count mid) (g.P.Pages.first mid) there.tables.free) (tables_in head) (g.P.Pages.pages after) (g.P.Pages.count after) (g.P.Pages.first after) now (after_put_by numbers c.args.key.now c.args.point c.args.words.now c.args.label head.next_word there.entries) =
    subst (λ (t : Tables). IsChanged (view (g.P.Pages.pages mid) (g.P.Pages.count mid) (g.P.Pages.first mid) there.tables.free) t (g.P.Pages.pages after) (g.P.Pages.count after) (g.P.Pages.first after) now (after_put_by numbers c.args.key.now c.args.point c.args.words.now c.args.label t.next_word there.entries)) tables_are changed.2 in
    let tree_is : c.tree_of-tree.result ≡ tree_in head = c.tree_of-tree.ensures in
    let block = block_with (g.P.Pages.count mid) (g.P.Pages.first mid) head in
    let whole : IsWhole node_of (stock.view (g.P.Pages.pages after) c.tree_of-tree.result.rows (g.P.Pages.count after) (g.P.Pages.first after) moves.free) c.tree_of-tree.result.root =
    subst (λ (t : Tree). IsWhole node_of (stock.view (g.P.Pages.pages after) t.rows (g.P.Pages.count after) (g.P.Pages.first after) moves.free) t.root) (sym tree_is)
    (tree-whole block (g.P.Pages.pages mid) state there (g.P.Pages.pages after) (g.P.Pages.count after) (g.P.Pages.first after) now (after_put_by numbers c.args.key.now c.args.point c.args.words.now c.args.label head.next_word there.entries) moves) in
    let has : IfSome (option_copied c.as_ref-2.result) (HasEntry (nodes_in node_of (g.P.Pages.pages after) c.tree_of-tree.result.rows) c.tree_of-tree.result.root c.args.key.now) =
    subst₂ (λ (found : Option Stored) (t : Tree). IfSome found (HasEntry (nodes_in node_of (g.P.Pages.pages after) t.rows) t.root c.args.key.now)) (sym c.as_ref-2.ensures.value) (sym tree_is)
    (tree-has block (g.P.Pages.pages mid) state there (g.P.Pages.pages after) (g.P.Pages.count after) (g.P.Pages.first after) now (after_put_by numbers c.args.key.now c.args.point c.args.words.now c.args.label head.next_word there.entries) moves c.args.key.now c.in_ok-old.old is_found) in
    let told_there : AreReadable (g.P.Pages.pages mid) (g.P.Pages.count mid) =
    subst (λ (p : PageMap). AreReadable p (g.P.Pages.count mid)) (sym c.place.ensures.frame.pages) (subst (λ n. AreReadable (g.P.Pages.pages old) n) (sym c.place.ensures.frame.count) told) in
    let told_after = told-changed (view (g.P.Pages.pages mid) (g.P.Pages.count mid) (g.P.Pages.first mid) there.tables.free) (tables_in head) (g.P.Pages.pages after) (g.P.Pages.count after) (g.P.Pages.first after) now (after_put_by numbers c.args.key.now c.args.point c.args.words.now c.args.label head.next_word there.entries) moves told_there in
    let passed = err_from_is_err_and c.from_residual-in_err-put_entry.result c.from_residual-in_err-put_entry.ensures.1 in
    subst (λ (r : Result Applied EngineFault). IfErr r (IsDueTo outcome)) (sym passed.1)
    (passed-due outcome c.in_err-put_entry.field-0.0 passed.0 passed.2
    (λ damage is. c.put_entry.ensures.no_false_damage moves.free whole has told_after damage (c.in_err-put_entry.was ∙ ap Err is)))

-- src/change.rt:175:1
pub returns-then-is_new-3-clause-updated : goal.returns-then-is_new-3-clause-updated
returns-then-is_new-3-clause-updated g c = λ state name left stand later serials above.
    let head = c.args.head.now in
    let numbers : Option (List (List ℕ × ℕ)) = option_map (λ numbers. numbers.entries) c.args.held.now in
    let tables = c.tables_of-tables.result in
    let tables_are : tables ≡ tables_in head = c.tables_of-tables.ensures in
    let old = c.args.pages.now in
    let mid = c.place.new.pages in
    let ahead = stand-same numbers (Put name c.args.point c.args.words.now c.args.label ∷ left) head (g.P.Pages.pages old) (g.P.Pages.pages mid) (g.P.Pages.count old) (g.P.Pages.count mid) (g.P.Pages.first old) (g.P.Pages.first mid) state c.place.ensures.frame.pages c.place.ensures.frame.count c.place.ensures.frame.first stand in
    let there = ahead.stand in
    let holds : Holds (g.P.Pages.pages mid) tables there.entries = subst (λ (t : Tables). Holds (g.P.Pages.pages mid) t there.entries) (sym tables_are) there.tables.holds in
    let new_is : c.is_none-is_new.result ≡ is_none c.in_ok-old.old = flipped c.is_none-is_new.result (is_some c.in_ok-old.old) c.is_none-is_new.ensures in
    let is_found : c.in_ok-old.old ≡ place_of_key c.args.key.now there.entries.places = c.in_ok-old.ensures.found there.entries (subst (λ (p : PageMap). Holds p tables there.entries) c.place.ensures.frame.pages holds) in
    let place : Place = record { point = c.args.point; words = c.args.words.now; label = c.args.label } in
    let room : is_none c.in_ok-old.old ≡ true → head.live < 1000000 = λ new. elim c.else-is_new.branch [
      | else-is_new-via-then-is_new+else-head-ge-PLACES_MAX w ↦ omega arith
      | else-is_new-via-else-is_new w ↦ absurd (true≢false (sym new ∙ sym new_is ∙ w.if-is_new.false))
    ] in
    let less : head.number ≡ 2 ^ 40 → ⊥ = λ e. omega arith in
    let apart : IsApart (view (g.P.Pages.pages mid) (g.P.Pages.count mid) (g.P.Pages.first mid) there.tables.free) tables =
    subst (λ (t : Tables). IsApart (view (g.P.Pages.pages mid) (g.P.Pages.count mid) (g.P.Pages.first mid) there.tables.free) t) (sym tables_are) there.tables.apart in
    let after = c.put_in_batch.new.pages in
    let now = c.put_in_batch.new.tables in
    let changed = c.in_ok-new.ensures.put there.entries there.tables.free holds apart (c.as_ref.ensures.value ∙ is_found) in
    let next : now.next_word ≡ next_by numbers c.args.key.now c.args.words.now head.next_word there.entries =
    subst (λ (t : Tables). now.next_word ≡ next_by numbers c.args.key.now c.args.words.now t.next_word there.entries) tables_are changed.1 in
    let moves : IsChanged (view (g.P.Pages.pages mid) (g.P.Pages.count mid) (g.P.Pages.first mid) there.tables.free) (tables_in head) (g.P.Pages.pages after) (g.P.Pages.count after) (g.P.Pages.first after) now (after_put_by numbers c.args.key.now c.args.point c.args.words.now c.args.label head.next_word there.entries) =
    subst (λ (t : Tables). IsChanged (view (g.P.Pages.pages mid) (g.P.Pages.count mid) (g.P.Pages.first mid) there.tables.free) t (g.P.Pages.pages after) (g.P.Pages.count after) (g.P.Pages.first after) now (after_put_by numbers c.args.key.now c.args.point c.args.words.now c.args.label t.next_word there.entries)) tables_are changed.2 in
    let last = c.put_entry.new.pages in
    let tree = c.put_entry.new.tree in
    let tree_is : c.tree_of-tree.result ≡ tree_in head = c.tree_of-tree.ensures in
    let block = block_with (g.P.Pages.count mid) (g.P.Pages.first mid) head in
    let whole : IsWhole node_of (stock.view (g.P.Pages.pages after) c.tree_of-tree.result.rows (g.P.Pages.count after) (g.P.Pages.first after) moves.free) c.tree_of-tree.result.root =
    subst (λ (t : Tree). IsWhole node_of (stock.view (g.P.Pages.pages after) t.rows (g.P.Pages.count after) (g.P.Pages.first after) moves.free) t.root) (sym tree_is)
    (tree-whole block (g.P.Pages.pages mid) state there (g.P.Pages.pages after) (g.P.Pages.count after) (g.P.Pages.first after) now (after_put_by numbers c.args.key.now c.args.point c.args.words.now c.args.label head.next_word there.entries) moves) in
    let has : IfSome (option_copied c.as_ref-2.result) (HasEntry (nodes_in node_of (g.P.Pages.pages after) c.tree_of-tree.result.rows) c.tree_of-tree.result.root c.args.key.now) =
    subst₂ (λ (found : Option Stored) (t : Tree). IfSome found (HasEntry (nodes_in node_of (g.P.Pages.pages after) t.rows) t.root c.args.key.now)) (sym c.as_ref-2.ensures.value) (sym tree_is)
    (tree-has block (g.P.Pages.pages mid) state there (g.P.Pages.pages after) (g.P.Pages.count after) (g.P.Pages.first after) now (after_put_by numbers c.args.key.now c.args.point c.args.words.now c.args.label head.next_word there.entries) moves c.args.key.now c.in_ok-old.old is_found) in
    let made : c.in_ok-new.new ≡ stored_with c.args.point (by_number (pairs_by numbers c.args.key.now c.args.words.now head.next_word there.entries)) c.args.label =
    subst (λ (t : Tables). c.in_ok-new.new ≡ stored_with c.args.point (by_number (pairs_by numbers c.args.key.now c.args.words.now t.next_word there.entries)) c.args.label) tables_are changed.0 in
    let grown : IsRegrown node_of (stock.view (g.P.Pages.pages after) head.rows (g.P.Pages.count after) (g.P.Pages.first after) moves.free) (g.P.Pages.pages last) tree.rows (g.P.Pages.count last) (g.P.Pages.first last) head.tree tree.root (option_map (entry_at c.args.key.now) c.in_ok-old.old) (Some (entry_at c.args.key.now c.in_ok-new.new)) =
    subst₂ (λ (found : Option Stored) (t : Tree). IsRegrown node_of (stock.view (g.P.Pages.pages after) t.rows (g.P.Pages.count after) (g.P.Pages.first after) moves.free) (g.P.Pages.pages last) tree.rows (g.P.Pages.count last) (g.P.Pages.first last) t.root tree.root (option_map (entry_at c.args.key.now) found) (Some (entry_at c.args.key.now c.in_ok-new.new))) c.as_ref-2.ensures.value tree_is
    (c.in_ok-put_entry.ensures.put moves.free whole has) in
    let regrown : IsRegrown node_of (stock.view (g.P.Pages.pages after) head.rows (g.P.Pages.count after) (g.P.Pages.first after) moves.free) (g.P.Pages.pages last) tree.rows (g.P.Pages.count last) (g.P.Pages.first last) head.tree tree.root (option_map (entry_at c.args.key.now) c.in_ok-old.old)
    (Some (entry_at c.args.key.now (stored_with c.args.point (by_number (pairs_by numbers c.args.key.now c.args.words.now head.next_word there.entries)) c.args.label))) =
    subst (λ (s : Stored). IsRegrown node_of (stock.view (g.P.Pages.pages after) head.rows (g.P.Pages.count after) (g.P.Pages.first after) moves.free) (g.P.Pages.pages last) tree.rows (g.P.Pages.count last) (g.P.Pages.first last) head.tree tree.root (option_map (entry_at c.args.key.now) c.in_ok-old.old) (Some (entry_at c.args.key.now s))) made
    grown in
    let grows : g.P.Pages.count mid ≤ g.P.Pages.count after = c.put_in_batch.ensures.frame.count in
    let live : c.if-is_new-2.live ≡ cond (is_none c.in_ok-old.old) (head.live + 1) head.live = elim c.if-is_new-2.branch [
      | then-is_new-2 w ↦ w.live-is ∙ ap (λ b. cond b (head.live + 1) head.live) (sym (sym new_is ∙ w.if-is_new-2.true))
      | else-is_new-2 w ↦ w.live-is ∙ ap (λ b. cond b (head.live + 1) head.live) (sym (sym new_is ∙ w.if-is_new-2.false))
    ] in
    let done = put-done head (g.P.Pages.count mid) (g.P.Pages.first mid) (g.P.Pages.pages mid) state there c.args.key.now c.in_ok-old.old is_found c.args.serial place room less in (
      ap (λ (e : Effect). e.answer) done ∙ ap (λ b. Ok (cond b New Replaced)) (sym new_is ∙ c.if-is_new-3.true),
      subst (λ (h : Head). StandAhead numbers left (block_with (g.P.Pages.count last) (g.P.Pages.first last) h) (g.P.Pages.pages last) (put_at state c.args.key.now c.args.serial place).state) (sym c.head_after.ensures)
          (put-stands numbers left head (g.P.Pages.count mid) (g.P.Pages.first mid) (g.P.Pages.pages mid) state c.args.key.now c.in_ok-old.old c.requires.numbers.2.number (g.P.Pages.pages after) (g.P.Pages.count after) (g.P.Pages.first after) (g.met.P.Pages.first_is_counted after) grows now
          (g.P.Pages.pages last) (g.P.Pages.count last) (g.P.Pages.first last) (g.met.P.Pages.first_is_counted last) c.put_entry.ensures.frame.count tree
          name c.args.point c.args.words.now c.args.label c.args.serial c.if-is_new-2.live ahead is_found c.pairs.ensures.valid room (omega arith) less later serials above live next moves regrown),
    )

-- src/change.rt:175:1
pub returns-else-is_new-3-clause-updated : goal.returns-else-is_new-3-clause-updated
returns-else-is_new-3-clause-updated g c = λ state name left stand later serials above.
    let head = c.args.head.now in
    let numbers : Option (List (List ℕ × ℕ)) = option_map (λ numbers. numbers.entries) c.args.held.now in
    let tables = c.tables_of-tables.result in
    let tables_are : tables ≡ tables_in head = c.tables_of-tables.ensures in
    let old = c.args.pages.now in
    let mid = c.place.new.pages in
    let ahead = stand-same numbers (Put name c.args.point c.args.words.now c.args.label ∷ left) head (g.P.Pages.pages old) (g.P.Pages.pages mid) (g.P.Pages.count old) (g.P.Pages.count mid) (g.P.Pages.first old) (g.P.Pages.first mid) state c.place.ensures.frame.pages c.place.ensures.frame.count c.place.ensures.frame.first stand in
    let there = ahead.stand in
    let holds : Holds (g.P.Pages.pages mid) tables there.entries = subst (λ (t : Tables). Holds (g.P.Pages.pages mid) t there.entries) (sym tables_are) there.tables.holds in
    let new_is : c.is_none-is_new.result ≡ is_none c.in_ok-old.old = flipped c.is_none-is_new.result (is_some c.in_ok-old.old) c.is_none-is_new.ensures in
    let is_found : c.in_ok-old.old ≡ place_of_key c.args.key.now there.entries.places = c.in_ok-old.ensures.found there.entries (subst (λ (p : PageMap). Holds p tables there.entries) c.place.ensures.frame.pages holds) in
    let place : Place = record { point = c.args.point; words = c.args.words.now; label = c.args.label } in
    let room : is_none c.in_ok-old.old ≡ true → head.live < 1000000 = λ new. elim c.else-is_new.branch [
      | else-is_new-via-then-is_new+else-head-ge-PLACES_MAX w ↦ omega arith
      | else-is_new-via-else-is_new w ↦ absurd (true≢false (sym new ∙ sym new_is ∙ w.if-is_new.false))
    ] in
    let less : head.number ≡ 2 ^ 40 → ⊥ = λ e. omega arith in
    let apart : IsApart (view (g.P.Pages.pages mid) (g.P.Pages.count mid) (g.P.Pages.first mid) there.tables.free) tables =
    subst (λ (t : Tables). IsApart (view (g.P.Pages.pages mid) (g.P.Pages.count mid) (g.P.Pages.first mid) there.tables.free) t) (sym tables_are) there.tables.apart in
    let after = c.put_in_batch.new.pages in
    let now = c.put_in_batch.new.tables in
    let changed = c.in_ok-new.ensures.put there.entries there.tables.free holds apart (c.as_ref.ensures.value ∙ is_found) in
    let next : now.next_word ≡ next_by numbers c.args.key.now c.args.words.now head.next_word there.entries =
    subst (λ (t : Tables). now.next_word ≡ next_by numbers c.args.key.now c.args.words.now t.next_word there.entries) tables_are changed.1 in
    let moves : IsChanged (view (g.P.Pages.pages mid) (g.P.Pages.count mid) (g.P.Pages.first mid) there.tables.free) (tables_in head) (g.P.Pages.pages after) (g.P.Pages.count after) (g.P.Pages.first after) now (after_put_by numbers c.args.key.now c.args.point c.args.words.now c.args.label head.next_word there.entries) =
    subst (λ (t : Tables). IsChanged (view (g.P.Pages.pages mid) (g.P.Pages.count mid) (g.P.Pages.first mid) there.tables.free) t (g.P.Pages.pages after) (g.P.Pages.count after) (g.P.Pages.first after) now (after_put_by numbers c.args.key.now c.args.point c.args.words.now c.args.label t.next_word there.entries)) tables_are changed.2 in
    let last = c.put_entry.new.pages in
    let tree = c.put_entry.new.tree in
    let tree_is : c.tree_of-tree.result ≡ tree_in head = c.tree_of-tree.ensures in
    let block = block_with (g.P.Pages.count mid) (g.P.Pages.first mid) head in
    let whole : IsWhole node_of (stock.view (g.P.Pages.pages after) c.tree_of-tree.result.rows (g.P.Pages.count after) (g.P.Pages.first after) moves.free) c.tree_of-tree.result.root =
    subst (λ (t : Tree). IsWhole node_of (stock.view (g.P.Pages.pages after) t.rows (g.P.Pages.count after) (g.P.Pages.first after) moves.free) t.root) (sym tree_is)
    (tree-whole block (g.P.Pages.pages mid) state there (g.P.Pages.pages after) (g.P.Pages.count after) (g.P.Pages.first after) now (after_put_by numbers c.args.key.now c.args.point c.args.words.now c.args.label head.next_word there.entries) moves) in
    let has : IfSome (option_copied c.as_ref-2.result) (HasEntry (nodes_in node_of (g.P.Pages.pages after) c.tree_of-tree.result.rows) c.tree_of-tree.result.root c.args.key.now) =
    subst₂ (λ (found : Option Stored) (t : Tree). IfSome found (HasEntry (nodes_in node_of (g.P.Pages.pages after) t.rows) t.root c.args.key.now)) (sym c.as_ref-2.ensures.value) (sym tree_is)
    (tree-has block (g.P.Pages.pages mid) state there (g.P.Pages.pages after) (g.P.Pages.count after) (g.P.Pages.first after) now (after_put_by numbers c.args.key.now c.args.point c.args.words.now c.args.label head.next_word there.entries) moves c.args.key.now c.in_ok-old.old is_found) in
    let made : c.in_ok-new.new ≡ stored_with c.args.point (by_number (pairs_by numbers c.args.key.now c.args.words.now head.next_word there.entries)) c.args.label =
    subst (λ (t : Tables). c.in_ok-new.new ≡ stored_with c.args.point (by_number (pairs_by numbers c.args.key.now c.args.words.now t.next_word there.entries)) c.args.label) tables_are changed.0 in
    let grown : IsRegrown node_of (stock.view (g.P.Pages.pages after) head.rows (g.P.Pages.count after) (g.P.Pages.first after) moves.free) (g.P.Pages.pages last) tree.rows (g.P.Pages.count last) (g.P.Pages.first last) head.tree tree.root (option_map (entry_at c.args.key.now) c.in_ok-old.old) (Some (entry_at c.args.key.now c.in_ok-new.new)) =
    subst₂ (λ (found : Option Stored) (t : Tree). IsRegrown node_of (stock.view (g.P.Pages.pages after) t.rows (g.P.Pages.count after) (g.P.Pages.first after) moves.free) (g.P.Pages.pages last) tree.rows (g.P.Pages.count last) (g.P.Pages.first last) t.root tree.root (option_map (entry_at c.args.key.now) found) (Some (entry_at c.args.key.now c.in_ok-new.new))) c.as_ref-2.ensures.value tree_is
    (c.in_ok-put_entry.ensures.put moves.free whole has) in
    let regrown : IsRegrown node_of (stock.view (g.P.Pages.pages after) head.rows (g.P.Pages.count after) (g.P.Pages.first after) moves.free) (g.P.Pages.pages last) tree.rows (g.P.Pages.count last) (g.P.Pages.first last) head.tree tree.root (option_map (entry_at c.args.key.now) c.in_ok-old.old)
    (Some (entry_at c.args.key.now (stored_with c.args.point (by_number (pairs_by numbers c.args.key.now c.args.words.now head.next_word there.entries)) c.args.label))) =
    subst (λ (s : Stored). IsRegrown node_of (stock.view (g.P.Pages.pages after) head.rows (g.P.Pages.count after) (g.P.Pages.first after) moves.free) (g.P.Pages.pages last) tree.rows (g.P.Pages.count last) (g.P.Pages.first last) head.tree tree.root (option_map (entry_at c.args.key.now) c.in_ok-old.old) (Some (entry_at c.args.key.now s))) made
    grown in
    let grows : g.P.Pages.count mid ≤ g.P.Pages.count after = c.put_in_batch.ensures.frame.count in
    let live : c.if-is_new-2.live ≡ cond (is_none c.in_ok-old.old) (head.live + 1) head.live = elim c.if-is_new-2.branch [
      | then-is_new-2 w ↦ w.live-is ∙ ap (λ b. cond b (head.live + 1) head.live) (sym (sym new_is ∙ w.if-is_new-2.true))
      | else-is_new-2 w ↦ w.live-is ∙ ap (λ b. cond b (head.live + 1) head.live) (sym (sym new_is ∙ w.if-is_new-2.false))
    ] in
    let done = put-done head (g.P.Pages.count mid) (g.P.Pages.first mid) (g.P.Pages.pages mid) state there c.args.key.now c.in_ok-old.old is_found c.args.serial place room less in (
      ap (λ (e : Effect). e.answer) done ∙ ap (λ b. Ok (cond b New Replaced)) (sym new_is ∙ c.if-is_new-3.false),
      subst (λ (h : Head). StandAhead numbers left (block_with (g.P.Pages.count last) (g.P.Pages.first last) h) (g.P.Pages.pages last) (put_at state c.args.key.now c.args.serial place).state) (sym c.head_after.ensures)
          (put-stands numbers left head (g.P.Pages.count mid) (g.P.Pages.first mid) (g.P.Pages.pages mid) state c.args.key.now c.in_ok-old.old c.requires.numbers.2.number (g.P.Pages.pages after) (g.P.Pages.count after) (g.P.Pages.first after) (g.met.P.Pages.first_is_counted after) grows now
          (g.P.Pages.pages last) (g.P.Pages.count last) (g.P.Pages.first last) (g.met.P.Pages.first_is_counted last) c.put_entry.ensures.frame.count tree
          name c.args.point c.args.words.now c.args.label c.args.serial c.if-is_new-2.live ahead is_found c.pairs.ensures.valid room (omega arith) less later serials above live next moves regrown),
    )

-- the next word number has its range
pub put_in_batch-requires-clause-next : goal.put_in_batch-requires-clause-next
put_in_batch-requires-clause-next g c =
    let most = next-most _ _ c.args.head.now c.requires.numbers.2 in
    let next = ap (λ (t : Tables). t.next_word) c.tables_of-tables.ensures in omega (arith, most, next)

pub head_after-requires : goal.head_after-requires
head_after-requires g c = c.requires.numbers.2.number

pub returns-then-is_new-3-clause-numbers : goal.returns-then-is_new-3-clause-numbers
returns-then-is_new-3-clause-numbers g c = λ name left are.
    let head = c.args.head.now in
    let numbers : Option (List (List ℕ × ℕ)) = option_map (λ numbers. numbers.entries) c.args.held.now in
    let now = c.put_in_batch.new.tables in
    let next : c.tables_of-tables.result.next_word ≡ head.next_word = ap (λ (t : Tables). t.next_word) c.tables_of-tables.ensures in
    let rises = c.in_ok-new.ensures.rises in
    subst (λ (h : Head). AreNumbersAhead numbers left h) (sym c.head_after.ensures)
    (numbers-put numbers name c.args.point c.args.words.now c.args.label left head (head_with head now c.put_entry.new.tree c.if-is_new-2.live c.args.serial) are (λ e. omega arith) refl c.requires.serial (omega (arith, next, rises))
    (λ some. c.in_ok-new.ensures.none_new (some-mapped c.args.held.now _ some) ∙ next))

pub returns-else-is_new-3-clause-numbers : goal.returns-else-is_new-3-clause-numbers
returns-else-is_new-3-clause-numbers g c = λ name left are.
    let head = c.args.head.now in
    let numbers : Option (List (List ℕ × ℕ)) = option_map (λ numbers. numbers.entries) c.args.held.now in
    let now = c.put_in_batch.new.tables in
    let next : c.tables_of-tables.result.next_word ≡ head.next_word = ap (λ (t : Tables). t.next_word) c.tables_of-tables.ensures in
    let rises = c.in_ok-new.ensures.rises in
    subst (λ (h : Head). AreNumbersAhead numbers left h) (sym c.head_after.ensures)
    (numbers-put numbers name c.args.point c.args.words.now c.args.label left head (head_with head now c.put_entry.new.tree c.if-is_new-2.live c.args.serial) are (λ e. omega arith) refl c.requires.serial (omega (arith, next, rises))
    (λ some. c.in_ok-new.ensures.none_new (some-mapped c.args.held.now _ some) ∙ next))

pub returns-in_err-old-clause-no_head : goal.returns-in_err-old-clause-no_head
returns-in_err-old-clause-no_head g c = λ told damage is.
    let passed = err_from_is_err_and c.from_residual.result c.from_residual.ensures.1 in
    let result_is = passed.1 in
    let fault_is = passed.2 in
    let was : fault_of_pages c.in_err-old.field-0.0 ≡ Damaged damage = cc in
    place-spares_head _ _ _ _ _ _ damage (c.place.ensures.damaged (told c.args.pages.now) damage (c.in_err-old.was ∙ ap Err (damaged-from _ damage was)))

pub returns-in_err-new-clause-no_head : goal.returns-in_err-new-clause-no_head
returns-in_err-new-clause-no_head g c = λ told damage is.
    let passed = err_from_is_err_and c.from_residual-in_err-new.result c.from_residual-in_err-new.ensures.1 in
    let result_is = passed.1 in
    let fault_is = passed.2 in
    let was : fault_of_pages c.in_err-new.field-0.0 ≡ Damaged damage = cc in
    c.put_in_batch.ensures.no_head told damage (c.in_err-new.was ∙ ap Err (damaged-from _ damage was))

pub returns-in_err-put_entry-clause-no_head : goal.returns-in_err-put_entry-clause-no_head
returns-in_err-put_entry-clause-no_head g c = λ told damage is.
    let passed = err_from_is_err_and c.from_residual-in_err-put_entry.result c.from_residual-in_err-put_entry.ensures.1 in
    let result_is = passed.1 in
    let fault_is = passed.2 in
    let was : fault_of_pages c.in_err-put_entry.field-0.0 ≡ Damaged damage = cc in
    let last = c.put_entry.new.pages in
    ⊎_elim (λ harm. tree-spares_head _ _ _ _ _ _ damage (told last) (g.met.P.Pages.first_is_counted last) harm) (λ old. old-spares_head _ _ _ _ _ _ _ damage old)
    (c.put_entry.ensures.damaged (told c.put_in_batch.new.pages) damage (c.in_err-put_entry.was ∙ ap Err (damaged-from _ damage was)))

pub returns-in_err-old-clause-stays : goal.returns-in_err-old-clause-stays
returns-in_err-old-clause-stays g c = λ other.
    let passed = err_from_is_err_and c.from_residual.result c.from_residual.ensures.1 in
    c.in_err-old.ensures.fails.hides_none (other-fault c.in_err-old.field-0.0 passed.0 c.from_residual.result passed.2 passed.1 other)

pub returns-in_err-new-clause-stays : goal.returns-in_err-new-clause-stays
returns-in_err-new-clause-stays g c = λ other.
    let passed = err_from_is_err_and c.from_residual-in_err-new.result c.from_residual-in_err-new.ensures.1 in
    c.in_err-new.ensures.fails.hides_none (other-fault c.in_err-new.field-0.0 passed.0 c.from_residual-in_err-new.result passed.2 passed.1 other) ∙ c.in_ok-old.ensures.fails.hides_none

pub returns-in_err-put_entry-clause-stays : goal.returns-in_err-put_entry-clause-stays
returns-in_err-put_entry-clause-stays g c = λ other.
    let passed = err_from_is_err_and c.from_residual-in_err-put_entry.result c.from_residual-in_err-put_entry.ensures.1 in
    c.in_err-put_entry.ensures.fails.hides_none (other-fault c.in_err-put_entry.field-0.0 passed.0 c.from_residual-in_err-put_entry.result passed.2 passed.1 other) ∙ c.in_ok-new.ensures.fails.hides_none ∙ c.in_ok-old.ensures.fails.hides_none

pub returns-then-is_new-3-clause-stays : goal.returns-then-is_new-3-clause-stays
returns-then-is_new-3-clause-stays g c = λ other. c.in_ok-put_entry.ensures.fails.hides_none ∙ c.in_ok-new.ensures.fails.hides_none ∙ c.in_ok-old.ensures.fails.hides_none

pub returns-else-is_new-3-clause-stays : goal.returns-else-is_new-3-clause-stays
returns-else-is_new-3-clause-stays g c = λ other. c.in_ok-put_entry.ensures.fails.hides_none ∙ c.in_ok-new.ensures.fails.hides_none ∙ c.in_ok-old.ensures.fails.hides_none

pub returns-then-is_new-3-clause-stored : goal.returns-then-is_new-3-clause-stored
returns-then-is_new-3-clause-stored g c = λ is. absurd (cc)

pub returns-else-is_new-3-clause-stored : goal.returns-else-is_new-3-clause-stored
returns-else-is_new-3-clause-stored g c = λ is. absurd (cc)

-- what the calls keep, one after another
changes : {P : Type 0} (g : Ghosts P) (further : (a b c : P) → g.follows_from a b → g.follows_from b c → g.follows_from a c) (old mid between after : P) → Reads g old mid → Changes g mid between → Changes g between after → Changes g old after
changes g further old mid between after read put entry = changes_then g further old between after (changes_then g further old mid between (reads_change g old mid read) put) entry

pub returns-in_err-put_entry-clause-frame : goal.returns-in_err-put_entry-clause-frame
returns-in_err-put_entry-clause-frame g c = changes g.P.Pages g.met.P.Pages.goes_further _ _ _ _ c.place.ensures.frame c.put_in_batch.ensures.frame c.put_entry.ensures.frame

pub returns-then-is_new-3-clause-frame : goal.returns-then-is_new-3-clause-frame
returns-then-is_new-3-clause-frame g c = changes g.P.Pages g.met.P.Pages.goes_further _ _ _ _ c.place.ensures.frame c.put_in_batch.ensures.frame c.put_entry.ensures.frame

pub returns-else-is_new-3-clause-frame : goal.returns-else-is_new-3-clause-frame
returns-else-is_new-3-clause-frame g c = changes g.P.Pages g.met.P.Pages.goes_further _ _ _ _ c.place.ensures.frame c.put_in_batch.ensures.frame c.put_entry.ensures.frame
