use Rattle.std.proofs.Common.{◌≡◌, ℕ, List, Some, None, refl, ◌∙◌, sym, ap, subst}
use Rattle.page_face.specs.FreeList.{PageMap}
use Rattle.page_face.specs.Number.{number}
use Rattle.btree_nodes.specs.Rows.{Row, lookup}
use Rattle.btree_nodes.specs.Tree.{IsMap, map_rows, map_uses}
use Rattle.paged_map.specs.Answers.{HoldsRow}
use Rattle.paged_map.specs.Lookups.{IsLookedUp}
use Rattle.paged_map.specs.Spots.{leaf_of}
use Rattle.paged_map.proofs.Lookups.{kept-none, kept-some}
use Rattle.rtree_nodes.specs.Stock.{rows_form}
use Rattle.node_rows.specs.Lookups.{IsRowFound}
use Rattle.node_rows.specs.Rows.{HasBytes, bytes_in, key_of}
use Rattle.node_rows.proofs.Found.{located-none, located-some, row-none, row-some}
use Rattle.node_rows.proofs.rows.find_row.Goals as goal

pub returns-in-Some-clause-row : goal.returns-in-Some-clause-row
returns-in-Some-clause-row g c = λ map.
    let old : PageMap = g.P.Pages.pages c.args.pages.now in
    let same = c.at.ensures in
    let there = c.in_ok-spot.ensures.found (subst (IsMap rows_form old) (sym same) map) in
    subst (λ (r : ℕ). HasBytes c.find.new.value (bytes_in old r c.args.node c.args.number)) same
    (row-some old c.at.result.root c.args.node c.args.number (number c.bytes-key.result) c.ranges.number.fits c.bytes-key.ensures c.find.new.value (leaf_of c.in_ok-spot.field-0) there c.in-Some.spot.page (ap leaf_of c.in-Some.is))

pub returns-in-None-clause-row : goal.returns-in-None-clause-row
returns-in-None-clause-row g c = λ map slot.
    let old : PageMap = g.P.Pages.pages c.args.pages.now in
    let same = c.at.ensures in
    let there = c.in_ok-spot.ensures.found (subst (IsMap rows_form old) (sym same) map) in
    c.clear_row.ensures.none slot
    ∙ sym (subst (λ (r : ℕ). bytes_in old r c.args.node c.args.number slot ≡ 0) same
    (row-none old c.at.result.root c.args.node c.args.number (number c.bytes-key.result) c.ranges.number.fits c.bytes-key.ensures c.find.new.value (leaf_of c.in_ok-spot.field-0) there (ap leaf_of c.in-None.is) slot))

pub returns-in-Some-clause-kept : goal.returns-in-Some-clause-kept
returns-in-Some-clause-kept g c = λ told.
    let old : PageMap = g.P.Pages.pages c.args.pages.now in
    let count : ℕ = g.P.Pages.count c.args.pages.now in
    subst (λ (r : ℕ). IsRowFound old count r c.args.node c.args.number c.find.new.value) c.at.ensures (
      Some c.find.new.value,
      kept-some (IsLookedUp rows_form old count c.at.result.root) _ (key_of c.args.node c.args.number) c.find.new.value c.find.new.value _ c.in-Some.spot c.bytes-key.ensures c.in-Some.is refl (c.in_ok-spot.ensures.kept told),
      λ slot. refl,
    )

pub returns-in-None-clause-kept : goal.returns-in-None-clause-kept
returns-in-None-clause-kept g c = λ told.
    let old : PageMap = g.P.Pages.pages c.args.pages.now in
    let count : ℕ = g.P.Pages.count c.args.pages.now in
    subst (λ (r : ℕ). IsRowFound old count r c.args.node c.args.number c.clear_row.result) c.at.ensures (
      None,
      kept-none (IsLookedUp rows_form old count c.at.result.root) _ (key_of c.args.node c.args.number) c.find.new.value _ c.bytes-key.ensures c.in-None.is (c.in_ok-spot.ensures.kept told),
      c.clear_row.ensures.none,
    )

pub returns-in-Some-clause-there : goal.returns-in-Some-clause-there
returns-in-Some-clause-there g c = λ map.
    let old : PageMap = g.P.Pages.pages c.args.pages.now in
    let same = c.at.ensures in
    let there = c.in_ok-spot.ensures.found (subst (IsMap rows_form old) (sym same) map) in
    let rows : List Row = map_rows rows_form old c.at.result.root in
    ap (λ (r : ℕ). lookup (key_of c.args.node c.args.number) (map_rows rows_form old r)) (sym same)
    ∙ ap (λ (k : ℕ). lookup k rows) (sym c.bytes-key.ensures)
    ∙ located-some (lookup (number c.bytes-key.result) rows) c.find.new.value (HoldsRow rows_form old (map_uses rows_form old c.at.result.root) (number c.bytes-key.result, c.find.new.value)) (leaf_of c.in_ok-spot.field-0) c.in-Some.spot.page (ap leaf_of c.in-Some.is) there

pub returns-in-None-clause-there : goal.returns-in-None-clause-there
returns-in-None-clause-there g c = λ map.
    let old : PageMap = g.P.Pages.pages c.args.pages.now in
    let same = c.at.ensures in
    let there = c.in_ok-spot.ensures.found (subst (IsMap rows_form old) (sym same) map) in
    let rows : List Row = map_rows rows_form old c.at.result.root in
    ap (λ (r : ℕ). lookup (key_of c.args.node c.args.number) (map_rows rows_form old r)) (sym same)
    ∙ ap (λ (k : ℕ). lookup k rows) (sym c.bytes-key.ensures)
    ∙ located-none (lookup (number c.bytes-key.result) rows) c.find.new.value (HoldsRow rows_form old (map_uses rows_form old c.at.result.root) (number c.bytes-key.result, c.find.new.value)) (leaf_of c.in_ok-spot.field-0) (ap leaf_of c.in-None.is) there
