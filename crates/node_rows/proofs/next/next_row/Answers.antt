use Rattle.std.proofs.Common.{ℕ, ◌^◌, ◌<◌, Some, None, refl, ap, ◌∙◌, sym, subst, rules}
use Rattle.page_face.specs.FreeList.{PageMap}
use Rattle.page_face.specs.Number.{number}
use Rattle.btree_nodes.specs.Damages.{AsksOnly}
use Rattle.btree_nodes.specs.Rows.{Row}
use Rattle.btree_nodes.specs.Tree.{IsMap, map_rows, map_uses}
use Rattle.paged_map.specs.Lookups.{IsFirstFound}
use Rattle.paged_map.proofs.Lookups.{kept-none, kept-some}
use Rattle.rtree_nodes.specs.Stock.{rows_form}
use Rattle.node_rows.specs.Lookups.{IsNextFound}
use Rattle.node_rows.specs.Rows.{AreFilled, bytes_in, key_of}
use Rattle.node_rows.specs.Turns.{IsNext, Next}
use Rattle.node_rows.proofs.Found.{found-filled, next-found, next-lost, next-on, next-passed}
use Rattle.node_rows.proofs.next.next_row.Goals as goal

pub returns-in_default-clause-own : goal.returns-in_default-clause-own
returns-in_default-clause-own g c = λ told.
    subst (λ (r : ℕ). AsksOnly (map_uses rows_form (g.P.Pages.pages c.args.pages.now) r) (g.P.Pages.asked c.args.pages.now) (g.P.Pages.asked c.first_from.new.pages)) c.at-map.ensures (c.first_from.ensures.own told)

pub returns-then-next-node-clause-own : goal.returns-then-next-node-clause-own
returns-then-next-node-clause-own g c = λ told.
    subst (λ (r : ℕ). AsksOnly (map_uses rows_form (g.P.Pages.pages c.args.pages.now) r) (g.P.Pages.asked c.args.pages.now) (g.P.Pages.asked c.first_from.new.pages)) c.at-map.ensures (c.first_from.ensures.own told)

pub returns-clause-own : goal.returns-clause-own
returns-clause-own g c = λ told.
    subst (λ (r : ℕ). AsksOnly (map_uses rows_form (g.P.Pages.pages c.args.pages.now) r) (g.P.Pages.asked c.args.pages.now) (g.P.Pages.asked c.first_from.new.pages)) c.at-map.ensures (c.first_from.ensures.own told)

pub returns-in_default-clause-next : goal.returns-in_default-clause-next
returns-in_default-clause-next g c = λ map.
    let old : PageMap = g.P.Pages.pages c.args.pages.now in
    let same = c.at-map.ensures in
    let map' : IsMap rows_form old c.at-map.result.root = subst (IsMap rows_form old) (sym same) map in
    let row : Row = (number c.first_from.new.found, c.first_from.new.value) in
    subst (λ (r : ℕ). Next (bytes_in old r) c.args.node c.args.from None) same
    (next-lost old c.at-map.result.root c.args.node c.args.from (number c.bytes-key.result) c.ranges.from.fits c.bytes-key.ensures row c.in_ok-_leaf.field-0 map' (c.in_ok-_leaf.ensures.found map') c.in_default.is)

pub returns-then-next-node-clause-next : goal.returns-then-next-node-clause-next
returns-then-next-node-clause-next g c = λ map.
    let old : PageMap = g.P.Pages.pages c.args.pages.now in
    let same = c.at-map.ensures in
    let map' : IsMap rows_form old c.at-map.result.root = subst (IsMap rows_form old) (sym same) map in
    let row : Row = (number c.first_from.new.found, c.first_from.new.value) in
    let fits : c.of_bytes-next.result.number < 2 ^ 64 = search rules in
    subst (λ (r : ℕ). Next (bytes_in old r) c.args.node c.args.from None) same
    (next-passed old c.at-map.result.root c.args.node c.args.from (number c.bytes-key.result) c.ranges.from.fits c.bytes-key.ensures row c.in_ok-_leaf.field-0 map' (c.in_ok-_leaf.ensures.found map')
    c.in-Some._leaf c.of_bytes-next.result.node c.of_bytes-next.result.number c.in-Some.is fits c.of_bytes-next.ensures c.if-next-node.true)

pub returns-clause-next : goal.returns-clause-next
returns-clause-next g c = λ map.
    let old : PageMap = g.P.Pages.pages c.args.pages.now in
    let same = c.at-map.ensures in
    let map' : IsMap rows_form old c.at-map.result.root = subst (IsMap rows_form old) (sym same) map in
    let row : Row = (number c.first_from.new.found, c.first_from.new.value) in
    let fits : c.of_bytes-next.result.number < 2 ^ 64 = search rules in
    subst (λ (r : ℕ). IsNext (bytes_in old r) c.args.node c.args.from c.of_bytes-next.result.number c.first_from.new.value) same
    (next-found old c.at-map.result.root c.args.node c.args.from (number c.bytes-key.result) c.ranges.from.fits c.bytes-key.ensures row c.in_ok-_leaf.field-0 map' (c.in_ok-_leaf.ensures.found map')
    c.in-Some._leaf c.of_bytes-next.result.node c.of_bytes-next.result.number c.in-Some.is fits c.of_bytes-next.ensures c.if-next-node.false)

pub returns-clause-onto : goal.returns-clause-onto
returns-clause-onto g c =
    next-on c.in_ok-_leaf.field-0 c.in-Some._leaf (number c.bytes-key.result) (number c.first_from.new.found) c.args.node c.args.from c.of_bytes-next.result.node c.of_bytes-next.result.number c.in-Some.is
    c.in_ok-_leaf.ensures.on c.bytes-key.ensures c.of_bytes-next.ensures c.if-next-node.false

pub returns-in_default-clause-kept : goal.returns-in_default-clause-kept
returns-in_default-clause-kept g c = λ told.
    let old : PageMap = g.P.Pages.pages c.args.pages.now in
    let count : ℕ = g.P.Pages.count c.args.pages.now in
    let row : Row = (number c.first_from.new.found, c.first_from.new.value) in
    subst (λ (r : ℕ). IsNextFound old count r c.args.node c.args.from None) c.at-map.ensures (
      None,
      kept-none (IsFirstFound rows_form old count c.at-map.result.root) _ (key_of c.args.node c.args.from) row _ c.bytes-key.ensures c.in_default.is (c.in_ok-_leaf.ensures.kept told),
      tt,
    )

pub returns-then-next-node-clause-kept : goal.returns-then-next-node-clause-kept
returns-then-next-node-clause-kept g c = λ told.
    let old : PageMap = g.P.Pages.pages c.args.pages.now in
    let count : ℕ = g.P.Pages.count c.args.pages.now in
    let row : Row = (number c.first_from.new.found, c.first_from.new.value) in
    let fits : c.of_bytes-next.result.number < 2 ^ 64 = search rules in
    subst (λ (r : ℕ). IsNextFound old count r c.args.node c.args.from None) c.at-map.ensures (
      Some row,
      kept-some (IsFirstFound rows_form old count c.at-map.result.root) _ (key_of c.args.node c.args.from) row row _ c.in-Some._leaf c.bytes-key.ensures c.in-Some.is refl (c.in_ok-_leaf.ensures.kept told),
      (c.of_bytes-next.result.node, c.of_bytes-next.result.number, c.if-next-node.true, fits, c.of_bytes-next.ensures),
    )

pub returns-clause-kept : goal.returns-clause-kept
returns-clause-kept g c = λ told.
    let old : PageMap = g.P.Pages.pages c.args.pages.now in
    let count : ℕ = g.P.Pages.count c.args.pages.now in
    let row : Row = (number c.first_from.new.found, c.first_from.new.value) in
    subst (λ (r : ℕ). IsNextFound old count r c.args.node c.args.from (Some (c.of_bytes-next.result.number, c.first_from.new.value))) c.at-map.ensures (
      Some row,
      kept-some (IsFirstFound rows_form old count c.at-map.result.root) _ (key_of c.args.node c.args.from) row row _ c.in-Some._leaf c.bytes-key.ensures c.in-Some.is refl (c.in_ok-_leaf.ensures.kept told),
      ap (λ (k : ℕ). Some (k, c.first_from.new.value)) (c.of_bytes-next.ensures ∙ ap (λ (n : ℕ). key_of n c.of_bytes-next.result.number) c.if-next-node.false),
    )

pub returns-clause-filled : goal.returns-clause-filled
returns-clause-filled g c = λ map filled.
    let old : PageMap = g.P.Pages.pages c.args.pages.now in
    let same = c.at-map.ensures in
    let map' : IsMap rows_form old c.at-map.result.root = subst (IsMap rows_form old) (sym same) map in
    let row : Row = (number c.first_from.new.found, c.first_from.new.value) in
    let fits : c.of_bytes-next.result.number < 2 ^ 64 = search rules in
    found-filled old c.at-map.result.root c.args.node c.args.from (number c.bytes-key.result) c.ranges.from.fits c.bytes-key.ensures row c.in_ok-_leaf.field-0 map' (c.in_ok-_leaf.ensures.found map')
    c.in-Some._leaf c.of_bytes-next.result.node c.of_bytes-next.result.number c.in-Some.is fits c.of_bytes-next.ensures (subst (λ (r : ℕ). AreFilled (map_rows rows_form old r)) (sym same) filled)
