use Rattle.std.proofs.Common.{◌≡◌, Err, inl, ap, refl, arith}
use Rattle.std.proofs.lemmas.Result.{err_from_is_err_and}
use Rattle.spatial_base.specs.Key.{Name}
use Rattle.page_face.specs.declared.fault.PageFault.TheVariants.{Damaged, NoRoom}
use Rattle.page_store.specs.declared.superblock.Superblock.{Superblock}
use Rattle.btree_nodes.specs.Supply.{View, view}
use Rattle.btree_nodes.specs.Tree.{map_uses}
use Rattle.btree_nodes.proofs.Harms.{asked-before, asks-further, asks-more}
use Rattle.row_codec.specs.declared.stored.Stored.{Stored}
use Rattle.store_tables.specs.Holding.{places_form}
use Rattle.store_tables.proofs.Heads.{map-spares_head, put-spares_head}
use Rattle.store_tables.proofs.LookupLemmas.{number-key}
use Rattle.store_tables.proofs.TakeLemmas.{takes-passed}
use Rattle.store_tables.proofs.ToldLemmas.{told-changed}
use Rattle.store_model.specs.Stands.{tables_in}
use Rattle.table_updates.specs.Carrying.{any_page, block_of}
use Rattle.table_updates.specs.Version1.{places_form_version1, version1_uses}
use Rattle.table_updates.proofs.Beside.{version1-kept}
use Rattle.table_updates.proofs.Between.{between-moved, between-put}
use Rattle.table_updates.proofs.Damages.{put-damage}
use Rattle.table_updates.proofs.carrying.move_place.Goals as goal

pub returns-in_err-put_place-clause-no_false_damage : goal.returns-in_err-put_place-clause-no_false_damage
returns-in_err-put_place-clause-no_false_damage g c others entries left between behind is damage =
    let p = err_from_is_err_and c.from_residual.result c.from_residual.ensures.1 in
    λ e. (let same : c.in_err-put_place.field-0.0 ≡ Damaged damage = cc (p.1, p.2, e) in
    c.in_err-put_place.ensures.no_false_damage (record entries { places = between.carried }) between.stand.tables.free between.stand.tables.holds between.stand.tables.apart damage (ap Err same))

pub returns-in_err-put_place-clause-damaged : goal.returns-in_err-put_place-clause-damaged
returns-in_err-put_place-clause-damaged g c told damage =
    let p = err_from_is_err_and c.from_residual.result c.from_residual.ensures.1 in
    λ e. (let same : c.in_err-put_place.field-0.0 ≡ Damaged damage = cc (p.1, p.2, e) in
    put-damage _ (g.P.Pages.pages c.put_place.new.pages) (g.P.Pages.count c.put_place.new.pages) (g.P.Pages.first c.put_place.new.pages) _ _ damage (c.in_err-put_place.ensures.damaged (told c.args.pages.now) damage (ap Err same)))

pub returns-in_err-put_place-clause-asks : goal.returns-in_err-put_place-clause-asks
returns-in_err-put_place-clause-asks g c told =
    asks-more (map_uses places_form (g.P.Pages.pages c.args.pages.now) c.args.head.now.places) any_page _ _ (λ n some. omega arith) (c.put_place.ensures.own (told c.args.pages.now))

pub returns-in_err-put_place-clause-no_head : goal.returns-in_err-put_place-clause-no_head
returns-in_err-put_place-clause-no_head g c told damage =
    let p = err_from_is_err_and c.from_residual.result c.from_residual.ensures.1 in
    λ e. (let same : c.in_err-put_place.field-0.0 ≡ Damaged damage = cc (p.1, p.2, e) in
    put-spares_head places_form (g.P.Pages.pages c.args.pages.now) (g.P.Pages.count c.args.pages.now) c.args.head.now.places (g.P.Pages.pages c.put_place.new.pages) (g.P.Pages.count c.put_place.new.pages) (g.P.Pages.first c.put_place.new.pages) _ _ damage
    (told c.put_place.new.pages) (g.met.P.Pages.first_is_counted c.put_place.new.pages) (c.in_err-put_place.ensures.damaged (told c.args.pages.now) damage (ap Err same)))

pub returns-in_err-put_place-clause-at_most : goal.returns-in_err-put_place-clause-at_most
returns-in_err-put_place-clause-at_most g c =
    let p = err_from_is_err_and c.from_residual.result c.from_residual.ensures.1 in
    takes-passed g.P.Pages _ c.from_residual.result _ c.args.pages.now c.put_place.new.pages (λ e. (let same : c.in_err-put_place.field-0.0 ≡ NoRoom = cc (p.1, p.2, e) in ap Err same)) c.in_err-put_place.ensures.at_most

pub returns-in_err-after-clause-no_false_damage : goal.returns-in_err-after-clause-no_false_damage
returns-in_err-after-clause-no_false_damage g c others entries left between behind is damage =
    let block : Superblock = block_of (g.P.Pages.count c.args.pages.now) (g.P.Pages.first c.args.pages.now) c.args.head.now in
    let first : Name × Stored = c.args.place.now in
    let put = c.in_ok-put_place.ensures.put (record entries { places = between.carried }) between.stand.tables.free between.stand.tables.holds between.stand.tables.apart in
    let beside = between-put block (g.P.Pages.pages c.args.pages.now) others entries c.args.root left between first behind is (g.P.Pages.pages c.put_place.new.pages) (g.P.Pages.count c.put_place.new.pages) (g.P.Pages.first c.put_place.new.pages) c.put_place.new.self c.put_place.ensures.others put.1
    c.put_place.ensures.frame.count (g.met.P.Pages.first_is_counted c.put_place.new.pages) in
    let kept = version1-kept (block_of (g.P.Pages.count c.put_place.new.pages) (g.P.Pages.first c.put_place.new.pages) (record c.args.head.now { places = c.put_place.new.self.places })) (g.P.Pages.pages c.put_place.new.pages) others entries c.args.root _ _ beside in
    let p = err_from_is_err_and c.from_residual-in_err-after.result c.from_residual-in_err-after.ensures.1 in
    λ e. (let same : c.in_err-after.field-0.0 ≡ Damaged damage = cc (p.1, p.2, e) in
    c.in_err-after.ensures.no_false_damage beside.tables.free kept damage (ap Err same))

pub returns-in_err-after-clause-damaged : goal.returns-in_err-after-clause-damaged
returns-in_err-after-clause-damaged g c told damage =
    let own = asks-more (map_uses places_form (g.P.Pages.pages c.args.pages.now) c.args.head.now.places) any_page _ _ (λ n some. omega arith) (c.put_place.ensures.own (told c.args.pages.now)) in
    let p = err_from_is_err_and c.from_residual-in_err-after.result c.from_residual-in_err-after.ensures.1 in
    λ e. (let same : c.in_err-after.field-0.0 ≡ Damaged damage = cc (p.1, p.2, e) in
    inl (asked-before any_page _ _ _ damage.page own (c.in_err-after.ensures.damaged (told c.put_place.new.pages) damage (ap Err same)).1))

pub returns-in_err-after-clause-asks : goal.returns-in_err-after-clause-asks
returns-in_err-after-clause-asks g c told =
    asks-further any_page _ _ _ (asks-more (map_uses places_form (g.P.Pages.pages c.args.pages.now) c.args.head.now.places) any_page _ _ (λ n some. omega arith) (c.put_place.ensures.own (told c.args.pages.now)))
    (asks-more (version1_uses (g.P.Pages.pages c.put_place.new.pages) c.args.root) any_page _ _ (λ n some. omega arith) (c.remove_row.ensures.own (told c.put_place.new.pages)))

pub returns-in_err-after-clause-no_head : goal.returns-in_err-after-clause-no_head
returns-in_err-after-clause-no_head g c told damage =
    let p = err_from_is_err_and c.from_residual-in_err-after.result c.from_residual-in_err-after.ensures.1 in
    λ e. (let same : c.in_err-after.field-0.0 ≡ Damaged damage = cc (p.1, p.2, e) in
    map-spares_head places_form_version1 (g.P.Pages.pages c.put_place.new.pages) (g.P.Pages.count c.put_place.new.pages) c.args.root damage (c.in_err-after.ensures.damaged (told c.put_place.new.pages) damage (ap Err same)).0)

pub returns-clause-asks : goal.returns-clause-asks
returns-clause-asks g c told =
    asks-further any_page _ _ _ (asks-more (map_uses places_form (g.P.Pages.pages c.args.pages.now) c.args.head.now.places) any_page _ _ (λ n some. omega arith) (c.put_place.ensures.own (told c.args.pages.now)))
    (asks-more (version1_uses (g.P.Pages.pages c.put_place.new.pages) c.args.root) any_page _ _ (λ n some. omega arith) (c.remove_row.ensures.own (told c.put_place.new.pages)))

pub returns-clause-told : goal.returns-clause-told
returns-clause-told g c others entries left between behind is told =
    let before : View = view (g.P.Pages.pages c.args.pages.now) (g.P.Pages.count c.args.pages.now) (g.P.Pages.first c.args.pages.now) between.stand.tables.free in
    let put = c.in_ok-put_place.ensures.put (record entries { places = between.carried }) between.stand.tables.free between.stand.tables.holds between.stand.tables.apart in
    c.in_ok-after.ensures.told (told-changed before (tables_in c.args.head.now) _ _ _ _ _ put.1 told)

pub returns-clause-moved : goal.returns-clause-moved
returns-clause-moved g c others entries left between behind is =
    let block : Superblock = block_of (g.P.Pages.count c.args.pages.now) (g.P.Pages.first c.args.pages.now) c.args.head.now in
    let first : Name × Stored = c.args.place.now in
    let put = c.in_ok-put_place.ensures.put (record entries { places = between.carried }) between.stand.tables.free between.stand.tables.holds between.stand.tables.apart in
    let beside = between-put block (g.P.Pages.pages c.args.pages.now) others entries c.args.root left between first behind is (g.P.Pages.pages c.put_place.new.pages) (g.P.Pages.count c.put_place.new.pages) (g.P.Pages.first c.put_place.new.pages) c.put_place.new.self c.put_place.ensures.others put.1
    c.put_place.ensures.frame.count (g.met.P.Pages.first_is_counted c.put_place.new.pages) in
    let kept = version1-kept (block_of (g.P.Pages.count c.put_place.new.pages) (g.P.Pages.first c.put_place.new.pages) (record c.args.head.now { places = c.put_place.new.self.places })) (g.P.Pages.pages c.put_place.new.pages) others entries c.args.root _ _ beside in
    let gone = c.in_ok-after.ensures.removed beside.tables.free kept in
    between-moved block (g.P.Pages.pages c.args.pages.now) others entries c.args.root left between first behind is (record c.args.head.now { places = c.put_place.new.self.places }) (g.P.Pages.pages c.put_place.new.pages) (g.P.Pages.count c.put_place.new.pages) (g.P.Pages.first c.put_place.new.pages) refl beside
    _ (number-key c.bytes.result c.args.place.now.0 c.bytes.ensures.form) (g.P.Pages.pages c.remove_row.new.pages) (g.P.Pages.count c.remove_row.new.pages) (g.P.Pages.first c.remove_row.new.pages) c.in_ok-after.after gone c.remove_row.ensures.frame.count (g.met.P.Pages.first_is_counted c.remove_row.new.pages)
