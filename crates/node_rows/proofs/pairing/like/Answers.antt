use Rattle.std.proofs.Common.{◌≡◌, ℕ, ◌∙◌, min, ap, subst, sym, refl, Option, Err, rules}
use Rattle.std.proofs.lemmas.Result.{err_from_is_err_and}
use Rattle.page_face.specs.FreeList.{PageMap}
use Rattle.page_face.specs.declared.fault.PageFault.TheVariants.{Damaged}
use Rattle.page_face.proofs.Frames.{reads_then}
use Rattle.btree_nodes.specs.Damages.{AreReadable, AsksOnly}
use Rattle.btree_nodes.specs.Tree.{IsMap, map_uses}
use Rattle.btree_nodes.proofs.Harms.{asks-further, asks-nothing}
use Rattle.paged_map.specs.Maps.{AreCounted}
use Rattle.rtree_nodes.specs.Stock.{rows_form}
use Rattle.node_rows.specs.Rows.{bytes_in}
use Rattle.node_rows.specs.Copies.{IsCopy}
use Rattle.node_rows.specs.Ascents.{reached}
use Rattle.node_rows.specs.Counts.{IsCounted, most}
use Rattle.node_rows.specs.Damages.{IsRowsDamage}
use Rattle.node_rows.proofs.Counts.{alike-none}
use Rattle.node_rows.proofs.Faults.{damage-later, reads-none}
use Rattle.node_rows.proofs.pairing.like.Goals as goal

pub loop-from-init : goal.loop-from-init
loop-from-init g c =
    record {
      copy = λ map. c.none-copy.ensures.copy (bytes_in (g.P.Pages.pages c.args.pages.now) c.args.tree.now.rows) c.args.node;
      counted = λ map i j li lj h. c.clear_table-table.ensures i j ∙ ap (λ (k : ℕ). min k most) (sym (alike-none (bytes_in (g.P.Pages.pages c.args.pages.now) c.args.tree.now.rows) c.args.node c.args.words.now i j));
      own = λ told. asks-nothing (map_uses rows_form (g.P.Pages.pages c.args.pages.now) c.args.tree.now.rows) (g.P.Pages.asked c.args.pages.now) (g.P.Pages.asked c.args.pages.now) refl;
      frame = reads-none g.P.Pages c.args.pages.now (g.met.P.Pages.reads_nothing c.args.pages.now) (g.met.P.Pages.stays c.args.pages.now);
      faults = search rules;
    }

pub loop-from-preserved : goal.loop-from-preserved
loop-from-preserved g c =
    let h = c.loop-from.invariant in
    let f = h.frame in
    let old : PageMap = g.P.Pages.pages c.args.pages.now in
    let root : ℕ = c.args.tree.now.rows in
    let node : ℕ = c.args.node in
    record {
      copy = λ map. subst (λ (p : PageMap). IsMap rows_form p root → IsCopy (bytes_in p root) node c.loop-from.copy → IsCopy (bytes_in p root) node c.like_next.new.copy) f.pages c.in_ok-from.ensures.copy map (h.copy map);
      counted = λ map.
          let Claim : PageMap → Type 0 = λ p. IsMap rows_form p root → IsCopy (bytes_in p root) node c.loop-from.copy → IsCounted (bytes_in p root) node c.args.words.now c.in-Some.at c.loop-from.table
          → IsCounted (bytes_in p root) node c.args.words.now (reached c.in_ok-from.from) c.like_next.new.table in
          subst Claim f.pages c.in_ok-from.ensures.counted map (h.copy map) (subst (λ (o : Option ℕ). IsCounted (bytes_in old root) node c.args.words.now (reached o) c.loop-from.table) c.in-Some.is (h.counted map));
      own = λ told.
          let still : AreReadable (g.P.Pages.pages c.loop-from.pages) (g.P.Pages.count c.loop-from.pages) = rw (f.pages, f.count) told in
          asks-further (map_uses rows_form old root) (g.P.Pages.asked c.args.pages.now) (g.P.Pages.asked c.loop-from.pages) (g.P.Pages.asked c.like_next.new.pages) (h.own told)
          (subst (λ (p : PageMap). AsksOnly (map_uses rows_form p root) (g.P.Pages.asked c.loop-from.pages) (g.P.Pages.asked c.like_next.new.pages)) f.pages (c.like_next.ensures.own still));
      frame = reads_then g.P.Pages g.met.P.Pages.goes_further g.met.P.Pages.reads_further _ _ _ f c.like_next.ensures.frame;
      faults = search rules;
    }

pub returns-clause-like : goal.returns-clause-like
returns-clause-like g c = λ map.
    subst (λ (k : ℕ). IsCounted (bytes_in (g.P.Pages.pages c.args.pages.now) c.args.tree.now.rows) c.args.node c.args.words.now k c.loop-from.table) (ap reached c.in_default.is) (c.loop-from.invariant.counted map)

pub returns-in_err-from-clause-no_false_damage : goal.returns-in_err-from-clause-no_false_damage
returns-in_err-from-clause-no_false_damage g c = λ map counted told damage.
    let f = c.loop-from.invariant.frame in
    let root : ℕ = c.args.tree.now.rows in
    let map' : IsMap rows_form (g.P.Pages.pages c.loop-from.pages) root = rw f.pages map in
    let counted' : AreCounted (map_uses rows_form (g.P.Pages.pages c.loop-from.pages) root) (g.P.Pages.count c.loop-from.pages) = rw (f.pages, f.count) counted in
    let still : AreReadable (g.P.Pages.pages c.loop-from.pages) (g.P.Pages.count c.loop-from.pages) = rw (f.pages, f.count) told in
    let p = err_from_is_err_and c.from_residual.result c.from_residual.ensures.1 in
    λ e. (let same : c.in_err-from.field-0.0 ≡ Damaged damage = cc (p.1, p.2, e) in
    c.in_err-from.ensures.no_false_damage map' counted' still damage (ap Err same))

pub returns-in_err-from-clause-damaged : goal.returns-in_err-from-clause-damaged
returns-in_err-from-clause-damaged g c = λ told damage.
    let h = c.loop-from.invariant in
    let f = h.frame in
    let old : PageMap = g.P.Pages.pages c.args.pages.now in
    let count : ℕ = g.P.Pages.count c.args.pages.now in
    let root : ℕ = c.args.tree.now.rows in
    let still : AreReadable (g.P.Pages.pages c.loop-from.pages) (g.P.Pages.count c.loop-from.pages) = rw (f.pages, f.count) told in
    let p = err_from_is_err_and c.from_residual.result c.from_residual.ensures.1 in
    λ e. (let same : c.in_err-from.field-0.0 ≡ Damaged damage = cc (p.1, p.2, e) in
    damage-later old count root (map_uses rows_form old root) (g.P.Pages.asked c.args.pages.now) (g.P.Pages.asked c.loop-from.pages) (g.P.Pages.asked c.like_next.new.pages) damage (h.own told)
    (subst (λ (n : ℕ). IsRowsDamage old n root (g.P.Pages.asked c.loop-from.pages) (g.P.Pages.asked c.like_next.new.pages) damage) f.count
    (subst (λ (q : PageMap). IsRowsDamage q (g.P.Pages.count c.loop-from.pages) root (g.P.Pages.asked c.loop-from.pages) (g.P.Pages.asked c.like_next.new.pages) damage) f.pages
    (c.in_err-from.ensures.damaged still damage (ap Err same)))))

pub returns-in_err-from-clause-own : goal.returns-in_err-from-clause-own
returns-in_err-from-clause-own g c = λ told.
    let h = c.loop-from.invariant in
    let f = h.frame in
    let old : PageMap = g.P.Pages.pages c.args.pages.now in
    let root : ℕ = c.args.tree.now.rows in
    let still : AreReadable (g.P.Pages.pages c.loop-from.pages) (g.P.Pages.count c.loop-from.pages) = rw (f.pages, f.count) told in
    asks-further (map_uses rows_form old root) (g.P.Pages.asked c.args.pages.now) (g.P.Pages.asked c.loop-from.pages) (g.P.Pages.asked c.like_next.new.pages) (h.own told)
    (subst (λ (p : PageMap). AsksOnly (map_uses rows_form p root) (g.P.Pages.asked c.loop-from.pages) (g.P.Pages.asked c.like_next.new.pages)) f.pages (c.like_next.ensures.own still))
