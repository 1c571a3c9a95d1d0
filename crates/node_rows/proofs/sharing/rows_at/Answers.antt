use Rattle.std.proofs.Common.{◌≡◌, ◌+◌, ℕ, ◌<◌, ap, sym, subst, arith, take, get_or, length, List, [], ◌∷◌, ◌++◌, Err, rules}
use Rattle.std.proofs.lemmas.List.{take_more}
use Rattle.std.proofs.lemmas.Result.{err_from_is_err_and}
use Rattle.page_face.specs.FreeList.{PageMap}
use Rattle.page_face.specs.declared.fault.PageFault.TheVariants.{Damaged}
use Rattle.page_face.proofs.Frames.{reads_then}
use Rattle.btree_nodes.specs.Damages.{AreReadable, AsksOnly}
use Rattle.btree_nodes.specs.Tree.{IsMap, map_uses}
use Rattle.btree_nodes.proofs.Harms.{asked-before, asks-further}
use Rattle.paged_map.specs.Maps.{IsMapDamaged}
use Rattle.rtree_nodes.specs.Stock.{rows_form}
use Rattle.node_rows.specs.Rows.{HasBytes, bytes_in}
use Rattle.node_rows.specs.Known.{AreRowsAt}
use Rattle.node_rows.proofs.Known.{known-push}
use Rattle.node_rows.proofs.sharing.rows_at.Goals as goal

pub loop-pair-preserved : goal.loop-pair-preserved
loop-pair-preserved g c =
    let h = c.loop-pair.invariant in
    let f = h.frame in
    let old : PageMap = g.P.Pages.pages c.args.pages.now in
    let root : ℕ = c.args.tree.now.rows in
    let node : ℕ = c.args.node in
    record {
      listed = λ map.
          let p : ℕ × ℕ = get_or c.args.words.now c.loop-pair.pair-index (0, 0) in
          let m : c.loop-pair.pair-index < length c.args.words.now = omega arith in
          let there : HasBytes c.in_ok-there.there (bytes_in old root node p.0) =
          subst (λ (q : PageMap). IsMap rows_form q root → HasBytes c.in_ok-there.there (bytes_in q root node p.0)) f.pages c.in_ok-there.ensures.row map in
          subst (AreRowsAt (bytes_in old root) node (take (c.loop-pair.pair-index + 1) c.args.words.now)) (sym c.in_ok-push_row.ensures.rows)
          (subst (λ (ps : List (ℕ × ℕ)). AreRowsAt (bytes_in old root) node ps (c.loop-pair.rows.items ++ c.in_ok-there.there ∷ [])) (sym (take_more c.args.words.now c.loop-pair.pair-index (0, 0) m))
          (known-push (bytes_in old root) node (take c.loop-pair.pair-index c.args.words.now) c.loop-pair.rows.items p c.in_ok-there.there (h.listed map) there));
      own = λ told.
          let still : AreReadable (g.P.Pages.pages c.loop-pair.pages) (g.P.Pages.count c.loop-pair.pages) = rw (f.pages, f.count) told in
          asks-further (map_uses rows_form old root) (g.P.Pages.asked c.args.pages.now) (g.P.Pages.asked c.loop-pair.pages) (g.P.Pages.asked c.row.new.pages) (h.own told)
          (subst (λ (p : PageMap). AsksOnly (map_uses rows_form p root) (g.P.Pages.asked c.loop-pair.pages) (g.P.Pages.asked c.row.new.pages)) f.pages (c.row.ensures.own still));
      frame = reads_then g.P.Pages g.met.P.Pages.goes_further g.met.P.Pages.reads_further _ _ _ f c.row.ensures.frame;
      faults = search rules;
    }

pub returns-in_err-there-clause-damaged : goal.returns-in_err-there-clause-damaged
returns-in_err-there-clause-damaged g c = λ told damage.
    let h = c.loop-pair.invariant in
    let f = h.frame in
    let old : PageMap = g.P.Pages.pages c.args.pages.now in
    let root : ℕ = c.args.tree.now.rows in
    let still : AreReadable (g.P.Pages.pages c.loop-pair.pages) (g.P.Pages.count c.loop-pair.pages) = rw (f.pages, f.count) told in
    let p = err_from_is_err_and c.from_residual.result c.from_residual.ensures.1 in
    λ e. (let same : c.in_err-there.field-0.0 ≡ Damaged damage = cc (p.1, p.2, e) in
    let d = c.in_err-there.ensures.damaged still damage (ap Err same) in (
      subst (λ (n : ℕ). IsMapDamaged rows_form old n root damage) f.count (subst (λ (q : PageMap). IsMapDamaged rows_form q (g.P.Pages.count c.loop-pair.pages) root damage) f.pages d.0),
      asked-before (map_uses rows_form old root) (g.P.Pages.asked c.args.pages.now) (g.P.Pages.asked c.loop-pair.pages) (g.P.Pages.asked c.row.new.pages) damage.page (h.own told) d.1,
    ))

pub returns-in_err-there-clause-own : goal.returns-in_err-there-clause-own
returns-in_err-there-clause-own g c = λ told.
    let h = c.loop-pair.invariant in
    let f = h.frame in
    let old : PageMap = g.P.Pages.pages c.args.pages.now in
    let root : ℕ = c.args.tree.now.rows in
    let still : AreReadable (g.P.Pages.pages c.loop-pair.pages) (g.P.Pages.count c.loop-pair.pages) = rw (f.pages, f.count) told in
    asks-further (map_uses rows_form old root) (g.P.Pages.asked c.args.pages.now) (g.P.Pages.asked c.loop-pair.pages) (g.P.Pages.asked c.row.new.pages) (h.own told)
    (subst (λ (p : PageMap). AsksOnly (map_uses rows_form p root) (g.P.Pages.asked c.loop-pair.pages) (g.P.Pages.asked c.row.new.pages)) f.pages (c.row.ensures.own still))

pub returns-in_err-push_row-clause-own : goal.returns-in_err-push_row-clause-own
returns-in_err-push_row-clause-own g c = λ told.
    let h = c.loop-pair.invariant in
    let f = h.frame in
    let old : PageMap = g.P.Pages.pages c.args.pages.now in
    let root : ℕ = c.args.tree.now.rows in
    let still : AreReadable (g.P.Pages.pages c.loop-pair.pages) (g.P.Pages.count c.loop-pair.pages) = rw (f.pages, f.count) told in
    asks-further (map_uses rows_form old root) (g.P.Pages.asked c.args.pages.now) (g.P.Pages.asked c.loop-pair.pages) (g.P.Pages.asked c.row.new.pages) (h.own told)
    (subst (λ (p : PageMap). AsksOnly (map_uses rows_form p root) (g.P.Pages.asked c.loop-pair.pages) (g.P.Pages.asked c.row.new.pages)) f.pages (c.row.ensures.own still))
