use Rattle.std.proofs.Common.{◌≡◌, ℕ, ◌∙◌, ◌^◌, ap, subst, sym, arith, rules, List, [], Option, Err}
use Rattle.std.proofs.lemmas.Result.{err_from_is_err_and}
use Rattle.page_face.specs.FreeList.{PageMap}
use Rattle.page_face.specs.declared.fault.PageFault.TheVariants.{Damaged}
use Rattle.page_face.proofs.Frames.{reads_then}
use Rattle.btree_nodes.specs.Damages.{AreReadable}
use Rattle.btree_nodes.specs.Tree.{IsMap, map_rows, map_uses}
use Rattle.paged_map.specs.Maps.{AreCounted}
use Rattle.rtree_nodes.specs.Stock.{rows_form}
use Rattle.node_rows.specs.Rows.{Bytes, bytes_in}
use Rattle.node_rows.specs.Copies.{IsCopy}
use Rattle.node_rows.specs.Ascents.{until, reached}
use Rattle.node_rows.specs.Words.{no_bytes}
use Rattle.node_rows.proofs.Bytes.{bytes-large}
use Rattle.node_rows.proofs.Ascents.{start, all}
use Rattle.node_rows.proofs.Faults.{reads-none}
use Rattle.tree_check.specs.Columns.{DoAscend, node_bytes, said_by}
use Rattle.tree_check.proofs.reading.rows_of.Goals as goal

pub loop-from-init : goal.loop-from-init
loop-from-init g c =
    let empty : c.clear.new.self.items ≡ [] = search rules in
    record {
      copy = λ map. c.none-copy.ensures.copy (bytes_in (g.P.Pages.pages c.args.pages.now) c.args.tree.now.rows) c.args.node;
      listed = λ map n w i. ap (λ (rows : List (ℕ × List ℕ)). said_by rows n w i) empty ∙ start (node_bytes (bytes_in (g.P.Pages.pages c.args.pages.now) c.args.tree.now.rows) c.args.node) no_bytes n w i;
      ordered = subst (DoAscend 0 0) (sym empty) (omega arith);
      frame = reads-none g.P.Pages c.args.pages.now (g.met.P.Pages.reads_nothing c.args.pages.now) (g.met.P.Pages.stays c.args.pages.now);
      faults = search rules;
    }

pub loop-from-preserved : goal.loop-from-preserved
loop-from-preserved g c =
    let h = c.loop-from.invariant in
    let f = h.frame in
    let old : PageMap = g.P.Pages.pages c.args.pages.now in
    let root : ℕ = c.args.tree.now.rows in
    let node : ℕ = c.args.node in
    record {
      copy = λ map. subst (λ (p : PageMap). IsMap rows_form p root → IsCopy (bytes_in p root) node c.loop-from.copy → IsCopy (bytes_in p root) node c.add_next.new.copy) f.pages c.in_ok-from.ensures.copy map (h.copy map);
      listed = λ map.
          let Claim : PageMap → Type 0 = λ p. IsMap rows_form p root → IsCopy (bytes_in p root) node c.loop-from.copy
          → ((n w i : ℕ) → said_by c.loop-from.rows.items n w i ≡ until c.in-Some.at (node_bytes (bytes_in p root) node) no_bytes n w i)
          → (n w i : ℕ) → said_by c.add_next.new.rows.items n w i ≡ until (reached c.in_ok-from.from) (node_bytes (bytes_in p root) node) no_bytes n w i in
          subst Claim f.pages c.in_ok-from.ensures.rows map (h.copy map)
          (subst (λ (o : Option ℕ). (n w i : ℕ) → said_by c.loop-from.rows.items n w i ≡ until (reached o) (node_bytes (bytes_in old root) node) no_bytes n w i) c.in-Some.is (h.listed map));
      ordered = c.in_ok-from.ensures.ordered (subst (λ (o : Option ℕ). DoAscend 0 (reached o) c.loop-from.rows.items) c.in-Some.is h.ordered);
      frame = reads_then g.P.Pages g.met.P.Pages.goes_further g.met.P.Pages.reads_further _ _ _ f c.add_next.ensures.frame;
      faults = search rules;
    }

pub returns-clause-rows : goal.returns-clause-rows
returns-clause-rows g c = λ map w i.
    let old : PageMap = g.P.Pages.pages c.args.pages.now in
    let root : ℕ = c.args.tree.now.rows in
    let b : Bytes = bytes_in old root in
    let e : reached c.loop-from.from ≡ 2 ^ 64 = ap reached c.in_default.is in
    c.loop-from.invariant.listed map 0 w i ∙ ap (λ (k : ℕ). until k (node_bytes b c.args.node) no_bytes 0 w i) e
    ∙ all (2 ^ 64) (node_bytes b c.args.node) no_bytes (λ n' w' i' l. bytes-large (map_rows rows_form old root) c.args.node w' i' l) 0 w i

pub returns-clause-ordered : goal.returns-clause-ordered
returns-clause-ordered g c = subst (λ (k : ℕ). DoAscend 0 k c.loop-from.rows.items) (ap reached c.in_default.is) c.loop-from.invariant.ordered

pub returns-in_err-from-clause-no_false_damage : goal.returns-in_err-from-clause-no_false_damage
returns-in_err-from-clause-no_false_damage g c = λ map counted told damage.
    let f = c.loop-from.invariant.frame in
    let root : ℕ = c.args.tree.now.rows in
    let map' : IsMap rows_form (g.P.Pages.pages c.loop-from.pages) root = rw f.pages map in
    let counted' : AreCounted (map_uses rows_form (g.P.Pages.pages c.loop-from.pages) root) (g.P.Pages.count c.loop-from.pages) = rw (f.pages, f.count) counted in
    let still : AreReadable (g.P.Pages.pages c.loop-from.pages) (g.P.Pages.count c.loop-from.pages) = rw (f.pages, f.count) told in
    let p = err_from_is_err_and c.from_residual.result c.from_residual.ensures.1 in
    λ e. (let same : c.in_err-from.field-0.0 ≡ Damaged damage = cc (p.1, p.2, e) in
    c.in_err-from.ensures.no_false_damage map' counted' still damage (ap Err same))
