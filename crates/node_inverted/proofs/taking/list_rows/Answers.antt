use Rattle.std.proofs.Common.{◌≡◌, ℕ, ◌∙◌, ◌^◌, ap, subst, sym, refl, arith, rules, List, [], Option, Err}
use Rattle.std.proofs.lemmas.Result.{err_from_is_err_and}
use Rattle.page_face.specs.FreeList.{PageMap}
use Rattle.page_face.specs.declared.fault.PageFault.TheVariants.{Damaged}
use Rattle.page_face.proofs.Frames.{reads_then}
use Rattle.btree_nodes.specs.Damages.{AreReadable, AsksOnly}
use Rattle.btree_nodes.proofs.Harms.{asks-further, asks-nothing}
use Rattle.btree_nodes.specs.Tree.{IsMap, map_rows, map_uses}
use Rattle.paged_map.specs.Maps.{AreCounted}
use Rattle.rtree_nodes.specs.Stock.{rows_form}
use Rattle.node_rows.specs.Rows.{Bytes, bytes_in}
use Rattle.node_rows.specs.Copies.{IsCopy}
use Rattle.node_rows.specs.Ascents.{until, reached}
use Rattle.node_rows.specs.Words.{no_bytes}
use Rattle.node_inverted.specs.Lifts.{AreOrdered, bytes_at, lifted_at}
use Rattle.node_inverted.specs.declared.taking.NodeRow.{NodeRow}
use Rattle.node_rows.proofs.Bytes.{bytes-large}
use Rattle.node_rows.proofs.Harms.{harm-later, harm-looked}
use Rattle.node_rows.proofs.Ascents.{start, all}
use Rattle.node_rows.proofs.Faults.{reads-none}
use Rattle.node_inverted.proofs.taking.list_rows.Goals as goal

pub loop-from-init : goal.loop-from-init
loop-from-init g c =
    let empty : c.new-rows.result.items ≡ [] = search rules in
    record {
      copy = λ map. c.none-copy.ensures.copy (bytes_in (g.P.Pages.pages c.args.pages.now) c.args.tree.now.rows) c.args.node;
      listed = λ map n w i. ap (λ (rs : List NodeRow). lifted_at rs w i) empty ∙ start (bytes_at c.args.node (bytes_in (g.P.Pages.pages c.args.pages.now) c.args.tree.now.rows)) no_bytes n w i;
      ordered = subst (AreOrdered 0 0) (sym empty) (omega arith);
      own = λ t. asks-nothing (map_uses rows_form (g.P.Pages.pages c.args.pages.now) c.args.tree.now.rows) (g.P.Pages.asked c.args.pages.now) (g.P.Pages.asked c.args.pages.now) refl;
      frame = reads-none g.P.Pages c.args.pages.now (g.met.P.Pages.reads_nothing c.args.pages.now) (g.met.P.Pages.stays c.args.pages.now);
      faults = search rules;
    }

pub loop-from-preserved : goal.loop-from-preserved
loop-from-preserved g c =
    let h = c.loop-from.invariant in
    let f = h.frame in
    let old : PageMap = g.P.Pages.pages c.args.pages.now in
    let root : ℕ = c.args.tree.now.rows in
    let node : ℕ = c.args.node in
    record {
      copy = λ map. subst (λ (p : PageMap). IsMap rows_form p root → IsCopy (bytes_in p root) node c.loop-from.copy → IsCopy (bytes_in p root) node c.list_next.new.copy) f.pages c.in_ok-from.ensures.copy map (h.copy map);
      listed = λ map.
          let Claim : PageMap → Type 0 = λ p. IsMap rows_form p root → IsCopy (bytes_in p root) node c.loop-from.copy
          → ((n w i : ℕ) → lifted_at c.loop-from.rows.items w i ≡ until c.in-Some.at (bytes_at node (bytes_in p root)) no_bytes n w i)
          → (n w i : ℕ) → lifted_at c.list_next.new.rows.items w i ≡ until (reached c.in_ok-from.from) (bytes_at node (bytes_in p root)) no_bytes n w i in
          subst Claim f.pages c.in_ok-from.ensures.listed map (h.copy map)
          (subst (λ (o : Option ℕ). (n w i : ℕ) → lifted_at c.loop-from.rows.items w i ≡ until (reached o) (bytes_at node (bytes_in old root)) no_bytes n w i) c.in-Some.is (h.listed map));
      ordered = c.in_ok-from.ensures.ordered (subst (λ (o : Option ℕ). AreOrdered 0 (reached o) c.loop-from.rows.items) c.in-Some.is h.ordered);
      own = λ told. asks-further (map_uses rows_form (g.P.Pages.pages c.args.pages.now) c.args.tree.now.rows) (g.P.Pages.asked c.args.pages.now) (g.P.Pages.asked c.loop-from.pages) (g.P.Pages.asked c.list_next.new.pages) (c.loop-from.invariant.own told)
          (subst (λ (x : PageMap). AsksOnly (map_uses rows_form x c.args.tree.now.rows) (g.P.Pages.asked c.loop-from.pages) (g.P.Pages.asked c.list_next.new.pages)) c.loop-from.invariant.frame.pages
          (c.list_next.ensures.own (rw (c.loop-from.invariant.frame.pages, c.loop-from.invariant.frame.count) told)));
      frame = reads_then g.P.Pages g.met.P.Pages.goes_further g.met.P.Pages.reads_further _ _ _ f c.list_next.ensures.frame;
      faults = search rules;
    }

pub returns-clause-listed : goal.returns-clause-listed
returns-clause-listed g c = λ map w i.
    let old : PageMap = g.P.Pages.pages c.args.pages.now in
    let root : ℕ = c.args.tree.now.rows in
    let b : Bytes = bytes_in old root in
    let e : reached c.loop-from.from ≡ 2 ^ 64 = ap reached c.in_default.is in
    c.loop-from.invariant.listed map 0 w i ∙ ap (λ (k : ℕ). until k (bytes_at c.args.node b) no_bytes 0 w i) e
    ∙ all (2 ^ 64) (bytes_at c.args.node b) no_bytes (λ n' w' i' l. bytes-large (map_rows rows_form old root) c.args.node w' i' l) 0 w i

pub returns-clause-ordered : goal.returns-clause-ordered
returns-clause-ordered g c = subst (λ (k : ℕ). AreOrdered 0 k c.loop-from.rows.items) (ap reached c.in_default.is) c.loop-from.invariant.ordered

pub returns-in_err-from-clause-no_false_damage : goal.returns-in_err-from-clause-no_false_damage
returns-in_err-from-clause-no_false_damage g c = λ map counted told damage.
    let f = c.loop-from.invariant.frame in
    let root : ℕ = c.args.tree.now.rows in
    let map' : IsMap rows_form (g.P.Pages.pages c.loop-from.pages) root = rw f.pages map in
    let counted' : AreCounted (map_uses rows_form (g.P.Pages.pages c.loop-from.pages) root) (g.P.Pages.count c.loop-from.pages) = rw (f.pages, f.count) counted in
    let still : AreReadable (g.P.Pages.pages c.loop-from.pages) (g.P.Pages.count c.loop-from.pages) = rw (f.pages, f.count) told in
    let p = err_from_is_err_and c.from_residual.result c.from_residual.ensures.1 in
    λ e. (let same : c.in_err-from.field-0.0 ≡ Damaged damage = cc (p.1, p.2, e) in
    c.in_err-from.ensures.no_false_damage map' counted' still damage (ap Err same))

pub returns-in_err-from-clause-own : goal.returns-in_err-from-clause-own
returns-in_err-from-clause-own g c = λ told. asks-further (map_uses rows_form (g.P.Pages.pages c.args.pages.now) c.args.tree.now.rows) (g.P.Pages.asked c.args.pages.now) (g.P.Pages.asked c.loop-from.pages) (g.P.Pages.asked c.list_next.new.pages) (c.loop-from.invariant.own told)
    (subst (λ (x : PageMap). AsksOnly (map_uses rows_form x c.args.tree.now.rows) (g.P.Pages.asked c.loop-from.pages) (g.P.Pages.asked c.list_next.new.pages)) c.loop-from.invariant.frame.pages
    (c.list_next.ensures.own (rw (c.loop-from.invariant.frame.pages, c.loop-from.invariant.frame.count) told)))

pub returns-clause-own : goal.returns-clause-own
returns-clause-own g c = c.loop-from.invariant.own

pub returns-in_err-from-clause-damaged : goal.returns-in_err-from-clause-damaged
returns-in_err-from-clause-damaged g c = λ told damage.
    let p = g.P.Pages in
    let f = c.loop-from.invariant.frame in
    let h = c.list_next.ensures.frame in
    let r = err_from_is_err_and c.from_residual.result c.from_residual.ensures.1 in
    λ e. (let same : c.in_err-from.field-0.0 ≡ Damaged damage = cc (r.1, r.2, e) in
    harm-later _ (map_uses rows_form (p.pages c.args.pages.now) c.args.tree.now.rows) (p.pages c.list_next.new.pages) (p.count c.list_next.new.pages) (p.first c.list_next.new.pages)
    (p.asked c.args.pages.now) (p.asked c.loop-from.pages) (p.asked c.list_next.new.pages) damage (c.loop-from.invariant.own told)
    (harm-looked (p.pages c.loop-from.pages) (p.pages c.list_next.new.pages) (p.count c.loop-from.pages) (p.count c.list_next.new.pages) (p.first c.list_next.new.pages) c.args.tree.now.rows
    (p.asked c.loop-from.pages) (p.asked c.list_next.new.pages) damage h.pages h.count (c.in_err-from.ensures.damaged (rw (f.pages, f.count) told) damage (ap Err same))))
