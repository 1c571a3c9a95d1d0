use Rattle.std.proofs.Common.{◌≡◌, ℕ, ◌∙◌, ap, ◌^◌, Option, List, [], rules, subst, Err, refl}
use Rattle.std.proofs.lemmas.Result.{err_from_is_err_and}
use Rattle.page_face.specs.declared.fault.PageFault.TheVariants.{Damaged}
use Rattle.page_face.proofs.Frames.{changes_then}
use Rattle.btree_nodes.specs.Supply.{View, view}
use Rattle.btree_nodes.specs.Tree.{map_rows}
use Rattle.btree_nodes.proofs.Harms.{asks-further, asks-nothing}
use Rattle.rtree_nodes.specs.Stock.{rows_form}
use Rattle.node_rows.specs.Rows.{Bytes, bytes_in}
use Rattle.node_rows.specs.Turns.{Turns, dropped}
use Rattle.node_rows.specs.Ascents.{until, reached}
use Rattle.node_inverted.specs.Drafts.{with_rows}
use Rattle.node_inverted.specs.Gathers.{IsDropping}
use Rattle.node_inverted.specs.declared.taking.NodeRow.{NodeRow}
use Rattle.node_rows.proofs.Bytes.{bytes-large}
use Rattle.node_rows.proofs.Harms.{harm-later}
use Rattle.node_rows.proofs.Turned.{turns-same, turns-as}
use Rattle.node_rows.proofs.Told.{told-turned}
use Rattle.node_rows.proofs.Faults.{changes-none}
use Rattle.node_rows.proofs.Ascents.{start, all}
use Rattle.node_inverted.proofs.Drops.{dropped-idle}
use Rattle.node_inverted.proofs.Gathers.{dropping-none, dropping-set}
use Rattle.node_inverted.proofs.dropping.drop_node.Goals as goal

pub loop-from-init : goal.loop-from-init
loop-from-init g c =
    let none : c.new-rows.result.items ≡ [] = search rules in
    record {
      root = refl;
      dropping = λ free rows.
          let before : View = view (g.P.Pages.pages c.args.pages.now) (g.P.Pages.count c.args.pages.now) (g.P.Pages.first c.args.pages.now) free in
          let root : ℕ = c.args.tree.now.rows in
          let b : Bytes = bytes_in (g.P.Pages.pages c.args.pages.now) root in
          let f : Bytes = dropped c.args.node b in
          dropping-none before root (g.P.Pages.pages c.args.pages.now) (g.P.Pages.count c.args.pages.now) (g.P.Pages.first c.args.pages.now) root c.args.node b 0 c.new-rows.result.items none
          (turns-as before root (g.P.Pages.pages c.args.pages.now) (g.P.Pages.count c.args.pages.now) (g.P.Pages.first c.args.pages.now) root b (until 0 f b) (start f b) (turns-same before root rows));
      copy = λ free rows. c.none-copy.ensures.copy (bytes_in (g.P.Pages.pages c.args.pages.now) c.args.tree.now.rows) c.args.node;
      told = λ t. t;
      more = λ t. asks-nothing (λ _. 1) (g.P.Pages.asked c.args.pages.now) (g.P.Pages.asked c.args.pages.now) refl;
      frame = changes-none g.P.Pages c.args.pages.now (g.met.P.Pages.stays c.args.pages.now);
      faults = search rules;
    }

pub loop-from-preserved : goal.loop-from-preserved
loop-from-preserved g c = record {
  root = c.in_ok-from.ensures.root ∙ c.loop-from.invariant.root;
  dropping = λ free rows.
      let before : View = view (g.P.Pages.pages c.args.pages.now) (g.P.Pages.count c.args.pages.now) (g.P.Pages.first c.args.pages.now) free in
      let b : Bytes = bytes_in (g.P.Pages.pages c.args.pages.now) c.args.tree.now.rows in
      c.in_ok-from.ensures.dropping before c.args.tree.now.rows b (c.loop-from.invariant.copy free rows) (subst (λ (o : Option ℕ). IsDropping before c.args.tree.now.rows (g.P.Pages.pages c.loop-from.pages) (g.P.Pages.count c.loop-from.pages) (g.P.Pages.first c.loop-from.pages) c.loop-from.tree.rows
      c.args.node b (reached o) c.loop-from.rows.items) c.in-Some.is (c.loop-from.invariant.dropping free rows));
  copy = λ free rows.
      let before : View = view (g.P.Pages.pages c.args.pages.now) (g.P.Pages.count c.args.pages.now) (g.P.Pages.first c.args.pages.now) free in
      let b : Bytes = bytes_in (g.P.Pages.pages c.args.pages.now) c.args.tree.now.rows in
      c.in_ok-from.ensures.copy before c.args.tree.now.rows b (c.loop-from.invariant.copy free rows) (subst (λ (o : Option ℕ). IsDropping before c.args.tree.now.rows (g.P.Pages.pages c.loop-from.pages) (g.P.Pages.count c.loop-from.pages) (g.P.Pages.first c.loop-from.pages) c.loop-from.tree.rows
      c.args.node b (reached o) c.loop-from.rows.items) c.in-Some.is (c.loop-from.invariant.dropping free rows));
  told = λ t. c.in_ok-from.ensures.told (c.loop-from.invariant.told t);
  more = λ t. asks-further (λ _. 1) _ _ _ (c.loop-from.invariant.more t) (c.drop_next.ensures.more (c.loop-from.invariant.told t));
  frame = changes_then g.P.Pages g.met.P.Pages.goes_further _ _ _ c.loop-from.invariant.frame c.drop_next.ensures.frame;
  faults = search rules;
}

pub returns-clause-turns : goal.returns-clause-turns
returns-clause-turns g c = λ free rows.
    let before : View = view (g.P.Pages.pages c.args.pages.now) (g.P.Pages.count c.args.pages.now) (g.P.Pages.first c.args.pages.now) free in
    let root : ℕ = c.args.tree.now.rows in
    let b : Bytes = bytes_in (g.P.Pages.pages c.args.pages.now) root in
    let large = bytes-large (map_rows rows_form (g.P.Pages.pages c.args.pages.now) root) in
    let f : Bytes → Bytes = dropped c.args.node in
    let e : reached c.loop-from.from ≡ 2 ^ 64 = ap reached c.in_default.is in
    let h = c.loop-from.invariant.dropping free rows in
    turns-as before root (g.P.Pages.pages c.set_rows.new.pages) (g.P.Pages.count c.set_rows.new.pages) (g.P.Pages.first c.set_rows.new.pages) c.set_rows.new.tree.rows
    (until (reached c.loop-from.from) (f b) b) (f b)
    (λ n w i. ap (λ (k : ℕ). until k (f b) b n w i) e ∙ all (2 ^ 64) (f b) b (λ n' w' i' l. dropped-idle c.args.node b w' (λ j. large c.args.node w' j l) n' i') n w i)
    (dropping-set before root (g.P.Pages.pages c.loop-from.pages) (g.P.Pages.count c.loop-from.pages) (g.P.Pages.first c.loop-from.pages) c.loop-from.tree.rows c.args.node b (reached c.loop-from.from) c.loop-from.rows.items h
    (g.P.Pages.pages c.set_rows.new.pages) (g.P.Pages.count c.set_rows.new.pages) (g.P.Pages.first c.set_rows.new.pages) c.set_rows.new.tree.rows
    (subst (λ (rs : List NodeRow). Turns (view (g.P.Pages.pages c.loop-from.pages) (g.P.Pages.count c.loop-from.pages) (g.P.Pages.first c.loop-from.pages) h.turn.free) c.loop-from.tree.rows
    (g.P.Pages.pages c.set_rows.new.pages) (g.P.Pages.count c.set_rows.new.pages) (g.P.Pages.first c.set_rows.new.pages) c.set_rows.new.tree.rows (with_rows c.args.node rs (bytes_in (g.P.Pages.pages c.loop-from.pages) c.loop-from.tree.rows)))
    c.deref.ensures.value (c.in_ok-set_rows.ensures.turns h.turn.free h.turn.rows)))

pub returns-in_err-from-clause-no_false_damage : goal.returns-in_err-from-clause-no_false_damage
returns-in_err-from-clause-no_false_damage g c free rows told damage =
    let before : View = view (g.P.Pages.pages c.args.pages.now) (g.P.Pages.count c.args.pages.now) (g.P.Pages.first c.args.pages.now) free in
    let h = c.loop-from.invariant.dropping free rows in
    let p = err_from_is_err_and c.from_residual.result c.from_residual.ensures.1 in
    λ e. (let same : c.in_err-from.field-0.0 ≡ Damaged damage = cc (p.1, p.2, e) in
    c.in_err-from.ensures.no_false_damage h.turn.free h.turn.rows (told-turned before c.args.tree.now.rows (g.P.Pages.pages c.loop-from.pages) (g.P.Pages.count c.loop-from.pages) (g.P.Pages.first c.loop-from.pages) c.loop-from.tree.rows
    h.bytes h.turn told) damage (ap Err same))

pub returns-in_err-set_rows-clause-no_false_damage : goal.returns-in_err-set_rows-clause-no_false_damage
returns-in_err-set_rows-clause-no_false_damage g c free rows told damage =
    let before : View = view (g.P.Pages.pages c.args.pages.now) (g.P.Pages.count c.args.pages.now) (g.P.Pages.first c.args.pages.now) free in
    let h = c.loop-from.invariant.dropping free rows in
    let p = err_from_is_err_and c.from_residual-in_err-set_rows.result c.from_residual-in_err-set_rows.ensures.1 in
    λ e. (let same : c.in_err-set_rows.field-0.0 ≡ Damaged damage = cc (p.1, p.2, e) in
    c.in_err-set_rows.ensures.no_false_damage h.turn.free h.turn.rows (told-turned before c.args.tree.now.rows (g.P.Pages.pages c.loop-from.pages) (g.P.Pages.count c.loop-from.pages) (g.P.Pages.first c.loop-from.pages) c.loop-from.tree.rows
    h.bytes h.turn told) damage (ap Err same))

pub returns-in_err-from-clause-damaged : goal.returns-in_err-from-clause-damaged
returns-in_err-from-clause-damaged g c = λ told damage.
    let p = g.P.Pages in
    let r = err_from_is_err_and c.from_residual.result c.from_residual.ensures.1 in
    λ e. (let same : c.in_err-from.field-0.0 ≡ Damaged damage = cc (r.1, r.2, e) in
    harm-later _ (λ _. 1) (p.pages c.drop_next.new.pages) (p.count c.drop_next.new.pages) (p.first c.drop_next.new.pages) (p.asked c.args.pages.now) (p.asked c.loop-from.pages) (p.asked c.drop_next.new.pages) damage
    (c.loop-from.invariant.more told) (c.in_err-from.ensures.damaged (c.loop-from.invariant.told told) damage (ap Err same)))

pub returns-in_err-from-clause-more : goal.returns-in_err-from-clause-more
returns-in_err-from-clause-more g c = λ told. asks-further (λ _. 1) _ _ _ (c.loop-from.invariant.more told) (c.drop_next.ensures.more (c.loop-from.invariant.told told))

pub returns-in_err-set_rows-clause-damaged : goal.returns-in_err-set_rows-clause-damaged
returns-in_err-set_rows-clause-damaged g c = λ told damage.
    let p = g.P.Pages in
    let r = err_from_is_err_and c.from_residual-in_err-set_rows.result c.from_residual-in_err-set_rows.ensures.1 in
    λ e. (let same : c.in_err-set_rows.field-0.0 ≡ Damaged damage = cc (r.1, r.2, e) in
    harm-later _ (λ _. 1) (p.pages c.set_rows.new.pages) (p.count c.set_rows.new.pages) (p.first c.set_rows.new.pages) (p.asked c.args.pages.now) (p.asked c.loop-from.pages) (p.asked c.set_rows.new.pages) damage
    (c.loop-from.invariant.more told) (c.in_err-set_rows.ensures.damaged (c.loop-from.invariant.told told) damage (ap Err same)))

pub returns-in_err-set_rows-clause-more : goal.returns-in_err-set_rows-clause-more
returns-in_err-set_rows-clause-more g c = λ told. asks-further (λ _. 1) _ _ _ (c.loop-from.invariant.more told) (c.set_rows.ensures.more (c.loop-from.invariant.told told))

pub returns-clause-more : goal.returns-clause-more
returns-clause-more g c = λ told. asks-further (λ _. 1) _ _ _ (c.loop-from.invariant.more told) (c.set_rows.ensures.more (c.loop-from.invariant.told told))

pub returns-clause-told : goal.returns-clause-told
returns-clause-told g c = λ told. c.in_ok-set_rows.ensures.told (c.loop-from.invariant.told told)
