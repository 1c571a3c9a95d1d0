use Rattle.std.proofs.Common.{◌≡◌, ℕ, ◌<◌, ◌∙◌, ap, sym, subst, take, get_or, List, [], arith, length, refl, rules, Err}
use Rattle.std.proofs.lemmas.List.{take_all, take_more}
use Rattle.std.proofs.lemmas.Result.{err_from_is_err_and}
use Rattle.page_face.specs.declared.fault.PageFault.TheVariants.{Damaged}
use Rattle.page_face.proofs.Frames.{changes_then}
use Rattle.btree_nodes.specs.Supply.{View, view}
use Rattle.btree_nodes.proofs.Harms.{asks-further, asks-nothing}
use Rattle.node_rows.specs.Rows.{Bytes, bytes_in}
use Rattle.node_rows.specs.Turns.{Turns}
use Rattle.node_inverted.specs.Drafts.{with_rows}
use Rattle.node_rows.specs.Impacts.{refreshed}
use Rattle.node_rows.specs.Refreshing.{on_words}
use Rattle.node_inverted.specs.declared.taking.NodeRow.{NodeRow}
use Rattle.node_inverted.specs.Gathers.{IsRenewing}
use Rattle.node_rows.proofs.Harms.{harm-later}
use Rattle.node_rows.proofs.Turned.{turns-same}
use Rattle.node_rows.proofs.Told.{told-turned}
use Rattle.node_rows.proofs.Faults.{changes-none}
use Rattle.node_inverted.proofs.Gathers.{renewing-none, renewing-set}
use Rattle.node_inverted.proofs.refreshing.renew.Goals as goal

pub loop-pair-init : goal.loop-pair-init
loop-pair-init g c =
    let none : c.new-rows.result.items ≡ [] = search rules in
    record {
      root = refl;
      renewing = λ free rows apart.
          let before : View = view (g.P.Pages.pages c.args.pages.now) (g.P.Pages.count c.args.pages.now) (g.P.Pages.first c.args.pages.now) free in
          let root : ℕ = c.args.tree.now.rows in
          let b : Bytes = bytes_in (g.P.Pages.pages c.args.pages.now) root in
          renewing-none before root (g.P.Pages.pages c.args.pages.now) (g.P.Pages.count c.args.pages.now) (g.P.Pages.first c.args.pages.now) root c.args.node c.args.slot c.args.child b []
          c.new-rows.result.items c.none-below.result c.none-above.result apart none (c.none-below.ensures.copy b c.args.child) (λ d. c.none-above.ensures.copy d c.args.node) (turns-same before root rows);
      told = λ t. t;
      more = λ t. asks-nothing (λ _. 1) (g.P.Pages.asked c.args.pages.now) (g.P.Pages.asked c.args.pages.now) refl;
      frame = changes-none g.P.Pages c.args.pages.now (g.met.P.Pages.stays c.args.pages.now);
      faults = search rules;
    }

pub loop-pair-preserved : goal.loop-pair-preserved
loop-pair-preserved g c = record {
  root = c.renew_one.ensures.root ∙ c.loop-pair.invariant.root;
  renewing = λ free rows apart.
      let before : View = view (g.P.Pages.pages c.args.pages.now) (g.P.Pages.count c.args.pages.now) (g.P.Pages.first c.args.pages.now) free in
      let b : Bytes = bytes_in (g.P.Pages.pages c.args.pages.now) c.args.tree.now.rows in
      let l : c.loop-pair.pair-index < length c.args.words.now = omega arith in
      let p : ℕ × ℕ = get_or c.args.words.now c.loop-pair.pair-index (0, 0) in
      let front : List (ℕ × ℕ) = take c.loop-pair.pair-index c.args.words.now in
      subst (λ (ps : List (ℕ × ℕ)). IsRenewing before c.args.tree.now.rows (g.P.Pages.pages c.renew_one.new.pages) (g.P.Pages.count c.renew_one.new.pages) (g.P.Pages.first c.renew_one.new.pages) c.renew_one.new.tree.rows
      c.args.node c.args.slot c.args.child b ps c.renew_one.new.rows.items c.renew_one.new.below c.renew_one.new.above) (sym (take_more c.args.words.now c.loop-pair.pair-index (0, 0) l))
      (c.in_ok-renew_one.ensures.renewing before c.args.tree.now.rows p.1 b front apart (c.loop-pair.invariant.renewing free rows apart));
  told = λ t. c.in_ok-renew_one.ensures.told (c.loop-pair.invariant.told t);
  more = λ t. asks-further (λ _. 1) _ _ _ (c.loop-pair.invariant.more t) (c.renew_one.ensures.more (c.loop-pair.invariant.told t));
  frame = changes_then g.P.Pages g.met.P.Pages.goes_further _ _ _ c.loop-pair.invariant.frame c.renew_one.ensures.frame;
  faults = search rules;
}

pub returns-clause-turns : goal.returns-clause-turns
returns-clause-turns g c = λ free rows apart.
    let before : View = view (g.P.Pages.pages c.args.pages.now) (g.P.Pages.count c.args.pages.now) (g.P.Pages.first c.args.pages.now) free in
    let root : ℕ = c.args.tree.now.rows in
    let b : Bytes = bytes_in (g.P.Pages.pages c.args.pages.now) root in
    let h = c.loop-pair.invariant.renewing free rows apart in
    let passed : take c.loop-pair.pair-index c.args.words.now ≡ c.args.words.now = take_all c.loop-pair.pair-index c.args.words.now c.loop-pair-test.false in
    subst (λ (ps : List (ℕ × ℕ)). Turns before root (g.P.Pages.pages c.set_rows.new.pages) (g.P.Pages.count c.set_rows.new.pages) (g.P.Pages.first c.set_rows.new.pages) c.set_rows.new.tree.rows
    (on_words ps (refreshed c.args.node c.args.slot c.args.child b) b)) passed
    (renewing-set before root (g.P.Pages.pages c.loop-pair.pages) (g.P.Pages.count c.loop-pair.pages) (g.P.Pages.first c.loop-pair.pages) c.loop-pair.tree.rows c.args.node c.args.slot c.args.child b (take c.loop-pair.pair-index c.args.words.now)
    c.loop-pair.rows.items c.loop-pair.below c.loop-pair.above h
    (g.P.Pages.pages c.set_rows.new.pages) (g.P.Pages.count c.set_rows.new.pages) (g.P.Pages.first c.set_rows.new.pages) c.set_rows.new.tree.rows
    (subst (λ (rs : List NodeRow). Turns (view (g.P.Pages.pages c.loop-pair.pages) (g.P.Pages.count c.loop-pair.pages) (g.P.Pages.first c.loop-pair.pages) h.turn.free) c.loop-pair.tree.rows
    (g.P.Pages.pages c.set_rows.new.pages) (g.P.Pages.count c.set_rows.new.pages) (g.P.Pages.first c.set_rows.new.pages) c.set_rows.new.tree.rows (with_rows c.args.node rs (bytes_in (g.P.Pages.pages c.loop-pair.pages) c.loop-pair.tree.rows)))
    c.deref.ensures.value (c.in_ok-set_rows.ensures.turns h.turn.free h.turn.rows)))

pub returns-in_err-renew_one-clause-no_false_damage : goal.returns-in_err-renew_one-clause-no_false_damage
returns-in_err-renew_one-clause-no_false_damage g c free rows apart told damage =
    let before : View = view (g.P.Pages.pages c.args.pages.now) (g.P.Pages.count c.args.pages.now) (g.P.Pages.first c.args.pages.now) free in
    let h = c.loop-pair.invariant.renewing free rows apart in
    let p = err_from_is_err_and c.from_residual.result c.from_residual.ensures.1 in
    λ e. (let same : c.in_err-renew_one.field-0.0 ≡ Damaged damage = cc (p.1, p.2, e) in
    c.in_err-renew_one.ensures.no_false_damage h.turn.free h.turn.rows (told-turned before c.args.tree.now.rows (g.P.Pages.pages c.loop-pair.pages) (g.P.Pages.count c.loop-pair.pages) (g.P.Pages.first c.loop-pair.pages) c.loop-pair.tree.rows
    h.bytes h.turn told) damage (ap Err same))

pub returns-in_err-set_rows-clause-no_false_damage : goal.returns-in_err-set_rows-clause-no_false_damage
returns-in_err-set_rows-clause-no_false_damage g c free rows apart told damage =
    let before : View = view (g.P.Pages.pages c.args.pages.now) (g.P.Pages.count c.args.pages.now) (g.P.Pages.first c.args.pages.now) free in
    let h = c.loop-pair.invariant.renewing free rows apart in
    let p = err_from_is_err_and c.from_residual-in_err-set_rows.result c.from_residual-in_err-set_rows.ensures.1 in
    λ e. (let same : c.in_err-set_rows.field-0.0 ≡ Damaged damage = cc (p.1, p.2, e) in
    c.in_err-set_rows.ensures.no_false_damage h.turn.free h.turn.rows (told-turned before c.args.tree.now.rows (g.P.Pages.pages c.loop-pair.pages) (g.P.Pages.count c.loop-pair.pages) (g.P.Pages.first c.loop-pair.pages) c.loop-pair.tree.rows
    h.bytes h.turn told) damage (ap Err same))

pub returns-in_err-renew_one-clause-damaged : goal.returns-in_err-renew_one-clause-damaged
returns-in_err-renew_one-clause-damaged g c = λ told damage.
    let p = g.P.Pages in
    let r = err_from_is_err_and c.from_residual.result c.from_residual.ensures.1 in
    λ e. (let same : c.in_err-renew_one.field-0.0 ≡ Damaged damage = cc (r.1, r.2, e) in
    harm-later _ (λ _. 1) (p.pages c.renew_one.new.pages) (p.count c.renew_one.new.pages) (p.first c.renew_one.new.pages) (p.asked c.args.pages.now) (p.asked c.loop-pair.pages) (p.asked c.renew_one.new.pages) damage
    (c.loop-pair.invariant.more told) (c.in_err-renew_one.ensures.damaged (c.loop-pair.invariant.told told) damage (ap Err same)))

pub returns-in_err-renew_one-clause-more : goal.returns-in_err-renew_one-clause-more
returns-in_err-renew_one-clause-more g c = λ told. asks-further (λ _. 1) _ _ _ (c.loop-pair.invariant.more told) (c.renew_one.ensures.more (c.loop-pair.invariant.told told))

pub returns-in_err-set_rows-clause-damaged : goal.returns-in_err-set_rows-clause-damaged
returns-in_err-set_rows-clause-damaged g c = λ told damage.
    let p = g.P.Pages in
    let r = err_from_is_err_and c.from_residual-in_err-set_rows.result c.from_residual-in_err-set_rows.ensures.1 in
    λ e. (let same : c.in_err-set_rows.field-0.0 ≡ Damaged damage = cc (r.1, r.2, e) in
    harm-later _ (λ _. 1) (p.pages c.set_rows.new.pages) (p.count c.set_rows.new.pages) (p.first c.set_rows.new.pages) (p.asked c.args.pages.now) (p.asked c.loop-pair.pages) (p.asked c.set_rows.new.pages) damage
    (c.loop-pair.invariant.more told) (c.in_err-set_rows.ensures.damaged (c.loop-pair.invariant.told told) damage (ap Err same)))

pub returns-in_err-set_rows-clause-more : goal.returns-in_err-set_rows-clause-more
returns-in_err-set_rows-clause-more g c = λ told. asks-further (λ _. 1) _ _ _ (c.loop-pair.invariant.more told) (c.set_rows.ensures.more (c.loop-pair.invariant.told told))

pub returns-clause-more : goal.returns-clause-more
returns-clause-more g c = λ told. asks-further (λ _. 1) _ _ _ (c.loop-pair.invariant.more told) (c.set_rows.ensures.more (c.loop-pair.invariant.told told))

pub returns-clause-told : goal.returns-clause-told
returns-clause-told g c = λ told. c.in_ok-set_rows.ensures.told (c.loop-pair.invariant.told told)
