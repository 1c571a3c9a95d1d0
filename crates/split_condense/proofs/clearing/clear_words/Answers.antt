use Rattle.std.proofs.Common.{◌≡◌, ℕ, ◌+◌, ◌<◌, ◌∙◌, ap, sym, take, get_or, List, arith, length, refl, Err, rules}
use Rattle.std.proofs.lemmas.List.{take_more}
use Rattle.std.proofs.lemmas.Result.{err_from_is_err_and}
use Rattle.page_face.specs.declared.fault.PageFault.TheVariants.{Damaged}
use Rattle.page_face.proofs.Frames.{changes_then}
use Rattle.btree_nodes.specs.Supply.{View, view}
use Rattle.btree_nodes.proofs.Harms.{asks-further, asks-nothing}
use Rattle.node_rows.specs.Rows.{Bytes, bytes_in}
use Rattle.node_rows.specs.Impacts.{with_byte}
use Rattle.node_rows.specs.Refreshing.{on_words}
use Rattle.node_rows.proofs.Harms.{harm-later}
use Rattle.node_rows.proofs.Turned.{turns-same, turns-as, turns-further}
use Rattle.node_rows.proofs.Told.{told-turned}
use Rattle.node_rows.proofs.Faults.{changes-none}
use Rattle.split_condense.specs.Clears.{cleared}
use Rattle.split_condense.proofs.Clearings.{cleared-next}
use Rattle.split_condense.proofs.clearing.clear_words.Goals as goal

pub loop-pair-init : goal.loop-pair-init
loop-pair-init g c = record {
  root = refl;
  turns = λ free rows. turns-same (view (g.P.Pages.pages c.args.pages.now) (g.P.Pages.count c.args.pages.now) (g.P.Pages.first c.args.pages.now) free) c.args.tree.now.rows rows;
  told = λ t. t;
  more = λ t. asks-nothing (λ _. 1) (g.P.Pages.asked c.args.pages.now) (g.P.Pages.asked c.args.pages.now) refl;
  frame = changes-none g.P.Pages c.args.pages.now (g.met.P.Pages.stays c.args.pages.now);
  faults = search rules;
}

pub loop-pair-preserved : goal.loop-pair-preserved
loop-pair-preserved g c = record {
  root = c.set_impact.ensures.root ∙ c.loop-pair.invariant.root;
  turns = λ free rows.
      let before : View = view (g.P.Pages.pages c.args.pages.now) (g.P.Pages.count c.args.pages.now) (g.P.Pages.first c.args.pages.now) free in
      let b : Bytes = bytes_in (g.P.Pages.pages c.args.pages.now) c.args.tree.now.rows in
      let turn = c.loop-pair.invariant.turns free rows in
      let l : c.loop-pair.pair-index < length c.args.words.now = omega arith in
      let p : ℕ × ℕ = get_or c.args.words.now c.loop-pair.pair-index (0, 0) in
      let front : List (ℕ × ℕ) = take c.loop-pair.pair-index c.args.words.now in
      let f : Bytes = cleared c.args.node c.args.slot b in
      let now : Bytes = bytes_in (g.P.Pages.pages c.loop-pair.pages) c.loop-pair.tree.rows in
      let d : Bytes = on_words (take (c.loop-pair.pair-index + 1) c.args.words.now) f b in
      turns-further before c.args.tree.now.rows (g.P.Pages.pages c.loop-pair.pages) (g.P.Pages.count c.loop-pair.pages) (g.P.Pages.first c.loop-pair.pages) c.loop-pair.tree.rows (on_words front f b) turn
      (g.P.Pages.pages c.set_impact.new.pages) (g.P.Pages.count c.set_impact.new.pages) (g.P.Pages.first c.set_impact.new.pages) c.set_impact.new.tree.rows d
      (turns-as _ c.loop-pair.tree.rows (g.P.Pages.pages c.set_impact.new.pages) (g.P.Pages.count c.set_impact.new.pages) (g.P.Pages.first c.set_impact.new.pages) c.set_impact.new.tree.rows
      (with_byte c.args.node p.0 c.args.slot 0 now) d
      (λ n w i. cleared-next c.args.node c.args.slot b now front turn.is p n w i
      ∙ ap (λ (ps : List (ℕ × ℕ)). on_words ps f b n w i) (sym (take_more c.args.words.now c.loop-pair.pair-index (0, 0) l)))
      (c.in_ok-set_impact.ensures.turns turn.free turn.rows));
  told = λ t. c.in_ok-set_impact.ensures.told (c.loop-pair.invariant.told t);
  more = λ t. asks-further (λ _. 1) _ _ _ (c.loop-pair.invariant.more t) (c.set_impact.ensures.more (c.loop-pair.invariant.told t));
  frame = changes_then g.P.Pages g.met.P.Pages.goes_further _ _ _ c.loop-pair.invariant.frame c.set_impact.ensures.frame;
  faults = search rules;
}

pub returns-in_err-set_impact-clause-no_false_damage : goal.returns-in_err-set_impact-clause-no_false_damage
returns-in_err-set_impact-clause-no_false_damage g c free rows told damage =
    let before : View = view (g.P.Pages.pages c.args.pages.now) (g.P.Pages.count c.args.pages.now) (g.P.Pages.first c.args.pages.now) free in
    let b : Bytes = bytes_in (g.P.Pages.pages c.args.pages.now) c.args.tree.now.rows in
    let turn = c.loop-pair.invariant.turns free rows in
    let p = err_from_is_err_and c.from_residual.result c.from_residual.ensures.1 in
    λ e. (let same : c.in_err-set_impact.field-0.0 ≡ Damaged damage = cc (p.1, p.2, e) in
    c.in_err-set_impact.ensures.no_false_damage turn.free turn.rows (told-turned before c.args.tree.now.rows (g.P.Pages.pages c.loop-pair.pages) (g.P.Pages.count c.loop-pair.pages) (g.P.Pages.first c.loop-pair.pages) c.loop-pair.tree.rows
    (on_words (take c.loop-pair.pair-index c.args.words.now) (cleared c.args.node c.args.slot b) b) turn told) damage (ap Err same))

pub returns-in_err-set_impact-clause-damaged : goal.returns-in_err-set_impact-clause-damaged
returns-in_err-set_impact-clause-damaged g c = λ told damage.
    let p = g.P.Pages in
    let r = err_from_is_err_and c.from_residual.result c.from_residual.ensures.1 in
    λ e. (let same : c.in_err-set_impact.field-0.0 ≡ Damaged damage = cc (r.1, r.2, e) in
    harm-later c.set_impact.new.tree.rows (λ _. 1) (p.pages c.set_impact.new.pages) (p.count c.set_impact.new.pages) (p.first c.set_impact.new.pages) (p.asked c.args.pages.now) (p.asked c.loop-pair.pages) (p.asked c.set_impact.new.pages) damage
    (c.loop-pair.invariant.more told) (c.in_err-set_impact.ensures.damaged (c.loop-pair.invariant.told told) damage (ap Err same)))

pub returns-in_err-set_impact-clause-more : goal.returns-in_err-set_impact-clause-more
returns-in_err-set_impact-clause-more g c = λ told. asks-further (λ _. 1) _ _ _ (c.loop-pair.invariant.more told) (c.set_impact.ensures.more (c.loop-pair.invariant.told told))
