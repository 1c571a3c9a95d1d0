use Rattle.std.proofs.Common.{◌≡◌, ◌≤◌, ℕ, ◌∙◌, refl, sym, ap, subst, arith, None, Some, Err, rules}
use Rattle.std.proofs.lemmas.Result.{err_from_is_err_and}
use Rattle.page_face.specs.FreeList.{PageMap}
use Rattle.page_face.specs.declared.fault.PageFault.TheVariants.{Damaged}
use Rattle.page_face.proofs.Frames.{changes_then}
use Rattle.btree_nodes.specs.Supply.{View, view}
use Rattle.btree_nodes.specs.Damages.{AreReadable}
use Rattle.btree_nodes.proofs.Harms.{asks-further, asks-more}
use Rattle.btree_nodes.specs.Tree.{IsMap, map_rows, map_uses}
use Rattle.paged_map.specs.Maps.{AreCounted}
use Rattle.paged_map.proofs.Maps.{kept-counted}
use Rattle.rtree_nodes.specs.Stock.{rows_form}
use Rattle.node_rows.specs.Rows.{Bytes, bytes_in}
use Rattle.node_rows.specs.Ascents.{until}
use Rattle.node_rows.specs.Impacts.{refreshed}
use Rattle.node_rows.specs.Refreshing.{IsBounded, lesser_of, word_of}
use Rattle.node_rows.proofs.Bytes.{bytes-large}
use Rattle.node_rows.proofs.Faults.{changes-none}
use Rattle.node_rows.proofs.Harms.{harm-later, harm-looked}
use Rattle.node_rows.proofs.Told.{told-turned}
use Rattle.node_rows.proofs.Refreshes.{refresh-begins, refreshed-all}
use Rattle.node_inverted.proofs.refreshing.refresh.Goals as goal

pub loop-number-init : goal.loop-number-init
loop-number-init g c =
    let p = g.P.Pages in
    let one = c.next_in.ensures.frame in
    let two = c.next_in-2.ensures.frame in
    record {
      root = refl;
      turns = λ before root b bounded apart begun begun_low begun_high. (begun, begun_low, begun_high);
      told = λ told. rw (two.pages ∙ one.pages, two.count ∙ one.count) told;
      more = λ told. asks-further (λ _. 1) (p.asked c.args.pages.now) (p.asked c.next_in.new.pages) (p.asked c.next_in-2.new.pages)
          (asks-more (map_uses rows_form (p.pages c.args.pages.now) c.args.tree.now.rows) (λ _. 1) (p.asked c.args.pages.now) (p.asked c.next_in.new.pages) (λ n h. omega arith) (c.next_in.ensures.own told))
          (asks-more (map_uses rows_form (p.pages c.next_in.new.pages) c.args.tree.now.rows) (λ _. 1) (p.asked c.next_in.new.pages) (p.asked c.next_in-2.new.pages) (λ n h. omega arith) (c.next_in-2.ensures.own (rw (one.pages, one.count) told)));
      frame = changes-none p c.next_in-2.new.pages (g.met.P.Pages.stays c.next_in-2.new.pages);
      faults = search rules;
    }

pub loop-number-preserved : goal.loop-number-preserved
loop-number-preserved g c = record {
  root = c.refresh_word.ensures.root ∙ c.loop-number.invariant.root;
  turns = λ before root b bounded apart begun begun_low begun_high.
      let h = c.loop-number.invariant.turns before root b bounded apart begun begun_low begun_high in
      let first : lesser_of (word_of c.loop-number.below) (word_of c.loop-number.above) ≡ Some c.in-Some.number = sym c.next_word.ensures ∙ c.in-Some.is in
      c.in_ok-refresh_word.ensures.turns before root b bounded apart first h.0 h.1 h.2;
  told = λ t. c.in_ok-refresh_word.ensures.told (c.loop-number.invariant.told t);
  more = λ t. asks-further (λ _. 1) _ _ _ (c.loop-number.invariant.more t) (c.refresh_word.ensures.more (c.loop-number.invariant.told t));
  frame = changes_then g.P.Pages g.met.P.Pages.goes_further _ _ _ c.loop-number.invariant.frame c.refresh_word.ensures.frame;
  faults = search rules;
}

pub returns-clause-turns : goal.returns-clause-turns
returns-clause-turns g c = λ free rows apart.
    let old : PageMap = g.P.Pages.pages c.args.pages.now in
    let before : View = view old (g.P.Pages.count c.args.pages.now) (g.P.Pages.first c.args.pages.now) free in
    let root : ℕ = c.args.tree.now.rows in
    let b : Bytes = bytes_in old root in
    let bounded : IsBounded b = λ n w i l. bytes-large (map_rows rows_form old root) n w i l in
    let one = c.next_in.ensures.frame in
    let two = c.next_in-2.ensures.frame in
    let map' : IsMap rows_form (g.P.Pages.pages c.next_in.new.pages) root = subst (λ (p : PageMap). IsMap rows_form p root) (sym one.pages) rows.kept.map in
    let same : (w i : ℕ) → 0 ≤ w → bytes_in (g.P.Pages.pages c.next_in.new.pages) root c.args.node w i ≡ b c.args.node w i = λ w i l. ap (λ (p : PageMap). bytes_in p root c.args.node w i) one.pages in
    let none_low = c.none-below_copy.ensures.copy b c.args.child in
    let none_high = c.none-above_copy.ensures.copy b c.args.node in
    let held_low = c.in_ok-below.ensures.copy b rows.kept.map (λ w i l. refl) none_low in
    let held_high = c.in_ok-above.ensures.copy b map' same none_high in
    let high = c.in_ok-above.ensures.next b map' same none_high in
    let begun = refresh-begins before root rows (g.P.Pages.pages c.next_in-2.new.pages) (g.P.Pages.count c.next_in-2.new.pages) (g.P.Pages.first c.next_in-2.new.pages) c.args.node c.args.slot c.args.child c.in_ok-below.below c.in_ok-above.above
    (two.pages ∙ one.pages) (two.count ∙ one.count) (two.first ∙ one.first) (c.in_ok-below.ensures.next b rows.kept.map (λ w i l. refl) none_low) high in
    let none : lesser_of (word_of c.loop-number.below) (word_of c.loop-number.above) ≡ None = sym c.next_word.ensures ∙ c.in_default.is in
    refreshed-all before root (g.P.Pages.pages c.loop-number.pages) (g.P.Pages.count c.loop-number.pages) (g.P.Pages.first c.loop-number.pages) c.loop-number.tree.rows c.args.node c.args.slot c.args.child b c.loop-number.below c.loop-number.above bounded none
    (c.loop-number.invariant.turns before root b bounded apart begun held_low held_high).0

pub returns-in_err-refresh_word-clause-no_false_damage : goal.returns-in_err-refresh_word-clause-no_false_damage
returns-in_err-refresh_word-clause-no_false_damage g c = λ free rows apart told damage.
    let old : PageMap = g.P.Pages.pages c.args.pages.now in
    let before : View = view old (g.P.Pages.count c.args.pages.now) (g.P.Pages.first c.args.pages.now) free in
    let root : ℕ = c.args.tree.now.rows in
    let b : Bytes = bytes_in old root in
    let bounded : IsBounded b = λ n w i l. bytes-large (map_rows rows_form old root) n w i l in
    let one = c.next_in.ensures.frame in
    let two = c.next_in-2.ensures.frame in
    let map' : IsMap rows_form (g.P.Pages.pages c.next_in.new.pages) root = subst (λ (p : PageMap). IsMap rows_form p root) (sym one.pages) rows.kept.map in
    let same : (w i : ℕ) → 0 ≤ w → bytes_in (g.P.Pages.pages c.next_in.new.pages) root c.args.node w i ≡ b c.args.node w i = λ w i l. ap (λ (p : PageMap). bytes_in p root c.args.node w i) one.pages in
    let none_low = c.none-below_copy.ensures.copy b c.args.child in
    let none_high = c.none-above_copy.ensures.copy b c.args.node in
    let held_low = c.in_ok-below.ensures.copy b rows.kept.map (λ w i l. refl) none_low in
    let held_high = c.in_ok-above.ensures.copy b map' same none_high in
    let high = c.in_ok-above.ensures.next b map' same none_high in
    let begun = refresh-begins before root rows (g.P.Pages.pages c.next_in-2.new.pages) (g.P.Pages.count c.next_in-2.new.pages) (g.P.Pages.first c.next_in-2.new.pages) c.args.node c.args.slot c.args.child c.in_ok-below.below c.in_ok-above.above
    (two.pages ∙ one.pages) (two.count ∙ one.count) (two.first ∙ one.first) (c.in_ok-below.ensures.next b rows.kept.map (λ w i l. refl) none_low) high in
    let first : lesser_of (word_of c.loop-number.below) (word_of c.loop-number.above) ≡ Some c.in-Some.number = sym c.next_word.ensures ∙ c.in-Some.is in
    let h = (c.loop-number.invariant.turns before root b bounded apart begun held_low held_high).0 in
    let still = told-turned before root (g.P.Pages.pages c.loop-number.pages) (g.P.Pages.count c.loop-number.pages) (g.P.Pages.first c.loop-number.pages) c.loop-number.tree.rows (until h.k (refreshed c.args.node c.args.slot c.args.child b) b) h.turn told in
    let p = err_from_is_err_and c.from_residual-in_err-refresh_word.result c.from_residual-in_err-refresh_word.ensures.1 in
    λ e. (let same : c.in_err-refresh_word.field-0.0 ≡ Damaged damage = cc (p.1, p.2, e) in
    c.in_err-refresh_word.ensures.no_false_damage before root b apart first h still damage (ap Err same))

pub returns-in_err-below-clause-no_false_damage : goal.returns-in_err-below-clause-no_false_damage
returns-in_err-below-clause-no_false_damage g c = λ free rows apart told damage.
    let before : View = view (g.P.Pages.pages c.args.pages.now) (g.P.Pages.count c.args.pages.now) (g.P.Pages.first c.args.pages.now) free in
    let p = err_from_is_err_and c.from_residual.result c.from_residual.ensures.1 in
    λ e. (let same : c.in_err-below.field-0.0 ≡ Damaged damage = cc (p.1, p.2, e) in
    c.in_err-below.ensures.no_false_damage rows.kept.map (kept-counted rows_form before c.args.tree.now.rows rows.kept) told damage (ap Err same))

pub returns-in_err-above-clause-no_false_damage : goal.returns-in_err-above-clause-no_false_damage
returns-in_err-above-clause-no_false_damage g c = λ free rows apart told damage.
    let before : View = view (g.P.Pages.pages c.args.pages.now) (g.P.Pages.count c.args.pages.now) (g.P.Pages.first c.args.pages.now) free in
    let root : ℕ = c.args.tree.now.rows in
    let one = c.next_in.ensures.frame in
    let map : IsMap rows_form (g.P.Pages.pages c.next_in.new.pages) root = rw one.pages rows.kept.map in
    let counted : AreCounted (map_uses rows_form (g.P.Pages.pages c.next_in.new.pages) root) (g.P.Pages.count c.next_in.new.pages) = rw (one.pages, one.count) (kept-counted rows_form before root rows.kept) in
    let told' : AreReadable (g.P.Pages.pages c.next_in.new.pages) (g.P.Pages.count c.next_in.new.pages) = rw (one.pages, one.count) told in
    let p = err_from_is_err_and c.from_residual-in_err-above.result c.from_residual-in_err-above.ensures.1 in
    λ e. (let same : c.in_err-above.field-0.0 ≡ Damaged damage = cc (p.1, p.2, e) in
    c.in_err-above.ensures.no_false_damage map counted told' damage (ap Err same))

pub returns-in_err-below-clause-damaged : goal.returns-in_err-below-clause-damaged
returns-in_err-below-clause-damaged g c = λ told damage.
    let p = g.P.Pages in
    let f = c.next_in.ensures.frame in
    let r = err_from_is_err_and c.from_residual.result c.from_residual.ensures.1 in
    λ e. (let same : c.in_err-below.field-0.0 ≡ Damaged damage = cc (r.1, r.2, e) in
    harm-looked (p.pages c.args.pages.now) (p.pages c.next_in.new.pages) (p.count c.args.pages.now) (p.count c.next_in.new.pages) (p.first c.next_in.new.pages) c.args.tree.now.rows (p.asked c.args.pages.now) (p.asked c.next_in.new.pages) damage
    f.pages f.count (c.in_err-below.ensures.damaged told damage (ap Err same)))

pub returns-in_err-below-clause-more : goal.returns-in_err-below-clause-more
returns-in_err-below-clause-more g c = λ told.
    let p = g.P.Pages in
    (asks-more (map_uses rows_form (p.pages c.args.pages.now) c.args.tree.now.rows) (λ _. 1) (p.asked c.args.pages.now) (p.asked c.next_in.new.pages) (λ n h. omega arith) (c.next_in.ensures.own told))

pub returns-in_err-above-clause-damaged : goal.returns-in_err-above-clause-damaged
returns-in_err-above-clause-damaged g c = λ told damage.
    let p = g.P.Pages in
    let one = c.next_in.ensures.frame in
    let two = c.next_in-2.ensures.frame in
    let r = err_from_is_err_and c.from_residual-in_err-above.result c.from_residual-in_err-above.ensures.1 in
    λ e. (let same : c.in_err-above.field-0.0 ≡ Damaged damage = cc (r.1, r.2, e) in
    harm-later _ (map_uses rows_form (p.pages c.args.pages.now) c.args.tree.now.rows) (p.pages c.next_in-2.new.pages) (p.count c.next_in-2.new.pages) (p.first c.next_in-2.new.pages)
    (p.asked c.args.pages.now) (p.asked c.next_in.new.pages) (p.asked c.next_in-2.new.pages) damage (c.next_in.ensures.own told)
    (harm-looked (p.pages c.next_in.new.pages) (p.pages c.next_in-2.new.pages) (p.count c.next_in.new.pages) (p.count c.next_in-2.new.pages) (p.first c.next_in-2.new.pages) c.args.tree.now.rows
    (p.asked c.next_in.new.pages) (p.asked c.next_in-2.new.pages) damage two.pages two.count (c.in_err-above.ensures.damaged (rw (one.pages, one.count) told) damage (ap Err same))))

pub returns-in_err-above-clause-more : goal.returns-in_err-above-clause-more
returns-in_err-above-clause-more g c = λ told.
    let p = g.P.Pages in
    let one = c.next_in.ensures.frame in
    asks-further (λ _. 1) (p.asked c.args.pages.now) (p.asked c.next_in.new.pages) (p.asked c.next_in-2.new.pages)
    (asks-more (map_uses rows_form (p.pages c.args.pages.now) c.args.tree.now.rows) (λ _. 1) (p.asked c.args.pages.now) (p.asked c.next_in.new.pages) (λ n h. omega arith) (c.next_in.ensures.own told))
    (asks-more (map_uses rows_form (p.pages c.next_in.new.pages) c.args.tree.now.rows) (λ _. 1) (p.asked c.next_in.new.pages) (p.asked c.next_in-2.new.pages) (λ n h. omega arith) (c.next_in-2.ensures.own (rw (one.pages, one.count) told)))

pub returns-in_err-refresh_word-clause-damaged : goal.returns-in_err-refresh_word-clause-damaged
returns-in_err-refresh_word-clause-damaged g c = λ told damage.
    let p = g.P.Pages in
    let r = err_from_is_err_and c.from_residual-in_err-refresh_word.result c.from_residual-in_err-refresh_word.ensures.1 in
    λ e. (let same : c.in_err-refresh_word.field-0.0 ≡ Damaged damage = cc (r.1, r.2, e) in
    harm-later _ (λ _. 1) (p.pages c.refresh_word.new.pages) (p.count c.refresh_word.new.pages) (p.first c.refresh_word.new.pages) (p.asked c.args.pages.now) (p.asked c.loop-number.pages) (p.asked c.refresh_word.new.pages) damage
    (c.loop-number.invariant.more told) (c.in_err-refresh_word.ensures.damaged (c.loop-number.invariant.told told) damage (ap Err same)))

pub returns-in_err-refresh_word-clause-more : goal.returns-in_err-refresh_word-clause-more
returns-in_err-refresh_word-clause-more g c = λ told. asks-further (λ _. 1) _ _ _ (c.loop-number.invariant.more told) (c.refresh_word.ensures.more (c.loop-number.invariant.told told))

pub returns-clause-more : goal.returns-clause-more
returns-clause-more g c = λ told. c.loop-number.invariant.more told

pub returns-clause-told : goal.returns-clause-told
returns-clause-told g c = λ told. c.loop-number.invariant.told told
