use Rattle.std.proofs.Common.{◌≡◌, ℕ, ◌+◌, ◌<◌, ◌≤◌, ◌∙◌, sym, ap, subst, arith, slice_index, Err}
use Rattle.std.proofs.lemmas.Result.{err_from_is_err_and, on_ok_weaker}
use Rattle.page_face.specs.FreeList.{PageMap}
use Rattle.page_face.specs.declared.fault.PageFault.TheVariants.{Damaged}
use Rattle.btree_nodes.specs.Supply.{View, view}
use Rattle.btree_nodes.specs.Tree.{IsMap, map_uses}
use Rattle.btree_nodes.specs.Damages.{AreReadable, AsksOnly}
use Rattle.btree_nodes.proofs.Harms.{asks-further, asks-more}
use Rattle.paged_map.specs.Maps.{AreCounted}
use Rattle.paged_map.proofs.Maps.{kept-counted}
use Rattle.rtree_nodes.specs.Stock.{rows_form}
use Rattle.node_rows.specs.Rows.{Bytes, bytes_in}
use Rattle.node_rows.specs.Ascents.{until}
use Rattle.node_rows.specs.Impacts.{refreshed, with_byte, top_at}
use Rattle.node_rows.proofs.Ascents.{left}
use Rattle.node_rows.proofs.Harms.{harm-later}
use Rattle.node_rows.proofs.Turned.{turns-as, turns-further, turned-rest}
use Rattle.node_rows.proofs.Told.{told-turned}
use Rattle.node_rows.proofs.Impacts.{top-row}
use Rattle.node_rows.proofs.Refreshes.{least, ahead-byte, refreshed-next}
use Rattle.node_inverted.proofs.refreshing.refresh_word.Goals as goal

pub returns-clause-turns : goal.returns-clause-turns
returns-clause-turns g c = λ before root b bounded apart first h held_low held_high.
    let old : PageMap = g.P.Pages.pages c.args.pages.now in
    let word : ℕ = c.args.number in
    let node : ℕ = c.args.node in
    let slot : ℕ = c.args.slot in
    let child : ℕ = c.args.child in
    let k : ℕ = h.k in
    let turn = h.turn in
    let now : Bytes = bytes_in old c.args.tree.now.rows in
    let f : Bytes = refreshed node slot child b in
    let l = least c.args.below.now c.args.above.now word first in
    let on : k ≤ word = l.on b b child node k h.low h.high in
    let low : (i : ℕ) → slice_index c.row_ahead-low.result i ≡ b child word i = λ i. c.row_ahead-low.ensures i ∙ ahead-byte b child k word c.args.below.now h.low on l.from_o i in
    let stays : (n w i : ℕ) → k ≤ w → now n w i ≡ b n w i = left f b now k turn.is in
    let high : (i : ℕ) → slice_index c.row_ahead-high.result i ≡ now node word i =
    λ i. c.row_ahead-high.ensures i ∙ ahead-byte b node k word c.args.above.now h.high on l.from_p i ∙ sym (stays node word i on) in
    let byte_is : c.greatest-byte.result ≡ top_at b child word = c.greatest-byte.ensures ∙ top-row b child word c.row_ahead-low.result low in
    let mid : PageMap = g.P.Pages.pages c.set_byte.new.pages in
    let set = c.in_ok-set_byte.ensures.turns turn.free turn.rows high in
    let d : Bytes = until (word + 1) f b in
    let next = turns-further before root old (g.P.Pages.count c.args.pages.now) (g.P.Pages.first c.args.pages.now) c.args.tree.now.rows (until k f b) turn
    mid (g.P.Pages.count c.set_byte.new.pages) (g.P.Pages.first c.set_byte.new.pages) c.set_byte.new.tree.rows d
    (turns-as _ c.args.tree.now.rows mid (g.P.Pages.count c.set_byte.new.pages) (g.P.Pages.first c.set_byte.new.pages) c.set_byte.new.tree.rows (with_byte node word slot c.greatest-byte.result now) d
    (refreshed-next node slot child word b now k c.args.below.now c.args.above.now on turn.is h.low h.high l.from_o l.from_p c.greatest-byte.result byte_is) set) in
    let after : (n w i : ℕ) → word < w → bytes_in mid c.set_byte.new.tree.rows n w i ≡ b n w i = λ n w i m. left f b (bytes_in mid c.set_byte.new.tree.rows) (word + 1) next.is n w i (omega arith) in
    let one = c.pass.ensures.frame in
    let two = c.pass-2.ensures.frame in
    let small = c.ranges.number.fits in
    let low' = c.in_ok-pass.ensures.ahead b k next.rows.kept.map (λ w i m. after child w i m) on h.low held_low in
    on_ok_weaker c.pass-2.result (λ high'. (
      record {
        k = word + 1;
        small = omega arith;
        turn = turned-rest before root mid (g.P.Pages.pages c.pass-2.new.pages) (g.P.Pages.count c.set_byte.new.pages) (g.P.Pages.count c.pass-2.new.pages) (g.P.Pages.first c.set_byte.new.pages) (g.P.Pages.first c.pass-2.new.pages) c.set_byte.new.tree.rows d d
            (two.pages ∙ one.pages) (two.count ∙ one.count) (two.first ∙ one.first) (λ n w i. λ j. d n w i) next;
        low = low'.0;
        high = high'.0;
      },
      low'.1,
      high'.1,
    )) (c.pass-2.ensures.ahead b k (subst (λ (p : PageMap). IsMap rows_form p c.set_byte.new.tree.rows) (sym one.pages) next.rows.kept.map)
    (subst (λ (p : PageMap). (w i : ℕ) → word < w → bytes_in p c.set_byte.new.tree.rows node w i ≡ b node w i) (sym one.pages) (λ w i m. after node w i m)) on h.high held_high)

pub returns-in_err-set_byte-clause-no_false_damage : goal.returns-in_err-set_byte-clause-no_false_damage
returns-in_err-set_byte-clause-no_false_damage g c = λ before root b apart first h told damage.
    let p = err_from_is_err_and c.from_residual.result c.from_residual.ensures.1 in
    λ e. (let same : c.in_err-set_byte.field-0.0 ≡ Damaged damage = cc (p.1, p.2, e) in
    c.in_err-set_byte.ensures.no_false_damage h.turn.free h.turn.rows damage (ap Err same))

pub returns-in_err-pass-clause-no_false_damage : goal.returns-in_err-pass-clause-no_false_damage
returns-in_err-pass-clause-no_false_damage g c = λ before root b apart first h told damage.
    let old : PageMap = g.P.Pages.pages c.args.pages.now in
    let here : View = view old (g.P.Pages.count c.args.pages.now) (g.P.Pages.first c.args.pages.now) h.turn.free in
    let now : Bytes = bytes_in old c.args.tree.now.rows in
    let l = least c.args.below.now c.args.above.now c.args.number first in
    let on : h.k ≤ c.args.number = l.on b b c.args.child c.args.node h.k h.low h.high in
    let high : (i : ℕ) → slice_index c.row_ahead-high.result i ≡ now c.args.node c.args.number i =
    λ i. c.row_ahead-high.ensures i ∙ ahead-byte b c.args.node h.k c.args.number c.args.above.now h.high on l.from_p i ∙ sym (left (refreshed c.args.node c.args.slot c.args.child b) b now h.k h.turn.is c.args.node c.args.number i on) in
    let set = c.in_ok-set_byte.ensures.turns h.turn.free h.turn.rows high in
    let mid : View = view (g.P.Pages.pages c.set_byte.new.pages) (g.P.Pages.count c.set_byte.new.pages) (g.P.Pages.first c.set_byte.new.pages) set.free in
    let still = told-turned here c.args.tree.now.rows (g.P.Pages.pages c.set_byte.new.pages) (g.P.Pages.count c.set_byte.new.pages) (g.P.Pages.first c.set_byte.new.pages) c.set_byte.new.tree.rows
    (with_byte c.args.node c.args.number c.args.slot c.greatest-byte.result now) set told in
    let p = err_from_is_err_and c.from_residual-in_err-pass.result c.from_residual-in_err-pass.ensures.1 in
    λ e. (let same : c.in_err-pass.field-0.0 ≡ Damaged damage = cc (p.1, p.2, e) in
    c.in_err-pass.ensures.no_false_damage set.rows.kept.map (kept-counted rows_form mid c.set_byte.new.tree.rows set.rows.kept) still damage (ap Err same))

pub returns-clause-no_false_damage : goal.returns-clause-no_false_damage
returns-clause-no_false_damage g c = λ before root b apart first h told damage.
    let old : PageMap = g.P.Pages.pages c.args.pages.now in
    let here : View = view old (g.P.Pages.count c.args.pages.now) (g.P.Pages.first c.args.pages.now) h.turn.free in
    let now : Bytes = bytes_in old c.args.tree.now.rows in
    let l = least c.args.below.now c.args.above.now c.args.number first in
    let on : h.k ≤ c.args.number = l.on b b c.args.child c.args.node h.k h.low h.high in
    let high : (i : ℕ) → slice_index c.row_ahead-high.result i ≡ now c.args.node c.args.number i =
    λ i. c.row_ahead-high.ensures i ∙ ahead-byte b c.args.node h.k c.args.number c.args.above.now h.high on l.from_p i ∙ sym (left (refreshed c.args.node c.args.slot c.args.child b) b now h.k h.turn.is c.args.node c.args.number i on) in
    let set = c.in_ok-set_byte.ensures.turns h.turn.free h.turn.rows high in
    let mid : View = view (g.P.Pages.pages c.set_byte.new.pages) (g.P.Pages.count c.set_byte.new.pages) (g.P.Pages.first c.set_byte.new.pages) set.free in
    let rows : ℕ = c.set_byte.new.tree.rows in
    let still = told-turned here c.args.tree.now.rows (g.P.Pages.pages c.set_byte.new.pages) (g.P.Pages.count c.set_byte.new.pages) (g.P.Pages.first c.set_byte.new.pages) rows
    (with_byte c.args.node c.args.number c.args.slot c.greatest-byte.result now) set told in
    let one = c.pass.ensures.frame in
    let map : IsMap rows_form (g.P.Pages.pages c.pass.new.pages) rows = rw one.pages set.rows.kept.map in
    let counted : AreCounted (map_uses rows_form (g.P.Pages.pages c.pass.new.pages) rows) (g.P.Pages.count c.pass.new.pages) = rw (one.pages, one.count) (kept-counted rows_form mid rows set.rows.kept) in
    let told' : AreReadable (g.P.Pages.pages c.pass.new.pages) (g.P.Pages.count c.pass.new.pages) = rw (one.pages, one.count) still in
    c.pass-2.ensures.no_false_damage map counted told' damage

pub returns-in_err-set_byte-clause-damaged : goal.returns-in_err-set_byte-clause-damaged
returns-in_err-set_byte-clause-damaged g c = λ told damage.
    let r = err_from_is_err_and c.from_residual.result c.from_residual.ensures.1 in
    λ e. (let same : c.in_err-set_byte.field-0.0 ≡ Damaged damage = cc (r.1, r.2, e) in
    c.in_err-set_byte.ensures.damaged told damage (ap Err same))

pub returns-in_err-pass-clause-damaged : goal.returns-in_err-pass-clause-damaged
returns-in_err-pass-clause-damaged g c = λ told damage.
    let p = g.P.Pages in
    let r = err_from_is_err_and c.from_residual-in_err-pass.result c.from_residual-in_err-pass.ensures.1 in
    λ e. (let same : c.in_err-pass.field-0.0 ≡ Damaged damage = cc (r.1, r.2, e) in
    harm-later _ (λ _. 1) (p.pages c.pass.new.pages) (p.count c.pass.new.pages) (p.first c.pass.new.pages) (p.asked c.args.pages.now) (p.asked c.set_byte.new.pages) (p.asked c.pass.new.pages) damage
    (c.set_byte.ensures.more told) (c.in_err-pass.ensures.damaged (c.in_ok-set_byte.ensures.told told) damage (ap Err same)))

pub returns-in_err-pass-clause-more : goal.returns-in_err-pass-clause-more
returns-in_err-pass-clause-more g c = λ told.
    let p = g.P.Pages in
    asks-further (λ _. 1) (p.asked c.args.pages.now) (p.asked c.set_byte.new.pages) (p.asked c.pass.new.pages) (c.set_byte.ensures.more told)
    (asks-more (map_uses rows_form (p.pages c.set_byte.new.pages) c.set_byte.new.tree.rows) (λ _. 1) (p.asked c.set_byte.new.pages) (p.asked c.pass.new.pages) (λ n h. omega arith) (c.pass.ensures.own (c.in_ok-set_byte.ensures.told told)))

pub returns-clause-damaged : goal.returns-clause-damaged
returns-clause-damaged g c = λ told damage e.
    let p = g.P.Pages in
    let told' : AreReadable (p.pages c.pass.new.pages) (p.count c.pass.new.pages) = rw (c.pass.ensures.frame.pages, c.pass.ensures.frame.count) (c.in_ok-set_byte.ensures.told told) in
    let more : AsksOnly (λ _. 1) (p.asked c.args.pages.now) (p.asked c.pass.new.pages) = asks-further (λ _. 1) (p.asked c.args.pages.now) (p.asked c.set_byte.new.pages) (p.asked c.pass.new.pages) (c.set_byte.ensures.more told)
    (asks-more (map_uses rows_form (p.pages c.set_byte.new.pages) c.set_byte.new.tree.rows) (λ _. 1) (p.asked c.set_byte.new.pages) (p.asked c.pass.new.pages) (λ n h. omega arith) (c.pass.ensures.own (c.in_ok-set_byte.ensures.told told))) in
    harm-later _ (λ _. 1) (p.pages c.pass-2.new.pages) (p.count c.pass-2.new.pages) (p.first c.pass-2.new.pages) (p.asked c.args.pages.now) (p.asked c.pass.new.pages) (p.asked c.pass-2.new.pages) damage
    more (c.pass-2.ensures.damaged told' damage e)

pub returns-clause-more : goal.returns-clause-more
returns-clause-more g c = λ told.
    let p = g.P.Pages in
    let told' : AreReadable (p.pages c.pass.new.pages) (p.count c.pass.new.pages) = rw (c.pass.ensures.frame.pages, c.pass.ensures.frame.count) (c.in_ok-set_byte.ensures.told told) in
    let more : AsksOnly (λ _. 1) (p.asked c.args.pages.now) (p.asked c.pass.new.pages) = asks-further (λ _. 1) (p.asked c.args.pages.now) (p.asked c.set_byte.new.pages) (p.asked c.pass.new.pages) (c.set_byte.ensures.more told)
    (asks-more (map_uses rows_form (p.pages c.set_byte.new.pages) c.set_byte.new.tree.rows) (λ _. 1) (p.asked c.set_byte.new.pages) (p.asked c.pass.new.pages) (λ n h. omega arith) (c.pass.ensures.own (c.in_ok-set_byte.ensures.told told))) in
    asks-further (λ _. 1) (p.asked c.args.pages.now) (p.asked c.pass.new.pages) (p.asked c.pass-2.new.pages) more
    (asks-more (map_uses rows_form (p.pages c.pass.new.pages) c.set_byte.new.tree.rows) (λ _. 1) (p.asked c.pass.new.pages) (p.asked c.pass-2.new.pages) (λ n h. omega arith) (c.pass-2.ensures.own told'))

pub returns-clause-told : goal.returns-clause-told
returns-clause-told g c = λ told.
    let p = g.P.Pages in
    let one = c.pass.ensures.frame in
    let two = c.pass-2.ensures.frame in
    let told' : AreReadable (p.pages c.pass.new.pages) (p.count c.pass.new.pages) = rw (one.pages, one.count) (c.in_ok-set_byte.ensures.told told) in
    let still : AreReadable (p.pages c.pass-2.new.pages) (p.count c.pass-2.new.pages) = rw (two.pages, two.count) told' in
    on_ok_weaker c.pass-2.result (λ past. still) c.pass-2.ensures.past
