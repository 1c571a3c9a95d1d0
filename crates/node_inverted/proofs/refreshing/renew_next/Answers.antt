use Rattle.std.proofs.Common.{◌≡◌, ℕ, ◌∙◌, inl, inr, sym, ap, subst, refl, arith, Err}
use Rattle.std.proofs.lemmas.Result.{err_from_is_err_and, on_ok_weaker}
use Rattle.page_face.specs.FreeList.{PageMap}
use Rattle.page_face.specs.declared.fault.PageFault.TheVariants.{Damaged}
use Rattle.btree_nodes.specs.Damages.{AsksOnly}
use Rattle.btree_nodes.specs.Tree.{IsMap, map_uses}
use Rattle.btree_nodes.proofs.Harms.{asks-further}
use Rattle.rtree_nodes.proofs.Amounts.{same_or}
use Rattle.rtree_nodes.specs.Stock.{rows_form}
use Rattle.node_rows.specs.Rows.{Bytes, bytes_in}
use Rattle.node_rows.specs.Turns.{Next}
use Rattle.node_rows.specs.Impacts.{refreshed, top_at}
use Rattle.node_inverted.specs.Drafts.{with_rows}
use Rattle.node_rows.proofs.Harms.{harm-later, harm-looked}
use Rattle.node_rows.proofs.Turned.{turned-rest}
use Rattle.node_rows.proofs.Impacts.{byte-here, byte-another, top-row}
use Rattle.node_rows.proofs.Refreshes.{ahead-byte, away, next-from, refreshed-beside, renewed-next}
use Rattle.node_inverted.proofs.refreshing.renew_next.Goals as goal

pub returns-clause-renewing : goal.returns-clause-renewing
returns-clause-renewing g c = λ before root impact b words apart h.
    let node : ℕ = c.args.node in
    let slot : ℕ = c.args.slot in
    let child : ℕ = c.args.child in
    let word : ℕ = c.args.number in
    let rows : ℕ = c.args.tree.now.rows in
    let f : Bytes = refreshed node slot child b in
    let one = c.next_in.ensures.frame in
    let two = c.next_in-2.ensures.frame in
    let map' : IsMap rows_form (g.P.Pages.pages c.next_in.new.pages) rows = rw one.pages h.turn.rows.kept.map in
    let same_low : (w i : ℕ) → bytes_in (g.P.Pages.pages c.args.pages.now) rows child w i ≡ b child w i = λ w i. h.turn.is child w i ∙ h.child_is w i in
    let same_high : (w i : ℕ) → bytes_in (g.P.Pages.pages c.next_in.new.pages) rows node w i ≡ h.bytes node w i = λ w i. rw one.pages (h.turn.is node w i) in
    let low : Next b child word c.in_ok-low_ahead.low_ahead = c.in_ok-low_ahead.ensures.next b h.turn.rows.kept.map (λ w i l. same_low w i) h.low in
    let high : Next h.bytes node word c.in_ok-high_ahead.high_ahead = c.in_ok-high_ahead.ensures.next h.bytes map' (λ w i l. same_high w i) h.high in
    let byte : ℕ = c.greatest-byte.result in
    let byte_is : byte ≡ top_at b child word = c.greatest-byte.ensures ∙ top-row b child word c.row_ahead-low.result
    (λ i. c.row_ahead-low.ensures i ∙ ahead-byte b child word word c.in_ok-low_ahead.low_ahead low (omega arith) (next-from b child word c.in_ok-low_ahead.low_ahead low) i) in
    let v : Bytes = with_rows node c.args.rows.now.items h.bytes in
    on_ok_weaker c.renew_row.result (λ step. record {
      bytes = h.bytes;
      turn = turned-rest before root (g.P.Pages.pages c.args.pages.now) (g.P.Pages.pages c.next_in-2.new.pages) (g.P.Pages.count c.args.pages.now) (g.P.Pages.count c.next_in-2.new.pages)
          (g.P.Pages.first c.args.pages.now) (g.P.Pages.first c.next_in-2.new.pages) rows h.bytes h.bytes (two.pages ∙ one.pages) (two.count ∙ one.count) (two.first ∙ one.first) (λ n w i. refl) h.turn;
      is = λ n w i. step n w i ∙ renewed-next node slot child b v words apart h.is (word, impact) byte byte_is n w i;
      beside = h.beside;
      child_is = h.child_is;
      right = λ w e. step node w slot ∙ elim (same_or w word) [
        | inl k ↦ byte-here node word slot byte v node w slot (λ j. node) k (λ j. slot) ∙ byte_is ∙ ap (top_at b child) (sym k)
        | inr k ↦ byte-another node word slot byte v node w slot k ∙ h.right w e
      ];
      low = c.in_ok-low_ahead.ensures.copy b h.turn.rows.kept.map (λ w i l. same_low w i) h.low;
      high = c.in_ok-high_ahead.ensures.copy h.bytes map' (λ w i l. same_high w i) h.high;
    })
    (c.renew_row.ensures.renewed node h.bytes v (λ n w i. refl)
    (λ i. c.row_ahead-high.ensures i ∙ ahead-byte h.bytes node word word c.in_ok-high_ahead.high_ahead high (omega arith) (next-from h.bytes node word c.in_ok-high_ahead.high_ahead high) i)
    (λ i k. away node slot child b v words apart h.is node word i (refreshed-beside node slot child b node word i k) ∙ sym (h.beside word i k))
    (λ e. h.right word (e ∙ byte_is) ∙ sym byte_is))

pub returns-in_err-low_ahead-clause-damaged : goal.returns-in_err-low_ahead-clause-damaged
returns-in_err-low_ahead-clause-damaged g c = λ told damage.
    let p = g.P.Pages in
    let f = c.next_in.ensures.frame in
    let r = err_from_is_err_and c.from_residual.result c.from_residual.ensures.1 in
    λ e. (let same : c.in_err-low_ahead.field-0.0 ≡ Damaged damage = cc (r.1, r.2, e) in
    harm-looked (p.pages c.args.pages.now) (p.pages c.next_in.new.pages) (p.count c.args.pages.now) (p.count c.next_in.new.pages) (p.first c.next_in.new.pages) c.args.tree.now.rows (p.asked c.args.pages.now) (p.asked c.next_in.new.pages) damage
    f.pages f.count (c.in_err-low_ahead.ensures.damaged told damage (ap Err same)))

pub returns-in_err-high_ahead-clause-damaged : goal.returns-in_err-high_ahead-clause-damaged
returns-in_err-high_ahead-clause-damaged g c = λ told damage.
    let p = g.P.Pages in
    let f = c.next_in.ensures.frame in
    let h = c.next_in-2.ensures.frame in
    let r = err_from_is_err_and c.from_residual-in_err-high_ahead.result c.from_residual-in_err-high_ahead.ensures.1 in
    λ e. (let same : c.in_err-high_ahead.field-0.0 ≡ Damaged damage = cc (r.1, r.2, e) in
    harm-later _ (map_uses rows_form (p.pages c.args.pages.now) c.args.tree.now.rows) (p.pages c.next_in-2.new.pages) (p.count c.next_in-2.new.pages) (p.first c.next_in-2.new.pages)
    (p.asked c.args.pages.now) (p.asked c.next_in.new.pages) (p.asked c.next_in-2.new.pages) damage (c.next_in.ensures.own told)
    (harm-looked (p.pages c.next_in.new.pages) (p.pages c.next_in-2.new.pages) (p.count c.next_in.new.pages) (p.count c.next_in-2.new.pages) (p.first c.next_in-2.new.pages) c.args.tree.now.rows
    (p.asked c.next_in.new.pages) (p.asked c.next_in-2.new.pages) damage h.pages h.count (c.in_err-high_ahead.ensures.damaged (rw (f.pages, f.count) told) damage (ap Err same))))

pub returns-in_err-high_ahead-clause-own : goal.returns-in_err-high_ahead-clause-own
returns-in_err-high_ahead-clause-own g c = λ told. asks-further (map_uses rows_form (g.P.Pages.pages c.args.pages.now) c.args.tree.now.rows) (g.P.Pages.asked c.args.pages.now) (g.P.Pages.asked c.next_in.new.pages) (g.P.Pages.asked c.next_in-2.new.pages) (c.next_in.ensures.own told)
    (subst (λ (x : PageMap). AsksOnly (map_uses rows_form x c.args.tree.now.rows) (g.P.Pages.asked c.next_in.new.pages) (g.P.Pages.asked c.next_in-2.new.pages)) c.next_in.ensures.frame.pages
    (c.next_in-2.ensures.own (rw (c.next_in.ensures.frame.pages, c.next_in.ensures.frame.count) told)))

pub returns-clause-own : goal.returns-clause-own
returns-clause-own g c = λ told. asks-further (map_uses rows_form (g.P.Pages.pages c.args.pages.now) c.args.tree.now.rows) (g.P.Pages.asked c.args.pages.now) (g.P.Pages.asked c.next_in.new.pages) (g.P.Pages.asked c.next_in-2.new.pages) (c.next_in.ensures.own told)
    (subst (λ (x : PageMap). AsksOnly (map_uses rows_form x c.args.tree.now.rows) (g.P.Pages.asked c.next_in.new.pages) (g.P.Pages.asked c.next_in-2.new.pages)) c.next_in.ensures.frame.pages
    (c.next_in-2.ensures.own (rw (c.next_in.ensures.frame.pages, c.next_in.ensures.frame.count) told)))
