use Rattle.std.proofs.Common.{◌≡◌, ℕ, ◌≤◌, ◌∙◌, sym, ap, subst, arith, refl, List, Some, None, Option, ◌^◌}
use Rattle.node_rows.specs.Rows.{Bytes, bytes_in}
use Rattle.node_rows.specs.Turns.{Next, dropped, with_row}
use Rattle.node_rows.specs.Ascents.{until}
use Rattle.node_inverted.specs.Drafts.{with_rows}
use Rattle.node_rows.proofs.Turned.{turned-rest}
use Rattle.node_rows.proofs.Bytes.{with-another}
use Rattle.node_rows.proofs.Ascents.{ascend, rest, left}
use Rattle.node_inverted.proofs.Drops.{dropped-idle, dropped-set}
use Rattle.node_inverted.proofs.Gathers.{row-more}
use Rattle.node_inverted.proofs.dropping.clear_next.Goals as goal

pub returns-clause-dropping : goal.returns-clause-dropping
returns-clause-dropping g c = λ before root b held h.
    let at : ℕ = c.args.at in
    let node : ℕ = c.args.node in
    let word : ℕ = c.in-Some.found.0 in
    let zeros : List ℕ = c.clear_row.result in
    let now : Bytes = bytes_in (g.P.Pages.pages c.args.pages.now) c.args.tree.now.rows in
    let still : (w i : ℕ) → at ≤ w → now node w i ≡ b node w i = λ w i l. h.turn.is node w i ∙ h.ahead node w i l in
    let next : Next b node at (Some c.in-Some.found) = subst (λ (o : Option (ℕ × List ℕ)). Next b node at o) c.in-Some.is (c.in_ok-found.ensures.next b h.turn.rows.kept.map still held) in
    let r = c.next_in.ensures.frame in
    let f : Bytes = dropped node b in
    let v : Bytes = with_rows node c.args.rows.now.items h.bytes in
    let on = next.on in
    let stays : (n w i : ℕ) → at ≤ w → v n w i ≡ b n w i = left f b v at h.is in
    let past = c.after.ensures.reached in
    record {
      bytes = h.bytes;
      turn = turned-rest before root (g.P.Pages.pages c.args.pages.now) (g.P.Pages.pages c.next_in.new.pages) (g.P.Pages.count c.args.pages.now) (g.P.Pages.count c.next_in.new.pages)
          (g.P.Pages.first c.args.pages.now) (g.P.Pages.first c.next_in.new.pages) c.args.tree.now.rows h.bytes h.bytes r.pages r.count r.first (λ n w i. refl) h.turn;
      is = λ n w i. ap (λ (d : Bytes). d n w i) (row-more node c.args.rows.now.items c.push_row.new.rows.items (record { number = word; bytes = zeros }) h.bytes c.in_ok-push_row.ensures.items)
          ∙ ascend f b v at h.is (with_row node word zeros v) word on (λ n w i k. with-another node word zeros v n w i k)
          (dropped-set node word b v zeros c.clear_row.ensures.none (λ n i. stays n word i on))
          (λ n w i l m. dropped-idle node b w (λ j. next.none w j l m) n i) n w i
          ∙ ap (λ (k : ℕ). until k f b n w i) (sym past);
      ahead = λ n w i l. h.ahead n w i (omega arith);
    }

pub returns-in_default-clause-dropping : goal.returns-in_default-clause-dropping
returns-in_default-clause-dropping g c = λ before root b held h.
    let at : ℕ = c.args.at in
    let node : ℕ = c.args.node in
    let now : Bytes = bytes_in (g.P.Pages.pages c.args.pages.now) c.args.tree.now.rows in
    let still : (w i : ℕ) → at ≤ w → now node w i ≡ b node w i = λ w i l. h.turn.is node w i ∙ h.ahead node w i l in
    let next : Next b node at None = subst (λ (o : Option (ℕ × List ℕ)). Next b node at o) c.in_default.is (c.in_ok-found.ensures.next b h.turn.rows.kept.map still held) in
    let r = c.next_in.ensures.frame in
    let f : Bytes = dropped node b in
    let v : Bytes = with_rows node c.args.rows.now.items h.bytes in
    let small = c.ranges.at.fits in
    record {
      bytes = h.bytes;
      turn = turned-rest before root (g.P.Pages.pages c.args.pages.now) (g.P.Pages.pages c.next_in.new.pages) (g.P.Pages.count c.args.pages.now) (g.P.Pages.count c.next_in.new.pages)
          (g.P.Pages.first c.args.pages.now) (g.P.Pages.first c.next_in.new.pages) c.args.tree.now.rows h.bytes h.bytes r.pages r.count r.first (λ n w i. refl) h.turn;
      is = λ n w i. rest f b v at h.is (2 ^ 64) (omega arith) (λ n' w' i' l. dropped-idle node b w' (λ j. next w' j l) n' i') n w i;
      ahead = λ n w i l. h.ahead n w i (omega arith);
    }

pub returns-clause-copy : goal.returns-clause-copy
returns-clause-copy g c = λ before root b held h. c.in_ok-found.ensures.copy b h.turn.rows.kept.map (λ w i l. h.turn.is c.args.node w i ∙ h.ahead c.args.node w i l) held

pub returns-in_default-clause-copy : goal.returns-in_default-clause-copy
returns-in_default-clause-copy g c = λ before root b held h. c.in_ok-found.ensures.copy b h.turn.rows.kept.map (λ w i l. h.turn.is c.args.node w i ∙ h.ahead c.args.node w i l) held
