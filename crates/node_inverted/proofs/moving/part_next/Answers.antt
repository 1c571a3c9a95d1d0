use Rattle.std.proofs.Common.{◌≡◌, ℕ, ◌≤◌, ◌<◌, ◌∙◌, sym, ap, subst, arith, List, Some, None, Option, ◌^◌, refl}
use Rattle.node_rows.specs.Rows.{Bytes, bytes_in}
use Rattle.node_rows.specs.Turns.{Next, moved}
use Rattle.node_rows.specs.Ascents.{on_word, until}
use Rattle.node_inverted.specs.Drafts.{with_rows}
use Rattle.node_rows.proofs.Turned.{turned-rest}
use Rattle.node_rows.proofs.Ascents.{ascend, rest, left}
use Rattle.node_rows.proofs.Moves.{moved-same, moved-idle, on-here, on-other}
use Rattle.node_inverted.proofs.moving.part_next.Goals as goal

pub returns-clause-parted : goal.returns-clause-parted
returns-clause-parted g c = λ before root to b apart clear held h.
    let at : ℕ = c.args.at in
    let node : ℕ = c.args.node in
    let word : ℕ = c.in-Some.found.0 in
    let now : Bytes = bytes_in (g.P.Pages.pages c.args.pages.now) c.args.tree.now.rows in
    let still : (w i : ℕ) → at ≤ w → now node w i ≡ b node w i = λ w i l. h.turn.is node w i ∙ h.ahead node w i l in
    let next : Next b node at (Some c.in-Some.found) = subst (λ (o : Option (ℕ × List ℕ)). Next b node at o) c.in-Some.is (c.in_ok-found.ensures.next b h.turn.rows.kept.map still held) in
    let r = c.next_in.ensures.frame in
    let f : Bytes → Bytes = moved node c.args.slots to in
    let v : Bytes = with_rows to c.args.goes.now.items (with_rows node c.args.stays.now.items h.bytes) in
    let on = next.on in
    let stays : (n w i : ℕ) → at ≤ w → v n w i ≡ b n w i = left (f b) b v at h.is in
    let idle : (n w i : ℕ) → at ≤ w → w < word → f b n w i ≡ b n w i = λ n w i l m. moved-idle node c.args.slots to b w (λ j. next.none w j l m) (λ j. clear w j) n i in
    let step = c.in_ok-part_row.ensures.parted node to h.bytes v apart (λ n w i. refl) (λ i. next.is i ∙ sym (stays node word i on)) (λ i. stays to word i on ∙ clear word i) in
    let past = c.after.ensures.reached in
    record {
      bytes = h.bytes;
      turn = turned-rest before root (g.P.Pages.pages c.args.pages.now) (g.P.Pages.pages c.next_in.new.pages) (g.P.Pages.count c.args.pages.now) (g.P.Pages.count c.next_in.new.pages)
          (g.P.Pages.first c.args.pages.now) (g.P.Pages.first c.next_in.new.pages) c.args.tree.now.rows h.bytes h.bytes r.pages r.count r.first (λ n w i. refl) h.turn;
      is = λ n w i. step n w i ∙ ascend (f b) b v at h.is (on_word word (f v) v) word on (λ n w i k. on-other word (f v) v n w i k)
          (λ n i. on-here word (f v) v n word i (λ j. word) ∙ moved-same node c.args.slots to v b word (λ m j. stays m word j on) n i) idle n w i
          ∙ ap (λ (k : ℕ). until k (f b) b n w i) (sym past);
      ahead = λ n w i l. h.ahead n w i (omega arith);
    }

pub returns-in_default-clause-parted : goal.returns-in_default-clause-parted
returns-in_default-clause-parted g c = λ before root to b apart clear held h.
    let at : ℕ = c.args.at in
    let node : ℕ = c.args.node in
    let now : Bytes = bytes_in (g.P.Pages.pages c.args.pages.now) c.args.tree.now.rows in
    let still : (w i : ℕ) → at ≤ w → now node w i ≡ b node w i = λ w i l. h.turn.is node w i ∙ h.ahead node w i l in
    let next : Next b node at None = subst (λ (o : Option (ℕ × List ℕ)). Next b node at o) c.in_default.is (c.in_ok-found.ensures.next b h.turn.rows.kept.map still held) in
    let r = c.next_in.ensures.frame in
    let f : Bytes → Bytes = moved node c.args.slots to in
    let v : Bytes = with_rows to c.args.goes.now.items (with_rows node c.args.stays.now.items h.bytes) in
    let small = c.ranges.at.fits in
    record {
      bytes = h.bytes;
      turn = turned-rest before root (g.P.Pages.pages c.args.pages.now) (g.P.Pages.pages c.next_in.new.pages) (g.P.Pages.count c.args.pages.now) (g.P.Pages.count c.next_in.new.pages)
          (g.P.Pages.first c.args.pages.now) (g.P.Pages.first c.next_in.new.pages) c.args.tree.now.rows h.bytes h.bytes r.pages r.count r.first (λ n w i. refl) h.turn;
      is = λ n w i. rest (f b) b v at h.is (2 ^ 64) (omega arith) (λ n' w' i' l. moved-idle node c.args.slots to b w' (λ j. next w' j l) (λ j. clear w' j) n' i') n w i;
      ahead = λ n w i l. h.ahead n w i (omega arith);
    }

pub returns-clause-copy : goal.returns-clause-copy
returns-clause-copy g c = λ before root to b held h. c.in_ok-found.ensures.copy b h.turn.rows.kept.map (λ w i l. h.turn.is c.args.node w i ∙ h.ahead c.args.node w i l) held

pub returns-in_default-clause-copy : goal.returns-in_default-clause-copy
returns-in_default-clause-copy g c = λ before root to b held h. c.in_ok-found.ensures.copy b h.turn.rows.kept.map (λ w i l. h.turn.is c.args.node w i ∙ h.ahead c.args.node w i l) held
