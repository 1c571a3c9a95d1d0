use Rattle.std.proofs.Common.{◌≡◌, ◌*◌, List, ℕ, suc, ◌∷◌, Option, Box, arith, rules, refl, sym, ◌∙◌, ap, subst}
use Rattle.std.proofs.lemmas.Map.Iter.{rest_more, rest_all}
use Rattle.std.specs.Map.Iter.{deref_pair}
use Rattle.std.specs.declared.alloc.Global.{Global}
use Rattle.disk_model.specs.World.{Image}
use Rattle.disk_model.specs.declared.disk.Area.TheVariants.{Pages}
use Rattle.disk_model.proofs.Moments.{keeps_at_write, rested_sync}
use Rattle.disk_model.proofs.Replays.{on_ok_from}
use Rattle.page_journal.specs.Record.{batch_of, kept, with_batch, AllButPages}
use Rattle.page_journal.specs.Runs.{LeadsTo, IsWithin}
use Rattle.page_journal.proofs.Batches.{outside, with_empty}
use Rattle.page_journal.proofs.Steps.{keeps_at_spares, spares_at_rested, spares_at_start}
use Rattle.page_journal.proofs.checkpointing.install.Goals as goal

pub returns-in_err-add-clause-keeps : goal.returns-in_err-add-clause-keeps
returns-in_err-add-clause-keeps g c = λ t.
    let e : ℕ × List ℕ = (c.in-Some.number.now, c.in-Some-page.page.value) in
    let rest = rest_more deref_pair _ _ _ (c.in-Some.number, c.in-Some.page) c.in-Some.is c.next.ensures.steps in
    let left : kept c.loop-number.number-iterator ≡ e ∷ kept c.next.new.self =
    ap kept rest ∙ ap (λ (o : Option (Box (List ℕ) Global)). kept ((c.in-Some.number.now, o) ∷ c.next.new.self)) c.in-Some-page.is in
    let here : IsWithin (batch_of (kept c.args.pages.now.entries)) (4096 * c.in-Some.number.now) 4096 =
    λ i apart. outside _ c.in-Some.number.now _ i refl refl (subst (λ (l : List (ℕ × List ℕ)). AllButPages (batch_of l) Pages i) left (c.loop-number.invariant.apart i apart) refl 0 (omega arith)) in
    keeps_at_spares (λ r i k. k) (c.loop-number.invariant.keeps t) (c.add.ensures.spares t (batch_of (kept c.args.pages.now.entries)) c.loop-number.invariant.inside here)

pub loop-number-preserved-in-Continue-1 : goal.loop-number-preserved-in-Continue-1
loop-number-preserved-in-Continue-1 g c =
    let e : ℕ × List ℕ = (c.in-Some.number.now, c.in-Some-page.page.value) in
    let rest = rest_more deref_pair _ _ _ (c.in-Some.number, c.in-Some.page) c.in-Some.is c.next.ensures.steps in
    let left : kept c.loop-number.number-iterator ≡ e ∷ kept c.next.new.self =
    ap kept rest ∙ ap (λ (o : Option (Box (List ℕ) Global)). kept ((c.in-Some.number.now, o) ∷ c.next.new.self)) c.in-Some-page.is in
    let bytes : c.bytes_of.result.now ≡ c.in-Some-page.page.value = c.bytes_of.ensures.same ∙ c.deref.ensures in
    let here : IsWithin (batch_of (kept c.args.pages.now.entries)) (4096 * c.in-Some.number.now) 4096 =
    λ i apart. outside _ c.in-Some.number.now _ i refl refl (subst (λ (l : List (ℕ × List ℕ)). AllButPages (batch_of l) Pages i) left (c.loop-number.invariant.apart i apart) refl 0 (omega arith)) in
    let target : ℕ → ℕ = with_batch (batch_of (kept c.args.pages.now.entries)) ((g.D.Disk.world c.args.disk.now).seen Pages) in
    record {
      can = tt;
      ends = tt;
      apart = λ i apart p k lt. subst (λ (l : List (ℕ × List ℕ)). AllButPages (batch_of l) Pages i) left (c.loop-number.invariant.apart i apart) p (suc k) (omega arith);
      fits = c.in_ok-add.ensures.fits;
      inside = c.in_ok-add.ensures.within (batch_of (kept c.args.pages.now.entries)) c.loop-number.invariant.inside here;
      keeps = λ t. keeps_at_spares (λ r i k. k) (c.loop-number.invariant.keeps t) (c.in_ok-add.ensures.spares t (batch_of (kept c.args.pages.now.entries)) c.loop-number.invariant.inside here);
      done = λ t. c.in_ok-add.ensures.leads t (kept c.next.new.self) target
          (subst (λ (l : List ℕ). LeadsTo c.loop-number.run.at c.loop-number.run.bytes.items ((c.in-Some.number.now, l) ∷ kept c.next.new.self) (g.D.Disk.world c.loop-number.disk).seen target) (sym bytes)
          (subst (λ (l : List (ℕ × List ℕ)). LeadsTo c.loop-number.run.at c.loop-number.run.bytes.items l (g.D.Disk.world c.loop-number.disk).seen target) left (c.loop-number.invariant.done t)));
      faults = search rules;
      reads = λ t. c.in_ok-add.ensures.reads t ∙ c.loop-number.invariant.reads t;
      room = search rules;
      sink = search rules;
    }

pub returns-in_err-write-clause-keeps : goal.returns-in_err-write-clause-keeps
returns-in_err-write-clause-keeps g c = λ t. keeps_at_write (c.loop-number.invariant.keeps t) (c.write.ensures.written t) c.loop-number.invariant.inside

pub returns-clause-keeps : goal.returns-clause-keeps
returns-clause-keeps g c = λ t.
    keeps_at_spares (λ r i k. k) (keeps_at_write (c.loop-number.invariant.keeps t) (c.write.ensures.written t) c.loop-number.invariant.inside)
    (spares_at_rested (spares_at_start _) (rested_sync (c.sync.ensures.told t)))

pub returns-clause-done : goal.returns-clause-done
returns-clause-done g c = λ t.
    let none = rest_all deref_pair _ _ _ c.in-None.is c.next.ensures.steps in
    on_ok_from c.sync.result (ap (λ (m : Image). m Pages) (c.sync.ensures.told t).rests.seen ∙ sym (with_empty ((g.D.Disk.world c.write.new.disk).seen Pages))
    ∙ sym (ap (λ (l : List (ℕ × Option (Box (List ℕ) Global))). with_batch (batch_of (kept l)) ((g.D.Disk.world c.write.new.disk).seen Pages)) none)
    ∙ c.loop-number.invariant.done t _ (c.in_ok-write.ensures.written t).written)
