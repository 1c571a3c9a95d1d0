-- What a crash leaves of a job, in the words of its user.
use Rattle.std.proofs.Common.{◌≡◌, ℕ, ◌≤◌, ⊎_elim, inl, List, [], take, refl, sym, subst, ◌∙◌, arith}
use Rattle.std.specs.Prelude.{Ok}
use Rattle.std.proofs.lemmas.List.{append-nil}
use Rattle.disk_model.specs.World.{World, Image, LeavesOnly}
use Rattle.disk_model.proofs.Moments.{within}
use Rattle.place_values.specs.State.{Contents}
use Rattle.place_values.specs.declared.update.Update.{Update}
use Rattle.store_model.specs.Stands.{Stands}
use Rattle.irtree_top.specs.Prefix.{HoldsAcked}
use Rattle.run_outcome.specs.Left.{LeftByLines, LeftByLoad}
use Rattle.run_outcome.specs.Load.{load_transcript, says_loaded}
use Rattle.load_run.specs.Making.{LeftByMake, items_from, make_transcript, says_made}
use Rattle.run_outcome.specs.Script.{script_lines, script_transcript}
use Rattle.run_outcome.specs.Turn.{Transcript}
use Rattle.command_words.specs.declared.job.Action.{Action}
use Rattle.command_words.specs.declared.job.Action.TheVariants.{Run, Load, Verify, Make, Upgrade}
use Rattle.irtree_top.specs.Run.{HoldsPrefix, IsNear, acked}
use Rattle.command_words.specs.Job.{Asked}
use Rattle.irtree_top.specs.Verify.{LeftByVerify, verify_transcript, whole_line}
use Rattle.irtree_top.proofs.Jobs.{script-only, load-only, make-only, verify-only}
use Rattle.irtree_top.proofs.Loads.{load-prefix, loaded-passed, made-passed}
use Rattle.irtree_top.proofs.Scripts.{script-prefix}
use Rattle.irtree_top.proofs.Transcripts.{OutcomeIsOne}

-- nothing acknowledges nothing
acked-none : (action : Action) → acked action [] ≤ 0
acked-none Run = omega arith
acked-none Load = omega arith
acked-none Verify = omega arith
acked-none Make = omega arith
acked-none Upgrade = omega arith

-- and no update is as many as are acknowledged
near-none : (action : Action) (batch all : ℕ) → 1 ≤ batch → IsNear action batch 0 (acked action []) all
near-none Run batch all some = omega arith
near-none Load batch all some = (omega arith, inl (omega arith))
near-none Verify batch all some = refl
near-none Make batch all some = (omega arith, inl (omega arith))
near-none Upgrade batch all some = refl

-- Where nothing was said, and the image stands for the state at the start, it holds every acknowledged update: none.
pub none-held : (action : Action) (batch : ℕ) → 1 ≤ batch → (state : Contents) (changes : List Update) (before : List ℕ) (image : Image) (said : List ℕ) → Stands image state → said ≡ before
    → HoldsAcked (acked action) (IsNear action batch) state changes before image said
none-held action batch some state changes before image said stands is = record {
  spoken = [];
  is = is ∙ sym (append-nil before);
  some = 0;
  most = omega arith;
  stands = stands;
  acknowledged = acked-none action;
  near = near-none action batch _ some;
}

module _ (asked : Asked) (state : Contents) (input : List ℕ) (some : 1 ≤ asked.batch) where
  -- a crash leaves of a script a prefix that holds every acknowledged update
  pub script-left : asked.action ≡ Run → (old new : World) → LeavesOnly old new (LeftByLines state (script_lines input) old.said) → LeavesOnly old new (HoldsPrefix asked state input old)
  script-left runs old new leaves = within leaves (λ image said left whole is.
      subst (λ (t : Transcript). HoldsAcked (acked asked.action) (IsNear asked.action asked.batch) state t.turn.changes old.said image said) (sym (script-only asked state input runs whole is))
      (subst (λ a. HoldsAcked (acked a) (IsNear a asked.batch) state (script_transcript state input).turn.changes old.said image said) (sym runs)
      (script-prefix state (script_lines input) old.said image said left)))

  -- and so it does of a load
  pub load-left : OutcomeIsOne → asked.action ≡ Load → (old new : World) → LeavesOnly old new (LeftByLoad asked.batch asked.text state input old.said) → LeavesOnly old new (HoldsPrefix asked state input old)
  load-left law loads old new leaves = within leaves (λ image said left whole is. ⊎_elim
      (λ none. none-held asked.action asked.batch some state whole.turn.changes old.said image said none.0 none.1)
      (λ items.
      subst (λ (t : Transcript). HoldsAcked (acked asked.action) (IsNear asked.action asked.batch) state t.turn.changes old.said image said) (sym (load-only law asked state input loads (Ok items.0) items.1 whole is))
      (subst (λ a. HoldsAcked (acked a) (IsNear a asked.batch) state (load_transcript asked.batch state (Ok items.0)).turn.changes old.said image said) (sym loads)
      (load-prefix says_loaded loaded-passed asked.batch some state items.0 old.said image said items.2)))
      left)

  -- and of a make
  pub make-left : asked.action ≡ Make → (old new : World) → LeavesOnly old new (LeftByMake asked.batch asked.from asked.count state old.said) → LeavesOnly old new (HoldsPrefix asked state input old)
  make-left makes old new leaves = within leaves (λ image said left whole is. ⊎_elim
      (λ none. none-held asked.action asked.batch some state whole.turn.changes old.said image said none.0 none.1)
      (λ steps.
      subst (λ (t : Transcript). HoldsAcked (acked asked.action) (IsNear asked.action asked.batch) state t.turn.changes old.said image said) (sym (make-only asked state input makes whole is))
      (subst (λ a. HoldsAcked (acked a) (IsNear a asked.batch) state (make_transcript asked.batch asked.from asked.count state).turn.changes old.said image said) (sym makes)
      (load-prefix (says_made asked.from asked.count) (made-passed asked.from asked.count) asked.batch some state (items_from asked.from 0 asked.count) old.said image said steps)))
      left)

  -- of a check none is acknowledged, and none is held
  pub verify-left : asked.action ≡ Verify → (old new : World) → LeavesOnly old new (LeftByVerify state old.said) → LeavesOnly old new (HoldsPrefix asked state input old)
  verify-left verifies old new leaves = within leaves (λ image said left whole is.
      subst (λ (t : Transcript). HoldsAcked (acked asked.action) (IsNear asked.action asked.batch) state t.turn.changes old.said image said) (sym (verify-only asked state input verifies whole is))
      (subst (λ a. HoldsAcked (acked a) (IsNear a asked.batch) state (verify_transcript state).turn.changes old.said image said) (sym verifies)
      (record { spoken = take left.1.0 whole_line; is = left.1.1; some = 0; most = omega arith; stands = left.0; acknowledged = omega arith; near = refl })))

  -- from where as much was said
  pub left-from : (old was : World) → was.said ≡ old.said → (image : Image) (said : List ℕ) → HoldsPrefix asked state input was image said → HoldsPrefix asked state input old image said
  left-from old was same image said held whole is =
      subst (λ s. HoldsAcked (acked asked.action) (IsNear asked.action asked.batch) state whole.turn.changes s image said) same (held whole is)
