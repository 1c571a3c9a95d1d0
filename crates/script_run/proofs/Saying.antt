-- A line that is acted on, and its reply, which is said.
use Rattle.std.proofs.Common.{◌≡◌, ℕ, Bool, arith, inl, inr, ⊎_elim, List, [], ◌∷◌, ◌++◌, take, refl, sym, ap, subst, ◌∙◌}
use Rattle.std.specs.Prelude.{Result, Ok, Err, IsTrue}
use Rattle.std.proofs.lemmas.List.{append-nil}
use Rattle.disk_model.specs.World.{World, Image, LeavesOnly, HasSinkCause}
use Rattle.disk_model.specs.declared.disk.Failed.{Failed}
use Rattle.disk_model.proofs.Moments.{then, within}
use Rattle.place_values.specs.State.{Contents}
use Rattle.query_lang.specs.Line.{line_of}
use Rattle.query_lang.specs.Reply.{reply_of}
use Rattle.query_replies.specs.declared.reply.Reply.{Reply}
use Rattle.query_replies.specs.Reply.{text_of_reply}
use Rattle.store_model.specs.Stands.{Stands}
use Rattle.irtree_engine.specs.Holding.{HoldsState}
use Rattle.irtree_engine.specs.Updates.{LeavesOneOf}
use Rattle.run_outcome.specs.Asking.{IsAsking, ReadsForLine}
use Rattle.run_outcome.specs.Causes.{HasEngineEnd}
use Rattle.run_outcome.specs.Left.{LeftByLines}
use Rattle.run_outcome.specs.Said.{SaysAll, SaysFrontOf}
use Rattle.run_outcome.specs.Script.{turn, script, state_after}
use Rattle.run_outcome.specs.declared.ended.Ended.{Ended}
use Rattle.run_outcome.specs.declared.ended.Ended.TheVariants as ends
use Rattle.run_outcome.specs.declared.ended.LimitFault.TheVariants as limits
use Rattle.script_run.specs.Lines.{StopsBeforeReply, RepliesTo, StopsAmong, RunsLines}
use Rattle.run_outcome.proofs.Counts.{keeps-both}
use Rattle.run_outcome.proofs.Reading.{holds-same}
use Rattle.script_run.proofs.Asking.{reads-said}

-- what is said leaves the image, and a station that said it goes on
pub say-goes_on : (readable : Bool) (old new : World) (bytes : List ℕ) {A T : Type 0} (value : A) (other : T) → (IsTrue readable → SaysAll {E = Failed} bytes old new (Ok value)) → HasSinkCause {T = A} old new (Ok value) → HasEngineEnd readable old new (Ok other)
say-goes_on readable old new bytes value other says cause = record {
  faults = omega (arith, cause.disk);
  sink = cause.later;
  keeps = keeps-both old new (Ok other) cause.disk cause.stays;
  stands = λ told state holds. (state, holds-same old new state (says told).seen holds);
  cause = tt;
}

-- the text of a script of one line
text-one : (state : Contents) (line : List ℕ) → (script state (line ∷ [])).text ≡ text_of_reply (reply_of state (line_of line))
unfolding script turn
text-one state line = append-nil (text_of_reply (reply_of state (line_of line)))

-- and its state
state-one : (state : Contents) (line : List ℕ) → (script state (line ∷ [])).state ≡ state_after state (line_of line)
unfolding script turn
state-one state line = refl

-- a crash before the reply is said leaves a state around the line
left-before : (state : Contents) (line : List ℕ) (old : World) (image : Image) (said : List ℕ) → LeavesOneOf state (state_after state (line_of line)) old image said → LeftByLines state (line ∷ []) old.said image said
unfolding turn
left-before state line old image said left = ⊎_elim
    (λ (before : Stands image state). inl (inl (before, left.1)))
    (λ (after : Stands image (state_after state (line_of line))). inl (inr (after, (0, left.1 ∙ sym (append-nil old.said)))))
    left.0

-- a crash while it is said leaves the state after the line and a front of the reply
left-saying : (state : Contents) (line : List ℕ) (before : List ℕ) (image : Image) (said : List ℕ) → Stands image (state_after state (line_of line)) → SaysFrontOf (text_of_reply (reply_of state (line_of line))) before said → LeftByLines state (line ∷ []) before image said
unfolding turn
left-saying state line before image said after front = inl (inr (after, front))

-- a line that was stopped before its reply has said nothing
stops-before : (state : Contents) (line : List ℕ) (old new : World) (end : Ended) → new.said ≡ old.said → StopsBeforeReply state (line_of line) new end → StopsAmong state (line ∷ []) old.said new end
stops-before state line old new ends.Memory said stops = (0, said ∙ sym (append-nil old.said))
stops-before state line old new ends.Disk said stops = (0, said ∙ sym (append-nil old.said))
stops-before state line old new (ends.Limit limits.NoRoom) said stops = inl (stops.0, said, stops.1)
stops-before state line old new _ said stops = absurd stops

module _ (state : Contents) (line : List ℕ) (old now : World) where
  -- a line that was stopped
  pub act-stopped : (T : Type 0) (end : Ended) → RepliesTo state (line_of line) old now (Err end) → RunsLines {T = T} state (line ∷ []) old now (Err end)
  act-stopped T end replies = record {
    said = tt;
    holds = tt;
    stops = stops-before state line old now end replies.said replies.stops;
    left_by = within replies.left_by (left-before state line old);
    reads = λ asks. tt;
  }

  -- a line whose reply finds no memory
  pub act-lost : (T : Type 0) (reply : Reply) → RepliesTo state (line_of line) old now (Ok reply) → RunsLines {T = T} state (line ∷ []) old now (Err ends.Memory)
  act-lost T reply replies = record {
    said = tt;
    holds = tt;
    stops = (0, replies.said ∙ sym (append-nil old.said));
    left_by = within replies.left_by (left-before state line old);
    reads = λ asks. tt;
  }

  module _ (new : World) (reply : Reply) (bytes : List ℕ) (replies : RepliesTo state (line_of line) old now (Ok reply)) (written : bytes ≡ text_of_reply reply) where
    -- the bytes are the text of the line's reply
    says-reply : bytes ≡ text_of_reply (reply_of state (line_of line))
    says-reply = written ∙ replies.reply

    -- a front of them is one of its text
    front-said : (said : List ℕ) → SaysFrontOf bytes now.said said → SaysFrontOf (text_of_reply (reply_of state (line_of line))) old.said said
    front-said said front = (front.0, front.1 ∙ ap (λ (s : List ℕ). s ++ take front.0 bytes) replies.said ∙ ap (λ (b : List ℕ). old.said ++ take front.0 b) says-reply)

    -- a crash until they are said leaves a state around the line
    left-said : {T E : Type 0} {result : Result T E} → SaysAll bytes now new result → LeavesOnly old new (LeftByLines state (line ∷ []) old.said)
    left-said says = then (within replies.left_by (left-before state line old)) (within says.left (λ image said saying.
        left-saying state line old.said image said (subst (λ (i : Image). Stands i (state_after state (line_of line))) (sym saying.0) replies.holds) (front-said said saying.1)))

    -- a line whose reply was said
    pub act-said : {A T : Type 0} (value : A) (other : T) → (IsAsking (line_of line) → ReadsForLine state (line_of line) old now) → new.reads ≡ now.reads → SaysAll {E = Failed} bytes now new (Ok value) → RunsLines state (line ∷ []) old new (Ok other)
    act-said value other reads none says = record {
      said = says.all ∙ ap (λ (s : List ℕ). s ++ bytes) replies.said ∙ ap (λ (b : List ℕ). old.said ++ b) (says-reply ∙ sym (text-one state line));
      holds = subst (λ (s : Contents). HoldsState new s) (sym (state-one state line)) (subst (λ (i : Image). Stands i (state_after state (line_of line))) (sym says.seen) replies.holds);
      stops = tt;
      left_by = left-said says;
      reads = λ asks. reads-said state line old now new (reads asks.0) says.seen none;
    }

    -- a line of whose reply a front was said
    pub act-failed : (A T : Type 0) (failed : Failed) → SaysAll {T = A} bytes now new (Err failed) → RunsLines {T = T} state (line ∷ []) old new (Err ends.Sink)
    act-failed A T failed says = record {
      said = tt;
      holds = tt;
      stops = subst (λ (t : List ℕ). SaysFrontOf t old.said new.said) (sym (text-one state line)) (front-said new.said says.front);
      left_by = left-said says;
      reads = λ asks. tt;
    }
