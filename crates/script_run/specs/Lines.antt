-- How lines are acted on, and how that stops.
use Rattle.std.specs.Prelude.{◌≡◌, ℕ, ◌+◌, ◌<◌, List, ◌++◌, Result, Ok, Err, IfOk, IfErr, OnOk}
use Rattle.disk_model.specs.World.{World, LeavesOnly}
use Rattle.place_values.specs.State.{Contents}
use Rattle.place_values.specs.declared.update.Update.{Update}
use Rattle.query_lang.specs.declared.line.Line.{Line}
use Rattle.query_lang.specs.declared.line.Line.TheVariants.{Do}
use Rattle.query_lang.specs.Reply.{reply_of}
use Rattle.query_replies.specs.declared.fault.LineFault.{LineFault}
use Rattle.query_replies.specs.declared.reply.Reply.{Reply}
use Rattle.query_replies.specs.declared.reply.Reply.TheVariants as replies
use Rattle.query_replies.specs.Reply.{text_of_reply}
use Rattle.irtree_engine.specs.Holding.{HoldsState}
use Rattle.irtree_engine.specs.Updates.{LeavesOneOf}
use Rattle.irtree_engine.specs.declared.fault.EngineFault.{EngineFault}
use Rattle.irtree_engine.specs.declared.fault.EngineFault.TheVariants as engine
use Rattle.run_outcome.specs.Asking.{AreAsking, ReadsForLines}
use Rattle.run_outcome.specs.Causes.{end_of_engine}
use Rattle.run_outcome.specs.Left.{LeftByLines, StopsAtLine}
use Rattle.run_outcome.specs.Said.{SaysFrontOf}
use Rattle.run_outcome.specs.Script.{script, state_after}
use Rattle.run_outcome.specs.declared.ended.Ended.{Ended}
use Rattle.run_outcome.specs.declared.ended.Ended.TheVariants as ends
use Rattle.run_outcome.specs.declared.ended.InputFault.TheVariants.{Long}
use Rattle.run_outcome.specs.declared.ended.LimitFault.TheVariants as limits

-- ---- one line, before its reply is said

-- An update that the engine refuses for a limit of the map is answered so. Every other refusal ends the run.
abbrev pub refused_by : EngineFault → Result Reply Ended
refused_by engine.Full = Ok replies.Full
refused_by engine.Worn = Ok replies.Worn
refused_by engine.Disk = Err (end_of_engine engine.Disk)
refused_by engine.NotAStore = Err (end_of_engine engine.NotAStore)
refused_by (engine.BadJournal at) = Err (end_of_engine (engine.BadJournal at))
refused_by (engine.Damaged damage) = Err (end_of_engine (engine.Damaged damage))
refused_by engine.NoRoom = Err (end_of_engine engine.NoRoom)
refused_by engine.Stopped = Err (end_of_engine engine.Stopped)
refused_by engine.Version1 = Err (end_of_engine engine.Version1)
refused_by engine.Memory = Err (end_of_engine engine.Memory)

-- the line that was read so is an update
abbrev pub IsUpdate : Result Line LineFault → Type 0
IsUpdate read = (update : Update) × (read ≡ Ok (Do update))

-- What may stop a line that was read so before its reply, on an image that stands for a state: want of room leaves that state.
abbrev pub StopsBeforeReply : Contents → Result Line LineFault → World → Ended → Type 0
StopsBeforeReply state read now ends.Memory = Unit {0}
StopsBeforeReply state read now ends.Disk = Unit {0}
StopsBeforeReply state read now (ends.Limit limits.NoRoom) = IsUpdate read × HoldsState now state
StopsBeforeReply state read now _ = ⊥

-- A line that was read so was acted on: its reply has its text, and the image stands for the state after it. Nothing was said, and a
-- crash left the state before the line or the one after it.
pub record RepliesTo (state : Contents) (read : Result Line LineFault) (old new : World) (result : Result Reply Ended) : Type 0 where
  pub reply : IfOk result (λ reply. text_of_reply reply ≡ text_of_reply (reply_of state read))
  pub holds : OnOk result (HoldsState new (state_after state read))
  pub stops : IfErr result (StopsBeforeReply state read new)
  pub said : new.said ≡ old.said
  pub left_by : LeavesOnly old new (LeavesOneOf state (state_after state read) old)

-- ---- lines, with their replies

-- how a run over some lines stopped, and what it had said
abbrev pub StopsAmong : Contents → List (List ℕ) → List ℕ → World → Ended → Type 0
StopsAmong state lines before now ends.Memory = SaysFrontOf (script state lines).text before now.said
StopsAmong state lines before now ends.Disk = SaysFrontOf (script state lines).text before now.said
StopsAmong state lines before now ends.Sink = SaysFrontOf (script state lines).text before now.said
StopsAmong state lines before now (ends.Limit limits.NoRoom) = StopsAtLine state lines before now
StopsAmong state lines before now _ = ⊥

-- Lines were acted on from a state that the image stood for: their replies were said whole, and the image stands for the state after
-- them. A crash left one of the states around a line. Where the lines only ask, the reads are those that their queries call for.
pub record RunsLines {T : Type 0} (state : Contents) (lines : List (List ℕ)) (old new : World) (result : Result T Ended) : Type 0 where
  pub said : OnOk result (new.said ≡ old.said ++ (script state lines).text)
  pub holds : OnOk result (HoldsState new (script state lines).state)
  pub stops : IfErr result (StopsAmong state lines old.said new)
  pub left_by : LeavesOnly old new (LeftByLines state lines old.said)
  pub reads : AreAsking lines → OnOk result (ReadsForLines state lines old new)

-- The lines of a piece were acted on; of one that goes past what a script may have, the lines within that, and then the script ends.
abbrev pub RunsPiece : Contents → List (List ℕ) → ℕ → ℕ → World → World → Result ℕ Ended → Type 0
RunsPiece state lines room len old new (Ok taken) = RunsLines state lines old new (Ok taken)
RunsPiece state lines room len old new (Err (ends.Input fault)) = (fault ≡ Long) × (room < len) × RunsLines {T = Unit {0}} state lines old new (Ok tt)
RunsPiece state lines room len old new (Err ends.Memory) = RunsLines {T = ℕ} state lines old new (Err ends.Memory)
RunsPiece state lines room len old new (Err ends.Disk) = RunsLines {T = ℕ} state lines old new (Err ends.Disk)
RunsPiece state lines room len old new (Err ends.Sink) = RunsLines {T = ℕ} state lines old new (Err ends.Sink)
RunsPiece state lines room len old new (Err (ends.Limit fault)) = RunsLines {T = ℕ} state lines old new (Err (ends.Limit fault))
RunsPiece state lines room len old new (Err _) = ⊥

-- ---- on any image

-- What lines may end by, of limits and inputs: want of room alone. Another limit is a reply, and no line is refused as an input.
abbrev pub IsLineEnd : Ended → Type 0
IsLineEnd (ends.Limit fault) = fault ≡ limits.NoRoom
IsLineEnd (ends.Input fault) = ⊥
IsLineEnd _ = Unit {0}

-- And a piece of so many bytes, behind those that were taken: an input that is longer than a script may be ends it, too.
abbrev pub IsPieceEnd : ℕ → ℕ → Ended → Type 0
IsPieceEnd taken len (ends.Limit fault) = fault ≡ limits.NoRoom
IsPieceEnd taken len (ends.Input fault) = (fault ≡ Long) × (268435456 < taken + len)
IsPieceEnd taken len _ = Unit {0}
