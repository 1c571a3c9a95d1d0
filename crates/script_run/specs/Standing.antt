-- A script between two reads of its input, and how it ends.
use Rattle.std.specs.Prelude.{◌≡◌, ℕ, List, [], ◌++◌, length, Result, Ok, Err}
use Rattle.disk_model.specs.World.{World, LeavesOnly}
use Rattle.place_values.specs.State.{Contents}
use Rattle.irtree_engine.specs.Holding.{HoldsState}
use Rattle.run_outcome.specs.Asking.{AreAsking, ReadsForLines}
use Rattle.run_outcome.specs.Left.{LeftByLines, StopsAtLine}
use Rattle.run_outcome.specs.Said.{EndsAs, SaysFrontOf}
use Rattle.run_outcome.specs.Script.{cut, script, script_lines, script_transcript}
use Rattle.run_outcome.specs.Turn.{Done, Input}
use Rattle.run_outcome.specs.declared.ended.Ended.{Ended}
use Rattle.run_outcome.specs.declared.ended.Ended.TheVariants as ends
use Rattle.run_outcome.specs.declared.ended.LimitFault.TheVariants as limits
use Rattle.script_run.specs.Feed.{kept}

-- Where a script stands that began in a state: some bytes were read, their lines were acted on, and the image stands for the state
-- after these; a crash since the start left one of the states around a line. Where the lines only ask, the reads are those that their queries call for.
pub record Standing (start : Contents) (input left : List ℕ) (first now : World) (line : List ℕ) (taken : ℕ) : Type 0 where
  pub read : List ℕ
  pub came : input ≡ read ++ left
  pub count : length read ≡ taken
  pub holds : HoldsState now (script start (cut read).lines).state
  pub keeps : line ≡ kept (cut read).rest
  pub said : now.said ≡ first.said ++ (script start (cut read).lines).text
  pub left_by : LeavesOnly first now (LeftByLines start (cut read).lines first.said)
  pub reads : AreAsking (cut read).lines → ReadsForLines start (cut read).lines first now

-- Some bytes were read, the replies of all lines whose LF was among them were said whole and nothing else, and the image stands for
-- the state after these lines.
pub record SaysRepliesOf (start : Contents) (input left : List ℕ) (first now : World) : Type 0 where
  pub read : List ℕ
  pub came : input ≡ read ++ left
  pub said : now.said ≡ first.said ++ (script start (cut read).lines).text
  pub holds : HoldsState now (script start (cut read).lines).state

-- how a script stopped, and what it had said
abbrev pub Stops : Contents → List ℕ → World → World → Ended → Type 0
Stops start input first now ends.Memory = SaysFrontOf (script_transcript start input).turn.text first.said now.said
Stops start input first now ends.Disk = SaysFrontOf (script_transcript start input).turn.text first.said now.said
Stops start input first now ends.Sink = SaysFrontOf (script_transcript start input).turn.text first.said now.said
Stops start input first now (ends.Input fault) = EndsAs (Input fault) (script_transcript start input) first now
Stops start input first now (ends.Limit limits.NoRoom) = StopsAtLine start (script_lines input) first.said now
Stops start input first now _ = ⊥

-- how a script ended, and what it had said
abbrev pub EndsScript : {T : Type 0} → Contents → List ℕ → List ℕ → World → World → Result T Ended → Type 0
EndsScript start input left first now (Ok done) = EndsAs Done (script_transcript start input) first now × (left ≡ [])
EndsScript start input left first now (Err ends.Source) =
    SaysRepliesOf start input left first now × SaysFrontOf (script_transcript start input).turn.text first.said now.said
EndsScript start input left first now (Err end) = Stops start input first now end
