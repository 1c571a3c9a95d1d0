-- What a whole run says and does, from the state at its start, what is asked for and the bytes of its input.
use Rattle.std.specs.Prelude.{◌≡◌, ℕ, List, Result}
use Rattle.place_values.specs.State.{Contents}
use Rattle.geojson_points.specs.Takes.{Item}
use Rattle.run_outcome.specs.declared.ended.InputFault.{InputFault}
use Rattle.run_outcome.specs.Turn.{Transcript}
use Rattle.run_outcome.specs.Script.{script_transcript}
use Rattle.run_outcome.specs.Load.{IsTaken, load_transcript}
use Rattle.load_run.specs.Making.{make_transcript}
use Rattle.command_words.specs.declared.job.Action.{Action}
use Rattle.command_words.specs.declared.job.Action.TheVariants.{Run, Load, Verify, Make, Upgrade}
use Rattle.command_words.specs.Job.{Asked}
use Rattle.irtree_top.specs.Verify.{verify_transcript}

-- The transcript of an action, with the batch, the property, the seed and the count of what is asked for. An upgrade has none: what it says
-- goes by the version of the store (`Upgrade.antt`).
abbrev pub IsTranscriptBy : Action → Asked → Contents → List ℕ → Transcript → Type 0
IsTranscriptBy Run asked state input whole = whole ≡ script_transcript state input
IsTranscriptBy Load asked state input whole =
    (taken : Result (List Item) InputFault) × IsTaken asked.text input taken × (whole ≡ load_transcript asked.batch state taken)
IsTranscriptBy Verify asked state input whole = whole ≡ verify_transcript state
IsTranscriptBy Make asked state input whole = whole ≡ make_transcript asked.batch asked.from asked.count state
IsTranscriptBy Upgrade asked state input whole = ⊥

-- the transcript of what is asked for
abbrev pub IsTranscript : Contents → Asked → List ℕ → Transcript → Type 0
IsTranscript state asked input whole = IsTranscriptBy asked.action asked state input whole
