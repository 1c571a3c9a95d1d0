-- What a crash may leave of a run, and where a run stops for want of room.
use Rattle.std.specs.Prelude.{◌≡◌, ◌⊎◌, ℕ, ◌+◌, List, [], ◌∷◌, ◌++◌, length, Option, Result, Ok, Err}
use Rattle.disk_model.specs.World.{World, Image}
use Rattle.place_values.specs.State.{Contents}
use Rattle.place_values.specs.declared.update.Update.{Update}
use Rattle.place_values.specs.declared.update.UpdateFault.{UpdateFault}
use Rattle.query_lang.specs.Line.{line_of}
use Rattle.query_lang.specs.declared.line.Line.TheVariants.{Do}
use Rattle.geojson_points.specs.Takes.{Item}
use Rattle.store_model.specs.Stands.{Stands}
use Rattle.irtree_engine.specs.Holding.{HoldsState}
use Rattle.irtree_engine.specs.Updates.{state_after_all}
use Rattle.run_outcome.specs.Turn.{Turn}
use Rattle.run_outcome.specs.Said.{SaysFrontOf, LeftByTurn}
use Rattle.run_outcome.specs.Script.{turn}
use Rattle.run_outcome.specs.Load.{Closing, IsTaken, Step, Skip, Store, says_loaded, steps, skip_line, stored_line}

-- ---- scripts

-- Around one of the lines, each in the state that those before it leave: of the lines before it all was said.
abbrev pub LeftByLines : Contents → List (List ℕ) → List ℕ → Image → List ℕ → Type 0
LeftByLines state [] before image said = Stands image state × (said ≡ before)
LeftByLines state (line ∷ lines) before image said =
    LeftByTurn state (turn state line) before image said
    ⊎ LeftByLines (turn state line).state lines (before ++ (turn state line).text) image said

-- the line is an update
abbrev pub IsUpdateLine : List ℕ → Type 0
IsUpdateLine line = (update : Update) × (line_of line ≡ Ok (Do update))

-- The replies of the lines before an update were said whole and nothing else, and the image stands for the state before it.
abbrev pub StopsAtLine : Contents → List (List ℕ) → List ℕ → World → Type 0
StopsAtLine state [] before now = ⊥
StopsAtLine state (line ∷ lines) before now =
    (IsUpdateLine line × (now.said ≡ before) × HoldsState now state)
    ⊎ StopsAtLine (turn state line).state lines (before ++ (turn state line).text) now

-- ---- loads

-- the turn that stores a batch, after so many places
abbrev pub batch_turn : List Update → ℕ → Contents → Turn
batch_turn updates stored after = record { text = stored_line (stored + length updates); changes = updates; state = after }

-- around a batch that is accepted, or behind it; before one that is refused
abbrev pub LeftByBatch : Contents → List Update → ℕ → Result Contents UpdateFault → (Contents → List ℕ → Image → List ℕ → Type 0) → List ℕ → Image → List ℕ → Type 0
LeftByBatch state updates stored (Ok after) Behind before image said =
    LeftByTurn state (batch_turn updates stored after) before image said
    ⊎ Behind after (before ++ stored_line (stored + length updates)) image said
LeftByBatch state updates stored (Err fault) Behind before image said = Stands image state × (said ≡ before)

-- Around one of the steps, after so many places stored and so many items skipped: of the steps before it all was said. Behind them a front
-- of what is said last.
abbrev pub LeftBySteps : Closing → Contents → ℕ → ℕ → List Step → List ℕ → Image → List ℕ → Type 0
LeftBySteps closing state stored skipped [] before image said = Stands image state × SaysFrontOf (closing state stored skipped) before said
LeftBySteps closing state stored skipped (Skip index reason ∷ rest) before image said =
    (Stands image state × SaysFrontOf (skip_line index reason) before said)
    ⊎ LeftBySteps closing state stored (skipped + 1) rest (before ++ skip_line index reason) image said
LeftBySteps closing state stored skipped (Store updates ∷ rest) before image said =
    LeftByBatch state updates stored (state_after_all state updates)
    (λ after. LeftBySteps closing after (stored + length updates) skipped rest) before image said

-- before the text was taken, or around one of its steps
abbrev pub LeftByLoad : ℕ → Option (List ℕ) → Contents → List ℕ → List ℕ → Image → List ℕ → Type 0
LeftByLoad batch only state input before image said =
    (Stands image state × (said ≡ before))
    ⊎ ((items : List Item) × IsTaken only input (Ok items) × LeftBySteps says_loaded state 0 0 (steps batch [] items) before image said)

-- behind a batch that is accepted
abbrev pub StopsBehind : Result Contents UpdateFault → (Contents → Type 0) → Type 0
StopsBehind (Ok after) Behind = Behind after
StopsBehind (Err fault) Behind = ⊥

-- What the steps before a batch say was said whole and nothing else, and the image stands for the state before it.
abbrev pub StopsAtBatch : Contents → ℕ → ℕ → List Step → List ℕ → World → Type 0
StopsAtBatch state stored skipped [] before now = ⊥
StopsAtBatch state stored skipped (Skip index reason ∷ rest) before now = StopsAtBatch state stored (skipped + 1) rest (before ++ skip_line index reason) now
StopsAtBatch state stored skipped (Store updates ∷ rest) before now =
    ((now.said ≡ before) × HoldsState now state)
    ⊎ StopsBehind (state_after_all state updates)
    (λ after. StopsAtBatch after (stored + length updates) skipped rest (before ++ stored_line (stored + length updates)) now)
