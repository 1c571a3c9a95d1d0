-- Fronts of what a run says.
use Rattle.std.proofs.Common.{◌≡◌, ℕ, ◌+◌, ⊎_elim, List, [], ◌∷◌, ◌++◌, length, take, sym, ap, ◌∙◌, arith, append_assoc}
use Rattle.std.specs.Prelude.{Result, Ok, Err}
use Rattle.std.proofs.lemmas.List.{append-nil, take_all}
use Rattle.disk_model.specs.World.{World}
use Rattle.place_values.specs.State.{Contents}
use Rattle.place_values.specs.declared.update.UpdateFault.{UpdateFault}
use Rattle.irtree_engine.specs.Updates.{state_after_all}
use Rattle.run_outcome.specs.Left.{StopsAtBatch, StopsAtLine, StopsBehind}
use Rattle.run_outcome.specs.Load.{Closing, Step, Skip, Store, load, skip_line, stored_line, stores}
use Rattle.run_outcome.specs.Said.{EndsAs, SaysFrontOf}
use Rattle.run_outcome.specs.Script.{script, turn}
use Rattle.run_outcome.specs.Turn.{Transcript, End}
use Rattle.script_run.proofs.Fronts.{take-behind}

-- nothing is a front
pub none-said : (text before : List ℕ) (now : List ℕ) → now ≡ before → SaysFrontOf text before now
none-said text before now is = (0, is ∙ sym (append-nil before))

-- the whole is one
pub whole-said : (wanted : End) (whole : Transcript) (old new : World) → EndsAs wanted whole old new → SaysFrontOf whole.turn.text old.said new.said
whole-said wanted whole old new ends =
    let text = whole.turn.text in
    (length text, ends.said ∙ ap (λ t. old.said ++ t) (sym (take_all (length text) text (omega arith))))

-- what was said and a front of what follows is a front of both
pub front-behind : (text rest before now : List ℕ) → SaysFrontOf rest (before ++ text) now → SaysFrontOf (text ++ rest) before now
front-behind text rest before now says =
    (length text + says.0, says.1 ∙ append_assoc before text (take says.0 rest) ∙ ap (λ t. before ++ t) (sym (take-behind text rest says.0)))

-- where a script stops for want of room, a front of its text was said
pub line-front : (state : Contents) (lines : List (List ℕ)) (before : List ℕ) (now : World) → StopsAtLine state lines before now → SaysFrontOf (script state lines).text before now.said
unfolding script
line-front state [] before now stops = absurd stops
line-front state (line ∷ lines) before now stops = ⊎_elim
    (λ here. none-said _ before now.said here.1)
    (λ behind. front-behind (turn state line).text (script (turn state line).state lines).text before now.said (line-front (turn state line).state lines (before ++ (turn state line).text) now behind))
    stops

-- and so it is with a load
pub batch-front : (closing : Closing) (state : Contents) (stored skipped : ℕ) (steps : List Step) (before : List ℕ) (now : World) → StopsAtBatch state stored skipped steps before now → SaysFrontOf (load closing state stored skipped steps).turn.text before now.said
unfolding load
batch-front closing state stored skipped [] before now stops = absurd stops
batch-front closing state stored skipped (Skip index reason ∷ rest) before now stops =
    front-behind (skip_line index reason) (load closing state stored (skipped + 1) rest).turn.text before now.said (batch-front closing state stored (skipped + 1) rest (before ++ skip_line index reason) now stops)
batch-front closing state stored skipped (Store updates ∷ rest) before now stops = ⊎_elim
    (λ here. none-said _ before now.said here.0)
    (behind (λ after next. batch-front closing after (stored + length updates) skipped rest (before ++ stored_line (stored + length updates)) now next) (state_after_all state updates))
    stops
  where
    line : List ℕ
    line = stored_line (stored + length updates)

    behind : ((after : Contents) → StopsAtBatch after (stored + length updates) skipped rest (before ++ line) now → SaysFrontOf (load closing after (stored + length updates) skipped rest).turn.text (before ++ line) now.said)
        → (outcome : Result Contents UpdateFault) → StopsBehind outcome (λ after. StopsAtBatch after (stored + length updates) skipped rest (before ++ line) now)
        → SaysFrontOf (stores state updates line outcome (λ after. load closing after (stored + length updates) skipped rest)).turn.text before now.said
    behind rests (Ok after) next = front-behind line (load closing after (stored + length updates) skipped rest).turn.text before now.said (rests after next)
    behind rests (Err fault) next = absurd next
