-- What a script says and does, as a function of the state at its start and of its bytes.
use Rattle.std.specs.Prelude.{◌≡◌, ℕ, ◌<◌, ◌≤◌, ◌==◌, nat_lt, if◌then◌else◌, List, [], ◌∷◌, ◌++◌, length, take, Result, Ok, Err}
use Rattle.place_values.specs.declared.update.Update.{Update}
use Rattle.place_values.specs.declared.update.Applied.{Applied}
use Rattle.place_values.specs.declared.update.Applied.TheVariants.{New, Replaced, Gone, Absent}
use Rattle.place_values.specs.declared.update.UpdateFault.{UpdateFault}
use Rattle.place_values.specs.State.{Contents}
use Rattle.place_values.specs.Update.{effect_of}
use Rattle.run_outcome.specs.declared.ended.InputFault.{InputFault}
use Rattle.run_outcome.specs.declared.ended.InputFault.TheVariants.{Long}
use Rattle.query_lang.specs.declared.line.Line.{Line}
use Rattle.query_lang.specs.declared.line.Line.TheVariants.{Nothing, Do, Ask, Show, Count}
use Rattle.query_replies.specs.declared.fault.LineFault.{LineFault}
use Rattle.query_replies.specs.Reply.{text_of_reply}
use Rattle.query_lang.specs.Line.{line_of}
use Rattle.query_lang.specs.Reply.{reply_of}
use Rattle.run_outcome.specs.Turn.{Turn, followed, Transcript, Done, Input}

-- the update, where it changed the map
abbrev pub changes_by : Update → Result Applied UpdateFault → List Update
changes_by update (Ok New) = update ∷ []
changes_by update (Ok Replaced) = update ∷ []
changes_by update (Ok Gone) = update ∷ []
changes_by update (Ok Absent) = []
changes_by update (Err fault) = []

-- what a line changes
abbrev pub changes_of : Contents → Result Line LineFault → List Update
changes_of state (Ok (Do update)) = changes_by update (effect_of state update).answer
changes_of state (Ok Nothing) = []
changes_of state (Ok (Ask query explain)) = []
changes_of state (Ok (Show key)) = []
changes_of state (Ok Count) = []
changes_of state (Err fault) = []

-- the state that a line leaves
abbrev pub state_after : Contents → Result Line LineFault → Contents
state_after state (Ok (Do update)) = (effect_of state update).state
state_after state (Ok Nothing) = state
state_after state (Ok (Ask query explain)) = state
state_after state (Ok (Show key)) = state
state_after state (Ok Count) = state
state_after state (Err fault) = state

-- the turn of a line that was read so
abbrev pub turn_of : Contents → Result Line LineFault → Turn
turn_of state line = record { text = text_of_reply (reply_of state line); changes = changes_of state line; state = state_after state line }

-- one line of a script
unfoldable pub turn : Contents → List ℕ → Turn
turn state bytes = turn_of state (line_of bytes)

-- the lines of a script, each in the state that those before it leave
unfoldable pub script : Contents → List (List ℕ) → Turn
script state [] = record { text = []; changes = []; state = state }
script state (line ∷ lines) = followed (turn state line) (script (turn state line).state lines)

-- the lines that an LF ends, and the bytes after the last LF
pub record Cut : Type 0 where
  pub lines : List (List ℕ)
  pub rest : List ℕ

-- a byte in front of what is cut
abbrev pub behind : ℕ → List (List ℕ) → List ℕ → Cut
behind byte [] rest = record { lines = []; rest = byte ∷ rest }
behind byte (line ∷ lines) rest = record { lines = (byte ∷ line) ∷ lines; rest = rest }

-- bytes, cut behind each LF, which is left out
abbrev pub cut : List ℕ → Cut
cut [] = record { lines = []; rest = [] }
cut (byte ∷ bytes) =
    if byte == 10
    then record { lines = [] ∷ (cut bytes).lines; rest = (cut bytes).rest }
    else behind byte (cut bytes).lines (cut bytes).rest

-- the bytes after the last LF are a line where there are any
abbrev pub last_line : List ℕ → List (List ℕ)
last_line [] = []
last_line (byte ∷ bytes) = (byte ∷ bytes) ∷ []

-- the greatest number of bytes of a script
unfoldable pub input_max : ℕ
input_max = 268435456

-- the lines of a script; of one that is too long, those whose LF is within the bytes that it may have
abbrev pub script_lines : List ℕ → List (List ℕ)
script_lines input =
    if nat_lt input_max (length input) then (cut (take input_max input)).lines else (cut input).lines ++ last_line (cut input).rest

-- why the input of a script ends it
abbrev pub IsScriptInput : List ℕ → InputFault → Type 0
IsScriptInput input fault = (fault ≡ Long) × (input_max < length input)

-- the input is no longer than that of a script may be
abbrev pub FitsScript : List ℕ → Type 0
FitsScript input = length input ≤ input_max

-- all that a script says and does
abbrev pub script_transcript : Contents → List ℕ → Transcript
script_transcript state input =
    record { turn = script state (script_lines input); end = if nat_lt input_max (length input) then Input Long else Done }
