-- What is said and done in turn, and how a run ends by its input and its updates.
use Rattle.std.specs.Prelude.{ℕ, List, ◌++◌}
use Rattle.place_values.specs.declared.update.Update.{Update}
use Rattle.place_values.specs.State.{Contents}
use Rattle.run_outcome.specs.declared.ended.InputFault.{InputFault}
use Rattle.run_outcome.specs.declared.ended.LimitFault.{LimitFault}

-- what was said, the updates that changed the map, in order, and the state after them
pub record Turn : Type 0 where
  pub text : List ℕ
  pub changes : List Update
  pub state : Contents

-- two turns, one behind the other
abbrev pub followed : Turn → Turn → Turn
followed first next = record { text = first.text ++ next.text; changes = first.changes ++ next.changes; state = next.state }

-- how a run ends by its input and its updates
pub data End : Type 0 where
  Done : End
  Input : InputFault → End
  Limit : LimitFault → End

-- all that a run says and does
pub record Transcript : Type 0 where
  pub turn : Turn
  pub end : End

-- a turn, and all that is said and done behind it
abbrev pub continued : Turn → Transcript → Transcript
continued first rest = record { turn = followed first rest.turn; end = rest.end }
