-- What a run said of its text, and what the image stands for then.
use Rattle.std.specs.Prelude.{◌≡◌, ◌⊎◌, ℕ, List, ◌++◌, take, Result, OnOk}
use Rattle.disk_model.specs.World.{World, Image, LeavesOnly}
use Rattle.place_values.specs.State.{Contents}
use Rattle.store_model.specs.Stands.{Stands}
use Rattle.irtree_engine.specs.Holding.{HoldsState}
use Rattle.run_outcome.specs.Turn.{Turn, Transcript, End}

-- a front of the text was said in this call
abbrev pub SaysFrontOf : List ℕ → List ℕ → List ℕ → Type 0
SaysFrontOf text old new = (n : ℕ) × (new ≡ old ++ take n text)

-- All of the bytes were said, or after a failure a front of them. The image stays, and a crash meanwhile left it and a front.
pub record SaysAll {T E : Type 0} (bytes : List ℕ) (old new : World) (result : Result T E) : Type 0 where
  pub all : OnOk result (new.said ≡ old.said ++ bytes)
  pub front : SaysFrontOf bytes old.said new.said
  pub seen : new.seen ≡ old.seen
  pub left : LeavesOnly old new (λ image said. (image ≡ old.seen) × SaysFrontOf bytes old.said said)

-- The transcript ends so, its whole text was said, and the image stands for its last state.
pub record EndsAs (wanted : End) (whole : Transcript) (old new : World) : Type 0 where
  pub end : whole.end ≡ wanted
  pub said : new.said ≡ old.said ++ whole.turn.text
  pub holds : HoldsState new whole.turn.state

-- What a crash leaves around a turn: the state before it, of which nothing was said, or the state after it and a front of its text.
abbrev pub LeftByTurn : Contents → Turn → List ℕ → Image → List ℕ → Type 0
LeftByTurn state turn before image said = (Stands image state × (said ≡ before)) ⊎ (Stands image turn.state × SaysFrontOf turn.text before said)
