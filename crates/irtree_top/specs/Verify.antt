-- What a check of a whole store says, and what that says of the image.
use Rattle.std.specs.Prelude.{◌≡◌, ◌⊎◌, List, [], ◌++◌, ℕ, codes, Result, Ok, Err}
use Rattle.disk_model.specs.World.{World, Image}
use Rattle.page_face.specs.declared.fault.Damage.{Damage}
use Rattle.page_store.specs.Opening.{head_damage}
use Rattle.place_values.specs.State.{Contents}
use Rattle.store_model.specs.Stands.{Stands}
use Rattle.irtree_engine.specs.Holding.{HasBrokenHead, HoldsState}
use Rattle.irtree_engine.specs.Verified.{IsBrokenIn}
use Rattle.run_outcome.specs.Ended.{broken_line}
use Rattle.run_outcome.specs.Said.{SaysFrontOf}
use Rattle.run_outcome.specs.Turn.{Transcript, Done}
use Rattle.run_outcome.specs.declared.ended.Ended.{Ended}
use Rattle.run_outcome.specs.declared.ended.Ended.TheVariants as ends

-- `whole`
abbrev pub whole_line : List ℕ
whole_line = codes "whole\n"

-- what a check of a store that stands for a state says and does: one line, and no update
abbrev pub verify_transcript : Contents → Transcript
verify_transcript state = record { turn = record { text = whole_line; changes = []; state = state }; end = Done }

-- how a check ends of a store that stands for a state: its line was said whole, or a front of it, and the image stands for the state
abbrev pub EndsVerify : {T : Type 0} → Contents → World → World → Result T Ended → Type 0
EndsVerify state old new (Ok done) = (new.said ≡ old.said ++ whole_line) × HoldsState new state
EndsVerify state old new (Err ends.Memory) = SaysFrontOf whole_line old.said new.said
EndsVerify state old new (Err ends.Disk) = SaysFrontOf whole_line old.said new.said
EndsVerify state old new (Err ends.Sink) = SaysFrontOf whole_line old.said new.said
EndsVerify state old new (Err _) = ⊥

-- what a crash leaves of it: the image stands for the state, and a front of the line was said
abbrev pub LeftByVerify : Contents → List ℕ → Image → List ℕ → Type 0
LeftByVerify state before image said = Stands image state × SaysFrontOf whole_line before said

-- What is named is broken there, by what the image held, and exactly the line of that was said.
abbrev pub SaysBroken : Damage → World → World → Type 0
SaysBroken damage old new = IsBrokenIn old.seen damage × (new.said ≡ old.said ++ broken_line damage)

-- A check that ends by damage: page 0 broke the rule Head as the store was opened, and nothing was said; or the line was.
abbrev pub TellsBroken : Damage → World → World → Type 0
TellsBroken damage old new = ((damage ≡ head_damage) × HasBrokenHead old.seen × (new.said ≡ old.said)) ⊎ SaysBroken damage old new
