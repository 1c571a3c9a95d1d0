-- Lines that change nothing, and the damage that they meet.
use Rattle.std.specs.Prelude.{◌≡◌, ℕ, List, Result, Ok, Err, IfErr}
use Rattle.std.specs.List.{AllByRecursion}
use Rattle.disk_model.specs.World.{World, Image}
use Rattle.query_lang.specs.Line.{line_of}
use Rattle.query_lang.specs.declared.line.Line.{Line}
use Rattle.query_lang.specs.declared.line.Line.TheVariants.{Nothing, Do, Ask, Show, Count}
use Rattle.query_replies.specs.declared.fault.LineFault.{LineFault}
use Rattle.irtree_engine.specs.Damages.{IsImageDamage}
use Rattle.run_outcome.specs.declared.ended.Ended.{Ended}
use Rattle.run_outcome.specs.declared.ended.Ended.TheVariants.{Store}
use Rattle.run_outcome.specs.declared.ended.StoreFault.TheVariants.{Damaged}

-- the line that was read so changes nothing: it is no update
abbrev pub IsReading : Result Line LineFault → Type 0
IsReading (Ok Nothing) = Unit {0}
IsReading (Ok (Do update)) = ⊥
IsReading (Ok (Ask query explain)) = Unit {0}
IsReading (Ok (Show key)) = Unit {0}
IsReading (Ok Count) = Unit {0}
IsReading (Err fault) = Unit {0}

-- none of the lines does
abbrev pub AreReading : List (List ℕ) → Type 0
AreReading lines = AllByRecursion (λ line. IsReading (line_of line)) lines

-- An end that names a page and a rule names damage of the image, as a query or a look at a key meets it.
abbrev pub IsMetIn : Image → Ended → Type 0
IsMetIn image (Store (Damaged damage)) = IsImageDamage image damage
IsMetIn image _ = Unit {0}

-- The image stayed, and damage that ended the run is its own.
pub record KeepsImage {T : Type 0} (old new : World) (result : Result T Ended) : Type 0 where
  pub seen : new.seen ≡ old.seen
  pub met : IfErr result (IsMetIn old.seen)
