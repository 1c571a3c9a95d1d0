-- Lines that only read.
use Rattle.std.proofs.Common.{◌≡◌, ℕ, List, [], ◌∷◌, ◌++◌, sym, subst, ◌∙◌}
use Rattle.std.specs.Prelude.{Result, Err, IfErr}
use Rattle.disk_model.specs.World.{World, Image}
use Rattle.query_lang.specs.Line.{line_of}
use Rattle.run_outcome.specs.Reading.{AreReading, IsMetIn, IsReading, KeepsImage}
use Rattle.run_outcome.specs.declared.ended.Ended.{Ended}

-- ---- lines in two parts

-- the first ones only read
pub reading-first : (first next : List (List ℕ)) → AreReading (first ++ next) → AreReading first
reading-first [] next reads = tt
reading-first (line ∷ first) next reads = (reads.0, reading-first first next reads.1)

-- so do those behind them
pub reading-next : (first next : List (List ℕ)) → AreReading (first ++ next) → AreReading next
reading-next [] next reads = reads
reading-next (line ∷ first) next reads = reading-next first next reads.1

-- two lines that stand for one only read alike
pub reading-alike : (line other : List ℕ) → line_of line ≡ line_of other → IsReading (line_of other) → IsReading (line_of line)
reading-alike line other same reads = subst IsReading (sym same) reads

-- ---- the image

-- a call that came later, while the image stayed
pub keeps-then : {T : Type 0} (old now new : World) (result : Result T Ended) → now.seen ≡ old.seen → KeepsImage now new result → KeepsImage old new result
keeps-then old now new result same later = record {
  seen = later.seen ∙ same;
  met = subst (λ (image : Image). IfErr result (IsMetIn image)) same later.met;
}

-- another kind of value would have been answered
pub keeps-failed : (A B : Type 0) (old new : World) (end : Ended) → KeepsImage {T = A} old new (Err end) → KeepsImage {T = B} old new (Err end)
keeps-failed A B old new end kept = record { seen = kept.seen; met = kept.met }
