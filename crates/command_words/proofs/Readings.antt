-- What words come to, by what the command makes of their line.
use Rattle.std.proofs.Common.{◌≡◌, ◌≢◌, refl, List, [], ◌∷◌, codes}
use Rattle.std.specs.Prelude.{Err, Result}
use Rattle.clap.specs.Words.{Kinds, Row, Text}
use Rattle.command_words.specs.Command.{refusals, values_on}
use Rattle.command_words.specs.Job.{IsReading, asked_among, asked_unless, reading}
use Rattle.command_words.specs.declared.job.Job.{Job}
use Rattle.command_words.specs.declared.job.WordsFault.{WordsFault}
use Rattle.command_words.specs.declared.job.WordsFault.TheVariants.{Line}

-- a line that the command takes comes to what stands on it
pub taken_reads : (words line : List Text) (values : List Row) (r : Result Job WordsFault) → line ≡ codes "irtree" ∷ words → refusals line ≡ [] → values ≡ values_on line
    → IsReading r (asked_among values) → IsReading r (reading words)
unfolding reading
taken_reads words line values r is taken stand read = rw (← is, taken, ← stand) read

-- a line that the command refuses comes to no job
pub refused_reads : (words line : List Text) → line ≡ codes "irtree" ∷ words → refusals line ≢ [] → reading words ≡ Err Line
unfolding reading
refused_reads words line is refused = rw (← is) (go (refusals line) refused)
  where
    go : (causes : Kinds) → causes ≢ [] → asked_unless causes (values_on line) ≡ Err Line
    go [] some = absurd (some refl)
    go (cause ∷ causes) some = refl

-- a line that the command takes gives no job just where what stands on it gives none
pub taken_fails : (words line : List Text) (values : List Row) → line ≡ codes "irtree" ∷ words → refusals line ≡ [] → values ≡ values_on line
    → asked_among values ≡ reading words
unfolding reading
taken_fails words line values is taken stand = rw (← is, taken, ← stand) refl
