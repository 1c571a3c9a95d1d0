-- What is asked for has one transcript on each input and state.
use Rattle.std.proofs.Common.{◌≡◌, ℕ, ◌<◌, ◌≤◌, ⊎_elim, List, length, refl, sym, ap, ◌∙◌, arith}
use Rattle.std.specs.Prelude.{◌≢◌, Option, Result, Ok, Err}
use Rattle.std.proofs.lemmas.Bool.{cases_lt}
use Rattle.place_values.specs.State.{Contents}
use Rattle.json_spelled.specs.declared.tree.JsonFault.TheVariants as json
use Rattle.geojson_points.specs.Takes.{Item, Takes}
use Rattle.geojson_points.specs.declared.fault.LoadFault.{LoadFault}
use Rattle.geojson_points.specs.declared.fault.LoadFault.TheVariants as loads
use Rattle.run_outcome.specs.declared.ended.InputFault.{InputFault}
use Rattle.run_outcome.specs.declared.ended.InputFault.TheVariants as inputs
use Rattle.run_outcome.specs.Turn.{Transcript}
use Rattle.run_outcome.specs.Load.{load_max, IsTaken, load_transcript}
use Rattle.run_outcome.specs.Script.{script_transcript}
use Rattle.load_run.specs.Making.{make_transcript}
use Rattle.irtree_top.specs.Verify.{verify_transcript}
use Rattle.command_words.specs.declared.job.Action.{Action}
use Rattle.command_words.specs.declared.job.Action.TheVariants.{Run, Load, Verify, Make, Upgrade}
use Rattle.irtree_top.specs.Transcript.{IsTranscriptBy, IsTranscript}
use Rattle.command_words.specs.Job.{Asked}

-- ---- one transcript

-- the law that a text gives one outcome
abbrev pub OutcomeIsOne : Type 0
OutcomeIsOne = (bytes : List ℕ) (only : Option (List ℕ)) (one other : Result (List Item) LoadFault) → Takes bytes only one → Takes bytes only other → one ≡ other

-- what a text that isn't too long gives, as its outcome
as_outcome : Result (List Item) InputFault → Result (List Item) LoadFault
as_outcome (Ok items) = Ok items
as_outcome (Err (inputs.NotUtf8 at)) = Err (loads.Json (json.NotUtf8 at))
as_outcome (Err (inputs.Syntax at)) = Err (loads.Json (json.Syntax at))
as_outcome (Err (inputs.TooDeep at)) = Err (loads.Json (json.TooDeep at))
as_outcome (Err inputs.NotFeatures) = Err loads.NotFeatures
as_outcome (Err inputs.Long) = Err loads.Memory

-- and back
as_taken : Result (List Item) LoadFault → Result (List Item) InputFault
as_taken (Ok items) = Ok items
as_taken (Err (loads.Json (json.NotUtf8 at))) = Err (inputs.NotUtf8 at)
as_taken (Err (loads.Json (json.Syntax at))) = Err (inputs.Syntax at)
as_taken (Err (loads.Json (json.TooDeep at))) = Err (inputs.TooDeep at)
as_taken (Err (loads.Json json.Memory)) = Err inputs.Long
as_taken (Err loads.NotFeatures) = Err inputs.NotFeatures
as_taken (Err loads.Memory) = Err inputs.Long

taken-back : (taken : Result (List Item) InputFault) → as_taken (as_outcome taken) ≡ taken
unfolding as_outcome as_taken
taken-back (Ok items) = refl
taken-back (Err (inputs.NotUtf8 at)) = refl
taken-back (Err (inputs.Syntax at)) = refl
taken-back (Err (inputs.TooDeep at)) = refl
taken-back (Err inputs.NotFeatures) = refl
taken-back (Err inputs.Long) = refl

-- a text that isn't too long has the outcome
short-takes : (only : Option (List ℕ)) (input : List ℕ) (taken : Result (List Item) InputFault) → length input ≤ load_max → IsTaken only input taken → Takes input only (as_outcome taken)
unfolding as_outcome
short-takes only input (Ok items) short is = is.1
short-takes only input (Err (inputs.NotUtf8 at)) short is = is.1
short-takes only input (Err (inputs.Syntax at)) short is = is.1
short-takes only input (Err (inputs.TooDeep at)) short is = is.1
short-takes only input (Err inputs.NotFeatures) short is = is.1
short-takes only input (Err inputs.Long) short is = absurd (omega arith)

-- one that is too long gives only that
long-gives : (only : Option (List ℕ)) (input : List ℕ) (taken : Result (List Item) InputFault) → load_max < length input → IsTaken only input taken → taken ≡ Err inputs.Long
long-gives only input (Ok items) long is = absurd (omega (arith, is.0))
long-gives only input (Err (inputs.NotUtf8 at)) long is = absurd (omega (arith, is.0))
long-gives only input (Err (inputs.Syntax at)) long is = absurd (omega (arith, is.0))
long-gives only input (Err (inputs.TooDeep at)) long is = absurd (omega (arith, is.0))
long-gives only input (Err inputs.NotFeatures) long is = absurd (omega (arith, is.0))
long-gives only input (Err inputs.Long) long is = refl

-- a text gives one thing
pub taken-one : OutcomeIsOne → (only : Option (List ℕ)) (input : List ℕ) (one other : Result (List Item) InputFault) → IsTaken only input one → IsTaken only input other → one ≡ other
taken-one law only input one other is also = ⊎_elim
    (λ (long : load_max < length input). long-gives only input one long is ∙ sym (long-gives only input other long also))
    (λ (short : length input ≤ load_max).
    sym (taken-back one)
    ∙ ap as_taken (law input only (as_outcome one) (as_outcome other) (short-takes only input one short is) (short-takes only input other short also))
    ∙ taken-back other)
    (cases_lt load_max (length input))

-- so a load has one transcript
load-one : OutcomeIsOne → (asked : Asked) (state : Contents) (input : List ℕ) (one other : Transcript) → IsTranscriptBy Load asked state input one → IsTranscriptBy Load asked state input other → one ≡ other
load-one law asked state input one other is also = is.2 ∙ ap (load_transcript asked.batch state) (taken-one law asked.text input is.0 also.0 is.1 also.1) ∙ sym also.2

-- the law that each text gives an outcome
abbrev pub OutcomeIsSome : Type 0
OutcomeIsSome = (bytes : List ℕ) (only : Option (List ℕ)) → (outcome : Result (List Item) LoadFault) × Takes bytes only outcome

-- an outcome is what a text that isn't too long gives
outcome-taken : (only : Option (List ℕ)) (input : List ℕ) → length input ≤ load_max → (outcome : Result (List Item) LoadFault) → Takes input only outcome → (taken : Result (List Item) InputFault) × IsTaken only input taken
outcome-taken only input short (Ok items) takes = (Ok items, (short, takes))
outcome-taken only input short (Err (loads.Json (json.NotUtf8 at))) takes = (Err (inputs.NotUtf8 at), (short, takes))
outcome-taken only input short (Err (loads.Json (json.Syntax at))) takes = (Err (inputs.Syntax at), (short, takes))
outcome-taken only input short (Err (loads.Json (json.TooDeep at))) takes = (Err (inputs.TooDeep at), (short, takes))
outcome-taken only input short (Err (loads.Json json.Memory)) takes = absurd takes.stands
outcome-taken only input short (Err loads.NotFeatures) takes = (Err inputs.NotFeatures, (short, takes))
outcome-taken only input short (Err loads.Memory) takes = absurd takes

-- so each load has a transcript
load-some : OutcomeIsSome → (asked : Asked) (state : Contents) (input : List ℕ) → (whole : Transcript) × IsTranscriptBy Load asked state input whole
load-some law asked state input =
    let given : (taken : Result (List Item) InputFault) × IsTaken asked.text input taken = ⊎_elim
    (λ (long : load_max < length input). (Err inputs.Long, long))
    (λ (short : length input ≤ load_max). let outcome = law input asked.text in outcome-taken asked.text input short outcome.0 outcome.1)
    (cases_lt load_max (length input)) in
    (load_transcript asked.batch state given.0, (given.0, given.1, refl))

-- what is asked for, by its action
one-by : OutcomeIsOne → (action : Action) (asked : Asked) (state : Contents) (input : List ℕ) (one other : Transcript) → IsTranscriptBy action asked state input one → IsTranscriptBy action asked state input other → one ≡ other
one-by law Run asked state input one other is also = is ∙ sym also
one-by law Load asked state input one other is also = load-one law asked state input one other is also
one-by law Verify asked state input one other is also = is ∙ sym also
one-by law Make asked state input one other is also = is ∙ sym also
one-by law Upgrade asked state input one other is also = absurd is

-- what is asked for has one transcript
pub transcript-one : OutcomeIsOne → (state : Contents) (asked : Asked) (input : List ℕ) (one other : Transcript) → IsTranscript state asked input one → IsTranscript state asked input other → one ≡ other
transcript-one law state asked input one other is also = one-by law asked.action asked state input one other is also

-- by its action
some-by : OutcomeIsSome → (action : Action) (asked : Asked) (state : Contents) (input : List ℕ) → action ≢ Upgrade → (whole : Transcript) × IsTranscriptBy action asked state input whole
some-by law Run asked state input other = (script_transcript state input, refl)
some-by law Load asked state input other = load-some law asked state input
some-by law Verify asked state input other = (verify_transcript state, refl)
some-by law Make asked state input other = (make_transcript asked.batch asked.from asked.count state, refl)
some-by law Upgrade asked state input other = absurd (other refl)

-- and it has one at least, unless it is an upgrade
pub transcript-some : OutcomeIsSome → (state : Contents) (asked : Asked) (input : List ℕ) → asked.action ≢ Upgrade → (whole : Transcript) × IsTranscript state asked input whole
transcript-some law state asked input other = some-by law asked.action asked state input other
