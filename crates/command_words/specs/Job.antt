-- The job that a command line asks for.
use Rattle.std.specs.Prelude.{◌≡◌, ℕ, ◌||◌, ◌&&◌, Bool, not, List, [], ◌∷◌, codes, if◌then◌else◌, Option, Some, None, is_some, option_and_then, option_map, string_bytes, Result, Ok, Err, IsOk}
use Rattle.std.specs.List.{list_any}
use Rattle.std.specs.Option.{option_map_or}
use Rattle.std.specs.Str.{bytes_eq}
use Rattle.std.specs.Str.Parse.{digits_value, without_leading_plus}
use Rattle.clap.specs.Words.{Kinds, Row, Text, first_of, one_of}
use Rattle.command_words.specs.Command.{refusals, values_on}
use Rattle.command_words.specs.declared.job.Action.{Action}
use Rattle.command_words.specs.declared.job.Action.TheVariants.{Run, Load, Verify, Make, Upgrade}
use Rattle.command_words.specs.declared.job.Job.{Job}
use Rattle.command_words.specs.declared.job.PolicyName.{PolicyName}
use Rattle.command_words.specs.declared.job.PolicyName.TheVariants.{Quadratic, Halving, Words}
use Rattle.command_words.specs.declared.job.WordsFault.{WordsFault}
use Rattle.command_words.specs.declared.job.WordsFault.TheVariants.{Line, Unused, Memory}

-- What words ask for: a store, an action, how many places are stored at a time, how many pages of the store are kept in memory, the one
-- property that a load reads, or none where it reads all, how a full node of the tree is split, and from which seed how many places are made.
pub record Asked : Type 0 where
  pub store : Text
  pub action : Action
  pub batch : ℕ
  pub cache : ℕ
  pub text : Option Text
  pub policy : PolicyName
  pub from : ℕ
  pub count : ℕ

-- what a job asks for
abbrev pub asked_of : Job → Asked
asked_of job = record {
  store = string_bytes job.store;
  action = job.action;
  batch = job.batch;
  cache = job.cache;
  text = option_map string_bytes job.text;
  policy = job.policy;
  from = job.from;
  count = job.count;
}

-- the action of a word
abbrev pub action_of : Text → Option Action
action_of word =
    if bytes_eq word (codes "run") then Some Run
    else if bytes_eq word (codes "load") then Some Load
    else if bytes_eq word (codes "verify") then Some Verify
    else if bytes_eq word (codes "make") then Some Make
    else if bytes_eq word (codes "upgrade") then Some Upgrade
    else None

-- the policy of a word
abbrev pub policy_of : Text → Option PolicyName
policy_of word =
    if bytes_eq word (codes "quadratic") then Some Quadratic
    else if bytes_eq word (codes "halving") then Some Halving
    else if bytes_eq word (codes "words") then Some Words
    else None

-- the policy of an option's text, quadratic where the option is absent
abbrev pub policy_or_quadratic : Option Text → Option PolicyName
policy_or_quadratic None = Some Quadratic
policy_or_quadratic (Some word) = policy_of word

-- the policy among the values
abbrev pub policy_among : List Row → Option PolicyName
policy_among values = policy_or_quadratic (first_of (codes "policy") values)

-- the options
abbrev pub options : List Text
options = codes "batch" ∷ codes "cache" ∷ codes "text" ∷ codes "policy" ∷ codes "from" ∷ codes "count" ∷ []

-- the action uses the option
abbrev pub uses : Action → Text → Bool
uses Run option = bytes_eq option (codes "cache") || bytes_eq option (codes "policy")
uses Load option =
    bytes_eq option (codes "batch") || bytes_eq option (codes "cache") || bytes_eq option (codes "text") || bytes_eq option (codes "policy")
uses Verify option = bytes_eq option (codes "cache")
uses Make option =
    bytes_eq option (codes "batch") || bytes_eq option (codes "cache") || bytes_eq option (codes "policy") || bytes_eq option (codes "from")
    || bytes_eq option (codes "count")
uses Upgrade option = bytes_eq option (codes "cache")

-- an option stands among the values that the action doesn't use
abbrev pub has_unused : Action → List Row → Bool
has_unused action values = list_any (λ option. is_some (first_of option values) && not (uses action option)) options

-- the number that an option's text spells, in decimal digits behind at most one plus; else what stands for an option that is absent
abbrev pub number_or : ℕ → Option Text → ℕ
number_or absent text = option_map_or (λ digits. digits_value 10 (without_leading_plus digits)) text absent

-- the store, the action and the policy, with the other options among the values, and what is meant by those that are absent: a batch of
-- 1000 places, a cache of 1024 pages, all properties, the seed 0, and 1000 places that are made
abbrev pub asked_with : List Row → Text → Action → PolicyName → Asked
asked_with values store action policy = record {
  store = store;
  action = action;
  batch = number_or 1000 (one_of (codes "batch") values);
  cache = number_or 1024 (one_of (codes "cache") values);
  text = first_of (codes "text") values;
  policy = policy;
  from = number_or 0 (one_of (codes "from") values);
  count = number_or 1000 (one_of (codes "count") values);
}

-- what a store, an action and a policy ask for, where all stand among the values
abbrev pub asked_for : List Row → Option Text → Option Action → Option PolicyName → Result Asked WordsFault
asked_for values None action policy = Err Line
asked_for values (Some store) None policy = Err Line
asked_for values (Some store) (Some action) None = Err Line
asked_for values (Some store) (Some action) (Some policy) =
    if has_unused action values then Err Unused else Ok (asked_with values store action policy)

-- what the values ask for
abbrev pub asked_among : List Row → Result Asked WordsFault
asked_among values =
    asked_for values (first_of (codes "STORE") values) (option_and_then action_of (first_of (codes "ACTION") values)) (policy_among values)

-- what stands on a line asks for, where the command refuses it for no cause
abbrev pub asked_unless : Kinds → List Row → Result Asked WordsFault
asked_unless [] values = asked_among values
asked_unless (cause ∷ causes) values = Err Line

-- what the words behind the program's name ask for, or why they are refused
unfoldable pub reading : List Text → Result Asked WordsFault
reading words = asked_unless (refusals (codes "irtree" ∷ words)) (values_on (codes "irtree" ∷ words))

-- the words ask for this
abbrev pub AskFor : List Text → Asked → Type 0
AskFor words asked = reading words ≡ Ok asked

-- the words are accepted
abbrev pub AreAccepted : List Text → Type 0
AreAccepted words = IsOk (reading words)

-- memory ran out, or what is read is this
abbrev pub IsReading : Result Job WordsFault → Result Asked WordsFault → Type 0
IsReading (Ok job) read = read ≡ Ok (asked_of job)
IsReading (Err Line) read = read ≡ Err Line
IsReading (Err Unused) read = read ≡ Err Unused
IsReading (Err Memory) read = Unit {0}
