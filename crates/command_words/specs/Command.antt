-- The command line of the program, as one simple command of the crate `clap`.
use Rattle.std.specs.Prelude.{true, List, [], ◌∷◌, fold, Some, IfSome, codes}
use Rattle.clap.specs.Words.{App, IsUnsignedIn, Kinds, Row, Rule, Text, fault_of, matches_of, new_app, new_rule, one_of, with_rule}
use Rattle.clap.specs.declared.builder.value_parser.ValueParser.TheVariants.{NonEmptyString, Unsigned}

-- the first word that is no option: the store, a text of at least one byte
abbrev pub store_rule : Rule
store_rule = record (new_rule (codes "STORE")) { required = true; parser = Some NonEmptyString }

-- the second such word: the action
abbrev pub action_rule : Rule
action_rule = record (new_rule (codes "ACTION")) { required = true }

-- an option with one value, spelled `--name VALUE` or `--name=VALUE`
abbrev pub option_rule : Text → Rule
option_rule name = record (new_rule name) { long = Some name; value_names = 1 }

-- how many places are stored at a time: 1 to 10,000
abbrev pub batch_rule : Rule
batch_rule = record (option_rule (codes "batch")) { parser = Some (Unsigned 1 10000) }

-- how many pages of the store are kept in memory: 0 to 65,536
abbrev pub cache_rule : Rule
cache_rule = record (option_rule (codes "cache")) { parser = Some (Unsigned 0 65536) }

-- the one property that a load reads: any text
abbrev pub text_rule : Rule
text_rule = option_rule (codes "text")

-- how a full node of the tree is split: any text
abbrev pub policy_rule : Rule
policy_rule = option_rule (codes "policy")

-- the seed that places are made from: any number below 2^64
abbrev pub from_rule : Rule
from_rule = record (option_rule (codes "from")) { parser = Some (Unsigned 0 18446744073709551615) }

-- how many places are made: 1 to 100,000
abbrev pub count_rule : Rule
count_rule = record (option_rule (codes "count")) { parser = Some (Unsigned 1 100000) }

-- all that may stand on the line
abbrev pub rules : List Rule
rules = store_rule ∷ action_rule ∷ batch_rule ∷ cache_rule ∷ text_rule ∷ policy_rule ∷ from_rule ∷ count_rule ∷ []

-- the command with these rules, and no setting of its own
abbrev pub program : App
program = fold with_rule (new_app (codes "irtree")) rules

-- why the command refuses a line, of which the first word is the program's name; nothing where it takes the line
unfoldable pub refusals : List Text → Kinds
refusals line = fault_of program line

-- what stands on a line that the command takes: the values of each argument that is there
unfoldable pub values_on : List Text → List Row
values_on line = matches_of program line

-- the numbers that stand among the values lie in their ranges
pub record HasNumbers (values : List Row) : Type 0 where
  pub batch : IfSome (one_of (codes "batch") values) (IsUnsignedIn 1 10000)
  pub cache : IfSome (one_of (codes "cache") values) (IsUnsignedIn 0 65536)
  pub from : IfSome (one_of (codes "from") values) (IsUnsignedIn 0 18446744073709551615)
  pub count : IfSome (one_of (codes "count") values) (IsUnsignedIn 1 100000)
