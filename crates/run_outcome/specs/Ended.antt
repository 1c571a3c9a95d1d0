-- The status and the error line of each end.
use Rattle.std.specs.Prelude.{ℕ, List, [], ◌∷◌, ◌++◌, codes, decimal}
use Rattle.run_outcome.specs.declared.ended.Ended.{Ended}
use Rattle.run_outcome.specs.declared.ended.Ended.TheVariants.{Done, Memory, Words, Disk, Source, Sink, Input, Store, Limit}
use Rattle.run_outcome.specs.declared.ended.InputFault.{InputFault}
use Rattle.run_outcome.specs.declared.ended.InputFault.TheVariants.{NotUtf8, Syntax, TooDeep, NotFeatures, Long}
use Rattle.run_outcome.specs.declared.ended.LimitFault.{LimitFault}
use Rattle.run_outcome.specs.declared.ended.LimitFault.TheVariants.{Full, Worn, NoRoom}
use Rattle.run_outcome.specs.declared.ended.StoreFault.{StoreFault}
use Rattle.run_outcome.specs.declared.ended.StoreFault.TheVariants.{NotAStore, BadJournal, Damaged, Version1}
use Rattle.page_face.specs.declared.fault.Damage.{Damage}
use Rattle.page_face.specs.declared.fault.Rule.{Rule}
use Rattle.page_face.specs.declared.fault.Rule.TheVariants as rules

-- the exit status
abbrev pub status_of : Ended → ℕ
status_of Done = 0
status_of Memory = 1
status_of Words = 2
status_of Disk = 3
status_of Source = 4
status_of Sink = 5
status_of (Input fault) = 6
status_of (Store fault) = 7
status_of (Limit fault) = 8

-- an offset in decimal, and LF
abbrev pub at_line : ℕ → List ℕ
at_line at = decimal at ++ 10 ∷ []

-- what stands behind `irtree: input `
abbrev pub line_of_input : InputFault → List ℕ
line_of_input (NotUtf8 at) = codes "not-utf8 " ++ at_line at
line_of_input (Syntax at) = codes "syntax " ++ at_line at
line_of_input (TooDeep at) = codes "too-deep " ++ at_line at
line_of_input NotFeatures = codes "not-features\n"
line_of_input Long = codes "long\n"

-- the number of a rule
abbrev pub rule_number : Rule → ℕ
rule_number rules.Head = 1
rule_number rules.Link = 2
rule_number rules.Kind = 3
rule_number rules.Fill = 4
rule_number rules.Order = 5
rule_number rules.Spare = 6
rule_number rules.Level = 7
rule_number rules.Value = 8
rule_number rules.Shared = 9
rule_number rules.Rect = 10
rule_number rules.Row = 11
rule_number rules.Entry = 12
rule_number rules.Words = 13
rule_number rules.Counts = 14

-- `broken PAGE RULE`
abbrev pub broken_line : Damage → List ℕ
broken_line damage = codes "broken " ++ (decimal damage.page ++ (32 ∷ at_line (rule_number damage.rule)))

-- what stands behind `irtree: ` where the store is none
abbrev pub line_of_store : StoreFault → List ℕ
line_of_store NotAStore = codes "not a store\n"
line_of_store (BadJournal at) = codes "journal " ++ at_line at
line_of_store (Damaged damage) = codes "damaged " ++ (decimal damage.page ++ (32 ∷ at_line (rule_number damage.rule)))
line_of_store Version1 = codes "version 1\n"

-- the line of a limit
abbrev pub line_of_limit : LimitFault → List ℕ
line_of_limit Full = codes "irtree: limit full\n"
line_of_limit Worn = codes "irtree: limit worn\n"
line_of_limit NoRoom = codes "irtree: limit no-room\n"

-- the line on standard error
abbrev pub line_of_end : Ended → List ℕ
line_of_end Done = []
line_of_end Memory = codes "irtree: want of memory\n"
line_of_end Words = codes "usage: irtree STORE run|load|verify|make|upgrade [options]\n"
line_of_end Disk = codes "irtree: disk\n"
line_of_end Source = codes "irtree: source\n"
line_of_end Sink = codes "irtree: sink\n"
line_of_end (Input fault) = codes "irtree: input " ++ line_of_input fault
line_of_end (Store fault) = codes "irtree: " ++ line_of_store fault
line_of_end (Limit fault) = line_of_limit fault
