-- Why what stands on a line is no task.
use Rattle.command_words.specs.declared.job.WordsFault.{WordsFault}
use Rattle.command_words.specs.declared.job.WordsFault.TheVariants as faults
use Rattle.command_words.specs.declared.task.Refusal.{Refusal}
use Rattle.command_words.specs.declared.task.Refusal.TheVariants.{NoStore, NoAction, NotAnAction, NotAPolicy, Unused}

-- the fault of words that are refused so
abbrev pub fault_of : Refusal → WordsFault
fault_of NoStore = faults.Line
fault_of NoAction = faults.Line
fault_of (NotAnAction word) = faults.Line
fault_of (NotAPolicy word) = faults.Line
fault_of (Unused action option) = faults.Unused
