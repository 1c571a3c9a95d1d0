-- How reasons are written.
use Rattle.std.specs.Prelude.{ℕ, List, [], codes}
use Rattle.query_replies.specs.declared.fault.LineFault.{LineFault}
use Rattle.query_replies.specs.declared.fault.LineFault.TheVariants.{Utf8, Length, Command, Missing, Number, Range, Key, Word, Expression, Extra, Memory}

-- the word that names a reason; want of memory has none
abbrev pub reason_text : LineFault → List ℕ
reason_text Utf8 = codes "utf8"
reason_text Length = codes "length"
reason_text Command = codes "command"
reason_text Missing = codes "missing"
reason_text Number = codes "number"
reason_text Range = codes "range"
reason_text Key = codes "key"
reason_text Word = codes "word"
reason_text Expression = codes "expression"
reason_text Extra = codes "extra"
reason_text Memory = []
