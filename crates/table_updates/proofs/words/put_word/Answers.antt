use Rattle.std.proofs.Common.{sym, subst, arith}
use Rattle.term_impacts.specs.Pairs.{IsWordMap}
use Rattle.term_impacts.proofs.PairsLemmas.{IsWordMap-insert_entry}
use Rattle.table_updates.proofs.words.put_word.Goals as goal

pub returns-in-Ok-clause-map : goal.returns-in-Ok-clause-map
returns-in-Ok-clause-map c =
    subst IsWordMap (sym c.in-Ok.ensures.entries)
    (IsWordMap-insert_entry _ c.args.word c.args.impact c.requires.map c.requires.room c.requires.impact (omega (arith, c.ranges.impact)))
