use Rattle.std.proofs.Common.{◌≡◌, ◌==◌, true, false, sym, ◌∙◌}
use Rattle.split_condense.proofs.Same.{entry-same, pairs-same}
use Rattle.split_condense.proofs.entry_put.is_same_entry.Goals as goal
use Rattle.split_condense.proofs.entry_put.is_same_entry.Goals.{then-eq, else-eq}

pub returns-then-old-new-clause-same : goal.returns-then-old-new-clause-same
returns-then-old-new-clause-same c = λ yes key.
    let both : (c.eq.result ≡ true) × ((c.args.old.now.count == c.args.new.now.count) ≡ true) = elim c.if-eq.branch [
      | then-eq w ↦ (w.if-eq.true, sym w.value-is ∙ c.if-old-new.true)
      | else-eq w ↦ (let no : false ≡ true = sym w.if-eq.false ∙ (sym w.value-is ∙ c.if-old-new.true) in absurd (cc))
    ] in
    entry-same key c.args.old.now c.args.new.now (sym c.eq.ensures ∙ both.0) both.1 (sym c.eq-then-old-new.ensures ∙ yes)

pub returns-then-old-new-clause-differs : goal.returns-then-old-new-clause-differs
returns-then-old-new-clause-differs c = λ key same. c.eq-then-old-new.ensures ∙ pairs-same key c.args.old.now c.args.new.now same
