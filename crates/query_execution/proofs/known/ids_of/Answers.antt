use Rattle.std.proofs.Common.{ℕ, List, sym, subst}
use Rattle.std.proofs.lemmas.Result.{IfOk-weaker}
use Rattle.std.specs.List.{Contains}
use Rattle.node_filter.specs.Numbers.{Numbers}
use Rattle.query_execution.specs.Asked.{AreKnown, asked_in}
use Rattle.query_execution.proofs.known.ids_of.Goals as goal

pub returns-clause-known : goal.returns-clause-known
returns-clause-known g c = λ entries holds.
    IfOk-weaker c.ids_among.result
    (λ (ids : Numbers). AreKnown ids entries.texts c.as_slice.result.now)
    (λ (ids : Numbers). AreKnown ids entries.texts (asked_in c.args.query.now))
    (λ (ids : Numbers) known word among. known word (subst (λ (words : List (List ℕ)). Contains words word) (sym c.as_slice.ensures.value) (c.in-Ok.ensures.every word among)))
    (c.ids_among.ensures.known entries holds)
