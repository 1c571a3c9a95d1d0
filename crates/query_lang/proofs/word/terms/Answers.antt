use Rattle.std.proofs.Common.{◌∷◌, ◌++◌, [], ap, ◌∙◌}
use Rattle.place_values.specs.Query.{IsWeights}
use Rattle.line_tokens.specs.Seen.{seen}
use Rattle.query_lang.proofs.Naming.{terms_sound, if_ok}
use Rattle.query_lang.proofs.word.terms.Goals as goal

pub returns-clause-sound : goal.returns-clause-sound
returns-clause-sound c =
    let named = c.in_ok-terms.ensures.items ∙ ap (λ xs. xs ++ c.in_ok-first.first ∷ []) c.new.ensures.items in
    if_ok _ IsWeights c.more_terms.result _ c.more_terms.ensures (λ items e. terms_sound _ items c.in_ok-first.first (seen c.in_ok-token.token) _ named c.in_ok-first.ensures e)
