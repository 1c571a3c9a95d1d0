use Rattle.std.proofs.Common.{◌∷◌, ◌++◌, [], ap, ◌∙◌}
use Rattle.place_values.specs.Query.{IsTerms}
use Rattle.query_lang.proofs.Naming.{words_sound, if_ok}
use Rattle.query_lang.proofs.word.words.Goals as goal

pub returns-clause-sound : goal.returns-clause-sound
returns-clause-sound c =
    let named = c.in_ok-words.ensures.items ∙ ap (λ xs. xs ++ c.in_ok-first.first ∷ []) c.new.ensures.items in
    if_ok _ IsTerms c.more_words.result _ c.more_words.ensures (λ items e. words_sound _ items c.in_ok-first.first _ named e)
