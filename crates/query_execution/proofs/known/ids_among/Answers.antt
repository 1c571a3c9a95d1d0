use Rattle.std.proofs.Common.{◌≡◌, ℕ, List, ap, ◌∙◌}
use Rattle.std.proofs.lemmas.List.Elements.{All-contains, All-from_recursion}
use Rattle.std.specs.List.{AllByRecursion, flat_map}
use Rattle.std.specs.Map.{lookup}
use Rattle.std.specs.Str.{bytes_eq}
use Rattle.term_impacts.specs.Form.{IsWordText, word_form}
use Rattle.node_filter.specs.Numbers.{Numbers}
use Rattle.query_execution.specs.Asked.{id_in}
use Rattle.query_execution.proofs.Lookups.{found-known}
use Rattle.query_execution.proofs.known.ids_among.Goals as goal

pub returns-in-Ok-clause-known : goal.returns-in-Ok-clause-known
returns-in-Ok-clause-known g c = λ entries holds word among.
    let words : List (List ℕ) = c.args.words.now in
    let texts : AllByRecursion IsWordText words = c.in-Ok.ensures.texts in
    let listed : c.from_vec.result ≡ flat_map (id_in entries.texts) words = c.from_vec.ensures ∙ c.in-Ok.ensures.found entries holds in
    ap (λ (ids : Numbers). lookup (bytes_eq (word_form word)) ids) listed
    ∙ found-known entries.texts word (All-contains IsWordText words word (All-from_recursion IsWordText words texts) among) words texts among
