use Rattle.std.proofs.Common.{◌≡◌, ◌∙◌, ◌∷◌, ◌↔◌, codes, map, refl, rules, subst, string_bytes, IsErr, IsSome}
use Rattle.std.specs.Prelude.{Result}
use Rattle.std.proofs.lemmas.Result.{IfOk-weaker}
use Rattle.command_words.specs.Job.{Asked}
use Rattle.command_words.specs.declared.job.WordsFault.{WordsFault}
use Rattle.command_words.proofs.Readings.{refused_reads, taken_fails}
use Rattle.command_words.proofs.line.explain_words.Goals as goal

pub returns-in-Ok : goal.returns-in-Ok
returns-in-Ok c =
    let line : map (λ word. word.now) c.as_slice.result.now ≡ codes "irtree" ∷ map string_bytes c.args.words.now = search rules in
    let same = taken_fails (map string_bytes c.args.words.now) _ _ line c.in-Ok.ensures.taken c.in-Ok.ensures.values in
    IfOk-weaker c.told_of_values.result _ _ (λ text told. subst (λ (read : Result Asked WordsFault). IsSome text ↔ IsErr read) same told) c.told_of_values.ensures

pub returns : goal.returns
returns c =
    let line : map (λ word. word.now) c.as_slice.result.now ≡ codes "irtree" ∷ map string_bytes c.args.words.now = search rules in
    let refused = refused_reads (map string_bytes c.args.words.now) _ line (c.in-Err.ensures.refused (λ memory. c.in_default.not-OutOfMemory (c.kind.ensures ∙ memory))) in
    ((λ some. rw refused refl), (λ fails. refl))
