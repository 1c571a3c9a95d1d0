use Rattle.std.proofs.Common.{◌≡◌, ◌∙◌, ◌∷◌, codes, map, rules, string_bytes}
use Rattle.command_words.proofs.Readings.{refused_reads, taken_reads}
use Rattle.command_words.proofs.line.read_words.Goals as goal

pub returns-in-Ok-clause-reading : goal.returns-in-Ok-clause-reading
returns-in-Ok-clause-reading c =
    let line : map (λ word. word.now) c.as_slice.result.now ≡ codes "irtree" ∷ map string_bytes c.args.words.now = search rules in
    taken_reads (map string_bytes c.args.words.now) _ _ c.job_of.result line c.in-Ok.ensures.taken c.in-Ok.ensures.values c.job_of.ensures.reading

pub returns : goal.returns
returns c =
    let line : map (λ word. word.now) c.as_slice.result.now ≡ codes "irtree" ∷ map string_bytes c.args.words.now = search rules in
    record {
      reading = refused_reads (map string_bytes c.args.words.now) _ line (c.in-Err.ensures.refused (λ memory. c.in_default.not-OutOfMemory (c.kind.ensures ∙ memory)));
      batch = tt;
      cache = tt;
      count = tt;
    }
