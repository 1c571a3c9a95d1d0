use Rattle.std.proofs.Common.{◌≡◌, ◌∷◌, codes, map, take, string_bytes}
use Rattle.command_words.proofs.line.line_of.Given as goal

abbrev pub invariant-loop-word : goal.invariant-loop-word
invariant-loop-word l = map (λ word. word.now) l.line.items ≡ codes "irtree" ∷ map string_bytes (take l.word-index l.words)
