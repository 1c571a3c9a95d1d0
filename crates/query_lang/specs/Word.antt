-- Words of a line.
use Rattle.std.specs.Prelude.{ℕ, zero, suc, ◌==◌, if◌then◌else◌, Bool, List, [], ◌∷◌, ◌++◌, Option, Some, None, Result, Ok, Err}
use Rattle.std.specs.List.{list_any}
use Rattle.std.specs.Str.{bytes_eq}
use Rattle.term_impacts.specs.Text.{words_of, only}
use Rattle.line_tokens.specs.Token.{Token, Bare, Quoted, Open, Close, Broken, token_of}
use Rattle.query_replies.specs.declared.fault.LineFault.{LineFault}
use Rattle.query_replies.specs.declared.fault.LineFault.TheVariants.{Word}
use Rattle.query_lang.specs.Reader.{◌>>=◌, part, ended}
use Rattle.query_lang.specs.Number.{number_in}

-- a word, where it was not named before
abbrev pub new_word : (List ℕ → Bool) → Option (List ℕ) → Result (List ℕ) LineFault
new_word is_named None = Err Word
new_word is_named (Some word) = if is_named word then Err Word else Ok word

-- the one word of a text, which was not named before
abbrev pub word_in : (List ℕ → Bool) → List ℕ → Result (List ℕ) LineFault
word_in is_named text = new_word is_named (only (words_of text))

-- the word is among these
abbrev pub is_among : List (List ℕ) → List ℕ → Bool
is_among words word = list_any (λ other. bytes_eq other word) words

-- a token that is a word without a weight
abbrev pub word_of : List (List ℕ) → Token → Result (List ℕ) LineFault
word_of named (Bare bytes) = word_in (is_among named) bytes
word_of named (Quoted bytes) = word_in (is_among named) bytes
word_of named Open = Err Word
word_of named Close = Err Word
word_of named Broken = Err Word

-- a byte before what stands around the last `*`
abbrev pub around : ℕ → List ℕ → Option (List ℕ × List ℕ) → Option (List ℕ × List ℕ)
around byte bytes (Some parts) = Some (byte ∷ parts.0, parts.1)
around byte bytes None = if byte == 42 then Some ([], bytes) else None

-- what stands before the last `*` and behind it
abbrev pub at_star : List ℕ → Option (List ℕ × List ℕ)
at_star [] = None
at_star (byte ∷ bytes) = around byte bytes (at_star bytes)

-- a word with a weight
abbrev pub Term : Type 0
Term = List ℕ × ℕ

-- the word is among those of terms
abbrev pub is_term : List Term → List ℕ → Bool
is_term terms word = list_any (λ term. bytes_eq term.0 word) terms

-- a word, and then its weight
abbrev pub with_weight : List ℕ → Result ℕ LineFault → Result Term LineFault
with_weight word (Ok weight) = Ok (word, weight)
with_weight word (Err fault) = Err fault

-- a word that was read, and then its weight, from 1 to 20
abbrev pub weighted : Result (List ℕ) LineFault → List ℕ → Result Term LineFault
weighted (Ok word) weight = with_weight word (number_in 1 20 weight)
weighted (Err fault) weight = Err fault

-- a word without a weight has weight 1
abbrev pub unweighted : Result (List ℕ) LineFault → Result Term LineFault
unweighted (Ok word) = Ok (word, 1)
unweighted (Err fault) = Err fault

-- a bare token: a word, or a word before the last `*` and its weight
abbrev pub bare_term : List Term → List ℕ → Option (List ℕ × List ℕ) → Result Term LineFault
bare_term named bytes None = unweighted (word_in (is_term named) bytes)
bare_term named bytes (Some parts) = weighted (word_in (is_term named) parts.0) parts.1

-- a token that is a word with a weight
abbrev pub term_of : List Term → Token → Result Term LineFault
term_of named (Bare bytes) = bare_term named bytes (at_star bytes)
term_of named (Quoted bytes) = unweighted (word_in (is_term named) bytes)
term_of named Open = Err Word
term_of named Close = Err Word
term_of named Broken = Err Word

-- what is done with the next token, where there is one
abbrev pub if_more : {A : Type 0} → A → (Token → List ℕ → Result A LineFault) → Option (Token × List ℕ) → Result A LineFault
if_more x go None = Ok x
if_more x go (Some found) = go found.0 found.1

-- the words behind one that was read
abbrev pub beside : {A : Type 0} → (List A → List ℕ → Result (List A) LineFault) → List A → List ℕ → Result A LineFault → Result (List A) LineFault
beside go named text (Ok word) = go (named ++ word ∷ []) text
beside go named text (Err fault) = Err fault

-- words up to the end of the line, at most so many more, each accepted beside those that were named before
unfoldable pub more_words : {A : Type 0} → (List A → Token → Result A LineFault) → ℕ → List A → List ℕ → Result (List A) LineFault
more_words accept zero named text = ended named (token_of text)
more_words accept (suc left) named text =
    if_more named (λ token rest. beside (more_words accept left) named rest (accept named token)) (token_of text)

-- the word of a token, and at most so many more
abbrev pub one_more : {A : Type 0} → (List A → Token → Result A LineFault) → ℕ → List A → Token → List ℕ → Result (List A) LineFault
one_more accept left named token text = beside (more_words accept left) named text (accept named token)

-- 1 to 8 words
abbrev pub some_words : {A : Type 0} → (List A → Token → Result A LineFault) → List ℕ → Result (List A) LineFault
some_words accept = part (accept []) >>= (λ word. more_words accept 7 (word ∷ []))
