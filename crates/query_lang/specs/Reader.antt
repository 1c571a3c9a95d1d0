-- How a line is read: part by part from the left, the first part that is refused deciding.
use Rattle.std.specs.Prelude.{◌≡◌, ◌≢◌, ℕ, Bool, false, List, Option, Some, None, Result, Ok, Err, MatchResult}
use Rattle.std.specs.Str.{bytes_eq}
use Rattle.line_tokens.specs.Token.{Token, Bare, Quoted, Open, Close, Broken, token_of}
use Rattle.query_replies.specs.declared.fault.LineFault.{LineFault}
use Rattle.query_replies.specs.declared.fault.LineFault.TheVariants.{Missing, Extra, Memory}

-- what is read of a text: something and the text behind it, or the reason why not
abbrev pub Reader : Type 0 → Type 0
Reader A = List ℕ → Result (A × List ℕ) LineFault

-- what is done with what was read
abbrev pub and_then : {A B : Type 0} → (A → List ℕ → Result B LineFault) → Result (A × List ℕ) LineFault → Result B LineFault
and_then go (Ok read) = go read.0 read.1
and_then go (Err fault) = Err fault

infixl 10 ◌>>=◌
-- a part, and then what follows it
abbrev pub ◌>>=◌ : {A B : Type 0} → Reader A → (A → List ℕ → Result B LineFault) → List ℕ → Result B LineFault
(read >>= go) text = and_then go (read text)

-- what is there without reading
abbrev pub gives : {A : Type 0} → A → Reader A
gives x text = Ok (x, text)

-- what a part says, and the text behind it
abbrev pub followed : {A : Type 0} → List ℕ → Result A LineFault → Result (A × List ℕ) LineFault
followed text (Ok x) = Ok (x, text)
followed text (Err fault) = Err fault

-- a token as it is accepted, and the text behind it
abbrev pub accepted : {A : Type 0} → (Token → Result A LineFault) → Option (Token × List ℕ) → Result (A × List ℕ) LineFault
accepted accept None = Err Missing
accepted accept (Some found) = followed found.1 (accept found.0)

-- the next token, as it is accepted; missing where the line ends
abbrev pub part : {A : Type 0} → (Token → Result A LineFault) → Reader A
part accept text = accepted accept (token_of text)

-- something, where the line ends
abbrev pub ended : {A : Type 0} → A → Option (Token × List ℕ) → Result A LineFault
ended x None = Ok x
ended x (Some found) = Err Extra

-- something at the end of the line
abbrev pub at_end : {A : Type 0} → A → List ℕ → Result A LineFault
at_end x text = ended x (token_of text)

-- A call answers what is wanted, or that memory is wanting.
abbrev pub Answers : {A B : Type 0} → (A → B) → Result A LineFault → Result B LineFault → Type 0
Answers seen result wanted = MatchResult result (λ x. wanted ≡ Ok (seen x)) (λ fault. fault ≢ Memory → wanted ≡ Err fault)

-- the token is this bare word
abbrev pub is_word : List ℕ → Token → Bool
is_word word (Bare bytes) = bytes_eq bytes word
is_word word (Quoted bytes) = false
is_word word Open = false
is_word word Close = false
is_word word Broken = false

-- what is made of what was read
abbrev pub made : {A B : Type 0} → (A → B) → Result A LineFault → Result B LineFault
made make (Ok x) = Ok (make x)
made make (Err fault) = Err fault
