-- The first token of a text.
use Rattle.std.proofs.Common.{◌≡◌, ◌≢◌, ◌<◌, ℕ, true, false, List, [], ◌∷◌, length, get_or, drop, Some, None, refl, arith, nat_eq}
use Rattle.std.proofs.lemmas.Bool.Decides.{nat_tests}
use Rattle.line_tokens.specs.Literal.{literal_of}
use Rattle.line_tokens.specs.Token.{Open, Close, bare_at, quoted_at, token_of, after_blanks}

-- nothing is left
pub at_end : (text rest : List ℕ) → rest ≡ after_blanks text → length rest ≡ 0 → token_of text ≡ None
unfolding token_of
at_end text [] is none = rw (← is) refl
at_end text (byte ∷ rest) is none = absurd (omega arith)

-- a parenthesis that opens
pub at_open : (text rest : List ℕ) → rest ≡ after_blanks text → 0 < length rest → get_or rest 0 0 ≡ 40 → token_of text ≡ Some (Open, drop 1 rest)
unfolding token_of
at_open text [] is some first = absurd (omega arith)
at_open text (byte ∷ rest) is some first =
    let a : nat_eq byte 40 ≡ true = grind (arith, nat_tests) in
    rw (← is, a) refl

-- one that closes
pub at_close : (text rest : List ℕ) → rest ≡ after_blanks text → 0 < length rest → get_or rest 0 0 ≡ 41 → token_of text ≡ Some (Close, drop 1 rest)
unfolding token_of
at_close text [] is some first = absurd (omega arith)
at_close text (byte ∷ rest) is some first =
    let a : nat_eq byte 40 ≡ false = grind (arith, nat_tests) in
    let b : nat_eq byte 41 ≡ true = grind (arith, nat_tests) in
    rw (← is, a, b) refl

-- a quotation mark
pub at_quote : (text rest : List ℕ) → rest ≡ after_blanks text → 0 < length rest → get_or rest 0 0 ≡ 34 → token_of text ≡ Some (quoted_at (literal_of (drop 1 rest)))
unfolding token_of
at_quote text [] is some first = absurd (omega arith)
at_quote text (byte ∷ rest) is some first =
    let a : nat_eq byte 40 ≡ false = grind (arith, nat_tests) in
    let b : nat_eq byte 41 ≡ false = grind (arith, nat_tests) in
    let c : nat_eq byte 34 ≡ true = grind (arith, nat_tests) in
    rw (← is, a, b, c) refl

-- any other byte
pub at_other : (text rest : List ℕ) → rest ≡ after_blanks text → 0 < length rest → get_or rest 0 0 ≢ 40 → get_or rest 0 0 ≢ 41 → get_or rest 0 0 ≢ 34
    → token_of text ≡ Some (bare_at rest)
unfolding token_of
at_other text [] is some left right quote = absurd (omega arith)
at_other text (byte ∷ rest) is some left right quote =
    let a : nat_eq byte 40 ≡ false = grind (arith, nat_tests) in
    let b : nat_eq byte 41 ≡ false = grind (arith, nat_tests) in
    let c : nat_eq byte 34 ≡ false = grind (arith, nat_tests) in
    rw (← is, a, b, c) refl
