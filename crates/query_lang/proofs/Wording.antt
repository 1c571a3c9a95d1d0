-- Words one by one.
use Rattle.std.proofs.Common.{◌≡◌, ◌-◌, ℕ, zero, suc, List, [], ◌∷◌, ◌++◌, Some, None, Result, Ok, Err, refl, arith}
use Rattle.line_tokens.specs.Token.{Token, token_of}
use Rattle.query_replies.specs.declared.fault.LineFault.{LineFault}
use Rattle.query_replies.specs.declared.fault.LineFault.TheVariants.{Extra}
use Rattle.query_lang.specs.Word.{more_words, one_more}

-- the line ends
pub more_end : {A : Type 0} (accept : List A → Token → Result A LineFault) (left : ℕ) (named : List A) (text : List ℕ) → token_of text ≡ None → more_words accept left named text ≡ Ok named
unfolding more_words
more_end accept zero named text e = rw e refl
more_end accept (suc left) named text e = rw e refl

-- a token too many
pub more_extra : {A : Type 0} (accept : List A → Token → Result A LineFault) (left : ℕ) (named : List A) (text rest : List ℕ) (token : Token) → left ≡ 0 → token_of text ≡ Some (token, rest)
    → more_words accept left named text ≡ Err Extra
unfolding more_words
more_extra accept zero named text rest token is e = rw e refl
more_extra accept (suc left) named text rest token is e = absurd (omega arith)

-- one more
pub more_one : {A : Type 0} (accept : List A → Token → Result A LineFault) (left : ℕ) (named : List A) (text rest : List ℕ) (token : Token) → (left ≡ 0 → ⊥) → token_of text ≡ Some (token, rest)
    → more_words accept left named text ≡ one_more accept (left - 1) named token rest
unfolding more_words
more_one accept zero named text rest token some e = absurd (some refl)
more_one accept (suc left) named text rest token some e =
    let same : suc left - 1 ≡ left = omega arith in
    rw (e, same) refl

-- it is refused
pub one_refused : {A : Type 0} (accept : List A → Token → Result A LineFault) (left : ℕ) (named : List A) (token : Token) (text : List ℕ) (fault : LineFault) → accept named token ≡ Err fault
    → one_more accept left named token text ≡ Err fault
one_refused accept left named token text fault e = rw e refl

-- it is taken
pub one_taken : {A : Type 0} (accept : List A → Token → Result A LineFault) (left : ℕ) (named more : List A) (token : Token) (text : List ℕ) (word : A) → accept named token ≡ Ok word → more ≡ named ++ word ∷ []
    → one_more accept left named token text ≡ more_words accept left more text
one_taken accept left named more token text word e is = rw (e, is) refl
