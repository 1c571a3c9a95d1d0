-- How filters are read.
use Rattle.std.proofs.Common.{◌≡◌, ℕ, List, Some, None, Ok, Err, codes, true, false, refl}
use Rattle.line_tokens.specs.Token.{Token, token_of}
use Rattle.query_replies.specs.declared.fault.LineFault.TheVariants.{Extra}
use Rattle.query_lang.specs.Reader.{is_word}
use Rattle.query_lang.specs.Expression.{condition, filter_of}

-- the line ends
pub filter_none : (text : List ℕ) → token_of text ≡ None → filter_of text ≡ Ok None
unfolding filter_of
filter_none text e = rw e refl

-- another token than `where`
pub filter_extra : (text rest : List ℕ) (token : Token) → token_of text ≡ Some (token, rest) → is_word (codes "where") token ≡ false → filter_of text ≡ Err Extra
unfolding filter_of
filter_extra text rest token e isnt = rw (e, isnt) refl

-- `where`
pub filter_some : (text rest : List ℕ) (token : Token) → token_of text ≡ Some (token, rest) → is_word (codes "where") token ≡ true → filter_of text ≡ condition rest
unfolding filter_of
filter_some text rest token e holds = rw (e, holds) refl
