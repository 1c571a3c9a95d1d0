-- How a scale is read.
use Rattle.std.proofs.Common.{◌≡◌, ℕ, List, Some, None, Ok, codes, refl}
use Rattle.line_tokens.specs.Token.{token_of}
use Rattle.query_lang.specs.Reader.{part}
use Rattle.query_lang.specs.Number.{whole_of}
use Rattle.query_lang.specs.Expression.{behind_word}
use Rattle.query_lang.specs.Line.{scale_part}

-- `scale`
pub scale_some : (text rest : List ℕ) → behind_word (codes "scale") (token_of text) ≡ Some rest → scale_part text ≡ part (whole_of 0 1000) rest
unfolding scale_part
scale_some text rest e = rw e refl

-- another token, or none
pub scale_none : (text : List ℕ) → behind_word (codes "scale") (token_of text) ≡ None → scale_part text ≡ Ok (1000, text)
unfolding scale_part
scale_none text e = rw e refl
