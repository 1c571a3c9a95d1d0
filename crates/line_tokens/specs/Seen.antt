-- What contracts see of a token.
use Rattle.std.specs.Prelude.{ℕ, List, string_bytes}
use Rattle.line_tokens.specs.Token as tokens
use Rattle.line_tokens.specs.declared.token.Token.{Token}
use Rattle.line_tokens.specs.declared.token.Token.TheVariants as variants
use Rattle.line_tokens.specs.declared.token.Quoted.{Quoted}
use Rattle.line_tokens.specs.declared.token.Quoted.TheVariants as quoted

-- what a literal says
abbrev pub says : Quoted → List ℕ
says (quoted.Plain text) = text.now
says (quoted.Decoded text) = string_bytes text

-- the token
abbrev pub seen : Token → tokens.Token
seen (variants.Bare text) = tokens.Bare text.now
seen (variants.Quoted literal) = tokens.Quoted (says literal)
seen variants.Open = tokens.Open
seen variants.Close = tokens.Close
seen variants.Broken = tokens.Broken
