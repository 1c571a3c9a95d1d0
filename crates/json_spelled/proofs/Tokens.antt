-- What is read of a token stays UTF-8.
use Rattle.std.proofs.Common.{◌≡◌, ℕ, Option, Some, None, Bool, true, false, refl, cond}
use Rattle.std.specs.Str.{IsUtf8}
use Rattle.std.specs.Char.{IsScalar}
use Rattle.std.specs.Prelude.{encode_utf8}
use Rattle.std.proofs.lemmas.Str.{IsUtf8-encode, IsUtf8-nil}
use Rattle.json_spelled.specs.Grammar.{said, alone}

-- a choice of two characters is one
said_either : (a b : Bool) (code : ℕ) → (cond a true b ≡ true → IsScalar code) → IsUtf8 (cond a (encode_utf8 code) (cond b (encode_utf8 code) (encode_utf8 65533)))
said_either true b code h = IsUtf8-encode code (h refl)
said_either false true code h = IsUtf8-encode code (h refl)
said_either false false code h = IsUtf8-encode 65533 refl

-- the character of a code, or U+FFFD
pub said_text : (code : ℕ) → IsUtf8 (said code)
said_text code = said_either _ _ code (λ h. h)

-- what a high surrogate says alone
pub alone_text : (high : Option ℕ) → IsUtf8 (alone high)
alone_text None = IsUtf8-nil
alone_text (Some high) = said_text high
