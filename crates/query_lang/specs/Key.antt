-- Keys of a line.
use Rattle.std.specs.Prelude.{ℕ, ◌^◌, ◌==◌, ◌&&◌, nat_le, nat_lt, if◌then◌else◌, Bool, List, [], ◌∷◌, length, Option, Some, None, Result, Ok, Err}
use Rattle.spatial_base.specs.Key.{Name, Text, Auto}
use Rattle.line_tokens.specs.Token.{Token, Bare, Quoted, Open, Close, Broken}
use Rattle.query_replies.specs.declared.fault.LineFault.{LineFault}
use Rattle.query_replies.specs.declared.fault.LineFault.TheVariants.{Key}
use Rattle.query_lang.specs.Number.{number_of}

-- a text of 1 to 64 bytes
abbrev pub text_key : List ℕ → Result Name LineFault
text_key bytes = if nat_le 1 (length bytes) && nat_le (length bytes) 64 then Ok (Text bytes) else Err Key

-- the serial of an automatic key: a number of 64 bits
abbrev pub serial_key : Option ℕ → Result Name LineFault
serial_key None = Err Key
serial_key (Some serial) = if nat_lt serial (2 ^ 64) then Ok (Auto serial) else Err Key

-- a bare token: what begins with `#` is an automatic key, where one is accepted
abbrev pub bare_key : Bool → List ℕ → Result Name LineFault
bare_key auto [] = text_key []
bare_key auto (byte ∷ bytes) =
    if byte == 35 then (if auto then serial_key (number_of bytes) else Err Key) else text_key (byte ∷ bytes)

-- a token that is a key
abbrev pub key_of : Bool → Token → Result Name LineFault
key_of auto (Bare bytes) = bare_key auto bytes
key_of auto (Quoted bytes) = text_key bytes
key_of auto Open = Err Key
key_of auto Close = Err Key
key_of auto Broken = Err Key
