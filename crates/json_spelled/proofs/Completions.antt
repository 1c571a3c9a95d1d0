-- Every state has bytes that complete a text.
use Rattle.std.proofs.Common.{◌≡◌, ◌<◌, ℕ, ◌+◌, ◌*◌, true, false, List, [], ◌∷◌, ◌++◌, Option, Some, None, refl, sym, ap, ◌∙◌, subst, arith}
use Rattle.std.specs.Prelude.{⊤}
use Rattle.std.specs.Str.{IsUtf8}
use Rattle.std.proofs.Math.Utf8.{low_scalar}
use Rattle.std.proofs.lemmas.Str.{IsUtf8-append, IsUtf8-nil, IsUtf8-encode, encode_ascii}
use Rattle.json_spelled.specs.Json.{Json, null, truth, spelled, text, list, object, no_items, no_members, Entry, items_onto, members_onto}
use Rattle.json_spelled.specs.Kind.{kind}
use Rattle.json_spelled.specs.Machine as machine
use Rattle.json_spelled.specs.Machine.{Frame, InList, InObject, Place, Start, Mark1, Mark2, FirstItem, BehindItem, FirstName, Name, BehindName, BehindMember, Ended, Use, AsValue, AsName, Spot, InBytes, InEscape, Hex1, Hex2, Hex3, Hex4, State, Between, InWord, InNumber, InText, deliver, may_end, goes_on, close, unit_step, answer}
use Rattle.json_spelled.specs.Grammar.{alone, said_behind, waiting_after}
use Rattle.json_spelled.specs.declared.kind.Kind.TheVariants as kinds
use Rattle.json_spelled.specs.declared.lexeme.Part.{Part}
use Rattle.json_spelled.specs.declared.lexeme.Part.TheVariants as parts
use Rattle.json_spelled.specs.declared.lexeme.Word.{Word}
use Rattle.json_spelled.specs.declared.lexeme.Word.TheVariants as words
use Rattle.json_spelled.proofs.ByteKinds.{kind_quote, kind_colon, kind_close_list, kind_close_object, kind_small_n, kind_zero}
use Rattle.json_spelled.proofs.Completeness.{led_to, MayFollow, IsEnder, number_ends}

-- ASCII bytes
abbrev pub AreAscii : List ℕ → Type 0
AreAscii [] = ⊤
AreAscii (byte ∷ bytes) = (byte < 128) × AreAscii bytes

-- one ASCII byte is a text
pub ascii_text : (byte : ℕ) → byte < 128 → IsUtf8 (byte ∷ [])
ascii_text byte small = subst IsUtf8 (encode_ascii byte small) (IsUtf8-encode byte (low_scalar byte (omega arith)))

-- ASCII bytes are a text
pub AreAscii_text : (bytes : List ℕ) → AreAscii bytes → IsUtf8 bytes
AreAscii_text [] h = IsUtf8-nil
AreAscii_text (byte ∷ bytes) h = IsUtf8-append (byte ∷ []) bytes (ascii_text byte h.0) (AreAscii_text bytes h.1)

-- bytes that complete a text from a state on
pub record Completion (state : State) : Type 0 where
  pub bytes : List ℕ
  pub ascii : AreAscii bytes
  pub value : Json
  pub answers : (levels : ℕ) → answer levels state bytes ≡ Some value

-- one byte before
before : (state next : State) (byte : ℕ) → byte < 128 → ((levels : ℕ) (bytes : List ℕ) → answer levels state (byte ∷ bytes) ≡ answer levels next bytes) → Completion next → Completion state
before state next byte small leads c = record { bytes = byte ∷ c.bytes; ascii = (small, c.ascii); value = c.value; answers = λ levels. leads levels c.bytes ∙ c.answers levels }

-- what closes the frames
pub closes : (frames : List Frame) (value : Json) → Completion (deliver value frames)
closes [] value = record { bytes = []; ascii = tt; value = value; answers = λ levels. refl }
closes (InList items ∷ frames) value = before (Between (BehindItem (items ++ value ∷ [])) frames) (deliver (list (items_onto (items ++ value ∷ []) no_items)) frames) 93 (omega arith)
    (λ levels bytes. led_to levels (Between (BehindItem (items ++ value ∷ [])) frames) (deliver (list (items_onto (items ++ value ∷ []) no_items)) frames) 93 bytes kinds.CloseList kind_close_list refl)
    (closes frames (list (items_onto (items ++ value ∷ []) no_items)))
closes (InObject members name ∷ frames) value = before (Between (BehindMember (members ++ (name, value) ∷ [])) frames) (deliver (object (members_onto (members ++ (name, value) ∷ []) no_members)) frames) 125 (omega arith)
    (λ levels bytes. led_to levels (Between (BehindMember (members ++ (name, value) ∷ [])) frames) (deliver (object (members_onto (members ++ (name, value) ∷ []) no_members)) frames) 125 bytes kinds.CloseObject kind_close_object refl)
    (closes frames (object (members_onto (members ++ (name, value) ∷ []) no_members)))

-- the words, from their last letters on
nul_completion : (frames : List Frame) → Completion (InWord words.Nul frames)
nul_completion frames = before (InWord words.Nul frames) (deliver (null) frames) 108 (omega arith)
    (λ levels bytes. led_to levels (InWord words.Nul frames) (deliver (null) frames) 108 bytes (kind 108) refl refl) (closes frames (null))

-- behind `nu`
nu_completion : (frames : List Frame) → Completion (InWord words.Nu frames)
nu_completion frames = before (InWord words.Nu frames) (InWord words.Nul frames) 108 (omega arith)
    (λ levels bytes. led_to levels (InWord words.Nu frames) (InWord words.Nul frames) 108 bytes (kind 108) refl refl) (nul_completion frames)

-- behind `n`
n_completion : (frames : List Frame) → Completion (InWord words.N frames)
n_completion frames = before (InWord words.N frames) (InWord words.Nu frames) 117 (omega arith)
    (λ levels bytes. led_to levels (InWord words.N frames) (InWord words.Nu frames) 117 bytes (kind 117) refl refl) (nu_completion frames)

-- behind `tru`
tru_completion : (frames : List Frame) → Completion (InWord words.Tru frames)
tru_completion frames = before (InWord words.Tru frames) (deliver (truth true) frames) 101 (omega arith)
    (λ levels bytes. led_to levels (InWord words.Tru frames) (deliver (truth true) frames) 101 bytes (kind 101) refl refl) (closes frames (truth true))

-- behind `tr`
tr_completion : (frames : List Frame) → Completion (InWord words.Tr frames)
tr_completion frames = before (InWord words.Tr frames) (InWord words.Tru frames) 117 (omega arith)
    (λ levels bytes. led_to levels (InWord words.Tr frames) (InWord words.Tru frames) 117 bytes (kind 117) refl refl) (tru_completion frames)

-- behind `t`
t_completion : (frames : List Frame) → Completion (InWord words.T frames)
t_completion frames = before (InWord words.T frames) (InWord words.Tr frames) 114 (omega arith)
    (λ levels bytes. led_to levels (InWord words.T frames) (InWord words.Tr frames) 114 bytes (kind 114) refl refl) (tr_completion frames)

-- behind `fals`
fals_completion : (frames : List Frame) → Completion (InWord words.Fals frames)
fals_completion frames = before (InWord words.Fals frames) (deliver (truth false) frames) 101 (omega arith)
    (λ levels bytes. led_to levels (InWord words.Fals frames) (deliver (truth false) frames) 101 bytes (kind 101) refl refl) (closes frames (truth false))

-- behind `fal`
fal_completion : (frames : List Frame) → Completion (InWord words.Fal frames)
fal_completion frames = before (InWord words.Fal frames) (InWord words.Fals frames) 115 (omega arith)
    (λ levels bytes. led_to levels (InWord words.Fal frames) (InWord words.Fals frames) 115 bytes (kind 115) refl refl) (fals_completion frames)

-- behind `fa`
fa_completion : (frames : List Frame) → Completion (InWord words.Fa frames)
fa_completion frames = before (InWord words.Fa frames) (InWord words.Fal frames) 108 (omega arith)
    (λ levels bytes. led_to levels (InWord words.Fa frames) (InWord words.Fal frames) 108 bytes (kind 108) refl refl) (fal_completion frames)

-- behind `f`
f_completion : (frames : List Frame) → Completion (InWord words.F frames)
f_completion frames = before (InWord words.F frames) (InWord words.Fa frames) 97 (omega arith)
    (λ levels bytes. led_to levels (InWord words.F frames) (InWord words.Fa frames) 97 bytes (kind 97) refl refl) (fa_completion frames)

-- behind any letter of a word
word_completion : (word : Word) (frames : List Frame) → Completion (InWord word frames)
word_completion words.N frames = n_completion frames
word_completion words.Nu frames = nu_completion frames
word_completion words.Nul frames = nul_completion frames
word_completion words.T frames = t_completion frames
word_completion words.Tr frames = tr_completion frames
word_completion words.Tru frames = tru_completion frames
word_completion words.F frames = f_completion frames
word_completion words.Fa frames = fa_completion frames
word_completion words.Fal frames = fal_completion frames
word_completion words.Fals frames = fals_completion frames

-- a value that has to come
pub awaited_completion : (frames : List Frame) → Completion (Between machine.Value frames)
awaited_completion frames = before (Between machine.Value frames) (InWord words.N frames) 110 (omega arith)
    (λ levels bytes. led_to levels (Between machine.Value frames) (InWord words.N frames) 110 bytes kinds.SmallN kind_small_n refl) (n_completion frames)

-- the colon behind a name
colon_completion : (members : List Entry) (name : List ℕ) (frames : List Frame) → Completion (Between (BehindName members name) frames)
colon_completion members name frames = before (Between (BehindName members name) frames) (Between machine.Value (InObject members name ∷ frames)) 58 (omega arith)
    (λ levels bytes. led_to levels (Between (BehindName members name) frames) (Between machine.Value (InObject members name ∷ frames)) 58 bytes kinds.Colon kind_colon refl)
    (awaited_completion (InObject members name ∷ frames))

-- the end of a string
close_completion : (use' : Use) (says : List ℕ) (frames : List Frame) → Completion (close use' says frames)
close_completion AsValue says frames = closes frames (text says)
close_completion (AsName members) says frames = colon_completion members says frames

-- in the bytes of a string
bytes_completion : (use' : Use) (token : List ℕ) (high : Option ℕ) (frames : List Frame) → Completion (InText use' InBytes token high frames)
bytes_completion use' token high frames = before (InText use' InBytes token high frames) (close use' (token ++ alone high) frames) 34 (omega arith)
    (λ levels bytes. led_to levels (InText use' InBytes token high frames) (close use' (token ++ alone high) frames) 34 bytes kinds.Quote kind_quote refl)
    (close_completion use' (token ++ alone high) frames)

-- behind three digits of a code unit
hex4_completion : (use' : Use) (a b c : ℕ) (token : List ℕ) (high : Option ℕ) (frames : List Frame) → Completion (InText use' (Hex4 a b c) token high frames)
hex4_completion use' a b c token high frames = before (InText use' (Hex4 a b c) token high frames) (unit_step use' token high frames (4096 * a + 256 * b + 16 * c + 0)) 48 (omega arith)
    (λ levels bytes. led_to levels (InText use' (Hex4 a b c) token high frames) (unit_step use' token high frames (4096 * a + 256 * b + 16 * c + 0)) 48 bytes (kind 48) refl refl)
    (bytes_completion use' (token ++ said_behind high (4096 * a + 256 * b + 16 * c + 0)) (waiting_after (4096 * a + 256 * b + 16 * c + 0)) frames)

-- behind two
hex3_completion : (use' : Use) (a b : ℕ) (token : List ℕ) (high : Option ℕ) (frames : List Frame) → Completion (InText use' (Hex3 a b) token high frames)
hex3_completion use' a b token high frames = before (InText use' (Hex3 a b) token high frames) (InText use' (Hex4 a b 0) token high frames) 48 (omega arith)
    (λ levels bytes. led_to levels (InText use' (Hex3 a b) token high frames) (InText use' (Hex4 a b 0) token high frames) 48 bytes (kind 48) refl refl)
    (hex4_completion use' a b 0 token high frames)

-- behind one
hex2_completion : (use' : Use) (a : ℕ) (token : List ℕ) (high : Option ℕ) (frames : List Frame) → Completion (InText use' (Hex2 a) token high frames)
hex2_completion use' a token high frames = before (InText use' (Hex2 a) token high frames) (InText use' (Hex3 a 0) token high frames) 48 (omega arith)
    (λ levels bytes. led_to levels (InText use' (Hex2 a) token high frames) (InText use' (Hex3 a 0) token high frames) 48 bytes (kind 48) refl refl)
    (hex3_completion use' a 0 token high frames)

-- behind none
hex1_completion : (use' : Use) (token : List ℕ) (high : Option ℕ) (frames : List Frame) → Completion (InText use' Hex1 token high frames)
hex1_completion use' token high frames = before (InText use' Hex1 token high frames) (InText use' (Hex2 0) token high frames) 48 (omega arith)
    (λ levels bytes. led_to levels (InText use' Hex1 token high frames) (InText use' (Hex2 0) token high frames) 48 bytes (kind 48) refl refl)
    (hex2_completion use' 0 token high frames)

-- behind a backslash
escape_completion : (use' : Use) (token : List ℕ) (high : Option ℕ) (frames : List Frame) → Completion (InText use' InEscape token high frames)
escape_completion use' token high frames = before (InText use' InEscape token high frames) (InText use' InBytes ((token ++ alone high) ++ 10 ∷ []) None frames) 110 (omega arith)
    (λ levels bytes. led_to levels (InText use' InEscape token high frames) (InText use' InBytes ((token ++ alone high) ++ 10 ∷ []) None frames) 110 bytes (kind 110) refl refl)
    (bytes_completion use' ((token ++ alone high) ++ 10 ∷ []) None frames)

-- anywhere in a string
spot_completion : (use' : Use) (spot : Spot) (token : List ℕ) (high : Option ℕ) (frames : List Frame) → Completion (InText use' spot token high frames)
spot_completion use' InBytes token high frames = bytes_completion use' token high frames
spot_completion use' InEscape token high frames = escape_completion use' token high frames
spot_completion use' Hex1 token high frames = hex1_completion use' token high frames
spot_completion use' (Hex2 a) token high frames = hex2_completion use' a token high frames
spot_completion use' (Hex3 a b) token high frames = hex3_completion use' a b token high frames
spot_completion use' (Hex4 a b c) token high frames = hex4_completion use' a b c token high frames

-- what closes the frames may follow a number
closing_follows : (frames : List Frame) (value : Json) → MayFollow (closes frames value).bytes
unfolding closes before
closing_follows [] value = tt
closing_follows (InList items ∷ frames) value = subst IsEnder (sym kind_close_list) tt
closing_follows (InObject members name ∷ frames) value = subst IsEnder (sym kind_close_object) tt

-- a number that may end, and one to which a zero is wanting
ending_completion : (part : Part) (token : List ℕ) (frames : List Frame) → may_end part ≡ true → Completion (InNumber part token frames)
ending_completion part token frames last =
    let c = closes frames (spelled token) in
    record { bytes = c.bytes; ascii = c.ascii; value = c.value; answers = λ levels. number_ends levels part token frames c.bytes last (closing_follows frames (spelled token)) ∙ c.answers levels }

-- a number to which one zero is wanting
zero_completion : (part next : Part) (token : List ℕ) (frames : List Frame) → goes_on part kinds.Zero ≡ Some next → may_end next ≡ true → Completion (InNumber part token frames)
zero_completion part next token frames goes last = before (InNumber part token frames) (InNumber next (token ++ 48 ∷ []) frames) 48 (omega arith)
    (λ levels bytes. led_to levels (InNumber part token frames) (InNumber next (token ++ 48 ∷ []) frames) 48 bytes kinds.Zero kind_zero (ap (λ o. machine.number_step levels o part token frames kinds.Zero 48) goes))
    (ending_completion next (token ++ 48 ∷ []) frames last)

-- anywhere in a number
number_completion : (part : Part) (token : List ℕ) (frames : List Frame) → Completion (InNumber part token frames)
number_completion parts.Minus token frames = zero_completion parts.Minus parts.Zero token frames refl refl
number_completion parts.Point token frames = zero_completion parts.Point parts.Fraction token frames refl refl
number_completion parts.Exponent token frames = zero_completion parts.Exponent parts.Power token frames refl refl
number_completion parts.Sign token frames = zero_completion parts.Sign parts.Power token frames refl refl
number_completion parts.Zero token frames = ending_completion parts.Zero token frames refl
number_completion parts.Integer token frames = ending_completion parts.Integer token frames refl
number_completion parts.Fraction token frames = ending_completion parts.Fraction token frames refl
number_completion parts.Power token frames = ending_completion parts.Power token frames refl

-- a place that is not within a byte order mark
abbrev pub IsUnmarked : State → Type 0
IsUnmarked (Between Mark1 frames) = ⊥
IsUnmarked (Between Mark2 frames) = ⊥
IsUnmarked _ = ⊤

-- where no token is open
place_completion : (place : Place) (frames : List Frame) → IsUnmarked (Between place frames) → Completion (Between place frames)
place_completion Start frames h = before (Between Start frames) (InWord words.N frames) 110 (omega arith)
    (λ levels bytes. led_to levels (Between Start frames) (InWord words.N frames) 110 bytes kinds.SmallN kind_small_n refl) (n_completion frames)
place_completion Mark1 frames h = absurd h
place_completion Mark2 frames h = absurd h
place_completion machine.Value frames h = awaited_completion frames
place_completion FirstItem frames h = before (Between FirstItem frames) (deliver (list no_items) frames) 93 (omega arith)
    (λ levels bytes. led_to levels (Between FirstItem frames) (deliver (list no_items) frames) 93 bytes kinds.CloseList kind_close_list refl) (closes frames (list no_items))
place_completion (BehindItem items) frames h = before (Between (BehindItem items) frames) (deliver (list (items_onto items no_items)) frames) 93 (omega arith)
    (λ levels bytes. led_to levels (Between (BehindItem items) frames) (deliver (list (items_onto items no_items)) frames) 93 bytes kinds.CloseList kind_close_list refl) (closes frames (list (items_onto items no_items)))
place_completion FirstName frames h = before (Between FirstName frames) (deliver (object no_members) frames) 125 (omega arith)
    (λ levels bytes. led_to levels (Between FirstName frames) (deliver (object no_members) frames) 125 bytes kinds.CloseObject kind_close_object refl) (closes frames (object no_members))
place_completion (Name members) frames h = before (Between (Name members) frames) (InText (AsName members) InBytes [] None frames) 34 (omega arith)
    (λ levels bytes. led_to levels (Between (Name members) frames) (InText (AsName members) InBytes [] None frames) 34 bytes kinds.Quote kind_quote refl) (bytes_completion (AsName members) [] None frames)
place_completion (BehindName members name) frames h = colon_completion members name frames
place_completion (BehindMember members) frames h = before (Between (BehindMember members) frames) (deliver (object (members_onto members no_members)) frames) 125 (omega arith)
    (λ levels bytes. led_to levels (Between (BehindMember members) frames) (deliver (object (members_onto members no_members)) frames) 125 bytes kinds.CloseObject kind_close_object refl) (closes frames (object (members_onto members no_members)))
place_completion (Ended value) frames h = record { bytes = []; ascii = tt; value = value; answers = λ levels. refl }

-- every state outside a byte order mark can be completed
pub completion : (state : State) → IsUnmarked state → Completion state
completion (Between place frames) h = place_completion place frames h
completion (InWord word frames) h = word_completion word frames
completion (InNumber part token frames) h = number_completion part token frames
completion (InText use' spot token high frames) h = spot_completion use' spot token high frames
