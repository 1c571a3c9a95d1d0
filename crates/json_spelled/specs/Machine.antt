-- The machine that reads a JSON text byte by byte.
use Rattle.std.specs.Prelude.{ℕ, ◌+◌, ◌*◌, List, [], ◌∷◌, ◌++◌, length, Bool, true, false, nat_lt, if◌then◌else◌, ◌==◌, Option, Some, None, option_and_then, option_map}
use Rattle.json_spelled.specs.Json.{Json, null, truth, spelled, text, list, object, no_items, no_members, Entry, items_onto, members_onto}
use Rattle.json_spelled.specs.Grammar.{escaped, hex_digit, alone, said_behind, waiting_after}
use Rattle.json_spelled.specs.Kind.{kind}
use Rattle.json_spelled.specs.declared.kind.Kind.{Kind}
use Rattle.json_spelled.specs.declared.kind.Kind.TheVariants as kinds
use Rattle.json_spelled.specs.declared.lexeme.Word.{Word}
use Rattle.json_spelled.specs.declared.lexeme.Word.TheVariants as words
use Rattle.json_spelled.specs.declared.lexeme.Part.{Part}
use Rattle.json_spelled.specs.declared.lexeme.Part.TheVariants as parts

-- an array or an object in which a value is awaited: its items so far, or its members so far and the name of the next
pub data Frame : Type 0 where
  InList : List Json → Frame
  InObject : List Entry → List ℕ → Frame

-- what may come where no token is open
pub data Place : Type 0 where
  -- nothing was read
  Start : Place
  -- one byte of the byte order mark, and two
  Mark1 : Place
  Mark2 : Place
  -- a value has to come
  Value : Place
  -- an array was opened, and has these items
  FirstItem : Place
  BehindItem : List Json → Place
  -- an object was opened, or has to go on with a name, or with a colon, or has these members
  FirstName : Place
  Name : List Entry → Place
  BehindName : List Entry → List ℕ → Place
  BehindMember : List Entry → Place
  -- the value is whole
  Ended : Json → Place

-- what a string is: a value, or the name of a member behind these
pub data Use : Type 0 where
  AsValue : Use
  AsName : List Entry → Use

-- where in a string the machine is: in its bytes, behind a backslash, or behind so many digits of a code unit
pub data Spot : Type 0 where
  InBytes : Spot
  InEscape : Spot
  Hex1 : Spot
  Hex2 : ℕ → Spot
  Hex3 : ℕ → ℕ → Spot
  Hex4 : ℕ → ℕ → ℕ → Spot

-- The state: which token is open, what was read of it, and the arrays and objects around it, the innermost first.
pub data State : Type 0 where
  Between : Place → List Frame → State
  InWord : Word → List Frame → State
  InNumber : Part → List ℕ → List Frame → State
  InText : Use → Spot → List ℕ → Option ℕ → List Frame → State

-- a value is whole
abbrev pub deliver : Json → List Frame → State
deliver value [] = Between (Ended value) []
deliver value (InList items ∷ frames) = Between (BehindItem (items ++ value ∷ [])) frames
deliver value (InObject members name ∷ frames) = Between (BehindMember (members ++ (name, value) ∷ [])) frames

-- the text is at its end
abbrev pub finish_place : Place → Option Json
finish_place Start = None
finish_place Mark1 = None
finish_place Mark2 = None
finish_place Value = None
finish_place FirstItem = None
finish_place (BehindItem items) = None
finish_place FirstName = None
finish_place (Name members) = None
finish_place (BehindName members name) = None
finish_place (BehindMember members) = None
finish_place (Ended value) = Some value

-- the end of the text behind a delivered value
abbrev pub finish_delivered : State → Option Json
finish_delivered (Between place frames) = finish_place place
finish_delivered (InWord word frames) = None
finish_delivered (InNumber part token frames) = None
finish_delivered (InText use' spot token high frames) = None

-- a number may end behind this part
abbrev pub may_end : Part → Bool
may_end parts.Minus = false
may_end parts.Zero = true
may_end parts.Integer = true
may_end parts.Point = false
may_end parts.Fraction = true
may_end parts.Exponent = false
may_end parts.Sign = false
may_end parts.Power = true

-- the value of the text where it ends in a state
abbrev pub finish : State → Option Json
finish (Between place frames) = finish_place place
finish (InWord word frames) = None
finish (InNumber part token frames) = if may_end part then finish_delivered (deliver (spelled token) frames) else None
finish (InText use' spot token high frames) = None

-- a further level opens, if there may be one
abbrev pub open_at : ℕ → Place → List Frame → Option State
open_at levels place frames = if nat_lt (length frames) levels then Some (Between place frames) else None

-- a value has to begin
abbrev pub begin : ℕ → List Frame → Kind → ℕ → Option State
begin levels frames kinds.Blank byte = Some (Between Value frames)
begin levels frames kinds.Break byte = Some (Between Value frames)
begin levels frames kinds.Quote byte = Some (InText AsValue InBytes [] None frames)
begin levels frames kinds.OpenList byte = open_at levels FirstItem frames
begin levels frames kinds.OpenObject byte = open_at levels FirstName frames
begin levels frames kinds.Minus byte = Some (InNumber parts.Minus (byte ∷ []) frames)
begin levels frames kinds.Zero byte = Some (InNumber parts.Zero (byte ∷ []) frames)
begin levels frames kinds.Digit byte = Some (InNumber parts.Integer (byte ∷ []) frames)
begin levels frames kinds.SmallN byte = Some (InWord words.N frames)
begin levels frames kinds.SmallT byte = Some (InWord words.T frames)
begin levels frames kinds.SmallF byte = Some (InWord words.F frames)
begin levels frames _ byte = None

-- within a new array
abbrev pub first_item : ℕ → List Frame → Kind → ℕ → Option State
first_item levels frames kinds.Blank byte = Some (Between FirstItem frames)
first_item levels frames kinds.Break byte = Some (Between FirstItem frames)
first_item levels frames kinds.CloseList byte = Some (deliver (list no_items) frames)
first_item levels frames k byte = begin levels (InList [] ∷ frames) k byte

-- behind an item
abbrev pub behind_item : List Json → List Frame → Kind → Option State
behind_item items frames kinds.Blank = Some (Between (BehindItem items) frames)
behind_item items frames kinds.Break = Some (Between (BehindItem items) frames)
behind_item items frames kinds.Comma = Some (Between Value (InList items ∷ frames))
behind_item items frames kinds.CloseList = Some (deliver (list (items_onto items no_items)) frames)
behind_item items frames _ = None

-- within a new object
abbrev pub first_name : List Frame → Kind → Option State
first_name frames kinds.Blank = Some (Between FirstName frames)
first_name frames kinds.Break = Some (Between FirstName frames)
first_name frames kinds.Quote = Some (InText (AsName []) InBytes [] None frames)
first_name frames kinds.CloseObject = Some (deliver (object no_members) frames)
first_name frames _ = None

-- where a name has to come
abbrev pub name_step : List Entry → List Frame → Kind → Option State
name_step members frames kinds.Blank = Some (Between (Name members) frames)
name_step members frames kinds.Break = Some (Between (Name members) frames)
name_step members frames kinds.Quote = Some (InText (AsName members) InBytes [] None frames)
name_step members frames _ = None

-- behind a name
abbrev pub behind_name : List Entry → List ℕ → List Frame → Kind → Option State
behind_name members name frames kinds.Blank = Some (Between (BehindName members name) frames)
behind_name members name frames kinds.Break = Some (Between (BehindName members name) frames)
behind_name members name frames kinds.Colon = Some (Between Value (InObject members name ∷ frames))
behind_name members name frames _ = None

-- behind a member
abbrev pub behind_member : List Entry → List Frame → Kind → Option State
behind_member members frames kinds.Blank = Some (Between (BehindMember members) frames)
behind_member members frames kinds.Break = Some (Between (BehindMember members) frames)
behind_member members frames kinds.Comma = Some (Between (Name members) frames)
behind_member members frames kinds.CloseObject = Some (deliver (object (members_onto members no_members)) frames)
behind_member members frames _ = None

-- behind the whole value
abbrev pub ended_step : Json → List Frame → Kind → Option State
ended_step value frames kinds.Blank = Some (Between (Ended value) frames)
ended_step value frames kinds.Break = Some (Between (Ended value) frames)
ended_step value frames _ = None

-- where no token is open
abbrev pub between : ℕ → Place → List Frame → Kind → ℕ → Option State
between levels Start frames k byte = if byte == 0xEF then Some (Between Mark1 frames) else begin levels frames k byte
between levels Mark1 frames k byte = if byte == 0xBB then Some (Between Mark2 frames) else None
between levels Mark2 frames k byte = if byte == 0xBF then Some (Between Value frames) else None
between levels Value frames k byte = begin levels frames k byte
between levels FirstItem frames k byte = first_item levels frames k byte
between levels (BehindItem items) frames k byte = behind_item items frames k
between levels FirstName frames k byte = first_name frames k
between levels (Name members) frames k byte = name_step members frames k
between levels (BehindName members name) frames k byte = behind_name members name frames k
between levels (BehindMember members) frames k byte = behind_member members frames k
between levels (Ended value) frames k byte = ended_step value frames k

-- the byte that a word awaits
abbrev pub awaited : Word → ℕ
awaited words.N = 117
awaited words.Nu = 108
awaited words.Nul = 108
awaited words.T = 114
awaited words.Tr = 117
awaited words.Tru = 101
awaited words.F = 97
awaited words.Fa = 108
awaited words.Fal = 115
awaited words.Fals = 101

-- the state behind that byte
abbrev pub behind_awaited : Word → List Frame → State
behind_awaited words.N frames = InWord words.Nu frames
behind_awaited words.Nu frames = InWord words.Nul frames
behind_awaited words.Nul frames = deliver null frames
behind_awaited words.T frames = InWord words.Tr frames
behind_awaited words.Tr frames = InWord words.Tru frames
behind_awaited words.Tru frames = deliver (truth true) frames
behind_awaited words.F frames = InWord words.Fa frames
behind_awaited words.Fa frames = InWord words.Fal frames
behind_awaited words.Fal frames = InWord words.Fals frames
behind_awaited words.Fals frames = deliver (truth false) frames

-- which part of the number a byte goes on with, if it goes on
abbrev pub goes_on : Part → Kind → Option Part
goes_on parts.Minus kinds.Zero = Some parts.Zero
goes_on parts.Minus kinds.Digit = Some parts.Integer
goes_on parts.Minus _ = None
goes_on parts.Zero kinds.Point = Some parts.Point
goes_on parts.Zero kinds.Exponent = Some parts.Exponent
goes_on parts.Zero _ = None
goes_on parts.Integer kinds.Zero = Some parts.Integer
goes_on parts.Integer kinds.Digit = Some parts.Integer
goes_on parts.Integer kinds.Point = Some parts.Point
goes_on parts.Integer kinds.Exponent = Some parts.Exponent
goes_on parts.Integer _ = None
goes_on parts.Point kinds.Zero = Some parts.Fraction
goes_on parts.Point kinds.Digit = Some parts.Fraction
goes_on parts.Point _ = None
goes_on parts.Fraction kinds.Zero = Some parts.Fraction
goes_on parts.Fraction kinds.Digit = Some parts.Fraction
goes_on parts.Fraction kinds.Exponent = Some parts.Exponent
goes_on parts.Fraction _ = None
goes_on parts.Exponent kinds.Plus = Some parts.Sign
goes_on parts.Exponent kinds.Minus = Some parts.Sign
goes_on parts.Exponent kinds.Zero = Some parts.Power
goes_on parts.Exponent kinds.Digit = Some parts.Power
goes_on parts.Exponent _ = None
goes_on parts.Sign kinds.Zero = Some parts.Power
goes_on parts.Sign kinds.Digit = Some parts.Power
goes_on parts.Sign _ = None
goes_on parts.Power kinds.Zero = Some parts.Power
goes_on parts.Power kinds.Digit = Some parts.Power
goes_on parts.Power _ = None

-- a value was delivered, and a byte comes
abbrev pub step_delivered : ℕ → State → Kind → ℕ → Option State
step_delivered levels (Between place frames) k byte = between levels place frames k byte
step_delivered levels (InWord word frames) k byte = None
step_delivered levels (InNumber part token frames) k byte = None
step_delivered levels (InText use' spot token high frames) k byte = None

-- the byte goes on with the number, or ends it
abbrev pub number_step : ℕ → Option Part → Part → List ℕ → List Frame → Kind → ℕ → Option State
number_step levels (Some next) part token frames k byte = Some (InNumber next (token ++ byte ∷ []) frames)
number_step levels None part token frames k byte = if may_end part then step_delivered levels (deliver (spelled token) frames) k byte else None

-- the string is whole
abbrev pub close : Use → List ℕ → List Frame → State
close AsValue says frames = deliver (text says) frames
close (AsName members) says frames = Between (BehindName members says) frames

-- a byte of a string
abbrev pub text_step : Use → List ℕ → Option ℕ → List Frame → Kind → ℕ → Option State
text_step use' token high frames kinds.Quote byte = Some (close use' (token ++ alone high) frames)
text_step use' token high frames kinds.Backslash byte = Some (InText use' InEscape token high frames)
text_step use' token high frames kinds.Break byte = None
text_step use' token high frames kinds.Control byte = None
text_step use' token high frames _ byte = Some (InText use' InBytes ((token ++ alone high) ++ byte ∷ []) None frames)

-- a byte behind a backslash
abbrev pub escape_step : Use → List ℕ → Option ℕ → List Frame → ℕ → Option State
escape_step use' token high frames byte = if byte == 117 then Some (InText use' Hex1 token high frames)
    else option_map (λ says. InText use' InBytes ((token ++ alone high) ++ says ∷ []) None frames) (escaped byte)

-- a code unit is whole
abbrev pub unit_step : Use → List ℕ → Option ℕ → List Frame → ℕ → State
unit_step use' token high frames code = InText use' InBytes (token ++ said_behind high code) (waiting_after code) frames

-- in a string
abbrev pub in_text : Use → Spot → List ℕ → Option ℕ → List Frame → Kind → ℕ → Option State
in_text use' InBytes token high frames k byte = text_step use' token high frames k byte
in_text use' InEscape token high frames k byte = escape_step use' token high frames byte
in_text use' Hex1 token high frames k byte = option_map (λ a. InText use' (Hex2 a) token high frames) (hex_digit byte)
in_text use' (Hex2 a) token high frames k byte = option_map (λ b. InText use' (Hex3 a b) token high frames) (hex_digit byte)
in_text use' (Hex3 a b) token high frames k byte = option_map (λ c. InText use' (Hex4 a b c) token high frames) (hex_digit byte)
in_text use' (Hex4 a b c) token high frames k byte = option_map (λ d. unit_step use' token high frames (4096 * a + 256 * b + 16 * c + d)) (hex_digit byte)

-- one byte of this kind, at most so many levels
abbrev pub step_by : ℕ → State → Kind → ℕ → Option State
step_by levels (Between place frames) k byte = between levels place frames k byte
step_by levels (InWord word frames) k byte = if byte == awaited word then Some (behind_awaited word frames) else None
step_by levels (InNumber part token frames) k byte = number_step levels (goes_on part k) part token frames k byte
step_by levels (InText use' spot token high frames) k byte = in_text use' spot token high frames k byte

-- one byte
abbrev pub step : ℕ → State → ℕ → Option State
step levels state byte = step_by levels state (kind byte) byte

-- the value of a whole text from this state on
abbrev pub answer : ℕ → State → List ℕ → Option Json
answer levels state [] = finish state
answer levels state (byte ∷ bytes) = option_and_then (λ next. answer levels next bytes) (step levels state byte)

-- the state before any byte
abbrev pub start : State
start = Between Start []
