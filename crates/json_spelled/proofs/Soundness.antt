-- What the machine reads is spelled so.
use Rattle.std.proofs.Common.{◌≡◌, ◌<◌, ℕ, zero, suc, ◌+◌, ◌*◌, ◌⊎◌, inl, inr, Bool, true, false, cond, List, [], ◌∷◌, ◌++◌, length, Option, Some, None, refl, sym, ap, ◌∙◌, subst, arith, append_assoc, append-nil, nat_eq, nat_lt}
use Rattle.std.specs.Prelude.{option_and_then, option_map}
use Rattle.std.proofs.lemmas.Bool.Decides.{nat_tests}
use Rattle.json_spelled.specs.Json.{Json, null, truth, spelled, text, list, object, Items, no_items, item, Members, no_members, member, Entry, items_onto, members_onto}
use Rattle.json_spelled.specs.Grammar.{IsSpace, Spaces, none, space, IsPlain, escaped, hex_digit, Piece, Byte, Code, Pieces, closed, plain, escape, unit, said_by, alone, said_behind, waiting_after, Value, of_null, of_true, of_false, of_number, of_string, of_no_items, of_items, of_no_members, of_members, ItemsAt, first, MoreItems, no_more, more, MembersAt, first_member, MoreMembers, no_more_members, more_members}
use Rattle.json_spelled.specs.Kind.{kind}
use Rattle.json_spelled.specs.Machine as machine
use Rattle.json_spelled.specs.Machine.{Frame, InList, InObject, Place, Start, Mark1, Mark2, FirstItem, BehindItem, FirstName, Name, BehindName, BehindMember, Ended, Use, AsValue, AsName, Spot, InBytes, InEscape, Hex1, Hex2, Hex3, Hex4, State, Between, InWord, InNumber, InText, deliver, finish, finish_place, finish_delivered, may_end, goes_on, number_step, step_delivered, between, begin, open_at, first_item, behind_item, first_name, name_step, behind_name, behind_member, ended_step, text_step, in_text, unit_step, close, awaited, behind_awaited, step, answer}
use Rattle.json_spelled.specs.declared.kind.Kind.{Kind}
use Rattle.json_spelled.specs.declared.kind.Kind.TheVariants as kinds
use Rattle.json_spelled.specs.declared.lexeme.Part.{Part}
use Rattle.json_spelled.specs.declared.lexeme.Part.TheVariants as parts
use Rattle.json_spelled.specs.declared.lexeme.Word.{Word}
use Rattle.json_spelled.specs.declared.lexeme.Word.TheVariants as words
use Rattle.json_spelled.proofs.ByteKinds.{IsOf, kind_is}
use Rattle.json_spelled.proofs.Numerals.{Tail, ends, goes, number_of, begins_with}
use Rattle.json_spelled.proofs.Completeness.{items_onto_more, members_onto_more}

-- What is left of a text of the value whole, where this value was read within these frames, at most so many levels further in.
abbrev pub Follows : ℕ → List Frame → Json → List ℕ → Json → Type 0
Follows levels [] value bytes whole = Spaces bytes [] × (value ≡ whole)
Follows levels (InList items ∷ frames) value bytes whole =
    (further : Items) × (rest : List ℕ) × MoreItems levels further bytes rest × Follows (suc levels) frames (list (items_onto (items ++ value ∷ []) further)) rest whole
Follows levels (InObject members name ∷ frames) value bytes whole =
    (further : Members) × (rest : List ℕ) × MoreMembers levels further bytes rest × Follows (suc levels) frames (object (members_onto (members ++ (name, value) ∷ []) further)) rest whole

-- the same where a value has to come
abbrev pub Awaits : ℕ → List Frame → List ℕ → Json → Type 0
Awaits levels frames bytes whole = (at : List ℕ) × (value : Json) × (rest : List ℕ) × Spaces bytes at × Value levels value at rest × Follows levels frames value rest whole

-- a name was read
abbrev AwaitsColon : ℕ → List Entry → List ℕ → List Frame → List ℕ → Json → Type 0
AwaitsColon levels members name frames bytes whole =
    (colon : List ℕ) × (at : List ℕ) × (value : Json) × (behind : List ℕ) × (further : Members) × (rest : List ℕ) × Spaces bytes (58 ∷ colon) × Spaces colon at
    × Value levels value at behind × MoreMembers levels further behind rest × Follows (suc levels) frames (object (members_onto members (member name value further))) rest whole

-- where no token is open
abbrev pub MeansPlace : ℕ → Place → List Frame → List ℕ → Json → Type 0
MeansPlace levels Start frames bytes whole = Awaits levels frames bytes whole ⊎ ((rest : List ℕ) × (bytes ≡ 239 ∷ 187 ∷ 191 ∷ rest) × Awaits levels frames rest whole)
MeansPlace levels Mark1 frames bytes whole = (rest : List ℕ) × (bytes ≡ 187 ∷ 191 ∷ rest) × Awaits levels frames rest whole
MeansPlace levels Mark2 frames bytes whole = (rest : List ℕ) × (bytes ≡ 191 ∷ rest) × Awaits levels frames rest whole
MeansPlace levels machine.Value frames bytes whole = Awaits levels frames bytes whole
MeansPlace levels FirstItem frames bytes whole = ((rest : List ℕ) × Spaces bytes (93 ∷ rest) × Follows (suc levels) frames (list no_items) rest whole)
    ⊎ ((items : Items) × (rest : List ℕ) × ItemsAt levels items bytes rest × Follows (suc levels) frames (list items) rest whole)
MeansPlace levels (BehindItem items) frames bytes whole =
    (further : Items) × (rest : List ℕ) × MoreItems levels further bytes rest × Follows (suc levels) frames (list (items_onto items further)) rest whole
MeansPlace levels FirstName frames bytes whole = ((rest : List ℕ) × Spaces bytes (125 ∷ rest) × Follows (suc levels) frames (object no_members) rest whole)
    ⊎ ((members : Members) × (rest : List ℕ) × MembersAt levels members bytes rest × Follows (suc levels) frames (object members) rest whole)
MeansPlace levels (Name members) frames bytes whole =
    (further : Members) × (rest : List ℕ) × MembersAt levels further bytes rest × Follows (suc levels) frames (object (members_onto members further)) rest whole
MeansPlace levels (BehindName members name) frames bytes whole = AwaitsColon levels members name frames bytes whole
MeansPlace levels (BehindMember members) frames bytes whole =
    (further : Members) × (rest : List ℕ) × MoreMembers levels further bytes rest × Follows (suc levels) frames (object (members_onto members further)) rest whole
MeansPlace levels (Ended value) frames bytes whole = Spaces bytes [] × (value ≡ whole)

-- a string was read
abbrev Closes : ℕ → Use → List ℕ → List Frame → List ℕ → Json → Type 0
Closes levels AsValue says frames rest whole = Follows levels frames (text says) rest whole
Closes levels (AsName members) says frames rest whole = AwaitsColon levels members says frames rest whole

-- in the bytes of a string
abbrev MeansText : ℕ → Use → List ℕ → Option ℕ → List Frame → List ℕ → Json → Type 0
MeansText levels use' token high frames bytes whole =
    (pieces : List Piece) × (rest : List ℕ) × Pieces pieces bytes rest × Closes levels use' (token ++ said_by high pieces) frames rest whole

-- in an escape: what was read of it is put back
abbrev MeansSpot : ℕ → Use → Spot → List ℕ → Option ℕ → List Frame → List ℕ → Json → Type 0
MeansSpot levels use' InBytes token high frames bytes whole = MeansText levels use' token high frames bytes whole
MeansSpot levels use' InEscape token high frames bytes whole = MeansText levels use' token high frames (92 ∷ bytes) whole
MeansSpot levels use' Hex1 token high frames bytes whole = MeansText levels use' token high frames (92 ∷ 117 ∷ bytes) whole
MeansSpot levels use' (Hex2 a) token high frames bytes whole =
    (x : ℕ) → hex_digit x ≡ Some a → MeansText levels use' token high frames (92 ∷ 117 ∷ x ∷ bytes) whole
MeansSpot levels use' (Hex3 a b) token high frames bytes whole =
    (x y : ℕ) → hex_digit x ≡ Some a → hex_digit y ≡ Some b → MeansText levels use' token high frames (92 ∷ 117 ∷ x ∷ y ∷ bytes) whole
MeansSpot levels use' (Hex4 a b c) token high frames bytes whole =
    (x y z : ℕ) → hex_digit x ≡ Some a → hex_digit y ≡ Some b → hex_digit z ≡ Some c → MeansText levels use' token high frames (92 ∷ 117 ∷ x ∷ y ∷ z ∷ bytes) whole

-- what a word still awaits, and its value
abbrev word_rest : Word → List ℕ
word_rest words.N = 117 ∷ 108 ∷ 108 ∷ []
word_rest words.Nu = 108 ∷ 108 ∷ []
word_rest words.Nul = 108 ∷ []
word_rest words.T = 114 ∷ 117 ∷ 101 ∷ []
word_rest words.Tr = 117 ∷ 101 ∷ []
word_rest words.Tru = 101 ∷ []
word_rest words.F = 97 ∷ 108 ∷ 115 ∷ 101 ∷ []
word_rest words.Fa = 108 ∷ 115 ∷ 101 ∷ []
word_rest words.Fal = 115 ∷ 101 ∷ []
word_rest words.Fals = 101 ∷ []

-- the value of a word
abbrev word_value : Word → Json
word_value words.N = null
word_value words.Nu = null
word_value words.Nul = null
word_value words.T = truth true
word_value words.Tr = truth true
word_value words.Tru = truth true
word_value words.F = truth false
word_value words.Fa = truth false
word_value words.Fal = truth false
word_value words.Fals = truth false

-- What a state means: the bytes complete a text of the value whole.
abbrev pub Means : ℕ → State → List ℕ → Json → Type 0
Means levels (Between place frames) bytes whole = MeansPlace levels place frames bytes whole
Means levels (InWord word frames) bytes whole = (rest : List ℕ) × (bytes ≡ word_rest word ++ rest) × Follows levels frames (word_value word) rest whole
Means levels (InNumber part token frames) bytes whole =
    (digits : List ℕ) × (rest : List ℕ) × (bytes ≡ digits ++ rest) × Tail part digits × Follows levels frames (spelled (token ++ digits)) rest whole
Means levels (InText use' spot token high frames) bytes whole = MeansSpot levels use' spot token high frames bytes whole

-- so many levels are left further in, of so many
abbrev RoomAt : ℕ → Place → ℕ → ℕ → Type 0
RoomAt levels Start count inside = levels ≡ inside + count
RoomAt levels Mark1 count inside = levels ≡ inside + count
RoomAt levels Mark2 count inside = levels ≡ inside + count
RoomAt levels machine.Value count inside = levels ≡ inside + count
RoomAt levels (Ended value) count inside = levels ≡ inside + count
RoomAt levels _ count inside = levels ≡ suc inside + count

-- the same in a string
abbrev RoomFor : ℕ → Use → ℕ → ℕ → Type 0
RoomFor levels AsValue count inside = levels ≡ inside + count
RoomFor levels (AsName members) count inside = levels ≡ suc inside + count

-- the same in any state
abbrev pub Room : ℕ → State → ℕ → Type 0
Room levels (Between place frames) inside = RoomAt levels place (length frames) inside
Room levels (InWord word frames) inside = levels ≡ inside + length frames
Room levels (InNumber part token frames) inside = levels ≡ inside + length frames
Room levels (InText use' spot token high frames) inside = RoomFor levels use' (length frames) inside

-- what is known of the bytes behind a step
abbrev After : ℕ → Option State → List ℕ → Json → Type 0
After levels None bytes whole = ⊥
After levels (Some next) bytes whole = (inside : ℕ) → Room levels next inside → Means inside next bytes whole

-- a level was opened: there was room for it
opened : (levels : ℕ) (place : Place) (frames : List Frame) (bytes : List ℕ) (whole : Json) (test : Bool) → nat_lt (length frames) levels ≡ test
    → After levels (cond test (Some (Between place frames)) None) bytes whole → (length frames < levels) × ((inside : ℕ) → RoomAt levels place (length frames) inside → MeansPlace inside place frames bytes whole)
opened levels place frames bytes whole true e h = (grind (arith, nat_tests), h)
opened levels place frames bytes whole false e h = absurd h

-- an array opens
open_list_back : (levels inside : ℕ) (frames : List Frame) (bytes : List ℕ) (whole : Json) → levels ≡ inside + length frames
    → After levels (open_at levels FirstItem frames) bytes whole → Awaits inside frames (91 ∷ bytes) whole
open_list_back levels inside frames bytes whole room h = by inside room (opened levels FirstItem frames bytes whole (nat_lt (length frames) levels) refl h)
  where
    put : (m : ℕ) → MeansPlace m FirstItem frames bytes whole → Awaits (suc m) frames (91 ∷ bytes) whole
    put m (inl (rest, spaces, after)) = (91 ∷ bytes, list no_items, rest, none, of_no_items spaces, after)
    put m (inr (items, rest, at, after)) = (91 ∷ bytes, list items, rest, none, of_items at, after)

    by : (m : ℕ) → levels ≡ m + length frames → (length frames < levels) × ((i : ℕ) → RoomAt levels FirstItem (length frames) i → MeansPlace i FirstItem frames bytes whole) → Awaits m frames (91 ∷ bytes) whole
    by zero r (deep, means) = absurd (omega arith)
    by (suc m) r (deep, means) = put m (means m r)

-- an object opens
open_object_back : (levels inside : ℕ) (frames : List Frame) (bytes : List ℕ) (whole : Json) → levels ≡ inside + length frames
    → After levels (open_at levels FirstName frames) bytes whole → Awaits inside frames (123 ∷ bytes) whole
open_object_back levels inside frames bytes whole room h = by inside room (opened levels FirstName frames bytes whole (nat_lt (length frames) levels) refl h)
  where
    put : (m : ℕ) → MeansPlace m FirstName frames bytes whole → Awaits (suc m) frames (123 ∷ bytes) whole
    put m (inl (rest, spaces, after)) = (123 ∷ bytes, object no_members, rest, none, of_no_members spaces, after)
    put m (inr (members, rest, at, after)) = (123 ∷ bytes, object members, rest, none, of_members at, after)

    by : (m : ℕ) → levels ≡ m + length frames → (length frames < levels) × ((i : ℕ) → RoomAt levels FirstName (length frames) i → MeansPlace i FirstName frames bytes whole) → Awaits m frames (123 ∷ bytes) whole
    by zero r (deep, means) = absurd (omega arith)
    by (suc m) r (deep, means) = put m (means m r)

-- one space before
space_before : (levels : ℕ) (frames : List Frame) (byte : ℕ) (bytes : List ℕ) (whole : Json) → IsSpace byte → Awaits levels frames bytes whole → Awaits levels frames (byte ∷ bytes) whole
space_before levels frames byte bytes whole s (at, value, rest, spaces, v, after) = (at, value, rest, space s spaces, v, after)

-- a string opens
string_back : (levels : ℕ) (frames : List Frame) (bytes : List ℕ) (whole : Json) → MeansText levels AsValue [] None frames bytes whole → Awaits levels frames (34 ∷ bytes) whole
string_back levels frames bytes whole (pieces, rest, p, after) =
    (34 ∷ bytes, text (said_by None pieces), rest, none, of_string (record { pieces = pieces; spelled_so = p; says_so = refl }), after)

-- a number opens
number_begins : (levels : ℕ) (frames : List Frame) (byte : ℕ) (bytes : List ℕ) (whole : Json) (part : Part) → begins_with (kind byte) ≡ Some part
    → Means levels (InNumber part (byte ∷ []) frames) bytes whole → Awaits levels frames (byte ∷ bytes) whole
number_begins levels frames byte bytes whole part e (digits, rest, split, tail, after) =
    (byte ∷ bytes, spelled (byte ∷ digits), rest, none, of_number (number_of byte digits part e tail) (ap (λ x. byte ∷ x) split), after)

-- `null` opens
null_back : (levels : ℕ) (frames : List Frame) (bytes : List ℕ) (whole : Json) → Means levels (InWord words.N frames) bytes whole → Awaits levels frames (110 ∷ bytes) whole
null_back levels frames bytes whole (rest, split, after) = subst (λ (s : List ℕ). Awaits levels frames (110 ∷ s) whole) (sym split)
    (110 ∷ 117 ∷ 108 ∷ 108 ∷ rest, null, rest, none, of_null, after)

-- `true` opens
true_back : (levels : ℕ) (frames : List Frame) (bytes : List ℕ) (whole : Json) → Means levels (InWord words.T frames) bytes whole → Awaits levels frames (116 ∷ bytes) whole
true_back levels frames bytes whole (rest, split, after) = subst (λ (s : List ℕ). Awaits levels frames (116 ∷ s) whole) (sym split)
    (116 ∷ 114 ∷ 117 ∷ 101 ∷ rest, truth true, rest, none, of_true, after)

-- `false` opens
false_back : (levels : ℕ) (frames : List Frame) (bytes : List ℕ) (whole : Json) → Means levels (InWord words.F frames) bytes whole → Awaits levels frames (102 ∷ bytes) whole
false_back levels frames bytes whole (rest, split, after) = subst (λ (s : List ℕ). Awaits levels frames (102 ∷ s) whole) (sym split)
    (102 ∷ 97 ∷ 108 ∷ 115 ∷ 101 ∷ rest, truth false, rest, none, of_false, after)

-- a value begins
begin_back : (levels inside : ℕ) (frames : List Frame) (byte : ℕ) (bytes : List ℕ) (whole : Json) (k : Kind) → kind byte ≡ k → IsOf byte k → levels ≡ inside + length frames
    → After levels (begin levels frames k byte) bytes whole → Awaits inside frames (byte ∷ bytes) whole
begin_back levels inside frames byte bytes whole kinds.Blank e of room h = space_before inside frames byte bytes whole (inl of) (h inside room)
begin_back levels inside frames byte bytes whole kinds.Break e of room h = space_before inside frames byte bytes whole (inr of) (h inside room)
begin_back levels inside frames byte bytes whole kinds.Quote e of room h =
    subst (λ (b : ℕ). Awaits inside frames (b ∷ bytes) whole) (sym of) (string_back inside frames bytes whole (h inside room))
begin_back levels inside frames byte bytes whole kinds.OpenList e of room h =
    subst (λ (b : ℕ). Awaits inside frames (b ∷ bytes) whole) (sym of) (open_list_back levels inside frames bytes whole room h)
begin_back levels inside frames byte bytes whole kinds.OpenObject e of room h =
    subst (λ (b : ℕ). Awaits inside frames (b ∷ bytes) whole) (sym of) (open_object_back levels inside frames bytes whole room h)
begin_back levels inside frames byte bytes whole kinds.Minus e of room h = number_begins inside frames byte bytes whole parts.Minus (ap begins_with e) (h inside room)
begin_back levels inside frames byte bytes whole kinds.Zero e of room h = number_begins inside frames byte bytes whole parts.Zero (ap begins_with e) (h inside room)
begin_back levels inside frames byte bytes whole kinds.Digit e of room h = number_begins inside frames byte bytes whole parts.Integer (ap begins_with e) (h inside room)
begin_back levels inside frames byte bytes whole kinds.SmallN e of room h =
    subst (λ (b : ℕ). Awaits inside frames (b ∷ bytes) whole) (sym of) (null_back inside frames bytes whole (h inside room))
begin_back levels inside frames byte bytes whole kinds.SmallT e of room h =
    subst (λ (b : ℕ). Awaits inside frames (b ∷ bytes) whole) (sym of) (true_back inside frames bytes whole (h inside room))
begin_back levels inside frames byte bytes whole kinds.SmallF e of room h =
    subst (λ (b : ℕ). Awaits inside frames (b ∷ bytes) whole) (sym of) (false_back inside frames bytes whole (h inside room))
begin_back levels inside frames byte bytes whole _ e of room h = absurd h

-- what a delivered value means is what follows it
delivered : (levels inside : ℕ) (frames : List Frame) (value : Json) (bytes : List ℕ) (whole : Json) → levels ≡ inside + length frames
    → After levels (Some (deliver value frames)) bytes whole → Follows inside frames value bytes whole
delivered levels inside [] value bytes whole room h = h inside room
delivered levels inside (InList items ∷ frames) value bytes whole room h = h inside (omega arith)
delivered levels inside (InObject members name ∷ frames) value bytes whole room h = h inside (omega arith)

-- the first item of an array: what awaits a value within it
first_item_put : (inside : ℕ) (frames : List Frame) (bytes : List ℕ) (whole : Json) → Awaits inside (InList [] ∷ frames) bytes whole → MeansPlace inside FirstItem frames bytes whole
first_item_put inside frames bytes whole (at, value, behind, spaces, v, (further, rest, m, after)) = inr (item value further, rest, first spaces v m, after)

-- a space before the first item
first_item_space : (inside : ℕ) (frames : List Frame) (byte : ℕ) (bytes : List ℕ) (whole : Json) → IsSpace byte → MeansPlace inside FirstItem frames bytes whole → MeansPlace inside FirstItem frames (byte ∷ bytes) whole
first_item_space inside frames byte bytes whole s (inl (rest, spaces, after)) = inl (rest, space s spaces, after)
first_item_space inside frames byte bytes whole s (inr (items, rest, first spaces v m, after)) = inr (items, rest, first (space s spaces) v m, after)

-- a byte within a new array
first_item_back : (levels inside : ℕ) (frames : List Frame) (byte : ℕ) (bytes : List ℕ) (whole : Json) (k : Kind) → kind byte ≡ k → IsOf byte k → levels ≡ suc inside + length frames
    → After levels (first_item levels frames k byte) bytes whole → MeansPlace inside FirstItem frames (byte ∷ bytes) whole
first_item_back levels inside frames byte bytes whole kinds.Blank e of room h = first_item_space inside frames byte bytes whole (inl of) (h inside room)
first_item_back levels inside frames byte bytes whole kinds.Break e of room h = first_item_space inside frames byte bytes whole (inr of) (h inside room)
first_item_back levels inside frames byte bytes whole kinds.CloseList e of room h = subst (λ (b : ℕ). MeansPlace inside FirstItem frames (b ∷ bytes) whole) (sym of)
    (inl (bytes, none, delivered levels (suc inside) frames (list no_items) bytes whole room h))
first_item_back levels inside frames byte bytes whole k e of room h =
    first_item_put inside frames (byte ∷ bytes) whole (begin_back levels inside (InList [] ∷ frames) byte bytes whole k e of (omega arith) h)

-- a space behind an item
more_space : {levels : ℕ} {items : Items} {byte : ℕ} {bytes rest : List ℕ} → IsSpace byte → MoreItems levels items bytes rest → MoreItems levels items (byte ∷ bytes) rest
more_space s (no_more spaces) = no_more (space s spaces)
more_space s (more spaces i) = more (space s spaces) i

-- a comma behind an item
behind_item_put : (inside : ℕ) (items : List Json) (frames : List Frame) (bytes : List ℕ) (whole : Json) → Awaits inside (InList items ∷ frames) bytes whole → MeansPlace inside (BehindItem items) frames (44 ∷ bytes) whole
behind_item_put inside items frames bytes whole (at, value, behind, spaces, v, (further, rest, m, after)) =
    (item value further, rest, more none (first spaces v m), subst (λ (x : Items). Follows (suc inside) frames (list x) rest whole) (items_onto_more items value further) after)

-- a byte behind an item
behind_item_back : (levels inside : ℕ) (items : List Json) (frames : List Frame) (byte : ℕ) (bytes : List ℕ) (whole : Json) (k : Kind) → IsOf byte k → levels ≡ suc inside + length frames
    → After levels (behind_item items frames k) bytes whole → MeansPlace inside (BehindItem items) frames (byte ∷ bytes) whole
behind_item_back levels inside items frames byte bytes whole kinds.Blank of room h = let (further, rest, m, after) = h inside room in (further, rest, more_space (inl of) m, after)
behind_item_back levels inside items frames byte bytes whole kinds.Break of room h = let (further, rest, m, after) = h inside room in (further, rest, more_space (inr of) m, after)
behind_item_back levels inside items frames byte bytes whole kinds.Comma of room h = subst (λ (b : ℕ). MeansPlace inside (BehindItem items) frames (b ∷ bytes) whole) (sym of)
    (behind_item_put inside items frames bytes whole (h inside (omega arith)))
behind_item_back levels inside items frames byte bytes whole kinds.CloseList of room h = subst (λ (b : ℕ). MeansPlace inside (BehindItem items) frames (b ∷ bytes) whole) (sym of)
    (no_items, bytes, no_more none, delivered levels (suc inside) frames (list (items_onto items no_items)) bytes whole room h)
behind_item_back levels inside items frames byte bytes whole _ of room h = absurd h

-- a space before a name
member_space : {levels : ℕ} {members : Members} {byte : ℕ} {bytes rest : List ℕ} → IsSpace byte → MembersAt levels members bytes rest → MembersAt levels members (byte ∷ bytes) rest
member_space s (first_member spaces q c d v m) = first_member (space s spaces) q c d v m

-- a space behind a member
more_members_space : {levels : ℕ} {members : Members} {byte : ℕ} {bytes rest : List ℕ} → IsSpace byte → MoreMembers levels members bytes rest → MoreMembers levels members (byte ∷ bytes) rest
more_members_space s (no_more_members spaces) = no_more_members (space s spaces)
more_members_space s (more_members spaces i) = more_members (space s spaces) i

-- a name from its opening mark on
name_put : (inside : ℕ) (members : List Entry) (frames : List Frame) (bytes : List ℕ) (whole : Json) → MeansText inside (AsName members) [] None frames bytes whole
    → MeansPlace inside (Name members) frames (34 ∷ bytes) whole
name_put inside members frames bytes whole (pieces, named, p, (colon, at, value, behind, further, rest, before_colon, behind_colon, v, m, after)) =
    (member (said_by None pieces) value further, rest, first_member none (record { pieces = pieces; spelled_so = p; says_so = refl }) before_colon behind_colon v m, after)

-- the first name of an object
first_name_put : (inside : ℕ) (frames : List Frame) (bytes : List ℕ) (whole : Json) → MeansPlace inside (Name []) frames bytes whole → MeansPlace inside FirstName frames bytes whole
first_name_put inside frames bytes whole (further, rest, m, after) = inr (further, rest, m, after)

-- a space within a new object
first_name_space : (inside : ℕ) (frames : List Frame) (byte : ℕ) (bytes : List ℕ) (whole : Json) → IsSpace byte → MeansPlace inside FirstName frames bytes whole → MeansPlace inside FirstName frames (byte ∷ bytes) whole
first_name_space inside frames byte bytes whole s (inl (rest, spaces, after)) = inl (rest, space s spaces, after)
first_name_space inside frames byte bytes whole s (inr (members, rest, m, after)) = inr (members, rest, member_space s m, after)

-- a byte within a new object
first_name_back : (levels inside : ℕ) (frames : List Frame) (byte : ℕ) (bytes : List ℕ) (whole : Json) (k : Kind) → IsOf byte k → levels ≡ suc inside + length frames
    → After levels (first_name frames k) bytes whole → MeansPlace inside FirstName frames (byte ∷ bytes) whole
first_name_back levels inside frames byte bytes whole kinds.Blank of room h = first_name_space inside frames byte bytes whole (inl of) (h inside room)
first_name_back levels inside frames byte bytes whole kinds.Break of room h = first_name_space inside frames byte bytes whole (inr of) (h inside room)
first_name_back levels inside frames byte bytes whole kinds.Quote of room h = subst (λ (b : ℕ). MeansPlace inside FirstName frames (b ∷ bytes) whole) (sym of)
    (first_name_put inside frames (34 ∷ bytes) whole (name_put inside [] frames bytes whole (h inside room)))
first_name_back levels inside frames byte bytes whole kinds.CloseObject of room h = subst (λ (b : ℕ). MeansPlace inside FirstName frames (b ∷ bytes) whole) (sym of)
    (inl (bytes, none, delivered levels (suc inside) frames (object no_members) bytes whole room h))
first_name_back levels inside frames byte bytes whole _ of room h = absurd h

-- a byte where a name has to come
name_back : (levels inside : ℕ) (members : List Entry) (frames : List Frame) (byte : ℕ) (bytes : List ℕ) (whole : Json) (k : Kind) → IsOf byte k → levels ≡ suc inside + length frames
    → After levels (name_step members frames k) bytes whole → MeansPlace inside (Name members) frames (byte ∷ bytes) whole
name_back levels inside members frames byte bytes whole kinds.Blank of room h = let (further, rest, m, after) = h inside room in (further, rest, member_space (inl of) m, after)
name_back levels inside members frames byte bytes whole kinds.Break of room h = let (further, rest, m, after) = h inside room in (further, rest, member_space (inr of) m, after)
name_back levels inside members frames byte bytes whole kinds.Quote of room h = subst (λ (b : ℕ). MeansPlace inside (Name members) frames (b ∷ bytes) whole) (sym of)
    (name_put inside members frames bytes whole (h inside room))
name_back levels inside members frames byte bytes whole _ of room h = absurd h

-- a space behind a name
colon_space : (inside : ℕ) (members : List Entry) (name : List ℕ) (frames : List Frame) (byte : ℕ) (bytes : List ℕ) (whole : Json) → IsSpace byte
    → AwaitsColon inside members name frames bytes whole → AwaitsColon inside members name frames (byte ∷ bytes) whole
colon_space inside members name frames byte bytes whole s (colon, at, value, behind, further, rest, before_colon, behind_colon, v, m, after) =
    (colon, at, value, behind, further, rest, space s before_colon, behind_colon, v, m, after)

-- a colon behind a name
colon_put : (inside : ℕ) (members : List Entry) (name : List ℕ) (frames : List Frame) (bytes : List ℕ) (whole : Json) → Awaits inside (InObject members name ∷ frames) bytes whole
    → AwaitsColon inside members name frames (58 ∷ bytes) whole
colon_put inside members name frames bytes whole (at, value, behind, spaces, v, (further, rest, m, after)) = (
  bytes,
  at,
  value,
  behind,
  further,
  rest,
  none,
  spaces,
  v,
  m,
  subst (λ (x : Members). Follows (suc inside) frames (object x) rest whole) (members_onto_more members (name, value) further) after,
)

-- a byte behind a name
behind_name_back : (levels inside : ℕ) (members : List Entry) (name : List ℕ) (frames : List Frame) (byte : ℕ) (bytes : List ℕ) (whole : Json) (k : Kind) → IsOf byte k → levels ≡ suc inside + length frames
    → After levels (behind_name members name frames k) bytes whole → AwaitsColon inside members name frames (byte ∷ bytes) whole
behind_name_back levels inside members name frames byte bytes whole kinds.Blank of room h = colon_space inside members name frames byte bytes whole (inl of) (h inside room)
behind_name_back levels inside members name frames byte bytes whole kinds.Break of room h = colon_space inside members name frames byte bytes whole (inr of) (h inside room)
behind_name_back levels inside members name frames byte bytes whole kinds.Colon of room h = subst (λ (b : ℕ). AwaitsColon inside members name frames (b ∷ bytes) whole) (sym of)
    (colon_put inside members name frames bytes whole (h inside (omega arith)))
behind_name_back levels inside members name frames byte bytes whole _ of room h = absurd h

-- a comma behind a member
behind_member_put : (inside : ℕ) (members : List Entry) (frames : List Frame) (bytes : List ℕ) (whole : Json) → MeansPlace inside (Name members) frames bytes whole
    → MeansPlace inside (BehindMember members) frames (44 ∷ bytes) whole
behind_member_put inside members frames bytes whole (further, rest, m, after) = (further, rest, more_members none m, after)

-- a byte behind a member
behind_member_back : (levels inside : ℕ) (members : List Entry) (frames : List Frame) (byte : ℕ) (bytes : List ℕ) (whole : Json) (k : Kind) → IsOf byte k → levels ≡ suc inside + length frames
    → After levels (behind_member members frames k) bytes whole → MeansPlace inside (BehindMember members) frames (byte ∷ bytes) whole
behind_member_back levels inside members frames byte bytes whole kinds.Blank of room h = let (further, rest, m, after) = h inside room in (further, rest, more_members_space (inl of) m, after)
behind_member_back levels inside members frames byte bytes whole kinds.Break of room h = let (further, rest, m, after) = h inside room in (further, rest, more_members_space (inr of) m, after)
behind_member_back levels inside members frames byte bytes whole kinds.Comma of room h = subst (λ (b : ℕ). MeansPlace inside (BehindMember members) frames (b ∷ bytes) whole) (sym of)
    (behind_member_put inside members frames bytes whole (h inside room))
behind_member_back levels inside members frames byte bytes whole kinds.CloseObject of room h = subst (λ (b : ℕ). MeansPlace inside (BehindMember members) frames (b ∷ bytes) whole) (sym of)
    (no_members, bytes, no_more_members none, delivered levels (suc inside) frames (object (members_onto members no_members)) bytes whole room h)
behind_member_back levels inside members frames byte bytes whole _ of room h = absurd h

-- a byte behind the whole value
ended_back : (levels inside : ℕ) (value : Json) (frames : List Frame) (byte : ℕ) (bytes : List ℕ) (whole : Json) (k : Kind) → IsOf byte k → levels ≡ inside + length frames
    → After levels (ended_step value frames k) bytes whole → MeansPlace inside (Ended value) frames (byte ∷ bytes) whole
ended_back levels inside value frames byte bytes whole kinds.Blank of room h = let (spaces, is) = h inside room in (space (inl of) spaces, is)
ended_back levels inside value frames byte bytes whole kinds.Break of room h = let (spaces, is) = h inside room in (space (inr of) spaces, is)
ended_back levels inside value frames byte bytes whole _ of room h = absurd h

-- one byte of a byte order mark
mark_back : (levels inside : ℕ) (place : Place) (frames : List Frame) (byte mark : ℕ) (bytes : List ℕ) (whole : Json) (test : Bool) → nat_eq byte mark ≡ test
    → RoomAt levels place (length frames) inside → After levels (cond test (Some (Between place frames)) None) bytes whole → (byte ≡ mark) × MeansPlace inside place frames bytes whole
mark_back levels inside place frames byte mark bytes whole true e room h = (grind (arith, nat_tests), h inside room)
mark_back levels inside place frames byte mark bytes whole false e room h = absurd h

-- the first byte of all
start_back : (levels inside : ℕ) (frames : List Frame) (byte : ℕ) (bytes : List ℕ) (whole : Json) (test : Bool) → nat_eq byte 239 ≡ test → levels ≡ inside + length frames
    → After levels (cond test (Some (Between Mark1 frames)) (begin levels frames (kind byte) byte)) bytes whole → MeansPlace inside Start frames (byte ∷ bytes) whole
start_back levels inside frames byte bytes whole true e room h =
    let (rest, split, after) = h inside room in
    let is : byte ≡ 239 = grind (arith, nat_tests) in
    inr (rest, subst (λ (b : ℕ). (b ∷ bytes) ≡ 239 ∷ 187 ∷ 191 ∷ rest) (sym is) (ap (λ x. 239 ∷ x) split), after)
start_back levels inside frames byte bytes whole false e room h = inl (begin_back levels inside frames byte bytes whole (kind byte) refl (kind_is byte) room h)

-- a byte where no token is open
place_back : (levels inside : ℕ) (place : Place) (frames : List Frame) (byte : ℕ) (bytes : List ℕ) (whole : Json) → RoomAt levels place (length frames) inside
    → After levels (between levels place frames (kind byte) byte) bytes whole → MeansPlace inside place frames (byte ∷ bytes) whole
place_back levels inside Start frames byte bytes whole room h = start_back levels inside frames byte bytes whole (nat_eq byte 239) refl room h
place_back levels inside Mark1 frames byte bytes whole room h =
    let (is, (rest, split, after)) = mark_back levels inside Mark2 frames byte 187 bytes whole (nat_eq byte 187) refl room h in
    (rest, subst (λ (b : ℕ). (b ∷ bytes) ≡ 187 ∷ 191 ∷ rest) (sym is) (ap (λ x. 187 ∷ x) split), after)
place_back levels inside Mark2 frames byte bytes whole room h =
    let (is, after) = mark_back levels inside machine.Value frames byte 191 bytes whole (nat_eq byte 191) refl room h in
    (bytes, ap (λ x. x ∷ bytes) is, after)
place_back levels inside machine.Value frames byte bytes whole room h = begin_back levels inside frames byte bytes whole (kind byte) refl (kind_is byte) room h
place_back levels inside FirstItem frames byte bytes whole room h = first_item_back levels inside frames byte bytes whole (kind byte) refl (kind_is byte) room h
place_back levels inside (BehindItem items) frames byte bytes whole room h = behind_item_back levels inside items frames byte bytes whole (kind byte) (kind_is byte) room h
place_back levels inside FirstName frames byte bytes whole room h = first_name_back levels inside frames byte bytes whole (kind byte) (kind_is byte) room h
place_back levels inside (Name members) frames byte bytes whole room h = name_back levels inside members frames byte bytes whole (kind byte) (kind_is byte) room h
place_back levels inside (BehindName members name) frames byte bytes whole room h = behind_name_back levels inside members name frames byte bytes whole (kind byte) (kind_is byte) room h
place_back levels inside (BehindMember members) frames byte bytes whole room h = behind_member_back levels inside members frames byte bytes whole (kind byte) (kind_is byte) room h
place_back levels inside (Ended value) frames byte bytes whole room h = ended_back levels inside value frames byte bytes whole (kind byte) (kind_is byte) room h

-- a byte behind a delivered value
delivered_back : (levels inside : ℕ) (value : Json) (frames : List Frame) (byte : ℕ) (bytes : List ℕ) (whole : Json) → levels ≡ inside + length frames
    → After levels (step_delivered levels (deliver value frames) (kind byte) byte) bytes whole → Follows inside frames value (byte ∷ bytes) whole
delivered_back levels inside value [] byte bytes whole room h = place_back levels inside (Ended value) [] byte bytes whole room h
delivered_back levels inside value (InList items ∷ frames) byte bytes whole room h = place_back levels inside (BehindItem (items ++ value ∷ [])) frames byte bytes whole (omega arith) h
delivered_back levels inside value (InObject members name ∷ frames) byte bytes whole room h = place_back levels inside (BehindMember (members ++ (name, value) ∷ [])) frames byte bytes whole (omega arith) h

-- a byte of a number, or behind it
number_ended : (levels inside : ℕ) (part : Part) (token : List ℕ) (frames : List Frame) (byte : ℕ) (bytes : List ℕ) (whole : Json) (test : Bool) → may_end part ≡ test → levels ≡ inside + length frames
    → After levels (cond test (step_delivered levels (deliver (spelled token) frames) (kind byte) byte) None) bytes whole → Means inside (InNumber part token frames) (byte ∷ bytes) whole
number_ended levels inside part token frames byte bytes whole true e room h = (
  [],
  byte ∷ bytes,
  refl,
  ends e,
  subst (λ (t : List ℕ). Follows inside frames (spelled t) (byte ∷ bytes) whole) (sym (append-nil token))
      (delivered_back levels inside (spelled token) frames byte bytes whole room h),
)
number_ended levels inside part token frames byte bytes whole false e room h = absurd h

-- a byte in a number or behind it
number_back : (levels inside : ℕ) (o : Option Part) (part : Part) (token : List ℕ) (frames : List Frame) (byte : ℕ) (bytes : List ℕ) (whole : Json) → goes_on part (kind byte) ≡ o → levels ≡ inside + length frames
    → After levels (number_step levels o part token frames (kind byte) byte) bytes whole → Means inside (InNumber part token frames) (byte ∷ bytes) whole
number_back levels inside None part token frames byte bytes whole e room h = number_ended levels inside part token frames byte bytes whole (may_end part) refl room h
number_back levels inside (Some next) part token frames byte bytes whole e room h =
    let (digits, rest, split, tail, after) = h inside room in
    (byte ∷ digits, rest, ap (λ x. byte ∷ x) split, goes e tail, subst (λ (t : List ℕ). Follows inside frames (spelled t) rest whole) (append_assoc token (byte ∷ []) digits) after)

-- a letter of a word
word_back : (levels inside : ℕ) (word : Word) (frames : List Frame) (bytes : List ℕ) (whole : Json) → levels ≡ inside + length frames
    → After levels (Some (behind_awaited word frames)) bytes whole → Means inside (InWord word frames) (awaited word ∷ bytes) whole
word_back levels inside words.N frames bytes whole room h = let (rest, split, after) = h inside room in (rest, ap (λ x. 117 ∷ x) split, after)
word_back levels inside words.Nu frames bytes whole room h = let (rest, split, after) = h inside room in (rest, ap (λ x. 108 ∷ x) split, after)
word_back levels inside words.Nul frames bytes whole room h = (bytes, refl, delivered levels inside frames null bytes whole room h)
word_back levels inside words.T frames bytes whole room h = let (rest, split, after) = h inside room in (rest, ap (λ x. 114 ∷ x) split, after)
word_back levels inside words.Tr frames bytes whole room h = let (rest, split, after) = h inside room in (rest, ap (λ x. 117 ∷ x) split, after)
word_back levels inside words.Tru frames bytes whole room h = (bytes, refl, delivered levels inside frames (truth true) bytes whole room h)
word_back levels inside words.F frames bytes whole room h = let (rest, split, after) = h inside room in (rest, ap (λ x. 97 ∷ x) split, after)
word_back levels inside words.Fa frames bytes whole room h = let (rest, split, after) = h inside room in (rest, ap (λ x. 108 ∷ x) split, after)
word_back levels inside words.Fal frames bytes whole room h = let (rest, split, after) = h inside room in (rest, ap (λ x. 115 ∷ x) split, after)
word_back levels inside words.Fals frames bytes whole room h = (bytes, refl, delivered levels inside frames (truth false) bytes whole room h)

-- a byte in a word
letter_back : (levels inside : ℕ) (word : Word) (frames : List Frame) (byte : ℕ) (bytes : List ℕ) (whole : Json) (test : Bool) → nat_eq byte (awaited word) ≡ test → levels ≡ inside + length frames
    → After levels (cond test (Some (behind_awaited word frames)) None) bytes whole → Means inside (InWord word frames) (byte ∷ bytes) whole
letter_back levels inside word frames byte bytes whole true e room h =
    let is : byte ≡ awaited word = grind (arith, nat_tests) in
    subst (λ (b : ℕ). Means inside (InWord word frames) (b ∷ bytes) whole) (sym is) (word_back levels inside word frames bytes whole room h)
letter_back levels inside word frames byte bytes whole false e room h = absurd h

-- a string ends
closes_back : (levels inside : ℕ) (use' : Use) (says : List ℕ) (frames : List Frame) (bytes : List ℕ) (whole : Json) → RoomFor levels use' (length frames) inside
    → After levels (Some (close use' says frames)) bytes whole → Closes inside use' says frames bytes whole
closes_back levels inside AsValue says frames bytes whole room h = delivered levels inside frames (text says) bytes whole room h
closes_back levels inside (AsName members) says frames bytes whole room h = h inside room

-- a plain byte of a string
plain_back : (inside : ℕ) (use' : Use) (token : List ℕ) (high : Option ℕ) (frames : List Frame) (byte : ℕ) (bytes : List ℕ) (whole : Json) → IsPlain byte
    → MeansText inside use' ((token ++ alone high) ++ byte ∷ []) None frames bytes whole → MeansText inside use' token high frames (byte ∷ bytes) whole
plain_back inside use' token high frames byte bytes whole is (pieces, rest, p, after) = (
  Byte byte ∷ pieces,
  rest,
  plain is p,
  subst (λ (t : List ℕ). Closes inside use' t frames rest whole)
      (append_assoc (token ++ alone high) (byte ∷ []) (said_by None pieces) ∙ append_assoc token (alone high) (byte ∷ said_by None pieces)) after,
)

-- a byte of a kind that strings have, or none
taken_back : (levels inside : ℕ) (use' : Use) (token : List ℕ) (high : Option ℕ) (frames : List Frame) (byte : ℕ) (bytes : List ℕ) (whole : Json) (k : Kind) → IsOf byte k → RoomFor levels use' (length frames) inside
    → After levels (text_step use' token high frames k byte) bytes whole → MeansText inside use' token high frames (byte ∷ bytes) whole
taken_back levels inside use' token high frames byte bytes whole kinds.Quote of room h = subst (λ (b : ℕ). MeansText inside use' token high frames (b ∷ bytes) whole) (sym of)
    ([], bytes, closed, closes_back levels inside use' (token ++ alone high) frames bytes whole room h)
taken_back levels inside use' token high frames byte bytes whole kinds.Backslash of room h = subst (λ (b : ℕ). MeansText inside use' token high frames (b ∷ bytes) whole) (sym of) (h inside room)
taken_back levels inside use' token high frames byte bytes whole kinds.Break of room h = absurd h
taken_back levels inside use' token high frames byte bytes whole kinds.Control of room h = absurd h
taken_back levels inside use' token high frames byte bytes whole kinds.Digit of room h =
    plain_back inside use' token high frames byte bytes whole (omega (arith, of.0), (λ e. omega (arith, of.0)), (λ e. omega (arith, of.1))) (h inside room)
taken_back levels inside use' token high frames byte bytes whole kinds.Other of room h =
    plain_back inside use' token high frames byte bytes whole (omega (arith, of.0), of.1, of.2) (h inside room)
taken_back levels inside use' token high frames byte bytes whole _ of room h =
    plain_back inside use' token high frames byte bytes whole (omega (arith, of), (λ e. omega (arith, of)), (λ e. omega (arith, of))) (h inside room)

-- the letter of an escape
escaped_back : (levels inside : ℕ) (use' : Use) (token : List ℕ) (high : Option ℕ) (frames : List Frame) (byte : ℕ) (bytes : List ℕ) (whole : Json) (o : Option ℕ) → escaped byte ≡ o → RoomFor levels use' (length frames) inside
    → After levels (option_map (λ says. InText use' InBytes ((token ++ alone high) ++ says ∷ []) None frames) o) bytes whole → MeansText inside use' token high frames (92 ∷ byte ∷ bytes) whole
escaped_back levels inside use' token high frames byte bytes whole None e room h = absurd h
escaped_back levels inside use' token high frames byte bytes whole (Some says) e room h =
    let (pieces, rest, p, after) = h inside room in (
      Byte says ∷ pieces,
      rest,
      escape e p,
      subst (λ (t : List ℕ). Closes inside use' t frames rest whole)
          (append_assoc (token ++ alone high) (says ∷ []) (said_by None pieces) ∙ append_assoc token (alone high) (says ∷ said_by None pieces)) after,
    )

-- a byte behind a backslash
escape_back : (levels inside : ℕ) (use' : Use) (token : List ℕ) (high : Option ℕ) (frames : List Frame) (byte : ℕ) (bytes : List ℕ) (whole : Json) (test : Bool) → nat_eq byte 117 ≡ test → RoomFor levels use' (length frames) inside
    → After levels (cond test (Some (InText use' Hex1 token high frames)) (option_map (λ says. InText use' InBytes ((token ++ alone high) ++ says ∷ []) None frames) (escaped byte))) bytes whole
    → MeansText inside use' token high frames (92 ∷ byte ∷ bytes) whole
escape_back levels inside use' token high frames byte bytes whole true e room h =
    let is : byte ≡ 117 = grind (arith, nat_tests) in
    subst (λ (b : ℕ). MeansText inside use' token high frames (92 ∷ b ∷ bytes) whole) (sym is) (h inside room)
escape_back levels inside use' token high frames byte bytes whole false e room h = escaped_back levels inside use' token high frames byte bytes whole (escaped byte) refl room h

-- the digits of a code unit
hex1_back : (levels inside : ℕ) (use' : Use) (token : List ℕ) (high : Option ℕ) (frames : List Frame) (byte : ℕ) (bytes : List ℕ) (whole : Json) (o : Option ℕ) → hex_digit byte ≡ o → RoomFor levels use' (length frames) inside
    → After levels (option_map (λ a. InText use' (Hex2 a) token high frames) o) bytes whole → MeansText inside use' token high frames (92 ∷ 117 ∷ byte ∷ bytes) whole
hex1_back levels inside use' token high frames byte bytes whole None e room h = absurd h
hex1_back levels inside use' token high frames byte bytes whole (Some a) e room h = h inside room byte e

-- the second digit
hex2_back : (levels inside : ℕ) (use' : Use) (token : List ℕ) (high : Option ℕ) (frames : List Frame) (byte : ℕ) (bytes : List ℕ) (whole : Json) (o : Option ℕ) (a : ℕ) → hex_digit byte ≡ o → RoomFor levels use' (length frames) inside
    → After levels (option_map (λ b. InText use' (Hex3 a b) token high frames) o) bytes whole → MeansSpot inside use' (Hex2 a) token high frames (byte ∷ bytes) whole
hex2_back levels inside use' token high frames byte bytes whole None a e room h = absurd h
hex2_back levels inside use' token high frames byte bytes whole (Some b) a e room h = λ x ex. h inside room x byte ex e

-- the third digit
hex3_back : (levels inside : ℕ) (use' : Use) (token : List ℕ) (high : Option ℕ) (frames : List Frame) (byte : ℕ) (bytes : List ℕ) (whole : Json) (o : Option ℕ) (a b : ℕ) → hex_digit byte ≡ o → RoomFor levels use' (length frames) inside
    → After levels (option_map (λ c. InText use' (Hex4 a b c) token high frames) o) bytes whole → MeansSpot inside use' (Hex3 a b) token high frames (byte ∷ bytes) whole
hex3_back levels inside use' token high frames byte bytes whole None a b e room h = absurd h
hex3_back levels inside use' token high frames byte bytes whole (Some c) a b e room h = λ x y ex ey. h inside room x y byte ex ey e

-- the fourth digit
hex4_back : (levels inside : ℕ) (use' : Use) (token : List ℕ) (high : Option ℕ) (frames : List Frame) (byte : ℕ) (bytes : List ℕ) (whole : Json) (o : Option ℕ) (a b c : ℕ) → hex_digit byte ≡ o → RoomFor levels use' (length frames) inside
    → After levels (option_map (λ d. unit_step use' token high frames (4096 * a + 256 * b + 16 * c + d)) o) bytes whole → MeansSpot inside use' (Hex4 a b c) token high frames (byte ∷ bytes) whole
hex4_back levels inside use' token high frames byte bytes whole None a b c e room h = absurd h
hex4_back levels inside use' token high frames byte bytes whole (Some d) a b c e room h = λ x y z ex ey ez.
    let (pieces, rest, p, after) = h inside room in (
      Code (4096 * a + 256 * b + 16 * c + d) ∷ pieces,
      rest,
      unit ex ey ez e p,
      subst (λ (t : List ℕ). Closes inside use' t frames rest whole)
          (append_assoc token (said_behind high (4096 * a + 256 * b + 16 * c + d)) (said_by (waiting_after (4096 * a + 256 * b + 16 * c + d)) pieces)) after,
    )

-- a byte anywhere in a string
spot_back : (levels inside : ℕ) (use' : Use) (spot : Spot) (token : List ℕ) (high : Option ℕ) (frames : List Frame) (byte : ℕ) (bytes : List ℕ) (whole : Json) → RoomFor levels use' (length frames) inside
    → After levels (in_text use' spot token high frames (kind byte) byte) bytes whole → MeansSpot inside use' spot token high frames (byte ∷ bytes) whole
spot_back levels inside use' InBytes token high frames byte bytes whole room h = taken_back levels inside use' token high frames byte bytes whole (kind byte) (kind_is byte) room h
spot_back levels inside use' InEscape token high frames byte bytes whole room h = escape_back levels inside use' token high frames byte bytes whole (nat_eq byte 117) refl room h
spot_back levels inside use' Hex1 token high frames byte bytes whole room h = hex1_back levels inside use' token high frames byte bytes whole (hex_digit byte) refl room h
spot_back levels inside use' (Hex2 a) token high frames byte bytes whole room h = hex2_back levels inside use' token high frames byte bytes whole (hex_digit byte) a refl room h
spot_back levels inside use' (Hex3 a b) token high frames byte bytes whole room h = hex3_back levels inside use' token high frames byte bytes whole (hex_digit byte) a b refl room h
spot_back levels inside use' (Hex4 a b c) token high frames byte bytes whole room h = hex4_back levels inside use' token high frames byte bytes whole (hex_digit byte) a b c refl room h

-- one byte before
step_back : (levels inside : ℕ) (state : State) (byte : ℕ) (bytes : List ℕ) (whole : Json) → Room levels state inside
    → After levels (step levels state byte) bytes whole → Means inside state (byte ∷ bytes) whole
step_back levels inside (Between place frames) byte bytes whole room h = place_back levels inside place frames byte bytes whole room h
step_back levels inside (InWord word frames) byte bytes whole room h = letter_back levels inside word frames byte bytes whole (nat_eq byte (awaited word)) refl room h
step_back levels inside (InNumber part token frames) byte bytes whole room h = number_back levels inside (goes_on part (kind byte)) part token frames byte bytes whole refl room h
step_back levels inside (InText use' spot token high frames) byte bytes whole room h = spot_back levels inside use' spot token high frames byte bytes whole room h

-- no byte is left
place_end : (inside : ℕ) (place : Place) (frames : List Frame) (whole : Json) → finish_place place ≡ Some whole → MeansPlace inside place frames [] whole
place_end inside (Ended value) frames whole e = (none, cc)
place_end inside _ frames whole e = let no : None ≡ Some whole = e in absurd (cc no)

-- the end of the text behind a number
number_end : (inside : ℕ) (part : Part) (token : List ℕ) (frames : List Frame) (whole : Json) (test : Bool) → may_end part ≡ test
    → cond test (finish_delivered (deliver (spelled token) frames)) None ≡ Some whole → Means inside (InNumber part token frames) [] whole
number_end inside part token [] whole true last e = ([], [], refl, ends last, (none, ap spelled (append-nil token) ∙ cc))
number_end inside part token (InList items ∷ frames) whole true last e = let no : None ≡ Some whole = e in absurd (cc no)
number_end inside part token (InObject members name ∷ frames) whole true last e = let no : None ≡ Some whole = e in absurd (cc no)
number_end inside part token frames whole false last e = let no : None ≡ Some whole = e in absurd (cc no)

-- the end of the text in any state
state_end : (inside : ℕ) (state : State) (whole : Json) → finish state ≡ Some whole → Means inside state [] whole
state_end inside (Between place frames) whole e = place_end inside place frames whole e
state_end inside (InWord word frames) whole e = let no : None ≡ Some whole = e in absurd (cc no)
state_end inside (InNumber part token frames) whole e = number_end inside part token frames whole (may_end part) refl e
state_end inside (InText use' spot token high frames) whole e = let no : None ≡ Some whole = e in absurd (cc no)

-- what follows a step
after : (levels : ℕ) (o : Option State) (bytes : List ℕ) (whole : Json)
    → ((next : State) (inside : ℕ) → Room levels next inside → answer levels next bytes ≡ Some whole → Means inside next bytes whole)
    → option_and_then (λ next. answer levels next bytes) o ≡ Some whole → After levels o bytes whole
after levels None bytes whole means e = let no : None ≡ Some whole = e in absurd (cc no)
after levels (Some next) bytes whole means e = λ inside room. means next inside room e

-- what the machine answers from a state on is what the state means
pub sound : (levels inside : ℕ) (state : State) (bytes : List ℕ) (whole : Json) → Room levels state inside → answer levels state bytes ≡ Some whole → Means inside state bytes whole
sound levels inside state [] whole room e = state_end inside state whole e
sound levels inside state (byte ∷ bytes) whole room e =
    step_back levels inside state byte bytes whole room
    (after levels (step levels state byte) bytes whole (λ next i r a. sound levels i next bytes whole r a) e)
