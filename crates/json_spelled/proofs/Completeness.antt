-- What is spelled so is what the machine reads.
use Rattle.std.proofs.Common.{◌≡◌, ℕ, suc, ◌+◌, ◌*◌, Bool, true, false, cond, List, [], ◌∷◌, ◌++◌, length, Option, Some, None, refl, sym, ap, ◌∙◌, subst, arith, append_assoc, append-nil, nat_eq, nat_lt}
use Rattle.std.proofs.Math.Logic.{⊎_elim}
use Rattle.std.specs.Prelude.{⊤, option_and_then, option_map}
use Rattle.std.proofs.lemmas.Bool.Decides.{nat_tests}
use Rattle.json_spelled.specs.Json.{Json, spelled, list, object, Items, no_items, item, Members, no_members, member, Entry, items_onto, members_onto}
use Rattle.json_spelled.specs.Grammar.{Spaces, none, space, IsPlain, escaped, Piece, Pieces, closed, plain, escape, unit, said_by, alone, said_behind, waiting_after, Quoted, Value, of_null, of_true, of_false, of_number, of_string, of_no_items, of_items, of_no_members, of_members, ItemsAt, first, MoreItems, no_more, more, MembersAt, first_member, MoreMembers, no_more_members, more_members}
use Rattle.json_spelled.specs.Kind.{kind}
use Rattle.json_spelled.specs.Machine as machine
use Rattle.json_spelled.specs.Machine.{Frame, InList, InObject, Place, Start, Mark1, Mark2, FirstItem, BehindItem, FirstName, Name, BehindName, BehindMember, Use, AsValue, AsName, InBytes, InEscape, Hex1, Hex2, Hex3, Hex4, State, Between, InWord, InNumber, InText, deliver, finish, finish_delivered, may_end, goes_on, number_step, step_delivered, between, text_step, unit_step, close, step_by, step, answer}
use Rattle.json_spelled.specs.declared.kind.Kind.{Kind}
use Rattle.json_spelled.specs.declared.kind.Kind.TheVariants as kinds
use Rattle.json_spelled.specs.declared.lexeme.Part.{Part}
use Rattle.json_spelled.specs.declared.lexeme.Part.TheVariants as parts
use Rattle.json_spelled.specs.declared.lexeme.Word.TheVariants as words
use Rattle.json_spelled.proofs.ByteKinds.{IsOf, kind_is, kind_space, kind_quote, kind_backslash, kind_comma, kind_colon, kind_open_list, kind_close_list, kind_open_object, kind_close_object, kind_small_n, kind_small_t, kind_small_f}
use Rattle.json_spelled.proofs.Numerals.{Tail, ends, goes, numeral_of, begins_with}

-- a byte of this kind leads from state to state
pub led_to : (levels : ℕ) (state next : State) (byte : ℕ) (bytes : List ℕ) (k : Kind) → kind byte ≡ k → step_by levels state k byte ≡ Some next
    → answer levels state (byte ∷ bytes) ≡ answer levels next bytes
led_to levels state next byte bytes k e s =
    ap (λ o. option_and_then (λ next. answer levels next bytes) o) (ap (λ k. step_by levels state k byte) e ∙ s)

-- where spaces change nothing
abbrev pub IsLater : Place → Type 0
IsLater Start = ⊥
IsLater Mark1 = ⊥
IsLater Mark2 = ⊥
IsLater _ = ⊤

-- a space is passed over
stays_blank : (levels : ℕ) (place : Place) (frames : List Frame) (byte : ℕ) → IsLater place → between levels place frames kinds.Blank byte ≡ Some (Between place frames)
stays_blank levels Start frames byte h = absurd h
stays_blank levels Mark1 frames byte h = absurd h
stays_blank levels Mark2 frames byte h = absurd h
stays_blank levels _ frames byte h = refl

-- a tab, a line feed or a carriage return is passed over
stays_break : (levels : ℕ) (place : Place) (frames : List Frame) (byte : ℕ) → IsLater place → between levels place frames kinds.Break byte ≡ Some (Between place frames)
stays_break levels Start frames byte h = absurd h
stays_break levels Mark1 frames byte h = absurd h
stays_break levels Mark2 frames byte h = absurd h
stays_break levels _ frames byte h = refl

-- spaces are passed over
pub over_spaces : (levels : ℕ) (place : Place) (frames : List Frame) {bytes rest : List ℕ} → IsLater place → Spaces bytes rest
    → answer levels (Between place frames) bytes ≡ answer levels (Between place frames) rest
over_spaces levels place frames later none = refl
over_spaces levels place frames later (space {byte} {bytes} h spaces) =
    ⊎_elim (λ e. led_to levels (Between place frames) (Between place frames) byte bytes kinds.Blank e (stays_blank levels place frames byte later))
    (λ e. led_to levels (Between place frames) (Between place frames) byte bytes kinds.Break e (stays_break levels place frames byte later)) (kind_space byte h)
    ∙ over_spaces levels place frames later spaces

-- a byte that ends a number
abbrev pub IsEnder : Kind → Type 0
IsEnder kinds.Blank = ⊤
IsEnder kinds.Break = ⊤
IsEnder kinds.Comma = ⊤
IsEnder kinds.CloseList = ⊤
IsEnder kinds.CloseObject = ⊤
IsEnder _ = ⊥

-- what may follow a value
abbrev pub MayFollow : List ℕ → Type 0
MayFollow [] = ⊤
MayFollow (byte ∷ bytes) = IsEnder (kind byte)

-- no number goes on with a byte that may follow a value
ender_ends : (part : Part) (k : Kind) → IsEnder k → goes_on part k ≡ None
ender_ends parts.Minus kinds.Blank h = refl
ender_ends parts.Minus kinds.Break h = refl
ender_ends parts.Minus kinds.Comma h = refl
ender_ends parts.Minus kinds.CloseList h = refl
ender_ends parts.Minus kinds.CloseObject h = refl
ender_ends parts.Zero kinds.Blank h = refl
ender_ends parts.Zero kinds.Break h = refl
ender_ends parts.Zero kinds.Comma h = refl
ender_ends parts.Zero kinds.CloseList h = refl
ender_ends parts.Zero kinds.CloseObject h = refl
ender_ends parts.Integer kinds.Blank h = refl
ender_ends parts.Integer kinds.Break h = refl
ender_ends parts.Integer kinds.Comma h = refl
ender_ends parts.Integer kinds.CloseList h = refl
ender_ends parts.Integer kinds.CloseObject h = refl
ender_ends parts.Point kinds.Blank h = refl
ender_ends parts.Point kinds.Break h = refl
ender_ends parts.Point kinds.Comma h = refl
ender_ends parts.Point kinds.CloseList h = refl
ender_ends parts.Point kinds.CloseObject h = refl
ender_ends parts.Fraction kinds.Blank h = refl
ender_ends parts.Fraction kinds.Break h = refl
ender_ends parts.Fraction kinds.Comma h = refl
ender_ends parts.Fraction kinds.CloseList h = refl
ender_ends parts.Fraction kinds.CloseObject h = refl
ender_ends parts.Exponent kinds.Blank h = refl
ender_ends parts.Exponent kinds.Break h = refl
ender_ends parts.Exponent kinds.Comma h = refl
ender_ends parts.Exponent kinds.CloseList h = refl
ender_ends parts.Exponent kinds.CloseObject h = refl
ender_ends parts.Sign kinds.Blank h = refl
ender_ends parts.Sign kinds.Break h = refl
ender_ends parts.Sign kinds.Comma h = refl
ender_ends parts.Sign kinds.CloseList h = refl
ender_ends parts.Sign kinds.CloseObject h = refl
ender_ends parts.Power kinds.Blank h = refl
ender_ends parts.Power kinds.Break h = refl
ender_ends parts.Power kinds.Comma h = refl
ender_ends parts.Power kinds.CloseList h = refl
ender_ends parts.Power kinds.CloseObject h = refl
ender_ends _ _ h = absurd h

-- a step behind a delivered value is a step of the state that it left
delivered_step : (levels : ℕ) (value : Json) (frames : List Frame) (k : Kind) (byte : ℕ) → step_delivered levels (deliver value frames) k byte ≡ step_by levels (deliver value frames) k byte
delivered_step levels value [] k byte = refl
delivered_step levels value (InList items ∷ frames) k byte = refl
delivered_step levels value (InObject members name ∷ frames) k byte = refl

-- and so is the end of the text
delivered_finish : (value : Json) (frames : List Frame) → finish_delivered (deliver value frames) ≡ finish (deliver value frames)
delivered_finish value [] = refl
delivered_finish value (InList items ∷ frames) = refl
delivered_finish value (InObject members name ∷ frames) = refl

-- a number ends before what may follow it
pub number_ends : (levels : ℕ) (part : Part) (token : List ℕ) (frames : List Frame) (rest : List ℕ) → may_end part ≡ true → MayFollow rest
    → answer levels (InNumber part token frames) rest ≡ answer levels (deliver (spelled token) frames) rest
number_ends levels part token frames [] last h = ap (λ b. cond b (finish_delivered (deliver (spelled token) frames)) None) last ∙ delivered_finish (spelled token) frames
number_ends levels part token frames (byte ∷ rest) last h =
    ap (λ o. option_and_then (λ next. answer levels next rest) o)
    (ap (λ o. number_step levels o part token frames (kind byte) byte) (ender_ends part (kind byte) h)
    ∙ ap (λ b. cond b (step_delivered levels (deliver (spelled token) frames) (kind byte) byte) None) last
    ∙ delivered_step levels (spelled token) frames (kind byte) byte)

-- the tail of a number is read
number_tail : (levels : ℕ) {part : Part} (token : List ℕ) (frames : List Frame) {bytes : List ℕ} (rest : List ℕ) → Tail part bytes → MayFollow rest
    → answer levels (InNumber part token frames) (bytes ++ rest) ≡ answer levels (deliver (spelled (token ++ bytes)) frames) rest
number_tail levels token frames rest (ends {part} last) h =
    number_ends levels part token frames rest last h ∙ ap (λ t. answer levels (deliver (spelled t) frames) rest) (sym (append-nil token))
number_tail levels token frames rest (goes {part} {next} {byte} {bytes} e tail) h =
    led_to levels (InNumber part token frames) (InNumber next (token ++ byte ∷ []) frames) byte (bytes ++ rest) (kind byte) refl
    (ap (λ o. number_step levels o part token frames (kind byte) byte) e)
    ∙ number_tail levels (token ++ byte ∷ []) frames rest tail h
    ∙ ap (λ t. answer levels (deliver (spelled t) frames) rest) (append_assoc token (byte ∷ []) bytes)

-- A string. A plain byte is taken.
plain_step : (use' : Use) (token : List ℕ) (high : Option ℕ) (frames : List Frame) (byte : ℕ) (k : Kind) → IsOf byte k → IsPlain byte
    → text_step use' token high frames k byte ≡ Some (InText use' InBytes ((token ++ alone high) ++ byte ∷ []) None frames)
plain_step use' token high frames byte kinds.Quote of h = absurd (h.1 of)
plain_step use' token high frames byte kinds.Backslash of h = absurd (h.2 of)
plain_step use' token high frames byte kinds.Break of h = absurd (omega (arith, of, h.0))
plain_step use' token high frames byte kinds.Control of h = absurd (omega (arith, of.0, h.0))
plain_step use' token high frames byte _ of h = refl

-- the letter of an escape is taken
escape_read : (use' : Use) (token : List ℕ) (high : Option ℕ) (frames : List Frame) (letter byte : ℕ) (test : Bool) → nat_eq letter 117 ≡ test → escaped letter ≡ Some byte
    → cond test (Some (InText use' Hex1 token high frames)) (option_map (λ says. InText use' InBytes ((token ++ alone high) ++ says ∷ []) None frames) (escaped letter))
    ≡ Some (InText use' InBytes ((token ++ alone high) ++ byte ∷ []) None frames)
escape_read use' token high frames letter byte true h e =
    let u : letter ≡ 117 = grind (arith, nat_tests) in
    let no : None ≡ Some byte = sym (ap escaped u) ∙ e in absurd (cc no)
escape_read use' token high frames letter byte false h e = ap (option_map (λ says. InText use' InBytes ((token ++ alone high) ++ says ∷ []) None frames)) e

-- a string is read to its end
text_read : (levels : ℕ) (use' : Use) (token : List ℕ) (high : Option ℕ) (frames : List Frame) {pieces : List Piece} {bytes rest : List ℕ} → Pieces pieces bytes rest
    → answer levels (InText use' InBytes token high frames) bytes ≡ answer levels (close use' (token ++ said_by high pieces) frames) rest
text_read levels use' token high frames (closed {rest}) =
    led_to levels (InText use' InBytes token high frames) (close use' (token ++ alone high) frames) 34 rest kinds.Quote kind_quote refl
text_read levels use' token high frames {rest = rest} (plain {byte} {pieces} {bytes} h p) =
    led_to levels (InText use' InBytes token high frames) (InText use' InBytes ((token ++ alone high) ++ byte ∷ []) None frames) byte bytes (kind byte) refl
    (plain_step use' token high frames byte (kind byte) (kind_is byte) h)
    ∙ text_read levels use' ((token ++ alone high) ++ byte ∷ []) None frames p
    ∙ ap (λ t. answer levels (close use' t frames) rest) (append_assoc (token ++ alone high) (byte ∷ []) (said_by None pieces) ∙ append_assoc token (alone high) (byte ∷ said_by None pieces))
text_read levels use' token high frames {rest = rest} (escape {letter} {byte} {pieces} {bytes} e p) =
    led_to levels (InText use' InBytes token high frames) (InText use' InEscape token high frames) 92 (letter ∷ bytes) kinds.Backslash kind_backslash refl
    ∙ led_to levels (InText use' InEscape token high frames) (InText use' InBytes ((token ++ alone high) ++ byte ∷ []) None frames) letter bytes (kind letter) refl
    (escape_read use' token high frames letter byte (nat_eq letter 117) refl e)
    ∙ text_read levels use' ((token ++ alone high) ++ byte ∷ []) None frames p
    ∙ ap (λ t. answer levels (close use' t frames) rest) (append_assoc (token ++ alone high) (byte ∷ []) (said_by None pieces) ∙ append_assoc token (alone high) (byte ∷ said_by None pieces))
text_read levels use' token high frames {rest = rest} (unit {a} {b} {c} {d} {first} {second} {third} {fourth} {pieces} {bytes} ea eb ec ed p) =
    led_to levels (InText use' InBytes token high frames) (InText use' InEscape token high frames) 92 (117 ∷ first ∷ second ∷ third ∷ fourth ∷ bytes) kinds.Backslash kind_backslash refl
    ∙ led_to levels (InText use' InEscape token high frames) (InText use' Hex1 token high frames) 117 (first ∷ second ∷ third ∷ fourth ∷ bytes) (kind 117) refl refl
    ∙ led_to levels (InText use' Hex1 token high frames) (InText use' (Hex2 a) token high frames) first (second ∷ third ∷ fourth ∷ bytes) (kind first) refl
    (ap (option_map (λ a. InText use' (Hex2 a) token high frames)) ea)
    ∙ led_to levels (InText use' (Hex2 a) token high frames) (InText use' (Hex3 a b) token high frames) second (third ∷ fourth ∷ bytes) (kind second) refl
    (ap (option_map (λ b. InText use' (Hex3 a b) token high frames)) eb)
    ∙ led_to levels (InText use' (Hex3 a b) token high frames) (InText use' (Hex4 a b c) token high frames) third (fourth ∷ bytes) (kind third) refl
    (ap (option_map (λ c. InText use' (Hex4 a b c) token high frames)) ec)
    ∙ led_to levels (InText use' (Hex4 a b c) token high frames) (unit_step use' token high frames (4096 * a + 256 * b + 16 * c + d)) fourth bytes (kind fourth) refl
    (ap (option_map (λ d. unit_step use' token high frames (4096 * a + 256 * b + 16 * c + d))) ed)
    ∙ text_read levels use' (token ++ said_behind high (4096 * a + 256 * b + 16 * c + d)) (waiting_after (4096 * a + 256 * b + 16 * c + d)) frames p
    ∙ ap (λ t. answer levels (close use' t frames) rest)
    (append_assoc token (said_behind high (4096 * a + 256 * b + 16 * c + d)) (said_by (waiting_after (4096 * a + 256 * b + 16 * c + d)) pieces))

-- a string from its opening mark on
quoted_read : (levels : ℕ) (use' : Use) (frames : List Frame) {says bytes rest : List ℕ} → Quoted says bytes rest
    → answer levels (InText use' InBytes [] None frames) bytes ≡ answer levels (close use' says frames) rest
quoted_read levels use' frames {rest = rest} q = text_read levels use' [] None frames q.spelled_so ∙ ap (λ t. answer levels (close use' t frames) rest) (sym q.says_so)

-- A value. What begins one.
abbrev pub Starts : Kind → Type 0
Starts kinds.Quote = ⊤
Starts kinds.OpenList = ⊤
Starts kinds.OpenObject = ⊤
Starts kinds.Minus = ⊤
Starts kinds.Zero = ⊤
Starts kinds.Digit = ⊤
Starts kinds.SmallN = ⊤
Starts kinds.SmallT = ⊤
Starts kinds.SmallF = ⊤
Starts _ = ⊥

-- bytes that begin with one that starts a value
pub record Starter (bytes : List ℕ) : Type 0 where
  pub byte : ℕ
  pub rest : List ℕ
  pub whole : bytes ≡ byte ∷ rest
  pub starts : Starts (kind byte)

-- what begins a number starts a value
number_starts : (k : Kind) (part : Part) → begins_with k ≡ Some part → Starts k
number_starts kinds.Minus part e = tt
number_starts kinds.Zero part e = tt
number_starts kinds.Digit part e = tt
number_starts _ part e = let no : None ≡ Some part = e in absurd (cc no)

-- each spelling of a value begins so
pub starter : {levels : ℕ} {value : Json} {bytes rest : List ℕ} → Value levels value bytes rest → Starter bytes
starter (of_null {levels} {rest}) = record { byte = 110; rest = 117 ∷ 108 ∷ 108 ∷ rest; whole = refl; starts = subst Starts (sym kind_small_n) tt }
starter (of_true {levels} {rest}) = record { byte = 116; rest = 114 ∷ 117 ∷ 101 ∷ rest; whole = refl; starts = subst Starts (sym kind_small_t) tt }
starter (of_false {levels} {rest}) = record { byte = 102; rest = 97 ∷ 108 ∷ 115 ∷ 101 ∷ rest; whole = refl; starts = subst Starts (sym kind_small_f) tt }
starter (of_number {levels} {number} {bytes} {rest} h e) =
    let n = numeral_of number h in
    record { byte = n.byte; rest = n.rest ++ rest; whole = e ∙ ap (λ x. x ++ rest) n.whole; starts = number_starts (kind n.byte) n.part n.begins }
starter (of_string {levels} {says} {bytes} {rest} q) = record { byte = 34; rest = bytes; whole = refl; starts = subst Starts (sym kind_quote) tt }
starter (of_no_items {levels} {bytes} {rest} h) = record { byte = 91; rest = bytes; whole = refl; starts = subst Starts (sym kind_open_list) tt }
starter (of_items {levels} {items} {bytes} {rest} h) = record { byte = 91; rest = bytes; whole = refl; starts = subst Starts (sym kind_open_list) tt }
starter (of_no_members {levels} {bytes} {rest} h) = record { byte = 123; rest = bytes; whole = refl; starts = subst Starts (sym kind_open_object) tt }
starter (of_members {levels} {members} {bytes} {rest} h) = record { byte = 123; rest = bytes; whole = refl; starts = subst Starts (sym kind_open_object) tt }

-- where two states agree on the first byte they agree on all
pub agree : (levels : ℕ) (state other : State) (byte : ℕ) (rest : List ℕ) → step levels state byte ≡ step levels other byte
    → answer levels state (byte ∷ rest) ≡ answer levels other (byte ∷ rest)
agree levels state other byte rest e = ap (λ o. option_and_then (λ next. answer levels next rest) o) e

-- what starts a value begins the first item of an array as any other
first_starts : (levels : ℕ) (frames : List Frame) (byte : ℕ) (k : Kind) → Starts k
    → step_by levels (Between FirstItem frames) k byte ≡ step_by levels (Between machine.Value (InList [] ∷ frames)) k byte
first_starts levels frames byte kinds.Blank h = absurd h
first_starts levels frames byte kinds.Break h = absurd h
first_starts levels frames byte kinds.CloseList h = absurd h
first_starts levels frames byte _ h = refl

-- the first item begins as any value
first_value : (levels : ℕ) (frames : List Frame) {inside : ℕ} {value : Json} {bytes rest : List ℕ} → Value inside value bytes rest
    → answer levels (Between FirstItem frames) bytes ≡ answer levels (Between machine.Value (InList [] ∷ frames)) bytes
first_value levels frames v =
    let s = starter v in
    ap (answer levels (Between FirstItem frames)) s.whole
    ∙ agree levels (Between FirstItem frames) (Between machine.Value (InList [] ∷ frames)) s.byte s.rest (first_starts levels frames s.byte (kind s.byte) s.starts)
    ∙ ap (answer levels (Between machine.Value (InList [] ∷ frames))) (sym s.whole)

-- the first item, behind spaces, begins as any other
first_items : (levels : ℕ) (frames : List Frame) {inside : ℕ} {items : Items} {bytes rest : List ℕ} → ItemsAt inside items bytes rest
    → answer levels (Between FirstItem frames) bytes ≡ answer levels (Between machine.Value (InList [] ∷ frames)) bytes
first_items levels frames (first spaces v m) =
    over_spaces levels FirstItem frames tt spaces ∙ first_value levels frames v ∙ sym (over_spaces levels machine.Value (InList [] ∷ frames) tt spaces)

-- what follows a value
pub spaces_follow : {bytes rest : List ℕ} → Spaces bytes rest → MayFollow rest → MayFollow bytes
spaces_follow none h = h
spaces_follow (space {byte} s spaces) h = ⊎_elim (λ e. subst IsEnder (sym e) tt) (λ e. subst IsEnder (sym e) tt) (kind_space byte s)

-- what stands behind an item may follow a value
more_follows : {levels : ℕ} {items : Items} {bytes rest : List ℕ} → MoreItems levels items bytes rest → MayFollow bytes
more_follows (no_more spaces) = spaces_follow spaces (subst IsEnder (sym kind_close_list) tt)
more_follows (more spaces i) = spaces_follow spaces (subst IsEnder (sym kind_comma) tt)

-- what stands behind a member may follow a value
more_members_follow : {levels : ℕ} {members : Members} {bytes rest : List ℕ} → MoreMembers levels members bytes rest → MayFollow bytes
more_members_follow (no_more_members spaces) = spaces_follow spaces (subst IsEnder (sym kind_close_object) tt)
more_members_follow (more_members spaces i) = spaces_follow spaces (subst IsEnder (sym kind_comma) tt)

-- lists of items and members with one at the end
pub items_onto_more : (items : List Json) (value : Json) (rest : Items) → items_onto (items ++ value ∷ []) rest ≡ items_onto items (item value rest)
items_onto_more [] value rest = refl
items_onto_more (x ∷ items) value rest = ap (item x) (items_onto_more items value rest)

-- the same of members
pub members_onto_more : (members : List Entry) (entry : Entry) (rest : Members) → members_onto (members ++ entry ∷ []) rest ≡ members_onto members (member entry.0 entry.1 rest)
members_onto_more [] entry rest = refl
members_onto_more (x ∷ members) entry rest = ap (member x.0 x.1) (members_onto_more members entry rest)

-- there is room for a level
room : (levels inside : ℕ) (frames : List Frame) → levels ≡ suc inside + length frames → nat_lt (length frames) levels ≡ true
room levels inside frames e = grind (arith, nat_tests)

-- one level further in
deeper : (levels inside count : ℕ) → levels ≡ suc inside + count → levels ≡ inside + suc count
deeper levels inside count e = omega arith

-- where there is room for a level it opens
open_room : (levels inside : ℕ) (place : Place) (frames : List Frame) → levels ≡ suc inside + length frames → machine.open_at levels place frames ≡ Some (Between place frames)
open_room levels inside place frames e = ap (λ b. cond b (Some (Between place frames)) None) (room levels inside frames e)

-- what begins a number opens its token
begin_number : (levels : ℕ) (frames : List Frame) (byte : ℕ) (part : Part) (k : Kind) → begins_with k ≡ Some part → machine.begin levels frames k byte ≡ Some (InNumber part (byte ∷ []) frames)
begin_number levels frames byte part kinds.Minus e = ap (option_map (λ p. InNumber p (byte ∷ []) frames)) e
begin_number levels frames byte part kinds.Zero e = ap (option_map (λ p. InNumber p (byte ∷ []) frames)) e
begin_number levels frames byte part kinds.Digit e = ap (option_map (λ p. InNumber p (byte ∷ []) frames)) e
begin_number levels frames byte part _ e = let no : None ≡ Some part = e in absurd (cc no)

-- the first name begins as any name
first_names : (levels : ℕ) (frames : List Frame) {inside : ℕ} {members : Members} {bytes rest : List ℕ} → MembersAt inside members bytes rest
    → answer levels (Between FirstName frames) bytes ≡ answer levels (Between (Name []) frames) bytes
first_names levels frames (first_member {quoted = quoted} spaces q before_colon behind_colon v m) =
    over_spaces levels FirstName frames tt spaces
    ∙ led_to levels (Between FirstName frames) (InText (AsName []) InBytes [] None frames) 34 quoted kinds.Quote kind_quote refl
    ∙ sym (led_to levels (Between (Name []) frames) (InText (AsName []) InBytes [] None frames) 34 quoted kinds.Quote kind_quote refl)
    ∙ sym (over_spaces levels (Name []) frames tt spaces)

mutual
  -- a value is read
  pub value_read : (levels : ℕ) (frames : List Frame) {inside : ℕ} {value : Json} {bytes rest : List ℕ} → levels ≡ inside + length frames → Value inside value bytes rest → MayFollow rest
      → answer levels (Between machine.Value frames) bytes ≡ answer levels (deliver value frames) rest
  value_read levels frames fits (of_null {levels = inside} {rest}) h =
      led_to levels (Between machine.Value frames) (InWord words.N frames) 110 (117 ∷ 108 ∷ 108 ∷ rest) kinds.SmallN kind_small_n refl
  value_read levels frames fits (of_true {levels = inside} {rest}) h =
      led_to levels (Between machine.Value frames) (InWord words.T frames) 116 (114 ∷ 117 ∷ 101 ∷ rest) kinds.SmallT kind_small_t refl
  value_read levels frames fits (of_false {levels = inside} {rest}) h =
      led_to levels (Between machine.Value frames) (InWord words.F frames) 102 (97 ∷ 108 ∷ 115 ∷ 101 ∷ rest) kinds.SmallF kind_small_f refl
  value_read levels frames fits (of_number {levels = inside} {number} {bytes} {rest} is e) h =
      let n = numeral_of number is in
      ap (answer levels (Between machine.Value frames)) (e ∙ ap (λ x. x ++ rest) n.whole)
      ∙ led_to levels (Between machine.Value frames) (InNumber n.part (n.byte ∷ []) frames) n.byte (n.rest ++ rest) (kind n.byte) refl (begin_number levels frames n.byte n.part (kind n.byte) n.begins)
      ∙ number_tail levels (n.byte ∷ []) frames rest n.tail h
      ∙ ap (λ x. answer levels (deliver (spelled x) frames) rest) (sym n.whole)
  value_read levels frames fits (of_string {levels = inside} {says} {bytes} {rest} q) h =
      led_to levels (Between machine.Value frames) (InText AsValue InBytes [] None frames) 34 bytes kinds.Quote kind_quote refl ∙ quoted_read levels AsValue frames q
  value_read levels frames fits (of_no_items {levels = inside} {bytes} {rest} spaces) h =
      led_to levels (Between machine.Value frames) (Between FirstItem frames) 91 bytes kinds.OpenList kind_open_list (open_room levels inside FirstItem frames fits)
      ∙ over_spaces levels FirstItem frames tt spaces
      ∙ led_to levels (Between FirstItem frames) (deliver (list no_items) frames) 93 rest kinds.CloseList kind_close_list refl
  value_read levels frames fits (of_items {levels = inside} {items} {bytes} {rest} i) h =
      led_to levels (Between machine.Value frames) (Between FirstItem frames) 91 bytes kinds.OpenList kind_open_list (open_room levels inside FirstItem frames fits)
      ∙ first_items levels frames i
      ∙ items_read levels frames [] fits i
  value_read levels frames fits (of_no_members {levels = inside} {bytes} {rest} spaces) h =
      led_to levels (Between machine.Value frames) (Between FirstName frames) 123 bytes kinds.OpenObject kind_open_object (open_room levels inside FirstName frames fits)
      ∙ over_spaces levels FirstName frames tt spaces
      ∙ led_to levels (Between FirstName frames) (deliver (object no_members) frames) 125 rest kinds.CloseObject kind_close_object refl
  value_read levels frames fits (of_members {levels = inside} {members} {bytes} {rest} m) h =
      led_to levels (Between machine.Value frames) (Between FirstName frames) 123 bytes kinds.OpenObject kind_open_object (open_room levels inside FirstName frames fits)
      ∙ first_names levels frames m
      ∙ members_read levels frames [] fits m

  -- items are read, behind these
  pub items_read : (levels : ℕ) (frames : List Frame) (before : List Json) {inside : ℕ} {items : Items} {bytes rest : List ℕ} → levels ≡ suc inside + length frames → ItemsAt inside items bytes rest
      → answer levels (Between machine.Value (InList before ∷ frames)) bytes ≡ answer levels (deliver (list (items_onto before items)) frames) rest
  items_read levels frames before fits (first {levels = inside} {value} {items} {bytes} {at} {behind} {rest} spaces v m) =
      over_spaces levels machine.Value (InList before ∷ frames) tt spaces
      ∙ value_read levels (InList before ∷ frames) (deeper levels inside (length frames) fits) v (more_follows m)
      ∙ more_read levels frames (before ++ value ∷ []) fits m
      ∙ ap (λ x. answer levels (deliver (list x) frames) rest) (items_onto_more before value items)

  -- what stands behind an item is read
  pub more_read : (levels : ℕ) (frames : List Frame) (before : List Json) {inside : ℕ} {items : Items} {bytes rest : List ℕ} → levels ≡ suc inside + length frames → MoreItems inside items bytes rest
      → answer levels (Between (BehindItem before) frames) bytes ≡ answer levels (deliver (list (items_onto before items)) frames) rest
  more_read levels frames before fits (no_more {levels = inside} {bytes} {rest} spaces) =
      over_spaces levels (BehindItem before) frames tt spaces
      ∙ led_to levels (Between (BehindItem before) frames) (deliver (list (items_onto before no_items)) frames) 93 rest kinds.CloseList kind_close_list refl
  more_read levels frames before fits (more {levels = inside} {items} {bytes} {at} {rest} spaces i) =
      over_spaces levels (BehindItem before) frames tt spaces
      ∙ led_to levels (Between (BehindItem before) frames) (Between machine.Value (InList before ∷ frames)) 44 at kinds.Comma kind_comma refl
      ∙ items_read levels frames before fits i

  -- members are read, behind these
  pub members_read : (levels : ℕ) (frames : List Frame) (before : List Entry) {inside : ℕ} {members : Members} {bytes rest : List ℕ} → levels ≡ suc inside + length frames → MembersAt inside members bytes rest
      → answer levels (Between (Name before) frames) bytes ≡ answer levels (deliver (object (members_onto before members)) frames) rest
  members_read levels frames before fits (first_member {levels = inside} {name} {value} {members} {bytes} {quoted} {named} {colon} {at} {behind} {rest} spaces q before_colon behind_colon v m) =
      over_spaces levels (Name before) frames tt spaces
      ∙ led_to levels (Between (Name before) frames) (InText (AsName before) InBytes [] None frames) 34 quoted kinds.Quote kind_quote refl
      ∙ quoted_read levels (AsName before) frames q
      ∙ over_spaces levels (BehindName before name) frames tt before_colon
      ∙ led_to levels (Between (BehindName before name) frames) (Between machine.Value (InObject before name ∷ frames)) 58 colon kinds.Colon kind_colon refl
      ∙ over_spaces levels machine.Value (InObject before name ∷ frames) tt behind_colon
      ∙ value_read levels (InObject before name ∷ frames) (deeper levels inside (length frames) fits) v (more_members_follow m)
      ∙ more_members_read levels frames (before ++ (name, value) ∷ []) fits m
      ∙ ap (λ x. answer levels (deliver (object x) frames) rest) (members_onto_more before (name, value) members)

  -- what stands behind a member is read
  pub more_members_read : (levels : ℕ) (frames : List Frame) (before : List Entry) {inside : ℕ} {members : Members} {bytes rest : List ℕ} → levels ≡ suc inside + length frames → MoreMembers inside members bytes rest
      → answer levels (Between (BehindMember before) frames) bytes ≡ answer levels (deliver (object (members_onto before members)) frames) rest
  more_members_read levels frames before fits (no_more_members {levels = inside} {bytes} {rest} spaces) =
      over_spaces levels (BehindMember before) frames tt spaces
      ∙ led_to levels (Between (BehindMember before) frames) (deliver (object (members_onto before no_members)) frames) 125 rest kinds.CloseObject kind_close_object refl
  more_members_read levels frames before fits (more_members {levels = inside} {members} {bytes} {at} {rest} spaces i) =
      over_spaces levels (BehindMember before) frames tt spaces
      ∙ led_to levels (Between (BehindMember before) frames) (Between (Name before) frames) 44 at kinds.Comma kind_comma refl
      ∙ members_read levels frames before fits i
