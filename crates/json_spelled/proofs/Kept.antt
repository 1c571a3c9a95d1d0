-- What was read stays whole characters from byte to byte.
use Rattle.std.proofs.Common.{◌≡◌, ◌<◌, ◌≤◌, ℕ, ◌+◌, ◌*◌, Bool, true, false, cond, List, [], ◌∷◌, ◌++◌, length, get_or, Option, Some, None, refl, sym, ap, ◌∙◌, subst, arith, append_assoc, append-nil, nat_eq, nat_lt, nat_le, ◌&&◌, length-append}
use Rattle.std.specs.Prelude.{⊤, option_map}
use Rattle.std.specs.Str.{IsUtf8}
use Rattle.std.proofs.lemmas.Str.{IsUtf8-append, IsUtf8-nil, IsUtf8-encode, IsUtf8-take, IsUtf8-drop, IsCharBoundary-before_ascii, IsCharBoundary-from_take}
use Rattle.std.proofs.Math.Utf8.{encode}
use Rattle.std.proofs.Math.Seq.{take-append_seam, drop-append_seam, get_or-append_seam}
use Rattle.std.proofs.lemmas.Bool.Decides.{nat_tests}
use Rattle.json_spelled.specs.Json.{Json, null, truth, spelled, text, list, object, no_items, no_members, Entry, items_onto, members_onto}
use Rattle.json_spelled.specs.Grammar.{escaped, hex_digit, alone, said, said_behind, waiting_after, is_high, is_low, paired}
use Rattle.json_spelled.specs.Kind.{kind}
use Rattle.json_spelled.specs.Machine as machine
use Rattle.json_spelled.specs.Machine.{Frame, InList, InObject, Place, Start, Mark1, Mark2, FirstItem, BehindItem, FirstName, Name, BehindName, BehindMember, Ended, Use, AsValue, AsName, Spot, InBytes, InEscape, Hex1, Hex2, Hex3, Hex4, State, Between, InWord, InNumber, InText, deliver, may_end, goes_on, number_step, step_delivered, between, begin, first_item, behind_item, first_name, name_step, behind_name, behind_member, ended_step, text_step, in_text, unit_step, close, awaited, behind_awaited, step}
use Rattle.json_spelled.specs.Reading.{KeepsText}
use Rattle.json_spelled.specs.declared.kind.Kind.{Kind}
use Rattle.json_spelled.specs.declared.kind.Kind.TheVariants as kinds
use Rattle.json_spelled.specs.declared.lexeme.Part.{Part}
use Rattle.json_spelled.specs.declared.lexeme.Part.TheVariants as parts
use Rattle.json_spelled.specs.declared.lexeme.Word.{Word}
use Rattle.json_spelled.specs.declared.lexeme.Word.TheVariants as words
use Rattle.json_spelled.proofs.ByteKinds.{IsOf, kind_is}
use Rattle.json_spelled.proofs.Completions.{ascii_text}
use Rattle.json_spelled.proofs.Tokens.{said_text, alone_text}

-- what stands before an ASCII byte of a text is a text
pub front_text : (front rest : List ℕ) (byte : ℕ) → byte < 128 → IsUtf8 (front ++ byte ∷ rest) → IsUtf8 front
front_text front rest byte small whole =
    let long : length front < length (front ++ byte ∷ rest) = simp length-append (omega arith) in
    let at : get_or (front ++ byte ∷ rest) (length front) 0 < 128 = rw (get_or-append_seam front byte rest 0) small in
    subst IsUtf8 (take-append_seam front (byte ∷ rest)) (IsUtf8-take (front ++ byte ∷ rest) (length front) whole (IsCharBoundary-before_ascii (front ++ byte ∷ rest) (length front) long at))

-- what stands behind a text within a text is a text
pub back_text : (front rest : List ℕ) → IsUtf8 front → IsUtf8 (front ++ rest) → IsUtf8 rest
back_text front rest h whole =
    let long : length front ≤ length (front ++ rest) = simp length-append (omega arith) in
    subst IsUtf8 (drop-append_seam front rest) (IsUtf8-drop (front ++ rest) (length front) whole
    (IsCharBoundary-from_take (front ++ rest) (length front) whole long (subst IsUtf8 (sym (take-append_seam front rest)) h)))

-- one ASCII byte more
pub one_more : (front : List ℕ) (byte : ℕ) → byte < 128 → IsUtf8 front → IsUtf8 (front ++ byte ∷ [])
one_more front byte small h = IsUtf8-append front (byte ∷ []) h (ascii_text byte small)

-- the state behind an attempt keeps the bytes
abbrev pub KeptBy : List ℕ → Option State → Type 0
KeptBy bytes None = ⊤
KeptBy bytes (Some next) = KeepsText bytes next

-- a delivered value keeps what was read
kept_deliver : (bytes : List ℕ) (value : Json) (frames : List Frame) → IsUtf8 bytes → KeepsText bytes (deliver value frames)
kept_deliver bytes value [] h = h
kept_deliver bytes value (InList items ∷ frames) h = h
kept_deliver bytes value (InObject members name ∷ frames) h = h

-- a level that opens keeps it, an array
kept_first_item : (bytes : List ℕ) (frames : List Frame) (test : Bool) → IsUtf8 bytes → KeptBy bytes (cond test (Some (Between FirstItem frames)) None)
kept_first_item bytes frames true h = h
kept_first_item bytes frames false h = tt

-- and an object
kept_first_name : (bytes : List ℕ) (frames : List Frame) (test : Bool) → IsUtf8 bytes → KeptBy bytes (cond test (Some (Between FirstName frames)) None)
kept_first_name bytes frames true h = h
kept_first_name bytes frames false h = tt

-- a string whose bytes begin
kept_text : (bytes token : List ℕ) (use' : Use) (high : Option ℕ) (frames : List Frame) → IsUtf8 bytes → IsUtf8 token → KeepsText bytes (InText use' InBytes token high frames)
kept_text bytes token use' None frames h k = λ rest whole. IsUtf8-append token rest k (back_text bytes rest h whole)
kept_text bytes token use' (Some high) frames h k = (h, k)

-- the first byte of a value keeps it
kept_begin : (levels : ℕ) (bytes : List ℕ) (frames : List Frame) (byte : ℕ) (k : Kind) → IsOf byte k → IsUtf8 bytes → KeptBy (bytes ++ byte ∷ []) (begin levels frames k byte)
kept_begin levels bytes frames byte kinds.Blank of h = one_more bytes byte (omega arith) h
kept_begin levels bytes frames byte kinds.Break of h = one_more bytes byte (omega arith) h
kept_begin levels bytes frames byte kinds.Quote of h = kept_text (bytes ++ byte ∷ []) [] AsValue None frames (one_more bytes byte (omega arith) h) IsUtf8-nil
kept_begin levels bytes frames byte kinds.OpenList of h = kept_first_item (bytes ++ byte ∷ []) frames (nat_lt (length frames) levels) (one_more bytes byte (omega arith) h)
kept_begin levels bytes frames byte kinds.OpenObject of h = kept_first_name (bytes ++ byte ∷ []) frames (nat_lt (length frames) levels) (one_more bytes byte (omega arith) h)
kept_begin levels bytes frames byte kinds.Minus of h = (one_more bytes byte (omega arith) h, ascii_text byte (omega arith))
kept_begin levels bytes frames byte kinds.Zero of h = (one_more bytes byte (omega arith) h, ascii_text byte (omega arith))
kept_begin levels bytes frames byte kinds.Digit of h = (one_more bytes byte (omega (arith, of.1)) h, ascii_text byte (omega (arith, of.1)))
kept_begin levels bytes frames byte kinds.SmallN of h = one_more bytes byte (omega arith) h
kept_begin levels bytes frames byte kinds.SmallT of h = one_more bytes byte (omega arith) h
kept_begin levels bytes frames byte kinds.SmallF of h = one_more bytes byte (omega arith) h
kept_begin levels bytes frames byte _ of h = tt

-- the first byte within an array keeps it
kept_first : (levels : ℕ) (bytes : List ℕ) (frames : List Frame) (byte : ℕ) (k : Kind) → IsOf byte k → IsUtf8 bytes → KeptBy (bytes ++ byte ∷ []) (first_item levels frames k byte)
kept_first levels bytes frames byte kinds.Blank of h = one_more bytes byte (omega arith) h
kept_first levels bytes frames byte kinds.Break of h = one_more bytes byte (omega arith) h
kept_first levels bytes frames byte kinds.CloseList of h = kept_deliver (bytes ++ byte ∷ []) (list no_items) frames (one_more bytes byte (omega arith) h)
kept_first levels bytes frames byte k of h = kept_begin levels bytes (InList [] ∷ frames) byte k of h

-- a byte behind an item keeps it
kept_behind_item : (bytes : List ℕ) (items : List Json) (frames : List Frame) (byte : ℕ) (k : Kind) → IsOf byte k → IsUtf8 bytes → KeptBy (bytes ++ byte ∷ []) (behind_item items frames k)
kept_behind_item bytes items frames byte kinds.Blank of h = one_more bytes byte (omega arith) h
kept_behind_item bytes items frames byte kinds.Break of h = one_more bytes byte (omega arith) h
kept_behind_item bytes items frames byte kinds.Comma of h = one_more bytes byte (omega arith) h
kept_behind_item bytes items frames byte kinds.CloseList of h = kept_deliver (bytes ++ byte ∷ []) (list (items_onto items no_items)) frames (one_more bytes byte (omega arith) h)
kept_behind_item bytes items frames byte _ of h = tt

-- the first byte within an object keeps it
kept_names : (bytes : List ℕ) (frames : List Frame) (byte : ℕ) (k : Kind) → IsOf byte k → IsUtf8 bytes → KeptBy (bytes ++ byte ∷ []) (first_name frames k)
kept_names bytes frames byte kinds.Blank of h = one_more bytes byte (omega arith) h
kept_names bytes frames byte kinds.Break of h = one_more bytes byte (omega arith) h
kept_names bytes frames byte kinds.Quote of h = kept_text (bytes ++ byte ∷ []) [] (AsName []) None frames (one_more bytes byte (omega arith) h) IsUtf8-nil
kept_names bytes frames byte kinds.CloseObject of h = kept_deliver (bytes ++ byte ∷ []) (object no_members) frames (one_more bytes byte (omega arith) h)
kept_names bytes frames byte _ of h = tt

-- a byte where a name has to come keeps it
kept_name : (bytes : List ℕ) (members : List Entry) (frames : List Frame) (byte : ℕ) (k : Kind) → IsOf byte k → IsUtf8 bytes → KeptBy (bytes ++ byte ∷ []) (name_step members frames k)
kept_name bytes members frames byte kinds.Blank of h = one_more bytes byte (omega arith) h
kept_name bytes members frames byte kinds.Break of h = one_more bytes byte (omega arith) h
kept_name bytes members frames byte kinds.Quote of h = kept_text (bytes ++ byte ∷ []) [] (AsName members) None frames (one_more bytes byte (omega arith) h) IsUtf8-nil
kept_name bytes members frames byte _ of h = tt

-- a byte behind a name keeps it
kept_behind_name : (bytes : List ℕ) (members : List Entry) (name : List ℕ) (frames : List Frame) (byte : ℕ) (k : Kind) → IsOf byte k → IsUtf8 bytes → KeptBy (bytes ++ byte ∷ []) (behind_name members name frames k)
kept_behind_name bytes members name frames byte kinds.Blank of h = one_more bytes byte (omega arith) h
kept_behind_name bytes members name frames byte kinds.Break of h = one_more bytes byte (omega arith) h
kept_behind_name bytes members name frames byte kinds.Colon of h = one_more bytes byte (omega arith) h
kept_behind_name bytes members name frames byte _ of h = tt

-- a byte behind a member keeps it
kept_behind_member : (bytes : List ℕ) (members : List Entry) (frames : List Frame) (byte : ℕ) (k : Kind) → IsOf byte k → IsUtf8 bytes → KeptBy (bytes ++ byte ∷ []) (behind_member members frames k)
kept_behind_member bytes members frames byte kinds.Blank of h = one_more bytes byte (omega arith) h
kept_behind_member bytes members frames byte kinds.Break of h = one_more bytes byte (omega arith) h
kept_behind_member bytes members frames byte kinds.Comma of h = one_more bytes byte (omega arith) h
kept_behind_member bytes members frames byte kinds.CloseObject of h = kept_deliver (bytes ++ byte ∷ []) (object (members_onto members no_members)) frames (one_more bytes byte (omega arith) h)
kept_behind_member bytes members frames byte _ of h = tt

-- a byte behind the whole value keeps it
kept_ended : (bytes : List ℕ) (value : Json) (frames : List Frame) (byte : ℕ) (k : Kind) → IsOf byte k → IsUtf8 bytes → KeptBy (bytes ++ byte ∷ []) (ended_step value frames k)
kept_ended bytes value frames byte kinds.Blank of h = one_more bytes byte (omega arith) h
kept_ended bytes value frames byte kinds.Break of h = one_more bytes byte (omega arith) h
kept_ended bytes value frames byte _ of h = tt

-- the byte order mark
kept_start : (levels : ℕ) (bytes : List ℕ) (frames : List Frame) (byte : ℕ) (k : Kind) (test : Bool) → IsOf byte k → nat_eq byte 239 ≡ test → bytes ≡ [] → KeptBy (bytes ++ byte ∷ []) (cond test (Some (Between Mark1 frames)) (begin levels frames k byte))
kept_start levels bytes frames byte k true of e h = let is : byte ≡ 239 = grind (arith, nat_tests) in ap (λ x. x ++ byte ∷ []) h ∙ ap (λ b. b ∷ []) is
kept_start levels bytes frames byte k false of e h = kept_begin levels bytes frames byte k of (subst IsUtf8 (sym h) IsUtf8-nil)

-- the second byte of the mark
kept_mark1 : (bytes : List ℕ) (frames : List Frame) (byte : ℕ) (test : Bool) → nat_eq byte 187 ≡ test → bytes ≡ 239 ∷ [] → KeptBy (bytes ++ byte ∷ []) (cond test (Some (Between Mark2 frames)) None)
kept_mark1 bytes frames byte true e h = let is : byte ≡ 187 = grind (arith, nat_tests) in ap (λ x. x ++ byte ∷ []) h ∙ ap (λ b. 239 ∷ b ∷ []) is
kept_mark1 bytes frames byte false e h = tt

-- the mark is one character
pub mark_text : IsUtf8 (239 ∷ 187 ∷ 191 ∷ [])
unfolding encode
mark_text = IsUtf8-encode 65279 refl

-- the third byte of the mark
kept_mark2 : (bytes : List ℕ) (frames : List Frame) (byte : ℕ) (test : Bool) → nat_eq byte 191 ≡ test → bytes ≡ 239 ∷ 187 ∷ [] → KeptBy (bytes ++ byte ∷ []) (cond test (Some (Between machine.Value frames)) None)
kept_mark2 bytes frames byte true e h =
    let is : byte ≡ 191 = grind (arith, nat_tests) in
    subst IsUtf8 (sym (ap (λ x. x ++ byte ∷ []) h ∙ ap (λ b. 239 ∷ 187 ∷ b ∷ []) is)) mark_text
kept_mark2 bytes frames byte false e h = tt

-- each byte where no token is open keeps what was read
kept_place : (levels : ℕ) (bytes : List ℕ) (place : Place) (frames : List Frame) (byte : ℕ) (k : Kind) → IsOf byte k → KeepsText bytes (Between place frames) → KeptBy (bytes ++ byte ∷ []) (between levels place frames k byte)
kept_place levels bytes Start frames byte k of h = kept_start levels bytes frames byte k (nat_eq byte 239) of refl h
kept_place levels bytes Mark1 frames byte k of h = kept_mark1 bytes frames byte (nat_eq byte 187) refl h
kept_place levels bytes Mark2 frames byte k of h = kept_mark2 bytes frames byte (nat_eq byte 191) refl h
kept_place levels bytes machine.Value frames byte k of h = kept_begin levels bytes frames byte k of h
kept_place levels bytes FirstItem frames byte k of h = kept_first levels bytes frames byte k of h
kept_place levels bytes (BehindItem items) frames byte k of h = kept_behind_item bytes items frames byte k of h
kept_place levels bytes FirstName frames byte k of h = kept_names bytes frames byte k of h
kept_place levels bytes (Name members) frames byte k of h = kept_name bytes members frames byte k of h
kept_place levels bytes (BehindName members name) frames byte k of h = kept_behind_name bytes members name frames byte k of h
kept_place levels bytes (BehindMember members) frames byte k of h = kept_behind_member bytes members frames byte k of h
kept_place levels bytes (Ended value) frames byte k of h = kept_ended bytes value frames byte k of h

-- words
awaited_small : (word : Word) → awaited word < 128
awaited_small words.N = omega arith
awaited_small words.Nu = omega arith
awaited_small words.Nul = omega arith
awaited_small words.T = omega arith
awaited_small words.Tr = omega arith
awaited_small words.Tru = omega arith
awaited_small words.F = omega arith
awaited_small words.Fa = omega arith
awaited_small words.Fal = omega arith
awaited_small words.Fals = omega arith

-- the state behind a letter of a word keeps it
kept_awaited : (bytes : List ℕ) (word : Word) (frames : List Frame) → IsUtf8 bytes → KeepsText bytes (behind_awaited word frames)
kept_awaited bytes words.Nul frames h = kept_deliver bytes null frames h
kept_awaited bytes words.Tru frames h = kept_deliver bytes (truth true) frames h
kept_awaited bytes words.Fals frames h = kept_deliver bytes (truth false) frames h
kept_awaited bytes _ frames h = h

-- a letter of a word keeps it
kept_word : (bytes : List ℕ) (word : Word) (frames : List Frame) (byte : ℕ) (test : Bool) → nat_eq byte (awaited word) ≡ test → IsUtf8 bytes → KeptBy (bytes ++ byte ∷ []) (cond test (Some (behind_awaited word frames)) None)
kept_word bytes word frames byte true e h =
    let is : byte ≡ awaited word = grind (arith, nat_tests) in
    kept_awaited (bytes ++ byte ∷ []) word frames (one_more bytes byte (omega (arith, awaited_small word)) h)
kept_word bytes word frames byte false e h = tt

-- a number goes on with ASCII bytes
goes_small : (part next : Part) (byte : ℕ) (k : Kind) → IsOf byte k → goes_on part k ≡ Some next → byte < 128
goes_small parts.Minus next byte kinds.Other of e = let no : None ≡ Some next = e in absurd (cc no)
goes_small parts.Zero next byte kinds.Other of e = let no : None ≡ Some next = e in absurd (cc no)
goes_small parts.Integer next byte kinds.Other of e = let no : None ≡ Some next = e in absurd (cc no)
goes_small parts.Point next byte kinds.Other of e = let no : None ≡ Some next = e in absurd (cc no)
goes_small parts.Fraction next byte kinds.Other of e = let no : None ≡ Some next = e in absurd (cc no)
goes_small parts.Exponent next byte kinds.Other of e = let no : None ≡ Some next = e in absurd (cc no)
goes_small parts.Sign next byte kinds.Other of e = let no : None ≡ Some next = e in absurd (cc no)
goes_small parts.Power next byte kinds.Other of e = let no : None ≡ Some next = e in absurd (cc no)
goes_small part next byte kinds.Control of e = omega (arith, of.0)
goes_small part next byte kinds.Digit of e = omega (arith, of.1)
goes_small part next byte _ of e = omega (arith, of)

-- a byte behind a number keeps what was read
kept_delivered : (levels : ℕ) (bytes : List ℕ) (value : Json) (frames : List Frame) (byte : ℕ) (k : Kind) → IsOf byte k → IsUtf8 bytes → KeptBy (bytes ++ byte ∷ []) (step_delivered levels (deliver value frames) k byte)
kept_delivered levels bytes value [] byte k of h = kept_ended bytes value [] byte k of h
kept_delivered levels bytes value (InList items ∷ frames) byte k of h = kept_behind_item bytes (items ++ value ∷ []) frames byte k of h
kept_delivered levels bytes value (InObject members name ∷ frames) byte k of h = kept_behind_member bytes (members ++ (name, value) ∷ []) frames byte k of h

-- a byte that ends a number keeps it
kept_number_end : (levels : ℕ) (bytes : List ℕ) (value : Json) (frames : List Frame) (byte : ℕ) (k : Kind) (test : Bool) → IsOf byte k → IsUtf8 bytes → KeptBy (bytes ++ byte ∷ []) (cond test (step_delivered levels (deliver value frames) k byte) None)
kept_number_end levels bytes value frames byte k true of h = kept_delivered levels bytes value frames byte k of h
kept_number_end levels bytes value frames byte k false of h = tt

-- each byte in a number or behind it keeps it
kept_number : (levels : ℕ) (bytes : List ℕ) (o : Option Part) (part : Part) (token : List ℕ) (frames : List Frame) (byte : ℕ) (k : Kind) → IsOf byte k → goes_on part k ≡ o → IsUtf8 bytes → IsUtf8 token
    → KeptBy (bytes ++ byte ∷ []) (number_step levels o part token frames k byte)
kept_number levels bytes None part token frames byte k of e h t = kept_number_end levels bytes (spelled token) frames byte k (may_end part) of h
kept_number levels bytes (Some next) part token frames byte k of e h t =
    let small = goes_small part next byte k of e in (one_more bytes byte small h, one_more token byte small t)

-- a string: before an ASCII byte both what was read and what it says are whole
pub whole_before : (bytes more token : List ℕ) (use' : Use) (high : Option ℕ) (frames : List Frame) (byte : ℕ) → byte < 128 → IsUtf8 (bytes ++ byte ∷ more) → KeepsText bytes (InText use' InBytes token high frames)
    → IsUtf8 bytes × IsUtf8 token
whole_before bytes more token use' None frames byte small whole h = (front_text bytes more byte small whole, front_text token more byte small (h (byte ∷ more) whole))
whole_before bytes more token use' (Some high) frames byte small whole h = h

-- the end of a string keeps what was read
kept_close : (bytes says : List ℕ) (use' : Use) (frames : List Frame) → IsUtf8 bytes → KeepsText bytes (close use' says frames)
kept_close bytes says AsValue frames h = kept_deliver bytes (text says) frames h
kept_close bytes says (AsName members) frames h = h

-- a plain byte keeps that what the string says goes on as the bytes do
kept_plain : (bytes token : List ℕ) (use' : Use) (high : Option ℕ) (frames : List Frame) (byte : ℕ) → KeepsText bytes (InText use' InBytes token high frames)
    → KeepsText (bytes ++ byte ∷ []) (InText use' InBytes ((token ++ alone high) ++ byte ∷ []) None frames)
kept_plain bytes token use' None frames byte h = λ rest whole.
    subst IsUtf8 (ap (λ x. x ++ byte ∷ rest) (sym (append-nil token)) ∙ sym (append_assoc (token ++ []) (byte ∷ []) rest)) (h (byte ∷ rest) (subst IsUtf8 (append_assoc bytes (byte ∷ []) rest) whole))
kept_plain bytes token use' (Some high) frames byte h = λ rest whole.
    subst IsUtf8 (sym (append_assoc (token ++ said high) (byte ∷ []) rest)) (IsUtf8-append (token ++ said high) (byte ∷ rest) (IsUtf8-append token (said high) h.1 (said_text high))
    (back_text bytes (byte ∷ rest) h.0 (subst IsUtf8 (append_assoc bytes (byte ∷ []) rest) whole)))

-- each byte of a string keeps it
kept_taken : (bytes more token : List ℕ) (use' : Use) (high : Option ℕ) (frames : List Frame) (byte : ℕ) (k : Kind) → IsOf byte k → IsUtf8 (bytes ++ byte ∷ more) → KeepsText bytes (InText use' InBytes token high frames)
    → KeptBy (bytes ++ byte ∷ []) (text_step use' token high frames k byte)
kept_taken bytes more token use' high frames byte kinds.Quote of whole h =
    let before = whole_before bytes more token use' high frames byte (omega arith) whole h in
    kept_close (bytes ++ byte ∷ []) (token ++ alone high) use' frames (one_more bytes byte (omega arith) before.0)
kept_taken bytes more token use' high frames byte kinds.Backslash of whole h =
    let before = whole_before bytes more token use' high frames byte (omega arith) whole h in
    (one_more bytes byte (omega arith) before.0, before.1)
kept_taken bytes more token use' high frames byte kinds.Break of whole h = tt
kept_taken bytes more token use' high frames byte kinds.Control of whole h = tt
kept_taken bytes more token use' high frames byte _ of whole h = kept_plain bytes token use' high frames byte h

-- escapes are ASCII, and so is what letters stand for
abbrev IsSmall : ℕ → Option ℕ → Type 0
IsSmall byte None = ⊤
IsSmall byte (Some says) = (byte < 128) × (says < 128)

-- a choice of an escape and others is ASCII where both are
small_letter : (byte at says : ℕ) (test : Bool) (other : Option ℕ) → nat_eq byte at ≡ test → at < 128 → says < 128 → IsSmall byte other → IsSmall byte (cond test (Some says) other)
small_letter byte at says true other e a s h = let is : byte ≡ at = grind (arith, nat_tests) in (omega arith, s)
small_letter byte at says false other e a s h = h

-- each escape of one letter is ASCII, and so is what it stands for
escaped_small : (byte : ℕ) → IsSmall byte (escaped byte)
escaped_small byte =
    small_letter byte 34 34 (nat_eq byte 34) _ refl (omega arith) (omega arith)
    (small_letter byte 92 92 (nat_eq byte 92) _ refl (omega arith) (omega arith)
    (small_letter byte 47 47 (nat_eq byte 47) _ refl (omega arith) (omega arith)
    (small_letter byte 98 8 (nat_eq byte 98) _ refl (omega arith) (omega arith)
    (small_letter byte 102 12 (nat_eq byte 102) _ refl (omega arith) (omega arith)
    (small_letter byte 110 10 (nat_eq byte 110) _ refl (omega arith) (omega arith)
    (small_letter byte 114 13 (nat_eq byte 114) _ refl (omega arith) (omega arith)
    (small_letter byte 116 9 (nat_eq byte 116) _ refl (omega arith) (omega arith) tt)))))))

-- the letter of an escape keeps what was read
kept_letter : (bytes token : List ℕ) (use' : Use) (high : Option ℕ) (frames : List Frame) (byte : ℕ) (o : Option ℕ) → IsSmall byte o → IsUtf8 bytes → IsUtf8 token
    → KeptBy (bytes ++ byte ∷ []) (option_map (λ says. InText use' InBytes ((token ++ alone high) ++ says ∷ []) None frames) o)
kept_letter bytes token use' high frames byte None small h t = tt
kept_letter bytes token use' high frames byte (Some says) small h t =
    kept_text (bytes ++ byte ∷ []) ((token ++ alone high) ++ says ∷ []) use' None frames (one_more bytes byte small.0 h)
    (one_more (token ++ alone high) says small.1 (IsUtf8-append token (alone high) t (alone_text high)))

-- each byte behind a backslash keeps it
kept_escape : (bytes token : List ℕ) (use' : Use) (high : Option ℕ) (frames : List Frame) (byte : ℕ) (test : Bool) → nat_eq byte 117 ≡ test → IsUtf8 bytes → IsUtf8 token
    → KeptBy (bytes ++ byte ∷ []) (cond test (Some (InText use' Hex1 token high frames)) (option_map (λ says. InText use' InBytes ((token ++ alone high) ++ says ∷ []) None frames) (escaped byte)))
kept_escape bytes token use' high frames byte true e h t = let is : byte ≡ 117 = grind (arith, nat_tests) in (one_more bytes byte (omega arith) h, t)
kept_escape bytes token use' high frames byte false e h t = kept_letter bytes token use' high frames byte (escaped byte) (escaped_small byte) h t

-- hexadecimal digits are ASCII
abbrev IsSmallDigit : ℕ → Option ℕ → Type 0
IsSmallDigit byte None = ⊤
IsSmallDigit byte (Some digit) = byte < 128

-- a choice of digits is ASCII where both are
small_digit : (byte low high digit : ℕ) (test : Bool) (other : Option ℕ) → (nat_le low byte && nat_le byte high) ≡ test → high < 128 → IsSmallDigit byte other → IsSmallDigit byte (cond test (Some digit) other)
small_digit byte low high digit true other e small h = grind (arith, nat_tests)
small_digit byte low high digit false other e small h = h

-- each hexadecimal digit is ASCII
digit_small : (byte : ℕ) → IsSmallDigit byte (hex_digit byte)
digit_small byte =
    small_digit byte 48 57 _ (nat_le 48 byte && nat_le byte 57) _ refl (omega arith)
    (small_digit byte 65 70 _ (nat_le 65 byte && nat_le byte 70) _ refl (omega arith)
    (small_digit byte 97 102 _ (nat_le 97 byte && nat_le byte 102) _ refl (omega arith) tt))

-- what a code unit says is whole characters
either_text : (test : Bool) (a b : List ℕ) → IsUtf8 a → IsUtf8 b → IsUtf8 (cond test a b)
either_text true a b h k = h
either_text false a b h k = k

-- what a code unit says is whole characters
said_behind_text : (high : Option ℕ) (code : ℕ) → IsUtf8 (said_behind high code)
said_behind_text None code = either_text (is_high code) [] (said code) IsUtf8-nil (said_text code)
said_behind_text (Some high) code = either_text (is_high high && is_low code) (said (paired high code)) (said high ++ cond (is_high code) [] (said code)) (said_text (paired high code))
    (IsUtf8-append (said high) (cond (is_high code) [] (said code)) (said_text high) (either_text (is_high code) [] (said code) IsUtf8-nil (said_text code)))

-- a digit of a code unit keeps what was read
kept_hex : (bytes token : List ℕ) (use' : Use) (high : Option ℕ) (frames : List Frame) (byte : ℕ) (o : Option ℕ) (next : ℕ → State) → IsSmallDigit byte o → ((digit : ℕ) → byte < 128 → KeepsText (bytes ++ byte ∷ []) (next digit))
    → KeptBy (bytes ++ byte ∷ []) (option_map next o)
kept_hex bytes token use' high frames byte None next small h = tt
kept_hex bytes token use' high frames byte (Some digit) next small h = h digit small

-- each byte anywhere in a string keeps it
kept_spot : (bytes more token : List ℕ) (use' : Use) (spot : Spot) (high : Option ℕ) (frames : List Frame) (byte : ℕ) (k : Kind) → IsOf byte k → IsUtf8 (bytes ++ byte ∷ more) → KeepsText bytes (InText use' spot token high frames)
    → KeptBy (bytes ++ byte ∷ []) (in_text use' spot token high frames k byte)
kept_spot bytes more token use' InBytes high frames byte k of whole h = kept_taken bytes more token use' high frames byte k of whole h
kept_spot bytes more token use' InEscape high frames byte k of whole h = kept_escape bytes token use' high frames byte (nat_eq byte 117) refl h.0 h.1
kept_spot bytes more token use' Hex1 high frames byte k of whole h = kept_hex bytes token use' high frames byte (hex_digit byte) (λ a. InText use' (Hex2 a) token high frames) (digit_small byte)
    (λ digit small. (one_more bytes byte small h.0, h.1))
kept_spot bytes more token use' (Hex2 a) high frames byte k of whole h = kept_hex bytes token use' high frames byte (hex_digit byte) (λ b. InText use' (Hex3 a b) token high frames) (digit_small byte)
    (λ digit small. (one_more bytes byte small h.0, h.1))
kept_spot bytes more token use' (Hex3 a b) high frames byte k of whole h = kept_hex bytes token use' high frames byte (hex_digit byte) (λ c. InText use' (Hex4 a b c) token high frames) (digit_small byte)
    (λ digit small. (one_more bytes byte small h.0, h.1))
kept_spot bytes more token use' (Hex4 a b c) high frames byte k of whole h =
    kept_hex bytes token use' high frames byte (hex_digit byte) (λ d. unit_step use' token high frames (4096 * a + 256 * b + 16 * c + d)) (digit_small byte)
    (λ digit small. kept_text (bytes ++ byte ∷ []) (token ++ said_behind high (4096 * a + 256 * b + 16 * c + digit)) use' (waiting_after (4096 * a + 256 * b + 16 * c + digit)) frames
    (one_more bytes byte small h.0) (IsUtf8-append token (said_behind high (4096 * a + 256 * b + 16 * c + digit)) h.1 (said_behind_text high (4096 * a + 256 * b + 16 * c + digit))))

-- one byte more is kept
pub kept : (levels : ℕ) (bytes more : List ℕ) (state : State) (byte : ℕ) → IsUtf8 (bytes ++ byte ∷ more) → KeepsText bytes state → KeptBy (bytes ++ byte ∷ []) (step levels state byte)
kept levels bytes more (Between place frames) byte whole h = kept_place levels bytes place frames byte (kind byte) (kind_is byte) h
kept levels bytes more (InWord word frames) byte whole h = kept_word bytes word frames byte (nat_eq byte (awaited word)) refl h
kept levels bytes more (InNumber part token frames) byte whole h = kept_number levels bytes (goes_on part (kind byte)) part token frames byte (kind byte) (kind_is byte) refl h.0 h.1
kept levels bytes more (InText use' spot token high frames) byte whole h = kept_spot bytes more token use' spot high frames byte (kind byte) (kind_is byte) whole h

-- Where no whole character may end within the bytes: only in a byte order mark.
abbrev pub IsCut : List ℕ → State → Type 0
IsCut bytes (Between Mark1 frames) = bytes ≡ 239 ∷ []
IsCut bytes (Between Mark2 frames) = bytes ≡ 239 ∷ 187 ∷ []
IsCut bytes _ = IsUtf8 bytes

-- where no token is open the bytes are whole, or within the mark
cut_place : (bytes : List ℕ) (place : Place) (frames : List Frame) → KeepsText bytes (Between place frames) → IsCut bytes (Between place frames)
cut_place bytes Start frames h = subst IsUtf8 (sym h) IsUtf8-nil
cut_place bytes _ frames h = h

-- a refused byte of a string is ASCII
refused_text : (bytes more token : List ℕ) (use' : Use) (high : Option ℕ) (frames : List Frame) (byte : ℕ) (k : Kind) → IsOf byte k → IsUtf8 (bytes ++ byte ∷ more) → KeepsText bytes (InText use' InBytes token high frames)
    → text_step use' token high frames k byte ≡ None → IsUtf8 bytes
refused_text bytes more token use' high frames byte kinds.Break of whole h e = (whole_before bytes more token use' high frames byte (omega arith) whole h).0
refused_text bytes more token use' high frames byte kinds.Control of whole h e = (whole_before bytes more token use' high frames byte (omega (arith, of.0)) whole h).0
refused_text bytes more token use' high frames byte _ of whole h e = absurd (cc e)

-- before a refused byte of a string they are whole
cut_spot : (bytes more token : List ℕ) (use' : Use) (spot : Spot) (high : Option ℕ) (frames : List Frame) (byte : ℕ) → IsUtf8 (bytes ++ byte ∷ more) → KeepsText bytes (InText use' spot token high frames)
    → in_text use' spot token high frames (kind byte) byte ≡ None → IsUtf8 bytes
cut_spot bytes more token use' InBytes high frames byte whole h e = refused_text bytes more token use' high frames byte (kind byte) (kind_is byte) whole h e
cut_spot bytes more token use' InEscape high frames byte whole h e = h.0
cut_spot bytes more token use' Hex1 high frames byte whole h e = h.0
cut_spot bytes more token use' (Hex2 a) high frames byte whole h e = h.0
cut_spot bytes more token use' (Hex3 a b) high frames byte whole h e = h.0
cut_spot bytes more token use' (Hex4 a b c) high frames byte whole h e = h.0

-- the bytes before a refused byte are whole, or within a byte order mark
pub cut_refused : (levels : ℕ) (bytes more : List ℕ) (state : State) (byte : ℕ) → IsUtf8 (bytes ++ byte ∷ more) → KeepsText bytes state → step levels state byte ≡ None → IsCut bytes state
cut_refused levels bytes more (Between place frames) byte whole h e = cut_place bytes place frames h
cut_refused levels bytes more (InWord word frames) byte whole h e = h
cut_refused levels bytes more (InNumber part token frames) byte whole h e = h.0
cut_refused levels bytes more (InText use' spot token high frames) byte whole h e = cut_spot bytes more token use' spot high frames byte whole h e

-- where the text is at its end they are whole, or within the mark
cut_marked : (bytes : List ℕ) (place : Place) (frames : List Frame) → IsUtf8 bytes → KeepsText bytes (Between place frames) → IsCut bytes (Between place frames)
cut_marked bytes Mark1 frames whole h = h
cut_marked bytes Mark2 frames whole h = h
cut_marked bytes _ frames whole h = whole

-- the same of a whole text
pub cut_whole : (bytes : List ℕ) (state : State) → IsUtf8 bytes → KeepsText bytes state → IsCut bytes state
cut_whole bytes (Between place frames) whole h = cut_marked bytes place frames whole h
cut_whole bytes _ whole h = whole
