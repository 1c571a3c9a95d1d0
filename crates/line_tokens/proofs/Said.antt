-- What literals say.
use Rattle.std.proofs.Common.{zero, add-zero, add-one, add_comm, suc, nat_eq, nat_le, true, false, map, get_or, Result, IfOk, IfSome, ok_or, length-drop, length-append, ◌≡◌, ◌<◌, ◌≤◌, ℕ, ◌+◌, List, [], ◌∷◌, ◌++◌, length, take, drop, Option, Some, None, option_map, refl, ap, ◌∙◌, sym, arith, inl, String, string_bytes}
use Rattle.std.specs.List.{prefix_len}
use Rattle.std.specs.Str.{IsUtf8}
use Rattle.std.proofs.lemmas.Bool.Decides.{nat_tests}
use Rattle.std.proofs.lemmas.List.{get_or-drop}
use Rattle.std.proofs.lemmas.List.Sums.{prefix_len_passes}
use Rattle.json_spelled.specs.Grammar.{Piece, Byte, said_by, Quoted, IsText, of_string, none}
use Rattle.std.specs.declared.alloc.Global.{Global}
use Rattle.json_spelled.specs.Json.{Json, text}
use Rattle.json_spelled.specs.View.{json_of, view_step}
use Rattle.json_spelled.specs.declared.tree.Tree.{Tree}
use Rattle.json_spelled.specs.declared.tree.Tree.TheVariants as trees
use Rattle.json_spelled.specs.declared.tree.Tree.TheOpen.{Tree-F}
use Rattle.json_spelled.specs.declared.tree.Tree.TheFolds.{fold-roll-Tree}
use Rattle.line_tokens.specs.Literal.{before, pieces_of, behind, is_plain, literal_of}
use Rattle.line_tokens.proofs.Pieces.{found_same, sound, complete, cut}

-- pieces that say this
quoted_by : (bytes says rest : List ℕ) (found : Option (List Piece × List ℕ)) → found ≡ pieces_of bytes
    → option_map {U = List ℕ × List ℕ} (λ f. (said_by None f.0, f.1)) found ≡ Some (says, rest) → Quoted says bytes rest
quoted_by bytes says rest None is e = absurd (cc)
quoted_by bytes says rest (Some found) is e =
    let same : (said_by None found.0, found.1) ≡ (says, rest) = found_same (said_by None found.0, found.1) (says, rest) e in
    record {
      pieces = found.0;
      spelled_so = sound (length bytes) bytes found.0 rest (sym is ∙ ap (λ (x : List ℕ). Some (found.0, x)) (ap (λ (f : List ℕ × List ℕ). f.1) same));
      says_so = sym (ap (λ (f : List ℕ × List ℕ). f.0) same);
    }

-- what a literal is read to say it says
pub literal_quoted : (bytes says rest : List ℕ) → literal_of bytes ≡ Some (says, rest) → Quoted says bytes rest
unfolding literal_of
literal_quoted bytes says rest e = quoted_by bytes says rest (pieces_of bytes) refl e

-- what a literal says it is read to say
pub quoted_literal : (bytes says rest : List ℕ) → Quoted says bytes rest → literal_of bytes ≡ Some (says, rest)
unfolding literal_of
quoted_literal bytes says rest q = rw (complete q.spelled_so (length bytes) (omega arith)) (ap (λ (x : List ℕ). Some (x, rest)) (sym q.says_so))

-- a literal is a JSON text
pub literal_text : (bytes says : List ℕ) → IsUtf8 (34 ∷ bytes) → literal_of bytes ≡ Some (says, []) → IsText 64 (text says) (34 ∷ bytes)
literal_text bytes says utf8 e = record {
  utf8 = utf8;
  spelled_so = inl record { at = 34 ∷ bytes; behind = []; before = none; value_at = of_string (literal_quoted bytes says [] e); after = none };
}

-- a literal is one by itself
pub literal_alone : (bytes says rest : List ℕ) → literal_of bytes ≡ Some (says, rest) → (front : List ℕ) × (bytes ≡ front ++ rest) × (literal_of front ≡ Some (says, []))
literal_alone bytes says rest e =
    let q = literal_quoted bytes says rest e in
    let c = cut q.spelled_so in
    (c.0, c.1, quoted_literal c.0 says [] record { pieces = q.pieces; spelled_so = c.2; says_so = q.says_so })

-- the value of a string
json_of_text : (says : String Global) → json_of (trees.Text says) ≡ text (string_bytes says)
json_of_text says = ap json_of (sym (trees.rolls-Text says)) ∙ fold-roll-Tree Json view_step (Tree-F.Text says)

-- a tree that is a string
pub text_seen : (tree : Tree) (says : String Global) → tree ≡ trees.Text says → json_of tree ≡ text (string_bytes says)
text_seen tree says is = ap json_of is ∙ json_of_text says

-- a tree that says something else is no string
pub text_only : {E : Type 0} (found : Option (String Global)) (fault : E) (result : Result (String Global) E) (json : Json) (says : List ℕ) → result ≡ ok_or found fault
    → IfSome found (λ s. json ≡ text (string_bytes s)) → json ≡ text says → IfOk result (λ s. string_bytes s ≡ says)
text_only None fault result json says is seen same = rw is tt
text_only (Some s) fault result json says is seen same =
    let bytes : string_bytes s ≡ says = cc (seen, same) in
    rw is bytes

-- bytes that say themselves, up to a quotation mark
plain_pieces : (bytes : List ℕ) (n : ℕ) → n < length bytes → ((k : ℕ) → k < n → is_plain (get_or bytes k 0) ≡ true) → get_or bytes n 0 ≡ 34
    → pieces_of bytes ≡ Some (map Byte (take n bytes), drop (suc n) bytes)
plain_pieces [] n less plain mark = absurd (omega arith)
plain_pieces (byte ∷ bytes) zero less plain mark =
    let is : nat_eq byte 34 ≡ true = grind (arith, nat_tests) in
    rw is refl
plain_pieces (byte ∷ bytes) (suc n) less plain mark =
    let here : is_plain byte ≡ true = plain 0 (omega arith) in
    let a : nat_eq byte 34 ≡ false = grind (arith, nat_tests) in
    let b : nat_eq byte 92 ≡ false = grind (arith, nat_tests) in
    let c : nat_le 32 byte ≡ true = grind (arith, nat_tests) in
    rw (a, b, c) (ap (before (Byte byte)) (plain_pieces bytes n (omega arith) (λ k l. plain (suc k) (omega arith)) mark))

-- they say themselves
said_plain : (bytes : List ℕ) → said_by None (map Byte bytes) ≡ bytes
said_plain [] = refl
said_plain (byte ∷ bytes) = ap (λ (x : List ℕ). byte ∷ x) (said_plain bytes)

-- a literal whose bytes say themselves
pub plain_literal : (bytes : List ℕ) (n : ℕ) → n ≡ prefix_len is_plain bytes → n < length bytes → get_or bytes n 0 ≡ 34 → literal_of bytes ≡ Some (take n bytes, drop (suc n) bytes)
unfolding literal_of
plain_literal bytes n is less mark =
    rw (plain_pieces bytes n less (λ k l. prefix_len_passes is_plain bytes k 0 (omega arith)) mark) (ap (λ (x : List ℕ). Some (x, drop (suc n) bytes)) (said_plain (take n bytes)))

-- what is behind a literal tells what it says
said_so : (found : Option (List Piece × List ℕ)) (rest : List ℕ) → option_map {U = List ℕ} (λ f. f.1) found ≡ Some rest
    → (says : List ℕ) × (option_map {U = List ℕ × List ℕ} (λ f. (said_by None f.0, f.1)) found ≡ Some (says, rest))
said_so None rest e = absurd (cc)
said_so (Some found) rest e = (said_by None found.0, ap (λ (x : List ℕ). Some (said_by None found.0, x)) (found_same found.1 rest e))

pub literal_said : (bytes rest : List ℕ) → behind bytes ≡ Some rest → (says : List ℕ) × (literal_of bytes ≡ Some (says, rest))
unfolding literal_of
literal_said bytes rest e = said_so (pieces_of bytes) rest e

-- no literal stands where nothing is behind it
none_said : (found : Option (List Piece × List ℕ)) → option_map {U = List ℕ} (λ f. f.1) found ≡ None → option_map {U = List ℕ × List ℕ} (λ f. (said_by None f.0, f.1)) found ≡ None
none_said None e = refl
none_said (Some found) e = absurd (cc)

pub no_literal : (bytes : List ℕ) → behind bytes ≡ None → literal_of bytes ≡ None
unfolding literal_of
no_literal bytes e = none_said (pieces_of bytes) e

-- the front of so many bytes
front_is : (bytes front rest : List ℕ) (n : ℕ) → bytes ≡ front ++ rest → rest ≡ drop n bytes → n ≤ length bytes → front ≡ take n bytes
front_is bytes front rest n whole is within =
    let len : length front ≡ n = omega (arith, length-drop n bytes, length-append front rest, ap length whole, ap length is) in
    rw (whole, ← len) (sym (take_all front rest))
  where
    take_all : (front rest : List ℕ) → take (length front) (front ++ rest) ≡ front
    take_all [] rest = refl
    take_all (x ∷ front) rest = ap (λ (xs : List ℕ). x ∷ xs) (take_all front rest)

-- a literal of so many bytes
pub literal_front : (bytes says : List ℕ) (n : ℕ) → n ≤ length bytes → literal_of bytes ≡ Some (says, drop n bytes) → literal_of (take n bytes) ≡ Some (says, [])
literal_front bytes says n within e =
    let alone = literal_alone bytes says (drop n bytes) e in
    let front = front_is bytes alone.0 (drop n bytes) n alone.1 refl within in
    ap literal_of (sym front) ∙ alone.2

-- the same in parts
pub plain_found : (text : List ℕ) (n : ℕ) (says back rest : List ℕ) → n ≡ prefix_len is_plain text → says ≡ take n text → back ≡ drop n text → 0 < length back → get_or back 0 0 ≡ 34
    → rest ≡ drop 1 back → literal_of text ≡ Some (says, rest)
plain_found bytes n says back rest len front after some mark is =
    let within : n < length bytes = omega (arith, length-drop n bytes, ap length after) in
    let at : get_or bytes n 0 ≡ 34 = ap (λ k. get_or bytes k 0) (sym (add-zero n)) ∙ sym (get_or-drop n bytes 0 0) ∙ ap (λ (x : List ℕ). get_or x 0 0) (sym after) ∙ mark in
    let rest_is : rest ≡ drop (suc n) bytes = is ∙ ap (drop 1) after ∙ drop-drop bytes n in
    rw (front, rest_is) (plain_literal bytes n len within at)
  where
    drop-drop : (xs : List ℕ) (n : ℕ) → drop 1 (drop n xs) ≡ drop (suc n) xs
    drop-drop [] zero = refl
    drop-drop [] (suc n) = refl
    drop-drop (x ∷ xs) zero = refl
    drop-drop (x ∷ xs) (suc n) = drop-drop xs n

-- the parts of a literal with escapes
pub decoded_found : (text literal rest given : List ℕ) (len : ℕ) → 0 < length text → get_or text 0 0 ≡ 34 → len ≤ length (drop 1 text)
    → behind (drop 1 text) ≡ Some (drop len (drop 1 text)) → literal ≡ take (1 + len) text → rest ≡ drop (1 + len) text
    → ((bytes says : List ℕ) → literal ≡ 34 ∷ bytes → literal_of bytes ≡ Some (says, []) → given ≡ says)
    → literal_of (drop 1 text) ≡ Some (given, rest)
decoded_found [] literal rest given len some mark within ends front back gives = absurd (omega arith)
decoded_found (byte ∷ content) literal rest given len some mark within ends front back gives =
    let said = literal_said content (drop len content) ends in
    let whole : literal ≡ 34 ∷ take len content = front ∙ rw (add_comm 1 len, add-one len, mark) refl in
    let is : given ≡ said.0 = gives (take len content) said.0 whole (literal_front content said.0 len within said.1) in
    let rest_is : rest ≡ drop len content = back ∙ rw (add_comm 1 len, add-one len) refl in
    rw (is, rest_is) said.1
