-- Literals as the grammar of JSON has them.
use Rattle.std.proofs.Common.{◌≡◌, ◌<◌, ◌≤◌, ℕ, zero, suc, ◌+◌, ◌*◌, Bool, true, false, cond, List, [], ◌∷◌, ◌++◌, length, Option, Some, None, option_map, refl, ap, ◌∙◌, sym, subst, arith, nat_le, nat_eq}
use Rattle.std.specs.Prelude.{option_and_then}
use Rattle.std.proofs.lemmas.Bool.Decides.{nat_tests}
use Rattle.json_spelled.specs.Grammar.{Piece, Byte, Code, IsPlain, Pieces, closed, plain, escape, unit, hex_digit, escaped}
use Rattle.line_tokens.specs.Literal.{before, escape_at, is_plain, piece_at, pieces_within, unit_at}

-- a test that chose
chosen : {X : Type 0} (P : Type 0) (test : Bool) (x y z : X) → cond test x y ≡ z → (test ≡ true → x ≡ z → P) → (test ≡ false → y ≡ z → P) → P
chosen P true x y z e when unless = when refl e
chosen P false x y z e when unless = unless refl e

-- an option that went on
went_on : {X Y : Type 0} (P : Type 0) (o : Option X) (go : X → Option Y) (y : Y) → option_and_then go o ≡ Some y → ((x : X) → o ≡ Some x → go x ≡ Some y → P) → P
went_on P None go y e then = absurd (cc)
went_on P (Some x) go y e then = then x refl e

-- what is found is one
pub found_same : {X : Type 0} (x y : X) → Some x ≡ Some y → x ≡ y
found_same x y e = cc e

-- an option that was mapped
mapped_one : {X Y : Type 0} (P : Type 0) (o : Option X) (f : X → Y) (y : Y) → option_map f o ≡ Some y → ((x : X) → o ≡ Some x → f x ≡ y → P) → P
mapped_one P None f y e then = absurd (cc)
mapped_one P (Some x) f y e then = then x refl (found_same (f x) y e)

-- a piece that stands before others
stood_before : (P : Type 0) (piece : Piece) (found : Option (List Piece × List ℕ)) (pieces : List Piece) (rest : List ℕ) → before piece found ≡ Some (pieces, rest)
    → ((more : List Piece) → found ≡ Some (more, rest) → pieces ≡ piece ∷ more → P) → P
stood_before P piece None pieces rest e then = absurd (cc)
stood_before P piece (Some found) pieces rest e then =
    let same : (piece ∷ found.0, found.1) ≡ (pieces, rest) = found_same (piece ∷ found.0, found.1) (pieces, rest) e in
    let behind : found.1 ≡ rest = ap (λ (f : List Piece × List ℕ). f.1) same in
    then found.0 (ap (λ (x : List ℕ). Some (found.0, x)) behind) (sym (ap (λ (f : List Piece × List ℕ). f.0) same))

-- the closing quotation mark
at_mark : (byte : ℕ) (bytes : List ℕ) (pieces : List Piece) (rest : List ℕ) → byte ≡ 34 → [] ≡ pieces → bytes ≡ rest → Pieces pieces (byte ∷ bytes) rest
at_mark byte bytes pieces rest is none same = rw (is, ← none, ← same) closed

ended : (byte : ℕ) (bytes : List ℕ) (pieces : List Piece) (rest : List ℕ) → byte ≡ 34 → ◌≡◌ {A = Option (List Piece × List ℕ)} (Some ([], bytes)) (Some (pieces, rest)) → Pieces pieces (byte ∷ bytes) rest
ended byte bytes pieces rest is found =
    let same = found_same {X = List Piece × List ℕ} ([], bytes) (pieces, rest) found in
    at_mark byte bytes pieces rest is (ap (λ (f : List Piece × List ℕ). f.0) same) (ap (λ (f : List Piece × List ℕ). f.1) same)

-- what a test of a byte says
is_byte : (a b : ℕ) → nat_eq a b ≡ true → a ≡ b
is_byte a b h = grind (arith, nat_tests)

plain_byte : (byte : ℕ) → is_plain byte ≡ true → IsPlain byte
plain_byte byte h = (grind (arith, nat_tests), λ e. absurd (grind (arith, nat_tests)), λ e. absurd (grind (arith, nat_tests)))

-- a piece stands in front of what is behind it, as the grammar has it, and takes a byte at least
pub record IsFront (bytes : List ℕ) (found : Piece × List ℕ) : Type 0 where
  pub goes : (pieces : List Piece) (rest : List ℕ) → Pieces pieces found.1 rest → Pieces (found.0 ∷ pieces) bytes rest
  pub shorter : length found.1 < length bytes

unit_front : (bytes : List ℕ) (found : Piece × List ℕ) → unit_at bytes ≡ Some found → IsFront (92 ∷ 117 ∷ bytes) found
unit_front [] found e = absurd (cc e)
unit_front (w ∷ []) found e = absurd (cc e)
unit_front (w ∷ x ∷ []) found e = absurd (cc e)
unit_front (w ∷ x ∷ y ∷ []) found e = absurd (cc e)
unit_front (w ∷ x ∷ y ∷ z ∷ bytes) found e =
    let P : Type 0 = IsFront (92 ∷ 117 ∷ w ∷ x ∷ y ∷ z ∷ bytes) found in
    went_on P (hex_digit w) _ _ e (λ a is_a e.
    went_on P (hex_digit x) _ _ e (λ b is_b e.
    went_on P (hex_digit y) _ _ e (λ c is_c e.
    mapped_one P (hex_digit z) _ _ e (λ d is_d same.
    subst (IsFront (92 ∷ 117 ∷ w ∷ x ∷ y ∷ z ∷ bytes)) same (record { goes = λ pieces rest more. unit is_a is_b is_c is_d more; shorter = omega arith })))))

escape_front : (bytes : List ℕ) (found : Piece × List ℕ) → escape_at bytes ≡ Some found → IsFront (92 ∷ bytes) found
escape_front [] found e = absurd (cc e)
escape_front (letter ∷ bytes) found e =
    let P : Type 0 = IsFront (92 ∷ letter ∷ bytes) found in
    chosen P (nat_eq letter 117) _ _ _ e
    (λ is f. subst (λ (x : ℕ). IsFront (92 ∷ x ∷ bytes) found) (sym (is_byte letter 117 is)) (unit_front bytes found f))
    (λ other f. mapped_one P (escaped letter) _ _ f (λ byte is same.
    subst (IsFront (92 ∷ letter ∷ bytes)) same (record { goes = λ pieces rest more. escape is more; shorter = omega arith })))

pub piece_front : (bytes : List ℕ) (found : Piece × List ℕ) → piece_at bytes ≡ Some found → IsFront bytes found
piece_front [] found e = absurd (cc e)
piece_front (byte ∷ bytes) found e =
    let P : Type 0 = IsFront (byte ∷ bytes) found in
    chosen P (nat_eq byte 92) _ _ _ e
    (λ is f. subst (λ (x : ℕ). IsFront (x ∷ bytes) found) (sym (is_byte byte 92 is)) (escape_front bytes found f))
    (λ other f. chosen P (is_plain byte) _ _ _ f
    (λ is f. subst (IsFront (byte ∷ bytes)) (found_same (Byte byte, bytes) found f) (record { goes = λ pieces rest more. plain (plain_byte byte is) more; shorter = omega arith }))
    (λ no f. absurd (cc f)))

-- what is read is spelled so
pub sound : (left : ℕ) (bytes : List ℕ) (pieces : List Piece) (rest : List ℕ) → pieces_within left bytes ≡ Some (pieces, rest) → Pieces pieces bytes rest
sound zero bytes pieces rest e = absurd (cc e)
sound (suc left) [] pieces rest e = absurd (cc e)
sound (suc left) (byte ∷ bytes) pieces rest e =
    let P : Type 0 = Pieces pieces (byte ∷ bytes) rest in
    chosen P (nat_eq byte 34) _ _ _ e (λ is f. ended byte bytes pieces rest (is_byte byte 34 is) f) (λ mark e.
    went_on P (piece_at (byte ∷ bytes)) _ _ e (λ found is e.
    stood_before P found.0 (pieces_within left found.1) pieces rest e (λ more f same.
    rw same ((piece_front (byte ∷ bytes) found is).goes more rest (sound left found.1 more rest f)))))

-- no letter of an escape begins a code unit
no_letter : (letter byte : ℕ) → escaped letter ≡ Some byte → nat_eq letter 117 ≡ false
no_letter letter byte e = by (nat_eq letter 117) refl
  where
    by : (test : Bool) → nat_eq letter 117 ≡ test → nat_eq letter 117 ≡ false
    by true is =
        let same : escaped letter ≡ escaped 117 = ap escaped (is_byte letter 117 is) in
        let none : None ≡ Some byte = sym same ∙ e in
        absurd (cc none)
    by false is = is

-- what is spelled so is read
pub complete : {pieces : List Piece} {bytes rest : List ℕ} → Pieces pieces bytes rest → (left : ℕ) → length bytes ≤ left → pieces_within left bytes ≡ Some (pieces, rest)
complete closed zero few = absurd (omega arith)
complete closed (suc left) few = refl
complete (plain is more) zero few = absurd (omega arith)
complete (plain {byte} {pieces} {bytes} {rest} is more) (suc left) few =
    let a : nat_eq byte 34 ≡ false = grind (arith, nat_tests) in
    let b : nat_eq byte 92 ≡ false = grind (arith, nat_tests) in
    let c : nat_le 32 byte ≡ true = grind (arith, nat_tests) in
    rw (a, b, c) (ap (before (Byte byte)) (complete more left (omega arith)))
complete (escape is more) zero few = absurd (omega arith)
complete (escape {letter} {byte} {pieces} {bytes} {rest} is more) (suc left) few =
    rw (no_letter letter byte is, is) (ap (before (Byte byte)) (complete more left (omega arith)))
complete (unit e f g h more) zero few = absurd (omega arith)
complete (unit {a} {b} {c} {d} {first} {second} {third} {fourth} {pieces} {bytes} {rest} e f g h more) (suc left) few =
    rw (e, f, g, h) (ap (before (Code (4096 * a + 256 * b + 16 * c + d))) (complete more left (omega arith)))

-- the pieces of a string are those of its own bytes
pub cut : {pieces : List Piece} {bytes rest : List ℕ} → Pieces pieces bytes rest → (front : List ℕ) × (bytes ≡ front ++ rest) × Pieces pieces front []
cut (closed {rest}) = (34 ∷ [], refl, closed)
cut (plain {byte} is more) = let c = cut more in (byte ∷ c.0, ap (λ (x : List ℕ). byte ∷ x) c.1, plain is c.2)
cut (escape {letter} is more) = let c = cut more in (92 ∷ letter ∷ c.0, ap (λ (x : List ℕ). 92 ∷ letter ∷ x) c.1, escape is c.2)
cut (unit {first = first} {second = second} {third = third} {fourth = fourth} e f g h more) =
    let c = cut more in
    (92 ∷ 117 ∷ first ∷ second ∷ third ∷ fourth ∷ c.0, ap (λ (x : List ℕ). 92 ∷ 117 ∷ first ∷ second ∷ third ∷ fourth ∷ x) c.1, unit e f g h c.2)
