-- What a byte of a kind may be, and what no byte from 128 on is.
use Rattle.std.proofs.Common.{◌≡◌, ◌≢◌, ◌<◌, ◌≤◌, ℕ, Bool, true, false, cond, nat_eq, nat_lt, nat_le, ◌&&◌, List, [], ◌∷◌, ◌++◌, Option, Some, None, refl, sym, ap, ◌∙◌, subst, arith}
use Rattle.std.specs.Prelude.{⊤, string_bytes}
use Rattle.std.proofs.lemmas.Bool.Decides.{nat_tests}
use Rattle.json_spelled.specs.Json.{Json, spelled}
use Rattle.json_spelled.specs.Grammar.{escaped, hex_digit, alone}
use Rattle.json_spelled.specs.Kind.{kind}
use Rattle.json_spelled.specs.Machine.{Frame, InList, InObject, Place, Start, Mark1, Mark2, Use, State, Between, InWord, InNumber, InText, InBytes, between, awaited, behind_awaited, goes_on, may_end, deliver, number_step, step_delivered, text_step, step, step_by}
use Rattle.json_spelled.proofs.ByteKinds.{IsOf, kind_is}
use Rattle.json_spelled.specs.Reader.{place_of, around, state_by, state_of}
use Rattle.json_spelled.specs.Feeding.{IsTaken}
use Rattle.json_spelled.specs.declared.kind.Kind.{Kind}
use Rattle.json_spelled.specs.declared.kind.Kind.TheVariants as kinds
use Rattle.json_spelled.specs.declared.lexeme.Word.{Word}
use Rattle.json_spelled.specs.declared.lexeme.Word.TheVariants as words
use Rattle.json_spelled.specs.declared.lexeme.Part.{Part}
use Rattle.json_spelled.specs.declared.lexeme.Part.TheVariants as parts
use Rattle.json_spelled.specs.declared.lexeme.Lexeme.{Lexeme}
use Rattle.json_spelled.specs.declared.lexeme.Lexeme.TheVariants as lexemes
use Rattle.json_spelled.specs.declared.reader.Reader.{Reader}

-- a byte of a kind of its own is ASCII
small_of : (byte : ℕ) (k : Kind) → IsOf byte k → k ≢ kinds.Other → byte < 128
small_of byte kinds.Digit of not = omega (arith, of.1)
small_of byte kinds.Control of not = omega (arith, of.0)
small_of byte kinds.Other of not = absurd (not refl)
small_of byte _ of not = omega (arith, of)

-- what a byte of this kind is
pub byte_of : (byte : ℕ) (k : Kind) → k ≡ kind byte → IsOf byte k
byte_of byte k e = subst (IsOf byte) (sym e) (kind_is byte)

pub kind_small : (byte : ℕ) (k : Kind) → k ≡ kind byte → k ≢ kinds.Other → byte < 128
kind_small byte k e not = small_of byte k (byte_of byte k e) not

-- no number goes on with a byte of no kind
pub none_other : (part : Part) → goes_on part kinds.Other ≡ None
none_other parts.Minus = refl
none_other _ = refl

-- a number goes on with ASCII alone
pub goes_small : (byte : ℕ) (part next : Part) (k : Kind) → k ≡ kind byte → Some next ≡ goes_on part k → byte < 128
goes_small byte part next k e goes = kind_small byte k e (λ is.
    let no : Some next ≡ None = goes ∙ ap (λ (k : Kind). goes_on part k) is ∙ none_other part in absurd (cc no))

-- a string takes a byte of any other kind as it is
taken_step : (levels : ℕ) (use' : Use) (token : List ℕ) (high : Option ℕ) (frames : List Frame) (byte : ℕ) (k : Kind)
    → k ≢ kinds.Quote → k ≢ kinds.Backslash → k ≢ kinds.Break → k ≢ kinds.Control
    → text_step use' token high frames k byte ≡ Some (InText use' InBytes ((token ++ alone high) ++ byte ∷ []) None frames)
taken_step levels use' token high frames byte kinds.Quote a b c d = absurd (a refl)
taken_step levels use' token high frames byte kinds.Backslash a b c d = absurd (b refl)
taken_step levels use' token high frames byte kinds.Break a b c d = absurd (c refl)
taken_step levels use' token high frames byte kinds.Control a b c d = absurd (d refl)
taken_step levels use' token high frames byte _ a b c d = refl

pub taken : (byte : ℕ) (k : Kind) → k ≡ kind byte → k ≢ kinds.Quote → k ≢ kinds.Backslash → k ≢ kinds.Break → k ≢ kinds.Control → IsTaken byte
taken byte k e a b c d = λ levels use' token high frames.
    ap (λ (x : Kind). step_by levels (InText use' InBytes token high frames) x byte) (sym e) ∙ taken_step levels use' token high frames byte k a b c d

-- tests that a byte from 128 on fails
differs : (byte n : ℕ) → 128 ≤ byte → n < 128 → nat_eq byte n ≡ false
differs byte n high low = grind (arith, nat_tests)

not_below : (byte n : ℕ) → 128 ≤ byte → n < 128 → nat_lt byte n ≡ false
not_below byte n high low = grind (arith, nat_tests)

beyond : (byte m n : ℕ) → 128 ≤ byte → n < 128 → (nat_le m byte && nat_le byte n) ≡ false
beyond byte m n high low = grind (arith, nat_tests)

-- a byte from 128 on is of no kind of its own
high_other : (byte : ℕ) → 128 ≤ byte → kind byte ≡ kinds.Other
unfolding kind
high_other byte h = rw (
  not_below byte 32 h (omega arith),
  not_below byte 65 h (omega arith),
  differs byte 91 h (omega arith),
  differs byte 93 h (omega arith),
  differs byte 123 h (omega arith),
  differs byte 125 h (omega arith),
  differs byte 92 h (omega arith),
  differs byte 101 h (omega arith),
  differs byte 69 h (omega arith),
  differs byte 110 h (omega arith),
  differs byte 116 h (omega arith),
  differs byte 102 h (omega arith),
) refl

-- it is no escape
high_escape : (byte : ℕ) → 128 ≤ byte → escaped byte ≡ None
high_escape byte h = rw (
  differs byte 34 h (omega arith),
  differs byte 92 h (omega arith),
  differs byte 47 h (omega arith),
  differs byte 98 h (omega arith),
  differs byte 102 h (omega arith),
  differs byte 110 h (omega arith),
  differs byte 114 h (omega arith),
  differs byte 116 h (omega arith),
) refl

-- nor a hexadecimal digit
high_hex : (byte : ℕ) → 128 ≤ byte → hex_digit byte ≡ None
high_hex byte h = rw (beyond byte 48 57 h (omega arith), beyond byte 65 70 h (omega arith), beyond byte 97 102 h (omega arith)) refl

-- no token is open there, if the byte is taken at all
abbrev pub IsBetween : Option State → Type 0
IsBetween None = ⊤
IsBetween (Some (Between place frames)) = ⊤
IsBetween (Some (InWord word frames)) = ⊥
IsBetween (Some (InNumber part token frames)) = ⊥
IsBetween (Some (InText use' spot token high frames)) = ⊥

either : (b : Bool) (x y : Option State) → IsBetween x → IsBetween y → IsBetween (cond b x y)
either true x y h k = h
either false x y h k = k

-- where no token is open none is after such a byte
high_place : (levels : ℕ) (place : Place) (frames : List Frame) (byte : ℕ) → IsBetween (between levels place frames kinds.Other byte)
high_place levels Start frames byte = either (nat_eq byte 239) (Some (Between Mark1 frames)) None tt tt
high_place levels Mark1 frames byte = either (nat_eq byte 187) (Some (Between Mark2 frames)) None tt tt
high_place levels Mark2 frames byte = either (nat_eq byte 191) _ None tt tt
high_place levels _ frames byte = tt

high_delivered : (levels : ℕ) (value : Json) (frames : List Frame) (byte : ℕ) → IsBetween (step_delivered levels (deliver value frames) kinds.Other byte)
high_delivered levels value [] byte = tt
high_delivered levels value (InList items ∷ frames) byte = tt
high_delivered levels value (InObject members name ∷ frames) byte = tt

awaited_small : (word : Word) → awaited word < 128
awaited_small words.N = omega arith
awaited_small _ = omega arith

-- and none in any token but a string
high_lexeme : (levels : ℕ) (lexeme : Lexeme) (r : Reader) (byte : ℕ) → 128 ≤ byte → (lexeme ≡ lexemes.Text → byte < 128) → IsBetween (step_by levels (state_by lexeme r) kinds.Other byte)
high_lexeme levels lexemes.Between r byte h ascii = high_place levels (place_of r.place) (around r) byte
high_lexeme levels (lexemes.Word word) r byte h ascii =
    subst (λ (b : Bool). IsBetween (cond b (Some (behind_awaited word (around r))) None)) (sym (differs byte (awaited word) h (awaited_small word))) tt
high_lexeme levels (lexemes.Number part) r byte h ascii =
    let stop : IsBetween (number_step levels None part (string_bytes r.token) (around r) kinds.Other byte) =
    either (may_end part) (step_delivered levels (deliver (spelled (string_bytes r.token)) (around r)) kinds.Other byte) None (high_delivered levels (spelled (string_bytes r.token)) (around r) byte) tt in
    rw (none_other part) stop
high_lexeme levels lexemes.Text r byte h ascii = absurd (omega (arith, ascii refl))
high_lexeme levels lexemes.Escape r byte h ascii = rw (differs byte 117 h (omega arith), high_escape byte h) tt
high_lexeme levels lexemes.Hex1 r byte h ascii = rw (high_hex byte h) tt
high_lexeme levels lexemes.Hex2 r byte h ascii = rw (high_hex byte h) tt
high_lexeme levels lexemes.Hex3 r byte h ascii = rw (high_hex byte h) tt
high_lexeme levels lexemes.Hex4 r byte h ascii = rw (high_hex byte h) tt

-- a byte from 128 on opens no string
pub high_no_text : (byte : ℕ) (old new : Reader) → 128 ≤ byte → (old.lexeme ≡ lexemes.Text → byte < 128) → step 64 (state_of old) byte ≡ Some (state_of new) → new.lexeme ≡ lexemes.Text → ⊥
high_no_text byte old new h ascii goes text =
    let stays : IsBetween (step 64 (state_of old) byte) = subst (λ (k : Kind). IsBetween (step_by 64 (state_of old) k byte)) (sym (high_other byte h)) (high_lexeme 64 old.lexeme old byte h ascii) in
    subst IsBetween (goes ∙ ap (λ (lexeme : Lexeme). Some (state_by lexeme new)) text) stays
