-- The numbers of the grammar are those that the machine goes through.
use Rattle.std.proofs.Common.{◌≡◌, ◌≤◌, ℕ, ◌⊎◌, inl, inr, true, List, [], ◌∷◌, ◌++◌, Option, Some, None, refl, sym, ap, ◌∙◌, subst, arith}
use Rattle.std.proofs.Math.Logic.{⊎_elim}
use Rattle.std.specs.Prelude.{⊤}
use Rattle.number_grammar.specs.Number.{IsDigit, AreDigits, IsDigits, IsMinus, IsInt, IsFrac, IsSignedDigits, IsExp, IsNumber}
use Rattle.json_spelled.specs.Kind.{kind}
use Rattle.json_spelled.specs.Machine.{may_end, goes_on}
use Rattle.json_spelled.specs.declared.kind.Kind.{Kind}
use Rattle.json_spelled.specs.declared.kind.Kind.TheVariants as kinds
use Rattle.json_spelled.specs.declared.lexeme.Part.{Part}
use Rattle.json_spelled.specs.declared.lexeme.Part.TheVariants as parts
use Rattle.json_spelled.proofs.ByteKinds.{IsOf, kind_is, kind_digit, kind_zero, kind_point, kind_minus, kind_plus, kind_exponent}

-- the bytes that end a number of which this part was read
pub data Tail : Part → List ℕ → Type 0 where
  ends : {part : Part} → may_end part ≡ true → Tail part []
  goes : {part next : Part} {byte : ℕ} {bytes : List ℕ} → goes_on part (kind byte) ≡ Some next → Tail next bytes → Tail part (byte ∷ bytes)

-- the part that a number begins with
abbrev pub begins_with : Kind → Option Part
begins_with kinds.Minus = Some parts.Minus
begins_with kinds.Zero = Some parts.Zero
begins_with kinds.Digit = Some parts.Integer
begins_with _ = None

-- a number by the machine: its first byte and what ends it
pub record Numeral (bytes : List ℕ) : Type 0 where
  pub byte : ℕ
  pub rest : List ℕ
  pub part : Part
  pub whole : bytes ≡ byte ∷ rest
  pub begins : begins_with (kind byte) ≡ Some part
  pub tail : Tail part rest

-- a digit is zero, or of the kind of the others
digit_kinds : (byte : ℕ) (k : Kind) → IsOf byte k → IsDigit byte → (k ≡ kinds.Zero) ⊎ (k ≡ kinds.Digit)
digit_kinds byte kinds.Zero of h = inl refl
digit_kinds byte kinds.Digit of h = inr refl
digit_kinds byte kinds.Control of h = absurd (omega (arith, of.0))
digit_kinds byte kinds.Other of h = absurd (omega (arith, of.3, of.4))
digit_kinds byte _ of h = absurd (omega (arith, of))

-- a digit goes on with a part where both kinds do
digit_goes : (part next : Part) (byte : ℕ) {bytes : List ℕ} → goes_on part kinds.Zero ≡ Some next → goes_on part kinds.Digit ≡ Some next → IsDigit byte → Tail next bytes → Tail part (byte ∷ bytes)
digit_goes part next byte zero digit h tail = ⊎_elim (λ e. goes (ap (goes_on part) e ∙ zero) tail) (λ e. goes (ap (goes_on part) e ∙ digit) tail) (digit_kinds byte (kind byte) (kind_is byte) h)

-- From the grammar to the machine.
power_tail : (ds : List ℕ) → AreDigits ds → Tail parts.Power ds
power_tail [] h = ends refl
power_tail (d ∷ ds) h = digit_goes parts.Power parts.Power d refl refl h.0 (power_tail ds h.1)

-- behind the sign of an exponent
sign_tail : (ds : List ℕ) → IsDigits ds → Tail parts.Sign ds
sign_tail [] h = absurd h
sign_tail (d ∷ ds) h = digit_goes parts.Sign parts.Power d refl refl h.0 (power_tail ds h.1)

-- behind `e`
signed_tail : (ds : List ℕ) → IsSignedDigits ds → Tail parts.Exponent ds
signed_tail [] h = absurd h
signed_tail (d ∷ ds) (inl (sign, digits)) =
    ⊎_elim (λ e. goes (ap (λ b. goes_on parts.Exponent (kind b)) e ∙ ap (goes_on parts.Exponent) kind_minus) (sign_tail ds digits))
    (λ e. goes (ap (λ b. goes_on parts.Exponent (kind b)) e ∙ ap (goes_on parts.Exponent) kind_plus) (sign_tail ds digits)) sign
signed_tail (d ∷ ds) (inr (digit, digits)) = digit_goes parts.Exponent parts.Power d refl refl digit (power_tail ds digits)

-- behind a number that an exponent may follow
exp_tail : (part : Part) (e : List ℕ) → may_end part ≡ true → goes_on part kinds.Exponent ≡ Some parts.Exponent → IsExp e → Tail part e
exp_tail part [] ended next h = ends ended
exp_tail part (d ∷ ds) ended next h = goes (ap (goes_on part) (kind_exponent d h.0) ∙ next) (signed_tail ds h.1)

-- behind a digit of the fraction
fraction_tail : (ds e : List ℕ) → AreDigits ds → IsExp e → Tail parts.Fraction (ds ++ e)
fraction_tail [] e h k = exp_tail parts.Fraction e refl refl k
fraction_tail (d ∷ ds) e h k = digit_goes parts.Fraction parts.Fraction d refl refl h.0 (fraction_tail ds e h.1 k)

-- behind the point
point_tail : (ds e : List ℕ) → IsDigits ds → IsExp e → Tail parts.Point (ds ++ e)
point_tail [] e h k = absurd h
point_tail (d ∷ ds) e h k = digit_goes parts.Point parts.Fraction d refl refl h.0 (fraction_tail ds e h.1 k)

-- behind the whole part
frac_tail : (part : Part) (f e : List ℕ) → may_end part ≡ true → goes_on part kinds.Exponent ≡ Some parts.Exponent → goes_on part kinds.Point ≡ Some parts.Point
    → IsFrac f → IsExp e → Tail part (f ++ e)
frac_tail part [] e ended next point h k = exp_tail part e ended next k
frac_tail part (d ∷ ds) e ended next point h k = goes (ap (λ b. goes_on part (kind b)) h.0 ∙ ap (goes_on part) kind_point ∙ point) (point_tail ds e h.1 k)

-- behind a digit of the whole part
integer_tail : (ds f e : List ℕ) → AreDigits ds → IsFrac f → IsExp e → Tail parts.Integer (ds ++ (f ++ e))
integer_tail [] f e h k l = frac_tail parts.Integer f e refl refl refl k l
integer_tail (d ∷ ds) f e h k l = digit_goes parts.Integer parts.Integer d refl refl h.0 (integer_tail ds f e h.1 k l)

-- a number without a sign
int_numeral : (i f e : List ℕ) → IsInt i → IsFrac f → IsExp e → Numeral (i ++ (f ++ e))
int_numeral [] f e h k l = absurd h
int_numeral (d ∷ ds) f e (inl (zero, alone)) k l = record {
  byte = d;
  rest = ds ++ (f ++ e);
  part = parts.Zero;
  whole = refl;
  begins = ap (λ b. begins_with (kind b)) zero ∙ ap begins_with kind_zero;
  tail = subst (λ (x : List ℕ). Tail parts.Zero (x ++ (f ++ e))) (sym alone) (frac_tail parts.Zero f e refl refl refl k l);
}
int_numeral (d ∷ ds) f e (inr (low, high, digits)) k l = record {
  byte = d;
  rest = ds ++ (f ++ e);
  part = parts.Integer;
  whole = refl;
  begins = ap begins_with (kind_digit d low high);
  tail = integer_tail ds f e digits k l;
}

-- behind the sign
int_tail : (i f e : List ℕ) → IsInt i → IsFrac f → IsExp e → Tail parts.Minus (i ++ (f ++ e))
int_tail [] f e h k l = absurd h
int_tail (d ∷ ds) f e (inl (zero, alone)) k l = goes (ap (λ b. goes_on parts.Minus (kind b)) zero ∙ ap (goes_on parts.Minus) kind_zero)
    (subst (λ (x : List ℕ). Tail parts.Zero (x ++ (f ++ e))) (sym alone) (frac_tail parts.Zero f e refl refl refl k l))
int_tail (d ∷ ds) f e (inr (low, high, digits)) k l = goes (ap (goes_on parts.Minus) (kind_digit d low high)) (integer_tail ds f e digits k l)

-- a number with a sign or without
minus_numeral : (m i f e : List ℕ) → IsMinus m → IsInt i → IsFrac f → IsExp e → Numeral (m ++ (i ++ (f ++ e)))
minus_numeral [] i f e h j k l = int_numeral i f e j k l
minus_numeral (d ∷ ds) i f e (minus, alone) j k l = record {
  byte = d;
  rest = ds ++ (i ++ (f ++ e));
  part = parts.Minus;
  whole = refl;
  begins = ap (λ b. begins_with (kind b)) minus ∙ ap begins_with kind_minus;
  tail = subst (λ (x : List ℕ). Tail parts.Minus (x ++ (i ++ (f ++ e)))) (sym alone) (int_tail i f e j k l);
}

-- a number of the grammar is one of the machine
pub numeral_of : (bytes : List ℕ) → IsNumber bytes → Numeral bytes
numeral_of bytes (p, made) = subst Numeral (sym made.whole) (minus_numeral p.minus p.int p.frac p.exp made.is_minus made.is_int made.is_frac made.is_exp)

-- From the machine to the grammar. A digit is of one of two kinds.
is_digit : (byte : ℕ) (k : Kind) → IsOf byte k → (k ≡ kinds.Zero) ⊎ (k ≡ kinds.Digit) → IsDigit byte
is_digit byte kinds.Zero of h = (omega (arith, of), omega (arith, of))
is_digit byte kinds.Digit of h = (omega (arith, of.0), omega (arith, of.1))
is_digit byte _ of (inl h) = absurd (cc)
is_digit byte _ of (inr h) = absurd (cc)

-- what part of the number a byte of a kind can lead to
abbrev IsLed : Part → ℕ → Part → Type 0
IsLed parts.Minus byte parts.Zero = byte ≡ 48
IsLed parts.Minus byte parts.Integer = (49 ≤ byte) × (byte ≤ 57)
IsLed parts.Zero byte parts.Point = byte ≡ 46
IsLed parts.Zero byte parts.Exponent = (byte ≡ 101) ⊎ (byte ≡ 69)
IsLed parts.Integer byte parts.Integer = IsDigit byte
IsLed parts.Integer byte parts.Point = byte ≡ 46
IsLed parts.Integer byte parts.Exponent = (byte ≡ 101) ⊎ (byte ≡ 69)
IsLed parts.Point byte parts.Fraction = IsDigit byte
IsLed parts.Fraction byte parts.Fraction = IsDigit byte
IsLed parts.Fraction byte parts.Exponent = (byte ≡ 101) ⊎ (byte ≡ 69)
IsLed parts.Exponent byte parts.Sign = (byte ≡ 45) ⊎ (byte ≡ 43)
IsLed parts.Exponent byte parts.Power = IsDigit byte
IsLed parts.Sign byte parts.Power = IsDigit byte
IsLed parts.Power byte parts.Power = IsDigit byte
IsLed _ byte _ = ⊥

-- the same where the number goes on
abbrev LedBy : Part → ℕ → Option Part → Type 0
LedBy part byte None = ⊤
LedBy part byte (Some next) = IsLed part byte next

-- a byte of a kind leads only so
led_by : (part : Part) (byte : ℕ) (k : Kind) → IsOf byte k → LedBy part byte (goes_on part k)
led_by parts.Minus byte kinds.Zero of = of
led_by parts.Minus byte kinds.Digit of = of
led_by parts.Minus byte _ of = tt
led_by parts.Zero byte kinds.Point of = of
led_by parts.Zero byte kinds.Exponent of = of
led_by parts.Zero byte _ of = tt
led_by parts.Integer byte kinds.Zero of = (omega (arith, of), omega (arith, of))
led_by parts.Integer byte kinds.Digit of = (omega (arith, of.0), of.1)
led_by parts.Integer byte kinds.Point of = of
led_by parts.Integer byte kinds.Exponent of = of
led_by parts.Integer byte _ of = tt
led_by parts.Point byte kinds.Zero of = (omega (arith, of), omega (arith, of))
led_by parts.Point byte kinds.Digit of = (omega (arith, of.0), of.1)
led_by parts.Point byte _ of = tt
led_by parts.Fraction byte kinds.Zero of = (omega (arith, of), omega (arith, of))
led_by parts.Fraction byte kinds.Digit of = (omega (arith, of.0), of.1)
led_by parts.Fraction byte kinds.Exponent of = of
led_by parts.Fraction byte _ of = tt
led_by parts.Exponent byte kinds.Plus of = inr of
led_by parts.Exponent byte kinds.Minus of = inl of
led_by parts.Exponent byte kinds.Zero of = (omega (arith, of), omega (arith, of))
led_by parts.Exponent byte kinds.Digit of = (omega (arith, of.0), of.1)
led_by parts.Exponent byte _ of = tt
led_by parts.Sign byte kinds.Zero of = (omega (arith, of), omega (arith, of))
led_by parts.Sign byte kinds.Digit of = (omega (arith, of.0), of.1)
led_by parts.Sign byte _ of = tt
led_by parts.Power byte kinds.Zero of = (omega (arith, of), omega (arith, of))
led_by parts.Power byte kinds.Digit of = (omega (arith, of.0), of.1)
led_by parts.Power byte _ of = tt

-- what goes on with a number leads so
led : (part next : Part) (byte : ℕ) → goes_on part (kind byte) ≡ Some next → IsLed part byte next
led part next byte e = subst (LedBy part byte) e (led_by part byte (kind byte) (kind_is byte))

-- a fraction and an exponent
record Ending (bytes : List ℕ) : Type 0 where
  frac : List ℕ
  exp : List ℕ
  whole : bytes ≡ frac ++ exp
  is_frac : IsFrac frac
  is_exp : IsExp exp

-- digits and what ends the number behind them
record Digits (Ends : List ℕ → Type 0) (bytes : List ℕ) : Type 0 where
  digits : List ℕ
  behind : List ℕ
  whole : bytes ≡ digits ++ behind
  are : AreDigits digits
  is_end : Ends behind

-- one digit more at the front
abbrev more_digits : (Ends : List ℕ → Type 0) (byte : ℕ) (bytes : List ℕ) → IsDigit byte → Digits Ends bytes → Digits Ends (byte ∷ bytes)
more_digits Ends byte bytes h d = record { digits = byte ∷ d.digits; behind = d.behind; whole = ap (λ x. byte ∷ x) d.whole; are = (h, d.are); is_end = d.is_end }

-- no digit, and what ends the number
no_digits : (Ends : List ℕ → Type 0) (bytes : List ℕ) → Ends bytes → Digits Ends bytes
no_digits Ends bytes h = record { digits = []; behind = bytes; whole = refl; are = tt; is_end = h }

-- what the bytes behind each part are
abbrev IsEnding : Part → List ℕ → Type 0
IsEnding parts.Minus bytes = (i : List ℕ) × (behind : List ℕ) × (bytes ≡ i ++ behind) × IsInt i × Ending behind
IsEnding parts.Zero bytes = Ending bytes
IsEnding parts.Integer bytes = Digits Ending bytes
IsEnding parts.Point bytes = (d : Digits IsExp bytes) × IsDigits d.digits
IsEnding parts.Fraction bytes = Digits IsExp bytes
IsEnding parts.Exponent bytes = IsSignedDigits bytes
IsEnding parts.Sign bytes = IsDigits bytes
IsEnding parts.Power bytes = AreDigits bytes

-- nothing ends a number that may end
nothing_ends : Ending []
nothing_ends = record { frac = []; exp = []; whole = refl; is_frac = tt; is_exp = tt }

-- an exponent ends it
exp_ends : (byte : ℕ) (bytes : List ℕ) → (byte ≡ 101) ⊎ (byte ≡ 69) → IsSignedDigits bytes → Ending (byte ∷ bytes)
exp_ends byte bytes e h = record { frac = []; exp = byte ∷ bytes; whole = refl; is_frac = tt; is_exp = (e, h) }

-- a fraction ends it
point_ends : (byte : ℕ) (bytes : List ℕ) → byte ≡ 46 → IsEnding parts.Point bytes → Ending (byte ∷ bytes)
point_ends byte bytes e (d, h) = record { frac = byte ∷ d.digits; exp = d.behind; whole = ap (λ x. byte ∷ x) d.whole; is_frac = (e, h); is_exp = d.is_end }

-- one byte before
led_ends : (part next : Part) (byte : ℕ) (bytes : List ℕ) → IsLed part byte next → IsEnding next bytes → IsEnding part (byte ∷ bytes)
led_ends parts.Minus parts.Zero byte bytes h e = (byte ∷ [], bytes, refl, inl (h, refl), e)
led_ends parts.Minus parts.Integer byte bytes h e = (byte ∷ e.digits, e.behind, ap (λ x. byte ∷ x) e.whole, inr (h.0, h.1, e.are), e.is_end)
led_ends parts.Zero parts.Point byte bytes h e = point_ends byte bytes h e
led_ends parts.Zero parts.Exponent byte bytes h e = exp_ends byte bytes h e
led_ends parts.Integer parts.Integer byte bytes h e = more_digits Ending byte bytes h e
led_ends parts.Integer parts.Point byte bytes h e = no_digits Ending (byte ∷ bytes) (point_ends byte bytes h e)
led_ends parts.Integer parts.Exponent byte bytes h e = no_digits Ending (byte ∷ bytes) (exp_ends byte bytes h e)
led_ends parts.Point parts.Fraction byte bytes h e = (more_digits IsExp byte bytes h e, (h, e.are))
led_ends parts.Fraction parts.Fraction byte bytes h e = more_digits IsExp byte bytes h e
led_ends parts.Fraction parts.Exponent byte bytes h e = no_digits IsExp (byte ∷ bytes) (h, e)
led_ends parts.Exponent parts.Sign byte bytes h e = inl (h, e)
led_ends parts.Exponent parts.Power byte bytes h e = inr (h, e)
led_ends parts.Sign parts.Power byte bytes h e = (h, e)
led_ends parts.Power parts.Power byte bytes h e = (h, e)
led_ends _ _ byte bytes h e = absurd h

-- where a number may end nothing is wanting
ended : (part : Part) → may_end part ≡ true → IsEnding part []
ended parts.Zero h = nothing_ends
ended parts.Integer h = no_digits Ending [] nothing_ends
ended parts.Fraction h = no_digits IsExp [] tt
ended parts.Power h = tt
ended _ h = absurd (cc)

-- what ends a number by the machine ends it by the grammar
ending : {part : Part} {bytes : List ℕ} → Tail part bytes → IsEnding part bytes
ending (ends {part} h) = ended part h
ending (goes {part} {next} {byte} {bytes} e tail) = led_ends part next byte bytes (led part next byte e) (ending tail)

-- the byte that begins a number with this part
abbrev IsBegun : ℕ → Part → Type 0
IsBegun byte parts.Minus = byte ≡ 45
IsBegun byte parts.Zero = byte ≡ 48
IsBegun byte parts.Integer = (49 ≤ byte) × (byte ≤ 57)
IsBegun byte _ = ⊥

-- the same where a number begins
abbrev BegunBy : ℕ → Option Part → Type 0
BegunBy byte None = ⊤
BegunBy byte (Some part) = IsBegun byte part

-- a byte of a kind begins a number only so
begun_by : (byte : ℕ) (k : Kind) → IsOf byte k → BegunBy byte (begins_with k)
begun_by byte kinds.Minus of = of
begun_by byte kinds.Zero of = of
begun_by byte kinds.Digit of = of
begun_by byte _ of = tt

-- what begins a number of the machine, and its tail, are a number of the grammar
number_by : (byte : ℕ) (bytes : List ℕ) (part : Part) → IsBegun byte part → IsEnding part bytes → IsNumber (byte ∷ bytes)
number_by byte bytes parts.Minus of (i, behind, whole, is_int, end) = (
  record { minus = byte ∷ []; int = i; frac = end.frac; exp = end.exp },
  record { whole = ap (λ x. byte ∷ x) (whole ∙ ap (λ x. i ++ x) end.whole); is_minus = (of, refl); is_int = is_int; is_frac = end.is_frac; is_exp = end.is_exp },
)
number_by byte bytes parts.Zero of end = (
  record { minus = []; int = byte ∷ []; frac = end.frac; exp = end.exp },
  record { whole = ap (λ x. byte ∷ x) end.whole; is_minus = tt; is_int = inl (of, refl); is_frac = end.is_frac; is_exp = end.is_exp },
)
number_by byte bytes parts.Integer of d = (
  record { minus = []; int = byte ∷ d.digits; frac = d.is_end.frac; exp = d.is_end.exp },
  record { whole = ap (λ x. byte ∷ x) (d.whole ∙ ap (λ x. d.digits ++ x) d.is_end.whole); is_minus = tt; is_int = inr (of.0, of.1, d.are); is_frac = d.is_end.is_frac; is_exp = d.is_end.is_exp },
)
number_by byte bytes _ of end = absurd of

-- a number of the machine is one of the grammar
pub number_of : (byte : ℕ) (bytes : List ℕ) (part : Part) → begins_with (kind byte) ≡ Some part → Tail part bytes → IsNumber (byte ∷ bytes)
number_of byte bytes part e tail = number_by byte bytes part (subst (BegunBy byte) e (begun_by byte (kind byte) (kind_is byte))) (ending tail)
