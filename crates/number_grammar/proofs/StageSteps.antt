-- What each byte leaves of a number: `next_stage` is the stage that goes on with just the rest.
use Rattle.std.proofs.Common.{◌≡◌, ℕ, ◌<◌, ◌≤◌, ◌≢◌, List, [], ◌∷◌, ◌++◌, true, false, Option, Some, None, refl, ap, ◌∙◌, inl, inr, arith}
use Rattle.std.specs.Prelude.{◌==◌, ◌||◌, ◌⊎◌, ◌↔◌, IfSome, IfNone}
use Rattle.std.proofs.lemmas.Bool.Decides.{nat_tests}
use Rattle.number_grammar.specs.declared.stage.Stage.{Stage}
use Rattle.number_grammar.specs.declared.stage.Stage.TheVariants.{Start, Minus, Zero, Whole, Point, Fraction, Letter, Sign, Exponent}
use Rattle.number_grammar.specs.Number.{IsDigit, AreDigits, IsDigits, IsMinus, IsInt, IsFrac, IsExp, IsSignedDigits, IsNumber}
use Rattle.number_grammar.specs.Stages.{Continues, next_stage, stage_of_digit, stage_of_exp, stage_of_frac}
use Rattle.number_grammar.proofs.Cuts.{digit_tells, is_readable, AreDigits-IsDigits}

-- after the byte a number that had come to the old stage is at the new one, or no number goes on with it
abbrev pub Steps : Stage → ℕ → Option Stage → Type 0
Steps old byte (Some new) = (rest : List ℕ) → (Continues old (byte ∷ rest) → Continues new rest) × (Continues new rest → Continues old (byte ∷ rest))
Steps old byte None = (rest : List ℕ) → Continues old (byte ∷ rest) → ⊥

-- the two forms of an exponent's letter
abbrev IsLetter : ℕ → Type 0
IsLetter byte = (byte ≡ 101) ⊎ (byte ≡ 69)

-- a byte before digits and a tail is the first of the digits, or of the tail
first_of_digits : (byte : ℕ) (rest digits tail : List ℕ) → byte ∷ rest ≡ digits ++ tail → AreDigits digits → (IsDigit byte × ((more : List ℕ) × (rest ≡ more ++ tail) × AreDigits more)) ⊎ (byte ∷ rest ≡ tail)
first_of_digits byte rest [] tail e d = inr e
first_of_digits byte rest (digit ∷ digits) tail e d =
    let same : byte ≡ digit = cc in
    let others : rest ≡ digits ++ tail = cc in
    inl (rw same (d.0), (digits, others, d.1))

-- the first byte of an exponent
first_of_exp : (byte : ℕ) (rest exp : List ℕ) → byte ∷ rest ≡ exp → IsExp exp → IsLetter byte × IsSignedDigits rest
first_of_exp byte rest exp e h = rw (← e) at h

-- the first byte of a fraction and an exponent
first_of_frac : (byte : ℕ) (rest frac exp : List ℕ) → byte ∷ rest ≡ frac ++ exp → IsFrac frac → IsExp exp → ((byte ≡ 46) × Continues Point rest) ⊎ (IsLetter byte × IsSignedDigits rest)
first_of_frac byte rest [] exp e f x = inr (first_of_exp byte rest exp e x)
first_of_frac byte rest (point ∷ digits) exp e f x =
    let same : byte ≡ point = cc in
    let others : rest ≡ digits ++ exp = cc in
    inl (same ∙ f.0, (digits, exp, others, f.1, x))

-- one digit or more don't begin with a byte that is none
no_digits_first : (byte : ℕ) (rest digits tail : List ℕ) → byte ∷ rest ≡ digits ++ tail → IsDigits digits → (byte < 48) ⊎ (57 < byte) → ⊥
no_digits_first byte rest [] tail e d apart = d
no_digits_first byte rest (digit ∷ digits) tail e d apart = let same : byte ≡ digit = cc in grind arith

-- digits of an exponent go on with digits
Steps-exponent : (byte : ℕ) → Steps Exponent byte (next_stage Exponent byte)
Steps-exponent byte = elim (digit_tells byte) [
  | inl digit ↦ rw (digit.0) (λ rest. (λ h. h.1, λ h. (digit.1, h)))
  | inr other ↦ rw (other.0) (λ rest h. grind arith)
]

-- an exponent's sign goes on with a digit
Steps-sign : (byte : ℕ) → Steps Sign byte (next_stage Sign byte)
Steps-sign byte = elim (digit_tells byte) [
  | inl digit ↦ rw (digit.0) (λ rest. (λ h. h.1, λ h. (digit.1, h)))
  | inr other ↦ rw (other.0) (λ rest h. grind arith)
]

-- no letter of an exponent is a digit, nor a sign
letter_is_no_digit : (byte : ℕ) → IsLetter byte → IsDigit byte → ⊥
letter_is_no_digit byte letter digit = grind arith

-- an exponent's letter goes on with a sign or a digit
Steps-letter : (byte : ℕ) → Steps Letter byte (next_stage Letter byte)
Steps-letter byte = elim (is_readable byte 43) [
  | inl plus ↦ rw (plus.0) (λ rest. (λ h. elim h [ inl signed ↦ signed.1 | inr digits ↦ grind arith ], λ h. inl (inr (plus.1), h)))
  | inr not_plus ↦ elim (is_readable byte 45) [
    | inl minus ↦ rw (not_plus.0, minus.0) (λ rest. (λ h. elim h [ inl signed ↦ signed.1 | inr digits ↦ grind arith ], λ h. inl (inl (minus.1), h)))
    | inr not_minus ↦ elim (digit_tells byte) [
      | inl digit ↦ rw (not_plus.0, not_minus.0, digit.0) (λ rest. (λ h. elim h [ inl signed ↦ grind arith | inr digits ↦ digits.1 ], λ h. inr (digit.1, h)))
      | inr other ↦ rw (not_plus.0, not_minus.0, other.0) (λ rest h. grind arith)
    ]
  ]
]

-- what the test of an exponent's letter says
letter_tells : (byte : ℕ) → (((byte == 101 || byte == 69) ≡ true) × IsLetter byte) ⊎ (((byte == 101 || byte == 69) ≡ false) × (byte ≢ 101) × (byte ≢ 69))
letter_tells byte = grind (arith, nat_tests)

-- where a stage goes on with an exponent alone
Steps-by_exp : (stage : Stage) (byte : ℕ) → ((rest : List ℕ) → Continues stage (byte ∷ rest) → IsLetter byte × IsSignedDigits rest) → ((rest : List ℕ) → IsLetter byte → IsSignedDigits rest → Continues stage (byte ∷ rest)) → Steps stage byte (stage_of_exp byte)
Steps-by_exp stage byte to from = elim (letter_tells byte) [
  | inl letter ↦ rw (letter.0) (λ rest. (λ h. (to rest h).1, λ h. from rest (letter.1) h))
  | inr other ↦ rw (other.0) (λ rest h. elim ((to rest h).0) [ inl lower ↦ absurd (other.1 lower) | inr upper ↦ absurd (other.2 upper) ])
]

-- where a stage goes on with a fraction or an exponent
Steps-by_frac : (stage : Stage) (byte : ℕ) → ((rest : List ℕ) → Continues stage (byte ∷ rest) → ((byte ≡ 46) × Continues Point rest) ⊎ (IsLetter byte × IsSignedDigits rest)) →
    ((rest : List ℕ) → byte ≡ 46 → Continues Point rest → Continues stage (byte ∷ rest)) → ((rest : List ℕ) → IsLetter byte → IsSignedDigits rest → Continues stage (byte ∷ rest)) → Steps stage byte (stage_of_frac byte)
Steps-by_frac stage byte to from_point from_exp = elim (is_readable byte 46) [
  | inl point ↦ rw (point.0) (λ rest. (λ h. elim (to rest h) [ inl fraction ↦ fraction.1 | inr exponent ↦ grind arith ], λ h. from_point rest (point.1) h))
  | inr other ↦ rw (other.0) (Steps-by_exp stage byte (λ rest h. elim (to rest h) [ inl fraction ↦ absurd (other.1 (fraction.0)) | inr exponent ↦ exponent ]) from_exp)
]

-- digits behind the point go on with digits or an exponent
Steps-fraction : (byte : ℕ) → Steps Fraction byte (next_stage Fraction byte)
Steps-fraction byte = elim (digit_tells byte) [
  | inl digit ↦ rw (digit.0) (λ rest. (
    λ (digits, exp, whole, are_digits, is_exp). elim (first_of_digits byte rest digits exp whole are_digits) [
      | inl more ↦ (more.1.0, exp, more.1.1, more.1.2, is_exp)
      | inr tail ↦ absurd (letter_is_no_digit byte ((first_of_exp byte rest exp tail is_exp).0) (digit.1))
    ],
    λ (digits, exp, whole, are_digits, is_exp). (byte ∷ digits, exp, ap (λ xs. byte ∷ xs) whole, (digit.1, are_digits), is_exp),
  ))
  | inr other ↦ rw (other.0) (Steps-by_exp Fraction byte
      (λ rest (digits, exp, whole, are_digits, is_exp). elim (first_of_digits byte rest digits exp whole are_digits) [
        | inl more ↦ grind arith
        | inr tail ↦ first_of_exp byte rest exp tail is_exp
      ])
      (λ rest letter signed. ([], byte ∷ rest, refl, tt, (letter, signed))))
]

-- a point goes on with a digit
Steps-point : (byte : ℕ) → Steps Point byte (next_stage Point byte)
Steps-point byte = elim (digit_tells byte) [
  | inl digit ↦ rw (digit.0) (λ rest. (
    λ (digits, exp, whole, are_digits, is_exp). elim (first_of_digits byte rest digits exp whole (AreDigits-IsDigits digits are_digits)) [
      | inl more ↦ (more.1.0, exp, more.1.1, more.1.2, is_exp)
      | inr tail ↦ absurd (letter_is_no_digit byte ((first_of_exp byte rest exp tail is_exp).0) (digit.1))
    ],
    λ (digits, exp, whole, are_digits, is_exp). (byte ∷ digits, exp, ap (λ xs. byte ∷ xs) whole, (digit.1, are_digits), is_exp),
  ))
  | inr other ↦ rw (other.0) (λ rest (digits, exp, whole, are_digits, is_exp). no_digits_first byte rest digits exp whole are_digits other.1)
]

-- the integer 0 goes on with a fraction or an exponent
Steps-zero : (byte : ℕ) → Steps Zero byte (next_stage Zero byte)
Steps-zero byte = Steps-by_frac Zero byte
    (λ rest (frac, exp, whole, is_frac, is_exp). first_of_frac byte rest frac exp whole is_frac is_exp)
    (λ rest point (digits, exp, whole, are_digits, is_exp). (byte ∷ digits, exp, ap (λ xs. byte ∷ xs) whole, (point, are_digits), is_exp))
    (λ rest letter signed. ([], byte ∷ rest, refl, tt, (letter, signed)))

-- digits before the point go on with digits, a fraction or an exponent
Steps-whole : (byte : ℕ) → Steps Whole byte (next_stage Whole byte)
Steps-whole byte = elim (digit_tells byte) [
  | inl digit ↦ rw (digit.0) (λ rest. (
    λ (digits, frac, exp, whole, are_digits, is_frac, is_exp). elim (first_of_digits byte rest digits (frac ++ exp) whole are_digits) [
      | inl more ↦ (more.1.0, frac, exp, more.1.1, more.1.2, is_frac, is_exp)
      | inr tail ↦ elim (first_of_frac byte rest frac exp tail is_frac is_exp) [ inl fraction ↦ grind arith | inr exponent ↦ absurd (letter_is_no_digit byte (exponent.0) (digit.1)) ]
    ],
    λ (digits, frac, exp, whole, are_digits, is_frac, is_exp). (byte ∷ digits, frac, exp, ap (λ xs. byte ∷ xs) whole, (digit.1, are_digits), is_frac, is_exp),
  ))
  | inr other ↦ rw (other.0) (Steps-by_frac Whole byte
      (λ rest (digits, frac, exp, whole, are_digits, is_frac, is_exp). elim (first_of_digits byte rest digits (frac ++ exp) whole are_digits) [
        | inl more ↦ grind arith
        | inr tail ↦ first_of_frac byte rest frac exp tail is_frac is_exp
      ])
      (λ rest point (digits, exp, whole, are_digits, is_exp). ([], byte ∷ digits, exp, ap (λ xs. byte ∷ xs) whole, tt, (point, are_digits), is_exp))
      (λ rest letter signed. ([], [], byte ∷ rest, refl, tt, tt, (letter, signed))))
]

-- the integer's first byte
first_of_int : (byte : ℕ) (rest int tail : List ℕ) → byte ∷ rest ≡ int ++ tail → IsInt int → ((byte ≡ 48) × (rest ≡ tail)) ⊎ ((49 ≤ byte) × (byte ≤ 57) × ((more : List ℕ) × (rest ≡ more ++ tail) × AreDigits more))
first_of_int byte rest [] tail e i = absurd i
first_of_int byte rest (digit ∷ digits) tail e (inl alone) =
    let same : byte ≡ digit = cc in
    let others : rest ≡ digits ++ tail = cc in
    inl (same ∙ alone.0, rw (alone.1) at others)
first_of_int byte rest (digit ∷ digits) tail e (inr more) =
    let same : byte ≡ digit = cc in
    let others : rest ≡ digits ++ tail = cc in
    inr (omega arith, omega arith, (digits, others, more.2))

-- the first byte of what follows the sign
first_of_unsigned : (byte : ℕ) (rest : List ℕ) → Continues Minus (byte ∷ rest) → ((byte ≡ 48) × Continues Zero rest) ⊎ ((49 ≤ byte) × (byte ≤ 57) × Continues Whole rest)
first_of_unsigned byte rest (int, frac, exp, whole, is_int, is_frac, is_exp) = elim (first_of_int byte rest int (frac ++ exp) whole is_int) [
  | inl alone ↦ inl (alone.0, (frac, exp, alone.1, is_frac, is_exp))
  | inr more ↦ inr (more.0, more.1, (more.2.0, frac, exp, more.2.1, more.2.2, is_frac, is_exp))
]

-- 0 begins an unsigned number
unsigned_from_zero : (byte : ℕ) (rest : List ℕ) → byte ≡ 48 → Continues Zero rest → Continues Minus (byte ∷ rest)
unsigned_from_zero byte rest zero_digit (frac, exp, whole, is_frac, is_exp) = (byte ∷ [], frac, exp, ap (λ xs. byte ∷ xs) whole, inl (zero_digit, refl), is_frac, is_exp)

-- any other digit begins an unsigned number too
unsigned_from_digit : (byte : ℕ) (rest : List ℕ) → 49 ≤ byte → byte ≤ 57 → Continues Whole rest → Continues Minus (byte ∷ rest)
unsigned_from_digit byte rest low high (digits, frac, exp, whole, are_digits, is_frac, is_exp) = (byte ∷ digits, frac, exp, ap (λ xs. byte ∷ xs) whole, inr (low, high, are_digits), is_frac, is_exp)

-- where a stage goes on with an integer
Steps-by_int : (stage : Stage) (byte : ℕ) → ((rest : List ℕ) → Continues stage (byte ∷ rest) → Continues Minus (byte ∷ rest)) → ((rest : List ℕ) → Continues Minus (byte ∷ rest) → Continues stage (byte ∷ rest)) → Steps stage byte (stage_of_digit byte)
Steps-by_int stage byte to from = elim (is_readable byte 48) [
  | inl zero_digit ↦ rw (zero_digit.0) (λ rest. (
    λ h. elim (first_of_unsigned byte rest (to rest h)) [ inl alone ↦ alone.1 | inr more ↦ absurd (omega arith) ],
    λ h. from rest (unsigned_from_zero byte rest (zero_digit.1) h),
  ))
  | inr not_zero ↦ elim (digit_tells byte) [
    | inl digit ↦ rw (not_zero.0, digit.0) (λ rest. (
      λ h. elim (first_of_unsigned byte rest (to rest h)) [ inl alone ↦ absurd (not_zero.1 (alone.0)) | inr more ↦ more.2 ],
      λ h. from rest (unsigned_from_digit byte rest (omega arith) (omega arith) h),
    ))
    | inr other ↦ rw (not_zero.0, other.0) (λ rest h. elim (first_of_unsigned byte rest (to rest h)) [ inl alone ↦ absurd (not_zero.1 (alone.0)) | inr more ↦ grind arith ])
  ]
]

-- a sign goes on with an integer
Steps-minus : (byte : ℕ) → Steps Minus byte (next_stage Minus byte)
Steps-minus byte = Steps-by_int Minus byte (λ rest h. h) (λ rest h. h)

-- a number is an unsigned number, or one behind the sign
unsigned_number : (bytes : List ℕ) → Continues Minus bytes → IsNumber bytes
unsigned_number bytes (int, frac, exp, whole, is_int, is_frac, is_exp) = (record { minus = []; int = int; frac = frac; exp = exp }, record { whole = whole; is_minus = tt; is_int = is_int; is_frac = is_frac; is_exp = is_exp })

-- a sign before an unsigned number makes a number
signed_number : (byte : ℕ) (bytes : List ℕ) → byte ≡ 45 → Continues Minus bytes → IsNumber (byte ∷ bytes)
signed_number byte bytes sign (int, frac, exp, whole, is_int, is_frac, is_exp) = (record { minus = byte ∷ []; int = int; frac = frac; exp = exp }, record { whole = ap (λ xs. byte ∷ xs) whole; is_minus = (sign, refl); is_int = is_int; is_frac = is_frac; is_exp = is_exp })

-- the first byte of a number is its sign, or the first of an unsigned number: of its parts
number_cases_of : (byte : ℕ) (rest minus int frac exp : List ℕ) → byte ∷ rest ≡ minus ++ (int ++ (frac ++ exp)) → IsMinus minus → IsInt int → IsFrac frac → IsExp exp → ((byte ≡ 45) × Continues Minus rest) ⊎ Continues Minus (byte ∷ rest)
number_cases_of byte rest [] int frac exp whole m i f e = inr (int, frac, exp, whole, i, f, e)
number_cases_of byte rest (sign ∷ others) int frac exp whole m i f e =
    let same : byte ≡ sign = cc in
    let after : rest ≡ others ++ (int ++ (frac ++ exp)) = cc in
    inl (same ∙ m.0, (int, frac, exp, rw (m.1) at after, i, f, e))

-- the same of the bytes
number_cases : (byte : ℕ) (rest : List ℕ) → IsNumber (byte ∷ rest) → ((byte ≡ 45) × Continues Minus rest) ⊎ Continues Minus (byte ∷ rest)
number_cases byte rest (parts, made) = number_cases_of byte rest parts.minus parts.int parts.frac parts.exp made.whole made.is_minus made.is_int made.is_frac made.is_exp

-- a sign is no first byte of an unsigned number
no_sign_unsigned : (byte : ℕ) (rest : List ℕ) → byte ≡ 45 → Continues Minus (byte ∷ rest) → ⊥
no_sign_unsigned byte rest sign h = elim (first_of_unsigned byte rest h) [ inl alone ↦ omega arith | inr more ↦ omega arith ]

-- a number begins with a sign or an integer
Steps-start : (byte : ℕ) → Steps Start byte (next_stage Start byte)
Steps-start byte = elim (is_readable byte 45) [
  | inl sign ↦ rw (sign.0) (λ rest. (
    λ h. elim (number_cases byte rest h) [ inl signed ↦ signed.1 | inr unsigned ↦ absurd (no_sign_unsigned byte rest (sign.1) unsigned) ],
    λ h. signed_number byte rest (sign.1) h,
  ))
  | inr other ↦ rw (other.0) (Steps-by_int Start byte
      (λ rest h. elim (number_cases byte rest h) [ inl signed ↦ absurd (other.1 (signed.0)) | inr unsigned ↦ unsigned ])
      (λ rest h. unsigned_number (byte ∷ rest) h))
]

-- each stage goes on as the table says
pub Steps-next_stage : (stage : Stage) (byte : ℕ) → Steps stage byte (next_stage stage byte)
Steps-next_stage Start byte = Steps-start byte
Steps-next_stage Minus byte = Steps-minus byte
Steps-next_stage Zero byte = Steps-zero byte
Steps-next_stage Whole byte = Steps-whole byte
Steps-next_stage Point byte = Steps-point byte
Steps-next_stage Fraction byte = Steps-fraction byte
Steps-next_stage Letter byte = Steps-letter byte
Steps-next_stage Sign byte = Steps-sign byte
Steps-next_stage Exponent byte = Steps-exponent byte

-- the same of what a call answers
pub some_steps : (stage : Stage) (byte : ℕ) (answer : Option Stage) → Steps stage byte answer → IfSome answer (λ next. (rest : List ℕ) → Continues stage (byte ∷ rest) ↔ Continues next rest)
some_steps stage byte (Some next) h = h
some_steps stage byte None h = tt

-- and where it answers none
pub none_steps : (stage : Stage) (byte : ℕ) (answer : Option Stage) → Steps stage byte answer → IfNone answer ((rest : List ℕ) → Continues stage (byte ∷ rest) → ⊥)
none_steps stage byte (Some next) h = tt
none_steps stage byte None h = h

-- each stage is made whole by some bytes: a 0, or none
pub some_end : (stage : Stage) → (rest : List ℕ) × Continues stage rest
some_end Start = (48 ∷ [], unsigned_number (48 ∷ []) (48 ∷ [], [], [], refl, inl (refl, refl), tt, tt))
some_end Minus = (48 ∷ [], (48 ∷ [], [], [], refl, inl (refl, refl), tt, tt))
some_end Zero = ([], ([], [], refl, tt, tt))
some_end Whole = ([], ([], [], [], refl, tt, tt, tt))
some_end Point = (48 ∷ [], (48 ∷ [], [], refl, ((omega arith, omega arith), tt), tt))
some_end Fraction = ([], ([], [], refl, tt, tt))
some_end Letter = (48 ∷ [], inr ((omega arith, omega arith), tt))
some_end Sign = (48 ∷ [], ((omega arith, omega arith), tt))
some_end Exponent = ([], tt)
