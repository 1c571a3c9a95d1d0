-- Which bytes are of a kind.
use Rattle.std.proofs.Common.{◌≡◌, ◌≢◌, ◌<◌, ◌≤◌, ℕ, ◌⊎◌, inl, inr, Bool, true, false, refl, cond, arith, nat_eq, nat_lt, nat_le, ◌&&◌, ap}
use Rattle.std.proofs.Math.Logic.{⊎_elim}
use Rattle.std.proofs.lemmas.Bool.Decides.{nat_tests}
use Rattle.json_spelled.specs.Grammar.{IsSpace}
use Rattle.json_spelled.specs.Kind.{kind, letter_kind, sign_kind, control_kind}
use Rattle.json_spelled.specs.declared.kind.Kind.{Kind}
use Rattle.json_spelled.specs.declared.kind.Kind.TheVariants.{Blank, Break, Control, Quote, Backslash, Comma, Colon, OpenList, CloseList, OpenObject, CloseObject, Minus, Plus, Point, Zero, Digit, Exponent, SmallN, SmallT, SmallF, Other}
use Rattle.number_grammar.proofs.Tests.{same_is}

-- what a byte of this kind is
abbrev pub IsOf : ℕ → Kind → Type 0
IsOf b Blank = b ≡ 32
IsOf b Break = (b ≡ 9) ⊎ (b ≡ 10) ⊎ (b ≡ 13)
IsOf b Control = (b < 32) × (b ≢ 9) × (b ≢ 10) × (b ≢ 13)
IsOf b Quote = b ≡ 34
IsOf b Backslash = b ≡ 92
IsOf b Comma = b ≡ 44
IsOf b Colon = b ≡ 58
IsOf b OpenList = b ≡ 91
IsOf b CloseList = b ≡ 93
IsOf b OpenObject = b ≡ 123
IsOf b CloseObject = b ≡ 125
IsOf b Minus = b ≡ 45
IsOf b Plus = b ≡ 43
IsOf b Point = b ≡ 46
IsOf b Zero = b ≡ 48
IsOf b Digit = (49 ≤ b) × (b ≤ 57)
IsOf b Exponent = (b ≡ 101) ⊎ (b ≡ 69)
IsOf b SmallN = b ≡ 110
IsOf b SmallT = b ≡ 116
IsOf b SmallF = b ≡ 102
IsOf b Other = (32 < b) × (b ≢ 34) × (b ≢ 92) × (b ≢ 48) × ((b < 49) ⊎ (57 < b)) × (b ≢ 93)

-- a choice is of its kind where both are
chosen : (b : ℕ) (test : Bool) (x y : Kind) → (test ≡ true → IsOf b x) → (test ≡ false → IsOf b y) → IsOf b (cond test x y)
chosen b true x y h k = h refl
chosen b false x y h k = k refl

-- what a failed test of equality says
other : (a b : ℕ) → nat_eq a b ≡ false → a ≢ b
other a b h e = grind (arith, nat_tests)

-- what a test of order says
below : (a b : ℕ) → nat_lt a b ≡ true → a < b
below a b h = grind (arith, nat_tests)

-- what a failed test of order says
from : (a b : ℕ) → nat_lt a b ≡ false → b ≤ a
from a b h = grind (arith, nat_tests)

-- each byte below 32 is of its kind
control_is : (b : ℕ) → b < 32 → IsOf b (control_kind b)
control_is b small =
    chosen b (nat_eq b 9) _ _ (λ h. inl (same_is b 9 h)) (λ n9.
    chosen b (nat_eq b 10) _ _ (λ h. inr (inl (same_is b 10 h))) (λ n10.
    chosen b (nat_eq b 13) _ _ (λ h. inr (inr (same_is b 13 h))) (λ n13. (small, other b 9 n9, other b 10 n10, other b 13 n13))))

-- what the test for a digit other than zero says
digit_test : (b : ℕ) → (nat_le 49 b && nat_le b 57) ≡ true → (49 ≤ b) × (b ≤ 57)
digit_test b h = (grind (arith, nat_tests), grind (arith, nat_tests))

-- what that test says where it fails
no_digit : (b : ℕ) → (nat_le 49 b && nat_le b 57) ≡ false → (b < 49) ⊎ (57 < b)
no_digit b h = grind (arith, nat_tests)

-- each byte from 32 to 64 is of its kind
sign_is : (b : ℕ) → 32 ≤ b → b < 65 → IsOf b (sign_kind b)
sign_is b low high =
    chosen b (nat_eq b 32) _ _ (λ h. same_is b 32 h) (λ n1.
    chosen b (nat_eq b 34) _ _ (λ h. same_is b 34 h) (λ n2.
    chosen b (nat_eq b 44) _ _ (λ h. same_is b 44 h) (λ n3.
    chosen b (nat_eq b 58) _ _ (λ h. same_is b 58 h) (λ n4.
    chosen b (nat_eq b 45) _ _ (λ h. same_is b 45 h) (λ n5.
    chosen b (nat_eq b 43) _ _ (λ h. same_is b 43 h) (λ n6.
    chosen b (nat_eq b 46) _ _ (λ h. same_is b 46 h) (λ n7.
    chosen b (nat_eq b 48) _ _ (λ h. same_is b 48 h) (λ n8.
    chosen b (nat_le 49 b && nat_le b 57) _ _ (λ h. digit_test b h) (λ h.
    let no_space : b ≢ 32 = other b 32 n1 in
    (omega arith, other b 34 n2, omega arith, other b 48 n8, no_digit b h, omega arith))))))))))

-- each byte from 65 on is of its kind
letter_is : (b : ℕ) → 65 ≤ b → IsOf b (letter_kind b)
letter_is b low =
    chosen b (nat_eq b 91) _ _ (λ h. same_is b 91 h) (λ n1.
    chosen b (nat_eq b 93) _ _ (λ h. same_is b 93 h) (λ n2.
    chosen b (nat_eq b 123) _ _ (λ h. same_is b 123 h) (λ n3.
    chosen b (nat_eq b 125) _ _ (λ h. same_is b 125 h) (λ n4.
    chosen b (nat_eq b 92) _ _ (λ h. same_is b 92 h) (λ n5.
    chosen b (nat_eq b 101) _ _ (λ h. inl (same_is b 101 h)) (λ n6.
    chosen b (nat_eq b 69) _ _ (λ h. inr (same_is b 69 h)) (λ n7.
    chosen b (nat_eq b 110) _ _ (λ h. same_is b 110 h) (λ n8.
    chosen b (nat_eq b 116) _ _ (λ h. same_is b 116 h) (λ n9.
    chosen b (nat_eq b 102) _ _ (λ h. same_is b 102 h) (λ n10.
    (omega arith, omega arith, other b 92 n5, omega arith, inr (omega arith), other b 93 n2)))))))))))

-- each byte is of its kind
pub kind_is : (b : ℕ) → IsOf b (kind b)
unfolding kind
kind_is b =
    chosen b (nat_lt b 32) _ _ (λ h. control_is b (below b 32 h)) (λ h.
    chosen b (nat_lt b 65) _ _ (λ k. sign_is b (from b 32 h) (below b 65 k)) (λ k. letter_is b (from b 65 k)))

-- a digit other than zero is of that kind
digit_kind : (b : ℕ) (k : Kind) → IsOf b k → 49 ≤ b → b ≤ 57 → k ≡ Digit
digit_kind b Digit h low high = refl
digit_kind b Blank h low high = absurd (omega (arith, h))
digit_kind b Break h low high = absurd (omega (arith, h))
digit_kind b Control h low high = absurd (omega (arith, h.0))
digit_kind b Other h low high = absurd (omega (arith, h.4))
digit_kind b _ h low high = absurd (omega (arith, h))

-- a digit other than zero is of the kind Digit
pub kind_digit : (b : ℕ) → 49 ≤ b → b ≤ 57 → kind b ≡ Digit
kind_digit b low high = digit_kind b (kind b) (kind_is b) low high

-- a space is of one of two kinds
pub kind_space : (b : ℕ) → IsSpace b → (kind b ≡ Blank) ⊎ (kind b ≡ Break)
unfolding kind
kind_space b h = ⊎_elim (λ e. inl (ap kind e)) (λ k. inr (⊎_elim (λ e. ap kind e) (⊎_elim (λ e. ap kind e) (λ e. ap kind e)) k)) h

-- the kinds of the bytes that the grammar names
pub kind_quote : kind 34 ≡ Quote
unfolding kind
kind_quote = refl

-- `\`
pub kind_backslash : kind 92 ≡ Backslash
unfolding kind
kind_backslash = refl

-- `,`
pub kind_comma : kind 44 ≡ Comma
unfolding kind
kind_comma = refl

-- `:`
pub kind_colon : kind 58 ≡ Colon
unfolding kind
kind_colon = refl

-- `[`
pub kind_open_list : kind 91 ≡ OpenList
unfolding kind
kind_open_list = refl

-- `]`
pub kind_close_list : kind 93 ≡ CloseList
unfolding kind
kind_close_list = refl

-- `{`
pub kind_open_object : kind 123 ≡ OpenObject
unfolding kind
kind_open_object = refl

-- `}`
pub kind_close_object : kind 125 ≡ CloseObject
unfolding kind
kind_close_object = refl

-- `-`
pub kind_minus : kind 45 ≡ Minus
unfolding kind
kind_minus = refl

-- `+`
pub kind_plus : kind 43 ≡ Plus
unfolding kind
kind_plus = refl

-- `.`
pub kind_point : kind 46 ≡ Point
unfolding kind
kind_point = refl

-- `0`
pub kind_zero : kind 48 ≡ Zero
unfolding kind
kind_zero = refl

-- `n`
pub kind_small_n : kind 110 ≡ SmallN
unfolding kind
kind_small_n = refl

-- `t`
pub kind_small_t : kind 116 ≡ SmallT
unfolding kind
kind_small_t = refl

-- `f`
pub kind_small_f : kind 102 ≡ SmallF
unfolding kind
kind_small_f = refl

-- `e` and `E`
pub kind_exponent : (b : ℕ) → (b ≡ 101) ⊎ (b ≡ 69) → kind b ≡ Exponent
unfolding kind
kind_exponent b h = ⊎_elim (λ e. ap kind e) (λ e. ap kind e) h
