-- Where a text may be cut.
use Rattle.std.proofs.Common.{◌≡◌, ◌<◌, ◌≤◌, ℕ, zero, suc, true, false, List, length, get_or, arith, add-one, ◌+◌, ◌-◌, drop, ap, sym, ◌∙◌, add_comm}
use Rattle.std.specs.List.{prefix_len}
use Rattle.std.specs.Str.{IsUtf8, IsCharBoundary}
use Rattle.std.proofs.lemmas.Bool.Decides.{nat_tests}
use Rattle.std.proofs.lemmas.Grind.{get_or_after_one}
use Rattle.std.proofs.lemmas.List.Sums.{prefix_len-le-length, prefix_len_passes, prefix_len_stops}
use Rattle.std.proofs.lemmas.Str.{IsCharBoundary-start, IsCharBoundary-after_ascii}
use Rattle.line_tokens.specs.Literal.{is_plain}
use Rattle.line_tokens.specs.Token.{is_blank, is_bare}

-- a text may be cut behind ASCII
behind_ascii : (text : List ℕ) (n : ℕ) → IsUtf8 text → n ≤ length text → ((k : ℕ) → k < n → get_or text k 0 < 128) → IsCharBoundary text n
behind_ascii text zero utf8 within small = IsCharBoundary-start text utf8
behind_ascii text (suc n) utf8 within small = rw (← add-one n) (IsCharBoundary-after_ascii text n utf8 (omega arith) (small n (omega arith)))

-- and before ASCII or at its end
before_ascii : (text : List ℕ) (n : ℕ) → n ≤ length text → (n < length text → get_or text n 0 < 128) → IsCharBoundary text n
before_ascii text n within small = (within, λ less. absurd_from (small less))
  where
    absurd_from : get_or text n 0 < 128 → 128 ≤ get_or text n 0 → 192 ≤ get_or text n 0
    absurd_from a b = absurd (omega arith)

blank_small : (byte : ℕ) → is_blank byte ≡ true → byte < 128
blank_small byte h = grind (arith, nat_tests)

stop_small : (byte : ℕ) → is_bare byte ≡ false → byte < 128
stop_small byte h = grind (arith, nat_tests)

special_small : (byte : ℕ) → is_plain byte ≡ false → byte < 128
special_small byte h = grind (arith, nat_tests)

-- behind its first blanks
pub blank_cut : (text : List ℕ) → IsUtf8 text → IsCharBoundary text (prefix_len is_blank text)
blank_cut text utf8 =
    behind_ascii text (prefix_len is_blank text) utf8 (prefix_len-le-length is_blank text) (λ k less. blank_small (get_or text k 0) (prefix_len_passes is_blank text k 0 less))

-- behind its first run
pub bare_cut : (text : List ℕ) → IsCharBoundary text (prefix_len is_bare text)
bare_cut text =
    before_ascii text (prefix_len is_bare text) (prefix_len-le-length is_bare text) (λ less. stop_small (get_or text (prefix_len is_bare text) 0) (prefix_len_stops is_bare text 0 less))

-- behind the bytes that say themselves
pub plain_cut : (text : List ℕ) → IsCharBoundary text (prefix_len is_plain text)
plain_cut text =
    before_ascii text (prefix_len is_plain text) (prefix_len-le-length is_plain text) (λ less. special_small (get_or text (prefix_len is_plain text) 0) (prefix_len_stops is_plain text 0 less))

-- behind a quotation mark
pub mark_cut : (text : List ℕ) (len : ℕ) → IsUtf8 text → 1 ≤ len → 1 + len ≤ length text → get_or (drop 1 text) (len - 1) 0 ≡ 34 → IsCharBoundary text (1 + len)
mark_cut text len utf8 some within mark =
    let at : get_or text len 0 ≡ 34 = ap (λ k. get_or text k 0) (omega arith) ∙ sym (get_or_after_one text (len - 1) 0) ∙ mark in
    rw (add_comm 1 len) (IsCharBoundary-after_ascii text len utf8 (omega arith) (omega (arith, at)))

-- behind its first byte, where that is ASCII
pub first_cut : (text : List ℕ) → IsUtf8 text → 0 < length text → get_or text 0 0 < 128 → IsCharBoundary text 1
first_cut text utf8 some small = IsCharBoundary-after_ascii text 0 utf8 some small
