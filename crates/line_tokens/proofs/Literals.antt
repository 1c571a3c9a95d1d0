-- Where literals end.
use Rattle.std.proofs.Common.{◌≡◌, ◌≢◌, ◌<◌, ◌≤◌, ℕ, zero, suc, ◌+◌, ◌*◌, Bool, true, false, cond, ◌&&◌, if◌then◌else◌, List, [], ◌∷◌, length, drop, get_or, Option, Some, None, is_some, option_map, refl, ap, ◌∙◌, sym, arith, nat_le, nat_eq}
use Rattle.std.specs.Prelude.{option_and_then}
use Rattle.std.proofs.Math.Seq.{drop-cons}
use Rattle.std.proofs.lemmas.Bool.Decides.{nat_tests}
use Rattle.json_spelled.specs.Grammar.{Piece, Byte, Code, hex_digit}
use Rattle.line_tokens.specs.Literal.{before, behind, escape_at, piece_at, pieces_of, pieces_within, unit_at}
use Rattle.line_tokens.proofs.Pieces.{piece_front}

-- four digits or not
four : (p q r s : Option ℕ) (piece : ℕ → ℕ → ℕ → ℕ → Piece) (bytes : List ℕ)
    → option_map {T = Piece × List ℕ} {U = List ℕ} (λ f. f.1) (option_and_then (λ a. option_and_then (λ b. option_and_then (λ c. option_map (λ d. (piece a b c d, bytes)) s) r) q) p)
    ≡ (if is_some p && is_some q && is_some r && is_some s then Some bytes else None)
four None q r s piece bytes = refl
four (Some a) None r s piece bytes = refl
four (Some a) (Some b) None s piece bytes = refl
four (Some a) (Some b) (Some c) None piece bytes = refl
four (Some a) (Some b) (Some c) (Some d) piece bytes = refl

-- the first four bytes are digits
abbrev pub is_unit : List ℕ → Bool
is_unit bytes = is_some (hex_digit (get_or bytes 0 0)) && is_some (hex_digit (get_or bytes 1 0)) && is_some (hex_digit (get_or bytes 2 0)) && is_some (hex_digit (get_or bytes 3 0))

-- what follows a code unit
pub behind_unit : (bytes : List ℕ) → 4 ≤ length bytes → option_map {U = List ℕ} (λ f. f.1) (unit_at bytes) ≡ (if is_unit bytes then Some (drop 4 bytes) else None)
behind_unit [] long = absurd (omega arith)
behind_unit (w ∷ []) long = absurd (omega arith)
behind_unit (w ∷ x ∷ []) long = absurd (omega arith)
behind_unit (w ∷ x ∷ y ∷ []) long = absurd (omega arith)
behind_unit (w ∷ x ∷ y ∷ z ∷ bytes) long =
    four (hex_digit w) (hex_digit x) (hex_digit y) (hex_digit z) (λ a b c d. Code (4096 * a + 256 * b + 16 * c + d)) bytes

-- fewer than four bytes are no code unit
pub behind_short : (bytes : List ℕ) → length bytes < 4 → option_map {U = List ℕ} (λ f. f.1) (unit_at bytes) ≡ None
behind_short [] short = refl
behind_short (w ∷ []) short = refl
behind_short (w ∷ x ∷ []) short = refl
behind_short (w ∷ x ∷ y ∷ []) short = refl
behind_short (w ∷ x ∷ y ∷ z ∷ bytes) short = absurd (omega arith)

-- however many pieces there may be, if there may be as many as bytes
none_left : (left : ℕ) → pieces_within left [] ≡ None
none_left zero = refl
none_left (suc left) = refl

same_behind : (left other : ℕ) (bytes : List ℕ) → ((rest : List ℕ) → length rest < length bytes → pieces_within left rest ≡ pieces_within other rest) → (found : Option (Piece × List ℕ)) → piece_at bytes ≡ found
    → option_and_then (λ piece. before piece.0 (pieces_within left piece.1)) found ≡ option_and_then (λ piece. before piece.0 (pieces_within other piece.1)) found
same_behind left other bytes same None is = refl
same_behind left other bytes same (Some found) is = ap (before found.0) (same found.1 (piece_front bytes found is).shorter)

same_within : (left other : ℕ) (bytes : List ℕ) → length bytes ≤ left → length bytes ≤ other → pieces_within left bytes ≡ pieces_within other bytes
same_within zero other [] a b = sym (none_left other)
same_within zero other (byte ∷ bytes) a b = absurd (omega arith)
same_within (suc left) other [] a b = sym (none_left other)
same_within (suc left) zero (byte ∷ bytes) a b = absurd (omega arith)
same_within (suc left) (suc other) (byte ∷ bytes) a b =
    ap (cond (nat_eq byte 34) (Some ([], bytes)))
    (same_behind left other (byte ∷ bytes) (λ rest less. same_within left other rest (omega arith) (omega arith)) (piece_at (byte ∷ bytes)) refl)

-- a piece in front changes nothing of what is behind
behind_before : (piece : Piece) (found : Option (List Piece × List ℕ)) → option_map {U = List ℕ} (λ f. f.1) (before piece found) ≡ option_map {U = List ℕ} (λ f. f.1) found
behind_before piece None = refl
behind_before piece (Some found) = refl

-- the closing quotation mark
behind_mark : (byte : ℕ) (bytes : List ℕ) → byte ≡ 34 → behind (byte ∷ bytes) ≡ Some bytes
behind_mark byte bytes is = rw is refl

-- a piece, or none
behind_piece : (byte : ℕ) (bytes : List ℕ) (found : Piece × List ℕ) → byte ≢ 34 → piece_at (byte ∷ bytes) ≡ Some found → behind (byte ∷ bytes) ≡ behind found.1
behind_piece byte bytes found mark is =
    let a : nat_eq byte 34 ≡ false = grind (arith, nat_tests) in
    let shorter = (piece_front (byte ∷ bytes) found is).shorter in
    let first : pieces_of (byte ∷ bytes) ≡ before found.0 (pieces_within (length bytes) found.1) =
    ap (λ (test : Bool). cond test (Some ([], bytes)) (option_and_then (λ piece. before piece.0 (pieces_within (length bytes) piece.1)) (piece_at (byte ∷ bytes)))) a
    ∙ ap (option_and_then (λ (piece : Piece × List ℕ). before piece.0 (pieces_within (length bytes) piece.1))) is in
    ap (option_map (λ f. f.1)) first
    ∙ behind_before found.0 (pieces_within (length bytes) found.1)
    ∙ ap (option_map (λ f. f.1)) (same_within (length bytes) (length found.1) found.1 (omega arith) (omega arith))

behind_no_piece : (byte : ℕ) (bytes : List ℕ) → byte ≢ 34 → piece_at (byte ∷ bytes) ≡ None → behind (byte ∷ bytes) ≡ None
behind_no_piece byte bytes mark is =
    let a : nat_eq byte 34 ≡ false = grind (arith, nat_tests) in
    ap (option_map (λ f. f.1)) (ap (λ (test : Bool). cond test (Some ([], bytes)) (option_and_then (λ piece. before piece.0 (pieces_within (length bytes) piece.1)) (piece_at (byte ∷ bytes)))) a
    ∙ ap (option_and_then (λ (piece : Piece × List ℕ). before piece.0 (pieces_within (length bytes) piece.1))) is)

-- the same where a literal is read on from a place
module _ (bytes : List ℕ) (at : ℕ) (inside : at < length bytes) where
  here : drop at bytes ≡ get_or bytes at 0 ∷ drop (suc at) bytes
  here = drop-cons bytes at 0 inside

  pub at_mark : get_or bytes at 0 ≡ 34 → behind (drop at bytes) ≡ Some (drop (suc at) bytes)
  at_mark is = rw here (behind_mark (get_or bytes at 0) (drop (suc at) bytes) is)

  pub at_plain : get_or bytes at 0 ≢ 34 → get_or bytes at 0 ≢ 92 → 32 ≤ get_or bytes at 0 → behind (drop at bytes) ≡ behind (drop (suc at) bytes)
  at_plain mark slash big =
      let a : nat_eq (get_or bytes at 0) 34 ≡ false = grind (arith, nat_tests) in
      let b : nat_eq (get_or bytes at 0) 92 ≡ false = grind (arith, nat_tests) in
      let c : nat_le 32 (get_or bytes at 0) ≡ true = grind (arith, nat_tests) in
      rw here (behind_piece (get_or bytes at 0) (drop (suc at) bytes) (Byte (get_or bytes at 0), drop (suc at) bytes) mark (rw (a, b, c) refl))

  -- what follows an escape of so many bytes, or none
  pub at_escape : (len : ℕ) → get_or bytes at 0 ≡ 92 → option_map {U = List ℕ} (λ f. f.1) (escape_at (drop (suc at) bytes)) ≡ Some (drop len (drop (suc at) bytes)) → behind (drop at bytes) ≡ behind (drop len (drop (suc at) bytes))
  at_escape len is ends = by (escape_at (drop (suc at) bytes)) refl ends
    where
      by : (found : Option (Piece × List ℕ)) → escape_at (drop (suc at) bytes) ≡ found → option_map {U = List ℕ} (λ f. f.1) found ≡ Some (drop len (drop (suc at) bytes)) → behind (drop at bytes) ≡ behind (drop len (drop (suc at) bytes))
      by None e f = absurd (cc f)
      by (Some found) e f =
          let goes : piece_at (get_or bytes at 0 ∷ drop (suc at) bytes) ≡ Some found = rw is e in
          let last : found.1 ≡ drop len (drop (suc at) bytes) = cc f in
          rw here (behind_piece (get_or bytes at 0) (drop (suc at) bytes) found (λ e. absurd (omega (arith, is, e))) goes ∙ ap behind last)

  pub at_no_escape : get_or bytes at 0 ≡ 92 → option_map {U = List ℕ} (λ f. f.1) (escape_at (drop (suc at) bytes)) ≡ None → behind (drop at bytes) ≡ None
  at_no_escape is none = by (escape_at (drop (suc at) bytes)) refl none
    where
      by : (found : Option (Piece × List ℕ)) → escape_at (drop (suc at) bytes) ≡ found → option_map {U = List ℕ} (λ f. f.1) found ≡ None → behind (drop at bytes) ≡ None
      by None e f =
          let goes : piece_at (get_or bytes at 0 ∷ drop (suc at) bytes) ≡ None = rw is e in
          rw here (behind_no_piece (get_or bytes at 0) (drop (suc at) bytes) (λ e. absurd (omega (arith, is, e))) goes)
      by (Some found) e f = absurd (cc f)
