-- What the folding of a piece of text is.
use Rattle.std.proofs.Common.{◌≡◌, ℕ, ◌+◌, ◌-◌, ◌<◌, ◌≤◌, List, [], ◌∷◌, ◌++◌, length, map, take, drop, replicate, chars, encode_utf8, encode_utf8_all, IsAscii, None, Some, append_assoc, append-nil, take_at, refl, sym, ap, ◌∙◌, subst, arith, length-append}
use Rattle.std.proofs.lemmas.List.{length-map, drop-drop, drop-replicate}
use Rattle.std.proofs.lemmas.Str.{chars-IsAscii, encodes-IsAscii, encodes-chars, length-le-encodes, encodes-append, IsUtf8-nil, IsUtf8-append, IsUtf8-from_ascii}
use Rattle.std.proofs.lemmas.Str.Ascii.{All-from_ascii, IsAscii-map, lowercase_ascii}
use Rattle.std.specs.Char.{to_ascii_lowercase}
use Rattle.std.specs.Str.{IsUtf8}
use Rattle.caseless.specs.Caseless.{default_case_fold}
use Rattle.caseless.proofs.CaselessLemmas.{default_case_fold-ascii, default_case_fold-cons}
use Rattle.ucd_case.specs.CaseFolding.{full_fold, full_folding, or_itself}
use Rattle.unicode_normalization.specs.Iter.{YieldsFirstChar}
use Rattle.term_impacts.specs.Form.{IsWordText}
use Rattle.term_impacts.specs.Text.{folded}

-- ASCII folds to lower case
pub folded-ascii : (piece : List ℕ) → IsAscii piece → folded piece ≡ map to_ascii_lowercase piece
folded-ascii piece ascii =
    ap (λ cs. encode_utf8_all (default_case_fold cs)) (chars-IsAscii piece ascii)
    ∙ ap encode_utf8_all (default_case_fold-ascii piece (All-from_ascii piece ascii))
    ∙ encodes-IsAscii _ (IsAscii-map to_ascii_lowercase piece lowercase_ascii ascii)

-- so its length stays
pub length-folded-ascii : (piece : List ℕ) → IsAscii piece → length (folded piece) ≡ length piece
length-folded-ascii piece ascii = ap length (folded-ascii piece ascii) ∙ length-map piece to_ascii_lowercase

-- a short piece of ASCII folds to a word's text
pub IsWordText-ascii : (piece : List ℕ) → IsAscii piece → 1 ≤ length piece → length piece ≤ 32 → IsWordText (folded piece)
IsWordText-ascii piece ascii some fits =
    let same = length-folded-ascii piece ascii in
    record {
      utf8 = ∣ subst IsUtf8 (sym (folded-ascii piece ascii)) (IsUtf8-from_ascii _ (IsAscii-map to_ascii_lowercase piece lowercase_ascii ascii)) ∣₁;
      some = omega (arith, same);
      fits = omega (arith, same);
    }

-- a copy of a piece of ASCII, put into lower case, is its folding
pub lowered : (piece copy low rest : List ℕ) → IsAscii piece → copy ≡ piece → low ≡ map to_ascii_lowercase (take (length piece) (copy ++ rest)) → low ≡ folded piece
lowered piece copy low rest ascii same lower =
    lower ∙ ap (map to_ascii_lowercase) (take_at copy rest (length piece) (ap length same) ∙ same) ∙ sym (folded-ascii piece ascii)

or_itself_some : (c : ℕ) (folding : List ℕ) → 1 ≤ length (or_itself c folding)
or_itself_some c [] = omega arith
or_itself_some c (x ∷ xs) = omega arith

folding_some : (cs : List ℕ) → 1 ≤ length cs → 1 ≤ length (default_case_fold cs)
folding_some [] h = absurd (omega arith)
folding_some (c ∷ cs) h =
    omega (arith, ap length (default_case_fold-cons c cs) ∙ length-append (full_fold c) (default_case_fold cs), or_itself_some c (full_folding c))

chars_some : (bs cs : List ℕ) → encode_utf8_all cs ≡ bs → 1 ≤ length bs → 1 ≤ length cs
chars_some bs [] e h = absurd (omega (arith, ap length e))
chars_some bs (c ∷ cs) e h = omega arith

-- no folding is empty
pub folded_some : (piece : List ℕ) → IsUtf8 piece → 1 ≤ length piece → 1 ≤ length (folded piece)
folded_some piece text some =
    let cs = chars piece in
    let there = folding_some cs (chars_some piece cs (encodes-chars piece text) some) in
    omega (arith, there, length-le-encodes (default_case_fold cs))

-- the walk of a piece's folding, where `folds s cs` says that the characters cs are still to come at s
module _ {S : Type 0} (folds : S → List ℕ → Type 0) (piece : List ℕ) where
  -- the front of the form has the characters that came, and zero bytes are left behind them
  pub record HasWritten (form : List ℕ) (len : ℕ) (s : S) : Type 0 where
    pub seen : List ℕ
    pub rest : List ℕ
    pub all : default_case_fold (chars piece) ≡ seen ++ rest
    pub left : folds s rest
    pub text : take len form ≡ encode_utf8_all seen
    pub utf8 : IsUtf8 (take len form)
    pub fits : len ≤ 32
    pub long : len ≡ length (encode_utf8_all seen)
    pub zeros : drop len form ≡ replicate (33 - len) 0

  -- before the first character
  pub written_none : (s : S) → folds s (default_case_fold (chars piece)) → HasWritten (replicate 33 0) 0 s
  written_none s left = record {
    seen = [];
    rest = default_case_fold (chars piece);
    all = refl;
    left = left;
    text = refl;
    utf8 = IsUtf8-nil;
    fits = omega arith;
    long = refl;
    zeros = refl;
  }

  -- after one more character
  pub written_more : (old new : List ℕ) (len end c : ℕ) (s t : S) → HasWritten old len s → YieldsFirstChar folds s (Some c) t
      → end ≡ len + length (encode_utf8 c) → end ≤ 32 → take end new ≡ take len old ++ encode_utf8 c → drop end new ≡ drop end old
      → IsUtf8 (encode_utf8 c) → HasWritten new end t
  written_more old new len end c s t w step grows fits text behind utf8 =
      let first = step.at w.rest w.left in
      let pushed : encode_utf8_all (w.seen ++ c ∷ []) ≡ encode_utf8_all w.seen ++ encode_utf8 c =
      encodes-append w.seen (c ∷ []) ∙ ap (λ bs. encode_utf8_all w.seen ++ bs) (append-nil (encode_utf8 c)) in
      let size : length (encode_utf8_all (w.seen ++ c ∷ [])) ≡ length (encode_utf8_all w.seen) + length (encode_utf8 c) =
      ap length pushed ∙ length-append (encode_utf8_all w.seen) (encode_utf8 c) in
      let was = w.long in
      let less : (33 - len) - length (encode_utf8 c) ≡ 33 - end = omega arith in
      record {
        seen = w.seen ++ c ∷ [];
        rest = first.0;
        all = w.all ∙ ap (λ cs. w.seen ++ cs) first.1 ∙ sym (append_assoc w.seen (c ∷ []) first.0);
        left = first.2;
        text = text ∙ ap (λ bs. bs ++ encode_utf8 c) w.text ∙ sym pushed;
        utf8 = subst IsUtf8 (sym text) (IsUtf8-append _ _ w.utf8 utf8);
        fits = fits;
        long = omega arith;
        zeros =
            behind ∙ ap (λ n. drop n old) grows ∙ sym (drop-drop (length (encode_utf8 c)) len old)
            ∙ ap (drop (length (encode_utf8 c))) w.zeros ∙ drop-replicate (length (encode_utf8 c)) (33 - len) 0 ∙ ap (λ n. replicate n 0) less;
      }

  -- after the last
  pub written_all : (form : List ℕ) (len : ℕ) (s t : S) → HasWritten form len s → YieldsFirstChar folds s None t → take len form ≡ folded piece
  written_all form len s t w step =
      w.text ∙ ap encode_utf8_all (sym (append-nil w.seen) ∙ ap (λ cs. w.seen ++ cs) (sym (step.at w.rest w.left)) ∙ sym w.all)

  -- where a character has no room, the folding is too long
  pub written_over : (form : List ℕ) (len c : ℕ) (s t : S) → HasWritten form len s → YieldsFirstChar folds s (Some c) t
      → 32 < len + length (encode_utf8 c) → 32 < length (folded piece)
  written_over form len c s t w step over =
      let first = step.at w.rest w.left in
      let bytes : folded piece ≡ encode_utf8_all w.seen ++ (encode_utf8 c ++ encode_utf8_all first.0) =
      ap encode_utf8_all (w.all ∙ ap (λ cs. w.seen ++ cs) first.1) ∙ encodes-append w.seen (c ∷ first.0) in
      let size = ap length bytes ∙ length-append (encode_utf8_all w.seen) (encode_utf8 c ++ encode_utf8_all first.0) in
      omega (arith, size, length-append (encode_utf8 c) (encode_utf8_all first.0), w.long)

  -- and the folding fits
  pub written_fits : (form : List ℕ) (len : ℕ) (s t : S) → HasWritten form len s → YieldsFirstChar folds s None t → length (folded piece) ≤ 32
  written_fits form len s t w step =
      let size : length (folded piece) ≡ length (encode_utf8_all w.seen) = sym (ap length (written_all form len s t w step)) ∙ ap length w.text in
      omega (arith, size, w.long, w.fits)

  -- so what was written is a word's text
  pub IsWordText-written : (form : List ℕ) (len : ℕ) (s t : S) → HasWritten form len s → YieldsFirstChar folds s None t → IsUtf8 piece → 1 ≤ length piece
      → IsWordText (take len form)
  IsWordText-written form len s t w step text some =
      let same = written_all form len s t w step in
      record {
        utf8 = ∣ w.utf8 ∣₁;
        some = subst (λ bs. 1 ≤ length bs) (sym same) (folded_some piece text some);
        fits = subst (λ bs. length bs ≤ 32) (sym same) (written_fits form len s t w step);
      }
