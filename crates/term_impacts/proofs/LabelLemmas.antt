-- Which prefix of a text its label is, and what the form of a label says of its text.
use Rattle.std.proofs.Common.{◌≡◌, ◌≢◌, ℕ, ◌+◌, ◌-◌, ◌<◌, ◌≤◌, ◌==◌, nat_le, if◌then◌else◌, Bool, true, false, List, [], ◌∷◌, ◌++◌, length, replicate, take, drop, set, get_or, All, IsUtf8, IsCharBoundary, chars, encode_utf8, encode_utf8_all, ⊎_elim, refl, sym, ap, subst, ◌∙◌, arith, append_assoc, length-append, length-take, take-append-drop, take_all, get_or-take, get_or-append-add, ne_eqb, le-leb, leb-true, leb-false}
use Rattle.std.proofs.Math.Seq.{take-append-add}
use Rattle.std.proofs.lemmas.Bool.{cases_lt, eqb-false}
use Rattle.std.proofs.lemmas.List.{take_at}
use Rattle.std.proofs.lemmas.List.Sums.{position_or_len_is, fails_before_first}
use Rattle.std.proofs.lemmas.Str.{IsUtf8-had, IsUtf8-take, IsUtf8-past_char, IsCharBoundary-at_seam, encode_same, encodes-chars, length-encode}
use Rattle.std.specs.Char.{len_utf8}
use Rattle.std.specs.List.{position_or_len}
use Rattle.term_impacts.specs.Label.{IsLabelText, IsLabelForm, first_line, fitting, label_of, label_form, form_text}
use Rattle.term_impacts.proofs.PaddingLemmas.{text_of_padded, set-padded, zeros_behind}

-- ---- where a text is cut

-- The last place of a text, up to n, where a character begins or the text ends.
pub record IsCut (text : List ℕ) (n i : ℕ) : Type 0 where
  pub bound : i ≤ n
  pub boundary : IsCharBoundary text i
  pub nearest : (j : ℕ) → i < j → j ≤ n → ¬ (IsCharBoundary text j)

-- a place behind a text is one of what follows it
boundary_behind : (xs ys : List ℕ) (k : ℕ) → IsCharBoundary (xs ++ ys) (length xs + k) → IsCharBoundary ys k
boundary_behind xs ys k b =
    let here = get_or-append-add xs ys k 0 in
    let whole = length-append xs ys in
    (omega (arith, b.0, whole), λ inside high. let lead = b.1 (omega (arith, whole)) (omega (arith, here)) in omega (arith, lead, here))

-- and the other way round
boundary_before : (xs ys : List ℕ) (k : ℕ) → IsCharBoundary ys k → IsCharBoundary (xs ++ ys) (length xs + k)
boundary_before xs ys k b =
    let here = get_or-append-add xs ys k 0 in
    let whole = length-append xs ys in
    (omega (arith, b.0, whole), λ inside high. let lead = b.1 (omega (arith, whole)) (omega (arith, here)) in omega (arith, lead, here))

-- whether the first character has room
fitting-cons : (room c : ℕ) (cs : List ℕ) (b : Bool) → nat_le (len_utf8 c) room ≡ b → fitting room (c ∷ cs) ≡ if b then c ∷ fitting (room - len_utf8 c) cs else []
fitting-cons room c cs b is = ap (λ t. if t then c ∷ fitting (room - len_utf8 c) cs else []) is

-- a prefix of whole characters that is shorter than the first one is empty
none_cut : (c i : ℕ) (cs ds : List ℕ) → i < len_utf8 c → encode_utf8_all ds ≡ take i (encode_utf8_all (c ∷ cs)) → take i (encode_utf8_all (c ∷ cs)) ≡ []
none_cut c i cs [] short is = sym is
none_cut c i cs (d ∷ ds) short is =
    let bs : List ℕ = encode_utf8 c ++ encode_utf8_all cs in
    let begins : encode_utf8 d ++ encode_utf8_all ds ≡ take i bs = is in
    let whole : encode_utf8 c ++ encode_utf8_all cs ≡ encode_utf8 d ++ (encode_utf8_all ds ++ drop i bs) =
    sym (take-append-drop i bs) ∙ ap (λ l. l ++ drop i bs) (sym begins) ∙ append_assoc (encode_utf8 d) (encode_utf8_all ds) (drop i bs) in
    let same : c ≡ d = (encode_same c d (encode_utf8_all cs) (encode_utf8_all ds ++ drop i bs) whole).0 in
    let wide : length (encode_utf8 c) ≡ length (encode_utf8 d) = ap (λ x. length (encode_utf8 x)) same in
    absurd (omega (arith, wide, length-encode c, length-take i bs, ap length begins, length-append (encode_utf8 d) (encode_utf8_all ds)))

-- the first character has no room: nothing is left
cut_none : (c n i : ℕ) (cs : List ℕ) → IsUtf8 (encode_utf8_all (c ∷ cs)) → IsCut (encode_utf8_all (c ∷ cs)) n i → n < len_utf8 c → take i (encode_utf8_all (c ∷ cs)) ≡ []
cut_none c n i cs utf8 cut over =
    let part = IsUtf8-take (encode_utf8_all (c ∷ cs)) i utf8 cut.boundary in
    none_cut c i cs part.0 (omega (arith, cut.bound)) part.1.1

-- it has: the cut is behind it
cut_behind : (c n i : ℕ) (cs : List ℕ) → IsUtf8 (encode_utf8_all cs) → IsCut (encode_utf8_all (c ∷ cs)) n i → len_utf8 c ≤ n → length (encode_utf8 c) ≤ i
cut_behind c n i cs later cut fits =
    let wide = length-encode c in
    let seam : IsCharBoundary (encode_utf8_all (c ∷ cs)) (length (encode_utf8 c)) = IsCharBoundary-at_seam (encode_utf8 c ++ encode_utf8_all cs) (encode_utf8 c) (encode_utf8_all cs) refl later in
    ⊎_elim
    (λ before. absurd (cut.nearest (length (encode_utf8 c)) before (omega (arith, wide)) seam))
    (λ behind. behind)
    (cases_lt i (length (encode_utf8 c)))

-- and it is a cut of what follows
cut_later : (c n k : ℕ) (cs : List ℕ) → IsCut (encode_utf8_all (c ∷ cs)) n (length (encode_utf8 c) + k) → len_utf8 c ≤ n → IsCut (encode_utf8_all cs) (n - len_utf8 c) k
cut_later c n k cs cut fits =
    let wide = length-encode c in
    record {
      bound = omega (arith, cut.bound, wide);
      boundary = boundary_behind (encode_utf8 c) (encode_utf8_all cs) k cut.boundary;
      nearest = λ j past upto b.
          cut.nearest (length (encode_utf8 c) + j) (omega (arith, past)) (omega (arith, upto, wide, fits)) (boundary_before (encode_utf8 c) (encode_utf8_all cs) j b);
    }

-- what is before the cut are the characters that have room: by the first of them
cut_char : (c n i : ℕ) (cs : List ℕ) → IsUtf8 (encode_utf8_all (c ∷ cs)) → IsUtf8 (encode_utf8_all cs) → IsCut (encode_utf8_all (c ∷ cs)) n i
    → ((k : ℕ) → IsCut (encode_utf8_all cs) (n - len_utf8 c) k → take k (encode_utf8_all cs) ≡ encode_utf8_all (fitting (n - len_utf8 c) cs))
    → (b : Bool) → nat_le (len_utf8 c) n ≡ b → take i (encode_utf8_all (c ∷ cs)) ≡ encode_utf8_all (fitting n (c ∷ cs))
cut_char c n i cs utf8 later cut rest true is =
    let fits : len_utf8 c ≤ n = leb-true (len_utf8 c) n is in
    let behind = cut_behind c n i cs later cut fits in
    let k : ℕ = i - length (encode_utf8 c) in
    let at : i ≡ length (encode_utf8 c) + k = omega (arith, behind) in
    let moved : IsCut (encode_utf8_all (c ∷ cs)) n (length (encode_utf8 c) + k) = subst (λ m. IsCut (encode_utf8_all (c ∷ cs)) n m) at cut in
    ap (λ m. take m (encode_utf8 c ++ encode_utf8_all cs)) at
    ∙ take-append-add (encode_utf8 c) (encode_utf8_all cs) k
    ∙ ap (λ l. encode_utf8 c ++ l) (rest k (cut_later c n k cs moved fits))
    ∙ ap encode_utf8_all (sym (fitting-cons n c cs true is))
cut_char c n i cs utf8 later cut rest false is = cut_none c n i cs utf8 cut (leb-false (len_utf8 c) n is) ∙ ap encode_utf8_all (sym (fitting-cons n c cs false is))

-- and by all of them
cut_chars : (cs : List ℕ) (n i : ℕ) → IsUtf8 (encode_utf8_all cs) → IsCut (encode_utf8_all cs) n i → take i (encode_utf8_all cs) ≡ encode_utf8_all (fitting n cs)
cut_chars [] n i utf8 cut = take_all i [] (omega arith)
cut_chars (c ∷ cs) n i utf8 cut =
    let later : IsUtf8 (encode_utf8_all cs) = IsUtf8-past_char (encode_utf8_all (c ∷ cs)) (encode_utf8_all cs) c utf8 refl in
    cut_char c n i cs utf8 later cut (λ k. cut_chars cs (n - len_utf8 c) k later) (nat_le (len_utf8 c) n) refl

-- what is cut from the first line is the text's label
pub label_is_cut : (text : List ℕ) (i : ℕ) → IsUtf8 (first_line text) → IsCut (first_line text) 63 i → take i (first_line text) ≡ label_of text
unfolding label_of
label_is_cut text i utf8 cut =
    let line : List ℕ = first_line text in
    let spelt : encode_utf8_all (chars line) ≡ line = encodes-chars line utf8 in
    ap (take i) (sym spelt) ∙ cut_chars (chars line) 63 i (subst IsUtf8 (sym spelt) utf8) (subst (λ l. IsCut l 63 i) (sym spelt) cut)

-- ---- lines

-- no byte of a first line, or of a prefix of it, is an LF
pub one_line_cut : (text : List ℕ) (i : ℕ) → All (λ byte. byte ≢ 10) (take i (first_line text))
one_line_cut text i k d inside is =
    let at : ℕ = position_or_len (λ byte. byte == 10) text in
    let size = length-take i (take at text) in
    let line = length-take at text in
    let within : k < i = omega (arith, inside, size) in
    let before : k < at = omega (arith, inside, size, line) in
    let byte : get_or text k d ≡ 10 = sym (get_or-take at text k d before) ∙ sym (get_or-take i (take at text) k d within) ∙ is in
    eqb-false (get_or text k d) 10 (fails_before_first (λ byte. byte == 10) text k d before) byte

-- a text without LF is its own first line
first_line_all : (text : List ℕ) → All (λ byte. byte ≢ 10) text → first_line text ≡ text
first_line_all text none =
    let at : position_or_len (λ byte. byte == 10) text ≡ length text =
    position_or_len_is (λ byte. byte == 10) text (length text) 0 (omega arith) (λ k inside. ne_eqb (get_or text k 0) 10 (none k 0 inside)) (λ inside. absurd (omega arith)) in
    ap (λ n. take n text) at ∙ take_all (length text) text (omega arith)

-- the characters of a text have room in as many bytes as it has
fitting_all : (cs : List ℕ) (n : ℕ) → length (encode_utf8_all cs) ≤ n → fitting n cs ≡ cs
fitting_all [] n fits = refl
fitting_all (c ∷ cs) n fits =
    let room : length (encode_utf8 c ++ encode_utf8_all cs) ≤ n = fits in
    let size = length-append (encode_utf8 c) (encode_utf8_all cs) in
    let wide = length-encode c in
    fitting-cons n c cs true (le-leb (len_utf8 c) n (omega (arith, room, size, wide)))
    ∙ ap (λ l. c ∷ l) (fitting_all cs (n - len_utf8 c) (omega (arith, room, size, wide)))

-- a label's text is its own label
pub label_of-label : (text : List ℕ) → IsLabelText text → label_of text ≡ text
unfolding label_of
label_of-label text is =
    let utf8 : IsUtf8 text = IsUtf8-had text is.utf8 in
    let line : first_line text ≡ text = first_line_all text is.one_line in
    let spelt : encode_utf8_all (chars text) ≡ text = encodes-chars text utf8 in
    ap (λ l. encode_utf8_all (fitting 63 (chars l))) line
    ∙ ap encode_utf8_all (fitting_all (chars text) 63 (omega (arith, ap length spelt, is.fits)))
    ∙ spelt

-- ---- forms

-- the form of a label's text is a form
pub IsLabelForm-label_form : (text : List ℕ) → IsLabelText text → IsLabelForm (label_form text)
IsLabelForm-label_form text is =
    let same : form_text (label_form text) ≡ text = text_of_padded 63 text is.fits in
    record { text = subst IsLabelText (sym same) is; padded = ap label_form (sym same) }

-- the text that a form stands for is the one that it was made of
pub label_text_is : (form text : List ℕ) → IsLabelText text → form ≡ label_form text → form_text form ≡ text
label_text_is form text is made = ap form_text made ∙ text_of_padded 63 text is.fits

-- the label of a form's text has that form
pub same_label : (form bytes text : List ℕ) → IsLabelForm form → form_text form ≡ label_of (form_text bytes) → IsLabelText text → bytes ≡ label_form text → form ≡ bytes
same_label form bytes text is cut label made =
    let same : form_text form ≡ text = cut ∙ ap label_of (label_text_is bytes text label made) ∙ label_of-label text label in
    is.padded ∙ ap label_form same ∙ sym made

-- a text written over the front of 64 zero bytes, with its length in the last place, is the text's form
pub written_label : (text : List ℕ) (n : ℕ) → length text ≡ n → IsLabelText text → set (text ++ drop n (replicate 64 0)) 63 n ≡ label_form text
written_label text n len is =
    set-padded 63 (text ++ drop n (replicate 64 0)) n (omega (arith, len, is.fits)) (zeros_behind text n 64 len)
    ∙ ap label_form (take_at text (drop n (replicate 64 0)) n len)
