-- When bytes are a line.
use Rattle.std.proofs.Common.{◌≡◌, ◌↔◌, ◌≤◌, ℕ, Bool, true, false, cond, List, [], ◌∷◌, length, Option, Some, None, Result, Ok, Err, IsSome, IfSome, ok_or, refl, sym, ap, ◌∙◌, subst}
use Rattle.std.specs.Prelude.{ℤ, pos, neg_ℤ, nat_le, ◌&&◌, ◌==◌}
use Rattle.std.specs.Str.{IsUtf8, is_utf8}
use Rattle.std.proofs.lemmas.Bool.{le-ltb, false_from_ne_true, false≢true}
use Rattle.std.proofs.lemmas.Str.{IsUtf8-from_is_utf8, is_utf8-from_IsUtf8}
use Rattle.spatial_base.specs.Key.{Name, Text}
use Rattle.spatial_base.specs.Point.{Position}
use Rattle.spatial_base.specs.Rect.{Bounds}
use Rattle.place_values.specs.declared.update.Update.TheVariants as updates
use Rattle.line_tokens.specs.Token.{Token, Bare, Quoted, Open, Close, Broken}
use Rattle.query_replies.specs.declared.fault.LineFault.{LineFault}
use Rattle.query_replies.specs.declared.fault.LineFault.TheVariants as faults
use Rattle.query_lang.specs.declared.line.Line.TheVariants as lines
use Rattle.query_lang.specs.Key.{text_key, key_of}
use Rattle.query_lang.specs.Line.{line_of, line_of_text, without_cr, rect_part}
use Rattle.query_lang.specs.Reader.{part}
use Rattle.query_lang.specs.Degrees.{degrees_of}
use Rattle.query_lang.specs.Plain.{IsSound}

-- other bytes than UTF-8 are no line
pub line_of-other : (bytes : List ℕ) → length bytes ≤ 65536 → ¬ (IsUtf8 (without_cr bytes)) → line_of bytes ≡ Err faults.Utf8
unfolding line_of
line_of-other bytes short other =
    rw (le-ltb 65536 (length bytes) short, false_from_ne_true (is_utf8 (without_cr bytes)) (λ e. other (IsUtf8-from_is_utf8 (without_cr bytes) e))) refl

-- a text is the line of its tokens
pub line_of-text : (bytes : List ℕ) → length bytes ≤ 65536 → IsUtf8 (without_cr bytes) → line_of bytes ≡ line_of_text (without_cr bytes)
unfolding line_of
line_of-text bytes short text = rw (le-ltb 65536 (length bytes) short, is_utf8-from_IsUtf8 (without_cr bytes) text) refl

-- where a value is there exactly if a fact holds, it is this one
pub made : {X E : Type 0} (found : Option X) (x : X) (U : Type 0) (fault : E) (result : Result X E) → result ≡ ok_or found fault → IfSome found (λ y. y ≡ x) → (IsSome found ↔ U) → U → result ≡ Ok x
made (Some y) x U fault result is same exact holds = is ∙ ap Ok same
made None x U fault result is same exact holds = absurd (false≢true (exact.1 holds))

-- a key that is no automatic one is a text
same_key : (x y : Name) → ◌≡◌ {A = Result Name LineFault} (Ok x) (Ok y) → x ≡ y
same_key x y e = cc e

text_sound : (point : Position) (words : List (List ℕ × ℕ)) (label : List ℕ) (bytes : List ℕ) (key : Name) (answer : Bool) → ◌≡◌ {A = Result Name LineFault} (cond answer (Ok (Text bytes)) (Err faults.Key)) (Ok key)
    → IsSound (lines.Do (updates.Put (Some key) point words label))
text_sound point words label bytes key true e = subst (λ (k : Name). IsSound (lines.Do (updates.Put (Some k) point words label))) (same_key (Text bytes) key e) tt
text_sound point words label bytes key false e = absurd (cc e)

bare_sound : (point : Position) (words : List (List ℕ × ℕ)) (label : List ℕ) (byte : ℕ) (bytes : List ℕ) (key : Name) (answer : Bool) → ◌≡◌ {A = Result Name LineFault} (cond answer (Err faults.Key) (text_key (byte ∷ bytes))) (Ok key)
    → IsSound (lines.Do (updates.Put (Some key) point words label))
bare_sound point words label byte bytes key true e = absurd (cc e)
bare_sound point words label byte bytes key false e = text_sound point words label (byte ∷ bytes) key (nat_le 1 (length (byte ∷ bytes)) && nat_le (length (byte ∷ bytes)) 64) e

pub add_sound : (point : Position) (words : List (List ℕ × ℕ)) (label : List ℕ) (token : Token) (key : Name) → key_of false token ≡ Ok key → IsSound (lines.Do (updates.Put (Some key) point words label))
add_sound point words label (Bare []) key e = absurd (cc e)
add_sound point words label (Bare (byte ∷ bytes)) key e = bare_sound point words label byte bytes key (byte == 35) e
add_sound point words label (Quoted bytes) key e = text_sound point words label bytes key (nat_le 1 (length bytes) && nat_le (length bytes) 64) e
add_sound point words label Open key e = absurd (cc e)
add_sound point words label Close key e = absurd (cc e)
add_sound point words label Broken key e = absurd (cc e)

pub same_bounds : (x y : Bounds) → ◌≡◌ {A = Result Bounds LineFault} (Ok x) (Ok y) → x ≡ y
same_bounds x y e = cc e

-- the four sides of a rectangle, one behind the other, however their numbers are passed on
pub rect_step : (text one two three four : List ℕ) (west south east north west' south' wide tall right top : ℤ) (rect : Bounds)
    → part (degrees_of (neg_ℤ (pos 1800000000)) (pos 1800000000)) text ≡ Ok (west, one) → part (degrees_of (neg_ℤ (pos 900000000)) (pos 900000000)) one ≡ Ok (south, two)
    → part (degrees_of west' (pos 1800000000)) two ≡ Ok (east, three) → part (degrees_of south' (pos 900000000)) three ≡ Ok (north, four)
    → ◌≡◌ {A = Result Bounds LineFault} (Ok rect) (Ok record { west = wide; south = tall; east = right; north = top })
    → west' ≡ west → south' ≡ south → wide ≡ west → tall ≡ south → right ≡ east → top ≡ north → rect_part text ≡ Ok (rect, four)
unfolding rect_part
rect_step text one two three four west south east north west' south' wide tall right top rect a b c d e w s i j k l =
    let c' : part (degrees_of west (pos 1800000000)) two ≡ Ok (east, three) = subst (λ (z : ℤ). part (degrees_of z (pos 1800000000)) two ≡ Ok (east, three)) w c in
    let d' : part (degrees_of south (pos 900000000)) three ≡ Ok (north, four) = subst (λ (z : ℤ). part (degrees_of z (pos 900000000)) three ≡ Ok (north, four)) s d in
    let same : rect ≡ record { west = west; south = south; east = east; north = north } = same_bounds rect _ e ∙ (λ n. record { west = i n; south = j n; east = k n; north = l n }) in
    rw (a, b, c', d') (ap (λ (r : Bounds). Ok (r, four)) (sym same))
