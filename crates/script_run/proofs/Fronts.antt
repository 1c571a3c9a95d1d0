-- Fronts of bytes.
use Rattle.std.proofs.Common.{◌≡◌, ℕ, zero, suc, ◌+◌, ◌≤◌, List, [], ◌∷◌, ◌++◌, length, take, drop, min, sym, ap, ◌∙◌, arith, append_assoc, zero-add}
use Rattle.std.proofs.lemmas.List.{take_all, take_min, take-append-le, take-append-drop}
use Rattle.run_outcome.specs.Said.{SaysFrontOf}
use Rattle.run_outcome.proofs.Lists.{take-over}

-- a front is no longer than that
pub length-take_most : (n : ℕ) (xs : List ℕ) → length (take n xs) ≤ n
length-take_most zero xs = omega arith
length-take_most (suc n) [] = omega arith
length-take_most (suc n) (x ∷ xs) = omega (arith, length-take_most n xs)

-- a front of what is behind some bytes
pub take-behind : (xs ys : List ℕ) (k : ℕ) → take (length xs + k) (xs ++ ys) ≡ xs ++ take k ys
take-behind [] ys k = ap (λ n. take n ys) (zero-add k)
take-behind (x ∷ xs) ys k =
    let one_more : suc (length xs) + k ≡ suc (length xs + k) = omega arith in
    ap (λ n. take n (x ∷ xs ++ ys)) one_more ∙ ap (λ l. x ∷ l) (take-behind xs ys k)

-- all of a text is a front of it
pub front-whole : (text old new : List ℕ) → new ≡ old ++ text → SaysFrontOf text old new
front-whole text old new is = (length text, is ∙ ap (λ t. old ++ t) (sym (take_all (length text) text (omega arith))))

-- a front of a text is one of a text that goes on
pub front-goes_on : (text more whole old new : List ℕ) → whole ≡ text ++ more → SaysFrontOf text old new → SaysFrontOf whole old new
front-goes_on text more whole old new is says =
    let n = min says.0 (length text) in
    (n, says.1 ∙ ap (λ t. old ++ t) (sym (ap (take n) is ∙ take-append-le n text more (omega arith) ∙ take_min says.0 text)))

-- a front of what is behind a text that was said
pub front-behind : (text more whole old new : List ℕ) → whole ≡ text ++ more → SaysFrontOf more (old ++ text) new → SaysFrontOf whole old new
front-behind text more whole old new is says =
    (length text + says.0, says.1 ∙ append_assoc old text (take says.0 more) ∙ ap (λ t. old ++ t) (sym (ap (take (length text + says.0)) is ∙ take-behind text more says.0)))

-- a piece that was read to the front of a buffer is the next bytes of the source
pub piece-came : (n len : ℕ) (buffer behind slice piece left next : List ℕ) → n ≤ length buffer → length buffer ≤ len → slice ≡ take len (buffer ++ behind) → piece ≡ take n slice → left ≡ take n buffer ++ next → left ≡ piece ++ next
piece-came n len buffer behind slice piece left next few room held front given =
    given ∙ ap (λ b. b ++ next) (sym (front ∙ ap (take n) held ∙ take-over n len buffer behind few room))

-- a piece in two parts
pub parts-came : (piece left next : List ℕ) (room : ℕ) → left ≡ piece ++ next → left ≡ take room piece ++ (drop room piece ++ next)
parts-came piece left next room is = is ∙ ap (λ p. p ++ next) (sym (take-append-drop room piece)) ∙ append_assoc (take room piece) (drop room piece) next
