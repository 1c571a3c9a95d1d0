-- A text padded with zero bytes, and its length behind them.
use Rattle.std.proofs.Common.{append_assoc, ◌≡◌, ℕ, ◌+◌, ◌-◌, ◌≤◌, List, [], ◌∷◌, ◌++◌, length, replicate, take, get_or, refl, sym, ap, ◌∙◌, arith, length-append, length-drop, length-take, take-append-drop, take_at, drop_at, set, drop}
use Rattle.std.proofs.lemmas.List.{length-replicate, get_or_at, set_at, drop-replicate, replicate-append-replicate}

-- a text, p zero bytes, and a length
abbrev pub padded : List ℕ → ℕ → ℕ → List ℕ
padded text p k = text ++ (replicate p 0 ++ k ∷ [])

-- a text padded with zero bytes to n, and its length
abbrev pub padded_to : ℕ → List ℕ → List ℕ
padded_to n text = padded text (n - length text) (length text)

-- the last byte is the text's length
pub last_byte_padded : (n : ℕ) (text : List ℕ) → length text ≤ n → get_or (padded_to n text) n 0 ≡ length text
last_byte_padded n text fits =
    let zeros : List ℕ = replicate (n - length text) 0 in
    let front : length (text ++ zeros) ≡ n = omega (arith, length-append text zeros, length-replicate {A = ℕ} (n - length text) 0) in
    ap (λ l. get_or l n 0) (sym (append_assoc text zeros (length text ∷ []))) ∙ get_or_at (text ++ zeros) (length text) [] 0 n front

-- and as many bytes as it says are the text
pub text_of_padded : (n : ℕ) (text : List ℕ) → length text ≤ n → take (get_or (padded_to n text) n 0) (padded_to n text) ≡ text
text_of_padded n text fits = ap (λ k. take k (padded_to n text)) (last_byte_padded n text fits) ∙ take_at text _ (length text) refl

-- zero bytes are left behind what was written to the front of so many of them
pub zeros_behind : (text : List ℕ) (n size : ℕ) → length text ≡ n → drop n (text ++ drop n (replicate size 0)) ≡ replicate (size - n) 0
zeros_behind text n size len = drop_at text (drop n (replicate size 0)) n len ∙ drop-replicate n size 0

-- a text before zero bytes, with its length in the last place, is padded so
pub set-padded : (n : ℕ) (form : List ℕ) (len : ℕ) → len ≤ n → drop len form ≡ replicate (n + 1 - len) 0 → set form n len ≡ padded_to n (take len form)
set-padded n form len fits zeros =
    let text : List ℕ = take len form in
    let pad : List ℕ = replicate (n - len) 0 in
    let whole : n + 1 - len ≡ length form - len = sym (length-replicate (n + 1 - len) 0) ∙ sym (ap length zeros) ∙ length-drop len form in
    let text_len : length text ≡ len = omega (arith, whole, length-take len form) in
    let front : length (text ++ pad) ≡ n = omega (arith, length-append text pad, length-replicate {A = ℕ} (n - len) 0, text_len) in
    let one_more : n + 1 - len ≡ (n - len) + 1 = omega arith in
    let split : form ≡ (text ++ pad) ++ 0 ∷ [] =
    sym (take-append-drop len form)
    ∙ ap (λ rest. text ++ rest) (zeros ∙ ap (λ k. replicate k 0) one_more ∙ sym (replicate-append-replicate (n - len) 1 0))
    ∙ sym (append_assoc text pad (0 ∷ [])) in
    ap (λ l. set l n len) split
    ∙ set_at (text ++ pad) 0 [] len n front
    ∙ append_assoc text pad (len ∷ [])
    ∙ ap (λ k. text ++ (replicate (n - k) 0 ++ k ∷ [])) (sym text_len)
