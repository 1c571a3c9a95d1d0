-- Comparing the 66 bytes of two keys compares their texts or numbers.
use Rattle.std.proofs.Common.{◌≡◌, ℕ, zero, suc, ◌+◌, ◌-◌, ◌*◌, ◌/◌, ◌%◌, ◌<◌, ◌≤◌, ◌^◌, List, [], ◌∷◌, ◌++◌, length, replicate, refl, sym, ap, ◌∙◌, arith, ⊎_elim}
use Rattle.std.specs.declared.cmp.Ordering.{Ordering}
use Rattle.std.specs.declared.cmp.Ordering.TheVariants.{Less, Equal, Greater}
use Rattle.std.specs.Ordering.{nat_cmp, ordering_then, ordering_reverse}
use Rattle.std.specs.Cmp.{nat_cmp_is}
use Rattle.std.specs.Cmp.Lexicographic.{slice_cmp}
use Rattle.std.specs.Int.{w64, to_be_bytes, bytes_high_first, byte_at}
use Rattle.std.proofs.lemmas.Bool.{cases_order}
use Rattle.std.proofs.lemmas.Cmp.{nat_cmp_total, nat_list_cmp_total, ranked, tied_itself}
use Rattle.std.proofs.lemmas.Nat.{div-add-mod', mod-mul-add, mul-le}
use Rattle.std.proofs.Math.Nat.{pow-suc, mod-lt}
use native.Mathlib.Numerals.{unary_clauses}
use Rattle.spatial_base.specs.Key.{Name, Text, Auto, IsName, key_cmp, form_of, name_in, padded}
use Rattle.spatial_base.proofs.Names.{IsName-had}

less : (m n : ℕ) → m < n → nat_cmp m n ≡ Less
less m n h = sym (nat_cmp_is m n Less h)

level : (m n : ℕ) → m ≡ n → nat_cmp m n ≡ Equal
level m n h = sym (nat_cmp_is m n Equal h)

greater : (m n : ℕ) → n < m → nat_cmp m n ≡ Greater
greater m n h = sym (nat_cmp_is m n Greater h)

-- zeros and a lesser length come before any bytes with a greater one
zeros_first : (width : ℕ) (bs : List ℕ) (m n : ℕ) → length bs ≤ width → m < n → slice_cmp nat_cmp (replicate width 0 ++ m ∷ []) (padded width bs ++ n ∷ []) ≡ Less
zeros_first zero [] m n l h = rw (less m n h) refl
zeros_first zero (b ∷ bs) m n l h = absurd (omega arith)
zeros_first (suc width) [] m n l h =
    let one_more : suc width - 0 ≡ suc (width - 0) = omega arith in
    ap (λ w. slice_cmp nat_cmp (replicate (suc width) 0 ++ m ∷ []) (replicate w 0 ++ n ∷ [])) one_more ∙ zeros_first width [] m n (omega arith) h
zeros_first (suc width) (zero ∷ bs) m n l h = simp unary_clauses (zeros_first width bs m n (omega arith) h)
zeros_first (suc width) (suc b ∷ bs) m n l h = rw (less 0 (suc b) (omega arith)) refl

-- what begins alike is compared behind that
same_front : (front xs ys : List ℕ) → slice_cmp nat_cmp (front ++ xs) (front ++ ys) ≡ slice_cmp nat_cmp xs ys
same_front [] xs ys = refl
same_front (b ∷ front) xs ys = rw (level b b refl) (same_front front xs ys)

-- what the order of two numbers says of them
lesser : (m n : ℕ) → nat_cmp m n ≡ Less → m < n
lesser m n e = ranked m n Less (sym e)

-- a text of no byte against any
none_cmp : (width : ℕ) (ys : List ℕ) (m n : ℕ) → length ys ≤ width → nat_cmp m n ≡ nat_cmp 0 (length ys) → slice_cmp nat_cmp (padded width [] ++ m ∷ []) (padded width ys ++ n ∷ []) ≡ slice_cmp nat_cmp [] ys
none_cmp width [] m n l e = same_front (padded width []) (m ∷ []) (n ∷ []) ∙ rw e refl
none_cmp width (y ∷ ys) m n l e =
    let all : width - 0 ≡ width = omega arith in
    ap (λ w. slice_cmp nat_cmp (replicate w 0 ++ m ∷ []) (padded width (y ∷ ys) ++ n ∷ [])) all
    ∙ zeros_first width (y ∷ ys) m n l (lesser m n (e ∙ less 0 (length (y ∷ ys)) (omega arith)))

-- texts of one width, with their lengths behind them, compare as the texts do
padded_cmp : (width : ℕ) (xs ys : List ℕ) (m n : ℕ) → length xs ≤ width → length ys ≤ width → nat_cmp m n ≡ nat_cmp (length xs) (length ys) → slice_cmp nat_cmp (padded width xs ++ m ∷ []) (padded width ys ++ n ∷ []) ≡ slice_cmp nat_cmp xs ys
padded_cmp width [] ys m n l k e = none_cmp width ys m n k e
padded_cmp width (x ∷ xs) [] m n l k e =
    nat_list_cmp_total.antisymm (padded width (x ∷ xs) ++ m ∷ []) (padded width [] ++ n ∷ [])
    ∙ ap ordering_reverse (none_cmp width (x ∷ xs) n m l (nat_cmp_total.antisymm n m ∙ ap ordering_reverse e ∙ sym (nat_cmp_total.antisymm 0 (length (x ∷ xs)))))
padded_cmp zero (x ∷ xs) (y ∷ ys) m n l k e = absurd (omega arith)
padded_cmp (suc width) (x ∷ xs) (y ∷ ys) m n l k e =
    simp unary_clauses (ap (ordering_then (nat_cmp x y)) (padded_cmp width xs ys m n (omega arith) (omega arith) (e ∙ shorter (length xs) (length ys))))
  where
    shorter : (a b : ℕ) → nat_cmp (suc a) (suc b) ≡ nat_cmp a b
    shorter a b = ⊎_elim
        (λ (c : a ≡ b). level (suc a) (suc b) (ap suc c) ∙ sym (level a b c))
        (⊎_elim (λ (c : a < b). less (suc a) (suc b) (omega arith) ∙ sym (less a b c)) (λ (c : b < a). greater (suc a) (suc b) (omega arith) ∙ sym (greater a b c)))
        (cases_order a b)

-- a digit and what follows it
weighed : (g h k l unit : ℕ) → k < unit → l < unit → ordering_then (nat_cmp g h) (nat_cmp k l) ≡ nat_cmp (g * unit + k) (h * unit + l)
weighed g h k l unit p q = ⊎_elim
    (λ (e : g ≡ h). rw (level g h e) (alike k l (h * unit) ∙ ap (λ a. nat_cmp (a * unit + k) (h * unit + l)) (sym e)))
    (⊎_elim
    (λ (a : g < h).
    let m : (g + 1) * unit ≤ h * unit = mul-le (g + 1) unit h unit (omega arith) (omega arith) in
    let below : g * unit + k < h * unit + l = omega arith in
    rw (less g h a) (sym (less (g * unit + k) (h * unit + l) below)))
    (λ (b : h < g).
    let m : (h + 1) * unit ≤ g * unit = mul-le (h + 1) unit g unit (omega arith) (omega arith) in
    let above : h * unit + l < g * unit + k = omega arith in
    rw (greater g h b) (sym (greater (g * unit + k) (h * unit + l) above))))
    (cases_order g h)
  where
    alike : (a b c : ℕ) → nat_cmp a b ≡ nat_cmp (c + a) (c + b)
    alike a b c = ⊎_elim
        (λ (e : a ≡ b). level a b e ∙ sym (level (c + a) (c + b) (ap (λ x. c + x) e)))
        (⊎_elim (λ (e : a < b). less a b e ∙ sym (less (c + a) (c + b) (omega arith))) (λ (e : b < a). greater a b e ∙ sym (greater (c + a) (c + b) (omega arith))))
        (cases_order a b)

-- a byte of a number, whichever it is
byte_is : (k n : ℕ) → byte_at k n ≡ n / 256 ^ k % 256
byte_is zero n = ap (λ m. m % 256) (omega arith)
byte_is (suc k) n = refl

unit_pos : (k : ℕ) → 0 < 256 ^ k
unit_pos zero = omega arith
unit_pos (suc k) = rw (pow-suc 256 k) (omega (arith, unit_pos k))

-- the next byte goes in front of those below it
low_bytes : (k n : ℕ) → byte_at k n * 256 ^ k + n % 256 ^ k ≡ n % 256 ^ suc k
low_bytes k n =
    let unit : ℕ = 256 ^ k in
    let high : ℕ = n / unit in
    let more : 256 ^ suc k ≡ unit * 256 = pow-suc 256 k in
    let some : 0 < unit = unit_pos k in
    let rest : n % unit < unit = mod-lt n some in
    let byte : high % 256 < 256 = omega arith in
    let split : high / 256 * 256 + high % 256 ≡ high = div-add-mod' high 256 in
    let whole : high * unit + n % unit ≡ n = div-add-mod' n unit in
    let low : high % 256 * unit + n % unit < 256 ^ suc k = rw more (let m = mul-le (high % 256 + 1) unit 256 unit (omega arith) (omega arith) in omega (arith, m)) in
    let sum : high / 256 * 256 ^ suc k + (high % 256 * unit + n % unit) ≡ n = rw more (let parts : (high / 256 * 256 + high % 256) * unit ≡ high * unit = ap (λ a. a * unit) split in omega (arith, parts, whole)) in
    ap (λ b. b * unit + n % unit) (byte_is k n)
    ∙ sym (mod-mul-add (high / 256) (256 ^ suc k) (high % 256 * unit + n % unit) low)
    ∙ ap (λ a. a % 256 ^ suc k) sum

-- bytes with the highest first compare as the numbers that they spell
digits_cmp : (k m n : ℕ) (rest : List ℕ) → slice_cmp nat_cmp (bytes_high_first k m ++ rest) (bytes_high_first k n ++ rest) ≡ nat_cmp (m % 256 ^ k) (n % 256 ^ k)
digits_cmp zero m n rest = tied_itself nat_list_cmp_total rest ∙ sym (level (m % 256 ^ 0) (n % 256 ^ 0) (omega arith))
digits_cmp (suc k) m n rest =
    ap (ordering_then (nat_cmp (byte_at k m) (byte_at k n))) (digits_cmp k m n rest)
    ∙ weighed (byte_at k m) (byte_at k n) (m % 256 ^ k) (n % 256 ^ k) (256 ^ k) (mod-lt m (unit_pos k)) (mod-lt n (unit_pos k))
    ∙ ap (λ a. nat_cmp a (byte_at k n * 256 ^ k + n % 256 ^ k)) (low_bytes k m)
    ∙ ap (nat_cmp (m % 256 ^ suc k)) (low_bytes k n)

-- eight bytes of a number compare as the number does
number_cmp : (m n : ℕ) → m < 2 ^ 64 → n < 2 ^ 64 → slice_cmp nat_cmp (padded 64 (to_be_bytes w64 m) ++ 8 ∷ []) (padded 64 (to_be_bytes w64 n) ++ 8 ∷ []) ≡ nat_cmp m n
number_cmp m n l k =
    let whole : (a : ℕ) → a < 2 ^ 64 → a % 256 ^ 8 ≡ a = λ a h. omega arith in
    digits_cmp 8 m n (replicate 56 0 ++ 8 ∷ []) ∙ ap (λ a. nat_cmp a (n % 256 ^ 8)) (whole m l) ∙ ap (nat_cmp m) (whole n k)

-- the bytes compare as the keys do
pub form_cmp : (a b : Name) → IsName a → IsName b → slice_cmp nat_cmp (form_of a) (form_of b) ≡ key_cmp a b
form_cmp (Text xs) (Text ys) h k = padded_cmp 64 xs ys (length xs) (length ys) h.1 k.1 refl ∙ then_level (slice_cmp nat_cmp xs ys)
  where
    then_level : (o : Ordering) → o ≡ ordering_then o Equal
    then_level Less = refl
    then_level Equal = refl
    then_level Greater = refl
form_cmp (Text xs) (Auto n) h k = refl
form_cmp (Auto m) (Text ys) h k = refl
form_cmp (Auto m) (Auto n) h k = number_cmp m n h k

-- the bytes of two keys compare as the keys do
pub bytes_cmp : (xs ys : List ℕ) (a b : Name) → form_of (name_in xs) ≡ xs → form_of (name_in ys) ≡ ys → ∥ IsName (name_in xs) ∥₁ → ∥ IsName (name_in ys) ∥₁ → name_in xs ≡ a → name_in ys ≡ b → slice_cmp nat_cmp xs ys ≡ key_cmp a b
bytes_cmp xs ys a b f g h k p q =
    ap (λ s. slice_cmp nat_cmp s ys) (sym f) ∙ ap (slice_cmp nat_cmp (form_of (name_in xs))) (sym g)
    ∙ form_cmp (name_in xs) (name_in ys) (IsName-had (name_in xs) h) (IsName-had (name_in ys) k)
    ∙ ap (λ n. key_cmp n (name_in ys)) p ∙ ap (key_cmp a) q
