-- Whole lines, and those of them that do not begin as an update's answer does.
use Rattle.std.proofs.Common.{◌≡◌, ℕ, ◌+◌, ◌≤◌, ⊎_elim, ◌==◌, Bool, true, false, cond, true≢false, List, [], ◌∷◌, ◌++◌, take, drop, refl, sym, ap, ◌∙◌, arith}
use Rattle.std.specs.Prelude.{if◌then◌else◌, codes}
use Rattle.std.specs.List.{count_by}
use Rattle.std.proofs.lemmas.Bool.{cases_eq, eq-eqb, ne_eqb}
use Rattle.std.proofs.lemmas.List.{take-append-drop}
use Rattle.std.proofs.lemmas.List.Sums.{sum_by-append}
use Rattle.run_outcome.specs.Script.{Cut, cut, behind}
use Rattle.irtree_top.specs.Acked.{begins_with, acked_by_script}

-- ---- where lines end

-- more bytes behind those that were cut
abbrev pub cut_more : Cut → List ℕ → Cut
cut_more c bytes = record { lines = c.lines ++ (cut (c.rest ++ bytes)).lines; rest = (cut (c.rest ++ bytes)).rest }

-- what stands behind some bytes is cut behind their rest
pub cut-append : (front bytes : List ℕ) → cut (front ++ bytes) ≡ cut_more (cut front) bytes
cut-append [] bytes = refl
cut-append (byte ∷ front) bytes = ⊎_elim
    (λ (e : byte ≡ 10). rw (eq-eqb byte 10 e) (ap (λ (c : Cut). record { lines = [] ∷ c.lines; rest = c.rest }) (cut-append front bytes)))
    (λ (n : byte ≡ 10 → ⊥). rw (ne_eqb byte 10 n) (ap (λ (c : Cut). behind byte c.lines c.rest) (cut-append front bytes) ∙ behind-more (cut front).lines (cut front).rest n))
    (cases_eq byte 10)
  where
    behind-more : (lines : List (List ℕ)) (rest : List ℕ) → (byte ≡ 10 → ⊥) → behind byte (lines ++ (cut (rest ++ bytes)).lines) (cut (rest ++ bytes)).rest ≡ cut_more (behind byte lines rest) bytes
    behind-more [] rest n = rw (ne_eqb byte 10 n) refl
    behind-more (line ∷ lines) rest n = refl

-- the lines of two texts, of which the first is whole lines
pub lines-append : (front bytes : List ℕ) → (cut front).rest ≡ [] → (cut (front ++ bytes)).lines ≡ (cut front).lines ++ (cut bytes).lines
lines-append front bytes whole =
    ap (λ (c : Cut). c.lines) (cut-append front bytes) ∙ ap (λ (r : List ℕ). (cut front).lines ++ (cut (r ++ bytes)).lines) whole

-- the lines of a front are the first ones
pub lines-front : (n : ℕ) (text : List ℕ) → (more : List (List ℕ)) × ((cut text).lines ≡ (cut (take n text)).lines ++ more)
lines-front n text =
    ((cut ((cut (take n text)).rest ++ drop n text)).lines, ap (λ (bytes : List ℕ). (cut bytes).lines) (sym (take-append-drop n text)) ∙ ap (λ (c : Cut). c.lines) (cut-append (take n text) (drop n text)))

-- ---- bytes within a line

-- none of the bytes is LF
abbrev pub in_line : List ℕ → Bool
in_line [] = true
in_line (byte ∷ bytes) = cond (byte == 10) false (in_line bytes)

-- nor of two texts, of which that holds
pub in_line-append : (xs ys : List ℕ) → in_line xs ≡ true → in_line ys ≡ true → in_line (xs ++ ys) ≡ true
in_line-append [] ys is also = also
in_line-append (byte ∷ xs) ys is also = split (λ e. in_line-append xs ys e also) (byte == 10) is
  where
    split : (in_line xs ≡ true → in_line (xs ++ ys) ≡ true) → (b : Bool) → cond b false (in_line xs) ≡ true → cond b false (in_line (xs ++ ys)) ≡ true
    split go true e = e
    split go false e = go e

-- bytes within a line, and LF, are a line
pub cut-line : (line : List ℕ) → in_line line ≡ true → cut (line ++ 10 ∷ []) ≡ record { lines = line ∷ []; rest = [] }
cut-line [] is = refl
cut-line (byte ∷ line) is = split (cut-line line) (byte == 10) is
  where
    split : (in_line line ≡ true → cut (line ++ 10 ∷ []) ≡ record { lines = line ∷ []; rest = [] }) → (b : Bool) → cond b false (in_line line) ≡ true
        → (if b then record { lines = [] ∷ (cut (line ++ 10 ∷ [])).lines; rest = (cut (line ++ 10 ∷ [])).rest } else behind byte (cut (line ++ 10 ∷ [])).lines (cut (line ++ 10 ∷ [])).rest)
        ≡ record { lines = (byte ∷ line) ∷ []; rest = [] }
    split go true e = absurd (true≢false (sym e))
    split go false e = ap (λ (c : Cut). behind byte c.lines c.rest) (go e)

-- ---- lines that acknowledge nothing

-- Whether the bytes are whole lines, none of which begins with `o`. At false they begin within a line.
abbrev pub is_quiet : Bool → List ℕ → Bool
is_quiet fresh [] = fresh
is_quiet true (byte ∷ bytes) = cond (byte == 111) false (is_quiet (byte == 10) bytes)
is_quiet false (byte ∷ bytes) = is_quiet (byte == 10) bytes

-- so are two texts, of which the second begins a line
pub quiet-append : (fresh : Bool) (xs ys : List ℕ) → is_quiet fresh xs ≡ true → is_quiet true ys ≡ true → is_quiet fresh (xs ++ ys) ≡ true
quiet-append true [] ys is also = also
quiet-append false [] ys is also = absurd (true≢false (sym is))
quiet-append true (byte ∷ xs) ys is also = split (λ e. quiet-append (byte == 10) xs ys e also) (byte == 111) is
  where
    split : (is_quiet (byte == 10) xs ≡ true → is_quiet (byte == 10) (xs ++ ys) ≡ true) → (b : Bool) → cond b false (is_quiet (byte == 10) xs) ≡ true → cond b false (is_quiet (byte == 10) (xs ++ ys)) ≡ true
    split go true e = e
    split go false e = go e
quiet-append false (byte ∷ xs) ys is also = quiet-append (byte == 10) xs ys is also

-- bytes within a line are passed over
pub quiet-within : (xs rest : List ℕ) → in_line xs ≡ true → is_quiet false (xs ++ rest) ≡ is_quiet false rest
quiet-within [] rest is = refl
quiet-within (byte ∷ xs) rest is = split (quiet-within xs rest) (byte == 10) is
  where
    split : (in_line xs ≡ true → is_quiet false (xs ++ rest) ≡ is_quiet false rest) → (b : Bool) → cond b false (in_line xs) ≡ true → is_quiet b (xs ++ rest) ≡ is_quiet false rest
    split go true e = absurd (true≢false (sym e))
    split go false e = go e

-- none of the lines begins with `ok`
abbrev AreQuiet : List (List ℕ) → Type 0
AreQuiet [] = Unit {0}
AreQuiet (line ∷ lines) = (begins_with (codes "ok") line ≡ false) × AreQuiet lines

-- and so behind the first one, where the bytes begin within it
abbrev AreBehind : Bool → List (List ℕ) → Type 0
AreBehind true lines = AreQuiet lines
AreBehind false [] = ⊥
AreBehind false (line ∷ lines) = AreQuiet lines

-- a byte in front of lines that go on within one
module _ (byte : ℕ) where
  -- there is a line, so the rest is as it was
  front-rest : (lines : List (List ℕ)) (rest : List ℕ) → rest ≡ [] → AreBehind false lines → (behind byte lines rest).rest ≡ []
  front-rest [] rest none are = absurd are
  front-rest (line ∷ lines) rest none are = none

  -- the first line has the byte now, the others are as they were
  front-within : (lines : List (List ℕ)) (rest : List ℕ) → AreBehind false lines → AreBehind false (behind byte lines rest).lines
  front-within [] rest are = absurd are
  front-within (line ∷ lines) rest are = are

  -- a first line that does not begin with `o` is quiet too
  front-fresh : (lines : List (List ℕ)) (rest : List ℕ) → (byte == 111) ≡ false → AreBehind false lines → AreBehind true (behind byte lines rest).lines
  front-fresh [] rest other are = absurd are
  front-fresh (line ∷ lines) rest other are = (rw other refl, are)

-- what a quiet text is cut into
quiet-cut : (fresh : Bool) (text : List ℕ) → is_quiet fresh text ≡ true → ((cut text).rest ≡ []) × AreBehind fresh (cut text).lines
quiet-cut true [] is = (refl, tt)
quiet-cut false [] is = absurd (true≢false (sym is))
quiet-cut true (byte ∷ text) is = split (λ f h. quiet-cut f text h) (byte == 111) (byte == 10) refl is
  where
    split : ((f : Bool) → is_quiet f text ≡ true → ((cut text).rest ≡ []) × AreBehind f (cut text).lines) → (o l : Bool) → (byte == 111) ≡ o → cond o false (is_quiet l text) ≡ true
        → ((if l then record { lines = [] ∷ (cut text).lines; rest = (cut text).rest } else behind byte (cut text).lines (cut text).rest).rest ≡ [])
        × AreBehind true (if l then record { lines = [] ∷ (cut text).lines; rest = (cut text).rest } else behind byte (cut text).lines (cut text).rest).lines
    split go true l first e = absurd (true≢false (sym e))
    split go false true first e = let after = go true e in (after.0, (refl, after.1))
    split go false false first e = let after = go false e in (front-rest byte (cut text).lines (cut text).rest after.0 after.1, front-fresh byte (cut text).lines (cut text).rest first after.1)
quiet-cut false (byte ∷ text) is = split (λ f h. quiet-cut f text h) (byte == 10) is
  where
    split : ((f : Bool) → is_quiet f text ≡ true → ((cut text).rest ≡ []) × AreBehind f (cut text).lines) → (l : Bool) → is_quiet l text ≡ true
        → ((if l then record { lines = [] ∷ (cut text).lines; rest = (cut text).rest } else behind byte (cut text).lines (cut text).rest).rest ≡ [])
        × AreBehind false (if l then record { lines = [] ∷ (cut text).lines; rest = (cut text).rest } else behind byte (cut text).lines (cut text).rest).lines
    split go true e = go true e
    split go false e = let after = go false e in (front-rest byte (cut text).lines (cut text).rest after.0 after.1, front-within byte (cut text).lines (cut text).rest after.1)

-- none of quiet lines is counted
quiet-none : (lines : List (List ℕ)) → AreQuiet lines → count_by (begins_with (codes "ok")) lines ≡ 0
quiet-none [] are = refl
quiet-none (line ∷ lines) are = rw are.0 (quiet-none lines are.1)

-- a quiet text is whole lines
pub quiet-whole : (text : List ℕ) → is_quiet true text ≡ true → (cut text).rest ≡ []
quiet-whole text is = (quiet-cut true text is).0

-- and acknowledges nothing
pub quiet-acked : (text : List ℕ) → is_quiet true text ≡ true → acked_by_script text ≡ 0
quiet-acked text is = quiet-none (cut text).lines (quiet-cut true text is).1

-- ---- what scripts acknowledge

-- lines are counted in two parts
counted-append : (xs ys : List (List ℕ)) → count_by (begins_with (codes "ok")) (xs ++ ys) ≡ count_by (begins_with (codes "ok")) xs + count_by (begins_with (codes "ok")) ys
counted-append xs ys = sum_by-append (λ line. cond (begins_with (codes "ok") line) 1 0) xs ys

-- a front acknowledges no more than the whole
pub acked-front : (n : ℕ) (text : List ℕ) → acked_by_script (take n text) ≤ acked_by_script text
acked-front n text =
    let front = lines-front n text in
    let whole : acked_by_script text ≡ acked_by_script (take n text) + count_by (begins_with (codes "ok")) front.0 =
    ap (count_by (begins_with (codes "ok"))) front.1 ∙ counted-append (cut (take n text)).lines front.0 in
    omega arith

-- and two texts as much as both, where the first is whole lines
pub acked-append : (front bytes : List ℕ) → (cut front).rest ≡ [] → acked_by_script (front ++ bytes) ≡ acked_by_script front + acked_by_script bytes
acked-append front bytes whole = ap (count_by (begins_with (codes "ok"))) (lines-append front bytes whole) ∙ counted-append (cut front).lines (cut bytes).lines
