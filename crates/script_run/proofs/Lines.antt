-- Lines that come piece by piece.
use Rattle.std.proofs.Common.{◌≡◌, ℕ, zero, suc, ◌-◌, ◌<◌, ◌≤◌, ⊎_elim, List, [], ◌∷◌, ◌++◌, length, take, min, refl, sym, ap, ◌∙◌, arith, append_assoc}
use Rattle.std.specs.Prelude.{Err}
use Rattle.std.proofs.lemmas.Bool.{lt-ltb, cases_lt, cases_eq, eq-eqb, ne_eqb}
use Rattle.std.proofs.lemmas.List.{take_all, take_min, length-take-le}
use Rattle.place_values.specs.State.{Contents}
use Rattle.query_replies.specs.declared.fault.LineFault.TheVariants.{Length}
use Rattle.query_lang.specs.Line.{line_of}
use Rattle.run_outcome.specs.Turn.{Turn, followed}
use Rattle.run_outcome.specs.Script.{Cut, cut, behind, turn, script}
use Rattle.script_run.specs.Feed.{kept, EndsNoLine}

-- ---- what is kept of a line

-- what is behind a front matters only as far as there is room
take-append-take : (n : ℕ) (front part : List ℕ) → take n (take n front ++ part) ≡ take n (front ++ part)
take-append-take zero front part = refl
take-append-take (suc n) [] part = refl
take-append-take (suc n) (byte ∷ front) part = ap (λ l. byte ∷ l) (take-append-take n front part)

-- as much of a part as there is room for
take-room : (room : ℕ) (line part : List ℕ) (n : ℕ) → length line ≤ room → n ≡ min (length part) (room - length line) → line ++ take n part ≡ take room (line ++ part)
take-room room [] part n l e =
    let all : n ≡ min room (length part) = omega arith in
    ap (λ k. take k part) all ∙ take_min room part
take-room zero (byte ∷ line) part n l e = absurd (omega arith)
take-room (suc room) (byte ∷ line) part n l e = ap (λ l. byte ∷ l) (take-room room line part n (omega arith) (omega arith))

-- a front of at least one byte is empty only where nothing is
take-none : (n : ℕ) (line : List ℕ) → take (suc n) line ≡ [] → line ≡ []
take-none n [] e = refl
take-none n (byte ∷ line) e = absurd (cc)

-- more bytes are no line
line_of-long : (bytes : List ℕ) → 65536 < length bytes → line_of bytes ≡ Err Length
unfolding line_of
line_of-long bytes long = rw (lt-ltb 65536 (length bytes) long) refl

-- what is cut of a line that is too long doesn't matter
long-alike : (n : ℕ) (line : List ℕ) → 65536 < n → line_of (take n line) ≡ line_of line
long-alike n line big = ⊎_elim
    (λ (l : n < length line).
    let whole : length (take n line) ≡ n = length-take-le n line (omega arith) in
    line_of-long (take n line) (omega arith) ∙ sym (line_of-long line (omega arith)))
    (λ (l : length line ≤ n). ap line_of (take_all n line l))
    (cases_lt n (length line))

-- what is kept of a line stands for what the line does
pub line-kept : (line : List ℕ) → line_of (kept line) ≡ line_of line
unfolding kept
line-kept line = long-alike 65537 line (omega arith)

-- what is kept of a line that goes on
pub kept-append : (front part : List ℕ) → kept (kept front ++ part) ≡ kept (front ++ part)
unfolding kept
kept-append front part = take-append-take 65537 front part

-- as much of a part as there is room for
pub kept-extend : (line part : List ℕ) (n : ℕ) → length line ≤ 65537 → n ≡ min (length part) (65537 - length line) → line ++ take n part ≡ kept (line ++ part)
unfolding kept
kept-extend line part n l e = take-room 65537 line part n l e

-- nothing is kept of no line alone
pub kept-none : (line : List ℕ) → kept line ≡ [] → line ≡ []
unfolding kept
kept-none line e = take-none 65536 line e

-- of no bytes nothing is kept
pub kept-nil : [] ≡ kept []
unfolding kept
kept-nil = refl

-- ---- where lines end

-- the first byte is no LF
head : (byte : ℕ) (bytes : List ℕ) → EndsNoLine (byte ∷ bytes) → byte ≡ 10 → ⊥
head byte bytes h = h 0 (omega arith)

-- nor is one of the others
tail : (byte : ℕ) (bytes : List ℕ) → EndsNoLine (byte ∷ bytes) → EndsNoLine bytes
tail byte bytes h i l = h (suc i) (omega arith)

-- bytes that end no line are the rest of what is cut
pub cut-none : (bytes : List ℕ) → EndsNoLine bytes → cut bytes ≡ record { lines = []; rest = bytes }
cut-none [] h = refl
cut-none (byte ∷ bytes) h = rw (ne_eqb byte 10 (head byte bytes h)) (ap (λ (c : Cut). behind byte c.lines c.rest) (cut-none bytes (tail byte bytes h)))

-- bytes that end no line and then an LF are a line
pub cut-ended : (front bytes : List ℕ) → EndsNoLine front → cut (front ++ 10 ∷ bytes) ≡ record { lines = front ∷ (cut bytes).lines; rest = (cut bytes).rest }
cut-ended [] bytes h = refl
cut-ended (byte ∷ front) bytes h = rw (ne_eqb byte 10 (head byte front h)) (ap (λ (c : Cut). behind byte c.lines c.rest) (cut-ended front bytes (tail byte front h)))

-- more bytes behind those that were cut
abbrev pub cut_more : Cut → List ℕ → Cut
cut_more c bytes = record { lines = c.lines ++ (cut (c.rest ++ bytes)).lines; rest = (cut (c.rest ++ bytes)).rest }

-- what is cut of bytes that go on
pub cut-append : (front bytes : List ℕ) → cut (front ++ bytes) ≡ cut_more (cut front) bytes
cut-append [] bytes = refl
cut-append (byte ∷ front) bytes = ⊎_elim
    (λ (e : byte ≡ 10). rw (eq-eqb byte 10 e) (ap (λ (c : Cut). record { lines = [] ∷ c.lines; rest = c.rest }) (cut-append front bytes)))
    (λ (n : byte ≡ 10 → ⊥). rw (ne_eqb byte 10 n) (ap (λ (c : Cut). behind byte c.lines c.rest) (cut-append front bytes) ∙ behind-more (cut front).lines (cut front).rest n))
    (cases_eq byte 10)
  where
    behind-more : (lines : List (List ℕ)) (rest : List ℕ) → (byte ≡ 10 → ⊥) → behind byte (lines ++ (cut (rest ++ bytes)).lines) (cut (rest ++ bytes)).rest ≡ cut_more (behind byte lines rest) bytes
    behind-more [] rest n = rw (ne_eqb byte 10 n) refl
    behind-more (line ∷ lines) rest n = refl

-- the rest ends no line
pub rest-EndsNoLine : (bytes : List ℕ) → EndsNoLine (cut bytes).rest
rest-EndsNoLine [] = λ i l e. absurd (omega arith)
rest-EndsNoLine (byte ∷ bytes) = ⊎_elim
    (λ (e : byte ≡ 10). rw (eq-eqb byte 10 e) (rest-EndsNoLine bytes))
    (λ (n : byte ≡ 10 → ⊥). rw (ne_eqb byte 10 n) (behind-ends (cut bytes).lines (cut bytes).rest n (rest-EndsNoLine bytes)))
    (cases_eq byte 10)
  where
    behind-ends : (lines : List (List ℕ)) (rest : List ℕ) → (byte ≡ 10 → ⊥) → EndsNoLine rest → EndsNoLine (behind byte lines rest).rest
    behind-ends [] rest n h zero l e = n e
    behind-ends [] rest n h (suc i) l e = h i (omega arith) e
    behind-ends (line ∷ lines) rest n h i l e = h i l e

-- ---- scripts

-- three turns, one behind the other
followed-assoc : (a b c : Turn) → followed (followed a b) c ≡ followed a (followed b c)
followed-assoc a b c = λ i. record { text = append_assoc a.text b.text c.text i; changes = append_assoc a.changes b.changes c.changes i; state = c.state }

-- the lines of a script in two parts
pub script-append : (state : Contents) (first next : List (List ℕ)) → script state (first ++ next) ≡ followed (script state first) (script (script state first).state next)
unfolding script
script-append state [] next = refl
script-append state (line ∷ first) next =
    let after = (turn state line).state in
    ap (followed (turn state line)) (script-append after first next)
    ∙ sym (followed-assoc (turn state line) (script after first) (script (script after first).state next))

-- no line says or does anything
pub script-none : (state : Contents) → script state [] ≡ record { text = []; changes = []; state = state }
unfolding script
script-none state = refl

-- a part that ends a line of which nothing came before
pub line-fresh : (line front part : List ℕ) → line ≡ [] → line ≡ kept front → part ≡ front ++ part
line-fresh line front part none is = ap (λ f. f ++ part) (sym (kept-none front (sym is ∙ none)))

-- a part that ends a line of which a front is kept
pub line-ended : (line whole front part : List ℕ) → whole ≡ kept (line ++ part) → line ≡ kept front → line_of whole ≡ line_of (front ++ part)
line-ended line whole front part all is =
    ap line_of (all ∙ ap (λ l. kept (l ++ part)) is ∙ kept-append front part) ∙ line-kept (front ++ part)
