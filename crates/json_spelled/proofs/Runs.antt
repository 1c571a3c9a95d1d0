-- What bytes of a text do to the state, whatever whole characters came before the text.
use Rattle.std.proofs.Common.{◌≡◌, ◌<◌, ◌≤◌, ℕ, zero, suc, ◌+◌, ◌-◌, List, [], ◌∷◌, ◌++◌, length, take, drop, get_or, Option, Some, None, Result, Ok, Err, false, refl, sym, ap, ◌∙◌, subst, arith, append_assoc, append-nil, drop-cons, length-append, length-take, get_or-append-add}
use Rattle.std.specs.Prelude.{string_bytes, is_err}
use Rattle.std.specs.Str.{IsUtf8, IsCharBoundary}
use Rattle.std.proofs.lemmas.Str.{IsUtf8-append, IsUtf8-nil, IsCharBoundary-after_ascii}
use Rattle.std.proofs.lemmas.Bool.{cases_lt}
use Rattle.std.proofs.lemmas.List.{take-append-drop, take_all}
use Rattle.std.proofs.Math.Logic.{⊎_elim}
use Rattle.std.proofs.Math.Seq.{take-append-add, take-append_seam}
use Rattle.json_spelled.specs.Grammar.{Begins, alone}
use Rattle.json_spelled.specs.Machine.{Frame, Use, State, InText, InBytes, step}
use Rattle.json_spelled.specs.Reader.{Goes, use_of, around, state_of, state_by, Fails, Makes}
use Rattle.json_spelled.specs.Reading.{ReadsSo, StopsAt, refusal_of}
use Rattle.json_spelled.specs.Refusals.{level_limit, BeginsSome}
use Rattle.json_spelled.proofs.Depth.{deep_small}
use Rattle.json_spelled.proofs.Kept.{KeptBy, kept, cut_refused, cut_whole, one_more, front_text}
use Rattle.json_spelled.proofs.Steps.{reads_more}
use Rattle.json_spelled.proofs.Texts.{begins, begins_none, begins_none_within, one_on}
use Rattle.json_spelled.specs.Feeding.{IsTaken, Leads, Stops, Reads, StopsFrom}
use Rattle.json_spelled.specs.declared.fault.StepFault.{StepFault}
use Rattle.json_spelled.specs.declared.fault.StepFault.TheVariants as steps
use Rattle.json_spelled.specs.declared.lexeme.Lexeme.{Lexeme}
use Rattle.json_spelled.specs.declared.lexeme.Lexeme.TheVariants as lexemes
use Rattle.json_spelled.specs.declared.reader.Reader.{Reader}
use Rattle.json_spelled.proofs.Bytes.{high_no_text}

-- a front and the byte behind it
take_next : (xs ys : List ℕ) (y : ℕ) → take (suc (length xs)) (xs ++ y ∷ ys) ≡ xs ++ y ∷ []
take_next [] ys y = refl
take_next (x ∷ xs) ys y = ap (λ (l : List ℕ). x ∷ l) (take_next xs ys y)

-- a byte behind a front isn't taken
stops : (front rest : List ℕ) (byte : ℕ) (state : State) (fault : StepFault) → IsUtf8 (front ++ byte ∷ rest) → ReadsSo front state → Fails (λ levels. step levels state byte) fault
    → StopsAt (front ++ byte ∷ rest) (refusal_of fault (length front))
stops front rest byte state steps.Refused whole r fails =
    let here : take (length front) (front ++ byte ∷ rest) ≡ front = take-append_seam front (byte ∷ rest) in
    let next : take (suc (length front)) (front ++ byte ∷ rest) ≡ front ++ byte ∷ [] = take_next front rest byte in (
      omega (arith, length-append front (byte ∷ rest)),
      subst (Begins level_limit) (sym here) (begins 64 front state (λ more. r.leads 64 more (omega arith)) (cut_refused 64 front rest state byte whole r.keeps (fails 64 (omega arith)))),
      (λ h. begins_none (front ++ byte ∷ []) (λ levels more k. one_on levels front byte more state None (λ more. r.leads levels more k) (fails levels k)) (subst BeginsSome next h)),
    )
stops front rest byte state steps.TooDeep whole r (full, (levels, next, wide, goes)) =
    let here : take (length front) (front ++ byte ∷ rest) ≡ front = take-append_seam front (byte ∷ rest) in
    let more : take (suc (length front)) (front ++ byte ∷ rest) ≡ front ++ byte ∷ [] = take_next front rest byte in
    let small : byte < 128 = deep_small 64 levels state next byte full goes in
    let keeps : KeptBy (front ++ byte ∷ []) (Some next) = subst (KeptBy (front ++ byte ∷ [])) goes (kept levels front rest state byte whole r.keeps) in
    let text : IsUtf8 (front ++ byte ∷ []) = one_more front byte small (front_text front rest byte small whole) in (
      omega (arith, length-append front (byte ∷ rest)),
      subst (Begins level_limit) (sym here) (begins 64 front state (λ rest. r.leads 64 rest (omega arith)) (cut_refused 64 front rest state byte whole r.keeps full)),
      subst BeginsSome (sym more) (levels, begins levels (front ++ byte ∷ []) next (λ rest. one_on levels front byte rest state (Some next) (λ rest. r.leads levels rest wide) goes) (cut_whole (front ++ byte ∷ []) next text keeps)),
      (λ h. begins_none_within (front ++ byte ∷ []) (λ rest. one_on 64 front byte rest state None (λ rest. r.leads 64 rest (omega arith)) full) (subst (Begins level_limit) more h)),
    )
stops front rest byte state steps.Memory whole r fails = tt

-- a text is cut at a byte
pub cut_text : (front text : List ℕ) (i : ℕ) → i < length text → (front ++ take i text) ++ (get_or text i 0 ∷ drop (suc i) text) ≡ front ++ text
cut_text front text i h = append_assoc front (take i text) (get_or text i 0 ∷ drop (suc i) text)
    ∙ ap (λ x. front ++ (take i text ++ x)) (sym (drop-cons text i 0 h)) ∙ ap (λ x. front ++ x) (take-append-drop i text)

-- one byte is taken
pub byte_leads : (text : List ℕ) (i : ℕ) (s t : State) → i < length text → IsUtf8 text → Goes (λ levels. step levels s (get_or text i 0)) t → Leads text i (i + 1) s t
byte_leads text i s t short u goes = λ front v r.
    let all = front ++ text in
    let n = length front + i in
    let here : take n all ≡ front ++ take i text = take-append-add front text i in
    let m : suc n ≡ length front + (i + 1) = omega arith in
    let next : take (suc n) all ≡ front ++ take (i + 1) text = ap (λ k. take k all) m ∙ take-append-add front text (i + 1) in
    let byte : get_or all n 0 ≡ get_or text i 0 = get_or-append-add front text i 0 in
    subst (λ (x : List ℕ). ReadsSo x t) next
    (reads_more all n s t (omega (arith, length-append front text)) (IsUtf8-append front text v u) (subst (λ (x : List ℕ). ReadsSo x s) (sym here) r)
    (subst (λ (b : ℕ). Goes (λ levels. step levels s b) t) (sym byte) goes))

-- one byte isn't
pub byte_stops : (text : List ℕ) (i : ℕ) (s : State) (fault : StepFault) → i < length text → IsUtf8 text → Fails (λ levels. step levels s (get_or text i 0)) fault → Stops text i s fault
byte_stops text i s fault short u fails = λ front v r.
    let cut : (front ++ take i text) ++ (get_or text i 0 ∷ drop (suc i) text) ≡ front ++ text = cut_text front text i short in
    let n : length (front ++ take i text) ≡ length front + i = omega (arith, length-append front (take i text), length-take i text) in
    let whole : IsUtf8 ((front ++ take i text) ++ (get_or text i 0 ∷ drop (suc i) text)) = subst IsUtf8 (sym cut) (IsUtf8-append front text v u) in
    subst (λ (x : List ℕ). StopsAt x (refusal_of fault (length front + i))) cut
    (subst (λ (k : ℕ). StopsAt ((front ++ take i text) ++ (get_or text i 0 ∷ drop (suc i) text)) (refusal_of fault k)) n
    (stops (front ++ take i text) (drop (suc i) text) (get_or text i 0) s fault whole r fails))

-- the same where nothing came before the text
pub text_stops : (text : List ℕ) (i : ℕ) (s : State) (fault : StepFault) → i < length text → IsUtf8 text → ReadsSo (take i text) s → Fails (λ levels. step levels s (get_or text i 0)) fault → StopsAt text (refusal_of fault i)
text_stops text i s fault short u r fails =
    let e : 0 + i ≡ i = omega arith in subst (λ (k : ℕ). StopsAt text (refusal_of fault k)) e (byte_stops text i s fault short u fails [] IsUtf8-nil r)

-- so many bytes from an index on are taken as they are
abbrev pub AreTaken : List ℕ → ℕ → ℕ → Type 0
AreTaken text i n = (k : ℕ) → i ≤ k → k < i + n → IsTaken (get_or text k 0)

-- the bytes from an index on begin with the byte there
take_cons : (text : List ℕ) (i n : ℕ) → i < length text → take (suc n) (drop i text) ≡ get_or text i 0 ∷ take n (drop (i + 1) text)
take_cons text i n h = ap (take (suc n)) (drop-cons text i 0 h) ∙ ap (λ k. get_or text i 0 ∷ take n (drop k text)) (let e : suc i ≡ i + 1 = omega arith in e)

-- a run behind a byte
run_on : (text : List ℕ) (n i : ℕ) (use' : Use) (token : List ℕ) (frames : List Frame) → i + n ≤ length text → IsUtf8 text → AreTaken text i n
    → Leads text i (i + n) (InText use' InBytes token None frames) (InText use' InBytes (token ++ take n (drop i text)) None frames)
run_on text zero i use' token frames within u plain = λ front v r.
    let e : i + 0 ≡ i = omega arith in
    subst (λ (k : ℕ). ReadsSo (front ++ take k text) (InText use' InBytes (token ++ []) None frames)) (sym e)
    (subst (λ (x : List ℕ). ReadsSo (front ++ take i text) (InText use' InBytes x None frames)) (sym (append-nil token)) r)
run_on text (suc n) i use' token frames within u plain = λ front v r.
    let short : i < length text = omega arith in
    let byte = get_or text i 0 in
    let first : ReadsSo (front ++ take (i + 1) text) (InText use' InBytes ((token ++ []) ++ byte ∷ []) None frames) =
    byte_leads text i (InText use' InBytes token None frames) (InText use' InBytes ((token ++ []) ++ byte ∷ []) None frames) short u
    (λ levels h. plain i (omega arith) (omega arith) levels use' token None frames) front v r in
    let rest : ReadsSo (front ++ take ((i + 1) + n) text) (InText use' InBytes (((token ++ []) ++ byte ∷ []) ++ take n (drop (i + 1) text)) None frames) =
    run_on text n (i + 1) use' ((token ++ []) ++ byte ∷ []) frames (omega arith) u (λ k low high. plain k (omega arith) (omega arith)) front v first in
    let says : ((token ++ []) ++ byte ∷ []) ++ take n (drop (i + 1) text) ≡ token ++ take (suc n) (drop i text) =
    ap (λ (x : List ℕ). (x ++ byte ∷ []) ++ take n (drop (i + 1) text)) (append-nil token) ∙ append_assoc token (byte ∷ []) (take n (drop (i + 1) text))
    ∙ ap (λ (x : List ℕ). token ++ x) (sym (take_cons text i n short)) in
    let e : (i + 1) + n ≡ i + suc n = omega arith in
    subst (λ (k : ℕ). ReadsSo (front ++ take k text) (InText use' InBytes (token ++ take (suc n) (drop i text)) None frames)) e
    (subst (λ (x : List ℕ). ReadsSo (front ++ take ((i + 1) + n) text) (InText use' InBytes x None frames)) says rest)

-- a run of bytes that a string takes as they are
run_from : (text : List ℕ) (n i : ℕ) (use' : Use) (token : List ℕ) (high : Option ℕ) (frames : List Frame) → i + suc n ≤ length text → IsUtf8 text → AreTaken text i (suc n)
    → Leads text i (i + suc n) (InText use' InBytes token high frames) (InText use' InBytes ((token ++ alone high) ++ take (suc n) (drop i text)) None frames)
run_from text n i use' token high frames within u plain = λ front v r.
    let short : i < length text = omega arith in
    let byte = get_or text i 0 in
    let first : ReadsSo (front ++ take (i + 1) text) (InText use' InBytes ((token ++ alone high) ++ byte ∷ []) None frames) =
    byte_leads text i (InText use' InBytes token high frames) (InText use' InBytes ((token ++ alone high) ++ byte ∷ []) None frames) short u
    (λ levels h. plain i (omega arith) (omega arith) levels use' token high frames) front v r in
    let rest : ReadsSo (front ++ take ((i + 1) + n) text) (InText use' InBytes (((token ++ alone high) ++ byte ∷ []) ++ take n (drop (i + 1) text)) None frames) =
    run_on text n (i + 1) use' ((token ++ alone high) ++ byte ∷ []) frames (omega arith) u (λ k low above. plain k (omega arith) (omega arith)) front v first in
    let says : ((token ++ alone high) ++ byte ∷ []) ++ take n (drop (i + 1) text) ≡ (token ++ alone high) ++ take (suc n) (drop i text) =
    append_assoc (token ++ alone high) (byte ∷ []) (take n (drop (i + 1) text)) ∙ ap (λ (x : List ℕ). (token ++ alone high) ++ x) (sym (take_cons text i n short)) in
    let e : (i + 1) + n ≡ i + suc n = omega arith in
    subst (λ (k : ℕ). ReadsSo (front ++ take k text) (InText use' InBytes ((token ++ alone high) ++ take (suc n) (drop i text)) None frames)) e
    (subst (λ (x : List ℕ). ReadsSo (front ++ take ((i + 1) + n) text) (InText use' InBytes x None frames)) says rest)

-- what only memory could have kept from a state leads to it
pub made_of : {A : Type 0} (r : Result A StepFault) (wanted new : State) → is_err r ≡ false → Makes r wanted new → new ≡ wanted
made_of (Ok a) wanted new e h = h
made_of (Err fault) wanted new e h = absurd (cc e)

-- the same of a reader in a string
run_by : (text : List ℕ) (n i j : ℕ) (lexeme : Lexeme) (r : Reader) (new : State) → lexeme ≡ lexemes.Text → IsUtf8 text → j ≡ i + n → i < j → j ≤ length text
    → AreTaken text i n → new ≡ InText (use_of r.place) InBytes ((string_bytes r.token ++ alone r.high) ++ take n (drop i text)) None (around r)
    → Leads text i j (state_by lexeme r) new
run_by text zero i j lexeme r new is u e some within plain made = absurd (omega arith)
run_by text (suc n) i j lexeme r new is u e some within plain made = rw (is, e, made)
    (run_from text n i (use_of r.place) (string_bytes r.token) r.high (around r) (omega arith) u plain)

pub run_leads : (text : List ℕ) (i j : ℕ) (r : Reader) (new : State) → r.lexeme ≡ lexemes.Text → IsUtf8 text → i < j → j ≤ length text
    → ((k : ℕ) → i ≤ k → k < j → IsTaken (get_or text k 0))
    → new ≡ InText (use_of r.place) InBytes ((string_bytes r.token ++ alone r.high) ++ take (j - i) (drop i text)) None (around r)
    → Leads text i j (state_of r) new
run_leads text i j r new is u some within plain made =
    run_by text (j - i) i j r.lexeme r new is u (omega arith) some within (λ k low high. plain k low (omega arith)) made

-- where a byte was taken and a string is open the text may be cut
pub byte_boundary : (text : List ℕ) (i : ℕ) (old new : Reader) → IsUtf8 text → i < length text → (old.lexeme ≡ lexemes.Text → get_or text i 0 < 128)
    → Goes (λ levels. step levels (state_of old) (get_or text i 0)) (state_of new) → new.lexeme ≡ lexemes.Text → IsCharBoundary text (i + 1)
byte_boundary text i old new u short ascii goes open' = ⊎_elim
    (λ (low : get_or text i 0 < 128). IsCharBoundary-after_ascii text i u short low)
    (λ (high : 128 ≤ get_or text i 0). absurd (high_no_text (get_or text i 0) old new high ascii (goes 64 (omega arith)) open'))
    (cases_lt (get_or text i 0) 128)

-- one stretch of the text, and then another
pub leads_on : (text : List ℕ) (i j : ℕ) (s t w : State) → Reads (take i text) s t → Leads text i j t w → Reads (take j text) s w
leads_on text i j s t w h k = λ front u r. k front u (h front u r)

-- all of it
pub leads_all : (text : List ℕ) (i : ℕ) (s t : State) → length text ≤ i → Reads (take i text) s t → Reads text s t
leads_all text i s t all h = subst (λ (x : List ℕ). Reads x s t) (take_all i text all) h

-- nothing
pub leads_none : (text : List ℕ) (s : State) → Reads (take 0 text) s s
leads_none text s = λ front u r. subst (λ (x : List ℕ). ReadsSo x s) (sym (append-nil front)) r

-- where a stretch was read and the next byte isn't taken
pub stops_on : (text : List ℕ) (i at : ℕ) (s t : State) (fault : StepFault) → Reads (take i text) s t → Stops text i t fault → StopsFrom text at s (refusal_of fault (at + i))
stops_on text i at s t fault h k = λ front u e r. rw e (k front u (h front u r))

-- where the next byte is ASCII, if there is one, the text may be cut
pub plain_boundary : (text : List ℕ) (n : ℕ) → n ≤ length text → (n < length text → get_or text n 0 < 128) → IsCharBoundary text n
plain_boundary text n within small = (within, λ less big. absurd (omega (arith, small less)))
