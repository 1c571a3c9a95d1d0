-- Each text of bytes is a JSON text or has a first offence.
use Rattle.std.proofs.Common.{◌≡◌, ◌≢◌, ℕ, zero, suc, ◌+◌, ◌<◌, ◌≤◌, ◌⊎◌, Bool, true, false, cond, List, [], ◌∷◌, length, take, get_or, Option, Some, None, refl, ap, ◌∙◌, subst, arith, inl, inr, nat_eq, nat_lt}
use Rattle.std.specs.Str.{IsUtf8}
use Rattle.std.proofs.lemmas.Bool.Decides.{nat_tests}
use Rattle.std.proofs.Math.Logic.{⊎_elim}
use Rattle.json_spelled.specs.Json.{Json}
use Rattle.json_spelled.specs.Grammar.{IsText}
use Rattle.json_spelled.specs.Kind.{kind}
use Rattle.json_spelled.specs.Machine as machine
use Rattle.json_spelled.specs.Machine.{Frame, InList, Place, Start, Mark1, FirstItem, FirstName, State, Between, InWord, InNumber, InText, finish, goes_on, open_at, begin, first_item, between, step_by, start}
use Rattle.json_spelled.specs.Reader.{Goes, Fails}
use Rattle.json_spelled.specs.Reading.{ReadsSo, StopsAt, Gives, IsValidLength}
use Rattle.json_spelled.specs.Refusals.{level_limit, IsFirstOffence}
use Rattle.json_spelled.specs.declared.tree.JsonFault.{JsonFault}
use Rattle.json_spelled.specs.declared.tree.JsonFault.TheVariants.{NotUtf8, Syntax, TooDeep, Memory}
use Rattle.json_spelled.specs.declared.fault.StepFault.TheVariants as steps
use Rattle.json_spelled.specs.declared.kind.Kind.{Kind}
use Rattle.json_spelled.specs.declared.kind.Kind.TheVariants as kinds
use Rattle.json_spelled.proofs.Attempts.{opened_deep}
use Rattle.json_spelled.proofs.Steps.{reads_none, reads_more, reads_all}
use Rattle.json_spelled.proofs.Runs.{text_stops}
use Rattle.json_spelled.proofs.Offences.{stopped, gives_ill, gives_value, gives_end}
use Rattle.json_spelled.proofs.Depth.{same_number}
use Rattle.json_spelled.proofs.Cuts.{front_len, front_valid}

-- an attempt goes to a state, or fails for a cause
abbrev Tested : (ℕ → Option State) → Type 0
Tested attempt = ((next : State) × Goes attempt next) ⊎ (Fails attempt steps.Refused ⊎ Fails attempt steps.TooDeep)

-- an attempt that is alike at all numbers of levels
alike : (attempt : ℕ → Option State) (o : Option State) → attempt 64 ≡ o → ((levels more : ℕ) → attempt levels ≡ attempt more) → Tested attempt
alike attempt (Some next) e same = inl (next, λ levels h. same levels 64 ∙ e)
alike attempt None e same = inr (inl (λ levels h. same levels 64 ∙ e))

-- a level more is opened, or is too many, by a test
opened_or_not : (place : Place) (frames : List Frame) (b : Bool) → nat_lt (length frames) 64 ≡ b → Tested (λ levels. open_at levels place frames)
opened_or_not place frames true e = inl (
  Between place frames,
  (λ levels h. let fits : nat_lt (length frames) levels ≡ true = grind (arith, nat_tests) in ap (λ b. cond b (Some (Between place frames)) None) fits),
)
opened_or_not place frames false e = let deep : 64 ≤ length frames = grind (arith, nat_tests) in inr (inr (opened_deep place frames deep))

-- a level more is opened, or is too many
tested_open : (place : Place) (frames : List Frame) → Tested (λ levels. open_at levels place frames)
tested_open place frames = opened_or_not place frames (nat_lt (length frames) 64) refl

-- a value begins, or doesn't
tested_begin : (frames : List Frame) (byte : ℕ) (k : Kind) → Tested (λ levels. begin levels frames k byte)
tested_begin frames byte kinds.OpenList = tested_open FirstItem frames
tested_begin frames byte kinds.OpenObject = tested_open FirstName frames
tested_begin frames byte k = alike (λ levels. begin levels frames k byte) (begin 64 frames k byte) refl (λ l m. refl)

-- so does the first item of an array
tested_first : (frames : List Frame) (byte : ℕ) (k : Kind) → Tested (λ levels. first_item levels frames k byte)
tested_first frames byte kinds.Blank = inl (Between FirstItem frames, λ levels h. refl)
tested_first frames byte kinds.Break = inl (Between FirstItem frames, λ levels h. refl)
tested_first frames byte kinds.CloseList = alike (λ levels. first_item levels frames kinds.CloseList byte) (first_item 64 frames kinds.CloseList byte) refl (λ l m. refl)
tested_first frames byte k = tested_begin (InList [] ∷ frames) byte k

-- a byte order mark begins, or what else may
tested_start : (b : Bool) (frames : List Frame) (byte : ℕ) (k : Kind) → Tested (λ levels. cond b (Some (Between Mark1 frames)) (begin levels frames k byte))
tested_start true frames byte k = inl (Between Mark1 frames, λ levels h. refl)
tested_start false frames byte k = tested_begin frames byte k

-- where no token is open
tested_place : (place : Place) (frames : List Frame) (byte : ℕ) (k : Kind) → Tested (λ levels. between levels place frames k byte)
tested_place Start frames byte k = tested_start (nat_eq byte 239) frames byte k
tested_place machine.Value frames byte k = tested_begin frames byte k
tested_place FirstItem frames byte k = tested_first frames byte k
tested_place place frames byte k = alike (λ levels. between levels place frames k byte) (between 64 place frames k byte) refl (λ l m. refl)

-- any byte
tested_step : (state : State) (byte : ℕ) (k : Kind) → Tested (λ levels. step_by levels state k byte)
tested_step (Between place frames) byte k = tested_place place frames byte k
tested_step (InNumber part token frames) byte k =
    alike (λ levels. step_by levels (InNumber part token frames) k byte) (step_by 64 (InNumber part token frames) k byte) refl
    (λ l m. same_number l m (goes_on part k) part token frames byte k)
tested_step (InWord word frames) byte k = alike (λ levels. step_by levels (InWord word frames) k byte) (step_by 64 (InWord word frames) k byte) refl (λ l m. refl)
tested_step (InText use' spot token high frames) byte k =
    alike (λ levels. step_by levels (InText use' spot token high frames) k byte) (step_by 64 (InText use' spot token high frames) k byte) refl (λ l m. refl)

-- whole characters are read to their end, or stop
abbrev Ends : List ℕ → Type 0
Ends text = ((last : State) × ReadsSo text last) ⊎ ((fault : JsonFault) × (fault ≢ Memory) × StopsAt text fault)

-- the same from so many bytes on
ends_from : (text : List ℕ) → IsUtf8 text → (left i : ℕ) → i + left ≡ length text → (state : State) → ReadsSo (take i text) state → Ends text
ends_from text utf8 zero i whole state r =
    let all : i ≡ length text = omega arith in inl (state, reads_all text state (subst (λ n. ReadsSo (take n text) state) all r))
ends_from text utf8 (suc left) i whole state r =
    let short : i < length text = omega arith in
    ⊎_elim (λ (next, goes). ends_from text utf8 left (suc i) (omega arith) next (reads_more text i state next short utf8 r goes))
    (λ fails. inr (⊎_elim (λ refused. (Syntax i, (λ e. absurd (cc e)), text_stops text i state steps.Refused short utf8 r refused))
    (λ deep. (TooDeep i, (λ e. absurd (cc e)), text_stops text i state steps.TooDeep short utf8 r deep)) fails))
    (tested_step state (get_or text i 0) (kind (get_or text i 0)))

-- what a text has: a value or a first offence
abbrev pub Judged : List ℕ → Type 0
Judged bytes = ((value : Json) × IsText level_limit value bytes) ⊎ ((fault : JsonFault) × IsFirstOffence bytes fault)

-- whole characters that were read to their end
by_value : (bytes : List ℕ) (len : ℕ) → IsValidLength bytes len → length bytes ≤ len → (o : Option Json) → Gives (take len bytes) o → Judged bytes
by_value bytes len v whole (Some value) gives = inl (value, gives_value bytes len value v whole gives)
by_value bytes len v whole None gives = inr (Syntax len, gives_end bytes len v whole gives)

-- the longest front of them
by_length : (bytes : List ℕ) (len : ℕ) → IsValidLength bytes len → (state : State) → ReadsSo (take len bytes) state → (b : Bool) → nat_lt len (length bytes) ≡ b → Judged bytes
by_length bytes len v state r true e = inr (NotUtf8 len, gives_ill bytes len (finish state) v (grind (arith, nat_tests)) (state, r, refl))
by_length bytes len v state r false e = by_value bytes len v (grind (arith, nat_tests)) (finish state) (state, r, refl)

-- Each text of bytes has a value or a first offence.
pub judged : (bytes : List ℕ) → Judged bytes
judged bytes =
    let len = front_len bytes in
    let v = front_valid bytes in
    ⊎_elim (λ (state, r). by_length bytes len v state r (nat_lt len (length bytes)) refl)
    (λ (fault, known, s). inr (fault, stopped bytes len fault v s known))
    (ends_from (take len bytes) v.front (length (take len bytes)) 0 (omega arith) start (reads_none (take len bytes)))
