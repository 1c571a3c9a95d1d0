-- Which offence is the first.
use Rattle.std.proofs.Common.{◌≡◌, ◌≢◌, ◌<◌, ◌≤◌, ℕ, zero, suc, ◌+◌, List, [], ◌∷◌, ◌++◌, length, take, drop, Option, Some, None, refl, sym, ap, ◌∙◌, subst, arith, append_assoc, append-nil, length-take}
use Rattle.std.specs.Str.{IsUtf8, IsValidUpTo}
use Rattle.std.proofs.lemmas.List.{take-append-drop}
use Rattle.std.proofs.Math.Seq.{take-length}
use Rattle.json_spelled.specs.Json.{Json}
use Rattle.json_spelled.specs.Grammar.{IsText, Begins}
use Rattle.json_spelled.specs.Machine.{State, start, answer, finish}
use Rattle.json_spelled.specs.Refusals.{level_limit, IsSomeText, BeginsSome, IsOffence, offset_of, IsFirstOffence}
use Rattle.json_spelled.specs.Reading.{ReadsSo, Gives, StopsAt, IsValidLength}
use Rattle.json_spelled.specs.declared.tree.JsonFault.{JsonFault}
use Rattle.json_spelled.specs.declared.tree.JsonFault.TheVariants.{NotUtf8, Syntax, TooDeep, Memory}
use Rattle.json_spelled.proofs.Texts.{text_read, read_text, begins, text_wider}
use Rattle.json_spelled.proofs.Kept.{cut_whole}

-- a front of a front
pub take_within : (i j : ℕ) (bytes : List ℕ) → i ≤ j → take i (take j bytes) ≡ take i bytes
take_within zero j bytes h = refl
take_within (suc i) zero bytes h = absurd (omega arith)
take_within (suc i) (suc j) [] h = refl
take_within (suc i) (suc j) (byte ∷ bytes) h = ap (λ x. byte ∷ x) (take_within i j bytes (omega arith))

-- what begins a text has fronts that do
pub begins_front : (levels i : ℕ) (bytes : List ℕ) → Begins levels bytes → Begins levels (take i bytes)
begins_front levels i bytes b = record {
  rest = drop i bytes ++ b.rest;
  value = b.value;
  whole = subst (IsText levels b.value) (ap (λ x. x ++ b.rest) (sym (take-append-drop i bytes)) ∙ append_assoc (take i bytes) (drop i bytes) b.rest) b.whole;
}

-- what a longer front begins a shorter one does
begins_take : (levels i j : ℕ) (bytes : List ℕ) → i ≤ j → Begins levels (take j bytes) → Begins levels (take i bytes)
begins_take levels i j bytes h b = subst (Begins levels) (take_within i j bytes h) (begins_front levels i (take j bytes) b)

-- a whole text begins one
pub text_begins : (levels : ℕ) (value : Json) (bytes : List ℕ) → IsText levels value bytes → Begins levels bytes
text_begins levels value bytes t = record { rest = []; value = value; whole = subst (IsText levels value) (sym (append-nil bytes)) t }

-- Behind a front that begins a text of few enough levels no offence stands before its end.
no_earlier : (bytes : List ℕ) (at : ℕ) → at ≤ length bytes → Begins level_limit (take at bytes) → ((ill : ℕ) → IsValidUpTo bytes ill → at ≤ ill)
    → (other : JsonFault) → IsOffence bytes other → at ≤ offset_of other
no_earlier bytes at within b utf8 (NotUtf8 ill) o = utf8 ill o
no_earlier bytes at within b utf8 (Syntax i) o =
    let no : i < at → ⊥ = λ less. o.2 (omega arith) (64, begins_take 64 (suc i) at bytes (omega arith) b) in omega arith
no_earlier bytes at within b utf8 (TooDeep i) o =
    let no : i < at → ⊥ = λ less. o.3 (begins_take 64 (suc i) at bytes (omega arith) b) in omega arith
no_earlier bytes at within b utf8 Memory o = absurd o

-- whole characters have no ill-formed bytes
no_ill : (bytes : List ℕ) (ill : ℕ) → IsUtf8 bytes → IsValidUpTo bytes ill → ⊥
no_ill bytes ill h k = k.longest (length bytes) k.short (subst IsUtf8 (sym (take-length bytes)) h)

-- ill-formed bytes begin at the end of the longest front, or nowhere
ill_at : (bytes : List ℕ) (len ill : ℕ) → IsValidLength bytes len → IsValidUpTo bytes ill → len ≤ ill
ill_at bytes len ill v h = let no : ill < len → ⊥ = λ less. h.longest len less v.front in omega arith

-- What stops within the longest front is the first offence.
pub stopped : (bytes : List ℕ) (len : ℕ) (fault : JsonFault) → IsValidLength bytes len → StopsAt (take len bytes) fault → fault ≢ Memory → IsFirstOffence bytes fault
stopped bytes len (NotUtf8 at) v s known = absurd s
stopped bytes len (Syntax at) v s known =
    let short : at < len = omega (arith, s.0, length-take len bytes) in
    let b : Begins level_limit (take at bytes) = subst (Begins level_limit) (take_within at len bytes (omega arith)) s.1 in
    let not : BeginsSome (take (suc at) bytes) → ⊥ = λ h. s.2 (subst BeginsSome (sym (take_within (suc at) len bytes (omega arith))) h) in
    let inside : at < length bytes = omega (arith, v.within) in
    record {
      stands = ((64, b), omega arith, (λ less h. not h), (λ e h. absurd (omega arith)));
      first = no_earlier bytes at (omega arith) b (λ ill h. let far : len ≤ ill = ill_at bytes len ill v h in omega arith);
      utf8_first = λ i h e. absurd (let far : len ≤ i = ill_at bytes len i v h in omega arith);
    }
stopped bytes len (TooDeep at) v s known =
    let short : at < len = omega (arith, s.0, length-take len bytes) in
    let b : Begins level_limit (take at bytes) = subst (Begins level_limit) (take_within at len bytes (omega arith)) s.1 in
    let inside : at < length bytes = omega (arith, v.within) in
    record {
      stands = (inside, b, subst BeginsSome (take_within (suc at) len bytes (omega arith)) s.2, (λ h. s.3 (subst (Begins level_limit) (sym (take_within (suc at) len bytes (omega arith))) h)));
      first = no_earlier bytes at (omega arith) b (λ ill h. let far : len ≤ ill = ill_at bytes len ill v h in omega arith);
      utf8_first = λ i h e. absurd (let far : len ≤ i = ill_at bytes len i v h in omega arith);
    }
stopped bytes len Memory v s known = absurd (known refl)

-- a text of whole characters that was read to its end begins a text
read_begins : (text : List ℕ) (state : State) → IsUtf8 text → ReadsSo text state → Begins level_limit text
read_begins text state h r = begins level_limit text state (λ rest. r.leads level_limit rest (omega arith)) (cut_whole text state h r.keeps)

-- Ill-formed bytes are the first offence where all before them was read.
pub ill_first : (bytes : List ℕ) (len : ℕ) (state : State) → IsValidLength bytes len → len < length bytes → ReadsSo (take len bytes) state → IsFirstOffence bytes (NotUtf8 len)
ill_first bytes len state v short r = record {
  stands = v.ill short;
  first = no_earlier bytes len v.within (read_begins (take len bytes) state v.front r) (λ ill h. ill_at bytes len ill v h);
  utf8_first = λ i h e. ap NotUtf8 e;
}

-- what the machine answers of all the bytes
answered : (bytes : List ℕ) (state : State) (levels : ℕ) → 64 ≤ levels → ReadsSo bytes state → answer levels start bytes ≡ finish state
answered bytes state levels h r = ap (answer levels start) (sym (append-nil bytes)) ∙ r.leads levels [] h

-- The end is the first offence where it comes too early.
pub end_first : (bytes : List ℕ) (state : State) → IsUtf8 bytes → ReadsSo bytes state → finish state ≡ None → IsFirstOffence bytes (Syntax (length bytes))
end_first bytes state h r e =
    let b : Begins level_limit (take (length bytes) bytes) = subst (Begins level_limit) (sym (take-length bytes)) (read_begins bytes state h r) in
    let no_text : IsSomeText bytes → ⊥ = λ (levels, value, t).
    let no : None ≡ Some value = sym e ∙ sym (answered bytes state (levels + 64) (omega arith) r) ∙ text_read (levels + 64) value bytes (text_wider levels (levels + 64) value bytes (omega arith) t) in absurd (cc no) in
    record {
      stands = ((64, b), omega arith, (λ less k. absurd (omega arith)), (λ same t. no_text t));
      first = no_earlier bytes (length bytes) (omega arith) b (λ ill k. absurd (no_ill bytes ill h k));
      utf8_first = λ i k same. absurd (no_ill bytes i h k);
    }

-- What was read to its end is a text of that value, and of no other.
pub done_text : (bytes : List ℕ) (state : State) (value : Json) → IsUtf8 bytes → ReadsSo bytes state → finish state ≡ Some value → IsText level_limit value bytes
done_text bytes state value h r e = read_text 64 value bytes h (answered bytes state 64 (omega arith) r ∙ e)

-- a text has one value
pub one_value : (bytes : List ℕ) (value other : Json) → IsText level_limit value bytes → IsText level_limit other bytes → value ≡ other
one_value bytes value other t u = let same : Some value ≡ Some other = sym (text_read 64 value bytes t) ∙ text_read 64 other bytes u in cc same

-- a text of few enough levels offends against nothing
pub no_offence : (bytes : List ℕ) (value : Json) → IsText level_limit value bytes → (fault : JsonFault) → IsOffence bytes fault → ⊥
no_offence bytes value t (NotUtf8 at) o = no_ill bytes at t.utf8 o
no_offence bytes value t (Syntax at) o =
    let no_less : at < length bytes → ⊥ = λ less. o.2 less (64, begins_front 64 (suc at) bytes (text_begins 64 value bytes t)) in
    o.3 (omega (arith, o.1)) (64, value, t)
no_offence bytes value t (TooDeep at) o = o.3 (begins_front 64 (suc at) bytes (text_begins 64 value bytes t))
no_offence bytes value t Memory o = o

-- The same of what a text gives.
pub gives_ill : (bytes : List ℕ) (len : ℕ) (value : Option Json) → IsValidLength bytes len → len < length bytes → Gives (take len bytes) value → IsFirstOffence bytes (NotUtf8 len)
gives_ill bytes len value v short (state, r, e) = ill_first bytes len state v short r

-- the longest front is all the bytes where it isn't shorter
all_valid : (bytes : List ℕ) (len : ℕ) → IsValidLength bytes len → length bytes ≤ len → take len bytes ≡ bytes
all_valid bytes len v whole = let same : len ≡ length bytes = omega (arith, v.within) in ap (λ n. take n bytes) same ∙ take-length bytes

-- and then all the bytes are whole characters
valid_text : (bytes : List ℕ) (len : ℕ) → IsValidLength bytes len → length bytes ≤ len → IsUtf8 bytes
valid_text bytes len v whole = subst IsUtf8 (all_valid bytes len v whole) v.front

-- what a text gives is its value
pub gives_value : (bytes : List ℕ) (len : ℕ) (value : Json) → IsValidLength bytes len → length bytes ≤ len → Gives (take len bytes) (Some value) → IsText level_limit value bytes
gives_value bytes len value v whole (state, r, e) = done_text bytes state value (valid_text bytes len v whole) (subst (λ (x : List ℕ). ReadsSo x state) (all_valid bytes len v whole) r) e

-- where it gives none its end is the first offence
pub gives_end : (bytes : List ℕ) (len : ℕ) → IsValidLength bytes len → length bytes ≤ len → Gives (take len bytes) None → IsFirstOffence bytes (Syntax len)
gives_end bytes len v whole (state, r, e) =
    let same : length bytes ≡ len = omega (arith, v.within) in
    subst (λ (n : ℕ). IsFirstOffence bytes (Syntax n)) same (end_first bytes state (valid_text bytes len v whole) (subst (λ (x : List ℕ). ReadsSo x state) (all_valid bytes len v whole) r) e)
