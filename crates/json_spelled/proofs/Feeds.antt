-- The steps of a feed.
use Rattle.std.proofs.Common.{◌≡◌, ◌≢◌, ℕ, suc, ◌+◌, ◌-◌, ◌<◌, ◌≤◌, List, [], ◌∷◌, ◌++◌, length, length-drop, take, drop, get_or, Option, Some, None, Ok, Err, refl, sym, ap, subst, ◌∙◌, arith, length-append, append_assoc, append-nil, take-add}
use Rattle.std.proofs.lemmas.List.{take_all, take-append-le, take-append-drop}
use Rattle.std.proofs.Math.Seq.{take-append_seam, take-append-add}
use Rattle.std.specs.Str.{IsUtf8}
use Rattle.std.proofs.lemmas.Str.{IsUtf8-append, IsUtf8-nil}
use Rattle.json_spelled.specs.Json.{Json}
use Rattle.json_spelled.specs.Grammar.{IsText, Begins}
use Rattle.json_spelled.specs.Machine.{State, start, finish}
use Rattle.json_spelled.specs.Reading.{ReadsSo, StopsAt}
use Rattle.json_spelled.specs.Refusals.{level_limit, BeginsSome, IsFirstOffence}
use Rattle.json_spelled.specs.View.{json_of}
use Rattle.json_spelled.specs.declared.tree.Tree.{Tree}
use Rattle.json_spelled.specs.declared.tree.JsonFault.{JsonFault}
use Rattle.json_spelled.specs.declared.tree.JsonFault.TheVariants.{NotUtf8, Syntax, TooDeep, Memory}
use Rattle.json_spelled.proofs.Offences.{stopped, ill_first, end_first, done_text, one_value, no_offence}
use Rattle.json_spelled.specs.Feeding.{Reads, StopsFrom, NoChar, Reading, IsRefused, Stands, Told}
use Rattle.json_spelled.proofs.Cuts.{front_len, front_valid, front_within, ill_valid, none_begun, one_more, never_whole}

-- what stops within a text stops in a longer one
stops_longer : (text more : List ℕ) (fault : JsonFault) → StopsAt text fault → StopsAt (text ++ more) fault
stops_longer text more (NotUtf8 at) s = s
stops_longer text more (Syntax at) s = (
  omega (arith, s.0, length-append text more),
  subst (Begins level_limit) (sym (take-append-le at text more (omega (arith, s.0)))) s.1,
  (λ h. s.2 (subst BeginsSome (take-append-le (suc at) text more (omega (arith, s.0))) h)),
)
stops_longer text more (TooDeep at) s = (
  omega (arith, s.0, length-append text more),
  subst (Begins level_limit) (sym (take-append-le at text more (omega (arith, s.0)))) s.1,
  subst BeginsSome (sym (take-append-le (suc at) text more (omega (arith, s.0)))) s.2,
  (λ h. s.3 (subst (Begins level_limit) (take-append-le (suc at) text more (omega (arith, s.0))) h)),
)
stops_longer text more Memory s = tt

-- what stops within whole characters is the first offence, whatever follows them
stopped_on : (text rest : List ℕ) (fault : JsonFault) → IsUtf8 text → StopsAt text fault → fault ≢ Memory → IsFirstOffence (text ++ rest) fault
stopped_on text rest fault u s known =
    let n = front_len (text ++ rest) in
    let long : length text ≤ n = front_within text rest u in
    let e : length text + (n - length text) ≡ n = omega arith in
    let front : take n (text ++ rest) ≡ text ++ take (n - length text) rest = ap (λ i. take i (text ++ rest)) (sym e) ∙ take-append-add text rest (n - length text) in
    stopped (text ++ rest) n fault (front_valid (text ++ rest)) (subst (λ (x : List ℕ). StopsAt x fault) (sym front) (stops_longer text (take (n - length text) rest) fault s)) known

-- nothing was read
pub begun : Reading [] [] 0 start
begun = record { text = []; cut = refl; chars = IsUtf8-nil; offset = refl; part = none_begun; short = omega arith; took = record { leads = λ levels rest h. refl; keeps = refl } }

-- a byte more that makes no whole character yet
pub waits : (bytes pending : List ℕ) (at : ℕ) (s : State) (b : ℕ) → Reading bytes pending at s → (IsUtf8 (pending ++ b ∷ []) → ⊥) → length (pending ++ b ∷ []) < 4 → Reading (bytes ++ b ∷ []) (pending ++ b ∷ []) at s
waits bytes pending at s b r not few = record {
  text = r.text;
  cut = ap (λ l. l ++ b ∷ []) r.cut ∙ append_assoc r.text pending (b ∷ []);
  chars = r.chars;
  offset = r.offset;
  part = one_more pending b r.part not;
  short = few;
  took = r.took;
}

-- bytes that make whole characters, and the reader takes them
pub takes : (bytes pending more : List ℕ) (at : ℕ) (s t : State) → Reading bytes pending at s → IsUtf8 (pending ++ more) → Reads (pending ++ more) s t → Reading (bytes ++ more) [] (at + length (pending ++ more)) t
takes bytes pending more at s t r u h = record {
  text = r.text ++ (pending ++ more);
  cut = ap (λ l. l ++ more) r.cut ∙ append_assoc r.text pending more ∙ sym (append-nil (r.text ++ (pending ++ more)));
  chars = IsUtf8-append r.text (pending ++ more) r.chars u;
  offset = omega (arith, r.offset, length-append r.text (pending ++ more));
  part = none_begun;
  short = omega arith;
  took = h r.text r.chars r.took;
}

-- bytes that make whole characters which the reader refuses
pub refuses : (bytes pending more : List ℕ) (at : ℕ) (s : State) (fault : JsonFault) → Reading bytes pending at s → IsUtf8 (pending ++ more) → StopsFrom (pending ++ more) at s fault → IsRefused (bytes ++ more) fault
refuses bytes pending more at s fault r u h = λ known rest.
    let text = r.text ++ (pending ++ more) in
    let is : (bytes ++ more) ++ rest ≡ text ++ rest = ap (λ l. (l ++ more) ++ rest) r.cut ∙ ap (λ l. l ++ rest) (append_assoc r.text pending more) in
    subst (λ (x : List ℕ). IsFirstOffence x fault) (sym is) (stopped_on text rest fault (IsUtf8-append r.text (pending ++ more) r.chars u) (h r.text r.chars r.offset r.took) known)

-- the same where no character was begun
pub takes_text : (bytes pending more : List ℕ) (at : ℕ) (s t : State) → length pending ≡ 0 → Reading bytes pending at s → IsUtf8 more → Reads more s t → Reading (bytes ++ more) pending (at + length more) t
takes_text bytes [] more at s t none r u h = takes bytes [] more at s t r u h
takes_text bytes (p ∷ ps) more at s t none r u h = absurd (omega arith)

pub refuses_text : (bytes pending more : List ℕ) (at : ℕ) (s : State) (fault : JsonFault) → length pending ≡ 0 → Reading bytes pending at s → IsUtf8 more → StopsFrom more at s fault → IsRefused (bytes ++ more) fault
refuses_text bytes [] more at s fault none r u h = refuses bytes [] more at s fault r u h
refuses_text bytes (p ∷ ps) more at s fault none r u h = absurd (omega arith)

-- whole characters were read, and what comes then begins none
ill : (bytes text more : List ℕ) (s : State) → bytes ≡ text ++ more → IsUtf8 text → NoChar more → 0 < length more → ReadsSo text s → IsFirstOffence bytes (NotUtf8 (length text))
ill bytes text more s e u none some took =
    subst (λ (x : List ℕ). IsFirstOffence x (NotUtf8 (length text))) (sym e)
    (ill_first (text ++ more) (length text) s (ill_valid text more u none some) (omega (arith, length-append text more)) (subst (λ (x : List ℕ). ReadsSo x s) (sym (take-append_seam text more)) took))

-- four bytes that make no character never will
pub ill_formed : (bytes pending : List ℕ) (at : ℕ) (s : State) (b : ℕ) → Reading bytes pending at s → (IsUtf8 (pending ++ b ∷ []) → ⊥) → 4 ≤ length (pending ++ b ∷ []) → IsRefused (bytes ++ b ∷ []) (NotUtf8 at)
ill_formed bytes pending at s b r not four = λ known rest.
    let more = (pending ++ b ∷ []) ++ rest in
    let is : (bytes ++ b ∷ []) ++ rest ≡ r.text ++ more = ap (λ l. (l ++ b ∷ []) ++ rest) r.cut ∙ ap (λ l. l ++ rest) (append_assoc r.text pending (b ∷ [])) ∙ append_assoc r.text (pending ++ b ∷ []) rest in
    subst (λ (n : ℕ). IsFirstOffence ((bytes ++ b ∷ []) ++ rest) (NotUtf8 n)) (sym r.offset)
    (ill ((bytes ++ b ∷ []) ++ rest) r.text more s is r.chars (never_whole (pending ++ b ∷ []) rest (one_more pending b r.part not) four) (omega (arith, length-append (pending ++ b ∷ []) rest)) r.took)

-- the text ends within a character
pub ends_within : (bytes pending : List ℕ) (at : ℕ) (s : State) → Reading bytes pending at s → 0 < length pending → IsFirstOffence bytes (NotUtf8 at)
ends_within bytes pending at s r some = subst (λ (n : ℕ). IsFirstOffence bytes (NotUtf8 n)) (sym r.offset) (ill bytes r.text pending s r.cut r.chars r.part some r.took)

-- the text ends behind whole characters, with a value
pub ends : (bytes pending : List ℕ) (at : ℕ) (s : State) (value : Json) → Reading bytes pending at s → length pending ≡ 0 → finish s ≡ Some value → IsText level_limit value bytes
ends bytes [] at s value r none e = subst (IsText level_limit value) (sym (r.cut ∙ append-nil r.text)) (done_text r.text s value r.chars r.took e)
ends bytes (p ∷ ps) at s value r none e = absurd (omega arith)

-- or too early
pub ends_early : (bytes pending : List ℕ) (at : ℕ) (s : State) → Reading bytes pending at s → length pending ≡ 0 → finish s ≡ None → IsFirstOffence bytes (Syntax at)
ends_early bytes [] at s r none e =
    subst (λ (n : ℕ). IsFirstOffence bytes (Syntax n)) (sym r.offset)
    (subst (λ (x : List ℕ). IsFirstOffence x (Syntax (length r.text))) (sym (r.cut ∙ append-nil r.text)) (end_first r.text s r.chars r.took e))
ends_early bytes (p ∷ ps) at s r none e = absurd (omega arith)

-- what was refused is refused of more bytes too
pub refused_on : (bytes more : List ℕ) (fault : JsonFault) → IsRefused bytes fault → IsRefused (bytes ++ more) fault
refused_on bytes more fault h = λ known rest. subst (λ (x : List ℕ). IsFirstOffence x fault) (sym (append_assoc bytes more rest)) (h known (more ++ rest))

-- and of all
pub refused_all : (bytes : List ℕ) (fault : JsonFault) → IsRefused bytes fault → fault ≢ Memory → IsFirstOffence bytes fault
refused_all bytes fault h known = subst (λ (x : List ℕ). IsFirstOffence x fault) (append-nil bytes) (h known [])

-- the two kinds of feed
pub reading_of : (bytes : List ℕ) (f : Option JsonFault) (pending : List ℕ) (at : ℕ) (s : State) → f ≡ None → Stands bytes f pending at s → Reading bytes pending at s
reading_of bytes None pending at s e h = h
reading_of bytes (Some fault) pending at s e h = absurd (cc)

pub refused_of : (bytes : List ℕ) (f : Option JsonFault) (fault : JsonFault) (pending : List ℕ) (at : ℕ) (s : State) → f ≡ Some fault → Stands bytes f pending at s → IsRefused bytes fault
refused_of bytes None fault pending at s e h = absurd (cc)
refused_of bytes (Some other) fault pending at s e h = let same : other ≡ fault = cc in subst (IsRefused bytes) same h

pub stands_refused : (bytes : List ℕ) (f : Option JsonFault) (fault : JsonFault) (pending : List ℕ) (at : ℕ) (s : State) → f ≡ Some fault → IsRefused bytes fault → Stands bytes f pending at s
stands_refused bytes f fault pending at s e h = rw e h

-- the bytes of a piece from an index on, as the code cuts them
tail_of : (piece : List ℕ) (i : ℕ) → take (length piece - i) (drop i piece) ≡ drop i piece
tail_of piece i = take_all (length piece - i) (drop i piece) (omega (arith, length-drop i piece))

-- a piece is cut at an index: what was taken of it, and what is taken next
pub cut_next : (bytes piece : List ℕ) (i n : ℕ) → (bytes ++ take i piece) ++ take n (take (length piece - i) (drop i piece)) ≡ bytes ++ take (i + n) piece
cut_next bytes piece i n = ap (λ (l : List ℕ). (bytes ++ take i piece) ++ take n l) (tail_of piece i) ∙ append_assoc bytes (take i piece) (take n (drop i piece)) ∙ ap (λ (l : List ℕ). bytes ++ l) (sym (take-add i n piece))

-- and all the rest
pub cut_rest : (bytes piece : List ℕ) (i : ℕ) → (bytes ++ take i piece) ++ take (length piece - i) (drop i piece) ≡ bytes ++ piece
cut_rest bytes piece i = ap (λ (l : List ℕ). (bytes ++ take i piece) ++ l) (tail_of piece i) ∙ append_assoc bytes (take i piece) (drop i piece) ∙ ap (λ (l : List ℕ). bytes ++ l) (take-append-drop i piece)

-- what is refused at the beginning of a piece is refused of the piece
pub refused_front : (bytes text rest : List ℕ) (fault : JsonFault) → text ≡ take (length text) rest → IsRefused (bytes ++ text) fault → IsRefused (bytes ++ rest) fault
refused_front bytes text rest fault e h =
    let whole : (bytes ++ text) ++ drop (length text) rest ≡ bytes ++ rest =
    append_assoc bytes text (drop (length text) rest) ∙ ap (λ (l : List ℕ). bytes ++ (l ++ drop (length text) rest)) e ∙ ap (λ (l : List ℕ). bytes ++ l) (take-append-drop (length text) rest) in
    subst (λ (l : List ℕ). IsRefused l fault) whole (refused_on (bytes ++ text) (drop (length text) rest) fault h)

-- the first byte of a piece
pub first_byte : (rest : List ℕ) → 0 < length rest → get_or rest 0 0 ∷ [] ≡ take 1 rest
first_byte [] some = absurd (omega arith)
first_byte (b ∷ bs) some = refl

-- a text that is read has no other value, and no offence
pub told_read : (bytes : List ℕ) (tree : Tree) → IsText level_limit (json_of tree) bytes → Told bytes (Ok tree)
told_read bytes tree text = record {
  read = text;
  only = λ value other. one_value bytes (json_of tree) value text other;
  refused = tt;
  no_offence = no_offence bytes (json_of tree) text;
}

-- a text with an offence has no value
none_read : (bytes : List ℕ) (fault : JsonFault) → (fault ≢ Memory → IsFirstOffence bytes fault) → (value : Json) → IsText level_limit value bytes → fault ≡ Memory
none_read bytes Memory h value text = refl
none_read bytes (NotUtf8 at) h value text = absurd (no_offence bytes value text (NotUtf8 at) (h (λ e. absurd (cc e))).stands)
none_read bytes (Syntax at) h value text = absurd (no_offence bytes value text (Syntax at) (h (λ e. absurd (cc e))).stands)
none_read bytes (TooDeep at) h value text = absurd (no_offence bytes value text (TooDeep at) (h (λ e. absurd (cc e))).stands)

pub told_refused : (bytes : List ℕ) (fault : JsonFault) → (fault ≢ Memory → IsFirstOffence bytes fault) → Told bytes (Err fault)
told_refused bytes fault h = record { read = tt; only = λ value text. none_read bytes fault h value text; refused = h; no_offence = tt }
