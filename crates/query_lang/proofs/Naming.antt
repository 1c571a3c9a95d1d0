-- What the words that are read keep.
use Rattle.std.proofs.Common.{◌≡◌, ◌+◌, ◌≤◌, ℕ, zero, suc, Bool, true, false, cond, nat_le, List, [], ◌∷◌, ◌++◌, length, map, Option, Some, None, Result, Ok, Err, IfOk, refl, sym, ap, ◌∙◌, subst, arith, length-append}
use Rattle.std.specs.Prelude.{◌&&◌, ◌||◌, All}
use Rattle.std.specs.List.{IsDistinct, AllByRecursion, list_any}
use Rattle.std.specs.Str.{bytes_eq}
use Rattle.std.proofs.lemmas.Bool.{and_parts, leb-true}
use Rattle.std.proofs.lemmas.List.{map-append, length-map}
use Rattle.std.proofs.lemmas.List.Elements.{All-append}
use Rattle.term_impacts.specs.Text.{words_of, only}
use Rattle.place_values.specs.Query.{IsTerms, IsWeight, IsWeights}
use Rattle.line_tokens.specs.Token.{Token, Bare, Quoted, Open, Close, Broken, token_of}
use Rattle.query_replies.specs.declared.fault.LineFault.{LineFault}
use Rattle.query_replies.specs.declared.fault.LineFault.TheVariants as faults
use Rattle.query_lang.specs.Reader.{ended, Answers}
use Rattle.query_lang.specs.Number.{number_of, in_range, number_in}
use Rattle.query_lang.specs.Word.{new_word, word_in, is_among, word_of, at_star, Term, is_term, with_weight, weighted, unweighted, bare_term, term_of, if_more, beside, more_words}

-- what a list of words keeps as one more is read, all that are read keep
record Kept {A : Type 0} (P : List A → Type 0) (left : ℕ) (named items : List A) : Type 0 where
  keeps : P items
  more : length named ≤ length items
  few : length items ≤ length named + left

same_ok : {X : Type 0} (x y : X) → ◌≡◌ {A = Result X LineFault} (Ok x) (Ok y) → x ≡ y
same_ok x y e = cc e

unchanged : {A : Type 0} (P : List A → Type 0) (left : ℕ) (named items : List A) → P named → named ≡ items → Kept P left named items
unchanged P left named items p same = record { keeps = subst P same p; more = omega (arith, ap length same); few = omega (arith, ap length same) }

at_the_end : {A : Type 0} (P : List A → Type 0) (named items : List A) (next : Option (Token × List ℕ)) → P named → ended named next ≡ Ok items → Kept P 0 named items
at_the_end P named items None p e = unchanged P 0 named items p (same_ok named items e)
at_the_end P named items (Some found) p e = absurd (cc e)

with_one : {A : Type 0} (P : List A → Type 0) (left : ℕ) (named items rest : List A) (word : A) → rest ≡ named ++ word ∷ [] → Kept P left rest items → Kept P (suc left) named items
with_one P left named items rest word is kept =
    let len : length rest ≡ length named + 1 = ap length is ∙ length-append named (word ∷ []) in
    record { keeps = kept.keeps; more = omega (arith, len, kept.more); few = omega (arith, len, kept.few) }

beside_one : {A : Type 0} (P : List A → Type 0) (left : ℕ) (go : List A → List ℕ → Result (List A) LineFault) (named items : List A) (text : List ℕ) (read : Result A LineFault)
    → ((word : A) → read ≡ Ok word → P (named ++ word ∷ [])) → ((more : List A) → P more → go more text ≡ Ok items → Kept P left more items) → beside go named text read ≡ Ok items → Kept P (suc left) named items
beside_one P left go named items text (Ok word) step then e = with_one P left named items (named ++ word ∷ []) word refl (then (named ++ word ∷ []) (step word refl) e)
beside_one P left go named items text (Err fault) step then e = absurd (cc e)

kept_next : {A : Type 0} (accept : List A → Token → Result A LineFault) (P : List A → Type 0) → ((named : List A) (token : Token) (word : A) → P named → accept named token ≡ Ok word → P (named ++ word ∷ []))
    → (left : ℕ) (named items : List A) → P named → ((more : List A) (text : List ℕ) → P more → more_words accept left more text ≡ Ok items → Kept P left more items)
    → (next : Option (Token × List ℕ)) → if_more named (λ token rest. beside (more_words accept left) named rest (accept named token)) next ≡ Ok items → Kept P (suc left) named items
kept_next accept P step left named items p go_on None e = unchanged P (suc left) named items p (same_ok named items e)
kept_next accept P step left named items p go_on (Some found) e =
    beside_one P left (more_words accept left) named items found.1 (accept named found.0) (λ word is. step named found.0 word p is) (λ more q k. go_on more found.1 q k) e

kept : {A : Type 0} (accept : List A → Token → Result A LineFault) (P : List A → Type 0) → ((named : List A) (token : Token) (word : A) → P named → accept named token ≡ Ok word → P (named ++ word ∷ []))
    → (left : ℕ) (named items : List A) (text : List ℕ) → P named → more_words accept left named text ≡ Ok items → Kept P left named items
unfolding more_words
kept accept P step zero named items text p e = at_the_end P named items (token_of text) p e
kept accept P step (suc left) named items text p e =
    kept_next accept P step left named items p (λ more rest q k. kept accept P step left more items rest q k) (token_of text) e

-- neither is true
neither : (a b : Bool) → (a || b) ≡ false → (a ≡ false) × (b ≡ false)
neither true b e = absurd (cc e)
neither false b e = (refl, e)

-- a word that is none of these stays apart from them
all_push : (P : List ℕ → Type 0) (words : List (List ℕ)) (word : List ℕ) → AllByRecursion P words → P word → AllByRecursion P (words ++ word ∷ [])
all_push P [] word all here = (here, tt)
all_push P (first ∷ words) word all here = (all.0, all_push P words word all.1 here)

apart : (words : List (List ℕ)) (word : List ℕ) → IsDistinct bytes_eq words → list_any (λ other. bytes_eq other word) words ≡ false → IsDistinct bytes_eq (words ++ word ∷ [])
unfolding IsDistinct
apart [] word distinct none = (tt, tt)
apart (first ∷ words) word distinct none =
    let parts = neither (bytes_eq first word) (list_any (λ other. bytes_eq other word) words) none in
    (all_push (λ y. bytes_eq first y ≡ false) words word distinct.0 parts.0, apart words word distinct.1 parts.1)

one_apart : (word : List ℕ) → IsDistinct bytes_eq (word ∷ [])
unfolding IsDistinct
one_apart word = (tt, tt)

-- a word that is accepted is none of those before
chosen_new : (test : List ℕ → Bool) (found word : List ℕ) (answer : Bool) → test found ≡ answer → ◌≡◌ {A = Result (List ℕ) LineFault} (cond answer (Err faults.Word) (Ok found)) (Ok word) → test word ≡ false
chosen_new test found word true is e = absurd (cc e)
chosen_new test found word false is e = ap test (sym (same_ok found word e)) ∙ is

new_ok : (test : List ℕ → Bool) (found : Option (List ℕ)) (word : List ℕ) → new_word test found ≡ Ok word → test word ≡ false
new_ok test None word e = absurd (cc e)
new_ok test (Some found) word e = chosen_new test found word (test found) refl e

word_ok : (named : List (List ℕ)) (token : Token) (word : List ℕ) → word_of named token ≡ Ok word → is_among named word ≡ false
word_ok named (Bare bytes) word e = new_ok (is_among named) (only (words_of bytes)) word e
word_ok named (Quoted bytes) word e = new_ok (is_among named) (only (words_of bytes)) word e
word_ok named Open word e = absurd (cc e)
word_ok named Close word e = absurd (cc e)
word_ok named Broken word e = absurd (cc e)

-- the words of a group query
pub words_sound : (named items : List (List ℕ)) (first : List ℕ) (text : List ℕ) → named ≡ first ∷ [] → more_words word_of 7 named text ≡ Ok items → IsTerms items
words_sound named items first text is e =
    let k = kept word_of (IsDistinct bytes_eq) (λ before token word p h. apart before word p (word_ok before token word h)) 7 named items text (subst (IsDistinct bytes_eq) (sym is) (one_apart first)) e in
    record { some = omega (arith, ap length is, k.more); few = omega (arith, ap length is, k.few); distinct = k.keeps }

-- a weight that is accepted is from 1 to 20
chosen_within : (low high n m : ℕ) (answer : Bool) → (nat_le low n && nat_le n high) ≡ answer → ◌≡◌ {A = Result ℕ LineFault} (cond answer (Ok n) (Err faults.Range)) (Ok m) → (low ≤ m) × (m ≤ high)
chosen_within low high n m true is e =
    let same = same_ok n m e in
    let parts = and_parts (nat_le low n) (nat_le n high) is in
    (omega (arith, same, leb-true _ _ parts.0), omega (arith, same, leb-true _ _ parts.1))
chosen_within low high n m false is e = absurd (cc e)

range_ok : (low high : ℕ) (read : Option ℕ) (m : ℕ) → in_range low high read ≡ Ok m → (low ≤ m) × (m ≤ high)
range_ok low high None m e = absurd (cc e)
range_ok low high (Some n) m e = chosen_within low high n m (nat_le low n && nat_le n high) refl e

-- a term that is accepted is new and has a weight
abbrev IsNew : List Term → Term → Type 0
IsNew named term = (is_term named term.0 ≡ false) × IsWeight term

one_weight : (named : List Term) (text : List ℕ) (read : Result (List ℕ) LineFault) (term : Term) → read ≡ word_in (is_term named) text → unweighted read ≡ Ok term → IsNew named term
one_weight named text (Ok word) term is e =
    let same = same_ok {X = Term} (word, 1) term e in
    let new : is_term named word ≡ false = new_ok (is_term named) (only (words_of text)) word (sym is) in
    subst (IsNew named) same (new, record { some = omega arith; few = omega arith })
one_weight named text (Err fault) term is e = absurd (cc e)

weight_read : (named : List Term) (word : List ℕ) (number : Result ℕ LineFault) (term : Term) → is_term named word ≡ false → ((n : ℕ) → number ≡ Ok n → (1 ≤ n) × (n ≤ 20)) → with_weight word number ≡ Ok term → IsNew named term
weight_read named word (Ok n) term new within e =
    let w = within n refl in
    subst (IsNew named) (same_ok {X = Term} (word, n) term e) (new, record { some = w.0; few = w.1 })
weight_read named word (Err fault) term new within e = absurd (cc e)

read_weight : (named : List Term) (text weight : List ℕ) (read : Result (List ℕ) LineFault) (term : Term) → read ≡ word_in (is_term named) text → weighted read weight ≡ Ok term → IsNew named term
read_weight named text weight (Ok word) term is e =
    weight_read named word (number_in 1 20 weight) term (new_ok (is_term named) (only (words_of text)) word (sym is)) (λ n h. range_ok 1 20 (number_of weight) n h) e
read_weight named text weight (Err fault) term is e = absurd (cc e)

bare_ok : (named : List Term) (bytes : List ℕ) (parts : Option (List ℕ × List ℕ)) (term : Term) → bare_term named bytes parts ≡ Ok term → IsNew named term
bare_ok named bytes None term e = one_weight named bytes (word_in (is_term named) bytes) term refl e
bare_ok named bytes (Some parts) term e = read_weight named parts.0 parts.1 (word_in (is_term named) parts.0) term refl e

term_ok : (named : List Term) (token : Token) (term : Term) → term_of named token ≡ Ok term → IsNew named term
term_ok named (Bare bytes) term e = bare_ok named bytes (at_star bytes) term e
term_ok named (Quoted bytes) term e = one_weight named bytes (word_in (is_term named) bytes) term refl e
term_ok named Open term e = absurd (cc e)
term_ok named Close term e = absurd (cc e)
term_ok named Broken term e = absurd (cc e)

-- the words of terms
abbrev named_by : Term → List ℕ
named_by term = term.0

any_named : (terms : List Term) (word : List ℕ) → list_any (λ other. bytes_eq other word) (map named_by terms) ≡ is_term terms word
any_named [] word = refl
any_named (term ∷ terms) word = ap (λ b. bytes_eq term.0 word || b) (any_named terms word)

abbrev AreTerms : List Term → Type 0
AreTerms terms = IsDistinct bytes_eq (map named_by terms) × All IsWeight terms

only_one : (term : Term) → IsWeight term → All IsWeight (term ∷ [])
only_one term weight zero d less = weight
only_one term weight (suc k) d less = absurd (omega arith)

one_more_term : (named : List Term) (term : Term) → AreTerms named → IsNew named term → AreTerms (named ++ term ∷ [])
one_more_term named term kept_so new = (
  subst (IsDistinct bytes_eq) (sym (map-append named_by named (term ∷ []))) (apart (map named_by named) term.0 kept_so.0 (any_named named term.0 ∙ new.0)),
  All-append IsWeight named (term ∷ []) kept_so.1 (only_one term new.1),
)

-- the words of a top query
pub terms_sound : (named items : List Term) (first : Term) (token : Token) (text : List ℕ) → named ≡ first ∷ [] → term_of [] token ≡ Ok first → more_words term_of 7 named text ≡ Ok items → IsWeights items
terms_sound named items first token text is taken e =
    let begun : AreTerms (first ∷ []) = (one_apart first.0, only_one first (term_ok [] token first taken).1) in
    let k = kept term_of AreTerms (λ before token term p h. one_more_term before term p (term_ok before token term h)) 7 named items text (subst AreTerms (sym is) begun) e in
    record {
      words = record { some = omega (arith, ap length is, k.more, length-map items named_by); few = omega (arith, ap length is, k.few, length-map items named_by); distinct = k.keeps.0 };
      weights = k.keeps.1;
    }

-- what is known of a wanted answer is known of a call that answers it
pub if_ok : {A B : Type 0} (seen : A → B) (P : B → Type 0) (result : Result A LineFault) (wanted : Result B LineFault) → Answers seen result wanted → ((y : B) → wanted ≡ Ok y → P y) → IfOk result (λ x. P (seen x))
if_ok seen P (Ok x) wanted says sound = sound (seen x) says
if_ok seen P (Err fault) wanted says sound = tt
