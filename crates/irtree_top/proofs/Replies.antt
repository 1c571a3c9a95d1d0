-- What the replies to a script's lines acknowledge.
use Rattle.std.proofs.Common.{◌≡◌, ℕ, zero, suc, ◌+◌, ◌*◌, ◌/◌, ◌%◌, ◌^◌, ◌≤◌, ⊎_elim, ◌==◌, Bool, true, false, cond, nat_lt, ◌||◌, List, [], ◌∷◌, ◌++◌, length, refl, ap, ◌∙◌, arith}
use Rattle.std.specs.Prelude.{ℤ, pos, negsuc, if◌then◌else◌, codes, decimal, flat_map, Option, Some, None}
use Rattle.std.specs.Char.{digit_char}
use Rattle.std.specs.Fmt.{digits, digits_onto, digit_glyph}
use Rattle.std.proofs.lemmas.Bool.{cases_eq, ne_eqb, lt-ltb}
use Rattle.json.specs.Print.{escape, escape_byte, escape_letter, quoted}
use Rattle.fixed_coords.specs.Degrees.{fixed_text, size_text, last_digits}
use Rattle.spatial_base.specs.Key.{Name, Text, Auto}
use Rattle.spatial_base.specs.Point.{Position}
use Rattle.place_values.specs.Top.{weight_sum}
use Rattle.place_values.specs.declared.hit.Hit.{Hit}
use Rattle.place_values.specs.declared.query.Answer.{Answer}
use Rattle.place_values.specs.declared.query.Answer.TheVariants.{Hits, Group}
use Rattle.place_values.specs.declared.query.Chosen.{Chosen}
use Rattle.place_values.specs.declared.query.Pick.{Pick}
use Rattle.place_values.specs.declared.query.Query.{Query}
use Rattle.place_values.specs.declared.query.Query.TheVariants as queries
use Rattle.query_replies.specs.Fault.{reason_text}
use Rattle.query_replies.specs.Found.{score_text, pick_text, group_text, found_text}
use Rattle.query_replies.specs.Lines.{ranked_line, ranked_lines}
use Rattle.query_replies.specs.Parts.{key_text, units_text, point_text, at_text}
use Rattle.query_replies.specs.Reply.{word_line, labelled_text, place_text, text_of_reply}
use Rattle.query_replies.specs.declared.fault.LineFault.{LineFault}
use Rattle.query_replies.specs.declared.fault.LineFault.TheVariants as faults
use Rattle.query_replies.specs.declared.reply.Reply.TheVariants as replies
use Rattle.irtree_top.proofs.Cuts.{in_line, in_line-append, is_quiet, quiet-append, quiet-within}

-- ---- numbers

-- a digit is neither LF nor `o`
abbrev pub IsDigit : ℕ → Type 0
IsDigit byte = (48 ≤ byte) × (byte ≤ 57)

-- each byte is a digit
abbrev pub AreDigits : List ℕ → Type 0
AreDigits [] = Unit {0}
AreDigits (byte ∷ bytes) = IsDigit byte × AreDigits bytes

-- so it is with one more in front of others, as many as there are
digits_onto-are : (k n : ℕ) (bytes : List ℕ) → AreDigits bytes → AreDigits (digits_onto k 10 false n bytes)
digits_onto-are zero n bytes are = are
digits_onto-are (suc k) n bytes are =
    let more : AreDigits (digit_glyph false (n % 10) ∷ bytes) = (rw (lt-ltb (n % 10) 10 (omega arith)) (omega arith, omega arith), are) in
    either (n / 10 == 0) _ _ more (digits_onto-are k (n / 10) (digit_glyph false (n % 10) ∷ bytes) more)
  where
    either : (b : Bool) (xs ys : List ℕ) → AreDigits xs → AreDigits ys → AreDigits (if b then xs else ys)
    either true xs ys is also = is
    either false xs ys is also = also

-- decimal digits
pub decimal-are : (n : ℕ) → AreDigits (decimal n)
unfolding digits
decimal-are n = digits_onto-are 64 n [] tt

-- digits are within a line
pub digits-in : (bytes : List ℕ) → AreDigits bytes → in_line bytes ≡ true
digits-in [] are = refl
digits-in (byte ∷ bytes) are = rw (ne_eqb byte 10 (λ e. omega arith)) (digits-in bytes are.1)

-- a number is within a line
pub decimal-in : (n : ℕ) → in_line (decimal n) ≡ true
decimal-in n = digits-in (decimal n) (decimal-are n)

-- a line that begins with a number and a blank goes on
digits-first : (bytes rest : List ℕ) → AreDigits bytes → is_quiet true (bytes ++ 32 ∷ rest) ≡ is_quiet false rest
digits-first [] rest are = refl
digits-first (byte ∷ bytes) rest are =
    ap (λ (b : Bool). cond b false (is_quiet (byte == 10) (bytes ++ 32 ∷ rest))) (ne_eqb byte 111 (λ e. omega arith))
    ∙ ap (λ (b : Bool). is_quiet b (bytes ++ 32 ∷ rest)) (ne_eqb byte 10 (λ e. omega arith))
    ∙ quiet-within bytes (32 ∷ rest) (digits-in bytes are.1)

-- the last digits are within a line
last_digits-in : (k n : ℕ) → in_line (last_digits k n) ≡ true
unfolding last_digits
last_digits-in zero n = refl
last_digits-in (suc k) n = in_line-append (last_digits k (n / 10)) ((48 + n % 10) ∷ []) (last_digits-in k (n / 10)) (rw (ne_eqb (48 + n % 10) 10 (λ e. omega arith)) refl)

-- so is a value in degrees
size-in : (n : ℕ) → in_line (size_text n) ≡ true
unfolding size_text
size-in n = in_line-append (decimal (n / 10 ^ 7)) (46 ∷ last_digits 7 n) (decimal-in (n / 10 ^ 7)) (last_digits-in 7 n)

-- with its sign too
fixed-in : (value : ℤ) → in_line (fixed_text value) ≡ true
unfolding fixed_text
fixed-in (pos n) = size-in n
fixed-in (negsuc n) = size-in (suc n)

-- ---- literals

-- what stands for a byte is within a line
escape_byte-in : (byte : ℕ) → in_line (escape_byte byte) ≡ true
unfolding escape_byte
escape_byte-in byte = ⊎_elim
    (λ (e : byte ≡ 10). rw e refl)
    (λ (n : byte ≡ 10 → ⊥). escaped (nat_lt 0 (escape_letter byte)) (nat_lt byte 32) (escape_letter byte) (digit_char (byte / 16)) (digit_char (byte % 16))
    (ne_eqb (escape_letter byte) 10 (letter ((byte == 34) || (byte == 92)) (byte == 8) (byte == 12) (byte == 10) (byte == 13) (byte == 9) n))
    (ne_eqb (digit_char (byte / 16)) 10 (hex (nat_lt (byte / 16) 10) (byte / 16))) (ne_eqb (digit_char (byte % 16)) 10 (hex (nat_lt (byte % 16) 10) (byte % 16))) (ne_eqb byte 10 n))
    (cases_eq byte 10)
  where
    letter : (a b c d e f : Bool) → (byte ≡ 10 → ⊥) → cond a byte (cond b 98 (cond c 102 (cond d 110 (cond e 114 (cond f 116 0))))) ≡ 10 → ⊥
    letter true b c d e f n is = n is
    letter false true c d e f n is = omega arith
    letter false false true d e f n is = omega arith
    letter false false false true e f n is = omega arith
    letter false false false false true f n is = omega arith
    letter false false false false false true n is = omega arith
    letter false false false false false false n is = omega arith

    hex : (b : Bool) (n : ℕ) → cond b (48 + n) (87 + n) ≡ 10 → ⊥
    hex true n e = omega arith
    hex false n e = omega arith

    escaped : (a b : Bool) (l p q : ℕ) → (l == 10) ≡ false → (p == 10) ≡ false → (q == 10) ≡ false → (byte == 10) ≡ false
        → in_line (cond a (92 ∷ l ∷ []) (cond b (92 ∷ 117 ∷ 48 ∷ 48 ∷ p ∷ q ∷ []) (byte ∷ []))) ≡ true
    escaped true b l p q letter_in p_in q_in byte_in = rw letter_in refl
    escaped false true l p q letter_in p_in q_in byte_in = rw (p_in, q_in) refl
    escaped false false l p q letter_in p_in q_in byte_in = rw byte_in refl

-- what stands for bytes is within a line
escape-in : (bytes : List ℕ) → in_line (escape bytes) ≡ true
escape-in [] = refl
escape-in (byte ∷ bytes) = in_line-append (escape_byte byte) (escape bytes) (escape_byte-in byte) (escape-in bytes)

-- so is a literal
quoted-in : (bytes : List ℕ) → in_line (quoted bytes) ≡ true
quoted-in bytes = in_line-append (escape bytes) (34 ∷ []) (escape-in bytes) refl

-- ---- the parts of replies

-- a key is within a line
key-in : (key : Name) → in_line (key_text key) ≡ true
key-in (Text bytes) = quoted-in bytes
key-in (Auto serial) = decimal-in serial

-- a point is
point-in : (point : Position) → in_line (point_text point) ≡ true
point-in point = in_line-append (fixed_text point.x) (32 ∷ fixed_text point.y) (fixed-in point.x) (fixed-in point.y)

-- a point that may have been asked for is
at-in : (explain : Bool) (point : Position) → in_line (at_text explain point) ≡ true
at-in true point = point-in point
at-in false point = refl

-- what a cost is made of is
score-in : (total : ℕ) (hit : Hit) → in_line (score_text total hit) ≡ true
score-in total hit =
    in_line-append (units_text hit.dist) (codes " text " ++ (decimal hit.text ++ (codes " of " ++ decimal total))) (fixed-in _)
    (in_line-append (decimal hit.text) (codes " of " ++ decimal total) (decimal-in hit.text) (decimal-in total))

-- and so where it may have been asked for
why-in : (explain : Bool) (total : ℕ) (hit : Hit) → in_line (if explain then score_text total hit else []) ≡ true
why-in true total hit = score-in total hit
why-in false total hit = refl

-- what the line of a hit says: its key, a number, where it is and why
hit-in : (explain : Bool) (hit : Hit) (number why : List ℕ) → in_line number ≡ true → in_line why ≡ true → in_line (key_text hit.key ++ (number ++ (at_text explain hit.point ++ why))) ≡ true
hit-in explain hit number why is also =
    in_line-append (key_text hit.key) (number ++ (at_text explain hit.point ++ why)) (key-in hit.key)
    (in_line-append number (at_text explain hit.point ++ why) is (in_line-append (at_text explain hit.point) why (at-in explain hit.point) also))

-- what the line of a pick says is within a line
pick-in : (explain : Bool) (pick : Pick) → in_line (pick_text explain pick) ≡ true
pick-in explain pick =
    in_line-append (quoted pick.word) (32 ∷ (key_text pick.key ++ (32 ∷ (units_text pick.dist ++ at_text explain pick.point)))) (quoted-in pick.word)
    (in_line-append (key_text pick.key) (32 ∷ (units_text pick.dist ++ at_text explain pick.point)) (key-in pick.key)
    (in_line-append (units_text pick.dist) (at_text explain pick.point) (fixed-in _) (at-in explain pick.point)))

-- ---- replies that acknowledge nothing

-- lines with ranks
ranked-quiet : {X : Type 0} (said : X → List ℕ) → ((item : X) → in_line (said item) ≡ true) → (rank : ℕ) (items : List X) → is_quiet true (ranked_lines said rank items) ≡ true
ranked-quiet said within rank [] = refl
ranked-quiet said within rank (item ∷ items) =
    quiet-append true (ranked_line said rank item) (ranked_lines said (rank + 1) items)
    (digits-first (decimal rank) (said item ++ 10 ∷ []) (decimal-are rank) ∙ quiet-within (said item) (10 ∷ []) (within item))
    (ranked-quiet said within (rank + 1) items)

-- a line that ends with a number
number-quiet : (n : ℕ) (rest : List ℕ) → is_quiet false (decimal n ++ 10 ∷ rest) ≡ is_quiet true rest
number-quiet n rest = quiet-within (decimal n) (10 ∷ rest) (decimal-in n)

-- hits are quiet
hits-quiet : (said : Hit → List ℕ) → ((hit : Hit) → in_line (said hit) ≡ true) → (hits : List Hit) → is_quiet true (codes "= " ++ (decimal (length hits) ++ (10 ∷ ranked_lines said 1 hits))) ≡ true
hits-quiet said within hits = number-quiet (length hits) (ranked_lines said 1 hits) ∙ ranked-quiet said within 1 hits

-- a choice is quiet
group-quiet : (explain : Bool) (chosen : Option Chosen) → is_quiet true (group_text explain chosen) ≡ true
group-quiet explain None = refl
group-quiet explain (Some chosen) =
    quiet-within (decimal (length chosen.picks)) (32 ∷ (units_text chosen.cost ++ (10 ∷ ranked_lines (pick_text explain) 1 chosen.picks))) (decimal-in _)
    ∙ quiet-within (units_text chosen.cost) (10 ∷ ranked_lines (pick_text explain) 1 chosen.picks) (fixed-in _)
    ∙ ranked-quiet (pick_text explain) (pick-in explain) 1 chosen.picks

-- an answer is quiet
found-quiet : (explain : Bool) (query : Query) (answer : Answer) → is_quiet true (found_text explain query answer) ≡ true
found-quiet explain (queries.Range at scale radius filter) (Hits hits) = hits-quiet _ (λ hit. hit-in explain hit (32 ∷ units_text hit.dist) [] (fixed-in _) refl) hits
found-quiet explain (queries.Inside rect filter) (Hits hits) = hits-quiet _ (λ hit. hit-in explain hit [] [] refl refl) hits
found-quiet explain (queries.Nearest at scale k filter) (Hits hits) = hits-quiet _ (λ hit. hit-in explain hit (32 ∷ units_text hit.dist) [] (fixed-in _) refl) hits
found-quiet explain (queries.Top at scale k alpha reach words) (Hits hits) =
    hits-quiet _ (λ hit. hit-in explain hit (32 ∷ decimal hit.cost) _ (decimal-in hit.cost) (why-in explain (255 * weight_sum words) hit)) hits
found-quiet explain (queries.Rare at scale k alpha reach words) (Hits hits) = hits-quiet _ (λ hit. hit-in explain hit (32 ∷ decimal hit.cost) [] (decimal-in hit.cost) refl) hits
found-quiet explain (queries.Group at scale words) (Hits hits) = refl
found-quiet explain (queries.Gather at scale words) (Hits hits) = refl
found-quiet explain (queries.Group at scale words) (Group chosen) = group-quiet explain chosen
found-quiet explain (queries.Gather at scale words) (Group chosen) = group-quiet explain chosen
found-quiet explain (queries.Range at scale radius filter) (Group chosen) = refl
found-quiet explain (queries.Inside rect filter) (Group chosen) = refl
found-quiet explain (queries.Nearest at scale k filter) (Group chosen) = refl
found-quiet explain (queries.Top at scale k alpha reach words) (Group chosen) = refl
found-quiet explain (queries.Rare at scale k alpha reach words) (Group chosen) = refl

-- the lines of words are quiet
words-quiet : (words : List (List ℕ × ℕ)) → is_quiet true (flat_map word_line words) ≡ true
words-quiet [] = refl
words-quiet (word ∷ words) =
    quiet-append true (word_line word) (flat_map word_line words)
    (quiet-within (quoted word.0) (32 ∷ (decimal word.1 ++ 10 ∷ [])) (quoted-in word.0) ∙ number-quiet word.1 [])
    (words-quiet words)

-- a place is quiet
place-quiet : (key : Name) (point : Position) (words : List (List ℕ × ℕ)) (label : List ℕ) → is_quiet true (place_text key point words label) ≡ true
place-quiet key point words label =
    quiet-within (key_text key) (32 ∷ (point_text point ++ (32 ∷ labelled_text words label))) (key-in key)
    ∙ quiet-within (point_text point) (32 ∷ labelled_text words label) (point-in point)
    ∙ quiet-within (decimal (length words)) (32 ∷ (quoted label ++ (10 ∷ flat_map word_line words))) (decimal-in _)
    ∙ quiet-within (quoted label) (10 ∷ flat_map word_line words) (quoted-in label)
    ∙ words-quiet words

-- a reason ends its line
reason-quiet : (fault : LineFault) → is_quiet false (reason_text fault ++ 10 ∷ []) ≡ true
reason-quiet faults.Utf8 = refl
reason-quiet faults.Length = refl
reason-quiet faults.Command = refl
reason-quiet faults.Missing = refl
reason-quiet faults.Number = refl
reason-quiet faults.Range = refl
reason-quiet faults.Key = refl
reason-quiet faults.Word = refl
reason-quiet faults.Expression = refl
reason-quiet faults.Extra = refl
reason-quiet faults.Memory = refl

-- the reply to what is no line acknowledges nothing
pub bad-quiet : (fault : LineFault) → is_quiet true (text_of_reply (replies.Bad fault)) ≡ true
unfolding text_of_reply
bad-quiet fault = reason-quiet fault

-- nor does that to a query
pub answer-quiet : (answer : Answer) (query : Query) (explain : Bool) → is_quiet true (text_of_reply (replies.Found answer query explain)) ≡ true
unfolding text_of_reply
answer-quiet answer query explain = found-quiet explain query answer

-- nor does that which shows a place
pub shown-quiet : (key : Name) (point : Position) (words : List (List ℕ × ℕ)) (label : List ℕ) → is_quiet true (text_of_reply (replies.Place key point words label)) ≡ true
unfolding text_of_reply
shown-quiet key point words label = place-quiet key point words label

-- nor does the count
pub count-quiet : (n : ℕ) → is_quiet true (text_of_reply (replies.Count n)) ≡ true
unfolding text_of_reply
count-quiet n = number-quiet n []
