-- Whole texts, and the prefixes of texts.
use Rattle.std.proofs.Common.{◌≡◌, ◌<◌, ◌≤◌, ℕ, zero, suc, ◌+◌, ◌⊎◌, inl, inr, false, cond, List, [], ◌∷◌, ◌++◌, Option, Some, None, refl, sym, ap, ◌∙◌, subst, arith, append_assoc, nat_eq}
use Rattle.std.proofs.Math.Logic.{⊎_elim}
use Rattle.std.specs.Prelude.{option_and_then}
use Rattle.std.specs.Str.{IsUtf8}
use Rattle.std.proofs.lemmas.Str.{IsUtf8-append}
use Rattle.std.proofs.lemmas.Bool.Decides.{nat_tests}
use Rattle.json_spelled.specs.Json.{Json, Items, Members}
use Rattle.json_spelled.specs.Grammar.{Spaces, none, space, Value, of_null, of_true, of_false, of_number, of_string, of_no_items, of_items, of_no_members, of_members, ItemsAt, first, MoreItems, no_more, more, MembersAt, first_member, MoreMembers, no_more_members, more_members, IsSpelled, IsText, Begins}
use Rattle.json_spelled.specs.Kind.{kind}
use Rattle.json_spelled.specs.Machine as machine
use Rattle.json_spelled.specs.Machine.{Frame, Place, Start, Mark1, Mark2, Ended, State, Between, begin, step, start, answer}
use Rattle.json_spelled.specs.Refusals.{level_limit, BeginsSome}
use Rattle.json_spelled.specs.declared.kind.Kind.{Kind}
use Rattle.json_spelled.specs.declared.kind.Kind.TheVariants as kinds
use Rattle.json_spelled.proofs.ByteKinds.{IsOf, kind_is}
use Rattle.json_spelled.proofs.Completeness.{led_to, over_spaces, value_read, spaces_follow, starter, Starts, agree}
use Rattle.json_spelled.proofs.Soundness.{sound, Awaits}
use Rattle.json_spelled.proofs.Completions.{Completion, completion, awaited_completion, AreAscii_text}
use Rattle.json_spelled.proofs.Kept.{IsCut, mark_text}

-- at the start a byte that doesn't begin a mark is as where a value has to come
start_as : (levels : ℕ) (frames : List Frame) (byte : ℕ) (bytes : List ℕ) → byte < 239 → answer levels (Between Start frames) (byte ∷ bytes) ≡ answer levels (Between machine.Value frames) (byte ∷ bytes)
start_as levels frames byte bytes small =
    let other : nat_eq byte 239 ≡ false = grind (arith, nat_tests) in
    agree levels (Between Start frames) (Between machine.Value frames) byte bytes (ap (λ b. cond b (Some (Between Mark1 frames)) (begin levels frames (kind byte) byte)) other)

-- what starts a value is below the mark
starts_small : (byte : ℕ) (k : Kind) → IsOf byte k → Starts k → byte < 239
starts_small byte kinds.Digit of s = omega (arith, of.1)
starts_small byte kinds.Control of s = absurd s
starts_small byte kinds.Other of s = absurd s
starts_small byte _ of s = omega (arith, of)

-- a text is read
spelled_read : (levels : ℕ) (value : Json) (bytes : List ℕ) → IsSpelled levels value bytes → answer levels (Between machine.Value []) bytes ≡ Some value
spelled_read levels value bytes s =
    over_spaces levels machine.Value [] tt s.before
    ∙ value_read levels [] (omega arith) s.value_at (spaces_follow s.after tt)
    ∙ over_spaces levels (Ended value) [] tt s.after

-- a value or a space begins a text as it begins a value
start_value : (levels : ℕ) (bytes at : List ℕ) {inside : ℕ} {value : Json} {rest : List ℕ} → Spaces bytes at → Value inside value at rest → answer levels (Between Start []) bytes ≡ answer levels (Between machine.Value []) bytes
start_value levels bytes at none v =
    let s = starter v in
    ap (answer levels (Between Start [])) s.whole ∙ start_as levels [] s.byte s.rest (starts_small s.byte (kind s.byte) (kind_is s.byte) s.starts) ∙ ap (answer levels (Between machine.Value [])) (sym s.whole)
start_value levels bytes at (space {byte} {bytes = others} h spaces) v = start_as levels [] byte others (omega arith)

-- a text has the machine's answer
pub text_read : (levels : ℕ) (value : Json) (bytes : List ℕ) → IsText levels value bytes → answer levels start bytes ≡ Some value
text_read levels value bytes t = by t.spelled_so
  where
    by : IsSpelled levels value bytes ⊎ ((rest : List ℕ) × (bytes ≡ 239 ∷ 187 ∷ 191 ∷ rest) × IsSpelled levels value rest) → answer levels start bytes ≡ Some value
    by (inl s) = start_value levels bytes s.at s.before s.value_at ∙ spelled_read levels value bytes s
    by (inr (rest, e, s)) = ap (answer levels start) e
        ∙ led_to levels (Between Start []) (Between Mark1 []) 239 (187 ∷ 191 ∷ rest) (kind 239) refl refl
        ∙ led_to levels (Between Mark1 []) (Between Mark2 []) 187 (191 ∷ rest) (kind 187) refl refl
        ∙ led_to levels (Between Mark2 []) (Between machine.Value []) 191 rest (kind 191) refl refl
        ∙ spelled_read levels value rest s

-- what awaits a value with nothing around it spells one
spelled_of : (levels : ℕ) (value : Json) (bytes : List ℕ) → Awaits levels [] bytes value → IsSpelled levels value bytes
spelled_of levels value bytes (at, found, rest, spaces, v, (after, is)) =
    record { at = at; behind = rest; before = spaces; value_at = subst (λ (x : Json). Value levels x at rest) is v; after = after }

-- what has the machine's answer is a text
pub read_text : (levels : ℕ) (value : Json) (bytes : List ℕ) → IsUtf8 bytes → answer levels start bytes ≡ Some value → IsText levels value bytes
read_text levels value bytes utf8 e = record {
  utf8 = utf8;
  spelled_so = ⊎_elim (λ a. inl (spelled_of levels value bytes a))
      (λ a. inr (a.0, a.1, spelled_of levels value a.0 a.2)) (sound levels levels start bytes value (omega arith) e);
}

-- the bytes of a text from a state on
record Rest (bytes : List ℕ) (state : State) : Type 0 where
  rest : List ℕ
  value : Json
  utf8 : IsUtf8 (bytes ++ rest)
  answers : (levels : ℕ) → answer levels state rest ≡ Some value

-- whole characters and a completion make such bytes
completed : (bytes : List ℕ) (state : State) → Completion state → IsUtf8 bytes → Rest bytes state
completed bytes state c h = record { rest = c.bytes; value = c.value; utf8 = IsUtf8-append bytes c.bytes h (AreAscii_text c.bytes c.ascii); answers = c.answers }

-- behind two bytes of the mark
mark2_rest : (bytes : List ℕ) (frames : List Frame) → bytes ≡ 239 ∷ 187 ∷ [] → Rest bytes (Between Mark2 frames)
mark2_rest bytes frames h =
    let c = awaited_completion frames in
    record {
      rest = 191 ∷ c.bytes;
      value = c.value;
      utf8 = subst (λ (x : List ℕ). IsUtf8 (x ++ 191 ∷ c.bytes)) (sym h) (IsUtf8-append (239 ∷ 187 ∷ 191 ∷ []) c.bytes mark_text (AreAscii_text c.bytes c.ascii));
      answers = λ levels. led_to levels (Between Mark2 frames) (Between machine.Value frames) 191 c.bytes (kind 191) refl refl ∙ c.answers levels;
    }

-- behind one byte of the mark
mark1_rest : (bytes : List ℕ) (frames : List Frame) → bytes ≡ 239 ∷ [] → Rest bytes (Between Mark1 frames)
mark1_rest bytes frames h =
    let c = awaited_completion frames in
    record {
      rest = 187 ∷ 191 ∷ c.bytes;
      value = c.value;
      utf8 = subst (λ (x : List ℕ). IsUtf8 (x ++ 187 ∷ 191 ∷ c.bytes)) (sym h) (IsUtf8-append (239 ∷ 187 ∷ 191 ∷ []) c.bytes mark_text (AreAscii_text c.bytes c.ascii));
      answers = λ levels. led_to levels (Between Mark1 frames) (Between Mark2 frames) 187 (191 ∷ c.bytes) (kind 187) refl refl
          ∙ led_to levels (Between Mark2 frames) (Between machine.Value frames) 191 c.bytes (kind 191) refl refl ∙ c.answers levels;
    }

-- where no token is open
place_rest : (bytes : List ℕ) (place : Place) (frames : List Frame) → IsCut bytes (Between place frames) → Rest bytes (Between place frames)
place_rest bytes Mark1 frames h = mark1_rest bytes frames h
place_rest bytes Mark2 frames h = mark2_rest bytes frames h
place_rest bytes Start frames h = completed bytes (Between Start frames) (completion (Between Start frames) tt) h
place_rest bytes machine.Value frames h = completed bytes (Between machine.Value frames) (completion (Between machine.Value frames) tt) h
place_rest bytes machine.FirstItem frames h = completed bytes (Between machine.FirstItem frames) (completion (Between machine.FirstItem frames) tt) h
place_rest bytes (machine.BehindItem items) frames h = completed bytes (Between (machine.BehindItem items) frames) (completion (Between (machine.BehindItem items) frames) tt) h
place_rest bytes machine.FirstName frames h = completed bytes (Between machine.FirstName frames) (completion (Between machine.FirstName frames) tt) h
place_rest bytes (machine.Name members) frames h = completed bytes (Between (machine.Name members) frames) (completion (Between (machine.Name members) frames) tt) h
place_rest bytes (machine.BehindName members name) frames h = completed bytes (Between (machine.BehindName members name) frames) (completion (Between (machine.BehindName members name) frames) tt) h
place_rest bytes (machine.BehindMember members) frames h = completed bytes (Between (machine.BehindMember members) frames) (completion (Between (machine.BehindMember members) frames) tt) h
place_rest bytes (Ended value) frames h = completed bytes (Between (Ended value) frames) (completion (Between (Ended value) frames) tt) h

-- in any state
state_rest : (bytes : List ℕ) (state : State) → IsCut bytes state → Rest bytes state
state_rest bytes (Between place frames) h = place_rest bytes place frames h
state_rest bytes (machine.InWord word frames) h = completed bytes (machine.InWord word frames) (completion (machine.InWord word frames) tt) h
state_rest bytes (machine.InNumber part token frames) h = completed bytes (machine.InNumber part token frames) (completion (machine.InNumber part token frames) tt) h
state_rest bytes (machine.InText use' spot token high frames) h = completed bytes (machine.InText use' spot token high frames) (completion (machine.InText use' spot token high frames) tt) h

-- what leads to a state begins a text
pub begins : (levels : ℕ) (bytes : List ℕ) (state : State) → ((rest : List ℕ) → answer levels start (bytes ++ rest) ≡ answer levels state rest) → IsCut bytes state → Begins levels bytes
begins levels bytes state leads h =
    let r = state_rest bytes state h in
    record { rest = r.rest; value = r.value; whole = read_text levels r.value (bytes ++ r.rest) r.utf8 (leads r.rest ∙ r.answers levels) }

-- A text of few levels is one of more.
mutual
  -- a value
  value_wider : (wide : ℕ) {levels : ℕ} {value : Json} {bytes rest : List ℕ} → levels ≤ wide → Value levels value bytes rest → Value wide value bytes rest
  value_wider wide h of_null = of_null
  value_wider wide h of_true = of_true
  value_wider wide h of_false = of_false
  value_wider wide h (of_number n e) = of_number n e
  value_wider wide h (of_string q) = of_string q
  value_wider zero h (of_no_items s) = absurd (omega arith)
  value_wider (suc m) h (of_no_items s) = of_no_items s
  value_wider zero h (of_items i) = absurd (omega arith)
  value_wider (suc m) h (of_items i) = of_items (items_wider m (omega arith) i)
  value_wider zero h (of_no_members s) = absurd (omega arith)
  value_wider (suc m) h (of_no_members s) = of_no_members s
  value_wider zero h (of_members i) = absurd (omega arith)
  value_wider (suc m) h (of_members i) = of_members (members_wider m (omega arith) i)

  -- items
  items_wider : (wide : ℕ) {levels : ℕ} {items : Items} {bytes rest : List ℕ} → levels ≤ wide → ItemsAt levels items bytes rest → ItemsAt wide items bytes rest
  items_wider wide h (first s v m) = first s (value_wider wide h v) (more_wider wide h m)

  -- what stands behind an item
  more_wider : (wide : ℕ) {levels : ℕ} {items : Items} {bytes rest : List ℕ} → levels ≤ wide → MoreItems levels items bytes rest → MoreItems wide items bytes rest
  more_wider wide h (no_more s) = no_more s
  more_wider m h (more s i) = more s (items_wider m h i)

  -- members
  members_wider : (wide : ℕ) {levels : ℕ} {members : Members} {bytes rest : List ℕ} → levels ≤ wide → MembersAt levels members bytes rest → MembersAt wide members bytes rest
  members_wider wide h (first_member s q c d v m) = first_member s q c d (value_wider wide h v) (more_members_wider wide h m)

  -- what stands behind a member
  more_members_wider : (wide : ℕ) {levels : ℕ} {members : Members} {bytes rest : List ℕ} → levels ≤ wide → MoreMembers levels members bytes rest → MoreMembers wide members bytes rest
  more_members_wider wide h (no_more_members s) = no_more_members s
  more_members_wider m h (more_members s i) = more_members s (members_wider m h i)

-- a spelling
spelled_wider : (levels wide : ℕ) (value : Json) (bytes : List ℕ) → levels ≤ wide → IsSpelled levels value bytes → IsSpelled wide value bytes
spelled_wider levels wide value bytes h s = record { at = s.at; behind = s.behind; before = s.before; value_at = value_wider wide h s.value_at; after = s.after }

-- a whole text
pub text_wider : (levels wide : ℕ) (value : Json) (bytes : List ℕ) → levels ≤ wide → IsText levels value bytes → IsText wide value bytes
text_wider levels wide value bytes h t = record {
  utf8 = t.utf8;
  spelled_so = ⊎_elim (λ s. inl (spelled_wider levels wide value bytes h s))
      (λ s. inr (s.0, s.1, spelled_wider levels wide value s.0 h s.2)) t.spelled_so;
}

-- what leads nowhere begins no text
pub begins_none : (bytes : List ℕ) → ((levels : ℕ) (rest : List ℕ) → level_limit ≤ levels → answer levels start (bytes ++ rest) ≡ None) → BeginsSome bytes → ⊥
begins_none bytes stuck (levels, b) =
    let wide = text_wider levels (levels + 64) b.value (bytes ++ b.rest) (omega arith) b.whole in
    let no : None ≡ Some b.value = sym (stuck (levels + 64) b.rest (omega arith)) ∙ text_read (levels + 64) b.value (bytes ++ b.rest) wide in
    absurd (cc no)

-- the same for few enough levels
pub begins_none_within : (bytes : List ℕ) → ((rest : List ℕ) → answer level_limit start (bytes ++ rest) ≡ None) → Begins level_limit bytes → ⊥
begins_none_within bytes stuck b =
    let no : None ≡ Some b.value = sym (stuck b.rest) ∙ text_read level_limit b.value (bytes ++ b.rest) b.whole in
    absurd (cc no)

-- a byte more
pub one_on : (levels : ℕ) (bytes : List ℕ) (byte : ℕ) (rest : List ℕ) (state : State) (o : Option State) → ((rest : List ℕ) → answer levels start (bytes ++ rest) ≡ answer levels state rest) → step levels state byte ≡ o
    → answer levels start ((bytes ++ byte ∷ []) ++ rest) ≡ option_and_then (λ next. answer levels next rest) o
one_on levels bytes byte rest state o leads e =
    ap (answer levels start) (append_assoc bytes (byte ∷ []) rest) ∙ leads (byte ∷ rest) ∙ ap (λ o. option_and_then (λ next. answer levels next rest) o) e
