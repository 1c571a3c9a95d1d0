-- Words that are to be held can be, and those that are to be released.
use Rattle.std.proofs.Common.{◌≡◌, ℕ, ◌+◌, ◌<◌, ◌≤◌, ◌^◌, false, List, [], ◌∷◌, ◌++◌, length, All, sym, subst, ◌∙◌, append_assoc}
use Rattle.std.specs.List.Sorted.{IsStrictlySortedBy}
use Rattle.std.specs.Map.{keys_of}
use Rattle.term_impacts.specs.Pairs.{IsWordMap}
use Rattle.spatial_base.specs.Key.{Name}
use Rattle.spatial_base.specs.Point.{Position}
use Rattle.row_codec.specs.Pairs.{Pair}
use Rattle.store_tables.specs.Coded.{IsPlaceEntry}
use Rattle.store_tables.specs.Entries.{Entries, number_of_word, place_of_key, with_place, without_place, word_cmp}
use Rattle.store_tables.specs.Words.{WordTablesAgree, WordsAgree, holders, next_after, number_for, with_hold, without_hold}
use Rattle.store_tables.proofs.WordLemmas.{can_release-agree}
use Rattle.store_model.proofs.Steps.{claimed_beside, AreApart, AreAscending, IsNumbering, IsReleasing}
use Rattle.store_model.specs.Stands.{IsCounting}
use Rattle.store_model.specs.Updates.{Numbered, CanNumber, CanReleaseAll, by_number, has_pair, numbered_for, pairs_of, stored_with}
use Rattle.store_model.proofs.Numbers.{numbering-held, numbering-hold, numbering-room, numbering-start}
use Rattle.store_model.proofs.Pairs.{has_pair-by_number}
use Rattle.store_model.proofs.Places.{apart-old, known-old, room-put}
use Rattle.store_model.proofs.Puts.{put-releasing}
use Rattle.store_model.proofs.Releases.{releasing-kept, releasing-known, releasing-release}
use Rattle.store_model.proofs.Removes.{releasing-without}

module _ (claims : ℕ → ℕ) (old : List Pair) (before : Entries) (next_word : ℕ) (room : (n : ℕ) → has_pair n old ≡ false → claims n + 1 < 2 ^ 32) where
  -- each of the words that are left can be held in its turn
  pub can-number : (rest done : List (List ℕ × ℕ)) (state : Numbered) → IsNumbering claims old before next_word done state → IsStrictlySortedBy word_cmp (keys_of (done ++ rest))
      → CanNumber old rest state.next_word state.entries
  can-number [] done state is sorted = tt
  can-number (term ∷ rest) done state is sorted =
      let number = number_for term.0 state.next_word state.entries.texts in
      let left : IsStrictlySortedBy word_cmp (keys_of ((done ++ term ∷ []) ++ rest)) = subst (λ (words : List (List ℕ × ℕ)). IsStrictlySortedBy word_cmp (keys_of words)) (sym (append_assoc done (term ∷ []) rest)) sorted in (
        λ in_old. can-number rest (done ++ term ∷ []) (record state { pairs = state.pairs ++ (number, term.1) ∷ [] }) (numbering-held claims old before next_word done state is term in_old) left,
        λ fresh. (
          numbering-room claims old before next_word done state is term rest sorted fresh (room number fresh),
          can-number rest (done ++ term ∷ [])
              (record { entries = with_hold term.0 state.next_word state.entries; next_word = next_after (number_of_word term.0 state.entries.texts) state.next_word; pairs = state.pairs ++ (number, term.1) ∷ [] })
              (numbering-hold claims old before next_word done state is term rest sorted fresh (room number fresh)) left,
        ),
      )

-- each of the words that are left to release can be released in its turn
pub can-release : (claims : ℕ → ℕ) (new : List Pair) (before : Entries) (next_word : ℕ) (left : List Pair) (entries : Entries) → AreApart left → IsReleasing claims new before next_word left entries
    → CanReleaseAll new left entries
can-release claims new before next_word [] entries apart is = tt
can-release claims new before next_word (pair ∷ left) entries apart is = (
  λ held. can-release claims new before next_word left entries apart.1 (releasing-kept claims new before next_word pair left entries is held),
  λ fresh. (
    can_release-agree (claimed_beside (pair ∷ left) new claims) entries next_word pair.0 is.agree (releasing-known claims new before next_word pair left entries is fresh),
    can-release claims new before next_word left (without_hold pair.0 entries) apart.1 (releasing-release claims new before next_word pair left entries is fresh apart.0),
  ),
)

-- which words can be released is told by the numbers of the new pairs alone
can_release-same : (new other left : List Pair) (entries : Entries) → ((n : ℕ) → has_pair n new ≡ has_pair n other) → CanReleaseAll new left entries → CanReleaseAll other left entries
can_release-same new other [] entries same can = tt
can_release-same new other (pair ∷ left) entries same can = (
  λ held. can_release-same new other left entries same (can.0 (same pair.0 ∙ held)),
  λ fresh. (let rest = can.1 (same pair.0 ∙ fresh) in (rest.0, can_release-same new other left (without_hold pair.0 entries) same rest.1)),
)

module _ (key : Name) (entries : Entries) (next_word : ℕ) (agree : WordsAgree entries next_word) (ascend : AreAscending entries) (each : All IsPlaceEntry entries.places) where
  -- the words of a place that is put can be numbered
  pub can-number-put : (words : List (List ℕ × ℕ)) → IsStrictlySortedBy word_cmp (keys_of words) → length (without_place key entries.places) + 1 < 2 ^ 32 → CanNumber (pairs_of (place_of_key key entries.places)) words next_word entries
  can-number-put words sorted room =
      can-number (λ n. holders n entries.places) (pairs_of (place_of_key key entries.places)) entries next_word (room-put key entries.places room) words [] (record { entries = entries; next_word = next_word; pairs = [] })
      (numbering-start (λ n. holders n entries.places) (pairs_of (place_of_key key entries.places)) entries next_word agree ascend (known-old key entries next_word agree)) sorted

  -- and those of the place before it can be released then, by the new numbers in their order
  pub can-release-put : (point : Position) (words : List (List ℕ × ℕ)) (label : List ℕ) → IsWordMap words → length (without_place key entries.places) + 1 < 2 ^ 32 → next_word + length words ≤ 2 ^ 64
      → (let now = numbered_for key words next_word entries in CanReleaseAll (by_number now.pairs) (pairs_of (place_of_key key entries.places)) (record now.entries { places = with_place key (stored_with point (by_number now.pairs) label) now.entries.places }))
  can-release-put point words label map_of_words room numbers_left =
      let now = numbered_for key words next_word entries in
      let old = pairs_of (place_of_key key entries.places) in
      let then : Entries = record now.entries { places = with_place key (stored_with point (by_number now.pairs) label) now.entries.places } in
      can_release-same now.pairs (by_number now.pairs) old then (λ n. sym (has_pair-by_number n now.pairs))
      (can-release _ now.pairs then now.next_word old then (apart-old key entries.places each) (put-releasing key point words label entries next_word agree ascend each map_of_words room numbers_left))

-- the words of a place that was taken out can be released
pub can-release-without : (claims : ℕ → ℕ → ℕ) → IsCounting claims → (key : Name) (entries : Entries) (next_word : ℕ) → WordTablesAgree (λ n. claims n (holders n entries.places)) entries.texts entries.numbers next_word → AreAscending entries → All IsPlaceEntry entries.places
    → CanReleaseAll [] (pairs_of (place_of_key key entries.places)) (record entries { places = without_place key entries.places })
can-release-without claims counting key entries next_word agree ascend each =
    can-release (λ n. claims n (holders n (without_place key entries.places))) [] _ next_word (pairs_of (place_of_key key entries.places)) _ (apart-old key entries.places each) (releasing-without claims counting key entries next_word agree ascend)
