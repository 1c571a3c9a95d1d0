-- The words of a place one after another: what is numbered or released, and what can be.
use Rattle.std.proofs.Common.{◌≡◌, ℕ, true, false, cond, Bool, List, ◌∷◌, refl, sym, ap, subst, subst₂, ◌∙◌}
use Rattle.spatial_base.specs.Key.{Name}
use Rattle.spatial_base.specs.Point.{Position}
use Rattle.row_codec.specs.Pairs.{Pair}
use Rattle.row_codec.specs.Stored.{held_pairs}
use Rattle.row_codec.specs.declared.stored.Stored.{Stored}
use Rattle.store_tables.specs.Entries.{Entries, number_of_word, place_of_key, with_place}
use Rattle.store_tables.specs.Words.{next_after, number_for, with_hold, without_hold}
use Rattle.store_model.specs.Updates.{CanNumber, CanReleaseAll, after_put, by_number, has_pair, numbered, numbered_for, pairs_of, released_all, stored_with, with_pair}
use Rattle.store_model.proofs.Pairs.{has_pair-by_number, held-stored_with}
use Rattle.store_model.proofs.Releases.{released_all-same}

-- ---- the first word

module _ (old : List Pair) (rest : List (List ℕ × ℕ)) (word : List ℕ) (impact next number middle : ℕ) (entries : Entries) (number_is : number ≡ number_for word next entries.texts)
    (middle_is : middle ≡ cond (has_pair number old) next (next_after (number_of_word word entries.texts) next)) where
  -- the entries after the first word
  abbrev then : Entries
  then = cond (has_pair number old) entries (with_hold word next entries)

  -- the words behind the first are numbered from there on
  pub numbered-first : (words : List (List ℕ × ℕ)) → words ≡ (word, impact) ∷ rest → numbered old words next entries ≡ with_pair (number, impact) (numbered old rest middle then)
  numbered-first words is =
      ap (λ (ws : List (List ℕ × ℕ)). numbered old ws next entries) is
      ∙ ap (λ (n : ℕ). with_pair (n, impact) (cond (has_pair n old) (numbered old rest next entries) (numbered old rest (next_after (number_of_word word entries.texts) next) (with_hold word next entries)))) (sym number_is)
      ∙ ap (with_pair (number, impact)) (joined (has_pair number old) ∙ ap (λ (m : ℕ). numbered old rest m then) (sym middle_is))
    where
      joined : (b : Bool) → cond b (numbered old rest next entries) (numbered old rest (next_after (number_of_word word entries.texts) next) (with_hold word next entries))
          ≡ numbered old rest (cond b next (next_after (number_of_word word entries.texts) next)) (cond b entries (with_hold word next entries))
      joined true = refl
      joined false = refl

  -- and can be, where all can
  pub can-number-rest : (words : List (List ℕ × ℕ)) → words ≡ (word, impact) ∷ rest → CanNumber old words next entries → CanNumber old rest middle then
  can-number-rest words is can =
      let all = subst (λ (ws : List (List ℕ × ℕ)). CanNumber old ws next entries) is can in
      subst (λ (m : ℕ). CanNumber old rest m then) (sym middle_is) (split (has_pair number old) (λ held. all.0 (among ∙ held)) (λ fresh. (all.1 (among ∙ fresh)).1))
    where
      among : has_pair (number_for word next entries.texts) old ≡ has_pair number old
      among = ap (λ (n : ℕ). has_pair n old) (sym number_is)

      split : (b : Bool) → (b ≡ true → CanNumber old rest next entries) → (b ≡ false → CanNumber old rest (next_after (number_of_word word entries.texts) next) (with_hold word next entries))
          → CanNumber old rest (cond b next (next_after (number_of_word word entries.texts) next)) (cond b entries (with_hold word next entries))
      split true held fresh = held refl
      split false held fresh = fresh refl

-- ---- the first pair

module _ (new old rest : List Pair) (pair : Pair) (entries : Entries) (is : old ≡ pair ∷ rest) (fresh : has_pair pair.0 new ≡ false) where
  -- the first pair is released, and then those behind it
  pub released-first : released_all new old entries ≡ released_all new rest (without_hold pair.0 entries)
  released-first = ap (λ (ps : List Pair). released_all new ps entries) is ∙ ap (λ b. cond b (released_all new rest entries) (released_all new rest (without_hold pair.0 entries))) fresh

  -- and they can be, where all can
  pub can-release-rest : CanReleaseAll new old entries → CanReleaseAll new rest (without_hold pair.0 entries)
  can-release-rest can = ((subst (λ (ps : List Pair). CanReleaseAll new ps entries) is can).1 fresh).1

-- ---- a place that is put

module _ (key : Name) (point : Position) (label : List ℕ) (words listed : List (List ℕ × ℕ)) (next : ℕ) (entries : Entries) (held new : List Pair) (stored : Stored) (pairs : List Pair)
    (held_is : held ≡ pairs_of (place_of_key key entries.places)) (listed_is : listed ≡ words) (pairs_are : pairs ≡ by_number (numbered held listed next entries).pairs) (stored_is : stored ≡ stored_with point pairs label) (new_is : new ≡ held_pairs stored) where
  -- the entries with the place, by what was numbered
  abbrev with_new : List Pair → List (List ℕ × ℕ) → Stored → Entries
  with_new old terms place = record (numbered old terms next entries).entries { places = with_place key place (numbered old terms next entries).entries.places }

  -- the place has the numbers in their order
  stored_as : stored ≡ stored_with point (by_number (numbered_for key words next entries).pairs) label
  stored_as = stored_is ∙ ap (λ (ps : List Pair). stored_with point ps label) pairs_are ∙ (λ i. stored_with point (by_number (numbered (held_is i) (listed_is i) next entries).pairs) label)

  -- its pairs are those
  new_as : new ≡ by_number (numbered_for key words next entries).pairs
  new_as = new_is ∙ ap held_pairs stored_as ∙ held-stored_with point (by_number (numbered_for key words next entries).pairs) label

  -- the entries after the put
  pub after-puts : released_all new held (with_new held listed stored) ≡ after_put key point words label next entries
  after-puts =
      (λ i. released_all (new_as i) (held_is i) (with_new (held_is i) (listed_is i) (stored_as i)))
      ∙ released_all-same _ (numbered_for key words next entries).pairs (pairs_of (place_of_key key entries.places)) _ (λ n. has_pair-by_number n (numbered_for key words next entries).pairs)

  -- and the old words can be released where they can by what was numbered
  pub can-release-puts : CanReleaseAll (by_number (numbered_for key words next entries).pairs) (pairs_of (place_of_key key entries.places)) (with_new (pairs_of (place_of_key key entries.places)) words (stored_with point (by_number (numbered_for key words next entries).pairs) label))
      → CanReleaseAll new held (with_new held listed stored)
  can-release-puts can =
      subst₂ (λ (ps : List Pair) (place : Stored). CanReleaseAll ps held (with_new held listed place)) (sym new_as) (sym stored_as)
      (subst₂ (λ (old : List Pair) (terms : List (List ℕ × ℕ)). CanReleaseAll (by_number (numbered_for key words next entries).pairs) old (with_new old terms (stored_with point (by_number (numbered_for key words next entries).pairs) label))) (sym held_is) (sym listed_is) can)
