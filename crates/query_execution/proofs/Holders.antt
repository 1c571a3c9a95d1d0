-- What the word tables count of a word is how many of the places hold it.
use Rattle.std.proofs.Common.{◌≡◌, ℕ, max, ◌+◌, ◌<◌, ◌≤◌, Bool, true, false, cond, ◌||◌, ◌==◌, nat_lt, List, [], ◌∷◌, All, map, length, Option, Some, None, refl, sym, ap, subst, ◌∙◌, arith}
use Rattle.std.proofs.lemmas.Bool.{lt-ltb}
use Rattle.std.proofs.lemmas.List.Elements.{All-head, All-tail}
use Rattle.std.proofs.lemmas.List.Sums.{length-filter, sum_by-cons}
use Rattle.std.specs.List.{count_by, filter, list_any}
use Rattle.std.specs.Map.{values_of}
use Rattle.spatial_base.specs.Key.{Name}
use Rattle.place_values.specs.declared.place.Place.{Place}
use Rattle.place_values.specs.Filter.{has_word}
use Rattle.place_values.specs.Rarity.{rarity, holders_of, weighed_by_rarity}
use Rattle.place_values.specs.RarityLaws.{few_holders}
use Rattle.row_codec.specs.declared.stored.Stored.{Stored}
use Rattle.row_codec.specs.Pairs.{Pair, HasImpact}
use Rattle.row_codec.specs.Stored.{held_pairs}
use Rattle.node_rows.specs.Impacts.{impact_in}
use Rattle.node_filter.specs.Numbers.{by_number}
use Rattle.store_tables.specs.Coded.{IsPlaceEntry}
use Rattle.store_tables.specs.Entries.{Entries, number_of_word}
use Rattle.store_tables.specs.Words.{WordsAgree, has_number, holders, places_of_number}
use Rattle.store_model.specs.Stands.{place_in, places_in}
use Rattle.query_execution.specs.Holders.{places_of_word, weighed_by_tables}
use Rattle.query_execution.proofs.Impacts.{word-impact}
use Rattle.query_execution.proofs.Kept.{state-places}

-- pairs have a number where its impact is above 0
pair-held : (n : ℕ) (pairs : List Pair) → All HasImpact pairs → nat_lt 0 (impact_in pairs n) ≡ list_any (λ (p : Pair). p.0 == n) pairs
pair-held n [] all = refl
pair-held n (p ∷ pairs) all = split (p.0 == n) (All-head HasImpact p pairs all) (pair-held n pairs (All-tail HasImpact p pairs all))
  where
    above : (k : ℕ) → 1 ≤ p.1 → nat_lt 0 (max k p.1) ≡ true
    above k h = lt-ltb 0 (max k p.1) (omega arith)

    same : (k : ℕ) → max k 0 ≡ k
    same k = omega arith

    split : (b : Bool) → 1 ≤ p.1 → nat_lt 0 (impact_in pairs n) ≡ list_any (λ (p : Pair). p.0 == n) pairs
        → nat_lt 0 (max (impact_in pairs n) (cond b p.1 0)) ≡ (b || list_any (λ (p : Pair). p.0 == n) pairs)
    split true some rest = above (impact_in pairs n) some
    split false some rest = ap (λ (k : ℕ). nat_lt 0 k) (same (impact_in pairs n)) ∙ rest

-- the place has a pair of a number, where there is one
abbrev has_found : Option ℕ → Stored → Bool
has_found None stored = false
has_found (Some n) stored = has_number n stored

found-held : (found : Option ℕ) (e : Name × Stored) → IsPlaceEntry e → nat_lt 0 (by_number (impact_in (held_pairs e.1)) found) ≡ has_found found e.1
found-held None e is = refl
found-held (Some n) e is = pair-held n (held_pairs e.1) is.1.1.impacts

-- 1 where a test holds
abbrev one_if : Bool → ℕ
one_if b = cond b 1 0

-- tests that agree on each entry count the same
counts-same : (g : Name × Stored → Name × Place) (p : Name × Place → Bool) (q : Stored → Bool) → ((e : Name × Stored) → IsPlaceEntry e → p (g e) ≡ q e.1)
    → (es : List (Name × Stored)) → All IsPlaceEntry es → count_by p (map g es) ≡ count_by q (values_of es)
counts-same g p q same [] all = refl
counts-same g p q same (e ∷ es) all =
    let one = ap one_if (same e (All-head IsPlaceEntry e es all)) in
    let rest = counts-same g p q same es (All-tail IsPlaceEntry e es all) in
    omega (arith, sum_by-cons (λ (x : Name × Place). one_if (p x)) (g e) (map g es), sum_by-cons (λ (x : Stored). one_if (q x)) e.1 (values_of es), one, rest)

none-counted : {X : Type 0} (xs : List X) → count_by (λ (x : X). false) xs ≡ 0
none-counted [] = refl
none-counted {X} (x ∷ xs) = omega (arith, sum_by-cons (λ (y : X). 0) x xs, none-counted xs)

module _ (entries : Entries) (next_word : ℕ) (agree : WordsAgree entries next_word) (each : All IsPlaceEntry entries.places) where
  -- a place holds a word where it has a pair of the word's number
  held-same : (word : List ℕ) (e : Name × Stored) → IsPlaceEntry e → has_word (place_in entries.numbers e.1) word ≡ has_found (number_of_word word entries.texts) e.1
  held-same word e is =
      ap (λ (k : ℕ). nat_lt 0 k) (sym (word-impact (λ number. holders number entries.places) entries.texts entries.numbers next_word agree word e.1 is.1.1))
      ∙ found-held (number_of_word word entries.texts) e is

  found-counted : (found : Option ℕ) → count_by (has_found found) (values_of entries.places) ≡ by_number (λ number. places_of_number number entries.numbers) found
  found-counted None = none-counted (values_of entries.places)
  found-counted (Some n) = sym (agree.counts n)

  -- what the word tables count of a word is how many of the places hold it
  pub holders-counted : (word : List ℕ) → length (holders_of word (places_in entries)) ≡ places_of_word entries word
  holders-counted word =
      length-filter (λ (entry : Name × Place). has_word entry.1 word) (places_in entries)
      ∙ counts-same (λ (e : Name × Stored). (e.0, place_in entries.numbers e.1)) (λ (entry : Name × Place). has_word entry.1 word) (has_found (number_of_word word entries.texts)) (held-same word) entries.places each
      ∙ found-counted (number_of_word word entries.texts)

  -- so no more hold it than there are
  pub few-hold : (word : List ℕ) → places_of_word entries word ≤ length entries.places
  few-hold word = omega (arith, holders-counted word, few_holders word (places_in entries), state-places entries)

  -- and the weights by the word tables are those that the places give
  pub weighed-same : (live : ℕ) → live ≡ length entries.places → (words : List (List ℕ)) → weighed_by_tables entries live words ≡ weighed_by_rarity (places_in entries) words
  weighed-same live are [] = refl
  weighed-same live are (word ∷ words) =
      let many : live ≡ length (places_in entries) = are ∙ sym (state-places entries) in
      let held = sym (holders-counted word) in
      let rest = weighed-same live are words in
      λ i. (word, rarity (many i) (held i)) ∷ rest i
