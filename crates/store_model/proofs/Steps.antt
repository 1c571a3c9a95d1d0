-- Updates word by word: what holds after some of the words.
use Rattle.std.specs.Prelude.{◌≡◌, ℕ, ◌+◌, ◌<◌, ◌≤◌, true, false, if◌then◌else◌, List, [], ◌∷◌, ◌++◌, length, Option, Some, option_map}
use Rattle.std.specs.List.Sorted.{IsStrictlySortedBy}
use Rattle.std.specs.Map.{keys_of}
use Rattle.std.specs.Ordering.{nat_cmp}
use Rattle.spatial_base.specs.Key.{key_cmp}
use Rattle.row_codec.specs.declared.counted.Counted.{Counted}
use Rattle.row_codec.specs.Pairs.{Pair}
use Rattle.store_tables.specs.Entries.{Entries, word_cmp, word_of_number}
use Rattle.store_tables.specs.Words.{WordTablesAgree}
use Rattle.store_model.specs.Updates.{Numbered, has_pair}

-- the word that has a number
abbrev pub word_at : ℕ → List (ℕ × Counted) → Option (List ℕ)
word_at number numbers = option_map (λ (c : Counted). c.word) (word_of_number number numbers)

-- each number that has a word before has it after
abbrev pub KeepsWords : List (ℕ × Counted) → List (ℕ × Counted) → Type 0
KeepsWords before after = (number : ℕ) (word : List ℕ) → word_at number before ≡ Some word → word_at number after ≡ Some word

-- the claims with one more on each number that is among these pairs and not among those
abbrev pub claimed_beside : List Pair → List Pair → (ℕ → ℕ) → ℕ → ℕ
claimed_beside these those claims n = claims n + (if has_pair n those then 0 else if has_pair n these then 1 else 0)

-- each word has its pair: its number and its impact
abbrev pub AreNumbered : List (ℕ × Counted) → List (List ℕ × ℕ) → List Pair → Type 0
AreNumbered numbers [] [] = Unit {0}
AreNumbered numbers (term ∷ words) (pair ∷ pairs) = (word_at pair.0 numbers ≡ Some term.0) × (pair.1 ≡ term.1) × AreNumbered numbers words pairs
AreNumbered numbers [] (pair ∷ pairs) = ⊥
AreNumbered numbers (term ∷ words) [] = ⊥

-- no two pairs have one number
abbrev pub AreApart : List Pair → Type 0
AreApart [] = Unit {0}
AreApart (pair ∷ pairs) = (has_pair pair.0 pairs ≡ false) × AreApart pairs

-- what was numbered, behind these pairs
abbrev pub with_pairs : List Pair → Numbered → Numbered
with_pairs front numbered = record numbered { pairs = front ++ numbered.pairs }

-- each table is in the order of its keys
pub record AreAscending (entries : Entries) : Type 0 where
  pub places : IsStrictlySortedBy key_cmp (keys_of entries.places)
  pub texts : IsStrictlySortedBy word_cmp (keys_of entries.texts)
  pub numbers : IsStrictlySortedBy nat_cmp (keys_of entries.numbers)

-- The words `done` have their numbers, those of the pairs so far: one place more holds each of them but the old ones, no number
-- lost its word, and at most one number was given for each.
pub record IsNumbering (claims : ℕ → ℕ) (old : List Pair) (before : Entries) (next_word : ℕ) (done : List (List ℕ × ℕ)) (state : Numbered) : Type 0 where
  pub agree : WordTablesAgree (claimed_beside state.pairs old claims) state.entries.texts state.entries.numbers state.next_word
  pub ascend : AreAscending state.entries
  pub named : AreNumbered state.entries.numbers done state.pairs
  pub keeps : KeepsWords before.numbers state.entries.numbers
  pub places : state.entries.places ≡ before.places
  pub held : (n : ℕ) → has_pair n old ≡ true → n < state.next_word
  pub rises : next_word ≤ state.next_word
  pub few : state.next_word ≤ next_word + length done

-- What is left of the old pairs is still to be released: one place more than is claimed holds each of them but the new ones, and
-- no number has another word than before.
pub record IsReleasing (claims : ℕ → ℕ) (new : List Pair) (before : Entries) (next_word : ℕ) (left : List Pair) (entries : Entries) : Type 0 where
  pub agree : WordTablesAgree (claimed_beside left new claims) entries.texts entries.numbers next_word
  pub ascend : AreAscending entries
  pub keeps : KeepsWords entries.numbers before.numbers
  pub places : entries.places ≡ before.places
