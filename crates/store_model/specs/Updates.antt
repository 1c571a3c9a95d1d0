-- What an update does to the entries of the tables.
use Rattle.std.specs.Prelude.{◌≡◌, ℕ, ◌-◌, ◌==◌, Bool, true, false, if◌then◌else◌, List, [], ◌∷◌, ◌++◌, length, replicate, fold, Option, Some, None}
use Rattle.std.specs.BTreeMap.{insert_entry}
use Rattle.std.specs.List.{list_any}
use Rattle.std.specs.Ordering.{nat_cmp}
use Rattle.spatial_base.specs.Key.{Name}
use Rattle.spatial_base.specs.Point.{Position}
use Rattle.row_codec.specs.declared.stored.Stored.{Stored}
use Rattle.row_codec.specs.Pairs.{Pair}
use Rattle.row_codec.specs.Stored.{held_pairs}
use Rattle.store_tables.specs.Entries.{Entries, place_of_key, with_place, without_place, number_of_word}
use Rattle.store_tables.specs.Words.{CanHold, CanRelease, number_for, next_after, with_hold, without_hold}

-- whether a number is among the pairs
abbrev pub has_pair : ℕ → List Pair → Bool
has_pair number pairs = list_any (λ (p : Pair). p.0 == number) pairs

-- the pairs of the place at a key; none where there is no place
abbrev pub pairs_of : Option Stored → List Pair
pairs_of None = []
pairs_of (Some stored) = held_pairs stored

-- the entries and the next word number after a place took hold of words, and the words' numbers with their impacts
pub record Numbered : Type 0 where
  pub entries : Entries
  pub next_word : ℕ
  pub pairs : List Pair

-- with one pair more
abbrev pub with_pair : Pair → Numbered → Numbered
with_pair pair numbered = record numbered { pairs = pair ∷ numbered.pairs }

-- One place more holds each of the words, but those whose numbers the place before it held.
abbrev pub numbered : List Pair → List (List ℕ × ℕ) → ℕ → Entries → Numbered
numbered old [] next_word entries = record { entries = entries; next_word = next_word; pairs = [] }
numbered old (term ∷ words) next_word entries =
    let number = number_for term.0 next_word entries.texts in
    with_pair (number, term.1)
    (if has_pair number old
    then numbered old words next_word entries
    else numbered old words (next_after (number_of_word term.0 entries.texts) next_word) (with_hold term.0 next_word entries))

-- In its turn each word that the old place doesn't hold can be held once more.
abbrev pub CanNumber : List Pair → List (List ℕ × ℕ) → ℕ → Entries → Type 0
CanNumber old [] next_word entries = Unit {0}
CanNumber old (term ∷ words) next_word entries =
    (has_pair (number_for term.0 next_word entries.texts) old ≡ true → CanNumber old words next_word entries)
    × (has_pair (number_for term.0 next_word entries.texts) old ≡ false
    → CanHold term.0 next_word entries × CanNumber old words (next_after (number_of_word term.0 entries.texts) next_word) (with_hold term.0 next_word entries))

-- One place less holds each word of the old pairs whose number isn't among the new ones.
abbrev pub released_all : List Pair → List Pair → Entries → Entries
released_all new [] entries = entries
released_all new (pair ∷ old) entries =
    if has_pair pair.0 new then released_all new old entries else released_all new old (without_hold pair.0 entries)

-- In its turn each word of the old pairs can be released whose number isn't among the new ones.
abbrev pub CanReleaseAll : List Pair → List Pair → Entries → Type 0
CanReleaseAll new [] entries = Unit {0}
CanReleaseAll new (pair ∷ old) entries =
    (has_pair pair.0 new ≡ true → CanReleaseAll new old entries)
    × (has_pair pair.0 new ≡ false → CanRelease pair.0 entries × CanReleaseAll new old (without_hold pair.0 entries))

-- pairs put in the order of their numbers among others
abbrev pub placed : List Pair → List Pair → List Pair
placed = fold (λ done pair. insert_entry nat_cmp done pair.0 pair.1)

-- the pairs in the order of their numbers
abbrev pub by_number : List Pair → List Pair
by_number = placed []

-- a place with these pairs and this label
abbrev pub stored_with : Position → List Pair → List ℕ → Stored
stored_with point pairs label = record { point = point; count = length pairs; pairs = pairs ++ replicate (64 - length pairs) (0, 0); label = label }

-- the entries with a place put at a key, whose words have been numbered
abbrev pub entries_with : Name → Position → List ℕ → List Pair → Numbered → Entries
entries_with key point label old numbered =
    released_all numbered.pairs old
    (record numbered.entries { places = with_place key (stored_with point (by_number numbered.pairs) label) numbered.entries.places })

-- the entries and the next word number after a place was put at a key, and the numbers of its words
abbrev pub numbered_for : Name → List (List ℕ × ℕ) → ℕ → Entries → Numbered
numbered_for key words next_word entries = numbered (pairs_of (place_of_key key entries.places)) words next_word entries

-- the entries after a place was put at a key
abbrev pub after_put : Name → Position → List (List ℕ × ℕ) → List ℕ → ℕ → Entries → Entries
after_put key point words label next_word entries =
    entries_with key point label (pairs_of (place_of_key key entries.places)) (numbered_for key words next_word entries)

-- The entries after a place with these pairs was put at a key, whose words were held ahead: each word of the old place is
-- released, also those that the new place has, since that hold was counted ahead.
abbrev pub after_held : Name → Position → List Pair → List ℕ → Entries → Entries
after_held key point pairs label entries =
    released_all [] (pairs_of (place_of_key key entries.places)) (record entries { places = with_place key (stored_with point (by_number pairs) label) entries.places })

-- the entries after a key was taken out
abbrev pub after_remove : Name → Entries → Entries
after_remove key entries =
    released_all [] (pairs_of (place_of_key key entries.places)) (record entries { places = without_place key entries.places })
