-- What the tables of a store hold, as finite maps.
use Rattle.std.specs.Prelude.{ℕ, List, [], ◌∷◌, Option, Some, None, find}
use Rattle.std.specs.BTreeMap.{insert_entry, is_at}
use Rattle.std.specs.Cmp.Lexicographic.{slice_cmp}
use Rattle.std.specs.Map.{lookup, remove_entry}
use Rattle.std.specs.Ordering.{nat_cmp, is_lt}
use Rattle.std.specs.declared.cmp.Ordering.{Ordering}
use Rattle.spatial_base.specs.Key.{Name, key_cmp}
use Rattle.row_codec.specs.declared.counted.Counted.{Counted}
use Rattle.row_codec.specs.declared.stored.Stored.{Stored}

-- places by key, numbers of words by text, and words by number with how many places hold them; each in the order of its keys
pub record Entries : Type 0 where
  pub places : List (Name × Stored)
  pub texts : List (List ℕ × ℕ)
  pub numbers : List (ℕ × Counted)

-- no place and no word
abbrev pub no_entries : Entries
no_entries = record { places = []; texts = []; numbers = [] }

-- words are ordered by their bytes
abbrev pub word_cmp : List ℕ → List ℕ → Ordering
word_cmp = slice_cmp nat_cmp

-- the place of a key
abbrev pub place_of_key : Name → List (Name × Stored) → Option Stored
place_of_key key places = lookup (is_at (key_cmp key)) places

-- the places with one at this key
abbrev pub with_place : Name → Stored → List (Name × Stored) → List (Name × Stored)
with_place key stored places = insert_entry key_cmp places key stored

-- the places without this key's
abbrev pub without_place : Name → List (Name × Stored) → List (Name × Stored)
without_place key places = remove_entry (is_at (key_cmp key)) places

-- the first place behind a key, or the first of all
abbrev pub place_after : Option Name → List (Name × Stored) → Option (Name × Stored)
place_after (Some key) places = find (λ e. is_lt (key_cmp key e.0)) places
place_after None [] = None
place_after None (e ∷ places) = Some e

-- the number of a word
abbrev pub number_of_word : List ℕ → List (List ℕ × ℕ) → Option ℕ
number_of_word word texts = lookup (is_at (word_cmp word)) texts

-- a number's word, and how many places hold it
abbrev pub word_of_number : ℕ → List (ℕ × Counted) → Option Counted
word_of_number number numbers = lookup (is_at (nat_cmp number)) numbers
