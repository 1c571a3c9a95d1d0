-- Entries as rows: keys as numbers, and values as bytes.
use Rattle.std.specs.Prelude.{ℕ, ◌+◌, ◌<◌, ◌^◌, List, Option, Some, None}
use Rattle.page_face.specs.Number.{number}
use Rattle.btree_nodes.specs.Rows.{Row}
use Rattle.spatial_base.specs.Key.{Name, IsName, form_of}
use Rattle.term_impacts.specs.Form.{word_form}
use Rattle.row_codec.specs.declared.stored.Stored.{Stored}
use Rattle.row_codec.specs.Stored.{IsStored, IsValue, place_value}

-- a key's form as a number
unfoldable pub key_code : Name → ℕ
key_code key = number (form_of key)

-- a word's form as a number
unfoldable pub word_code : List ℕ → ℕ
word_code word = number (word_form word)

-- a word's number, which is the number of its 8 bytes
abbrev pub number_code : ℕ → ℕ
number_code n = n

-- an entry's row: its key as a number, and the bytes of its value
abbrev pub row_by : {K V : Type 0} → (K → ℕ) → (V → List ℕ) → K × V → Row
row_by code value e = (code e.0, value e.1)

-- an entry of such a key and value
abbrev pub IsEntryOf : {K V : Type 0} → (K → Type 0) → (V → Type 0) → K × V → Type 0
IsEntryOf IsKey IsValue e = IsKey e.0 × IsValue e.1

-- a place of its form
abbrev pub IsPlaceValue : Stored → Type 0
IsPlaceValue stored = IsValue stored × IsStored stored

-- a number of 64 bits
abbrev pub IsU64 : ℕ → Type 0
IsU64 n = n < 2 ^ 64

-- a key and a place of their forms
abbrev pub IsPlaceEntry : Name × Stored → Type 0
IsPlaceEntry = IsEntryOf IsName IsPlaceValue

-- a place's row
abbrev pub place_row : Name × Stored → Row
place_row = row_by key_code place_value

-- the least number above a key's, or the least of all
abbrev pub next_code : Option Name → ℕ
next_code None = 0
next_code (Some key) = key_code key + 1
