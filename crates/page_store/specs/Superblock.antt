-- Page 0 of a store: the magic, the pages counted, the first free page, and the head.
use Rattle.std.specs.Prelude.{◌≡◌, ℕ, ◌+◌, ◌*◌, ◌^◌, ◌<◌, ◌≤◌, Bool, true, false, List, [], ◌∷◌, ◌++◌, take, drop, slice_index, ◌==◌, if◌then◌else◌}
use Rattle.std.specs.List.{list_all}
use Rattle.std.specs.Int.{from_be_bytes, to_be_bytes, w32, w64}
use Rattle.page_face.specs.declared.head.Version.{Version}
use Rattle.page_face.specs.declared.head.Version.TheVariants.{One, Two}
use Rattle.page_store.specs.declared.superblock.Superblock.{Superblock}
use Rattle.page_store.specs.declared.superblock.HeadFault.{HeadFault}
use Rattle.page_store.specs.declared.superblock.HeadFault.TheVariants.{NotAStore, Version1, Broken}

-- the u32 at an offset
unfoldable pub word_at : List ℕ → ℕ → ℕ
word_at page at = from_be_bytes w32 (take 4 (drop at page))

-- the u64 at an offset
unfoldable pub long_at : List ℕ → ℕ → ℕ
long_at page at = from_be_bytes w64 (take 8 (drop at page))

-- each byte is 0
abbrev pub is_zero : List ℕ → Bool
is_zero = list_all (λ b. b == 0)

-- the digit of a version, 1 or 2
abbrev pub digit_of : Version → ℕ
digit_of One = 49
digit_of Two = 50

-- the magic of a version: the text IRTREE01 or IRTREE02
abbrev pub magic_of : Version → List ℕ
magic_of version = 73 ∷ 82 ∷ 84 ∷ 82 ∷ 69 ∷ 69 ∷ 48 ∷ digit_of version ∷ []

-- the page begins with the magic of version 2
abbrev pub HasMagic : List ℕ → Type 0
HasMagic page = take 8 page ≡ magic_of Two

-- the page begins with the magic of version 1
abbrev pub HasMagicOfVersion1 : List ℕ → Type 0
HasMagicOfVersion1 page = take 8 page ≡ magic_of One

-- the version that the eighth byte names: 1 by its digit, and else 2
abbrev pub version_in : List ℕ → Version
version_in page = if slice_index page 7 == 49 then One else Two

-- the 64 bytes of the magic and the fields
unfoldable pub header_of : Superblock → List ℕ
header_of block =
    magic_of block.head.version
    ++ to_be_bytes w32 block.counted
    ++ to_be_bytes w32 block.first_free
    ++ to_be_bytes w32 block.head.places
    ++ to_be_bytes w32 block.head.texts
    ++ to_be_bytes w32 block.head.numbers
    ++ to_be_bytes w32 block.head.rows
    ++ to_be_bytes w32 block.head.tree
    ++ to_be_bytes w32 block.head.live
    ++ to_be_bytes w64 block.head.serial
    ++ to_be_bytes w64 block.head.number
    ++ to_be_bytes w64 block.head.next_word

-- the version, and the fields behind the magic
abbrev pub fields_of : List ℕ → Superblock
fields_of page =
    record {
      counted = word_at page 8;
      first_free = word_at page 12;
      head = record {
        version = version_in page;
        places = word_at page 16;
        texts = word_at page 20;
        numbers = word_at page 24;
        rows = word_at page 28;
        tree = word_at page 32;
        live = word_at page 36;
        serial = long_at page 40;
        number = long_at page 48;
        next_word = long_at page 56;
      };
    }

-- the empty store: page 0 alone is counted
abbrev pub empty_store : Superblock
empty_store =
    record {
      counted = 1;
      first_free = 0;
      head = record { version = Two; places = 0; texts = 0; numbers = 0; rows = 0; tree = 0; live = 0; serial = 1; number = 0; next_word = 1 };
    }

-- what page 0 stands for: a page of zeros is the empty store
abbrev pub superblock_in : List ℕ → Superblock
superblock_in page = if is_zero page then empty_store else fields_of page

-- each field is in its range, in a store of version 2
pub record IsInRange (block : Superblock) : Type 0 where
  pub version : block.head.version ≡ Two
  pub counted : 1 ≤ block.counted
  pub first_free : block.first_free < block.counted
  pub places : block.head.places < block.counted
  pub texts : block.head.texts < block.counted
  pub numbers : block.head.numbers < block.counted
  pub rows : block.head.rows < block.counted
  pub tree : block.head.tree < block.counted
  pub serial : 1 ≤ block.head.serial
  pub serials : block.head.serial ≤ block.head.number + 1
  pub number : block.head.number ≤ 2 ^ 40
  pub next_word : 1 ≤ block.head.next_word
  pub words : block.head.next_word ≤ 64 * (block.head.number + 1)

-- the spare bytes behind the fields are 0
abbrev pub has_clear_spare : List ℕ → Bool
has_clear_spare page = is_zero (take 4032 (drop 64 page))

-- page 0 keeps the rule Head
abbrev pub KeepsHead : List ℕ → Type 0
KeepsHead page = IsInRange (fields_of page) × (has_clear_spare page ≡ true)

-- page 0 is one of a store: where it isn't all zero, it has the magic and keeps the rule Head
abbrev pub IsStorePage : List ℕ → Type 0
IsStorePage page = is_zero page ≡ false → HasMagic page × KeepsHead page

-- why page 0 is none of a store
abbrev pub IsHeadFault : HeadFault → List ℕ → Type 0
IsHeadFault NotAStore page = (is_zero page ≡ false) × (¬ HasMagic page) × (¬ HasMagicOfVersion1 page)
IsHeadFault Version1 page = HasMagicOfVersion1 page
IsHeadFault Broken page = HasMagic page × ¬ KeepsHead page

-- ---- page 0 of a store of version 1, whose fields are in the same places

-- the same fields in version 2
abbrev pub in_version2 : Superblock → Superblock
in_version2 block = record block { head = record block.head { version = Two } }

-- page 0 keeps the rule Head of version 1
abbrev pub KeepsHeadOfVersion1 : List ℕ → Type 0
KeepsHeadOfVersion1 page = IsInRange (in_version2 (fields_of page)) × (has_clear_spare page ≡ true)

-- page 0 is one of a store of version 1: where it isn't all zero, it has that magic and keeps the rule Head
abbrev pub IsPageOfVersion1 : List ℕ → Type 0
IsPageOfVersion1 page = is_zero page ≡ false → HasMagicOfVersion1 page × KeepsHeadOfVersion1 page

-- why page 0 is none of a store of version 1
abbrev pub IsFaultOfVersion1 : HeadFault → List ℕ → Type 0
IsFaultOfVersion1 NotAStore page = (is_zero page ≡ false) × ¬ HasMagicOfVersion1 page
IsFaultOfVersion1 Version1 page = ⊥
IsFaultOfVersion1 Broken page = HasMagicOfVersion1 page × ¬ KeepsHeadOfVersion1 page
