-- Tables of pages.
use Rattle.std.specs.Prelude.{◌≡◌, ℕ, List, length, Option, Some, None, option_map, slice_get, nat_eq}
use Rattle.std.specs.declared.boxed.Box.{Box}
use Rattle.std.specs.declared.alloc.Global.{Global}
use Rattle.std.specs.declared.hash.BuildHasherDefault.{BuildHasherDefault}
use Rattle.std.specs.declared.hash.FoldHasher.{FoldHasher}
pub use Rattle.indexmap.specs.IndexMap.{spare}
use Rattle.indexmap.specs.IndexMap.{IndexMap, get}

-- pages in boxes, by their numbers
abbrev pub PageTable : Type 0
PageTable = IndexMap ℕ (Box (List ℕ) Global) (BuildHasherDefault FoldHasher)

-- the page of a number
abbrev pub page_in : PageTable → ℕ → Option (List ℕ)
page_in table n = option_map (λ page. page.value) (get nat_eq table n)

-- the page at an index
abbrev pub page_at : PageTable → ℕ → Option (List ℕ)
page_at table index = option_map (λ entry. entry.1.value) (slice_get table.entries index)

-- each page of the table has 4,096 bytes
abbrev pub IsSized : PageTable → Type 0
IsSized table = (n : ℕ) (page : List ℕ) → page_in table n ≡ Some page → length page ≡ 4096

-- the page where there is one, else another that may be there
abbrev pub first_page : Option (List ℕ) → Option (List ℕ) → Option (List ℕ)
first_page (Some page) other = Some page
first_page None other = other

-- the page where there is one, else another
abbrev pub first_of : Option (List ℕ) → List ℕ → List ℕ
first_of (Some page) other = page
first_of None other = other
