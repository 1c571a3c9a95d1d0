-- What a cache holds.
use Rattle.std.specs.Prelude.{ℕ, List, [], ◌∷◌, map, take, slice_get, Option, Some, None, option_map, nat_eq}
use Rattle.std.specs.Map.{lookup, remove_entry}
use Rattle.std.specs.declared.boxed.Box.{Box}
use Rattle.std.specs.declared.alloc.Global.{Global}
use Rattle.lru.specs.LruCache.{LruCache, promoted}
use Rattle.page_cache.specs.declared.cache.Cache.{Cache}

-- pages and their bytes, the one used last first
abbrev pub Pairs : Type 0
Pairs = List (ℕ × List ℕ)

-- the bytes of a page, where it is there
abbrev pub bytes_at : ℕ → Pairs → Option (List ℕ)
bytes_at page pairs = lookup (nat_eq page) pairs

-- the bytes of the page used last
abbrev pub first_bytes : Pairs → Option (List ℕ)
first_bytes pairs = option_map (λ pair. pair.1) (slice_get pairs 0)

-- without a page
abbrev pub without : ℕ → Pairs → Pairs
without page pairs = remove_entry (nat_eq page) pairs

-- a page that is there goes first
abbrev pub to_front : ℕ → Pairs → Pairs
to_front page pairs = promoted (nat_eq page) pairs

-- a page and its bytes go first, and only so many pairs stay
abbrev pub with_first : ℕ → ℕ → List ℕ → Pairs → Pairs
with_first room page bytes pairs = take room ((page, bytes) ∷ without page pairs)

-- pages in boxes, as a cache stores them
abbrev pub Boxes : Type 0
Boxes = List (ℕ × Box (List ℕ) Global)

-- the bytes in the boxes
abbrev pub pairs_in : Boxes → Pairs
pairs_in boxes = map (λ pair. (pair.0, pair.1.value)) boxes

-- the map of boxes that a cache stores them in
abbrev pub Shelf : Type 0
Shelf = LruCache ℕ (Box (List ℕ) Global)

-- the pages on a shelf, if there is one
abbrev pub pairs_on : Option Shelf → Pairs
pairs_on None = []
pairs_on (Some shelf) = pairs_in shelf.entries

-- how many pages a shelf may hold: none, if there is no shelf
abbrev pub room_on : Option Shelf → ℕ
room_on None = 0
room_on (Some shelf) = shelf.cap

-- the pages that a cache holds
abbrev pub pairs_of : Cache → Pairs
pairs_of cache = pairs_on cache.shelf

-- how many it may hold
abbrev pub room_of : Cache → ℕ
room_of cache = room_on cache.shelf
