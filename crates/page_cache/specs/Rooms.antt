-- Pages in the order of their numbers.
use Rattle.std.specs.Prelude.{ℕ, List, Option, option_map, option_and_then, IsSome, nat_eq}
use Rattle.std.specs.BTreeMap.{BTreeMap, get}
use Rattle.std.specs.HashMap.{get as value_at}
use Rattle.std.specs.Ordering.{nat_cmp}
use Rattle.std.specs.declared.boxed.Box.{Box}
use Rattle.std.specs.declared.alloc.Global.{Global}
use Rattle.page_cache.specs.Pages.{PageTable}

-- pages in boxes, in the order of their numbers
abbrev pub Ordered : Type 0
Ordered = BTreeMap ℕ (Box (List ℕ) Global)

-- the page of a number
abbrev pub ordered_page : Ordered → ℕ → Option (List ℕ)
ordered_page ordered n = option_map (λ page. page.value) (get nat_cmp ordered n)

-- rooms in the order of numbers, each with the page of its number or for one that is to come
abbrev pub Rooms : Type 0
Rooms = BTreeMap ℕ (Option (Box (List ℕ) Global))

-- the bytes in a box, if there is one
abbrev pub boxed : Option (Box (List ℕ) Global) → Option (List ℕ)
boxed page = option_map (λ held. held.value) page

-- the page in the room of a number, or none
abbrev pub room_page : Rooms → ℕ → Option (List ℕ)
room_page rooms n = option_and_then boxed (get nat_cmp rooms n)

-- each page of the table has a room
abbrev pub HasRoomFor : PageTable → Rooms → Type 0
HasRoomFor table rooms = (n : ℕ) → IsSome (value_at nat_eq table n) → IsSome (get nat_cmp rooms n)
