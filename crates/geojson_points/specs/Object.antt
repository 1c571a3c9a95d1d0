-- Objects of JSON whose names may be repeated: the last member of a name counts, and the others are as if absent.
use Rattle.std.specs.Prelude.{ℕ, Bool, false, if◌then◌else◌, List, [], ◌∷◌, ◌++◌, Option, Some, None, is_some, option_and_then, option_to_list, unwrap_or, bytes_eq, codes}
use Rattle.std.specs.Option.{option_or, option_map_or}
use Rattle.std.specs.List.{join_with_byte}
use Rattle.json_spelled.specs.Json.{Json, null, truth, spelled, text, list, object, Items, no_items, item, Members, no_members, member}

-- the value of the last member of a name
abbrev pub last_of : List ℕ → Members → Option Json
last_of name no_members = None
last_of name (member other value members) = option_or (last_of name members) (if bytes_eq other name then Some value else None)

-- the member of a name; none where the value isn't an object, or has no such member
abbrev pub member_of : List ℕ → Json → Option Json
member_of name null = None
member_of name (truth bit) = None
member_of name (spelled bytes) = None
member_of name (text bytes) = None
member_of name (list items) = None
member_of name (object members) = last_of name members

-- what a string says
abbrev pub string_of : Json → Option (List ℕ)
string_of null = None
string_of (truth bit) = None
string_of (spelled bytes) = None
string_of (text bytes) = Some bytes
string_of (list items) = None
string_of (object _) = None

-- how a number is spelled
abbrev pub spelling_of : Json → Option (List ℕ)
spelling_of null = None
spelling_of (truth bit) = None
spelling_of (spelled bytes) = Some bytes
spelling_of (text bytes) = None
spelling_of (list items) = None
spelling_of (object _) = None

-- the elements, in their order
abbrev pub elements : Items → List Json
elements no_items = []
elements (item value items) = value ∷ elements items

-- the elements of an array
abbrev pub array_of : Json → Option (List Json)
array_of null = None
array_of (truth bit) = None
array_of (spelled bytes) = None
array_of (text bytes) = None
array_of (list items) = Some (elements items)
array_of (object _) = None

-- an object whose `type` is this text
abbrev pub has_type : List ℕ → Json → Bool
has_type name value = option_map_or (bytes_eq name) (option_and_then string_of (member_of (codes "type") value)) false

-- the strings among the members, in their order, without those behind which their name comes again
abbrev pub strings_of : Members → List (List ℕ)
strings_of no_members = []
strings_of (member name value members) =
    (if is_some (last_of name members) then [] else option_to_list (string_of value)) ++ strings_of members

-- these strings joined by LF; nothing where the value isn't an object
abbrev pub lines_of : Json → List ℕ
lines_of null = []
lines_of (truth bit) = []
lines_of (spelled bytes) = []
lines_of (text bytes) = []
lines_of (list items) = []
lines_of (object members) = join_with_byte 10 (strings_of members)

-- the string of one member; nothing where there is none
abbrev pub line_of : List ℕ → Json → List ℕ
line_of name value = unwrap_or (option_and_then string_of (member_of name value)) []
