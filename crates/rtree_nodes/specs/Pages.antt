-- The pages of nodes: byte 0 is 3, byte 1 the level, bytes 4 to 7 the mask of used slots, and the slots follow from byte 16 on.
use Rattle.std.specs.Prelude.{ℕ, Bool, ◌==◌, ◌&&◌, ◌||◌, not, nat_lt, if◌then◌else◌, List, take, drop, length, slice_index, Some, None}
use Rattle.std.specs.Int.{bit_at}
use Rattle.page_face.specs.FreeList.{are_zero}
use Rattle.spatial_base.specs.Rect.{Bounds}
use Rattle.rtree_nodes.specs.Slots.{Item, Slots, NodeView, no_slots}
use Rattle.rtree_nodes.specs.Numbers.{number_at, all_below}
use Rattle.rtree_nodes.specs.Cells.{cell_width, cell_start, item_in, rect_of_cell, has_rect, has_form}

-- the node's level, 0 in a leaf
abbrev pub level_in : List ℕ → ℕ
level_in page = slice_index page 1

-- the mask of used slots, slot i at bit i
abbrev pub mask_of : List ℕ → ℕ
mask_of page = number_at 4 page

-- slot i is used, as a test
abbrev pub is_used : List ℕ → ℕ → Bool
is_used page i = bit_at (mask_of page) i == 1

-- the bytes of slot i
unfoldable pub cell_at : List ℕ → ℕ → List ℕ
cell_at page i = take (cell_width (level_in page)) (drop (cell_start (level_in page) i) page)

-- what the bytes of slot i say, whether it is used or not
abbrev pub item_at : List ℕ → ℕ → Item
item_at page i = item_in (level_in page) (cell_at page i)

-- the spare bytes of a page are 0: bytes 2 and 3, 8 to 15, those of unused slots, and those behind the last slot
abbrev pub has_clear_spares : List ℕ → Bool
has_clear_spares page =
    are_zero (take 2 (drop 2 page)) && are_zero (take 8 (drop 8 page))
    && all_below 32 (λ i. is_used page i || are_zero (cell_at page i))
    && are_zero (drop (cell_start (level_in page) 32) page)

-- each used slot is of its form
abbrev pub has_values : List ℕ → Bool
has_values page = all_below 32 (λ i. not (is_used page i) || has_form (level_in page) (cell_at page i))

-- the point or rectangle of each used slot is one
abbrev pub has_rects : List ℕ → Bool
has_rects page = all_below 32 (λ i. not (is_used page i) || has_rect (level_in page) (cell_at page i))

-- The page is a node's, as a test: 4,096 bytes of kind 3 whose spare bytes are 0 and whose used slots are of their form. None need be used.
unfoldable pub is_form : List ℕ → Bool
is_form page = (length page == 4096) && (slice_index page 0 == 3) && has_clear_spares page && has_values page

-- the slots that the mask names, with what their bytes say, whether the page is a node's or not
unfoldable pub stored_in : List ℕ → Slots
stored_in page i = if nat_lt i 32 && is_used page i then Some (item_at page i) else None

-- the node in a page; bytes that are no node's have no slot
unfoldable pub node_of : List ℕ → NodeView
node_of page =
    if is_form page then record { level = level_in page; slots = stored_in page } else record { level = 0; slots = no_slots }

-- its slots
abbrev pub slots_in : List ℕ → Slots
slots_in page = (node_of page).slots

-- the rectangle that slot i goes to: of its point in a leaf
abbrev pub rect_of_slot : List ℕ → ℕ → Bounds
rect_of_slot page i = rect_of_cell (level_in page) (cell_at page i)
