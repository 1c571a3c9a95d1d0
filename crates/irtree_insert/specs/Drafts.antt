-- A node that is being changed.
use Rattle.std.specs.Prelude.{◌≡◌, ℕ, ◌<◌, Option, None, Some, List, slice_index_or, true}
use Rattle.std.specs.Int.{bit_at}
use Rattle.spatial_base.specs.Rect.{Bounds}
use Rattle.rtree_nodes.specs.Slots.{Item, Slots}
use Rattle.rtree_nodes.specs.Pages.{is_form, slots_in}
use Rattle.rtree_nodes.specs.Reach.{reach_of, origin_rect}
use Rattle.irtree_insert.specs.declared.draft.Draft.{Draft}

-- a bit says whether the slot is used, and what is in it reaches as far as the rectangle
abbrev pub IsOutlined : ℕ → Bounds → Option Item → Type 0
IsOutlined bit rect None = bit ≡ 0
IsOutlined bit rect (Some x) = (bit ≡ 1) × (reach_of rect ≡ x.reach)

-- the mask names the used slots, and each reaches as far as its rectangle
abbrev pub AreOutlined : ℕ → List Bounds → Slots → Type 0
AreOutlined used rects s = (i : ℕ) → i < 32 → IsOutlined (bit_at used i) (slice_index_or rects i origin_rect) (s i)

-- the bytes are a node's, and the mask and the rectangles are those of its slots
pub record IsDraft (draft : Draft) : Type 0 where
  pub form : is_form draft.bytes ≡ true
  pub outlined : AreOutlined draft.used draft.rects (slots_in draft.bytes)

-- how far a rectangle reaches, if there is one
abbrev pub reach_or : Option Bounds → ℕ → ℕ
reach_or None d = 0
reach_or (Some rect) d = reach_of rect d
