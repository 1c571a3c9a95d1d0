-- Which children may have an entry below them.
use Rattle.std.proofs.Common.{◌≡◌, ℕ, ℤ, ◌<◌, ◌≤ℤ◌, ◌<ℤ◌, Bool, true, false, not, ◌&&◌, ◌||◌, arith, refl, List, Option, Some, None, inl, inr, ◌⊎◌}
use Rattle.std.specs.Bool.{IsTrue, then_some}
use Rattle.std.specs.Option.{MatchOption}
use Rattle.std.proofs.lemmas.Int.{ints, clamps}
use Rattle.spatial_base.specs.Point.{Position}
use Rattle.spatial_base.specs.Rect.{Bounds, IsRect, Holds, rect_of}
use Rattle.rtree_nodes.specs.Slots.{Item, NodeMap}
use Rattle.rtree_nodes.specs.Trees.{below, IsItem}
use Rattle.rtree_nodes.proofs.Heights.{unreached}
use Rattle.rtree_nodes.specs.Reach.{reach_of, child_item}
use Rattle.rtree_nodes.specs.Pages.{level_in, is_used, cell_at, has_values}
use Rattle.rtree_nodes.specs.Cells.{has_form}
use Rattle.rtree_nodes.proofs.AllBelow.{all_below-false}
use Rattle.rtree_nodes.specs.Entries.{is_entry, IsShort}
use Rattle.rtree_nodes.proofs.Entries.{entry-reach}

int_or : (a b : ℤ) → (a ≤ℤ b) ⊎ (b <ℤ a)
int_or a b = grind (arith, ints)

-- a rectangle that doesn't hold a point doesn't reach as far on some side
outside-short : (r : Bounds) (p : Position) (page : ℕ) → IsRect r.west r.south r.east r.north → (Holds r p → ⊥) → IsShort p (child_item r page)
outside-short r p page on out =
    let a = on.0 in
    let b = on.1 in
    elim (int_or r.west p.x) [
      | inr w ↦ (0, omega arith, omega (arith, ints, clamps))
      | inl w ↦ elim (int_or r.south p.y) [
        | inr s ↦ (1, omega arith, omega (arith, ints, clamps))
        | inl s ↦ elim (int_or p.x r.east) [
          | inr e ↦ (2, omega arith, omega (arith, ints, clamps))
          | inl e ↦ elim (int_or p.y r.north) [
            | inr n ↦ (3, omega arith, omega (arith, ints, clamps))
            | inl n ↦ absurd (out (record { west = w; east = e; south = s; north = n }))
          ]
        ]
      ]
    ]

-- what is kept of a child
pub child-kept : (r : Bounds) (p : Position) (page : ℕ) (holds : Bool) → IsRect r.west r.south r.east r.north → (Holds r p → IsTrue holds) → MatchOption (then_some holds page) (IsShort p (child_item r page)) (λ child. page ≡ child)
child-kept r p page true on exact = refl
child-kept r p page false on exact = outside-short r p page on (λ h. let t = exact h in absurd (cc))

fails : (used form : Bool) → (used && not form) ≡ true → (not used || form) ≡ false
fails true false e = refl
fails true true e = absurd (cc)
fails false form e = absurd (cc)

-- a used slot that isn't of its form breaks the page's values
pub value-broken : (page : List ℕ) (at : ℕ) → at < 32 → IsTrue (is_used page at && not (has_form (level_in page) (cell_at page at))) → has_values page ≡ false
value-broken page at l h = all_below-false 32 (λ i. not (is_used page i) || has_form (level_in page) (cell_at page i)) at l (fails (is_used page at) (has_form (level_in page) (cell_at page at)) h)

-- an entry isn't below an item that doesn't reach as far
pub short-nothing : (nodes : NodeMap) (point : Position) (key : List ℕ) (level : ℕ) (y : Item) → IsItem nodes level y → IsShort point y → below nodes (is_entry point key) level y ≡ 0
short-nothing nodes point key level y item short =
    unreached nodes (is_entry point key) level y (reach_of (rect_of point)) item short.0 short.2 (λ x some. entry-reach point key x short.0 short.1 some)

-- what is no child is none
pub no-child : (o : Option ℕ) → ((child : ℕ) → o ≡ Some child → ⊥) → o ≡ None
no-child None h = refl
no-child (Some child) h = absurd (h child refl)
