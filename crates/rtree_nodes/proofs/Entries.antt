-- When an item is an entry.
use Rattle.std.proofs.Common.{◌≡◌, ℕ, zero, suc, ◌+◌, ◌*◌, ◌<◌, Bool, true, false, ◌==◌, arith, refl, ap, ◌∙◌, List, take, drop, Some, if◌then◌else◌, inl, inr}
use Rattle.std.specs.Str.{bytes_eq}
use Rattle.std.proofs.lemmas.Bool.Decides.{nat_tests}
use Rattle.std.proofs.lemmas.Slice.Eq.{bytes_eq-Decides}
use Rattle.std.proofs.lemmas.Int.{ints, clamps}
use Rattle.spatial_base.specs.Point.{Position}
use Rattle.spatial_base.specs.Rect.{rect_of}
use Rattle.rtree_nodes.specs.Slots.{Item, got}
use Rattle.rtree_nodes.proofs.Heights.{none_or}
use Rattle.rtree_nodes.specs.Numbers.{int_at}
use Rattle.rtree_nodes.specs.Reach.{reach_of, place_item}
use Rattle.rtree_nodes.specs.Pages.{level_in, is_used, stored_in}
use Rattle.rtree_nodes.proofs.Formed.{stored-used, stored-unused}
use Rattle.rtree_nodes.proofs.Children.{leaf-item}
use Rattle.rtree_nodes.specs.Entries.{is_at_side, is_place_of, is_entry, IsPlaceIn}
use Rattle.btree_nodes.proofs.Checks.{and-true}

-- what an entry's item says
pub record IsEntry (point : Position) (key : List ℕ) (x : Item) : Type 0 where
  pub side_0 : x.reach 0 ≡ reach_of (rect_of point) 0
  pub side_1 : x.reach 1 ≡ reach_of (rect_of point) 1
  pub side_2 : x.reach 2 ≡ reach_of (rect_of point) 2
  pub side_3 : x.reach 3 ≡ reach_of (rect_of point) 3
  pub key_is : x.key ≡ key

pub same_number : (a b : ℕ) → (a == b) ≡ true → a ≡ b
same_number a b e = grind (arith, nat_tests)

passes-entry : (point : Position) (key : List ℕ) (x : Item) → is_place_of point key x ≡ true → IsEntry point key x
passes-entry point key x e =
    let a = and-true _ (bytes_eq x.key key) e in
    let b = and-true _ (is_at_side point x 3) a.0 in
    let c = and-true _ (is_at_side point x 2) b.0 in
    let d = and-true (is_at_side point x 0) (is_at_side point x 1) c.0 in
    record {
      side_0 = same_number _ _ d.0;
      side_1 = same_number _ _ d.1;
      side_2 = same_number _ _ c.1;
      side_3 = same_number _ _ b.1;
      key_is = (bytes_eq-Decides x.key key).0 a.1;
    }

weighs : (b : Bool) → 0 < (if b then 1 else 0) → b ≡ true
weighs true h = refl
weighs false h = absurd (omega arith)

-- an item that counts is the entry
pub entry-is : (point : Position) (key : List ℕ) (x : Item) → 0 < is_entry point key x → IsEntry point key x
unfolding is_entry
entry-is point key x h = passes-entry point key x (weighs (is_place_of point key x) h)

-- the entry's item has the entry's reach to each of the four sides
pub entry-reach : (point : Position) (key : List ℕ) (x : Item) (d : ℕ) → d < 4 → 0 < is_entry point key x → x.reach d ≡ reach_of (rect_of point) d
entry-reach point key x zero l h = (entry-is point key x h).side_0
entry-reach point key x (suc zero) l h = (entry-is point key x h).side_1
entry-reach point key x (suc (suc zero)) l h = (entry-is point key x h).side_2
entry-reach point key x (suc (suc (suc zero))) l h = (entry-is point key x h).side_3
entry-reach point key x (suc (suc (suc (suc d)))) l h = absurd (omega arith)

same_x : (p q : Position) → reach_of (rect_of p) 0 ≡ reach_of (rect_of q) 0 → reach_of (rect_of p) 2 ≡ reach_of (rect_of q) 2 → p.x ≡ q.x
same_x p q h k = omega (arith, ints, clamps)

same_y : (p q : Position) → reach_of (rect_of p) 1 ≡ reach_of (rect_of q) 1 → reach_of (rect_of p) 3 ≡ reach_of (rect_of q) 3 → p.y ≡ q.y
same_y p q h k = omega (arith, ints, clamps)

same_place : (p q : Position) → p.x ≡ q.x → p.y ≡ q.y → p ≡ q
same_place p q x y = λ i. record { x = x i; y = y i }

-- what the bytes from a byte on say
abbrev place_from : List ℕ → ℕ → Item
place_from page s = place_item (record { x = int_at s page; y = int_at (s + 4) page }) (take 66 (drop (s + 8) page))

leaf-used : (page : List ℕ) (at : ℕ) → level_in page ≡ 0 → at < 32 → is_used page at ≡ true → stored_in page at ≡ Some (place_from page (16 + 74 * at))
leaf-used page at e l used = stored-used page at l used ∙ ap Some (leaf-item page at e)

-- an unused slot is no entry
pub unused-other : (page : List ℕ) (at : ℕ) (point : Position) (key : List ℕ) → is_used page at ≡ false → got (is_entry point key) (stored_in page at) ≡ 0
unused-other page at point key e = ap (got (is_entry point key)) (stored-unused page at e)

-- a used slot of a leaf whose bytes are the place's holds it
pub place-held : (page : List ℕ) (at : ℕ) (point : Position) (key : List ℕ) → level_in page ≡ 0 → at < 32 → is_used page at ≡ true → IsPlaceIn page (16 + 74 * at) point key → stored_in page at ≡ Some (place_item point key)
place-held page at point key e l used h =
    let s : ℕ = 16 + 74 * at in
    let p : Position = record { x = int_at s page; y = int_at (s + 4) page } in
    leaf-used page at e l used
    ∙ ap (λ (q : Position). Some (place_item q (take 66 (drop (s + 8) page)))) (same_place p point h.x h.y)
    ∙ ap (λ (k : List ℕ). Some (place_item point k)) h.key_is

place-other : (page : List ℕ) (s : ℕ) (point : Position) (key : List ℕ) → (IsPlaceIn page s point key → ⊥) → is_entry point key (place_from page s) ≡ 0
place-other page s point key h = elim (none_or (is_entry point key (place_from page s))) [
  | inl z ↦ z
  | inr some ↦
      let e = entry-is point key (place_from page s) some in
      let p : Position = record { x = int_at s page; y = int_at (s + 4) page } in
      absurd (h (record { x = same_x p point e.side_0 e.side_2; y = same_y p point e.side_1 e.side_3; key_is = e.key_is }))
]

-- and one whose bytes aren't holds no such entry
pub used-other : (page : List ℕ) (at : ℕ) (point : Position) (key : List ℕ) → level_in page ≡ 0 → at < 32 → is_used page at ≡ true → (IsPlaceIn page (16 + 74 * at) point key → ⊥) → got (is_entry point key) (stored_in page at) ≡ 0
used-other page at point key e l used h = ap (got (is_entry point key)) (leaf-used page at e l used) ∙ place-other page (16 + 74 * at) point key h
