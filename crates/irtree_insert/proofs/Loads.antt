-- What the bytes of a page say of its node.
use Rattle.std.proofs.Common.{◌≡◌, ℕ, suc, ◌<◌, true, false, List, [], Option, Some, None, arith, sym, ap, ◌∙◌, inl, inr, ⊎_elim, length, ◌==◌}
use Rattle.std.specs.Prelude.{slice_index_or}
use Rattle.std.specs.Int.{bit_at}
use Rattle.std.proofs.lemmas.Bool.Decides.{nat_tests}
use Rattle.std.proofs.lemmas.Bool.{cases_Bool}
use Rattle.spatial_base.specs.Rect.{Bounds}
use Rattle.rtree_nodes.specs.Slots.{Item, Slots, NodeView, got, one, filled, Held}
use Rattle.std.proofs.Math.Path.{fun_ext}
use Rattle.rtree_nodes.specs.Trees.{with_slot}
use Rattle.rtree_nodes.proofs.Amounts.{same_or, with_slot-same, with_slot-other}
use Rattle.rtree_nodes.specs.Reach.{reach_of, origin_rect, child_item}
use Rattle.rtree_nodes.specs.Pages.{level_in, mask_of, is_used, is_form, stored_in, slots_in, node_of}
use Rattle.rtree_nodes.specs.Breaks.{BreaksHeader}
use Rattle.rtree_nodes.proofs.Formed.{form-node, form-slots, form-parts, stored-used, stored-unused}
use Rattle.rtree_nodes.proofs.Children.{inner-item}
use Rattle.rtree_nodes.proofs.Masks.{slot-bit}
use Rattle.rtree_nodes.proofs.Bounding.{some-form, some-mask}
use Rattle.page_face.specs.declared.fault.Rule.{Rule}
use Rattle.page_face.specs.declared.fault.Rule.TheVariants.{Head, Link, Kind, Fill, Order, Spare, Level, Value, Shared, Rect, Row, Entry, Words, Counts}
use Rattle.irtree_insert.specs.Drafts.{IsOutlined, AreOutlined}

outline-of : (bit : ℕ) (rect : Bounds) (o : Option Item) → bit ≡ got one o → Held (λ x. reach_of rect ≡ x.reach) o → IsOutlined bit rect o
outline-of bit rect None e h = e
outline-of bit rect (Some x) e h = (e, h)

-- the mask and the rectangles that were read are those of the slots
pub read-outlined : (page : List ℕ) (rects : List Bounds) → is_form page ≡ true → ((i : ℕ) → i < 32 → Held (λ x. reach_of (slice_index_or rects i origin_rect) ≡ x.reach) (slots_in page i))
    → AreOutlined (mask_of page) rects (slots_in page)
read-outlined page rects form held i l = outline-of (bit_at (mask_of page) i) (slice_index_or rects i origin_rect) (slots_in page i) (slot-bit page i l ∙ ap (λ (s : Slots). got one (s i)) (sym (form-slots page form))) (held i l)

-- the level of a node's page
pub form-level : (page : List ℕ) → is_form page ≡ true → (node_of page).level ≡ level_in page
form-level page form = ap (λ (v : NodeView). v.level) (form-node page form)

-- a page with a slot holds bytes
pub some-told : (page : List ℕ) → 0 < filled (slots_in page) → 0 < length page
some-told page some = let l = (form-parts page (some-form page some)).long in omega arith

key_or : Option Item → List ℕ
key_or None = []
key_or (Some x) = x.key

-- a child of an inner node's page is its rectangle and its page, and nothing else
pub child-key : (page : List ℕ) (at : ℕ) (x : Item) → is_form page ≡ true → 0 < level_in page → at < 32 → slots_in page at ≡ Some x → x.key ≡ []
unfolding key_or
child-key page at x form inner within e =
    let s : stored_in page at ≡ Some x = ap (λ (t : Slots). t at) (sym (form-slots page form)) ∙ e in
    ⊎_elim
    (λ u. ap key_or (sym s) ∙ ap key_or (stored-used page at within u) ∙ ap (λ (y : Item). y.key) (inner-item page at inner))
    (λ u. ap key_or (sym s) ∙ ap key_or (stored-unused page at u)) (cases_Bool (is_used page at))

-- an item put again where it stands changes nothing
pub put-same : (at : ℕ) (x : Item) (s : Slots) → s at ≡ Some x → with_slot at x s ≡ s
put-same at x s e = fun_ext (λ i. elim (same_or i at) [
  | inl k ↦ ap (with_slot at x s) k ∙ with_slot-same at x s ∙ sym e ∙ ap s (sym k)
  | inr d ↦ with_slot-other at x s i d
])

-- a header of a node's page with a slot breaks no rule
pub header-sound : (rule : Rule) (page : List ℕ) → BreaksHeader rule page → 0 < filled (slots_in page) → ⊥
header-sound Kind page b some = b (form-parts page (some-form page some)).kind
header-sound Fill page b some = let m = some-mask page some in let z : mask_of page ≡ 0 = b.1 in omega arith
header-sound Head page b some = b
header-sound Link page b some = b
header-sound Order page b some = b
header-sound Spare page b some = b
header-sound Level page b some = b
header-sound Value page b some = b
header-sound Shared page b some = b
header-sound Rect page b some = b
header-sound Row page b some = b
header-sound Entry page b some = b
header-sound Words page b some = b
header-sound Counts page b some = b

-- above the leaves a child fits
pub inner-fits : (level below : ℕ) → level ≡ suc below → false ≡ (level == 0)
inner-fits level below e = grind (arith, nat_tests)

-- in a leaf a place fits
pub leaf-fits : (level : ℕ) → level ≡ 0 → true ≡ (level == 0)
leaf-fits level e = grind (arith, nat_tests)

-- an item is a child's if it reaches as far, names its page and has no key
pub child-is : (x : Item) (rect : Bounds) (to : ℕ) → reach_of rect ≡ x.reach → x.to ≡ to → x.key ≡ [] → x ≡ child_item rect to
child-is x rect to reach page key = ap (λ (r : ℕ → ℕ). record { reach = r; to = x.to; key = x.key }) (sym reach)
    ∙ (ap (λ (p : ℕ). record { reach = reach_of rect; to = p; key = x.key }) page ∙ ap (λ (k : List ℕ). record { reach = reach_of rect; to = to; key = k }) key)
