-- What is known of a page that is a node's.
use Rattle.std.proofs.Common.{◌≡◌, ℕ, ◌<◌, ◌≤◌, true, false, List, length, Option, Some, None, Result, Ok, Err, OnOk, refl, arith, ap, sym, ◌∙◌, inl, inr, true≢false}
use Rattle.std.specs.Prelude.{◌==◌}
use Rattle.std.proofs.Math.Path.{fun_ext}
use Rattle.std.proofs.lemmas.Bool.{eqb-true}
use Rattle.page_face.specs.FreeList.{PageMap, with_page, IsFreePage}
use Rattle.page_face.specs.declared.fault.Rule.{Rule}
use Rattle.page_face.specs.declared.fault.Rule.TheVariants.{Kind, Fill, Head, Link, Order, Spare, Level, Value, Shared, Rect as RectRule, Row, Entry, Words, Counts}
use Rattle.page_face.specs.declared.fault.Damage.{Damage}
use Rattle.page_face.specs.declared.fault.PageFault.TheVariants.{Damaged}
use Rattle.btree_nodes.specs.Damages.{AreReadable}
use Rattle.btree_nodes.proofs.Supplies.{with-same, with-other, free-told}
use Rattle.rtree_nodes.specs.Slots.{Item, Slots, filled, one}
use Rattle.rtree_nodes.specs.Loose.{with_opt, IsAt}
use Rattle.rtree_nodes.proofs.Amounts.{same_or}
use Rattle.rtree_nodes.proofs.Outs.{opt-same, opt-other, opt-sum}
use Rattle.rtree_nodes.specs.declared.content.Slot.{Slot}
use Rattle.rtree_nodes.specs.declared.content.Slot.TheVariants.{Place, Child}
use Rattle.rtree_nodes.specs.Breaks.{BreaksFirst, BreaksHeader}
use Rattle.rtree_nodes.specs.Pages.{is_form, slots_in, level_in}
use Rattle.rtree_nodes.specs.Reach.{item_of, is_place, rect_in}
use Rattle.rtree_nodes.proofs.Bounding.{some-form, some-mask}
use Rattle.rtree_nodes.proofs.Formed.{form-parts, form-slots, parts-clear, values-from}
use Rattle.irtree_insert.specs.Fits.{Fits}
use Rattle.split_condense.specs.Orphans.{IsHeadless, IsMisplaced, IsOffPath}

-- a node with a used slot has its kind, and a mask
keeps-header : (rule : Rule) (page : List ℕ) → 0 < filled (slots_in page) → BreaksHeader rule page → ⊥
keeps-header Kind page some h = h (form-parts page (some-form page some)).kind
keeps-header Fill page some h = let m = some-mask page some in let z = h.1 in omega arith
keeps-header Head page some h = h
keeps-header Link page some h = h
keeps-header Order page some h = h
keeps-header Spare page some h = h
keeps-header Level page some h = h
keeps-header Value page some h = h
keeps-header Shared page some h = h
keeps-header RectRule page some h = h
keeps-header Row page some h = h
keeps-header Entry page some h = h
keeps-header Words page some h = h
keeps-header Counts page some h = h

-- its page isn't refused for its first bytes
pub has-head : (page : ℕ) (bytes : List ℕ) (damage : Damage) → 0 < filled (slots_in bytes) → IsHeadless page bytes (Damaged damage) → ⊥
has-head page bytes damage some h = keeps-header damage.rule bytes some h.1

-- nor does it break another rule of a node's page
keeps-first : (rule : Rule) (page : List ℕ) → 0 < filled (slots_in page) → BreaksFirst rule page → ⊥
keeps-first Kind page some h = keeps-header Kind page some h
keeps-first Fill page some h = keeps-header Fill page some h
keeps-first Spare page some h = true≢false (sym (parts-clear page (form-parts page (some-form page some)).clear) ∙ h.2)
keeps-first Value page some h = true≢false (sym (values-from page (form-parts page (some-form page some)).values) ∙ h.3)
keeps-first Head page some h = h
keeps-first Link page some h = h
keeps-first Order page some h = h
keeps-first Level page some h = h
keeps-first Shared page some h = h
keeps-first RectRule page some h = h
keeps-first Row page some h = h
keeps-first Entry page some h = h
keeps-first Words page some h = h
keeps-first Counts page some h = h

-- a node with a used slot, of the level that is asked, and with more than one child if it is an inner one, isn't refused
pub in-place : (page level : ℕ) (bytes : List ℕ) (damage : Damage) → 0 < filled (slots_in bytes) → level_in bytes ≡ level → (0 < level → filled (slots_in bytes) ≡ 1 → ⊥) → IsMisplaced page level bytes (Damaged damage) → ⊥
in-place page level bytes damage some is several h = elim h.1 [
  | inl breaks ↦ keeps-first damage.rule bytes some breaks
  | inr other ↦ elim other [
    | inl wrong ↦ wrong.1 is
    | inr lone ↦ let a = lone.1.0 in several (omega arith) (ap filled (form-slots bytes (some-form bytes some)) ∙ lone.1.1)
  ]
]

pub some-none : (o : Option Item) (z : Item) → o ≡ Some z → o ≡ None → ⊥
some-none None z e f = let k : Option Item → ℕ = λ o. elim o [ None ↦ 0 | Some y ↦ 1 ] in let a = ap k e in omega arith
some-none (Some y) z e f = let k : Option Item → ℕ = λ o. elim o [ None ↦ 0 | Some y ↦ 1 ] in let a = ap k f in omega arith

-- nor is one with an item in the slot of the path
pub on-path : (page at : ℕ) (bytes : List ℕ) (damage : Damage) (z : Item) → is_form bytes ≡ true → IsAt (slots_in bytes) at z → IsOffPath page at bytes (Damaged damage) → ⊥
on-path page at bytes damage z form there h = some-none (slots_in bytes at) z there.1 (h.1 there.0 form)

-- an item that is put again where it stands changes nothing
pub put-same : (at : ℕ) (y : Item) (s : Slots) → s at ≡ Some y → s ≡ with_opt at (Some y) s
put-same at y s there = fun_ext (λ i. elim (same_or i at) [
  | inl k ↦ ap s k ∙ there ∙ sym (ap (with_opt at (Some y) s) k ∙ opt-same at (Some y) s)
  | inr k ↦ sym (opt-other at (Some y) s i k)
])

-- nor does a page that is written again as it stands
pub page-same : (page : ℕ) (bytes : List ℕ) (pages : PageMap) → bytes ≡ pages page → pages ≡ with_page page bytes pages
page-same page bytes pages e = fun_ext (λ n. elim (same_or n page) [
  | inl k ↦ ap pages k ∙ sym e ∙ sym (ap (with_page page bytes pages) k ∙ with-same pages bytes page)
  | inr k ↦ sym (with-other pages bytes page n k)
])

-- a slot that fits a node and holds a place is of a leaf
pub place-level : (level : ℕ) (slot : Slot) → Fits level slot → is_place slot ≡ true → level ≡ 0
place-level level slot fits place = eqb-true level 0 (sym fits ∙ place)

-- and one that holds a child is of a node above
pub child-level : (level : ℕ) (slot : Slot) → Fits level slot → is_place slot ≡ false → 0 < level
child-level level slot fits child = elim (same_or level 0) [
  | inl e ↦ absurd (true≢false (sym (fits ∙ ap (λ (l : ℕ). l == 0) e) ∙ child))
  | inr k ↦ omega (arith, k)
]

-- children at one page with one rectangle are the same item
pub same-child : (a b : Slot) → is_place a ≡ false → is_place b ≡ false → rect_in a ≡ rect_in b → (item_of a).to ≡ (item_of b).to → item_of a ≡ item_of b
same-child (Place p k) b e f r t = absurd (true≢false e)
same-child (Child q n) (Place p k) e f r t = absurd (true≢false f)
same-child (Child q n) (Child u m) e f r t = rw (r, t) refl

-- a node of which one item is gone has at most one less
pub left-filled : (least at : ℕ) (z : Item) (o : Option Item) (s t : Slots) → IsAt s at z → t ≡ with_opt at o s → least < filled s → least ≤ filled t
left-filled least at z o s t there is some =
    let a = opt-sum one s at z o there in
    let b = ap filled is in
    omega arith

-- what holds anyway
pub ok-from : {X Y P : Type 0} (r : Result X Y) → P → OnOk r P
ok-from (Ok x) p = p
ok-from (Err y) p = tt

-- a page that is written leaves the counted pages told
pub told-written : (old new : PageMap) (bytes : List ℕ) (page count : ℕ) → new ≡ with_page page bytes old → 0 < length bytes → AreReadable old count → AreReadable new count
told-written old new bytes page count e long told n some few = elim (same_or n page) [
  | inl k ↦ let a : length (new n) ≡ length bytes = ap (λ (p : PageMap). length (p n)) e ∙ ap (λ (m : ℕ). length (with_page page bytes old m)) k ∙ ap length (with-same old bytes page) in omega arith
  | inr k ↦ let a : length (new n) ≡ length (old n) = ap (λ (p : PageMap). length (p n)) e ∙ ap length (with-other old bytes page n k) in let b = told n some few in omega arith
]

-- so does one that is given back
pub told-given : (old new : PageMap) (page count : ℕ) → IsFreePage (new page) → ((n : ℕ) → (n ≡ page → ⊥) → new n ≡ old n) → AreReadable old count → AreReadable new count
told-given old new page count free others told n some few = elim (same_or n page) [
  | inl k ↦ let a : length (new n) ≡ length (new page) = ap (λ (m : ℕ). length (new m)) k in let b = free-told (new page) free in omega arith
  | inr k ↦ let a : length (new n) ≡ length (old n) = ap length (others n k) in let b = told n some few in omega arith
]
