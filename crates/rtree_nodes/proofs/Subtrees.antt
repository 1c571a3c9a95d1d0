-- One step down from a node to a child.
use Rattle.std.proofs.Common.{◌≡◌, ℕ, zero, suc, ◌<◌, ◌≤◌, Bool, true, false, List, length, Option, Some, None, arith, refl, sym, ap, ◌∙◌, subst, slice_index, ⊎_elim}
use Rattle.page_face.specs.FreeList.{PageMap}
use Rattle.page_face.specs.Causes.{IsUncounted}
use Rattle.page_face.specs.declared.fault.Rule.{Rule}
use Rattle.page_face.specs.declared.fault.Rule.TheVariants.{Head, Link, Kind, Fill, Order, Spare, Level, Value, Shared, Rect, Row, Entry, Words, Counts}
use Rattle.spatial_base.specs.Point.{Position}
use Rattle.btree_nodes.proofs.Supplies.{one_at-same}
use Rattle.rtree_nodes.specs.Slots.{Item, Slots, NodeView, NodeMap, got, filled, Held, IsChildAt}
use Rattle.rtree_nodes.specs.Trees.{below, uses, IsNode, IsItem, node_uses, node_below}
use Rattle.rtree_nodes.specs.Made.{nodes_in}
use Rattle.rtree_nodes.specs.Loose.{IsAt, Leads}
use Rattle.rtree_nodes.proofs.Amounts.{amount-at}
use Rattle.rtree_nodes.proofs.Heights.{amount-nothing}
use Rattle.rtree_nodes.specs.Reach.{place_item}
use Rattle.rtree_nodes.specs.Pages.{level_in, mask_of, is_form, has_values, stored_in, node_of, slots_in}
use Rattle.rtree_nodes.proofs.Formed.{form-parts, form-node, form-slots, values-from}
use Rattle.rtree_nodes.proofs.Bounding.{some-form, some-mask}
use Rattle.rtree_nodes.specs.Entries.{is_entry, IsShort, IsRound}
use Rattle.rtree_nodes.specs.Subtrees.{IsNodeAt, AreCounted, Finds}
use Rattle.rtree_nodes.specs.Harms.{BreaksAlone, BreaksPlace}
use Rattle.rtree_nodes.proofs.Rounds.{short-nothing}

-- what the bytes of a page with a slot say
pub record IsRead (bytes : List ℕ) (node : NodeView) : Type 0 where
  pub form : is_form bytes ≡ true
  pub told : 0 < length bytes
  pub slots : node.slots ≡ stored_in bytes
  pub level : node.level ≡ level_in bytes
  pub kind : slice_index bytes 0 ≡ 3
  pub mask : 0 < mask_of bytes

pub some-read : (bytes : List ℕ) → 0 < filled (slots_in bytes) → IsRead bytes (node_of bytes)
some-read bytes some =
    let form = some-form bytes some in
    let parts = form-parts bytes form in
    let long = parts.long in
    record {
      form = form;
      told = omega arith;
      slots = form-slots bytes form;
      level = ap (λ (v : NodeView). v.level) (form-node bytes form);
      kind = parts.kind;
      mask = some-mask bytes some;
    }

-- a page that holds a node with a slot is told
pub node-readable : (page : List ℕ) → 0 < filled (node_of page).slots → 0 < length page
node-readable page some = (some-read page some).told

-- the page of a well-formed node
pub node-read : (pages : PageMap) (level page : ℕ) → IsNodeAt (nodes_in node_of pages) level page → IsRead (pages page) (node_of (pages page))
node-read pages level page node = let s = node.some in some-read (pages page) (omega arith)

pub values-form : (page : List ℕ) → is_form page ≡ true → has_values page ≡ true
values-form page h = let p = form-parts page h in values-from page p.values

-- it breaks no rule by itself, if it is counted
pub node-fine : (rule : Rule) (pages : PageMap) (count level page : ℕ) → IsNodeAt (nodes_in node_of pages) level page → (IsUncounted count page → ⊥) → BreaksAlone rule pages count page → ⊥
node-fine Link pages count level page node counted b = counted b
node-fine Kind pages count level page node counted b = let r = node-read pages level page node in b r.told r.kind
node-fine Fill pages count level page node counted b = let r = node-read pages level page node in let z = (b r.told).1 in let m = r.mask in absurd (omega arith)
node-fine Value pages count level page node counted b = let r = node-read pages level page node in let v = values-form (pages page) r.form in let f = b r.told in cc
node-fine Head pages count level page node counted b = b
node-fine Order pages count level page node counted b = b
node-fine Spare pages count level page node counted b = b
node-fine Level pages count level page node counted b = b
node-fine Shared pages count level page node counted b = b
node-fine Rect pages count level page node counted b = b
node-fine Row pages count level page node counted b = b
node-fine Entry pages count level page node counted b = b
node-fine Words pages count level page node counted b = b
node-fine Counts pages count level page node counted b = b

-- nor by its level, if its level is what its place asks
pub place-fine : (rule : Rule) (pages : PageMap) (count level page : ℕ) (wrong : ℕ → Type 0) → IsNodeAt (nodes_in node_of pages) level page → (IsUncounted count page → ⊥) → (wrong level → ⊥) → BreaksPlace rule pages count page wrong → ⊥
place-fine rule pages count level page wrong node counted right b =
    ⊎_elim (λ alone. node-fine rule pages count level page node counted alone)
    (λ at_level. let r = node-read pages level page node in right (subst wrong (sym r.level ∙ node.level_is) (at_level.1 r.told))) b

-- the page of a node is counted
pub page-counted : (nodes : NodeMap) (count level page : ℕ) → AreCounted nodes count level page → IsUncounted count page → ⊥
page-counted nodes count level page counted u = counted page (let s = one_at-same page in omega arith) u

-- what a leaf was found to hold
pub leaf-finds : (nodes : NodeMap) (page : ℕ) (slots : Slots) (point : Position) (key path : List ℕ) (found : Bool) → (nodes page).slots ≡ slots
    → (found ≡ true → IsAt slots (slice_index path 0) (place_item point key)) → (found ≡ false → (i : ℕ) → i < 32 → got (is_entry point key) (slots i) ≡ 0) → Finds nodes 0 page point key path found
leaf-finds nodes page slots point key path true e held none = subst (λ (s : Slots). IsAt s (slice_index path 0) (place_item point key)) (sym e) (held refl)
leaf-finds nodes page slots point key path false e held none =
    amount-nothing (is_entry point key) (nodes page).slots (λ i l. ap (λ (s : Slots). got (is_entry point key) (s i)) e ∙ none refl i l)

-- no slot of a node has the entry below it
pub node-absent : (nodes : NodeMap) (level page : ℕ) (point : Position) (key path : List ℕ) → ((i : ℕ) → i < 32 → got (λ y. below nodes (is_entry point key) level y) ((nodes page).slots i) ≡ 0) → Finds nodes level page point key path false
node-absent nodes level page point key path none = amount-nothing (λ y. below nodes (is_entry point key) level y) (nodes page).slots none

held-short : (nodes : NodeMap) (point : Position) (key : List ℕ) (level : ℕ) (o : Option Item) → Held (λ y. IsItem nodes level y) o → Held (IsShort point) o → got (λ y. below nodes (is_entry point key) level y) o ≡ 0
held-short nodes point key level None item short = refl
held-short nodes point key level (Some y) item short = short-nothing nodes point key level y item short

-- a slot of which nothing is kept has no entry below it
pub passed-short : (nodes : NodeMap) (level page at : ℕ) (slots : Slots) (point : Position) (key : List ℕ) → (nodes page).slots ≡ slots → IsNodeAt nodes level page → at < 32 → IsRound slots point at None
    → got (λ y. below nodes (is_entry point key) level y) ((nodes page).slots at) ≡ 0
passed-short nodes level page at slots point key e node l short =
    held-short nodes point key level ((nodes page).slots at) (node.items at l) (subst (λ (s : Slots). Held (IsShort point) (s at)) (sym e) short)

-- a way depends on its own levels alone
pub leads-same : (nodes : NodeMap) (path path' : List ℕ) (level page : ℕ) (x : Item) → ((i : ℕ) → i ≤ level → slice_index path' i ≡ slice_index path i) → Leads nodes path level page x → Leads nodes path' level page x
leads-same nodes path path' zero page x same leads = subst (λ (i : ℕ). IsAt (nodes page).slots i x) (sym (same 0 (omega arith))) leads
leads-same nodes path path' (suc level) page x same leads = (
  leads.0,
  subst (λ (i : ℕ). IsAt (nodes page).slots i leads.0) (sym (same (suc level) (omega arith))) leads.1,
  leads-same nodes path path' level leads.0.to x (λ i l. same i (omega arith)) leads.2,
)

-- a child that is kept is one of the node's
pub child-here : (pages : PageMap) (level page at child : ℕ) (point : Position) (bytes : List ℕ) (kept : Option ℕ) → bytes ≡ pages page → IsNodeAt (nodes_in node_of pages) level page
    → IsRound (stored_in bytes) point at kept → kept ≡ Some child → IsChildAt (nodes_in node_of pages page).slots at child
child-here pages level page at child point bytes kept is node round e =
    let r = node-read pages level page node in
    let slots : (nodes_in node_of pages page).slots ≡ stored_in bytes = r.slots ∙ ap stored_in (sym is) in
    subst (λ (s : Slots). IsChildAt s at child) (sym slots) (subst (IsRound (stored_in bytes) point at) e round)

module _ (nodes : NodeMap) (level l page at child : ℕ) (up : level ≡ suc l) (within : at < 32) (node : IsNodeAt nodes level page) (child_at : IsChildAt (nodes page).slots at child) where
  -- a child is a well-formed node
  pub child-node : IsNodeAt nodes l child
  child-node =
      let item : Held (λ y. IsItem nodes level y) (Some child_at.item) = subst (Held (λ y. IsItem nodes level y)) child_at.is (node.items at within) in
      let is : IsItem nodes (suc l) child_at.item = subst (λ (k : ℕ). IsItem nodes k child_at.item) up item in
      let n : IsNode (λ y. IsItem nodes l y) 12 l (nodes child) = subst (λ (c : ℕ). IsNode (λ y. IsItem nodes l y) 12 l (nodes c)) child_at.to_is is.0 in
      let s = n.some in
      record { level_is = n.level_is; some = omega arith; items = n.items }

  -- its pages are its parent's
  pub child-counted : (count : ℕ) → AreCounted nodes count level page → AreCounted nodes count l child
  child-counted count counted n used u =
      let a = amount-at (λ y. uses nodes level y n) (nodes page).slots at within in
      let b : got (λ y. uses nodes level y n) ((nodes page).slots at) ≡ uses nodes level child_at.item n = ap (got (λ y. uses nodes level y n)) child_at.is in
      let c : uses nodes level child_at.item n ≡ uses nodes (suc l) child_at.item n = ap (λ (k : ℕ). uses nodes k child_at.item n) up in
      let d : node_uses nodes l child_at.item.to n ≡ node_uses nodes l child n = ap (λ (p : ℕ). node_uses nodes l p n) child_at.to_is in
      counted n (omega arith) u

  -- the way to an entry below a child, and to the child before it
  pub child-leads : (point : Position) (key path path' : List ℕ) → Leads nodes path l child (place_item point key) → slice_index path' level ≡ at → ((i : ℕ) → i ≤ l → slice_index path' i ≡ slice_index path i)
      → Leads nodes path' level page (place_item point key)
  child-leads point key path path' leads here same =
      let below_it : Leads nodes path' l child_at.item.to (place_item point key) =
      subst (λ (c : ℕ). Leads nodes path' l c (place_item point key)) (sym child_at.to_is) (leads-same nodes path path' l child (place_item point key) same leads) in
      let at_it : IsAt (nodes page).slots (slice_index path' (suc l)) child_at.item =
      subst (λ (i : ℕ). IsAt (nodes page).slots i child_at.item) (sym (ap (slice_index path') (sym up) ∙ here)) (within, child_at.is) in
      subst (λ (k : ℕ). Leads nodes path' k page (place_item point key)) (sym up) (child_at.item, at_it, below_it)

  -- a child below which the entry isn't
  pub passed-child : (point : Position) (key : List ℕ) → node_below nodes (is_entry point key) l child ≡ 0 → got (λ y. below nodes (is_entry point key) level y) ((nodes page).slots at) ≡ 0
  passed-child point key none =
      ap (got (λ y. below nodes (is_entry point key) level y)) child_at.is
      ∙ ap (λ (k : ℕ). below nodes (is_entry point key) k child_at.item) up
      ∙ ap (λ (p : ℕ). node_below nodes (is_entry point key) l p) child_at.to_is
      ∙ none
