-- What the walks over a map and over a tree name is broken there.
use Rattle.std.proofs.Common.{◌≡◌, ◌⊎◌, ℕ, zero, suc, ◌^◌, ◌<◌, ◌≤◌, inl, inr, ⊎_elim, List, [], ◌∷◌, Some, refl, sym, ap, subst, ◌∙◌, arith}
use Rattle.page_face.specs.Causes.{IsUncounted}
use Rattle.page_face.specs.FreeList.{PageMap}
use Rattle.page_face.specs.declared.fault.Damage.{Damage}
use Rattle.page_face.specs.declared.fault.Rule.{Rule}
use Rattle.page_face.specs.declared.fault.Rule.TheVariants.{Head, Link, Kind, Fill, Order, Spare, Level, Value, Shared, Rect, Row, Entry, Words, Counts}
use Rattle.page_store.specs.declared.superblock.Superblock.{Superblock}
use Rattle.btree_nodes.specs.Damages.{BreaksInner, BreaksLeaf, IsDamaged, SomeChild}
use Rattle.btree_nodes.specs.Nodes.{Entry as Pair, entries_in, half_of, least_of_root}
use Rattle.btree_nodes.specs.Supply.{one_at}
use Rattle.btree_nodes.specs.Tree.{level_of, map_uses, next_key, total, uses, with_low}
use Rattle.btree_nodes.specs.declared.form.Form.{Form}
use Rattle.btree_nodes.proofs.Supplies.{one_at-same}
use Rattle.btree_nodes.proofs.Frames.{with_low-total}
use Rattle.page_walks.specs.Leaves.{AnyChildIs, IsBadLeaf}
use Rattle.page_walks.specs.Maps.{IsBadLeafIn}
use Rattle.paged_map.specs.Maps.{IsMapDamaged}
use Rattle.rtree_nodes.specs.Pages.{level_in}
use Rattle.rtree_nodes.specs.Slots.{Item, NodeMap, got, tops}
use Rattle.rtree_nodes.specs.Trees.{reach_of, root_least}
use Rattle.rtree_nodes.proofs.Sums.{top-same}
use Rattle.tree_check.specs.Damages as trees
use Rattle.tree_check.specs.Damages.{BreaksPlaced, IsDamagedTree}
use Rattle.irtree_shape.proofs.Relinks.{less_or}
use Rattle.store_tables.specs.Holding.{numbers_form, places_form, texts_form}
use Rattle.store_verify.specs.Breaks.{BreaksMap, BreaksNumberRow, BreaksPlaceRow, BreaksTextRow, BreaksValue, IsBroken, IsNotLeast, SomeItem, SomeNode, SomeNodeOf, damage_at, greatest}
use Rattle.store_verify.specs.Tree.{plain_nodes}
use Rattle.store_verify.specs.Whole.{store_uses}
use Rattle.store_verify.proofs.Joins.{slot-far, tops-far}
use Rattle.store_verify.proofs.Named.{at-rule}
use Rattle.store_verify.proofs.Nodes.{reach-held, reach-greatest}

-- ---- maps

-- a page that some entry names, or that is used below it, is used below all
child-used : (D : ℕ → ℕ → ℕ → Type 0) (U : ℕ → ℕ) (high : ℕ) (es : List Pair) → ((c a b : ℕ) → D c a b → 0 < U c) → SomeChild D high es → 0 < total U es
child-used D U high [] each some = absurd some
child-used D U high (e ∷ es) each (inl here) = let used = each e.1 e.0 (next_key high es) here in omega arith
child-used D U high (e ∷ es) each (inr there) = let used = child-used D U high es each there in omega arith

-- a damaged page of a tree is used by it
damaged-used : (form : Form) (pages : PageMap) (count : ℕ) (damage : Damage) (least level page low high : ℕ) → IsDamaged form pages count damage least level page low high → 0 < uses form pages level page damage.page
damaged-used form pages count damage least zero page low high damaged =
    let one = one_at-same page in let here : one_at page damage.page ≡ one_at page page = ap (one_at page) damaged.0 in omega arith
damaged-used form pages count damage least (suc level) page low high (inl here) =
    let one = one_at-same page in let is : one_at page damage.page ≡ one_at page page = ap (one_at page) here.0 in omega arith
damaged-used form pages count damage least (suc level) page low high (inr there) =
    let some = child-used (IsDamaged form pages count damage (half_of form level) level) (λ c. uses form pages level c damage.page) high (with_low low (entries_in form (pages page)))
    (λ c a b below. damaged-used form pages count damage (half_of form level) level c a b below) there in
    let same = with_low-total (λ c. uses form pages level c damage.page) low (entries_in form (pages page)) in
    omega arith

-- a rule that no page of a map breaks in its place
child-none : (D : ℕ → ℕ → ℕ → Type 0) (high : ℕ) (es : List Pair) → ((c a b : ℕ) → D c a b → ⊥) → SomeChild D high es → ⊥
child-none D high [] each some = some
child-none D high (e ∷ es) each (inl here) = each e.1 e.0 (next_key high es) here
child-none D high (e ∷ es) each (inr there) = child-none D high es each there

damaged-none : (form : Form) (pages : PageMap) (count : ℕ) (damage : Damage) → ((damage.rule ≡ Link) → ⊥) → ((least low high : ℕ) (page : List ℕ) → BreaksLeaf damage.rule form least low high page → ⊥)
    → ((least level low high : ℕ) (page : List ℕ) → BreaksInner damage.rule form least level low high page → ⊥) → (least level page low high : ℕ) → IsDamaged form pages count damage least level page low high → ⊥
damaged-none form pages count damage link leaf inner least zero page low high damaged = ⊎_elim (λ l. link l.0) (λ b. leaf least low high (pages page) b) damaged.1
damaged-none form pages count damage link leaf inner least (suc level) page low high (inl here) = ⊎_elim (λ l. link l.0) (λ b. inner least (suc level) low high (pages page) b) here.1
damaged-none form pages count damage link leaf inner least (suc level) page low high (inr there) =
    child-none (IsDamaged form pages count damage (half_of form level) level) high (with_low low (entries_in form (pages page)))
    (λ c a b below. damaged-none form pages count damage link leaf inner (half_of form level) level c a b below) there

-- a page that breaks Link in its place isn't counted, or is page 0
some-link : (D : ℕ → ℕ → ℕ → Type 0) (P : Type 0) (high : ℕ) (es : List Pair) → ((c a b : ℕ) → D c a b → P) → SomeChild D high es → P
some-link D P high [] each some = absurd some
some-link D P high (e ∷ es) each (inl here) = each e.1 e.0 (next_key high es) here
some-link D P high (e ∷ es) each (inr there) = some-link D P high es each there

damaged-link : (form : Form) (pages : PageMap) (count : ℕ) (damage : Damage) → damage.rule ≡ Link → (least level page low high : ℕ) → IsDamaged form pages count damage least level page low high → IsUncounted count damage.page
damaged-link form pages count damage is least zero page low high damaged = ⊎_elim
    (λ l. subst (IsUncounted count) (sym damaged.0) l.1)
    (λ b. absurd (subst (λ (r : Rule). BreaksLeaf r form least low high (pages page)) is b)) damaged.1
damaged-link form pages count damage is least (suc level) page low high (inl here) = ⊎_elim
    (λ l. subst (IsUncounted count) (sym here.0) l.1)
    (λ b. absurd (subst (λ (r : Rule). BreaksInner r form least (suc level) low high (pages page)) is b)) here.1
damaged-link form pages count damage is least (suc level) page low high (inr there) =
    some-link (IsDamaged form pages count damage (half_of form level) level) (IsUncounted count damage.page) high (with_low low (entries_in form (pages page)))
    (λ c a b below. damaged-link form pages count damage is (half_of form level) level c a b below) there

map-link : (form : Form) (pages : PageMap) (count root : ℕ) (damage : Damage) → damage.rule ≡ Link → IsMapDamaged form pages count root damage → IsUncounted count damage.page
map-link form pages count zero damage is damaged = absurd damaged
map-link form pages count (suc n) damage is damaged = damaged-link form pages count damage is (least_of_root (level_of (pages (suc n)))) (level_of (pages (suc n))) (suc n) 0 (256 ^ form.key) damaged

map-used : (form : Form) (pages : PageMap) (count root : ℕ) (damage : Damage) → IsMapDamaged form pages count root damage → 0 < map_uses form pages root damage.page
map-used form pages count zero damage damaged = absurd damaged
map-used form pages count (suc n) damage damaged = damaged-used form pages count damage (least_of_root (level_of (pages (suc n)))) (level_of (pages (suc n))) (suc n) 0 (256 ^ form.key) damaged

map-none : (form : Form) (pages : PageMap) (count root : ℕ) (damage : Damage) → ((damage.rule ≡ Link) → ⊥) → ((least low high : ℕ) (page : List ℕ) → BreaksLeaf damage.rule form least low high page → ⊥)
    → ((least level low high : ℕ) (page : List ℕ) → BreaksInner damage.rule form least level low high page → ⊥) → IsMapDamaged form pages count root damage → ⊥
map-none form pages count zero damage link leaf inner damaged = damaged
map-none form pages count (suc n) damage link leaf inner damaged = damaged-none form pages count damage link leaf inner (least_of_root (level_of (pages (suc n)))) (level_of (pages (suc n))) (suc n) 0 (256 ^ form.key) damaged

-- what the walk over a map names is broken, if the map is one of the store's
module _ (block : Superblock) (pages : PageMap) (form : Form) (root : ℕ) (one : (damage : Damage) → IsMapDamaged form pages block.counted root damage → BreaksMap block pages damage) (uses' : (n : ℕ) → map_uses form pages root n ≤ store_uses block.head pages n) where
  rule-named : (rule : Rule) (page : ℕ) → IsMapDamaged form pages block.counted root (damage_at rule page) → IsBroken block pages (damage_at rule page)
  rule-named Kind page damaged = inl (one (damage_at Kind page) damaged)
  rule-named Fill page damaged = inl (one (damage_at Fill page) damaged)
  rule-named Order page damaged = inl (one (damage_at Order page) damaged)
  rule-named Spare page damaged = inl (one (damage_at Spare page) damaged)
  rule-named Level page damaged = inl (inl (one (damage_at Level page) damaged))
  rule-named Link page damaged = (
    map-link form pages block.counted root (damage_at Link page) refl damaged,
    inl (let used = map-used form pages block.counted root (damage_at Link page) damaged in let all = uses' page in omega arith),
  )
  rule-named Head page damaged = absurd (map-none form pages block.counted root (damage_at Head page) (λ e. cc) (λ least low high p b. b) (λ least level low high p b. b) damaged)
  rule-named Value page damaged = absurd (map-none form pages block.counted root (damage_at Value page) (λ e. cc) (λ least low high p b. b) (λ least level low high p b. b) damaged)
  rule-named Shared page damaged = absurd (map-none form pages block.counted root (damage_at Shared page) (λ e. cc) (λ least low high p b. b) (λ least level low high p b. b) damaged)
  rule-named Rect page damaged = absurd (map-none form pages block.counted root (damage_at Rect page) (λ e. cc) (λ least low high p b. b) (λ least level low high p b. b) damaged)
  rule-named Row page damaged = absurd (map-none form pages block.counted root (damage_at Row page) (λ e. cc) (λ least low high p b. b) (λ least level low high p b. b) damaged)
  rule-named Entry page damaged = absurd (map-none form pages block.counted root (damage_at Entry page) (λ e. cc) (λ least low high p b. b) (λ least level low high p b. b) damaged)
  rule-named Words page damaged = absurd (map-none form pages block.counted root (damage_at Words page) (λ e. cc) (λ least low high p b. b) (λ least level low high p b. b) damaged)
  rule-named Counts page damaged = absurd (map-none form pages block.counted root (damage_at Counts page) (λ e. cc) (λ least low high p b. b) (λ least level low high p b. b) damaged)

  pub map-named : (damage : Damage) → IsMapDamaged form pages block.counted root damage → IsBroken block pages damage
  map-named damage damaged = rule-named damage.rule damage.page damaged

-- ---- trees

module _ (pages : PageMap) (damage : Damage) where
  abbrev nodes : NodeMap
  nodes = plain_nodes pages

  -- a rule broken in its place, by a node
  abbrev Placed : ℕ → ℕ → ℕ → Type 0
  Placed least level page = (page ≡ damage.page) × BreaksPlaced damage.rule least level (pages page)

  -- a rectangle that isn't the least one
  abbrev Wrong : ℕ → ℕ → ℕ → Type 0
  Wrong least level n = (n ≡ damage.page) × SomeItem (λ i x. IsNotLeast nodes level x) (nodes n).slots

  -- some node at or below a page is so, in one way or the other
  abbrev IsNamed : ℕ → ℕ → ℕ → Type 0
  IsNamed least level page = SomeNode Placed nodes least level page ⊎ ((damage.rule ≡ Rect) × SomeNode Wrong nodes least level page)

  some-here : (P : ℕ → ℕ → ℕ → Type 0) (least level page : ℕ) → P least level page → SomeNode P nodes least level page
  some-here P least zero page here = here
  some-here P least (suc level) page here = inl here

  -- also from a child
  from-child : (least level page at : ℕ) (x : Item) → at < 32 → (nodes page).slots at ≡ Some x → IsNamed 12 level x.to → IsNamed least (suc level) page
  from-child least level page at x within is (inl placed) = inl (inr (record { at = at; within = within; item = x; is = is; holds = placed }))
  from-child least level page at x within is (inr wrong) = inr (wrong.0, inr (record { at = at; within = within; item = x; is = is; holds = wrong.1 }))

  -- a rectangle that isn't the least one round the child's isn't the least one round the points
  not-least : (level page at : ℕ) (x : Item) → (nodes page).slots at ≡ Some x → trees.IsNotLeast nodes level x → IsNotLeast nodes (suc level) x
  unfolding tops
  not-least level page at x is wrong all = wrong.apart (λ d. ⊎_elim
      (λ less. all d less ∙ sym (top-same 32 (λ i. got (reach_of d) ((nodes x.to).slots i)) (λ i. got (greatest nodes d level) ((nodes x.to).slots i))
      (λ i inside. reach-held nodes d level (λ y own. reach-greatest nodes d level y own) ((nodes x.to).slots i) (wrong.node.items i inside))))
      (λ far. sym (ap (got (reach_of d)) is) ∙ slot-far (pages page) at d far ∙ sym (tops-far (pages x.to) d far)) (less_or d))

  node-named : (least level page : ℕ) → trees.IsDamaged pages damage least level page → IsNamed least level page
  node-named least zero page (inl placed) = inl (sym placed.0, placed.1)
  node-named least zero page (inr item) = absurd item.holds
  node-named least (suc level) page (inl placed) = inl (inl (sym placed.0, placed.1))
  node-named least (suc level) page (inr item) = ⊎_elim
      (λ rect. inr (
        ap (λ (d : Damage). d.rule) rect.0,
        inl (sym (ap (λ (d : Damage). d.page) rect.0), record { at = item.at; within = item.within; item = item.item; is = item.is; holds = not-least level page item.at item.item item.is rect.1 }),
      ))
      (λ below. from-child least level page item.at item.item item.within item.is (node-named 12 level item.item.to below)) item.holds

  some-none : (P : ℕ → ℕ → ℕ → Type 0) → ((least level page : ℕ) → P least level page → ⊥) → (least level page : ℕ) → SomeNode P nodes least level page → ⊥
  some-none P none least zero page there = none least zero page there
  some-none P none least (suc level) page (inl there) = none least (suc level) page there
  some-none P none least (suc level) page (inr item) = some-none P none 12 level item.item.to item.holds

none-of : (pages : PageMap) (damage : Damage) (root : ℕ) → ((least level page : ℕ) → Placed pages damage least level page → ⊥) → SomeNodeOf (Placed pages damage) pages root → ⊥
none-of pages damage zero none there = there
none-of pages damage (suc n) none there = some-none pages damage (Placed pages damage) none (root_least (level_in (pages (suc n)))) (level_in (pages (suc n))) (suc n) there

-- a node that breaks a rule in its place is broken
placed-named : (block : Superblock) (pages : PageMap) (rule : Rule) (page : ℕ) → SomeNodeOf (Placed pages (damage_at rule page)) pages block.head.tree → IsBroken block pages (damage_at rule page)
placed-named block pages Kind page there = inr (inl there)
placed-named block pages Fill page there = inr (inl there)
placed-named block pages Spare page there = inr (inl there)
placed-named block pages Level page there = inl (inr (inl there))
placed-named block pages Value page there = inr there
placed-named block pages Order page there = inr (inl there)
placed-named block pages Head page there = absurd (none-of pages (damage_at Head page) block.head.tree (λ least level n placed. placed.1) there)
placed-named block pages Link page there = absurd (none-of pages (damage_at Link page) block.head.tree (λ least level n placed. placed.1) there)
placed-named block pages Shared page there = absurd (none-of pages (damage_at Shared page) block.head.tree (λ least level n placed. placed.1) there)
placed-named block pages Rect page there = absurd (none-of pages (damage_at Rect page) block.head.tree (λ least level n placed. placed.1) there)
placed-named block pages Row page there = absurd (none-of pages (damage_at Row page) block.head.tree (λ least level n placed. placed.1) there)
placed-named block pages Entry page there = absurd (none-of pages (damage_at Entry page) block.head.tree (λ least level n placed. placed.1) there)
placed-named block pages Words page there = absurd (none-of pages (damage_at Words page) block.head.tree (λ least level n placed. placed.1) there)
placed-named block pages Counts page there = absurd (none-of pages (damage_at Counts page) block.head.tree (λ least level n placed. placed.1) there)

-- what the walk over a tree names is broken
pub tree-named : (block : Superblock) (pages : PageMap) (damage : Damage) → IsDamagedTree pages damage block.head.tree → IsBroken block pages damage
tree-named block pages damage damaged = go block.head.tree refl damaged
  where
    high : (root : ℕ) → root ≡ block.head.tree → 0 < root → 9 < level_in (pages root) → IsBroken block pages (damage_at Level root)
    high root is some above = inr (is, some, above)

    go : (root : ℕ) → root ≡ block.head.tree → IsDamagedTree pages damage root → IsBroken block pages damage
    go zero is damaged = absurd damaged
    go (suc n) is (inl above) = subst (IsBroken block pages) (sym above.0) (high (suc n) is (omega arith) above.1)
    go (suc n) is (inr node) = ⊎_elim
        (λ placed. placed-named block pages damage.rule damage.page (subst (SomeNodeOf (Placed pages damage) pages) is placed))
        (λ wrong. at-rule block pages damage Rect wrong.0 (subst (SomeNodeOf (Wrong pages damage) pages) is wrong.1))
        (node-named pages damage (root_least (level_in (pages (suc n)))) (level_in (pages (suc n))) (suc n) node)

-- ---- rows of tables

any-rule : (Q : ℕ → Type 0) (P : Type 0) (es : List Pair) → ((c : ℕ) → Q c → P) → AnyChildIs Q es → P
any-rule Q P [] each some = absurd some
any-rule Q P (e ∷ es) each (inl here) = each e.1 here
any-rule Q P (e ∷ es) each (inr there) = any-rule Q P es each there

-- a leaf with a bad row breaks Value
leaf-rule : (breaks : Rule → List ℕ → Type 0) → ((rule : Rule) (page : List ℕ) → breaks rule page → rule ≡ Value) → (form : Form) (pages : PageMap) (damage : Damage) (level page : ℕ) → IsBadLeaf breaks form pages damage level page → damage.rule ≡ Value
leaf-rule breaks value form pages damage zero page bad = value damage.rule (pages page) bad.1
leaf-rule breaks value form pages damage (suc level) page bad =
    any-rule (IsBadLeaf breaks form pages damage level) (damage.rule ≡ Value) (entries_in form (pages page)) (λ c below. leaf-rule breaks value form pages damage level c below) bad

rows-rule : (breaks : Rule → List ℕ → Type 0) → ((rule : Rule) (page : List ℕ) → breaks rule page → rule ≡ Value) → (form : Form) (pages : PageMap) (root : ℕ) (damage : Damage) → IsBadLeafIn breaks form pages root damage → damage.rule ≡ Value
rows-rule breaks value form pages zero damage bad = absurd bad
rows-rule breaks value form pages (suc n) damage bad = leaf-rule breaks value form pages damage (level_of (pages (suc n))) (suc n) bad

-- what the walk over a table finds in a leaf is broken
pub value-named : (block : Superblock) (pages : PageMap) (damage : Damage) → BreaksValue block pages damage → IsBroken block pages damage
value-named block pages damage bad = at-rule block pages damage Value (is bad) (inl (subst (λ (r : Rule). BreaksValue block pages (damage_at r damage.page)) (is bad) bad))
  where
    is : BreaksValue block pages damage → damage.rule ≡ Value
    is (inl places) = rows-rule BreaksPlaceRow (λ rule page b. b.0) places_form pages block.head.places damage places
    is (inr (inl texts)) = rows-rule BreaksTextRow (λ rule page b. b.0) texts_form pages block.head.texts damage texts
    is (inr (inr numbers)) = rows-rule BreaksNumberRow (λ rule page b. b.0) numbers_form pages block.head.numbers damage numbers
