-- A tree of nodes by themselves, and the same tree joined with its rows of words.
use Rattle.std.proofs.Common.{◌≡◌, ◌⊎◌, ℕ, zero, suc, ◌+◌, ◌-◌, ◌<◌, ◌≤◌, ◌&&◌, ⊎_elim, Option, Some, None, option_map, if◌then◌else◌, nat_lt, refl, sym, ap, subst, ◌∙◌, arith, List, Bool, true, false}
use Rattle.std.proofs.lemmas.Bool.{cases_eq}
use Rattle.std.proofs.lemmas.Bool.Decides.{nat_tests}
use Rattle.page_face.specs.FreeList.{PageMap}
use Rattle.spatial_base.specs.Rect.{Bounds, rect_of}
use Rattle.btree_nodes.specs.Supply.{one_at}
use Rattle.btree_nodes.proofs.Supplies.{one_at-same}
use Rattle.rtree_nodes.specs.Slots.{Item, Slots, NodeMap, got, amount, tops, sum_to, top_to, Held}
use Rattle.rtree_nodes.specs.Trees.{IsItem, IsNode, node_uses as uses_at, uses, root_least, reach_of}
use Rattle.rtree_nodes.specs.Reach as reach
use Rattle.rtree_nodes.specs.Cells.{item_in, point_of, rect_at}
use Rattle.rtree_nodes.specs.Pages.{node_of, level_in, cell_at, item_at, is_form, is_used, slots_in, stored_in}
use Rattle.rtree_nodes.specs.Whole as plain
use Rattle.rtree_nodes.proofs.Amounts.{amount-at, amount-same}
use Rattle.rtree_nodes.proofs.Formed.{form-slots, other-slots}
use Rattle.node_rows.specs.Rows.{Bytes, bytes_in}
use Rattle.node_rows.specs.Impacts.{top_at}
use Rattle.irtree_shape.specs.Made.{nodes_in, IsBlank}
use Rattle.irtree_shape.specs.Whole.{IsWell, tree_uses}
use Rattle.irtree_shape.specs.Words.{joined_item, words_on}
use Rattle.irtree_shape.proofs.Relinks.{linked-reach, node-top, word-reach, less_or}
use Rattle.irtree_shape.proofs.Words.{sides, words-filled}
use Rattle.store_verify.specs.Tree.{plain_nodes, AreGreatest}

-- ---- items of nodes by themselves reach to their four sides alone

pub far-bounds : (r : Bounds) (d : ℕ) → 4 ≤ d → reach.reach_of r d ≡ 0
far-bounds r zero far = absurd (omega arith)
far-bounds r (suc zero) far = absurd (omega arith)
far-bounds r (suc (suc zero)) far = absurd (omega arith)
far-bounds r (suc (suc (suc zero))) far = absurd (omega arith)
far-bounds r (suc (suc (suc (suc side)))) far = refl

far-cell : (level : ℕ) (cell : List ℕ) (d : ℕ) → 4 ≤ d → (item_in level cell).reach d ≡ 0
far-cell zero cell d far = far-bounds (rect_of (point_of cell)) d far
far-cell (suc level) cell d far = far-bounds (rect_at cell) d far

far-some : (o : Option Item) (y : Item) (d : ℕ) (c : Bool) (x : Item) → x.reach d ≡ 0 → o ≡ (if c then Some x else None) → got (reach_of d) o ≡ 0
far-some o y d true x far e = ap (got (reach_of d)) e ∙ far
far-some o y d false x far e = ap (got (reach_of d)) e

-- a slot reaches no further
pub slot-far : (page : List ℕ) (i d : ℕ) → 4 ≤ d → got (reach_of d) (slots_in page i) ≡ 0
unfolding stored_in
slot-far page i d far = by (is_form page) refl
  where
    by : (b : Bool) → is_form page ≡ b → got (reach_of d) (slots_in page i) ≡ 0
    by true form = ap (λ (s : Slots). got (reach_of d) (s i)) (form-slots page form) ∙ far-some (stored_in page i) (item_at page i) d (nat_lt i 32 && is_used page i) (item_at page i) (far-cell (level_in page) (cell_at page i) d far) refl
    by false other = ap (λ (s : Slots). got (reach_of d) (s i)) (other-slots page other)

-- nor do all slots together
top-zero : (n : ℕ) (f : ℕ → ℕ) → ((i : ℕ) → f i ≡ 0) → top_to n f ≡ 0
unfolding top_to
top-zero zero f none = refl
top-zero (suc n) f none = let here = none n in let rest = top-zero n f none in omega arith

pub tops-far : (page : List ℕ) (d : ℕ) → 4 ≤ d → tops d (slots_in page) ≡ 0
unfolding tops
tops-far page d far = top-zero 32 (λ i. got (reach_of d) (slots_in page i)) (λ i. slot-far page i d far)

-- ---- slots

-- some slot counts, where all together do
sum-some : (n : ℕ) (f : ℕ → ℕ) → 0 < sum_to n f → (i : ℕ) × (i < n) × (0 < f i)
unfolding sum_to
sum-some zero f some = absurd (omega arith)
sum-some (suc n) f some = ⊎_elim
    (λ none. let rest = sum-some n f (omega arith) in (rest.0, omega arith, rest.2))
    (λ here. (n, omega arith, omega arith)) (cases_eq (f n) 0)

pub amount-some : (f : Item → ℕ) (s : Slots) → 0 < amount f s → (i : ℕ) × (i < 32) × (0 < got f (s i))
unfolding amount
amount-some f s some = sum-some 32 (λ i. got f (s i)) some

-- the item of a slot that counts
pub got-some : (f : Item → ℕ) (o : Option Item) → 0 < got f o → (x : Item) × (o ≡ Some x) × (0 < f x)
got-some f None some = absurd (omega arith)
got-some f (Some x) some = (x, refl, some)

pub one-cases : (page n : ℕ) → (n ≡ page) ⊎ (one_at page n ≡ 0)
unfolding one_at
one-cases page n = grind (arith, nat_tests)

-- a slot that is used is below 32
pub used-within : (page : List ℕ) (i : ℕ) (x : Item) → slots_in page i ≡ Some x → i < 32
unfolding stored_in
used-within page i x is = by (is_form page) refl
  where
    test : (a c : Bool) → nat_lt i 32 ≡ a → (if a && c then Some (item_at page i) else None) ≡ Some x → i < 32
    test true c e h = grind (arith, nat_tests)
    test false c e h = absurd (cc)

    by : (q : Bool) → is_form page ≡ q → i < 32
    by true form = test (nat_lt i 32) (is_used page i) refl (sym (ap (λ (s : Slots). s i) (form-slots page form)) ∙ is)
    by false other = let none : slots_in page i ≡ None = ap (λ (s : Slots). s i) (other-slots page other) in absurd (cc)

-- ---- the two trees

module _ (pages : PageMap) (rows : ℕ) where
  abbrev b : Bytes
  b = bytes_in pages rows

  abbrev p : NodeMap
  p = plain_nodes pages

  abbrev j : NodeMap
  j = nodes_in node_of pages rows

  -- the pages are the same
  item-uses : (level : ℕ) (c : ℕ → ℕ → ℕ) (i n : ℕ) (o : Option Item) → ((page : ℕ) → uses_at j level page n ≡ uses_at p level page n)
      → got (λ y. uses j (suc level) y n) (option_map (joined_item c i) o) ≡ got (λ y. uses p (suc level) y n) o
  item-uses level c i n None same = refl
  item-uses level c i n (Some x) same = same x.to

  leaf-uses : (c : ℕ → ℕ → ℕ) (i n : ℕ) (o : Option Item) → got (λ y. uses j 0 y n) (option_map (joined_item c i) o) ≡ got (λ y. uses p 0 y n) o
  leaf-uses c i n None = refl
  leaf-uses c i n (Some x) = refl

  pub joined-uses : (level page n : ℕ) → uses_at j level page n ≡ uses_at p level page n
  joined-uses zero page n = ap (λ (k : ℕ). one_at page n + k)
      (amount-same (λ y. uses j 0 y n) (λ y. uses p 0 y n) (words_on (b page) (p page).slots) (p page).slots (λ i l. leaf-uses (b page) i n ((p page).slots i)))
  joined-uses (suc level) page n = ap (λ (k : ℕ). one_at page n + k)
      (amount-same (λ y. uses j (suc level) y n) (λ y. uses p (suc level) y n) (words_on (b page) (p page).slots) (p page).slots
      (λ i l. item-uses level (b page) i n ((p page).slots i) (λ q. joined-uses level q n)))

  module _ (blank : (n : ℕ) → IsBlank node_of pages rows n) where
    -- the rows say the greatest bytes at each page that is used below a node
    abbrev Agree : ℕ → ℕ → Type 0
    Agree level page = (n : ℕ) → 0 < uses_at p level page n → AreGreatest b n (p n)

    -- a node with its rows, of a node by itself
    pub join-node : (level least page : ℕ) → IsNode (λ y. IsItem p level y) least level (p page) → Agree level page → IsNode (λ y. IsItem j level y) least level (j page)
    join-node zero least page node agree = record {
      level_is = node.level_is;
      some = (let same = words-filled (b page) (p page).slots in let some = node.some in omega arith);
      items = λ i l. leaf i ((p page).slots i);
    }
      where
        leaf : (i : ℕ) (o : Option Item) → Held (λ y. IsItem j 0 y) (option_map (joined_item (b page) i) o)
        leaf i None = tt
        leaf i (Some x) = tt
    join-node (suc level) least page node agree = record {
      level_is = node.level_is;
      some = (let same = words-filled (b page) (p page).slots in let some = node.some in omega arith);
      items = λ i l. child (λ q held more. join-node level 12 q held more) i l ((p page).slots i) refl (node.items i l);
    }
      where
        here : AreGreatest b page (p page)
        here = agree page (let one = one_at-same page in omega arith)

        below : (i : ℕ) (x : Item) → i < 32 → (p page).slots i ≡ Some x → (n : ℕ) → 0 < uses_at p level x.to n → 0 < uses_at p (suc level) page n
        below i x l is n some =
            let at = amount-at (λ y. uses p (suc level) y n) (p page).slots i l in
            let own : got (λ y. uses p (suc level) y n) ((p page).slots i) ≡ uses_at p level x.to n = ap (got (λ y. uses p (suc level) y n)) is in
            omega arith

        child : ((q : ℕ) → IsNode (λ y. IsItem p level y) 12 level (p q) → Agree level q → IsNode (λ y. IsItem j level y) 12 level (j q))
            → (i : ℕ) → i < 32 → (o : Option Item) → (p page).slots i ≡ o → Held (λ y. IsItem p (suc level) y) o → Held (λ y. IsItem j (suc level) y) (option_map (joined_item (b page) i) o)
        child more i l None is held = tt
        child more i l (Some x) is held = (
          more x.to held.0 (λ n some. agree n (below i x l is n some)),
          linked-reach (b page) i x (λ d. tops d (j x.to).slots)
              (λ d less. held.1 d ∙ sym (sides (b x.to) (p x.to).slots d less))
              (λ w. here (let is_level = node.level_is in omega arith) w i x is ∙ node-top node_of pages rows x.to w (blank x.to)),
        )

    -- a node by itself, of a node with its rows
    pub part-node : (level least page : ℕ) → IsNode (λ y. IsItem j level y) least level (j page) → IsNode (λ y. IsItem p level y) least level (p page)
    part-node zero least page node = record {
      level_is = node.level_is;
      some = (let same = words-filled (b page) (p page).slots in let some = node.some in omega arith);
      items = λ i l. leaf ((p page).slots i);
    }
      where
        leaf : (o : Option Item) → Held (λ y. IsItem p 0 y) o
        leaf None = tt
        leaf (Some x) = tt
    part-node (suc level) least page node = record {
      level_is = node.level_is;
      some = (let same = words-filled (b page) (p page).slots in let some = node.some in omega arith);
      items = λ i l. child (λ q held. part-node level 12 q held) i ((p page).slots i) refl (node.items i l);
    }
      where
        side : (i d : ℕ) (x : Item) → d < 4 → (joined_item (b page) i x).reach d ≡ x.reach d
        side i d x less = let t : nat_lt d 4 ≡ true = grind (arith, nat_tests) in ap (λ (q : Bool). if q then x.reach d else b page (d - 4) i) t

        child : ((q : ℕ) → IsNode (λ y. IsItem j level y) 12 level (j q) → IsNode (λ y. IsItem p level y) 12 level (p q))
            → (i : ℕ) (o : Option Item) → (p page).slots i ≡ o → Held (λ y. IsItem j (suc level) y) (option_map (joined_item (b page) i) o) → Held (λ y. IsItem p (suc level) y) o
        child more i None is held = tt
        child more i (Some x) is held = (
          more x.to held.0,
          λ d. ⊎_elim
              (λ less. sym (side i d x less) ∙ held.1 d ∙ sides (b x.to) (p x.to).slots d less)
              (λ far. sym (ap (got (reach_of d)) is) ∙ slot-far (pages page) i d far ∙ sym (tops-far (pages x.to) d far)) (less_or d),
        )

    -- and the rows say the greatest bytes
    pub part-rows : (level least page : ℕ) → IsNode (λ y. IsItem j level y) least level (j page) → Agree level page
    part-rows zero least page node n some inner w i x is =
        ⊎_elim
        (λ e. let at : (p n).level ≡ 0 = ap (λ (k : ℕ). (p k).level) e ∙ node.level_is in absurd (omega arith))
        (λ other.
        let none = amount-some (λ y. uses p 0 y n) (p page).slots (omega arith) in
        let item = got-some (λ y. uses p 0 y n) ((p page).slots none.0) none.2 in
        let zero-is = item.2 in
        absurd (omega arith))
        (one-cases page n)
    part-rows (suc level) least page node n some inner w i x is =
        ⊎_elim
        (λ e. subst (λ (m : ℕ). (p m).slots i ≡ Some x → b m w i ≡ top_at b x.to w) (sym e) here is)
        (λ other.
        let at = amount-some (λ y. uses p (suc level) y n) (p page).slots (omega arith) in
        let item = got-some (λ y. uses p (suc level) y n) ((p page).slots at.0) at.2 in
        part-rows level 12 item.0.to (child at.0 item.0 item.1 (node.items at.0 at.1)) n item.2 inner w i x is)
        (one-cases page n)
      where
        child : (k : ℕ) (y : Item) → (p page).slots k ≡ Some y → Held (λ z. IsItem j (suc level) z) (option_map (joined_item (b page) k) ((p page).slots k)) → IsNode (λ z. IsItem j level z) 12 level (j y.to)
        child k y at held =
            let own : IsItem j (suc level) (joined_item (b page) k y) = subst (λ (o : Option Item). Held (λ z. IsItem j (suc level) z) (option_map (joined_item (b page) k) o)) at held in
            own.0

        reach-of : (k : ℕ) (y : Item) → (o : Option Item) → o ≡ Some y → Held (λ z. IsItem j (suc level) z) (option_map (joined_item (b page) k) o) → (w : ℕ) → b page w k ≡ top_at b y.to w
        reach-of k y o at held w =
            let own : IsItem j (suc level) (joined_item (b page) k y) = subst (λ (o : Option Item). Held (λ z. IsItem j (suc level) z) (option_map (joined_item (b page) k) o)) at held in
            sym (word-reach (b page) k w y) ∙ own.1 (4 + w) ∙ sym (node-top node_of pages rows y.to w (blank y.to))

        here : (p page).slots i ≡ Some x → b page w i ≡ top_at b x.to w
        here at = reach-of i x ((p page).slots i) at (node.items i (slot-within i x at)) w
          where
            slot-within : (i : ℕ) (x : Item) → (p page).slots i ≡ Some x → i < 32
            slot-within i x at = used-within (pages page) i x at

-- ---- by the root

pub join-uses : (pages : PageMap) (rows root n : ℕ) → tree_uses (nodes_in node_of pages rows) root n ≡ plain.tree_uses node_of pages root n
join-uses pages rows zero n = refl
join-uses pages rows (suc m) n = joined-uses pages rows (node_of (pages (suc m))).level (suc m) n

-- a tree with its rows is well formed, if the tree by itself is and the rows agree
pub join-tree : (pages : PageMap) (rows root : ℕ) → ((n : ℕ) → IsBlank node_of pages rows n) → plain.IsWell node_of pages root
    → ((n : ℕ) → 0 < plain.tree_uses node_of pages root n → AreGreatest (bytes_in pages rows) n (node_of (pages n))) → IsWell (nodes_in node_of pages rows) root
join-tree pages rows zero blank tree agree = tt
join-tree pages rows (suc m) blank tree agree = join-node pages rows blank (node_of (pages (suc m))).level (root_least (node_of (pages (suc m))).level) (suc m) tree agree

-- and the other way round
pub part-tree : (pages : PageMap) (rows root : ℕ) → ((n : ℕ) → IsBlank node_of pages rows n) → IsWell (nodes_in node_of pages rows) root → plain.IsWell node_of pages root
part-tree pages rows zero blank tree = tt
part-tree pages rows (suc m) blank tree = part-node pages rows blank (node_of (pages (suc m))).level (root_least (node_of (pages (suc m))).level) (suc m) tree

pub part-agree : (pages : PageMap) (rows root : ℕ) → ((n : ℕ) → IsBlank node_of pages rows n) → IsWell (nodes_in node_of pages rows) root
    → (n : ℕ) → 0 < plain.tree_uses node_of pages root n → AreGreatest (bytes_in pages rows) n (node_of (pages n))
part-agree pages rows zero blank tree n some = absurd (omega arith)
part-agree pages rows (suc m) blank tree n some = part-rows pages rows blank (node_of (pages (suc m))).level (root_least (node_of (pages (suc m))).level) (suc m) tree n some
