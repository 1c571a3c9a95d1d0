-- The first node whose rows aren't right by what is directly below it has a byte that isn't the greatest impact below its slot.
use Rattle.std.proofs.Common.{◌≡◌, ◌⊎◌, ℕ, zero, suc, ◌<◌, ◌++◌, inl, inr, ⊎_elim, Option, Some, None, List, [], ◌∷◌, refl, sym, ap, subst, ◌∙◌, arith}
use Rattle.std.specs.List.{All, AllByRecursion}
use Rattle.page_face.specs.FreeList.{PageMap}
use Rattle.page_face.specs.declared.fault.Damage.{Damage}
use Rattle.page_face.specs.declared.fault.Rule.TheVariants.{Row}
use Rattle.page_store.specs.declared.superblock.Superblock.{Superblock}
use Rattle.spatial_base.specs.Key.{Name}
use Rattle.row_codec.specs.declared.stored.Stored.{Stored}
use Rattle.row_codec.specs.Stored.{held_pairs}
use Rattle.rtree_nodes.specs.Pages.{level_in, node_of}
use Rattle.rtree_nodes.specs.Slots.{Item, NodeMap, Held, got}
use Rattle.rtree_nodes.specs.Trees.{IsItem, IsNode, node_uses as uses_at, root_least, uses}
use Rattle.rtree_nodes.specs.Whole as plain
use Rattle.btree_nodes.proofs.Supplies.{one_at-same}
use Rattle.rtree_nodes.proofs.Amounts.{amount-at}
use Rattle.rtree_nodes.proofs.Heights.{root-some}
use Rattle.rtree_nodes.proofs.Sums.{top-same}
use Rattle.node_rows.specs.Impacts.{impact_in, top_at}
use Rattle.node_rows.specs.Rows.{Bytes, bytes_in}
use Rattle.tree_check.specs.Nodes.{chained, listed, node_pages, pages_below, tree_pages}
use Rattle.store_tables.specs.Coded.{IsPlaceEntry}
use Rattle.store_tables.specs.Entries.{Entries}
use Rattle.store_tables.specs.Holding.{Holds}
use Rattle.store_model.specs.Stands.{tables_in}
use Rattle.tree_check.specs.Agreement.{AreRight, HasWrongBytes, IsEntry, IsEntryAt, IsFirstWrong, IsRight}
use Rattle.tree_check.proofs.Joined.{all-chained, all-parts}
use Rattle.store_verify.specs.Breaks.{AreWrongBytes, IsBroken, SomeNode, SomeNodeOf, damage_at, greatest_impact}
use Rattle.store_verify.specs.Tree.{plain_nodes, word_impact}
use Rattle.store_verify.proofs.LeafEntries.{found-impact}
use Rattle.store_verify.proofs.Nodes.{node-level}

-- lists of the same first number and the same rest
same-lists : (x y : ℕ) (xs ys : List ℕ) → x ≡ y → xs ≡ ys → x ∷ xs ≡ y ∷ ys
same-lists x y xs ys first rest = cc

module _ (pages : PageMap) (rows : ℕ) (places : List (Name × Stored)) (formed : All IsPlaceEntry places) where
  abbrev b : Bytes
  b = bytes_in pages rows

  abbrev p : NodeMap
  p = plain_nodes pages

  abbrev AllRight : List ℕ → Type 0
  AllRight list = AllByRecursion (AreRight pages rows places) list

  -- the byte at a slot is the greatest impact below it
  abbrev IsByte : ℕ → ℕ → ℕ → ℕ → Option Item → Type 0
  IsByte word level page i o = b page word i ≡ got (greatest_impact p (word_impact places word) level) o

  -- the greatest byte of a child is the greatest impact below it
  abbrev IsTop : ℕ → ℕ → Item → Type 0
  IsTop word zero x = Unit {0}
  IsTop word (suc level) x = top_at b x.to word ≡ greatest_impact p (word_impact places word) (suc level) x

  -- an entry's impact is that of its place
  entry-impact : (word : ℕ) (x : Item) (e : IsEntry places x) → word_impact places word x.key ≡ impact_in (held_pairs e.stored) word
  entry-impact word x e = ap (λ (y : Item). word_impact places word y.key) e.is ∙ found-impact word e.key e.stored places e.name formed e.held

  slot-byte : (word level page i : ℕ) → ((x : Item) → IsItem p level x → AllRight (pages_below p level x) → IsTop word level x) → (o : Option Item) → Held (λ y. IsItem p level y) o
      → AllRight (listed (λ y. pages_below p level y) o) → IsRight b places level (λ w. b page w i) o → IsByte word level page i o
  slot-byte word level page i each None held all right = right word
  slot-byte word zero page i each (Some x) held all right = right.words word ∙ sym (entry-impact word x right.entry)
  slot-byte word (suc level) page i each (Some x) held all right = right word ∙ each x held all

  node-byte : (word level least page : ℕ) → 0 < least → IsNode (λ y. IsItem p level y) least level (p page) → AllRight (node_pages p level page)
      → ((x : Item) → IsItem p level x → AllRight (pages_below p level x) → IsTop word level x) → (i : ℕ) → i < 32 → IsByte word level page i ((p page).slots i)
  node-byte word level least page some node all each i inside =
      let f : ℕ → List ℕ = λ k. listed (λ y. pages_below p level y) ((p page).slots k) in
      let parts = all-parts (AreRight pages rows places) (chained 32 f) (page ∷ []) all in
      let at : level_in (pages page) ≡ level = node-level (pages page) level least p some node in
      slot-byte word level page i each ((p page).slots i) (node.items i inside) (all-chained (AreRight pages rows places) 32 f parts.0 i inside)
      (subst (λ (k : ℕ). IsRight b places k (λ w. b page w i) ((p page).slots i)) at (parts.1.0 i inside))

  child-top : (word level : ℕ) (x : Item) → ((k : ℕ) → k < 32 → IsByte word level x.to k ((p x.to).slots k)) → IsTop word (suc level) x
  unfolding top_at
  child-top word level x bytes = top-same 32 (λ k. b x.to word k) (λ k. got (greatest_impact p (word_impact places word) level) ((p x.to).slots k)) bytes

  -- so it is where all rows below are right
  item-top : (word level : ℕ) (x : Item) → IsItem p level x → AllRight (pages_below p level x) → IsTop word level x
  item-top word zero x item all = tt
  item-top word (suc level) x item all = child-top word level x (node-byte word level 12 x.to (omega arith) item.0 all (λ y own right. item-top word level y own right))

  -- a slot with the greatest impacts is right, if its item in a leaf is a place's entry
  slot-right : (level page i : ℕ) (o : Option Item) → Held (λ y. IsItem p level y) o → AllRight (listed (λ y. pages_below p level y) o) → IsEntryAt places level o
      → ((word : ℕ) → IsByte word level page i o) → IsRight b places level (λ w. b page w i) o
  slot-right level page i None held all entry bytes = bytes
  slot-right zero page i (Some x) held all entry bytes = record { entry = entry; words = λ w. bytes w ∙ entry-impact w x entry }
  slot-right (suc level) page i (Some x) held all entry bytes = λ w. bytes w ∙ sym (item-top w (suc level) x held all)

  module _ (q : ℕ) where
    -- the page is in the list, and the rows of all before it are right
    abbrev IsFirst : List ℕ → Type 0
    IsFirst list = (front : List ℕ) × (back : List ℕ) × (list ≡ front ++ (q ∷ back)) × AllRight front

    first-none : (front back : List ℕ) → [] ≡ front ++ (q ∷ back) → ⊥
    first-none [] back e = cc
    first-none (f ∷ front) back e = cc

    first-part : (xs ys front back : List ℕ) → xs ++ ys ≡ front ++ (q ∷ back) → AllRight front → IsFirst xs ⊎ (AllRight xs × IsFirst ys)
    first-part [] ys front back e right = inr (tt, (front, back, e, right))
    first-part (x ∷ xs) ys [] back e right = let same : x ≡ q = cc in inl ([], xs, ap (λ (n : ℕ). n ∷ xs) same, tt)
    first-part (x ∷ xs) ys (f ∷ front) back e right =
        let same : x ≡ f = cc in
        let rest : xs ++ ys ≡ front ++ (q ∷ back) = cc in
        ⊎_elim
        (λ here. inl (f ∷ here.0, here.1, same-lists x f xs (here.0 ++ (q ∷ here.1)) same here.2, (right.0, here.3)))
        (λ there. inr ((subst (AreRight pages rows places) (sym same) right.0, there.0), there.1))
        (first-part xs ys front back rest right.1)

    first-chained : (n : ℕ) (f : ℕ → List ℕ) → IsFirst (chained n f) → (i : ℕ) × (i < n) × IsFirst (f i)
    unfolding chained
    first-chained zero f first = absurd (first-none first.0 first.1 first.2)
    first-chained (suc n) f first = ⊎_elim
        (λ here. let r = first-chained n f here in (r.0, omega arith, r.2))
        (λ there. (n, omega arith, there.1))
        (first-part (chained n f) (f n) first.0 first.1 first.2 first.3)

    first-one : (page : ℕ) (front back : List ℕ) → page ∷ [] ≡ front ++ (q ∷ back) → page ≡ q
    first-one page [] back e = cc
    first-one page (f ∷ front) back e = let rest : [] ≡ front ++ (q ∷ back) = cc in absurd (first-none front back rest)

    -- an item of a slot, with a list that isn't empty
    first-listed : (f : Item → List ℕ) (o : Option Item) → IsFirst (listed f o) → (x : Item) × (o ≡ Some x) × IsFirst (f x)
    first-listed f None first = absurd (first-none first.0 first.1 first.2)
    first-listed f (Some x) first = (x, refl, first)

    -- a node or the tree whose list has the page uses it
    some-used : (level page : ℕ) → IsFirst (node_pages p level page) → 0 < uses_at p level page q
    some-used zero page first = ⊎_elim
        (λ before.
        let f : ℕ → List ℕ = λ k. listed (λ y. pages_below p zero y) ((p page).slots k) in
        let slot = first-chained 32 f before in
        let item = first-listed (λ y. pages_below p zero y) ((p page).slots slot.0) slot.2 in
        absurd (first-none item.2.0 item.2.1 item.2.2))
        (λ last. subst (λ (n : ℕ). 0 < uses_at p zero n q) (sym (first-one page last.1.0 last.1.1 last.1.2)) (let one = one_at-same q in omega arith))
        (first-part (chained 32 (λ i. listed (λ y. pages_below p zero y) ((p page).slots i))) (page ∷ []) first.0 first.1 first.2 first.3)
    some-used (suc level) page first = ⊎_elim
        (λ before.
        let f : ℕ → List ℕ = λ k. listed (λ y. pages_below p (suc level) y) ((p page).slots k) in
        let slot = first-chained 32 f before in
        let item = first-listed (λ y. pages_below p (suc level) y) ((p page).slots slot.0) slot.2 in
        let below = some-used level item.0.to item.2 in
        let all = amount-at (λ y. uses p (suc level) y q) (p page).slots slot.0 slot.1 in
        let own : got (λ y. uses p (suc level) y q) ((p page).slots slot.0) ≡ uses_at p level item.0.to q = ap (got (λ y. uses p (suc level) y q)) item.1 in
        omega arith)
        (λ last. subst (λ (n : ℕ). 0 < uses_at p (suc level) n q) (sym (first-one page last.1.0 last.1.1 last.1.2)) (let one = one_at-same q in omega arith))
        (first-part (chained 32 (λ i. listed (λ y. pages_below p (suc level) y) ((p page).slots i))) (page ∷ []) first.0 first.1 first.2 first.3)

    pub root-used : (root : ℕ) → IsFirst (tree_pages pages root) → 0 < plain.tree_uses node_of pages root q
    root-used zero first = absurd (first-none first.0 first.1 first.2)
    root-used (suc n) first = some-used (node_of (pages (suc n))).level (suc n) first

    module _ (at : ℕ) (within : at < 32) (damage : Damage) (wrong : HasWrongBytes pages rows places q (pages q) at damage) where
      -- a node at the page has wrong bytes, if all rows below it are right
      node-wrong : (level least page : ℕ) → 0 < least → IsNode (λ y. IsItem p level y) least level (p page)
          → AllRight (chained 32 (λ i. listed (λ y. pages_below p level y) ((p page).slots i))) → page ≡ q → AreWrongBytes pages rows places level page
      node-wrong level least page some node all is bytes =
          let f : ℕ → List ℕ = λ k. listed (λ y. pages_below p level y) ((p page).slots k) in
          let own : HasWrongBytes pages rows places page (pages page) at damage = subst (λ (n : ℕ). HasWrongBytes pages rows places n (pages n) at damage) (sym is) wrong in
          let up : level_in (pages page) ≡ level = node-level (pages page) level least p some node in
          own.wrong (subst (λ (k : ℕ). IsRight b places k (λ w. b page w at) ((p page).slots at)) (sym up)
          (slot-right level page at ((p page).slots at) (node.items at within) (all-chained (AreRight pages rows places) 32 f all at within)
          (subst (λ (k : ℕ). IsEntryAt places k ((p page).slots at)) up own.entry) (λ word. bytes word at within)))

      -- some node of the pages is so
      abbrev IsWrongHere : ℕ → ℕ → ℕ → Type 0
      IsWrongHere least level n = (n ≡ q) × AreWrongBytes pages rows places level n

      some-wrong : (level least page : ℕ) → 0 < least → IsNode (λ y. IsItem p level y) least level (p page) → IsFirst (node_pages p level page) → SomeNode IsWrongHere p least level page
      some-wrong zero least page some node first = ⊎_elim
          (λ before.
          let f : ℕ → List ℕ = λ k. listed (λ y. pages_below p zero y) ((p page).slots k) in
          let slot = first-chained 32 f before in
          let item = first-listed (λ y. pages_below p zero y) ((p page).slots slot.0) slot.2 in
          absurd (first-none item.2.0 item.2.1 item.2.2))
          (λ last. let is = first-one page last.1.0 last.1.1 last.1.2 in (is, node-wrong zero least page some node last.0 is))
          (first-part (chained 32 (λ i. listed (λ y. pages_below p zero y) ((p page).slots i))) (page ∷ []) first.0 first.1 first.2 first.3)
      some-wrong (suc level) least page some node first = ⊎_elim
          (λ before.
          let f : ℕ → List ℕ = λ k. listed (λ y. pages_below p (suc level) y) ((p page).slots k) in
          let slot = first-chained 32 f before in
          let item = first-listed (λ y. pages_below p (suc level) y) ((p page).slots slot.0) slot.2 in
          let held : IsItem p (suc level) item.0 = subst (λ (o : Option Item). Held (λ y. IsItem p (suc level) y) o) item.1 (node.items slot.0 slot.1) in
          inr (record { at = slot.0; within = slot.1; item = item.0; is = item.1; holds = some-wrong level 12 item.0.to (omega arith) held.0 item.2 }))
          (λ last. let is = first-one page last.1.0 last.1.1 last.1.2 in inl (is, node-wrong (suc level) least page some node last.0 is))
          (first-part (chained 32 (λ i. listed (λ y. pages_below p (suc level) y) ((p page).slots i))) (page ∷ []) first.0 first.1 first.2 first.3)

      root-wrong : (root : ℕ) → plain.IsWell node_of pages root → IsFirst (tree_pages pages root) → SomeNodeOf IsWrongHere pages root
      root-wrong zero well first = absurd (first-none first.0 first.1 first.2)
      root-wrong (suc n) well first =
          let level : ℕ = (node_of (pages (suc n))).level in
          let is : level_in (pages (suc n)) ≡ level = node-level (pages (suc n)) level (root_least level) p (root-some level) well in
          subst (λ (l : ℕ). SomeNode IsWrongHere p (root_least l) l (suc n)) (sym is) (some-wrong level (root_least level) (suc n) (root-some level) well first)

-- the first node of a well-formed tree that has wrong bytes breaks Row
pub bytes-named : (block : Superblock) (pages : PageMap) (entries : Entries) (damage : Damage) → Holds pages (tables_in block.head) entries → plain.IsWell node_of pages block.head.tree
    → (first : IsFirstWrong pages block.head.rows entries.places (tree_pages pages block.head.tree) damage)
    → HasWrongBytes pages block.head.rows entries.places first.page (pages first.page) first.wrong.at damage → IsBroken block pages damage
bytes-named block pages entries damage holds well first wrong = subst (IsBroken block pages) (sym wrong.named) broken
  where
    broken : IsBroken block pages (damage_at Row first.page)
    broken = inl (record {
      entries = entries;
      holds = holds;
      node = root-wrong pages block.head.rows entries.places holds.places.each first.page first.wrong.at first.wrong.within damage wrong block.head.tree well (first.front, first.back, first.is, first.right);
    })
