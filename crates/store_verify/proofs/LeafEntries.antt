-- The entries of a tree's leaves: by themselves, and joined with the words of their rows.
use Rattle.std.proofs.Common.{◌≡◌, ℕ, zero, suc, ◌+◌, ◌-◌, ◌<◌, ◌≤◌, ◌==◌, nat_lt, if◌then◌else◌, ⊎_elim, Option, Some, None, option_map, List, [], ◌∷◌, Bool, true, false, refl, sym, ap, subst, ◌∙◌, arith}
use Rattle.std.proofs.Math.Path.{fun_ext}
use Rattle.std.specs.List.{All, AllByRecursion, sum_by}
use Rattle.std.specs.List.Sorted.{IsStrictlySortedBy}
use Rattle.std.specs.Map.{keys_of}
use Rattle.std.specs.BTreeMap.{is_at}
use Rattle.std.specs.Ordering.{is_eq, ordering_reverse}
use Rattle.std.proofs.lemmas.Bool.{true≢false}
use Rattle.std.specs.Str.{bytes_eq}
use Rattle.std.specs.declared.cmp.Ordering.{Ordering}
use Rattle.std.specs.declared.cmp.Ordering.TheVariants.{Less, Equal, Greater}
use Rattle.std.proofs.lemmas.Bool.Decides.{nat_tests}
use Rattle.std.proofs.lemmas.List.Elements.{All-head, All-tail}
use Rattle.std.proofs.lemmas.List.Sums.{sum_by-cons}
use Rattle.std.proofs.lemmas.Slice.Eq.{bytes_eq-Decides}
use Rattle.page_face.specs.FreeList.{PageMap}
use Rattle.spatial_base.specs.Key.{Name, IsName, form_of, key_cmp, key_cmp_same, key_cmp_total}
use Rattle.spatial_base.specs.Rect.{rect_of}
use Rattle.row_codec.specs.declared.stored.Stored.{Stored}
use Rattle.row_codec.specs.Stored.{held_pairs}
use Rattle.btree_nodes.proofs.Supplies.{one_at-same}
use Rattle.rtree_nodes.specs.Pages.{node_of}
use Rattle.rtree_nodes.specs.Reach.{place_item}
use Rattle.rtree_nodes.specs.Slots.{Item, NodeMap, Held, got}
use Rattle.rtree_nodes.specs.Trees.{IsItem, IsNode, below, node_below, node_uses as uses_at, reach_of, uses}
use Rattle.rtree_nodes.specs.Whole as plain
use Rattle.rtree_nodes.proofs.Amounts.{amount-at, amount-same}
use Rattle.node_rows.specs.Impacts.{impact_in}
use Rattle.node_rows.specs.Rows.{Bytes, bytes_in}
use Rattle.irtree_shape.specs.Entries.{entry_at}
use Rattle.irtree_shape.specs.Made.{nodes_in}
use Rattle.irtree_shape.specs.Whole.{tree_sum}
use Rattle.irtree_shape.specs.Words.{joined_item, worded, words_on}
use Rattle.irtree_shape.proofs.Relinks.{less_or, word-reach, worded-reach}
use Rattle.store_tables.specs.Coded.{IsPlaceEntry}
use Rattle.store_tables.specs.Entries.{place_of_key}
use Rattle.store_tables.proofs.KeyLemmas.{form-same}
use Rattle.store_model.specs.Stands.{entry_sum}
use Rattle.store_verify.specs.Tree.{AreImpacts, plain_nodes, word_impact}
use Rattle.store_verify.specs.Whole.{place_sum}
use Rattle.store_verify.proofs.Joins.{amount-some, far-bounds, got-some, one-cases, slot-far, used-within}

-- ---- the place of a key's bytes

pub self_tie : (o : Ordering) → o ≡ ordering_reverse o → o ≡ Equal
self_tie Less e = absurd (cc)
self_tie Equal e = refl
self_tie Greater e = absurd (cc)

-- a key below another is another
pub less-apart : (a b : Name) → key_cmp a b ≡ Less → a ≡ b → ⊥
less-apart a b less same = let tie : key_cmp a b ≡ Equal = ap (key_cmp a) (sym same) ∙ self_tie (key_cmp a a) (key_cmp_total.antisymm a a) in absurd (cc)

-- the impact of a word in the place of this key
own_impact : (e : Name × Stored) (places : List (Name × Stored)) (word : ℕ) (bytes : List ℕ) → form_of e.0 ≡ bytes → word_impact (e ∷ places) word bytes ≡ impact_in (held_pairs e.1) word
own_impact e places word bytes same = ap (λ (t : Bool). if t then impact_in (held_pairs e.1) word else word_impact places word bytes) ((bytes_eq-Decides (form_of e.0) bytes).1 same)

-- and in that of another key
other_impact : (e : Name × Stored) (places : List (Name × Stored)) (word : ℕ) (bytes : List ℕ) → (form_of e.0 ≡ bytes → ⊥) → word_impact (e ∷ places) word bytes ≡ word_impact places word bytes
other_impact e places word bytes apart = by (bytes_eq (form_of e.0) bytes) refl
  where
    by : (t : Bool) → bytes_eq (form_of e.0) bytes ≡ t → (if t then impact_in (held_pairs e.1) word else word_impact places word bytes) ≡ word_impact places word bytes
    by true same = absurd (apart ((bytes_eq-Decides (form_of e.0) bytes).0 same))
    by false other = refl

module _ (word : ℕ) where
  -- each of some places finds its own impact among all
  abbrev pub Finds : List (Name × Stored) → List (Name × Stored) → Type 0
  Finds all [] = Unit {0}
  Finds all (e ∷ some) = (word_impact all word (form_of e.0) ≡ impact_in (held_pairs e.1) word) × Finds all some

  -- also with a place of a lower key before them
  finds-more : (e : Name × Stored) (all some : List (Name × Stored)) → IsName e.0 → All IsPlaceEntry some → AllByRecursion (λ y. key_cmp e.0 y ≡ Less) (keys_of some) → Finds all some → Finds (e ∷ all) some
  finds-more e all [] named each less finds = tt
  finds-more e all (f ∷ some) named each less finds = (
    other_impact e all word (form_of f.0) (λ same. less-apart e.0 f.0 less.0 (form-same e.0 f.0 named (All-head IsPlaceEntry f some each).0 same)) ∙ finds.0,
    finds-more e all some named (All-tail IsPlaceEntry f some each) less.1 finds.1,
  )

  -- places in the order of their keys find their own
  pub finds-own : (places : List (Name × Stored)) → All IsPlaceEntry places → IsStrictlySortedBy key_cmp (keys_of places) → Finds places places
  unfolding IsStrictlySortedBy
  finds-own [] each sorted = tt
  finds-own (e ∷ places) each sorted = (
    own_impact e places word (form_of e.0) refl,
    finds-more e places places (All-head IsPlaceEntry e places each).0 (All-tail IsPlaceEntry e places each) sorted.0 (finds-own places (All-tail IsPlaceEntry e places each) sorted.1),
  )

pub tie_from : (o : Ordering) → is_eq o ≡ true → o ≡ Equal
tie_from Less e = absurd (cc)
tie_from Equal e = refl
tie_from Greater e = absurd (cc)

-- the impacts of a place that is found at its key
pub found-impact : (word : ℕ) (key : Name) (stored : Stored) (places : List (Name × Stored)) → IsName key → All IsPlaceEntry places → place_of_key key places ≡ Some stored
    → word_impact places word (form_of key) ≡ impact_in (held_pairs stored) word
found-impact word key stored [] named each found = absurd (cc)
found-impact word key stored (e ∷ places) named each found = by (is_at (key_cmp key) e.0) refl found (λ is. found-impact word key stored places named (All-tail IsPlaceEntry e places each) is)
  where
    by : (t : Bool) → is_at (key_cmp key) e.0 ≡ t → (if t then Some e.1 else place_of_key key places) ≡ Some stored → (place_of_key key places ≡ Some stored → word_impact places word (form_of key) ≡ impact_in (held_pairs stored) word)
        → word_impact (e ∷ places) word (form_of key) ≡ impact_in (held_pairs stored) word
    by true here is rest =
        let same : key ≡ e.0 = key_cmp_same key e.0 (tie_from (key_cmp key e.0) here) in
        let own : e.1 ≡ stored = cc in
        own_impact e places word (form_of key) (ap form_of (sym same)) ∙ ap (λ (s : Stored). impact_in (held_pairs s) word) own
    by false apart is rest =
        other_impact e places word (form_of key) (λ same.
        (let other : e.0 ≡ key = form-same e.0 key (All-head IsPlaceEntry e places each).0 named same in
        let tied : is_at (key_cmp key) e.0 ≡ true = ap is_eq (ap (key_cmp key) other ∙ self_tie (key_cmp key key) (key_cmp_total.antisymm key key)) in
        absurd (true≢false (sym tied ∙ apart))))
        ∙ rest is

-- ---- sums over leaves

module _ (pages : PageMap) (rows : ℕ) where
  abbrev b : Bytes
  b = bytes_in pages rows

  abbrev p : NodeMap
  p = plain_nodes pages

  abbrev j : NodeMap
  j = nodes_in node_of pages rows

  -- this holds of the items of each leaf that is used below a node
  abbrev AtLeaves : (ℕ → ℕ → Item → Type 0) → ℕ → ℕ → Type 0
  AtLeaves P level page = (n : ℕ) → 0 < uses_at p level page n → (p n).level ≡ 0 → (i : ℕ) (x : Item) → (p n).slots i ≡ Some x → P n i x

  -- of a child's leaves, if it does of a node's
  pub deeper : (P : ℕ → ℕ → Item → Type 0) (level page at : ℕ) (x : Item) → at < 32 → (p page).slots at ≡ Some x → AtLeaves P (suc level) page → AtLeaves P level x.to
  deeper P level page at x inside is leaves n some = leaves n (
      let all = amount-at (λ y. uses p (suc level) y n) (p page).slots at inside in
      let own : got (λ y. uses p (suc level) y n) ((p page).slots at) ≡ uses_at p level x.to n = ap (got (λ y. uses p (suc level) y n)) is in
      omega arith)

  module _ (F G : Item → ℕ) where
    leaf-same : (page i : ℕ) (o : Option Item) → ((x : Item) → o ≡ Some x → F (joined_item (b page) i x) ≡ G x)
        → got (λ y. below j F 0 y) (option_map (joined_item (b page) i) o) ≡ got (λ y. below p G 0 y) o
    leaf-same page i None same = refl
    leaf-same page i (Some x) same = same x refl

    child-same : (level page i : ℕ) (o : Option Item) → ((x : Item) → o ≡ Some x → Held (λ y. IsItem p (suc level) y) (Some x) → node_below j F level x.to ≡ node_below p G level x.to) → Held (λ y. IsItem p (suc level) y) o
        → got (λ y. below j F (suc level) y) (option_map (joined_item (b page) i) o) ≡ got (λ y. below p G (suc level) y) o
    child-same level page i None same held = refl
    child-same level page i (Some x) same held = same x refl held

    -- a sum over the joined items is one over those by themselves, if the two agree at each leaf
    pub sums-same : (level least page : ℕ) → IsNode (λ y. IsItem p level y) least level (p page) → AtLeaves (λ n i x. F (joined_item (b n) i x) ≡ G x) level page → node_below j F level page ≡ node_below p G level page
    sums-same zero least page node leaves =
        amount-same (λ y. below j F 0 y) (λ y. below p G 0 y) (words_on (b page) (p page).slots) (p page).slots
        (λ i inside. leaf-same page i ((p page).slots i) (λ x is. leaves page (let one = one_at-same page in omega arith) node.level_is i x is))
    sums-same (suc level) least page node leaves =
        amount-same (λ y. below j F (suc level) y) (λ y. below p G (suc level) y) (words_on (b page) (p page).slots) (p page).slots
        (λ i inside. child-same level page i ((p page).slots i)
        (λ x is held. sums-same level 12 x.to held.0 (deeper (λ n i x. F (joined_item (b n) i x) ≡ G x) level page i x inside is leaves)) (node.items i inside))

  -- the same by the root
  pub tree-same : (F G : Item → ℕ) (root : ℕ) → plain.IsWell node_of pages root
      → ((n : ℕ) → 0 < plain.tree_uses node_of pages root n → (node_of (pages n)).level ≡ 0 → (i : ℕ) (x : Item) → (node_of (pages n)).slots i ≡ Some x → F (joined_item (b n) i x) ≡ G x)
      → tree_sum j root F ≡ plain.tree_sum node_of pages root G
  tree-same F G zero well leaves = refl
  tree-same F G (suc m) well leaves = sums-same F G (node_of (pages (suc m))).level _ (suc m) well leaves

-- ---- words of leaves

-- 1 for an item whose impact of a word isn't that of its key's place, and else 0
abbrev wrong : List (Name × Stored) → ℕ → Item → ℕ
wrong places word x = if x.reach (4 + word) == word_impact places word x.key then 0 else 1

wrong-none : (places : List (Name × Stored)) (word : ℕ) (x : Item) → x.reach (4 + word) ≡ word_impact places word x.key → wrong places word x ≡ 0
wrong-none places word x same = grind (arith, nat_tests)

wrong-same : (places : List (Name × Stored)) (word : ℕ) (x : Item) → wrong places word x ≡ 0 → x.reach (4 + word) ≡ word_impact places word x.key
wrong-same places word x none = grind (arith, nat_tests)

-- no place's entry is wrong
wrong-sum : (word : ℕ) (all some : List (Name × Stored)) → Finds word all some → entry_sum (wrong all word) some ≡ 0
wrong-sum word all [] finds = refl
wrong-sum word all (e ∷ some) finds =
    let first : wrong all word (entry_at e.0 e.1) ≡ 0 = wrong-none all word (entry_at e.0 e.1) (worded-reach (impact_in (held_pairs e.1)) word (place_item e.1.point (form_of e.0)) ∙ sym finds.0) in
    let rest = wrong-sum word all some finds.1 in
    let both = sum_by-cons (λ (d : Name × Stored). wrong all word (entry_at d.0 d.1)) e some in
    omega (arith, first, rest, both)

module _ (pages : PageMap) (rows : ℕ) (places : List (Name × Stored)) (word : ℕ) where
  leaf-byte : (page i : ℕ) (o : Option Item) (x : Item) → o ≡ Some x → got (λ y. below (j pages rows) (wrong places word) 0 y) (option_map (joined_item (b pages rows page) i) o) ≡ 0
      → b pages rows page word i ≡ word_impact places word x.key
  leaf-byte page i None x is none = absurd (cc)
  leaf-byte page i (Some y) x is none =
      let same : y ≡ x = cc in
      sym (word-reach (b pages rows page) i word y) ∙ wrong-same places word (joined_item (b pages rows page) i y) none ∙ ap (λ (z : Item). word_impact places word z.key) same

  -- where no joined entry is wrong, the bytes of leaves are the impacts
  leaf-bytes : (level least page : ℕ) → IsNode (λ y. IsItem (p pages rows) level y) least level (p pages rows page) → node_below (j pages rows) (wrong places word) level page ≡ 0
      → (n : ℕ) → 0 < uses_at (p pages rows) level page n → (p pages rows n).level ≡ 0 → (i : ℕ) (x : Item) → (p pages rows n).slots i ≡ Some x → b pages rows n word i ≡ word_impact places word x.key
  leaf-bytes zero least page node none n some leaf i x is =
      ⊎_elim
      (λ e. subst (λ (m : ℕ). (p pages rows m).slots i ≡ Some x → b pages rows m word i ≡ word_impact places word x.key) (sym e)
      (λ here. leaf-byte page i ((p pages rows page).slots i) x here (let at = amount-at (λ y. below (j pages rows) (wrong places word) 0 y) (j pages rows page).slots i (used-within (pages page) i x here) in omega arith)) is)
      (λ other.
      let at = amount-some (λ y. uses (p pages rows) 0 y n) (p pages rows page).slots (omega arith) in
      let item = got-some (λ y. uses (p pages rows) 0 y n) ((p pages rows page).slots at.0) at.2 in
      let zero-is = item.2 in
      absurd (omega arith))
      (one-cases page n)
  leaf-bytes (suc level) least page node none n some leaf i x is =
      ⊎_elim
      (λ e. let up : (p pages rows n).level ≡ suc level = ap (λ (k : ℕ). (p pages rows k).level) e ∙ node.level_is in absurd (omega arith))
      (λ other.
      let at = amount-some (λ y. uses (p pages rows) (suc level) y n) (p pages rows page).slots (omega arith) in
      let item = got-some (λ y. uses (p pages rows) (suc level) y n) ((p pages rows page).slots at.0) at.2 in
      let held : IsItem (p pages rows) (suc level) item.0 = subst (λ (q : Option Item). Held (λ y. IsItem (p pages rows) (suc level) y) q) item.1 (node.items at.0 at.1) in
      leaf-bytes level 12 item.0.to held.0
      (let all = amount-at (λ y. below (j pages rows) (wrong places word) (suc level) y) (j pages rows page).slots at.0 at.1 in
      let own : got (λ y. below (j pages rows) (wrong places word) (suc level) y) ((j pages rows page).slots at.0) ≡ node_below (j pages rows) (wrong places word) level item.0.to =
      ap (λ (o : Option Item). got (λ y. below (j pages rows) (wrong places word) (suc level) y) (option_map (joined_item (b pages rows page) at.0) o)) item.1 in
      omega arith)
      n item.2 leaf i x is)
      (one-cases page n)

-- ---- both ways

-- the item by its sides alone
abbrev unworded : Item → Item
unworded x = record x { reach = λ d. if nat_lt d 4 then x.reach d else 0 }

unworded-is : (x : Item) (g : ℕ → ℕ) → ((d : ℕ) → 4 ≤ d → x.reach d ≡ 0) → unworded (worded g x) ≡ x
unworded-is x g far = ap (λ (k : ℕ → ℕ). record x { reach = k }) (fun_ext (λ d. ⊎_elim
    (λ less. let t : nat_lt d 4 ≡ true = grind (arith, nat_tests) in ap (λ (q : Bool). if q then (if q then x.reach d else g (d - 4)) else 0) t)
    (λ more. let t : nat_lt d 4 ≡ false = grind (arith, nat_tests) in ap (λ (q : Bool). if q then (if q then x.reach d else g (d - 4)) else 0) t ∙ sym (far d more)) (less_or d)))

module _ (pages : PageMap) (rows root : ℕ) (places : List (Name × Stored)) (well : plain.IsWell node_of pages root) (each : All IsPlaceEntry places) (sorted : IsStrictlySortedBy key_cmp (keys_of places)) where
  -- with the words of the places, the impacts are the places' own
  worded-sum : (f : Item → ℕ) (some : List (Name × Stored)) → ((word : ℕ) → Finds word places some)
      → place_sum (λ x. f (worded (λ w. word_impact places w x.key) x)) some ≡ entry_sum f some
  worded-sum f [] finds = refl
  worded-sum f (e ∷ some) finds =
      let first : f (worded (λ w. word_impact places w (form_of e.0)) (place_item e.1.point (form_of e.0))) ≡ f (entry_at e.0 e.1) =
      ap (λ (g : ℕ → ℕ). f (worded g (place_item e.1.point (form_of e.0)))) (fun_ext (λ w. (finds w).0)) in
      let rest = worded-sum f some (λ w. (finds w).1) in
      let before = sum_by-cons (λ (d : Name × Stored). f (worded (λ w. word_impact places w (form_of d.0)) (place_item d.1.point (form_of d.0)))) e some in
      let after = sum_by-cons (λ (d : Name × Stored). f (entry_at d.0 d.1)) e some in
      omega (arith, first, rest, before, after)

  -- the entries with their words are the places', if the entries are and the leaves' bytes are the impacts
  pub join-leaves : ((n : ℕ) → 0 < plain.tree_uses node_of pages root n → AreImpacts (bytes_in pages rows) places n (node_of (pages n)))
      → ((f : Item → ℕ) → plain.tree_sum node_of pages root f ≡ place_sum f places) → (f : Item → ℕ) → tree_sum (nodes_in node_of pages rows) root f ≡ entry_sum f places
  join-leaves impacts leaves f =
      tree-same pages rows f (λ x. f (worded (λ w. word_impact places w x.key) x)) root well
      (λ n used leaf i x is. ap (λ (g : ℕ → ℕ). f (worded g x)) (fun_ext (λ w. impacts n used leaf w i x is)))
      ∙ leaves (λ x. f (worded (λ w. word_impact places w x.key) x)) ∙ worded-sum f places (λ word. finds-own word places each sorted)

  module _ (joined : (f : Item → ℕ) → tree_sum (nodes_in node_of pages rows) root f ≡ entry_sum f places) where
    -- the entries are the places
    pub part-leaves : (f : Item → ℕ) → plain.tree_sum node_of pages root f ≡ place_sum f places
    part-leaves f =
        sym (tree-same pages rows (λ x. f (unworded x)) f root well
        (λ n used leaf i x is. ap f (unworded-is x (λ w. bytes_in pages rows n w i) (λ d far. sym (ap (got (reach_of d)) is) ∙ slot-far (pages n) i d far))))
        ∙ joined (λ x. f (unworded x))
        ∙ ap (λ (g : Name × Stored → ℕ). sum_by g places) (fun_ext (λ (e : Name × Stored). ap f (unworded-is (place_item e.1.point (form_of e.0)) (impact_in (held_pairs e.1)) (λ d far. far-bounds (rect_of e.1.point) d far))))

    no-wrong : (word : ℕ) → tree_sum (nodes_in node_of pages rows) root (wrong places word) ≡ 0
    no-wrong word = joined (wrong places word) ∙ wrong-sum word places places (finds-own word places each sorted)

    -- and the leaves' bytes are the impacts
    pub part-impacts : (n : ℕ) → 0 < plain.tree_uses node_of pages root n → AreImpacts (bytes_in pages rows) places n (node_of (pages n))
    part-impacts n used leaf w i x is = go root well (no-wrong w) used
      where
        go : (r : ℕ) → plain.IsWell node_of pages r → tree_sum (nodes_in node_of pages rows) r (wrong places w) ≡ 0 → 0 < plain.tree_uses node_of pages r n → bytes_in pages rows n w i ≡ word_impact places w x.key
        go zero well none used = absurd (omega arith)
        go (suc m) well none used = leaf-bytes pages rows places w (node_of (pages (suc m))).level _ (suc m) well none n used leaf i x is
