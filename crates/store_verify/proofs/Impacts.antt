-- The rows of a whole store have the greatest impacts.
use Rattle.std.proofs.Common.{◌≡◌, ℕ, zero, suc, ◌<◌, inl, inr, Option, Some, None, List, refl, ap, subst, ◌∙◌, arith}
use Rattle.page_face.specs.FreeList.{PageMap}
use Rattle.page_store.specs.declared.superblock.Superblock.{Superblock}
use Rattle.spatial_base.specs.Key.{Name}
use Rattle.row_codec.specs.declared.stored.Stored.{Stored}
use Rattle.btree_nodes.proofs.Supplies.{one_at-same}
use Rattle.rtree_nodes.specs.Pages.{level_in, node_of}
use Rattle.rtree_nodes.specs.Slots.{Item, NodeMap, Held, got}
use Rattle.rtree_nodes.specs.Trees.{IsItem, IsNode, node_uses as uses_at, root_least, uses}
use Rattle.rtree_nodes.specs.Whole as plain
use Rattle.rtree_nodes.proofs.Amounts.{amount-at}
use Rattle.rtree_nodes.proofs.Heights.{root-some}
use Rattle.rtree_nodes.proofs.Sums.{top-same}
use Rattle.node_rows.specs.Impacts.{top_at}
use Rattle.node_rows.specs.Rows.{Bytes, bytes_in}
use Rattle.irtree_shape.specs.Made.{IsBlank}
use Rattle.store_verify.specs.Breaks.{AreWrongBytes, SomeNode, SomeNodeOf, greatest_impact}
use Rattle.store_verify.specs.Tree.{AreGreatest, AreImpacts, plain_nodes, word_impact}
use Rattle.store_verify.specs.Whole.{IsWhole}
use Rattle.store_verify.proofs.Nodes.{node-level}

module _ (pages : PageMap) (rows : ℕ) (places : List (Name × Stored)) (blank : (n : ℕ) → IsBlank node_of pages rows n) where
  abbrev b : Bytes
  b = bytes_in pages rows

  abbrev p : NodeMap
  p = plain_nodes pages

  -- the rows are right at each page that is used below a node
  abbrev AreRight : ℕ → ℕ → Type 0
  AreRight level page = (n : ℕ) → 0 < uses_at p level page n → AreImpacts b places n (p n) × AreGreatest b n (p n)

  -- also below a child
  deeper : (level page at : ℕ) (x : Item) → at < 32 → (p page).slots at ≡ Some x → AreRight (suc level) page → AreRight level x.to
  deeper level page at x inside is right n some = right n (
      let all = amount-at (λ y. uses p (suc level) y n) (p page).slots at inside in
      let own : got (λ y. uses p (suc level) y n) ((p page).slots at) ≡ uses_at p level x.to n = ap (got (λ y. uses p (suc level) y n)) is in
      omega arith)

  -- the byte at a slot is the greatest impact below it
  abbrev IsByte : ℕ → ℕ → ℕ → ℕ → Option Item → Type 0
  IsByte word level page i o = b page word i ≡ got (greatest_impact p (word_impact places word) level) o

  leaf-byte : (word page i : ℕ) (o : Option Item) → (p page).slots i ≡ o → ((x : Item) → o ≡ Some x → b page word i ≡ word_impact places word x.key) → IsByte word 0 page i o
  leaf-byte word page i None is impact = blank page word i is
  leaf-byte word page i (Some x) is impact = impact x refl

  -- the greatest byte of a child is the greatest impact below it
  child-top : (word level : ℕ) (x : Item) → ((k : ℕ) → k < 32 → IsByte word level x.to k ((p x.to).slots k)) → top_at b x.to word ≡ greatest_impact p (word_impact places word) (suc level) x
  unfolding top_at
  child-top word level x bytes = top-same 32 (λ k. b x.to word k) (λ k. got (greatest_impact p (word_impact places word) level) ((p x.to).slots k)) bytes

  child-byte : (word level page i : ℕ) → ((x : Item) → (p page).slots i ≡ Some x → b page word i ≡ top_at b x.to word)
      → ((x : Item) → (p page).slots i ≡ Some x → IsItem p (suc level) x → (k : ℕ) → k < 32 → IsByte word level x.to k ((p x.to).slots k))
      → (o : Option Item) → (p page).slots i ≡ o → Held (λ y. IsItem p (suc level) y) o → IsByte word (suc level) page i o
  child-byte word level page i greatest more None is held = blank page word i is
  child-byte word level page i greatest more (Some x) is held = greatest x is ∙ child-top word level x (more x is held)

  pub node-bytes : (word level least page : ℕ) → IsNode (λ y. IsItem p level y) least level (p page) → AreRight level page → (i : ℕ) → i < 32 → IsByte word level page i ((p page).slots i)
  node-bytes word zero least page node right i inside =
      leaf-byte word page i ((p page).slots i) refl (λ x is. (right page (let one = one_at-same page in omega arith)).0 node.level_is word i x is)
  node-bytes word (suc level) least page node right i inside =
      child-byte word level page i (λ x is. (right page (let one = one_at-same page in omega arith)).1 (let inner = node.level_is in omega arith) word i x is)
      (λ x is held k small. node-bytes word level 12 x.to held.0 (deeper level page i x inside is right) k small) ((p page).slots i) refl (node.items i inside)

  -- no node below has a wrong byte
  node-apart : (page level least n : ℕ) → IsNode (λ y. IsItem p level y) least level (p n) → AreRight level n
      → SomeNode (λ least level n. (n ≡ page) × AreWrongBytes pages rows places level n) p least level n → ⊥
  node-apart page zero least n node right there = there.1 (λ word at inside. node-bytes word zero least n node right at inside)
  node-apart page (suc level) least n node right (inl there) = there.1 (λ word at inside. node-bytes word (suc level) least n node right at inside)
  node-apart page (suc level) least n node right (inr child) =
      let held : IsItem p (suc level) child.item = subst (λ (q : Option Item). Held (λ y. IsItem p (suc level) y) q) child.is (node.items child.at child.within) in
      node-apart page level 12 child.item.to held.0 (deeper level n child.at child.item child.within child.is right) child.holds

  pub root-apart : (page root : ℕ) → plain.IsWell node_of pages root → ((n : ℕ) → 0 < plain.tree_uses node_of pages root n → AreImpacts b places n (p n) × AreGreatest b n (p n))
      → SomeNodeOf (λ least level n. (n ≡ page) × AreWrongBytes pages rows places level n) pages root → ⊥
  root-apart page zero well right there = there
  root-apart page (suc m) well right there =
      let level : ℕ = (node_of (pages (suc m))).level in
      let is : level_in (pages (suc m)) ≡ level = node-level (pages (suc m)) level (root_least level) (plain_nodes pages) (root-some level) well in
      node-apart page level (root_least level) (suc m) well right
      (subst (λ (l : ℕ). SomeNode (λ least level n. (n ≡ page) × AreWrongBytes pages rows places level n) p (root_least l) l (suc m)) is there)

-- no row of a whole store has a wrong byte
pub wrong-apart : (block : Superblock) (pages : PageMap) (whole : IsWhole block pages) (page : ℕ)
    → SomeNodeOf (λ least level n. (n ≡ page) × AreWrongBytes pages block.head.rows whole.entries.places level n) pages block.head.tree → ⊥
wrong-apart block pages whole page there =
    root-apart pages block.head.rows whole.entries.places whole.rows.blank page block.head.tree whole.tree (λ n used. (whole.rows.impacts n used, whole.rows.greatest n used)) there
