-- An entry of a leaf counts in each sum over the tree, so one that is no place's is broken at page 0.
use Rattle.std.proofs.Common.{◌≡◌, ℕ, zero, suc, ◌<◌, ◌≤◌, ⊎_elim, Option, Some, List, refl, ap, subst, ◌∙◌, arith}
use Rattle.page_face.specs.FreeList.{PageMap}
use Rattle.page_face.specs.declared.fault.Rule.TheVariants.{Entry}
use Rattle.page_store.specs.declared.superblock.Superblock.{Superblock}
use Rattle.spatial_base.specs.Point.{Position}
use Rattle.rtree_nodes.specs.Entries.{is_entry}
use Rattle.rtree_nodes.specs.Pages.{node_of}
use Rattle.rtree_nodes.specs.Slots.{Item, NodeMap, Held, got}
use Rattle.rtree_nodes.specs.Trees.{IsItem, IsNode, below, node_below, node_uses as uses_at, uses}
use Rattle.rtree_nodes.specs.Whole as plain
use Rattle.rtree_nodes.proofs.Amounts.{amount-at}
use Rattle.store_tables.specs.Entries.{Entries}
use Rattle.store_tables.specs.Holding.{Holds}
use Rattle.store_model.specs.Stands.{tables_in}
use Rattle.store_verify.specs.Breaks.{IsBroken, damage_at}
use Rattle.store_verify.specs.Tree.{plain_nodes}
use Rattle.store_verify.specs.Whole.{place_sum}
use Rattle.store_verify.proofs.Joins.{amount-some, got-some, one-cases, used-within}

module _ (pages : PageMap) (f : Item → ℕ) where
  abbrev p : NodeMap
  p = plain_nodes pages

  -- an item of a leaf below a node counts in the sum over the node
  pub leaf-counts : (level least page : ℕ) → IsNode (λ y. IsItem p level y) least level (p page) → (n : ℕ) → 0 < uses_at p level page n → (p n).level ≡ 0 → (i : ℕ) (x : Item) → (p n).slots i ≡ Some x
      → f x ≤ node_below p f level page
  leaf-counts zero least page node n some leaf i x is = ⊎_elim
      (λ e.
      let here : (p page).slots i ≡ Some x = subst (λ (m : ℕ). (p m).slots i ≡ Some x) e is in
      let at = amount-at (λ y. below p f 0 y) (p page).slots i (used-within (pages page) i x here) in
      let own : got (λ y. below p f 0 y) ((p page).slots i) ≡ f x = ap (got (λ y. below p f 0 y)) here in
      omega arith)
      (λ other.
      let at = amount-some (λ y. uses p 0 y n) (p page).slots (omega arith) in
      let item = got-some (λ y. uses p 0 y n) ((p page).slots at.0) at.2 in
      let zero-is = item.2 in
      absurd (omega arith))
      (one-cases page n)
  leaf-counts (suc level) least page node n some leaf i x is = ⊎_elim
      (λ e. let up : (p n).level ≡ suc level = ap (λ (k : ℕ). (p k).level) e ∙ node.level_is in absurd (omega arith))
      (λ other.
      let at = amount-some (λ y. uses p (suc level) y n) (p page).slots (omega arith) in
      let item = got-some (λ y. uses p (suc level) y n) ((p page).slots at.0) at.2 in
      let held : IsItem p (suc level) item.0 = subst (λ (q : Option Item). Held (λ y. IsItem p (suc level) y) q) item.1 (node.items at.0 at.1) in
      let below' = leaf-counts level 12 item.0.to held.0 n item.2 leaf i x is in
      let all = amount-at (λ y. below p f (suc level) y) (p page).slots at.0 at.1 in
      let own : got (λ y. below p f (suc level) y) ((p page).slots at.0) ≡ node_below p f level item.0.to = ap (got (λ y. below p f (suc level) y)) item.1 in
      omega arith)
      (one-cases page n)

  -- and in the sum over the tree
  pub tree-counts : (root : ℕ) → plain.IsWell node_of pages root → (n : ℕ) → 0 < plain.tree_uses node_of pages root n → (p n).level ≡ 0 → (i : ℕ) (x : Item) → (p n).slots i ≡ Some x
      → f x ≤ plain.tree_sum node_of pages root f
  tree-counts zero well n some leaf i x is = absurd (omega arith)
  tree-counts (suc m) well n some leaf i x is = leaf-counts (node_of (pages (suc m))).level _ (suc m) well n some leaf i x is

-- an entry of the tree that is in no place is broken at page 0
pub entry-named : (block : Superblock) (pages : PageMap) (entries : Entries) → Holds pages (tables_in block.head) entries → plain.IsWell node_of pages block.head.tree
    → (n : ℕ) → 0 < plain.tree_uses node_of pages block.head.tree n → (node_of (pages n)).level ≡ 0 → (i : ℕ) (x : Item) → (node_of (pages n)).slots i ≡ Some x
    → (point : Position) (bytes : List ℕ) → is_entry point bytes x ≡ 1 → place_sum (is_entry point bytes) entries.places ≡ 0 → IsBroken block pages (damage_at Entry 0)
entry-named block pages entries holds well n used leaf i x is point bytes own none =
    let counts = tree-counts pages (is_entry point bytes) block.head.tree well n used leaf i x is in
    (refl, record { entries = entries; holds = holds; point = point; bytes = bytes; apart = λ same. absurd (omega arith) })
