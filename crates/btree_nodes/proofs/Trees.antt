-- Trees of pages.
use Rattle.std.proofs.Common.{◌≡◌, ℕ, zero, suc, ◌<◌, ◌≤◌, inl, inr, List, [], ◌∷◌, length, get_or, drop, arith, sym, ap, ◌∙◌, subst}
use Rattle.page_face.specs.FreeList.{PageMap}
use Rattle.page_face.specs.declared.fault.Damage.{Damage}
use Rattle.page_face.specs.Nodes.{count_of, IsNode}
use Rattle.btree_nodes.specs.declared.form.Form.{Form}
use Rattle.btree_nodes.specs.Rows.{Row, IsWithin, lookup}
use Rattle.btree_nodes.specs.Nodes.{Entry, entries_in, half_of}
use Rattle.btree_nodes.specs.Tree.{next_key, IsTree, IsPlaceFor, rows_at, uses, with_low}
use Rattle.btree_nodes.specs.Bounds.{low_at, high_at, child_of}
use Rattle.btree_nodes.specs.Damages.{SomeChild, IsDamaged}
use Rattle.btree_nodes.proofs.Fans.{no_entry, fan-within, fan-lookup, fan-child, with_low-rows, with_low-child, with_low-key, with_low-from, length-with_low, next_key-drop, drop-with_low}
use Rattle.btree_nodes.proofs.Frames.{total-at}

-- a node with another least count
pub node-fewer : (number kind level width most least : ℕ) (page : List ℕ) → least ≤ count_of page → IsNode number kind level width most page → IsNode number kind level width least page
node-fewer number kind level width most least page h n = record {
  size = n.size;
  kind = n.kind;
  of = n.of;
  level = n.level;
  some = n.some;
  fill = h;
  fits = n.fits;
  plain = n.plain;
  rest = n.rest;
}

-- the rows of a tree keep to its bounds
pub tree-within : (form : Form) (least : ℕ) (pages : PageMap) (level page low high : ℕ) → IsTree form least pages level page low high → IsWithin low high (rows_at form pages level page)
tree-within form least pages zero page low high h = h.1
tree-within form least pages (suc level) page low high h =
    subst (λ (rows : List Row). IsWithin low high rows) (with_low-rows (rows_at form pages level) low (entries_in form (pages page)))
    (fan-within (IsTree form (half_of form level) pages level) (rows_at form pages level) low high (with_low low (entries_in form (pages page)))
    (λ c a b t. tree-within form (half_of form level) pages level c a b t) h.1)

module _ (form : Form) (pages : PageMap) (level page at : ℕ) (within : at < length (entries_in form (pages page))) where
  inside : (low : ℕ) → at < length (with_low low (entries_in form (pages page)))
  inside low = rw (length-with_low low (entries_in form (pages page))) within

  -- the child at a place heads a tree between its bounds
  pub tree-child : (least low high : ℕ) → IsTree form least pages (suc level) page low high
      → IsTree form (half_of form level) pages level (child_of form (pages page) at) (low_at form (pages page) low at) (high_at form (pages page) high at)
  tree-child least low high tree =
      let es : List Entry = entries_in form (pages page) in
      let ws : List Entry = with_low low es in
      let there = fan-child (IsTree form (half_of form level) pages level) low high ws at tree.1 (inside low) in
      subst (λ (c : ℕ). IsTree form (half_of form level) pages level c (low_at form (pages page) low at) (high_at form (pages page) high at)) (with_low-child low es at)
      (subst (λ (xs : List Entry). IsTree form (half_of form level) pages level (get_or ws at no_entry).1 (get_or ws at no_entry).0 (next_key high xs)) (drop-with_low low es at) there)

  -- its pages are those of the tree
  pub child-uses : (n : ℕ) → uses form pages level (child_of form (pages page) at) n ≤ uses form pages (suc level) page n
  child-uses n = let t = total-at (uses form pages level) (entries_in form (pages page)) at within n in omega arith

  some-child : (P : ℕ → ℕ → ℕ → Type 0) (high : ℕ) (es : List Entry) (i : ℕ) → i < length es → P (get_or es i no_entry).1 (get_or es i no_entry).0 (next_key high (drop (suc i) es)) → SomeChild P high es
  some-child P high [] i l p = absurd (omega arith)
  some-child P high (e ∷ es) zero l p = inl p
  some-child P high (e ∷ es) (suc i) l p = inr (some-child P high es i (omega arith) p)

  -- its damage is one of the tree
  pub child-damage : (count : ℕ) (damage : Damage) (least low high : ℕ)
      → IsDamaged form pages count damage (half_of form level) level (child_of form (pages page) at) (low_at form (pages page) low at) (high_at form (pages page) high at)
      → IsDamaged form pages count damage least (suc level) page low high
  child-damage count damage least low high d =
      let es : List Entry = entries_in form (pages page) in
      let ws : List Entry = with_low low es in
      let P : ℕ → ℕ → ℕ → Type 0 = IsDamaged form pages count damage (half_of form level) level in
      let moved : P (get_or ws at no_entry).1 (get_or ws at no_entry).0 (next_key high (drop (suc at) ws)) =
      subst (λ (c : ℕ). P c (low_at form (pages page) low at) (next_key high (drop (suc at) ws))) (sym (with_low-child low es at))
      (subst (λ (xs : List Entry). P (get_or es at no_entry).1 (low_at form (pages page) low at) (next_key high xs)) (sym (drop-with_low low es at)) d) in
      inr (some-child P high ws at (inside low) moved)

-- a key that is within a page's bounds is within those of the child at its place
pub place-from : (form : Form) (page : List ℕ) (low key at : ℕ) → IsPlaceFor (entries_in form page) key at → low ≤ key → low_at form page low at ≤ key
place-from form page low key at place from = with_low-from low key (entries_in form page) at from place.from

pub place-to : (form : Form) (page : List ℕ) (high key at : ℕ) → IsPlaceFor (entries_in form page) key at → key < high → key < high_at form page high at
place-to form page high key at place to = next_key-drop high key (entries_in form page) (suc at) to place.next

-- the row at a key is that of the child at its place
pub place-lookup : (form : Form) (least : ℕ) (pages : PageMap) (level page low high key at : ℕ) → IsTree form least pages (suc level) page low high → low ≤ key → key < high → IsPlaceFor (entries_in form (pages page)) key at
    → lookup key (rows_at form pages (suc level) page) ≡ lookup key (rows_at form pages level (child_of form (pages page) at))
place-lookup form least pages level page low high key at tree from to place =
    let es : List Entry = entries_in form (pages page) in
    let ws : List Entry = with_low low es in
    let here : at < length ws = rw (length-with_low low es) place.within in
    let above : (get_or ws at no_entry).0 ≤ key = with_low-from low key es at from place.from in
    let next : suc at < length ws → key < (get_or ws (suc at) no_entry).0 =
    λ h. rw (with_low-key low es (suc at) (omega arith)) (place.next (rw length-with_low at h)) in
    ap (lookup key) (sym (with_low-rows (rows_at form pages level) low es))
    ∙ fan-lookup (IsTree form (half_of form level) pages level) (rows_at form pages level) low high key ws at (λ c a b t. tree-within form (half_of form level) pages level c a b t) tree.1 here above to next
    ∙ ap (λ (c : ℕ). lookup key (rows_at form pages level c)) (with_low-child low es at)

-- a tree's page has bytes
pub tree-size : (form : Form) (least : ℕ) (pages : PageMap) (level page low high : ℕ) → IsTree form least pages level page low high → 0 < length (pages page)
tree-size form least pages zero page low high h = let s = h.0.size in omega arith
tree-size form least pages (suc level) page low high h = let s = h.0.node.size in omega arith
