-- Counted pages whose bytes are told, after a tree and its rows have changed.
use Rattle.std.proofs.Common.{◌≡◌, ℕ, zero, suc, ◌+◌, ◌<◌, inl, inr, arith, sym, ap, ◌∙◌, subst, Option, None, Some, List, length}
use Rattle.page_face.specs.FreeList.{PageMap}
use Rattle.btree_nodes.specs.Damages.{AreReadable}
use Rattle.btree_nodes.specs.Supply.{one_at}
use Rattle.btree_nodes.specs.Tree.{map_uses}
use Rattle.btree_nodes.proofs.Supplies.{counted-none, one_at-is, uncounted-past}
use Rattle.node_rows.specs.Rows.{Bytes, bytes_in}
use Rattle.btree_nodes.proofs.Tolds.{map-told, list-told}
use Rattle.rtree_nodes.specs.Slots.{Item, Slots, got, amount, filled, Held, Each, no_slots}
use Rattle.rtree_nodes.specs.Trees.{uses, IsItem, IsNode, Stands, least_with, node_uses, stand_uses}
use Rattle.rtree_nodes.specs.Stock.{View, rows_form, spare_in}
use Rattle.rtree_nodes.specs.Made.{Reads}
use Rattle.rtree_nodes.proofs.Amounts.{amount-same, amount-none}
use Rattle.rtree_nodes.proofs.Heights.{under_or, none_or}
use Rattle.irtree_shape.specs.Stock.{Moves}
use Rattle.irtree_shape.specs.Steps.{Steps}
use Rattle.irtree_shape.specs.Made.{nodes_in, IsMade}
use Rattle.irtree_shape.proofs.Words.{words-filled}

-- what moved leaves the counted pages told, if what it made is told
pub told-moved : {before after : View} {mine ours : ℕ → ℕ} → Moves before after mine ours → ((n : ℕ) → 0 < n → 0 < ours n → 0 < length (after.pages n)) → AreReadable before.pages before.count → AreReadable after.pages after.count
told-moved {before = before} {after = after} {mine = mine} {ours = ours} moves made told n some few =
    let kept = moves.kept n in
    let counted = counted-none after.count n few in
    elim (none_or (mine n + spare_in before n)) [
      | inl e ↦ elim (under_or n before.count) [
        | inl l ↦ subst (λ (bytes : List ℕ). 0 < length bytes) (sym (moves.others n (omega arith) (omega arith)).page) (told n some l)
        | inr l ↦ let past = uncounted-past before.count n l in absurd (omega arith)
      ]
      | inr s ↦ elim (none_or (ours n)) [
        | inr l ↦ made n some l
        | inl e ↦ elim (none_or (map_uses rows_form after.pages after.rows n)) [
          | inr l ↦ map-told rows_form after.pages after.rows moves.supplied.rows.kept.map n l
          | inl f ↦ list-told after.pages after.count after.first after.free moves.supplied.rows.kept.supplied n (omega arith)
        ]
      ]
    ]

-- a page of the tree whose rows change stays told
pub told-step : {before : View} {pages : PageMap} {rows count first : ℕ} (page : ℕ) {b : Bytes} → Steps before pages rows count first (one_at page) (one_at page) b before.pages → spare_in before page ≡ 0
    → AreReadable before.pages before.count → AreReadable pages count
told-step {before = before} {pages = pages} page steps unused were = told-moved steps.moves
    (λ n away used. elim (under_or n before.count) [
      | inl l ↦ subst (λ (bytes : List ℕ). 0 < length bytes) (sym (steps.holds n used)) (were n away l)
      | inr l ↦ let past = uncounted-past before.count n l in let z : spare_in before n ≡ 0 = ap (spare_in before) (one_at-is page n used) ∙ unused in absurd (omega arith)
    ])
    were

-- a page that holds a node with a slot is told
module _ (reads : Reads) (readable : (page : List ℕ) → 0 < filled (reads page).slots → 0 < length page) (pages : PageMap) (rows : ℕ) (n : ℕ) (silent : length (pages n) ≡ 0) where
  head-none : (page : ℕ) → 0 < filled (nodes_in reads pages rows page).slots → one_at page n ≡ 0
  head-none page some = elim (none_or (one_at page n)) [
    | inl e ↦ e
    | inr l ↦
        let is = one_at-is page n l in
        let a = words-filled (bytes_in pages rows page) (reads (pages page)).slots in
        let t = readable (pages page) (omega arith) in
        let z = ap (λ (k : ℕ). length (pages k)) is in
        absurd (omega arith)
  ]

  module _ (level : ℕ) (each : (y : Item) → IsItem (nodes_in reads pages rows) level y → uses (nodes_in reads pages rows) level y n ≡ 0) where
    held-none : (o : Option Item) → Held (λ y. IsItem (nodes_in reads pages rows) level y) o → got (λ y. uses (nodes_in reads pages rows) level y n) o ≡ 0
    held-none None h = omega arith
    held-none (Some y) h = each y h

    slots-none : (s : Slots) → Each (λ y. IsItem (nodes_in reads pages rows) level y) s → amount (λ y. uses (nodes_in reads pages rows) level y n) s ≡ 0
    slots-none s h = amount-same (λ y. uses (nodes_in reads pages rows) level y n) (λ y. 0) s no_slots (λ i l. held-none (s i) (h i l)) ∙ amount-none (λ y. 0) no_slots (λ i. grind arith)

  -- no item stands at a page that isn't told
  pub item-none : (level : ℕ) (x : Item) → IsItem (nodes_in reads pages rows) level x → uses (nodes_in reads pages rows) level x n ≡ 0
  item-none zero x h = omega arith
  item-none (suc level) x h =
      let a = head-none x.to (let s = h.0.some in omega arith) in
      let b = slots-none level (λ y k. item-none level y k) (nodes_in reads pages rows x.to).slots h.0.items in
      omega arith

  -- no node with a slot does
  pub node-none : (least level page : ℕ) → 0 < least → IsNode (λ y. IsItem (nodes_in reads pages rows) level y) least level (nodes_in reads pages rows page) → node_uses (nodes_in reads pages rows) level page n ≡ 0
  node-none least level page some h =
      let a = head-none page (let s = h.some in omega arith) in
      let b = slots-none level (λ y k. item-none level y k) (nodes_in reads pages rows page).slots h.items in
      omega arith

  least-some : (least : ℕ) (m : Option Item) → 0 < least → 0 < least_with least m
  least-some least None l = l
  least-some least (Some y) l = omega arith

  stand-none : (least level page : ℕ) (more : Option Item) (sums : (Item → ℕ) → ℕ) (reach : ℕ → ℕ) → 0 < least → Stands (nodes_in reads pages rows) least level page more sums reach → stand_uses (nodes_in reads pages rows) level page more n ≡ 0
  stand-none least level page more sums reach some h =
      let a = node-none (least_with least more) level page (least-some least more some) h.node in
      let b = held-none (suc level) (λ y k. item-none (suc level) y k) more h.beside in
      omega arith

-- what was made at a page leaves the counted pages told
pub told-made : (reads : Reads) → ((page : List ℕ) → 0 < filled (reads page).slots → 0 < length page)
    → {before : View} {pages : PageMap} {rows count first least level page : ℕ} {mine : ℕ → ℕ} {more : Option Item} {sums : (Item → ℕ) → ℕ} {counts : (ℕ → ℕ → ℕ) → ℕ} {reach told : ℕ → ℕ} {rise : ℕ → Type 0}
    → 0 < least → IsMade reads before pages rows count first least level page mine more sums counts reach told rise → AreReadable before.pages before.count → AreReadable pages count
told-made reads readable {pages = pages} {rows = rows} {least = least} {level = level} {page = page} {more = more} {sums = sums} {reach = reach} some made were =
    told-moved made.moves
    (λ n away used. elim (none_or (length (pages n))) [
      | inr l ↦ l
      | inl e ↦ let z = stand-none reads readable pages rows n e least level page more sums reach some made.stands in absurd (omega arith)
    ])
    were
