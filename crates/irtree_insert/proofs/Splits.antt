-- Full nodes that were split, with their words.
use Rattle.std.proofs.Common.{◌≡◌, ℕ, ◌+◌, Bool, true, false, Some, List, arith, refl, sym, ◌∙◌, subst, if◌then◌else◌}
use Rattle.page_face.specs.FreeList.{PageMap}
use Rattle.btree_nodes.specs.Supply.{one_at}
use Rattle.btree_nodes.proofs.Supplies.{one_at-same}
use Rattle.rtree_nodes.specs.Slots.{Item, Slots, tops, IsFull, IsPart}
use Rattle.rtree_nodes.specs.Stock.{View, view, spare_in}
use Rattle.rtree_nodes.specs.Pages.{node_of, slots_in}
use Rattle.split_policy.specs.Masks.{IsMask}
use Rattle.node_rows.specs.Rows.{bytes_in}
use Rattle.node_rows.specs.Turns.{moved}
use Rattle.node_rows.specs.Impacts.{raised}
use Rattle.irtree_shape.specs.Words.{joined, worded, words_on}
use Rattle.irtree_shape.specs.Stock.{IsSupplied}
use Rattle.irtree_shape.specs.Made.{nodes_in, IsReady, Makes}
use Rattle.irtree_shape.specs.Steps.{Steps, IsPaired, bounding_child}
use Rattle.irtree_shape.proofs.Words.{words-full}
use Rattle.irtree_shape.proofs.Adding.{moved_made, kept_made}
use Rattle.irtree_insert.specs.Parts.{AreParted, IsParted}
use Rattle.irtree_insert.proofs.Halves.{halves-moved, halves-kept}

-- the same pages, before and after a read
pub read-same : (a b : PageMap) (c d e f rows : ℕ) (free : List ℕ) → a ≡ b → c ≡ d → e ≡ f → view a rows c e free ≡ view b rows d f free
read-same a b c d e f rows free p q r = rw (p, q, r)

-- neither of two pages, of which one was taken, is spare
pub pair-unspared : {before : View} {pages : PageMap} {rows count first : ℕ} (page right : ℕ) {front back : List ℕ} → IsSupplied before → spare_in before page ≡ 0 → (pair : IsPaired before pages rows count first page right front back)
    → (spare_in (view pages rows count first pair.free) page ≡ 0) × (spare_in (view pages rows count first pair.free) right ≡ 0)
pair-unspared page right supplied unused pair =
    let p = pair.moves.kept page in
    let r = pair.moves.kept right in
    let o = supplied.rows.kept.once right in
    let p_one = one_at-same page in
    let r_one = one_at-same right in
    (omega arith, omega arith)

module _ (mask moves at : ℕ) (goes : Bool) (s : Slots) (x : Item) (a b : Slots) (full : IsFull s) (is : IsMask mask) (parted : IsParted mask moves goes at s x a b) where
  -- the items of the node, and the new one, are in two nodes
  pub parted-part : IsPart s x a b
  parted-part = elim goes as (λ g. goes ≡ g → AreParted g moves at s x a b → IsPart s x a b) [
    | true ↦ λ e are. subst (λ (u : Slots). IsPart s x u b) (sym are.0) (halves-moved mask moves parted.same is s full b x (parted.goes ∙ e) (record { at = at; free = are.1.free; is = are.1.is }))
    | false ↦ λ e are. subst (λ (u : Slots). IsPart s x a u) (sym are.1) (halves-kept mask moves parted.same is s full a x (parted.goes ∙ e) (record { at = at; free = are.0.free; is = are.0.is }))
  ] refl parted.are

-- A full node was parted by a mask, both nodes were written, the rows of the slots that move were moved, and the new item's words were put into the rows of its node.
module _ (before : View) (least level page at_level : ℕ) (s : Slots) (x : Item) (f : ℕ → ℕ)
    (ready : IsReady node_of before least level page (joined (record { level = at_level; slots = s }) (bytes_in before.pages before.rows page)) (Some (worded f x)))
    (mid new : PageMap) (rows c0 f0 count first right mask moves at : ℕ) (front back : List ℕ) (goes : Bool) (pair : IsPaired before mid before.rows c0 f0 page right front back)
    (part : Steps (view mid before.rows c0 f0 pair.free) new rows count first (λ n. one_at page n + one_at right n) (λ n. one_at page n + one_at right n)
    (raised (if goes then right else page) at f (moved page moves right (bytes_in mid before.rows))) mid)
    (front_level : (node_of front).level ≡ at_level) (back_level : (node_of back).level ≡ at_level)
    (full : IsFull s) (is : IsMask mask) (parted : IsParted mask moves goes at s x (slots_in front) (slots_in back)) where
  pub split-made : (z : Item) → z.to ≡ right → ((e : ℕ) → z.reach e ≡ tops e (slots_in back)) → (told : ℕ → ℕ) → ((d : ℕ) → told d ≡ tops d (slots_in front)) → (rise : ℕ → Type 0) → rise 1
      → Makes node_of before new rows count first least level page (words_on (bytes_in before.pages before.rows page) s) (Some (worded f x)) (Some (bounding_child (nodes_in node_of new rows) z)) told rise
  split-made z to reach told readable rise risen =
      let b : ℕ → ℕ → ℕ = bytes_in before.pages before.rows page in
      let all = words-full (bytes_in before.pages before.rows page) s full in
      elim goes as (λ g. goes ≡ g → AreParted g moves at s x (slots_in front) (slots_in back)
      → Makes node_of before new rows count first least level page (words_on (bytes_in before.pages before.rows page) s) (Some (worded f x)) (Some (bounding_child (nodes_in node_of new rows) z)) told rise) [
        | true ↦ λ e are. moved_made node_of before least level page at_level s x f ready mid new rows c0 f0 count first right moves at front back goes pair part front_level back_level
            e are.0 are.1.free are.1.is (λ t put. halves-moved mask moves parted.same is (words_on b s) all t (worded f x) (parted.goes ∙ e) put) z to reach told readable rise risen
        | false ↦ λ e are. kept_made node_of before least level page at_level s x f ready mid new rows c0 f0 count first right moves at front back goes pair part front_level back_level
            e are.0.free are.0.is are.1 (λ t put. halves-kept mask moves parted.same is (words_on b s) all t (worded f x) (parted.goes ∙ e) put) z to reach told readable rise risen
      ] refl parted.are
