-- A page on the way to the item that is taken out, as it was read.
use Rattle.std.proofs.Common.{◌≡◌, ℕ, zero, suc, ◌<◌, ◌≤◌, true, List, Option, Some, None, option_map, arith, refl, ap, sym, ◌∙◌, slice_index, IfSome, inl, inr}
use Rattle.page_face.specs.FreeList.{PageMap}
use Rattle.page_face.specs.Calls.{Changes}
use Rattle.page_face.specs.Causes.{IsUncounted}
use Rattle.page_face.specs.declared.pages.Pages.{Ghosts}
use Rattle.btree_nodes.specs.Supply.{one_at}
use Rattle.btree_nodes.proofs.Supplies.{one_at-same, uncounted-past}
use Rattle.rtree_nodes.specs.Slots.{Item, Slots, NodeMap, Held, filled}
use Rattle.rtree_nodes.specs.Stock.{View, view, spare_in}
use Rattle.rtree_nodes.specs.Loose.{Loose, IsAt, Leads}
use Rattle.rtree_nodes.proofs.Outs.{leads-some, at-same}
use Rattle.rtree_nodes.specs.Pages.{node_of, is_form, slots_in, level_in}
use Rattle.rtree_nodes.specs.Reach.{item_of}
use Rattle.rtree_nodes.specs.declared.content.Slot.{Slot}
use Rattle.rtree_nodes.proofs.Bounding.{some-form}
use Rattle.node_rows.specs.Rows.{bytes_in}
use Rattle.irtree_shape.specs.Words.{joined_item, words_on}
use Rattle.irtree_shape.specs.Stock.{IsSupplied}
use Rattle.irtree_shape.specs.Made.{nodes_in}
use Rattle.irtree_shape.specs.Loose.{IsTaking, IsStanding}
use Rattle.irtree_shape.proofs.Stocks.{supplied-plain}
use Rattle.irtree_shape.proofs.Words.{words-filled}
use Rattle.split_condense.specs.Orphans.{IsChildOf}
use Rattle.irtree_insert.proofs.Loads.{form-level}

-- the item in the slot of a path
pub leads-at : (nodes : NodeMap) (path : List ℕ) (level page : ℕ) (x : Item) → Leads nodes path level page x → (z : Item) × IsAt (nodes page).slots (slice_index path level) z
leads-at nodes path zero page x h = (x, h)
leads-at nodes path (suc level) page x h = (h.0, h.1)

-- an item joined with its words stands in a slot that is used
pub joined-some : (b : ℕ → ℕ → ℕ) (s : Slots) (at : ℕ) (z : Item) → IsAt (words_on b s) at z → (c : Item) × IsAt s at c
joined-some b s at z h = go (s at) refl h.1
  where
    go : (o : Option Item) → s at ≡ o → option_map (joined_item b at) o ≡ Some z → (c : Item) × IsAt s at c
    go None e k = cc
    go (Some c) e k = (c, (h.0, e))

-- the page of a node from which an item is to be taken out is in use
pub taking-unspared : (before : View) (least level page : ℕ) (path : List ℕ) (x : Item) (loose : Loose) → IsTaking node_of before least level page path x loose → spare_in before page ≡ 0
taking-unspared before least level page path x loose taking = let o = taking.once page in let p = one_at-same page in omega arith

module _ (old : PageMap) (rows count first least level page : ℕ) (free : List ℕ) (path : List ℕ) (x : Item) (loose : Loose)
    (taking : IsTaking node_of (view old rows count first free) least level page path x loose) where
  -- a page on the way has a used slot
  pub taking-some : 0 < filled (slots_in (old page))
  taking-some = let a = leads-some (nodes_in node_of old rows) path level page x taking.leads in let b = words-filled (bytes_in old rows page) (slots_in (old page)) in omega arith

  -- so it is a node's
  pub taking-form : is_form (old page) ≡ true
  taking-form = some-form (old page) taking-some

  -- of this level
  pub taking-level : level_in (old page) ≡ level
  taking-level = sym (form-level (old page) taking-form) ∙ taking.node.level_is

  -- with as many slots as it has to have
  pub taking-least : least ≤ filled (slots_in (old page))
  taking-least = let a = taking.node.some in let b = words-filled (bytes_in old rows page) (slots_in (old page)) in omega arith

  -- and it is counted
  pub taking-counted : IsUncounted count page → ⊥
  taking-counted h = elim h [
    | inl e ↦ let a = taking.away in let b = one_at-same page in let c : one_at page 0 ≡ one_at page page = ap (one_at page) (sym e) in omega arith
    | inr k ↦ let o = taking.once page in let b = one_at-same page in let c = uncounted-past count page k in omega arith
  ]

-- the child in the slot of the path is the one that the path leads to
pub child-at : (old : PageMap) (rows count first least level page : ℕ) (free : List ℕ) (path : List ℕ) (x : Item) (loose : Loose) (taking : IsTaking node_of (view old rows count first free) least (suc level) page path x loose)
    (c : Item) → slots_in (old page) (slice_index path (suc level)) ≡ Some c → taking.leads.0.to ≡ c.to
child-at old rows count first least level page free path x loose taking c there =
    at-same taking.leads.0 (joined_item (bytes_in old rows page) (slice_index path (suc level)) c) _ taking.leads.1.1 (ap (option_map (joined_item (bytes_in old rows page) (slice_index path (suc level)))) there)

-- what is left of a child stands at the child's page
pub left-at : (left : Option Slot) (child : ℕ) → IfSome left (IsChildOf child) → Held (λ y. y.to ≡ child) (option_map item_of left)
left-at None child h = tt
left-at (Some slot) child h = h.1

-- a page that was looked at changes nothing
pub look-changes : {P : Type 0} (g : Ghosts P) (a b : P) → g.count b ≡ g.count a → g.room b ≡ g.room a → g.faults a ≤ g.faults b → g.refused b ≡ g.refused a → g.is_stopped b ≡ g.is_stopped a → g.follows_from a b → Changes g a b
look-changes g a b count room faults refused goes_on follows = record { count = omega (arith, count); room = room; faults = faults; refused = omega (arith, refused); goes_on = goes_on; follows = follows }

module _ (before : View) (pages : PageMap) (rows count first level top : ℕ) (free : List ℕ) (loose : Loose) (mine : ℕ → ℕ) (sums : (Item → ℕ) → ℕ) (start : IsSupplied before)
    (standing : IsStanding node_of before (view pages rows count first free) level top loose mine sums) where
  -- a root has a used slot
  pub standing-some : 0 < filled (slots_in (pages top))
  standing-some = let a = standing.node.some in let b = words-filled (bytes_in pages rows top) (slots_in (pages top)) in omega arith

  -- its page is of its level
  pub standing-level : level_in (pages top) ≡ level
  standing-level = sym (form-level (pages top) (some-form (pages top) standing-some)) ∙ standing.node.level_is

  -- and it is counted
  pub standing-counted : IsUncounted count top → ⊥
  standing-counted h = elim h [
    | inl e ↦
        let k = standing.moves.kept 0 in let a = standing.away in let s = (supplied-plain before start).away in
        let b = one_at-same top in let c : one_at top 0 ≡ one_at top top = ap (one_at top) (sym e) in
        omega arith
    | inr l ↦ let k = standing.moves.kept top in let o = standing.once top in let b = one_at-same top in let c = uncounted-past count top l in omega arith
  ]

  -- and not spare
  pub standing-unused : spare_in (view pages rows count first free) top ≡ 0
  standing-unused = let k = standing.moves.kept top in let o = standing.once top in let b = one_at-same top in omega arith
