-- The words of a slot after its child has changed, and of a child that was made.
use Rattle.std.proofs.Common.{◌≡◌, ℕ, ◌+◌, ◌-◌, ◌<◌, ◌≤◌, ◌⊎◌, inl, inr, max, arith, refl, sym, ap, ◌∙◌, Option, Some, None, List, nat_lt, if◌then◌else◌, true, false, Bool}
use Rattle.std.proofs.lemmas.Bool.Decides.{nat_tests}
use Rattle.std.proofs.Math.Path.{fun_ext}
use Rattle.page_face.specs.FreeList.{PageMap}
use Rattle.rtree_nodes.specs.Slots.{Item, NodeMap, tops}
use Rattle.rtree_nodes.specs.Made.{Reads}
use Rattle.node_rows.specs.Rows.{Bytes, bytes_in}
use Rattle.node_rows.specs.Impacts.{impact_in, top_at}
use Rattle.node_rows.proofs.Refreshes.{refreshed-here, refreshed-beside}
use Rattle.irtree_shape.specs.Words.{worded, joined_item}
use Rattle.irtree_shape.specs.Steps.{bounding_child, relinked}
use Rattle.irtree_shape.specs.Made.{nodes_in, IsBlank}
use Rattle.irtree_shape.proofs.Words.{word-top, raised-at, raised-beside}

pub less_or : (d : ℕ) → (d < 4) ⊎ (4 ≤ d)
less_or d = grind arith

-- the greatest byte of each word of a node is how far its slots reach to it
pub node-top : (reads : Reads) (pages : PageMap) (rows n w : ℕ) → IsBlank reads pages rows n → top_at (bytes_in pages rows) n w ≡ tops (4 + w) (nodes_in reads pages rows n).slots
node-top reads pages rows n w blank = word-top (bytes_in pages rows) n w (reads (pages n)).slots (λ i none. blank w i none)

-- a child's item with the words that were read from its rows
pub worded-bounding : (reads : Reads) (pages : PageMap) (rows : ℕ) (f : ℕ → ℕ) (x : Item) → ((w : ℕ) → f w ≡ top_at (bytes_in pages rows) x.to w) → IsBlank reads pages rows x.to → worded f x ≡ bounding_child (nodes_in reads pages rows) x
worded-bounding reads pages rows f x is blank = ap (λ (r : ℕ → ℕ). record x { reach = r }) (fun_ext (λ d. elim (less_or d) [
  | inl l ↦ let t : nat_lt d 4 ≡ true = grind (arith, nat_tests) in ap (λ (b : Bool). if b then x.reach d else f (d - 4)) t ∙ sym (ap (λ (b : Bool). if b then x.reach d else tops d (nodes_in reads pages rows x.to).slots) t)
  | inr l ↦ let t : nat_lt d 4 ≡ false = grind (arith, nat_tests) in let e : 4 + (d - 4) ≡ d = omega arith in
      ap (λ (b : Bool). if b then x.reach d else f (d - 4)) t ∙ is (d - 4) ∙ node-top reads pages rows x.to (d - 4) blank ∙ ap (λ (m : ℕ). tops m (nodes_in reads pages rows x.to).slots) e
      ∙ sym (ap (λ (b : Bool). if b then x.reach d else tops d (nodes_in reads pages rows x.to).slots) t)
]))

module _ {X : Type 0} (page at child : ℕ) (words : List (ℕ × ℕ)) (b : Bytes) where
  -- the other slots keep their bytes
  pub relinked-beside : (m : Option X) (w i : ℕ) → (i ≡ at → ⊥) → relinked m page at child words b page w i ≡ b page w i
  relinked-beside None w i d = raised-beside page at (impact_in words) b w i d
  relinked-beside (Some y) w i d = refreshed-beside page at child b page w i d

  -- the slot has the words below its child
  pub relinked-here : (m : Option X) (w top : ℕ) → (m ≡ None → max (b page w at) (impact_in words w) ≡ top) → top_at b child w ≡ top → relinked m page at child words b page w at ≡ top
  relinked-here None w top one two = raised-at page at (impact_in words) b w ∙ one refl
  relinked-here (Some y) w top one two = refreshed-here page at child b page w at refl refl ∙ two

-- how far the item in a slot reaches, by its sides and its bytes
pub linked-reach : (b : ℕ → ℕ → ℕ) (at : ℕ) (x : Item) (top : ℕ → ℕ) → ((d : ℕ) → d < 4 → x.reach d ≡ top d) → ((w : ℕ) → b w at ≡ top (4 + w)) → (d : ℕ) → (joined_item b at x).reach d ≡ top d
linked-reach b at x top side word d = elim (less_or d) [
  | inl l ↦ let t : nat_lt d 4 ≡ true = grind (arith, nat_tests) in ap (λ (q : Bool). if q then x.reach d else b (d - 4) at) t ∙ side d l
  | inr l ↦ let t : nat_lt d 4 ≡ false = grind (arith, nat_tests) in let e : 4 + (d - 4) ≡ d = omega arith in ap (λ (q : Bool). if q then x.reach d else b (d - 4) at) t ∙ word (d - 4) ∙ ap top e
]

-- the impact of a word of an item
pub word-reach : (b : ℕ → ℕ → ℕ) (at w : ℕ) (x : Item) → (joined_item b at x).reach (4 + w) ≡ b w at
word-reach b at w x = let t : nat_lt (4 + w) 4 ≡ false = grind (arith, nat_tests) in let e : 4 + w - 4 ≡ w = omega arith in ap (λ (q : Bool). if q then x.reach (4 + w) else b (4 + w - 4) at) t ∙ ap (λ (m : ℕ). b m at) e

-- the same of an item with words
pub worded-reach : (f : ℕ → ℕ) (w : ℕ) (x : Item) → (worded f x).reach (4 + w) ≡ f w
worded-reach f w x = let t : nat_lt (4 + w) 4 ≡ false = grind (arith, nat_tests) in let e : 4 + w - 4 ≡ w = omega arith in ap (λ (q : Bool). if q then x.reach (4 + w) else f (4 + w - 4)) t ∙ ap f e

-- the same of a child's item with the words below it
pub bounding_child-reach : (nodes : NodeMap) (w : ℕ) (x : Item) → (bounding_child nodes x).reach (4 + w) ≡ tops (4 + w) (nodes x.to).slots
bounding_child-reach nodes w x = let t : nat_lt (4 + w) 4 ≡ false = grind (arith, nat_tests) in ap (λ (q : Bool). if q then x.reach (4 + w) else tops (4 + w) (nodes x.to).slots) t
