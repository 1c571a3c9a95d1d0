-- What opening a node gives.
use Rattle.std.proofs.Common.{◌≡◌, ℕ, zero, suc, ◌+◌, ◌<◌, ◌≤◌, ◌==◌, ◌&&◌, Bool, true, false, nat_lt, List, [], ◌∷◌, ◌++◌, length, map, Option, None, Some, refl, sym, ap, subst, ◌∙◌, arith}
use Rattle.std.specs.Prelude.{if◌then◌else◌, option_map}
use Rattle.std.specs.List.{AllByRecursion, flat_map}
use Rattle.std.specs.Int.{bit_at}
use Rattle.std.proofs.lemmas.Bool.{lt-ltb}
use Rattle.page_face.specs.FreeList.{PageMap}
use Rattle.place_values.specs.declared.query.Expr.{Expr}
use Rattle.rtree_nodes.specs.Slots.{Item, Slots, got, one, filled}
use Rattle.rtree_nodes.proofs.Amounts.{amount-same}
use Rattle.rtree_nodes.specs.Pages.{level_in, stored_in, node_of}
use Rattle.rtree_nodes.specs.Subtrees.{IsNodeAt}
use Rattle.rtree_nodes.proofs.Subtrees.{IsRead, some-read}
use Rattle.node_rows.specs.Rows.{bytes_in}
use Rattle.irtree_shape.specs.Words.{joined_item, words_on}
use Rattle.irtree_shape.specs.Made.{nodes_in}
use Rattle.irtree_shape.proofs.Relinks.{word-reach}
use Rattle.best_first.specs.declared.item.Item as best
use Rattle.best_first.specs.Items.{IsGivenAt}
use Rattle.node_filter.specs.Masks.{has_slot, Marks}
use Rattle.node_filter.proofs.Marking.{slot-none}
use Rattle.node_filter.specs.Numbers.{Numbers, impact_by, impact_of, byte_of}
use Rattle.node_filter.specs.Filters.{admits_by}
use Rattle.boolean_queries.specs.declared.region.Region.{Region}
use Rattle.boolean_queries.specs.declared.near.Near.{Near}
use Rattle.boolean_queries.specs.Near.{in_order, listed, is_near, touches, given, near_item, numbered, near_slot, nears, kept_one, kept}
use Rattle.boolean_queries.specs.Opens.{gives, opens_in}
use Rattle.boolean_queries.specs.Walked.{Stands}
use Rattle.boolean_queries.proofs.Lists.{in-order-same, in-order-flat, in-order-all, in-order-few}

same-filled : (f : Item → Item) (o : Option Item) → got one (option_map f o) ≡ got one o
same-filled f None = refl
same-filled f (Some x) = refl

-- what the bytes of a node's page say
pub joined-read : (pages : PageMap) (rows level page : ℕ) → IsNodeAt (nodes_in node_of pages rows) level page → IsRead (pages page) (node_of (pages page))
joined-read pages rows level page node =
    let s = (node_of (pages page)).slots in
    let same : filled (words_on (bytes_in pages rows page) s) ≡ filled s = amount-same one one (words_on (bytes_in pages rows page) s) s (λ i l. same-filled (joined_item (bytes_in pages rows page) i) (s i)) in
    let some = node.some in
    some-read (pages page) (omega arith)

pub joined-impact : (ids : Numbers) (b : ℕ → ℕ → ℕ) (i : ℕ) (x : Item) → impact_of ids (joined_item b i x) ≡ byte_of ids b i
joined-impact ids b i x = λ k. impact_by ids (λ n. word-reach b i n x k)

-- and touches the region as it does
pub joined-touches : (region : Region) (b : ℕ → ℕ → ℕ) (i level : ℕ) (x : Item) → touches region level (joined_item b i x) ≡ touches region level x
joined-touches region b i zero x = refl
joined-touches region b i (suc level) x = refl

pub joined-given : (region : Region) (b : ℕ → ℕ → ℕ) (i level : ℕ) (x : Item) → given region level (joined_item b i x) ≡ given region level x
joined-given region b i zero x = refl
joined-given region b i (suc level) x = refl

kept-cond : (mask i : ℕ) (t a : Bool) (item : best.Item) → i < 32 → has_slot mask i ≡ (t && a) → flat_map (kept_one mask) (map (numbered i) (if t then item ∷ [] else [])) ≡ (if t && a then item ∷ [] else [])
kept-cond mask i false a item l e = refl
kept-cond mask i true true item l e = rw (lt-ltb i 32 l, e) refl
kept-cond mask i true false item l e = rw (lt-ltb i 32 l, e) refl

-- a slot of which a mask keeps what the filter lets through
kept-slot : (region : Region) (ids : Numbers) (filter : Option Expr) (level : ℕ) (b : ℕ → ℕ → ℕ) (mask slots i : ℕ) (o : Option Item) → i < 32 → has_slot slots i ≡ is_near region level o
    → has_slot mask i ≡ (has_slot slots i && admits_by level (byte_of ids b i) filter)
    → flat_map (kept_one mask) (map (numbered i) (listed (near_item region level) o)) ≡ listed (gives region ids filter level) (option_map (joined_item b i) o)
kept-slot region ids filter level b mask slots i None l n e = refl
kept-slot region ids filter level b mask slots i (Some x) l n e =
    let y : Item = joined_item b i x in
    let lets = e ∙ ap (λ (t : Bool). t && admits_by level (byte_of ids b i) filter) n in
    kept-cond mask i (touches region level x) (admits_by level (byte_of ids b i) filter) (given region level x) l lets
    ∙ ap (λ (t : Bool). if t && admits_by level (byte_of ids b i) filter then given region level x ∷ [] else []) (sym (joined-touches region b i level x))
    ∙ ap (λ (f : List ℕ → ℕ). if touches region level y && admits_by level f filter then given region level x ∷ [] else []) (sym (joined-impact ids b i x))
    ∙ ap (λ (g : best.Item). if touches region level y && admits_by level (impact_of ids y) filter then g ∷ [] else []) (sym (joined-given region b i level x))

module _ (region : Region) (ids : Numbers) (filter : Option Expr) (pages : PageMap) (rows node level : ℕ) (bytes : List ℕ) (near : List Near) where
  slots-are : bytes ≡ pages node → IsNodeAt (nodes_in node_of pages rows) level node → (i : ℕ) → (nodes_in node_of pages rows node).slots i ≡ option_map (joined_item (bytes_in pages rows node) i) (stored_in bytes i)
  slots-are is at_node i =
      let r = joined-read pages rows level node at_node in
      ap (λ (s : Slots). option_map (joined_item (bytes_in pages rows node) i) (s i)) (r.slots ∙ ap stored_in (sym is))

  -- what a mask keeps is what the node opens
  pub gives-node : (mask slots : ℕ) → bytes ≡ pages node → IsNodeAt (nodes_in node_of pages rows) level node → near ≡ nears region level (stored_in bytes) → Marks slots (λ i. is_near region level (stored_in bytes i))
      → Marks mask (λ i. has_slot slots i && admits_by level (byte_of ids (bytes_in pages rows node) i) filter) → kept mask near ≡ opens_in region ids filter (nodes_in node_of pages rows) node level
  gives-node mask slots is at_node n near_marks marks =
      ap (kept mask) n
      ∙ in-order-flat (kept_one mask) 32 (near_slot region level (stored_in bytes))
      ∙ in-order-same 32 (λ i. flat_map (kept_one mask) (near_slot region level (stored_in bytes) i)) (λ i. listed (gives region ids filter level) ((nodes_in node_of pages rows node).slots i))
      (λ i l. kept-slot region ids filter level (bytes_in pages rows node) mask slots i (stored_in bytes i) l (near_marks i l) (marks i l)
      ∙ ap (listed (gives region ids filter level)) (sym (slots-are is at_node i)))

  -- where no slot touches the region it opens nothing
  pub gives-none : (slots : ℕ) → slots ≡ 0 → bytes ≡ pages node → IsNodeAt (nodes_in node_of pages rows) level node → near ≡ nears region level (stored_in bytes) → Marks slots (λ i. is_near region level (stored_in bytes i))
      → kept 0 near ≡ opens_in region ids filter (nodes_in node_of pages rows) node level
  gives-none slots none is at_node n near_marks =
      gives-node 0 slots is at_node n near_marks (λ i l.
      let e : has_slot slots i ≡ false = ap (λ (m : ℕ). has_slot m i) none ∙ slot-none i in
      slot-none i ∙ ap (λ (t : Bool). t && admits_by level (byte_of ids (bytes_in pages rows node) i) filter) (sym e))

all-cond : (P : best.Item → Type 0) (mask i : ℕ) (t : Bool) (item : best.Item) → (t ≡ true → P item) → AllByRecursion P (flat_map (kept_one mask) (map (numbered i) (if t then item ∷ [] else [])))
all-cond P mask i false item h = tt
all-cond P mask i true item h = by_bit (nat_lt i 32 && (bit_at mask i == 1))
  where
    by_bit : (t : Bool) → AllByRecursion P ((if t then item ∷ [] else []) ++ [])
    by_bit true = (h refl, tt)
    by_bit false = tt

all-slot : (P : best.Item → Type 0) (region : Region) (mask level i : ℕ) (o : Option Item) → ((x : Item) → o ≡ Some x → touches region level x ≡ true → P (given region level x)) → AllByRecursion P (flat_map (kept_one mask) (map (numbered i) (listed (near_item region level) o)))
all-slot P region mask level i None h = tt
all-slot P region mask level i (Some x) h = all-cond P mask i (touches region level x) (given region level x) (h x refl)

-- what holds of what each slot gives
pub kept-all : (P : best.Item → Type 0) (region : Region) (mask level : ℕ) (bytes : List ℕ) (near : List Near) → near ≡ nears region level (stored_in bytes) → ((i : ℕ) (x : Item) → stored_in bytes i ≡ Some x → touches region level x ≡ true → P (given region level x)) → AllByRecursion P (kept mask near)
kept-all P region mask level bytes near n h =
    subst (AllByRecursion P) (sym (ap (kept mask) n ∙ in-order-flat (kept_one mask) 32 (near_slot region level (stored_in bytes))))
    (in-order-all P 32 (λ i. flat_map (kept_one mask) (near_slot region level (stored_in bytes) i)) (λ i l. all-slot P region mask level i (stored_in bytes i) (h i)))

-- a node gives places, or nodes of one level less
given-level : (region : Region) (level : ℕ) (x : Item) → IsGivenAt level (given region level x)
given-level region zero x = tt
given-level region (suc level) x = refl

pub kept-children : (region : Region) (mask level : ℕ) (bytes : List ℕ) (near : List Near) → near ≡ nears region level (stored_in bytes) → AllByRecursion (IsGivenAt level) (kept mask near)
kept-children region mask level bytes near n = kept-all (IsGivenAt level) region mask level bytes near n (λ i x is t. given-level region level x)

-- what it gives stands in its page
pub kept-stand : (region : Region) (mask level : ℕ) (bytes page : List ℕ) (near : List Near) → (0 < length page → bytes ≡ page) → level ≡ level_in bytes → near ≡ nears region level (stored_in bytes) → AllByRecursion (Stands region page level) (kept mask near)
kept-stand region mask level bytes page near told level_is n =
    kept-all (Stands region page level) region mask level bytes near n (λ i x is t some. record {
      level_is = sym (level_is ∙ ap level_in (told some));
      at = i;
      slot = x;
      is = ap (λ (l : List ℕ). stored_in l i) (sym (told some)) ∙ is;
      met = t;
      item_is = refl;
    })

few-cond : (mask i : ℕ) (t : Bool) (item : best.Item) → length (flat_map (kept_one mask) (map (numbered i) (if t then item ∷ [] else []))) ≤ 1
few-cond mask i false item = omega arith
few-cond mask i true item = by_bit (nat_lt i 32 && (bit_at mask i == 1))
  where
    by_bit : (t : Bool) → length ((if t then item ∷ [] else []) ++ []) ≤ 1
    by_bit true = omega arith
    by_bit false = omega arith

few-slot : (region : Region) (mask level i : ℕ) (o : Option Item) → length (flat_map (kept_one mask) (map (numbered i) (listed (near_item region level) o))) ≤ 1
few-slot region mask level i None = omega arith
few-slot region mask level i (Some x) = few-cond mask i (touches region level x) (given region level x)

-- and it gives 32 at most
pub kept-few : (region : Region) (mask level : ℕ) (bytes : List ℕ) (near : List Near) → near ≡ nears region level (stored_in bytes) → length (kept mask near) ≤ 32
kept-few region mask level bytes near n =
    let e : kept mask near ≡ in_order 32 (λ i. flat_map (kept_one mask) (near_slot region level (stored_in bytes) i)) = ap (kept mask) n ∙ in-order-flat (kept_one mask) 32 (near_slot region level (stored_in bytes)) in
    let f = in-order-few 32 (λ i. flat_map (kept_one mask) (near_slot region level (stored_in bytes) i)) (λ i l. few-slot region mask level i (stored_in bytes i)) in
    let g = ap length e in
    omega arith
