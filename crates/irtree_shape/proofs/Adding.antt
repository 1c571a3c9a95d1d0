-- Items that were added to a node, with their words.
use Rattle.std.proofs.Common.{◌≡◌, ℕ, ◌+◌, ◌<◌, ◌≤◌, ◌⊎◌, inl, inr, arith, refl, sym, ap, ◌∙◌, subst, Some, None, List, nat_lt, if◌then◌else◌, ◌==◌, true, false, Bool}
use Rattle.std.proofs.lemmas.Bool.Decides.{nat_tests}
use Rattle.std.specs.Int.{bit_at}
use Rattle.page_face.specs.FreeList.{PageMap}
use Rattle.btree_nodes.specs.Supply.{one_at}
use Rattle.btree_nodes.proofs.Supplies.{one_at-same}
use Rattle.rtree_nodes.specs.Slots.{Item, Slots, tops, IsFree, IsPart}
use Rattle.rtree_nodes.specs.Trees.{with_slot, IsPutFree}
use Rattle.rtree_nodes.specs.Masks.{kept_of, moved_of}
use Rattle.rtree_nodes.specs.Stock.{View, view, spare_in}
use Rattle.rtree_nodes.specs.Made.{Reads}
use Rattle.node_rows.specs.Rows.{Bytes, bytes_in}
use Rattle.node_rows.specs.Turns.{moved}
use Rattle.node_rows.specs.Impacts.{raised}
use Rattle.node_rows.proofs.Moves.{moved-node, moved-to}
use Rattle.irtree_shape.specs.Words.{joined, worded, words_on, AreBlank}
use Rattle.irtree_shape.specs.Made.{nodes_in, IsBlank, IsReady, IsSplit, Makes}
use Rattle.irtree_shape.specs.Steps.{Steps, IsPaired, bounding_child}
use Rattle.irtree_shape.proofs.Stocks.{moves-further}
use Rattle.irtree_shape.proofs.Words.{kept-blank, moved-blank, placed, placed_free, raised-blank, sides, words-kept, words-moved, words-none_back, words-same, words_free}
use Rattle.irtree_shape.proofs.Stepping.{raised-elsewhere}
use Rattle.irtree_shape.proofs.Stores.{made_one, two_made}
use Rattle.irtree_shape.proofs.Adds.{ready_placed, made_placed, two_parted, made_parted}

-- an item with these words may be added to a node
module _ (reads : Reads) (before : View) (least level page at_level : ℕ) (s : Slots) (x : Item) (f : ℕ → ℕ)
    (ready : IsReady reads before least level page (joined (record { level = at_level; slots = s }) (bytes_in before.pages before.rows page)) (Some (worded f x))) where
  -- its page isn't spare
  pub page_unspared : spare_in before page ≡ 0
  page_unspared = let o = ready.once page in let p = one_at-same page in omega arith

  -- and no byte stands at an unused slot
  pub slots_blank : AreBlank (bytes_in before.pages before.rows page) s
  slots_blank w i none = ready.empty w i (words-none_back (bytes_in before.pages before.rows page) s i none)

  -- the item's words were put into the rows at a free slot, and then the node was written
  module _ (mid new : PageMap) (mrows rows c0 f0 count first at : ℕ) (bytes : List ℕ) (free : IsFree s at) (t_is : (reads bytes).slots ≡ with_slot at x s) (l_is : (reads bytes).level ≡ at_level)
      (raise : Steps before mid mrows c0 f0 (one_at page) (one_at page) (raised page at f (bytes_in before.pages before.rows)) before.pages)
      (wrote : Steps (view mid mrows c0 f0 raise.free) new rows count first (one_at page) (one_at page) (bytes_in mid mrows) (λ n. bytes)) where
    held : new page ≡ bytes
    held = let o = one_at-same page in wrote.holds page (omega arith)

    new_bytes : (w i : ℕ) → bytes_in new rows page w i ≡ raised page at f (bytes_in before.pages before.rows) page w i
    new_bytes w i = let o = one_at-same page in wrote.bytes page w i (omega arith) ∙ raise.bytes page w i (omega arith)

    here : nodes_in reads new rows page ≡ record { level = (reads bytes).level; slots = words_on (bytes_in new rows page) (reads bytes).slots }
    here = ap (λ (b : List ℕ). joined (reads b) (bytes_in new rows page)) held

    is : words_on (bytes_in new rows page) (reads bytes).slots ≡ with_slot at (worded f x) (words_on (bytes_in before.pages before.rows page) s)
    is = words-same (bytes_in new rows page) (raised page at f (bytes_in before.pages before.rows) page) (reads bytes).slots new_bytes
        ∙ placed page at f (bytes_in before.pages before.rows) s (reads bytes).slots x (λ w. slots_blank w at free.free) t_is

    blank : IsBlank reads new rows page
    blank w i none = new_bytes w i ∙ raised-blank page at f (bytes_in before.pages before.rows) s (reads bytes).slots x t_is slots_blank w i
        (sym (ap (λ (b : List ℕ). (reads b).slots i) held) ∙ none)

    pub room_made : (told : ℕ → ℕ) → ((d : ℕ) → told d ≡ tops d (reads bytes).slots) → (rise : ℕ → Type 0) → rise 0
        → Makes reads before new rows count first least level page (words_on (bytes_in before.pages before.rows page) s) (Some (worded f x)) None told rise
    room_made told readable rise risen =
        let t : Slots = words_on (bytes_in new rows page) (reads bytes).slots in
        let its_free = words_free (bytes_in before.pages before.rows page) s at free in
        let readable' : (d : ℕ) → d < 4 → told d ≡ tops d (words_on (bytes_in new rows page) (reads bytes).slots) = λ d m. readable d ∙ sym (sides (bytes_in new rows page) (reads bytes).slots d m) in
        made_placed reads before least level page (words_on (bytes_in before.pages before.rows page) s) at_level (worded f x) ready t at its_free is new rows count first told rise readable'
        (made_one reads before new rows count first wrote.free least level page (record { level = (reads bytes).level; slots = t })
        (ready_placed reads before least level page (words_on (bytes_in before.pages before.rows page) s) at_level (worded f x) ready t at its_free is (reads bytes).level l_is)
        (moves-further raise.moves wrote.moves) here blank (λ d. tops d t) (λ d m. refl) rise risen)

  -- The items were parted: both nodes were written, the rows of those that move were moved, and the new item's words were put into the rows of one of the two.
  module _ (mid new : PageMap) (rows c0 f0 count first right moves at : ℕ) (front back : List ℕ) (goes : Bool) (pair : IsPaired before mid before.rows c0 f0 page right front back)
      (part : Steps (view mid before.rows c0 f0 pair.free) new rows count first (λ n. one_at page n + one_at right n) (λ n. one_at page n + one_at right n)
      (raised (if goes then right else page) at f (moved page moves right (bytes_in mid before.rows))) mid)
      (front_level : (reads front).level ≡ at_level) (back_level : (reads back).level ≡ at_level) where
    page_held : new page ≡ front
    page_held = let o = one_at-same page in part.holds page (omega arith) ∙ pair.here

    right_held : new right ≡ back
    right_held = let o = one_at-same right in part.holds right (omega arith) ∙ pair.there

    page_bytes : (w i : ℕ) → bytes_in new rows page w i ≡ raised (if goes then right else page) at f (moved page moves right (bytes_in mid before.rows)) page w i
    page_bytes w i = let o = one_at-same page in part.bytes page w i (omega arith)

    right_bytes : (w i : ℕ) → bytes_in new rows right w i ≡ raised (if goes then right else page) at f (moved page moves right (bytes_in mid before.rows)) right w i
    right_bytes w i = let o = one_at-same right in part.bytes right w i (omega arith)

    -- the bytes of both nodes as the rows were moved
    stayed : (w i : ℕ) → moved page moves right (bytes_in mid before.rows) page w i ≡ moved page moves right (bytes_in before.pages before.rows) page w i
    stayed w i = moved-node page moves right (bytes_in mid before.rows) page w i refl
        ∙ ap (λ (b : ℕ). if bit_at moves i == 1 then 0 else b) (pair.bytes w i)
        ∙ sym (moved-node page moves right (bytes_in before.pages before.rows) page w i refl)

    went : (w i : ℕ) → moved page moves right (bytes_in mid before.rows) right w i ≡ moved page moves right (bytes_in before.pages before.rows) right w i
    went w i = moved-to page moves right (bytes_in mid before.rows) right w i (λ e. pair.apart (sym e)) refl
        ∙ ap (λ (b : ℕ). if bit_at moves i == 1 then b else 0) (pair.bytes w i)
        ∙ sym (moved-to page moves right (bytes_in before.pages before.rows) right w i (λ e. pair.apart (sym e)) refl)

    stayed_words : words_on (moved page moves right (bytes_in mid before.rows) page) (kept_of moves s) ≡ kept_of moves (words_on (bytes_in before.pages before.rows page) s)
    stayed_words = words-same (moved page moves right (bytes_in mid before.rows) page) (moved page moves right (bytes_in before.pages before.rows) page) (kept_of moves s) stayed
        ∙ words-kept moves page right (bytes_in before.pages before.rows) s

    went_words : words_on (moved page moves right (bytes_in mid before.rows) right) (moved_of moves s) ≡ moved_of moves (words_on (bytes_in before.pages before.rows page) s)
    went_words = words-same (moved page moves right (bytes_in mid before.rows) right) (moved page moves right (bytes_in before.pages before.rows) right) (moved_of moves s) went
        ∙ words-moved moves page right (bytes_in before.pages before.rows) s pair.apart

    stayed_blank : AreBlank (moved page moves right (bytes_in mid before.rows) page) (kept_of moves s)
    stayed_blank w i none = stayed w i ∙ kept-blank moves page right (bytes_in before.pages before.rows) s slots_blank w i none

    went_blank : AreBlank (moved page moves right (bytes_in mid before.rows) right) (moved_of moves s)
    went_blank w i none = went w i ∙ moved-blank moves page right (bytes_in before.pages before.rows) s pair.apart slots_blank w i none

    its_split : AreBlank (bytes_in new rows page) (reads front).slots → AreBlank (bytes_in new rows right) (reads back).slots
        → IsSplit reads before new rows count first page right (record { level = (reads front).level; slots = words_on (bytes_in new rows page) (reads front).slots })
        (record { level = (reads back).level; slots = words_on (bytes_in new rows right) (reads back).slots })
    its_split here there = record {
      free = part.free;
      moves = moves-further pair.moves part.moves;
      here = ap (λ (b : List ℕ). joined (reads b) (bytes_in new rows page)) page_held;
      there = ap (λ (b : List ℕ). joined (reads b) (bytes_in new rows right)) right_held;
      here_blank = λ w i none. here w i (sym (ap (λ (b : List ℕ). (reads b).slots i) page_held) ∙ none);
      there_blank = λ w i none. there w i (sym (ap (λ (b : List ℕ). (reads b).slots i) right_held) ∙ none);
    }

    less_or : (d : ℕ) → (d < 4) ⊎ (4 ≤ d)
    less_or d = grind arith

    -- the new node's item reaches as far as its slots, words too
    bounding : (z : Item) (d : ℕ) → z.to ≡ right → ((e : ℕ) → z.reach e ≡ tops e (reads back).slots) → (bounding_child (nodes_in reads new rows) z).reach d ≡ tops d (words_on (bytes_in new rows right) (reads back).slots)
    bounding z d to reach = elim (less_or d) [
      | inl m ↦ let t : nat_lt d 4 ≡ true = grind (arith, nat_tests) in ap (λ (q : Bool). if q then z.reach d else tops d (nodes_in reads new rows z.to).slots) t ∙ reach d ∙ sym (sides (bytes_in new rows right) (reads back).slots d m)
      | inr m ↦ let t : nat_lt d 4 ≡ false = grind (arith, nat_tests) in ap (λ (q : Bool). if q then z.reach d else tops d (nodes_in reads new rows z.to).slots) t
          ∙ ap (λ (n : ℕ). tops d (nodes_in reads new rows n).slots) to ∙ ap (λ (b : List ℕ). tops d (words_on (bytes_in new rows right) (reads b).slots)) right_held
    ]

    both_made : IsPart (words_on (bytes_in before.pages before.rows page) s) (worded f x) (words_on (bytes_in new rows page) (reads front).slots) (words_on (bytes_in new rows right) (reads back).slots)
        → AreBlank (bytes_in new rows page) (reads front).slots → AreBlank (bytes_in new rows right) (reads back).slots
        → (z : Item) → z.to ≡ right → ((e : ℕ) → z.reach e ≡ tops e (reads back).slots) → (told : ℕ → ℕ) → ((d : ℕ) → told d ≡ tops d (reads front).slots) → (rise : ℕ → Type 0) → rise 1
        → Makes reads before new rows count first least level page (words_on (bytes_in before.pages before.rows page) s) (Some (worded f x)) (Some (bounding_child (nodes_in reads new rows) z)) told rise
    both_made parts here there z to reach told readable rise risen =
        let a : Slots = words_on (bytes_in new rows page) (reads front).slots in
        let b : Slots = words_on (bytes_in new rows right) (reads back).slots in
        let readable' : (d : ℕ) → d < 4 → told d ≡ tops d (words_on (bytes_in new rows page) (reads front).slots) = λ d m. readable d ∙ sym (sides (bytes_in new rows page) (reads front).slots d m) in
        made_parted reads before least level page (words_on (bytes_in before.pages before.rows page) s) at_level (worded f x) ready a b parts new rows count first (bounding_child (nodes_in reads new rows) z) told rise readable'
        (two_made reads before new rows count first least level page right (record { level = (reads front).level; slots = a }) (record { level = (reads back).level; slots = b }) (bounding_child (nodes_in reads new rows) z)
        (two_parted reads before least level page (words_on (bytes_in before.pages before.rows page) s) at_level (worded f x) ready a b parts (reads front).level (reads back).level front_level back_level)
        (its_split here there) to (λ d. bounding z d to reach) (λ d. tops d a) (λ d m. refl) rise risen)

    -- the new item moved
    pub moved_made : goes ≡ true → (reads front).slots ≡ kept_of moves s → IsFree (moved_of moves s) at → (reads back).slots ≡ with_slot at x (moved_of moves s)
        → ((b : Slots) → IsPutFree (moved_of moves (words_on (bytes_in before.pages before.rows page) s)) (worded f x) b
        → IsPart (words_on (bytes_in before.pages before.rows page) s) (worded f x) (kept_of moves (words_on (bytes_in before.pages before.rows page) s)) b)
        → (z : Item) → z.to ≡ right → ((e : ℕ) → z.reach e ≡ tops e (reads back).slots) → (told : ℕ → ℕ) → ((d : ℕ) → told d ≡ tops d (reads front).slots) → (rise : ℕ → Type 0) → rise 1
        → Makes reads before new rows count first least level page (words_on (bytes_in before.pages before.rows page) s) (Some (worded f x)) (Some (bounding_child (nodes_in reads new rows) z)) told rise
    moved_made set front_is free back_is parts =
        let go : Bytes = moved page moves right (bytes_in mid before.rows) in
        let there : (w i : ℕ) → bytes_in new rows right w i ≡ raised right at f (moved page moves right (bytes_in mid before.rows)) right w i
        = λ w i. right_bytes w i ∙ ap (λ (g : Bool). raised (if g then right else page) at f (moved page moves right (bytes_in mid before.rows)) right w i) set in
        let here : (w i : ℕ) → bytes_in new rows page w i ≡ moved page moves right (bytes_in mid before.rows) page w i
        = λ w i. page_bytes w i ∙ ap (λ (g : Bool). raised (if g then right else page) at f (moved page moves right (bytes_in mid before.rows)) page w i) set
        ∙ raised-elsewhere right at f (moved page moves right (bytes_in mid before.rows)) page w i pair.apart in
        let a_is : words_on (bytes_in new rows page) (reads front).slots ≡ kept_of moves (words_on (bytes_in before.pages before.rows page) s)
        = ap (words_on (bytes_in new rows page)) front_is ∙ words-same (bytes_in new rows page) (go page) (kept_of moves s) here ∙ stayed_words in
        let put : IsPutFree (words_on (go right) (moved_of moves s)) (worded f x) (words_on (raised right at f go right) (reads back).slots)
        = placed_free right at f go (moved_of moves s) (reads back).slots x (λ w. went_blank w at free.free) free back_is in
        let put' : IsPutFree (moved_of moves (words_on (bytes_in before.pages before.rows page) s)) (worded f x) (words_on (bytes_in new rows right) (reads back).slots)
        = subst (λ (u : Slots). IsPutFree u (worded f x) (words_on (bytes_in new rows right) (reads back).slots)) went_words
        (subst (λ (u : Slots). IsPutFree (words_on (go right) (moved_of moves s)) (worded f x) u) (sym (words-same (bytes_in new rows right) (raised right at f go right) (reads back).slots there)) put) in
        both_made
        (subst (λ (u : Slots). IsPart (words_on (bytes_in before.pages before.rows page) s) (worded f x) u (words_on (bytes_in new rows right) (reads back).slots)) (sym a_is) (parts (words_on (bytes_in new rows right) (reads back).slots) put'))
        (λ w i none. here w i ∙ stayed_blank w i (sym (ap (λ (t : Slots). t i) front_is) ∙ none))
        (λ w i none. there w i ∙ raised-blank right at f go (moved_of moves s) (reads back).slots x back_is went_blank w i none)

    -- the new item stayed
    pub kept_made : goes ≡ false → IsFree (kept_of moves s) at → (reads front).slots ≡ with_slot at x (kept_of moves s) → (reads back).slots ≡ moved_of moves s
        → ((a : Slots) → IsPutFree (kept_of moves (words_on (bytes_in before.pages before.rows page) s)) (worded f x) a
        → IsPart (words_on (bytes_in before.pages before.rows page) s) (worded f x) a (moved_of moves (words_on (bytes_in before.pages before.rows page) s)))
        → (z : Item) → z.to ≡ right → ((e : ℕ) → z.reach e ≡ tops e (reads back).slots) → (told : ℕ → ℕ) → ((d : ℕ) → told d ≡ tops d (reads front).slots) → (rise : ℕ → Type 0) → rise 1
        → Makes reads before new rows count first least level page (words_on (bytes_in before.pages before.rows page) s) (Some (worded f x)) (Some (bounding_child (nodes_in reads new rows) z)) told rise
    kept_made set free front_is back_is parts =
        let go : Bytes = moved page moves right (bytes_in mid before.rows) in
        let here : (w i : ℕ) → bytes_in new rows page w i ≡ raised page at f (moved page moves right (bytes_in mid before.rows)) page w i
        = λ w i. page_bytes w i ∙ ap (λ (g : Bool). raised (if g then right else page) at f (moved page moves right (bytes_in mid before.rows)) page w i) set in
        let there : (w i : ℕ) → bytes_in new rows right w i ≡ moved page moves right (bytes_in mid before.rows) right w i
        = λ w i. right_bytes w i ∙ ap (λ (g : Bool). raised (if g then right else page) at f (moved page moves right (bytes_in mid before.rows)) right w i) set
        ∙ raised-elsewhere page at f (moved page moves right (bytes_in mid before.rows)) right w i (λ e. pair.apart (sym e)) in
        let b_is : words_on (bytes_in new rows right) (reads back).slots ≡ moved_of moves (words_on (bytes_in before.pages before.rows page) s)
        = ap (words_on (bytes_in new rows right)) back_is ∙ words-same (bytes_in new rows right) (go right) (moved_of moves s) there ∙ went_words in
        let put : IsPutFree (words_on (go page) (kept_of moves s)) (worded f x) (words_on (raised page at f go page) (reads front).slots)
        = placed_free page at f go (kept_of moves s) (reads front).slots x (λ w. stayed_blank w at free.free) free front_is in
        let put' : IsPutFree (kept_of moves (words_on (bytes_in before.pages before.rows page) s)) (worded f x) (words_on (bytes_in new rows page) (reads front).slots)
        = subst (λ (u : Slots). IsPutFree u (worded f x) (words_on (bytes_in new rows page) (reads front).slots)) stayed_words
        (subst (λ (u : Slots). IsPutFree (words_on (go page) (kept_of moves s)) (worded f x) u) (sym (words-same (bytes_in new rows page) (raised page at f go page) (reads front).slots here)) put) in
        both_made
        (subst (λ (u : Slots). IsPart (words_on (bytes_in before.pages before.rows page) s) (worded f x) (words_on (bytes_in new rows page) (reads front).slots) u) (sym b_is) (parts (words_on (bytes_in new rows page) (reads front).slots) put'))
        (λ w i none. here w i ∙ raised-blank page at f go (kept_of moves s) (reads front).slots x front_is stayed_blank w i none)
        (λ w i none. there w i ∙ went_blank w i (sym (ap (λ (t : Slots). t i) back_is) ∙ none))
