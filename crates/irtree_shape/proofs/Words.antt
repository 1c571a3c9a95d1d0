-- Nodes joined with their rows.
use Rattle.std.proofs.Common.{◌≡◌, ℕ, ◌+◌, ◌-◌, ◌<◌, inl, inr, max, arith, refl, sym, ap, ◌∙◌, Option, Some, None, option_map, nat_lt, ◌&&◌, if◌then◌else◌, ◌==◌, true, false, Bool}
use Rattle.std.proofs.lemmas.Bool.Decides.{nat_tests}
use Rattle.std.proofs.Math.Path.{fun_ext}
use Rattle.std.specs.Int.{bit_at}
use Rattle.rtree_nodes.specs.Slots.{Item, Slots, NodeView, got, tops, filled, IsFull, IsFree}
use Rattle.rtree_nodes.specs.Trees.{with_slot, reach_of, IsPutFree}
use Rattle.rtree_nodes.specs.Masks.{kept_of, moved_of}
use Rattle.rtree_nodes.proofs.Sums.{top-same}
use Rattle.rtree_nodes.proofs.Amounts.{same_or, with_slot-same, with_slot-other, amount-same}
use Rattle.node_rows.specs.Rows.{Bytes}
use Rattle.node_rows.specs.Turns.{moved}
use Rattle.node_rows.specs.Impacts.{raised, top_at}
use Rattle.node_rows.proofs.Moves.{moved-node, moved-to}
use Rattle.irtree_shape.specs.Words.{worded, joined_item, words_on, joined, AreBlank}
use Rattle.rtree_nodes.proofs.Entries.{same_number}

item-same : (x : Item) (f g : ℕ → ℕ) → ((d : ℕ) → f d ≡ g d) → record x { reach = f } ≡ record x { reach = g }
item-same x f g h = ap (λ (k : ℕ → ℕ). record x { reach = k }) (fun_ext h)

-- an item's words are its slot's bytes
pub joined-at : (b c : ℕ → ℕ → ℕ) (i : ℕ) → ((w : ℕ) → b w i ≡ c w i) → joined_item b i ≡ joined_item c i
joined-at b c i h = fun_ext (λ x. item-same x (joined_item b i x).reach (joined_item c i x).reach (λ d. ap (λ (m : ℕ). if nat_lt d 4 then x.reach d else m) (h (d - 4))))

-- the slots of a node by other bytes, where those of a slot are the same
pub words-at : (b c : ℕ → ℕ → ℕ) (s : Slots) (i : ℕ) → ((w : ℕ) → b w i ≡ c w i) → words_on b s i ≡ words_on c s i
words-at b c s i h = ap (λ (f : Item → Item). option_map f (s i)) (joined-at b c i h)

-- the same of all slots
pub words-same : (b c : ℕ → ℕ → ℕ) (s : Slots) → ((w i : ℕ) → b w i ≡ c w i) → words_on b s ≡ words_on c s
words-same b c s h = fun_ext (λ i. words-at b c s i (λ w. h w i))

-- the same of a node
pub joined-same : (v : NodeView) (b c : ℕ → ℕ → ℕ) → ((w i : ℕ) → b w i ≡ c w i) → joined v b ≡ joined v c
joined-same v b c h = ap (λ (k : ℕ → ℕ → ℕ). joined v k) (fun_ext (λ w. fun_ext (λ i. h w i)))

-- a slot joined with bytes is unused where it was unused
pub words-none : (b : ℕ → ℕ → ℕ) (s : Slots) (i : ℕ) → words_on b s i ≡ None → s i ≡ None
words-none b s i h = none (s i) h
  where
    none : (o : Option Item) → option_map (joined_item b i) o ≡ None → o ≡ None
    none None h = refl
    none (Some x) h = cc

-- and the other way
pub words-none_back : (b : ℕ → ℕ → ℕ) (s : Slots) (i : ℕ) → s i ≡ None → words_on b s i ≡ None
words-none_back b s i h = ap (λ (o : Option Item). option_map (joined_item b i) o) h

-- the bytes of a slot that is raised
pub raised-row : (page at : ℕ) (f : ℕ → ℕ) (b : Bytes) (w i : ℕ) → raised page at f b page w i ≡ max (b page w i) (if i == at then f w else 0)
raised-row page at f b w i = let t : (page == page) ≡ true = grind (arith, nat_tests) in ap (λ (x : Bool). max (b page w i) (if x && (i == at) then f w else 0)) t

-- the slot that is raised
pub raised-at : (page at : ℕ) (f : ℕ → ℕ) (b : Bytes) (w : ℕ) → raised page at f b page w at ≡ max (b page w at) (f w)
raised-at page at f b w = raised-row page at f b w at ∙ (let t : (at == at) ≡ true = grind (arith, nat_tests) in ap (λ (x : Bool). max (b page w at) (if x then f w else 0)) t)

-- another slot of its node
pub raised-beside : (page at : ℕ) (f : ℕ → ℕ) (b : Bytes) (w i : ℕ) → (i ≡ at → ⊥) → raised page at f b page w i ≡ b page w i
raised-beside page at f b w i d = raised-row page at f b w i ∙ (let t : (i == at) ≡ false = grind (arith, nat_tests) in rw t (omega arith))

-- a slot without bytes, which then holds an item and was raised by its words
slot-raised : (s : Slots) (slot : ℕ) (x : Item) (old new : ℕ → ℕ → ℕ) (f : ℕ → ℕ) → ((w : ℕ) → old w slot ≡ 0)
    → ((w i : ℕ) → new w i ≡ max (old w i) (if i == slot then f w else 0)) → (i : ℕ) → words_on new (with_slot slot x s) i ≡ with_slot slot (worded f x) (words_on old s) i
slot-raised s slot x old new f none is i = elim (i == slot) as (λ b. ((w : ℕ) → new w i ≡ max (old w i) (if b then f w else 0)) → (b ≡ true → i ≡ slot)
    → option_map (joined_item new i) (if b then Some x else s i) ≡ (if b then Some (worded f x) else option_map (joined_item old i) (s i))) [
      | true ↦ λ h e. ap Some (item-same x (joined_item new i x).reach (worded f x).reach (λ d. ap (λ (k : ℕ). if nat_lt d 4 then x.reach d else k) (h (d - 4) ∙ (let z = none (d - 4) in let o : old (d - 4) i ≡ old (d - 4) slot = ap (old (d - 4)) (e refl) in omega arith))))
      | false ↦ λ h e. words-at new old s i (λ w. h w ∙ (let t = h w in omega arith))
    ] (λ w. is w i) (λ h. same_number i slot h)

-- an item was put into a free slot, and its words into the rows
pub placed : (page at : ℕ) (f : ℕ → ℕ) (b : Bytes) (s t : Slots) (x : Item) → ((w : ℕ) → b page w at ≡ 0) → t ≡ with_slot at x s
    → words_on (raised page at f b page) t ≡ with_slot at (worded f x) (words_on (b page) s)
placed page at f b s t x none is = ap (words_on (raised page at f b page)) is
    ∙ fun_ext (λ i. slot-raised s at x (b page) (raised page at f b page) f none (λ w j. raised-row page at f b w j) i)

-- the lowest free slot stays so
pub words_free : (b : ℕ → ℕ → ℕ) (s : Slots) (at : ℕ) → IsFree s at → IsFree (words_on b s) at
words_free b s at free = record { within = free.within; free = words-none_back b s at free.free; lowest = λ i l. some (s i) i (free.lowest i l) }
  where
    some : (o : Option Item) (i : ℕ) → got (λ x. 1) o ≡ 1 → got (λ x. 1) (option_map (joined_item b i) o) ≡ 1
    some None i h = h
    some (Some x) i h = refl

-- an item was put into the lowest free slot, and its words into the rows
pub placed_free : (page at : ℕ) (f : ℕ → ℕ) (b : Bytes) (s t : Slots) (x : Item) → ((w : ℕ) → b page w at ≡ 0) → IsFree s at → t ≡ with_slot at x s
    → IsPutFree (words_on (b page) s) (worded f x) (words_on (raised page at f b page) t)
placed_free page at f b s t x none free is = record { at = at; free = words_free (b page) s at free; is = placed page at f b s t x none is }

-- a full node stays so
pub words-full : (b : ℕ → ℕ → ℕ) (s : Slots) → IsFull s → IsFull (words_on b s)
words-full b s full i l = go (s i) (full i l)
  where
    go : (o : Option Item) → got (λ x. 1) o ≡ 1 → got (λ x. 1) (option_map (joined_item b i) o) ≡ 1
    go None h = h
    go (Some x) h = refl

-- the slots that stay and those that move, with their words
pub words-kept : (mask page to : ℕ) (b : Bytes) (s : Slots) → words_on (moved page mask to b page) (kept_of mask s) ≡ kept_of mask (words_on (b page) s)
words-kept mask page to b s = fun_ext (λ i. go i (bit_at mask i == 1) refl)
  where
    go : (i : ℕ) (x : Bool) → (bit_at mask i == 1) ≡ x → option_map (joined_item (moved page mask to b page) i) (if x then None else s i) ≡ (if x then None else option_map (joined_item (b page) i) (s i))
    go i true e = refl
    go i false e = words-at (moved page mask to b page) (b page) s i (λ w. moved-node page mask to b page w i refl ∙ ap (λ (x : Bool). if x then 0 else b page w i) e)

-- those that move
pub words-moved : (mask page to : ℕ) (b : Bytes) (s : Slots) → (page ≡ to → ⊥) → words_on (moved page mask to b to) (moved_of mask s) ≡ moved_of mask (words_on (b page) s)
words-moved mask page to b s apart = fun_ext (λ i. go i (bit_at mask i == 1) refl)
  where
    go : (i : ℕ) (x : Bool) → (bit_at mask i == 1) ≡ x → option_map (joined_item (moved page mask to b to) i) (if x then s i else None) ≡ (if x then option_map (joined_item (b page) i) (s i) else None)
    go i true e = words-at (moved page mask to b to) (b page) s i (λ w. moved-to page mask to b to w i (λ k. apart (sym k)) refl ∙ ap (λ (x : Bool). if x then b page w i else 0) e)
    go i false e = refl

side-same : (b : ℕ → ℕ → ℕ) (i d : ℕ) (o : Option Item) → d < 4 → got (reach_of d) (option_map (joined_item b i) o) ≡ got (reach_of d) o
side-same b i d None l = refl
side-same b i d (Some x) l = let t : nat_lt d 4 ≡ true = grind (arith, nat_tests) in ap (λ (k : Bool). if k then x.reach d else b (d - 4) i) t

-- the sides are the node's own
pub sides : (b : ℕ → ℕ → ℕ) (s : Slots) (d : ℕ) → d < 4 → tops d (words_on b s) ≡ tops d s
unfolding tops
sides b s d l = top-same 32 (λ i. got (reach_of d) (words_on b s i)) (λ i. got (reach_of d) (s i)) (λ i m. side-same b i d (s i) l)

word-got : (b : ℕ → ℕ → ℕ) (i w : ℕ) (o : Option Item) → (o ≡ None → b w i ≡ 0) → b w i ≡ got (reach_of (4 + w)) (option_map (joined_item b i) o)
word-got b i w None none = none refl
word-got b i w (Some x) none = let t : nat_lt (4 + w) 4 ≡ false = grind (arith, nat_tests) in let e : 4 + w - 4 ≡ w = omega arith in ap (λ (m : ℕ). b m i) (sym e) ∙ ap (λ (k : Bool). if k then x.reach (4 + w) else b (4 + w - 4) i) (sym t)

-- the greatest byte of a word is how far the slots reach to it
pub word-top : (b : Bytes) (page w : ℕ) (s : Slots) → ((i : ℕ) → s i ≡ None → b page w i ≡ 0) → top_at b page w ≡ tops (4 + w) (words_on (b page) s)
unfolding tops top_at
word-top b page w s none = top-same 32 (λ i. b page w i) (λ i. got (reach_of (4 + w)) (words_on (b page) s i)) (λ i l. word-got (b page) i w (s i) (none i))

-- unused slots stay without bytes
pub kept-blank : (mask page to : ℕ) (b : Bytes) (s : Slots) → AreBlank (b page) s → AreBlank (moved page mask to b page) (kept_of mask s)
kept-blank mask page to b s blank w i none = moved-node page mask to b page w i refl ∙ go (bit_at mask i == 1) none
  where
    go : (x : Bool) → (if x then None else s i) ≡ None → (if x then 0 else b page w i) ≡ 0
    go true h = refl
    go false h = blank w i h

-- the same at the page that they move to
pub moved-blank : (mask page to : ℕ) (b : Bytes) (s : Slots) → (page ≡ to → ⊥) → AreBlank (b page) s → AreBlank (moved page mask to b to) (moved_of mask s)
moved-blank mask page to b s apart blank w i none = moved-to page mask to b to w i (λ k. apart (sym k)) refl ∙ go (bit_at mask i == 1) none
  where
    go : (x : Bool) → (if x then s i else None) ≡ None → (if x then b page w i else 0) ≡ 0
    go true h = blank w i h
    go false h = refl

-- a slot that was raised as it was filled
pub raised-blank : (page at : ℕ) (f : ℕ → ℕ) (b : Bytes) (s t : Slots) (x : Item) → t ≡ with_slot at x s → AreBlank (b page) s → AreBlank (raised page at f b page) t
raised-blank page at f b s t x is blank w i none = elim (same_or i at) [
  | inl e ↦ let h : t i ≡ Some x = ap (λ (u : Slots). u i) is ∙ ap (with_slot at x s) e ∙ with_slot-same at x s in cc
  | inr d ↦ raised-row page at f b w i ∙ (let u : (i == at) ≡ false = grind (arith, nat_tests) in let z = blank w i (sym (with_slot-other at x s i d) ∙ sym (ap (λ (u : Slots). u i) is) ∙ none) in rw u (omega arith))
]

-- as many slots are used
pub words-filled : (b : ℕ → ℕ → ℕ) (s : Slots) → filled (words_on b s) ≡ filled s
words-filled b s = amount-same (λ x. 1) (λ x. 1) (words_on b s) s (λ i l. go (s i) i)
  where
    go : (o : Option Item) (i : ℕ) → got (λ x. 1) (option_map (joined_item b i) o) ≡ got (λ x. 1) o
    go None i = refl
    go (Some x) i = refl
