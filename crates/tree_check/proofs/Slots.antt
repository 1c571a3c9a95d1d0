-- The slots of a node, walked one after the other.
use Rattle.std.proofs.Common.{◌≡◌, ℕ, zero, suc, ◌+◌, ◌<◌, ◌≤◌, ◌++◌, List, [], ◌∷◌, Option, Some, None, arith, refl, sym, ap, ◌∙◌, subst, inl, inr, ⊎_elim, append_assoc, append-nil}
use Rattle.page_face.specs.FreeList.{PageMap}
use Rattle.page_face.specs.Causes.{IsUncounted}
use Rattle.page_face.specs.declared.fault.Rule.{Rule}
use Rattle.page_face.specs.declared.fault.Rule.TheVariants.{Rect}
use Rattle.page_face.specs.declared.fault.Damage.{Damage}
use Rattle.btree_nodes.specs.Supply.{one_at}
use Rattle.page_walks.specs.Misuse.{IsMisused}
use Rattle.page_walks.proofs.Misuses.{one-known, misused-up}
use Rattle.rtree_nodes.specs.Slots.{Item, Slots, NodeView, got, sum_to, amount, tops, Held}
use Rattle.rtree_nodes.specs.Trees.{IsItem, uses}
use Rattle.rtree_nodes.specs.Pages.{slots_in}
use Rattle.rtree_nodes.proofs.Sums.{at_end}
use Rattle.rtree_nodes.proofs.Formed.{form-node}
use Rattle.tree_check.specs.Nodes.{nodes_in, beneath, IsPlaced, chained, listed, pages_below}
use Rattle.tree_check.specs.Damages.{BreaksPlaced, SomeItem, IsWrongItem, IsDamaged, IsBrokenBelow}
use Rattle.tree_check.specs.Walks.{slot_uses, slot_pages, IsWalked, IsWalkedSlot, AreWalked, IsBrokenSlot, AreBrokenSlots}

-- a sum's first terms and the next one are a part of it
sum-part : (n at : ℕ) (f : ℕ → ℕ) → at < n → sum_to at f + f at ≤ sum_to n f
unfolding sum_to
sum-part zero at f l = absurd (omega arith)
sum-part (suc n) at f l = elim (at_end n at l) [
  | inl e ↦ let a = ap f e in let b = ap (λ (k : ℕ). sum_to k f) e in omega arith
  | inr k ↦ let r = sum-part n at f k in omega arith
]

-- what a slot that is empty gives
pub slot-none : (pages : PageMap) (count level : ℕ) (slot : Option Item) (before : ℕ → ℕ) (list : List ℕ) → slot ≡ None → IsWalkedSlot pages count level slot before before list list
slot-none pages count level slot before list e = subst (λ (o : Option Item). IsWalkedSlot pages count level o before before list list) (sym e) (record {
  item = tt;
  counted = λ n u. refl;
  met = λ n. omega arith;
  gives = sym (append-nil list);
})

-- nothing is below a leaf's slot
slot-leaf : (pages : PageMap) (count : ℕ) (slot : Option Item) (before : ℕ → ℕ) (list : List ℕ) → IsWalkedSlot pages count 0 slot before before list list
slot-leaf pages count None before list = record { item = tt; counted = λ n u. refl; met = λ n. omega arith; gives = sym (append-nil list) }
slot-leaf pages count (Some x) before list = record { item = tt; counted = λ n u. refl; met = λ n. omega arith; gives = sym (append-nil list) }

-- no slot was walked yet
pub walked-none : (pages : PageMap) (count level : ℕ) (slots : Slots) (before : ℕ → ℕ) (list : List ℕ) → AreWalked pages count level slots before before list list 0
unfolding sum_to chained
walked-none pages count level slots before list = record {
  items = λ i l. absurd (omega arith);
  counted = λ n u. refl;
  met = λ n. omega arith;
  gives = sym (append-nil list);
}

walked-suc : (pages : PageMap) (count level : ℕ) (slots : Slots) (before now now' : ℕ → ℕ) (list found found' : List ℕ) (at : ℕ)
    → AreWalked pages count level slots before now list found at → IsWalkedSlot pages count level (slots at) now now' found found' → AreWalked pages count level slots before now' list found' (suc at)
unfolding sum_to chained
walked-suc pages count level slots before now now' list found found' at w s = record {
  items = λ i l. ⊎_elim
      (λ (e : i ≡ at). subst (λ (k : ℕ). Held (λ y. IsItem (nodes_in pages) level y) (slots k)) (sym e) s.item)
      (λ (k : i < at). w.items i k)
      (at_end at i l);
  counted = λ n u. let a = w.counted n u in let b = s.counted n u in omega arith;
  met = λ n. let a = w.met n in let b = s.met n in omega arith;
  gives = s.gives ∙ ap (λ (x : List ℕ). x ++ listed (λ y. pages_below (nodes_in pages) level y) (slots at)) w.gives
      ∙ append_assoc list (slot_pages pages level slots at) (listed (λ y. pages_below (nodes_in pages) level y) (slots at));
}

-- one slot more was walked
walked-more : (pages : PageMap) (count level : ℕ) (slots : Slots) (before now now' : ℕ → ℕ) (list found found' : List ℕ) (at : ℕ)
    → AreWalked pages count level slots before now list found at → IsWalkedSlot pages count level (slots at) now now' found found' → AreWalked pages count level slots before now' list found' (at + 1)
walked-more pages count level slots before now now' list found found' at w s =
    let e : suc at ≡ at + 1 = omega arith in
    subst (λ (k : ℕ). AreWalked pages count level slots before now' list found' k) e (walked-suc pages count level slots before now now' list found found' at w s)

-- the same over pages that are the same
pub walked-more_on : (pages pages' : PageMap) (count count' : ℕ) → pages' ≡ pages → count' ≡ count → (level : ℕ) (slots : Slots) (before now now' : ℕ → ℕ) (list found found' : List ℕ) (at : ℕ)
    → AreWalked pages count level slots before now list found at → IsWalkedSlot pages' count' level (slots at) now now' found found' → AreWalked pages count level slots before now' list found' (at + 1)
walked-more_on pages pages' count count' same many level slots before now now' list found found' at w s =
    walked-more pages count level slots before now now' list found found' at w
    (subst (λ (p : PageMap). IsWalkedSlot p count level (slots at) now now' found found') same (subst (λ (k : ℕ). IsWalkedSlot pages' k level (slots at) now now' found found') many s))

-- nothing is below a leaf's slots
walked-leaf : (pages : PageMap) (count : ℕ) (slots : Slots) (before : ℕ → ℕ) (list : List ℕ) (at : ℕ) → AreWalked pages count 0 slots before before list list at
walked-leaf pages count slots before list zero = walked-none pages count 0 slots before list
walked-leaf pages count slots before list (suc at) =
    walked-suc pages count 0 slots before before before list list list at (walked-leaf pages count slots before list at) (slot-leaf pages count (slots at) before list)

pub walked-leaf_at : (pages : PageMap) (count level : ℕ) (slots : Slots) (before : ℕ → ℕ) (list : List ℕ) → level ≡ 0 → AreWalked pages count level slots before before list list 32
walked-leaf_at pages count level slots before list e =
    subst (λ (k : ℕ). AreWalked pages count k slots before before list list 32) (sym e) (walked-leaf pages count slots before list 32)

-- A child was walked, and its rectangle is the least one round what is below it. The walk saw pages that are the same.
pub slot-walked : (pages pages' : PageMap) (count count' : ℕ) → pages' ≡ pages → count' ≡ count → (level l : ℕ) → level ≡ suc l → (slot : Option Item) (x : Item) → slot ≡ Some x
    → (before mid after : ℕ → ℕ) (list found : List ℕ) → (IsUncounted count x.to → ⊥) → ((n : ℕ) → mid n ≡ before n + one_at x.to n)
    → ((d : ℕ) → x.reach d ≡ tops d (slots_in (pages x.to))) → IsWalked pages' count' 12 l x.to mid after list found → IsWalkedSlot pages count level slot before after list found
slot-walked pages pages' count count' same many level l up slot x is before mid after list found known enters reach walked =
    let w : IsWalked pages count 12 l x.to mid after list found =
    subst (λ (p : PageMap). IsWalked p count 12 l x.to mid after list found) same (subst (λ (k : ℕ). IsWalked pages' k 12 l x.to mid after list found) many walked) in
    subst (λ (k : ℕ). IsWalkedSlot pages count k slot before after list found) (sym up)
    (subst (λ (o : Option Item). IsWalkedSlot pages count (suc l) o before after list found) (sym is) (record {
      item = (w.node, reach);
      counted = λ n u. let a = one-known count x.to n known u in let b = w.counted n u in omega arith;
      met = λ n. let a = enters n in let b = w.met n in omega arith;
      gives = w.gives;
    }))

-- A node was walked by its slots, and its page joined the list.
pub node-walked : (pages : PageMap) (count least level page : ℕ) (bytes : List ℕ) → bytes ≡ pages page → (before after : ℕ → ℕ) (list found found' : List ℕ)
    → IsPlaced least level bytes → AreWalked pages count level (slots_in bytes) before after list found 32 → found' ≡ found ++ (page ∷ [])
    → IsWalked pages count least level page before after list found'
unfolding amount
node-walked pages count least level page bytes is before after list found found' placed_by walked push =
    let w : AreWalked pages count level (slots_in (pages page)) before after list found 32 = subst (λ (b : List ℕ). AreWalked pages count level (slots_in b) before after list found 32) is walked in
    let placed : IsPlaced least level (pages page) = subst (IsPlaced least level) is placed_by in
    record {
      node = record {
        level_is = ap (λ (v : NodeView). v.level) (form-node (pages page) placed.form) ∙ placed.level_is;
        some = placed.some;
        items = w.items;
      };
      counted = w.counted;
      met = w.met;
      gives = push ∙ ap (λ (x : List ℕ). x ++ (page ∷ [])) w.gives ∙ append_assoc list (slot_pages pages level (slots_in (pages page)) 32) (page ∷ []);
    }

-- a page breaks a rule as a node's
pub placed-broken : (pages : PageMap) (count least level page : ℕ) (bytes : List ℕ) → bytes ≡ pages page → (before : ℕ → ℕ) (rule : Rule) → BreaksPlaced rule least level bytes
    → (damage : Damage) → record { page = page; rule = rule } ≡ damage → IsBrokenBelow pages count before least level page damage
placed-broken pages count least level page bytes is before rule b damage e =
    subst (λ (d : Damage). IsBrokenBelow pages count before least level page d) e (inr (inl (refl, subst (BreaksPlaced rule least level) is b)))

-- what is damaged in a node's slots is so below the node
pub node-broken : (pages : PageMap) (count least level page : ℕ) (bytes : List ℕ) → bytes ≡ pages page → (before : ℕ → ℕ) (damage : Damage)
    → AreBrokenSlots pages count before level page (slots_in bytes) damage → IsBrokenBelow pages count before least level page damage
unfolding amount
node-broken pages count least level page bytes is before damage broken =
    ⊎_elim
    (λ (m : IsMisused count before (slot_uses pages level (slots_in (pages page)) 32) damage). inl m)
    (λ (s : SomeItem (λ y. IsWrongItem pages damage level page y) (slots_in (pages page))). inr (inr s))
    (subst (λ (b : List ℕ). AreBrokenSlots pages count before level page (slots_in b) damage) is broken)

-- what is damaged in a slot is so in the slots
slots-broken : (pages : PageMap) (count level page : ℕ) (slots : Slots) (before now : ℕ → ℕ) (list found : List ℕ) (at : ℕ) → AreWalked pages count level slots before now list found at → at < 32
    → (damage : Damage) → IsBrokenSlot pages count now level page (slots at) damage → AreBrokenSlots pages count before level page slots damage
slots-broken pages count level page slots before now list found at w small damage b =
    let f : ℕ → ℕ → ℕ = λ n i. got (λ y. uses (nodes_in pages) level y n) (slots i) in
    let here : (n : ℕ) → f n at ≡ uses (nodes_in pages) level b.item n = λ n. ap (got (λ y. uses (nodes_in pages) level y n)) b.is in
    ⊎_elim
    (λ (m : IsMisused count now (uses (nodes_in pages) level b.item) damage). inl (misused-up count now before (uses (nodes_in pages) level b.item) (slot_uses pages level slots 32) damage
    (λ n. let a = w.met n in let p = sum-part 32 at (f n) small in let h = here n in omega arith)
    (λ n. let p = sum-part 32 at (f n) small in let h = here n in omega arith) m))
    (λ (g : IsWrongItem pages damage level page b.item). inr (record { at = at; within = small; item = b.item; is = b.is; holds = g }))
    b.breaks

-- the same over pages that are the same
pub slots-broken_on : (pages pages' : PageMap) (count count' : ℕ) → pages' ≡ pages → count' ≡ count → (level page : ℕ) (slots : Slots) (before now : ℕ → ℕ) (list found : List ℕ) (at : ℕ)
    → AreWalked pages count level slots before now list found at → at < 32 → (damage : Damage) → IsBrokenSlot pages' count' now level page (slots at) damage
    → AreBrokenSlots pages count before level page slots damage
slots-broken_on pages pages' count count' same many level page slots before now list found at w small damage b =
    slots-broken pages count level page slots before now list found at w small damage
    (subst (λ (p : PageMap). IsBrokenSlot p count now level page (slots at) damage) same (subst (λ (k : ℕ). IsBrokenSlot pages' k now level page (slots at) damage) many b))

-- a child's page is misused
pub enter-broken : (pages : PageMap) (count level l page : ℕ) → level ≡ suc l → (slot : Option Item) (x : Item) → slot ≡ Some x → (before : ℕ → ℕ) (damage : Damage)
    → IsMisused count before (one_at x.to) damage → IsBrokenSlot pages count before level page slot damage
enter-broken pages count level l page up slot x is before damage m =
    subst (λ (k : ℕ). IsBrokenSlot pages count before k page slot damage) (sym up) (record {
      item = x;
      is = is;
      breaks = inl (misused-up count before before (one_at x.to) (uses (nodes_in pages) (suc l) x) damage (λ n. omega arith) (λ n. omega arith) m);
    })

-- what is damaged below a child's page
pub below-broken : (pages pages' : PageMap) (count count' : ℕ) → pages' ≡ pages → count' ≡ count → (level l page : ℕ) → level ≡ suc l → (slot : Option Item) (x : Item) → slot ≡ Some x
    → (before mid : ℕ → ℕ) → ((n : ℕ) → mid n ≡ before n + one_at x.to n) → (damage : Damage)
    → IsBrokenBelow pages' count' mid 12 l x.to damage → IsBrokenSlot pages count before level page slot damage
below-broken pages pages' count count' same many level l page up slot x is before mid enters damage broken =
    let b : IsBrokenBelow pages count mid 12 l x.to damage =
    subst (λ (p : PageMap). IsBrokenBelow p count mid 12 l x.to damage) same (subst (λ (k : ℕ). IsBrokenBelow pages' k mid 12 l x.to damage) many broken) in
    subst (λ (k : ℕ). IsBrokenSlot pages count before k page slot damage) (sym up) (record {
      item = x;
      is = is;
      breaks = ⊎_elim
          (λ (m : IsMisused count mid (beneath (nodes_in pages) l x.to) damage). inl (misused-up count mid before (beneath (nodes_in pages) l x.to) (uses (nodes_in pages) (suc l) x) damage
          (λ n. let a = enters n in omega arith) (λ n. omega arith) m))
          (λ (g : IsDamaged pages damage 12 l x.to). inr (inr g))
          b;
    })

-- a child's rectangle isn't the least one round what is below it
pub rect-broken : (pages pages' : PageMap) (count count' : ℕ) → pages' ≡ pages → count' ≡ count → (level l page : ℕ) → level ≡ suc l → (slot : Option Item) (x : Item) → slot ≡ Some x
    → (before mid after : ℕ → ℕ) (list found : List ℕ) → IsWalked pages' count' 12 l x.to mid after list found
    → (((d : ℕ) → x.reach d ≡ tops d (slots_in (pages x.to))) → ⊥) → (damage : Damage) → record { page = page; rule = Rect } ≡ damage → IsBrokenSlot pages count before level page slot damage
rect-broken pages pages' count count' same many level l page up slot x is before mid after list found walked apart damage e =
    let w : IsWalked pages count 12 l x.to mid after list found =
    subst (λ (p : PageMap). IsWalked p count 12 l x.to mid after list found) same (subst (λ (k : ℕ). IsWalked pages' k 12 l x.to mid after list found) many walked) in
    subst (λ (k : ℕ). IsBrokenSlot pages count before k page slot damage) (sym up) (record {
      item = x;
      is = is;
      breaks = inr (inl (sym e, record { node = w.node; apart = apart }));
    })
