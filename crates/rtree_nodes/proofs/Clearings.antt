-- Slots that are cleared one after another in two copies of a node.
use Rattle.std.proofs.Common.{◌≡◌, ℕ, ◌+◌, ◌<◌, ◌≤◌, Bool, true, false, ◌&&◌, not, nat_lt, List, Option, None, arith, refl, sym, ap, ◌∙◌, ⊎_elim}
use Rattle.std.specs.Prelude.{◌==◌, if◌then◌else◌}
use Rattle.std.specs.Int.{bit_at}
use Rattle.std.proofs.Math.Path.{fun_ext}
use Rattle.std.proofs.lemmas.Bool.{cases_eq, cases_lt, eq-eqb, ne_eqb, lt-ltb, le-ltb}
use Rattle.rtree_nodes.specs.Slots.{Item, Slots, without_slot}
use Rattle.rtree_nodes.specs.Masks.{kept_of, moved_of}
use Rattle.rtree_nodes.specs.Pages.{is_form, slots_in}
use Rattle.rtree_nodes.proofs.Formed.{form-slots, stored-past}

-- the first n slots have been gone through
abbrev pub kept_to : ℕ → ℕ → Slots → Slots
kept_to n mask slots i = if nat_lt i n && (bit_at mask i == 1) then None else slots i

abbrev pub moved_to : ℕ → ℕ → Slots → Slots
moved_to n mask slots i = if nat_lt i n && not (bit_at mask i == 1) then None else slots i

-- the slots that were gone through are without those of a test
abbrev gone_to : ℕ → (ℕ → Bool) → Slots → Slots
gone_to n test slots i = if nat_lt i n && test i then None else slots i

gone-none : (test : ℕ → Bool) (slots : Slots) → slots ≡ gone_to 0 test slots
gone-none test slots = fun_ext (λ i. rw (le-ltb i 0 (omega arith)) refl)

above : (i n : ℕ) → n ≤ i → (i ≡ n → ⊥) → n + 1 ≤ i
above i n l ne = grind arith

-- any other slot is gone through already, or isn't yet
pub same : (i n : ℕ) → (i ≡ n → ⊥) → nat_lt i n ≡ nat_lt i (n + 1)
same i n ne = ⊎_elim
    (λ (l : i < n). lt-ltb i n l ∙ sym (lt-ltb i (n + 1) (omega arith)))
    (λ (l : n ≤ i). le-ltb i n l ∙ sym (le-ltb i (n + 1) (above i n l ne)))
    (cases_lt i n)

-- one that goes
gone-more : (n : ℕ) (test : ℕ → Bool) (slots : Slots) → test n ≡ true → without_slot n (gone_to n test slots) ≡ gone_to (n + 1) test slots
gone-more n test slots t = fun_ext (λ i. ⊎_elim
    (λ (e : i ≡ n). rw (eq-eqb i n e, lt-ltb i (n + 1) (omega arith)) (sym (ap (λ (b : Bool). if b then None else slots i) (ap test e ∙ t))))
    (λ (ne : i ≡ n → ⊥). ap (λ (b : Bool). if b then None else gone_to n test slots i) (ne_eqb i n ne) ∙ ap (λ (b : Bool). if b && test i then None else slots i) (same i n ne))
    (cases_eq i n))

-- one that stays
gone-same : (n : ℕ) (test : ℕ → Bool) (slots : Slots) → test n ≡ false → gone_to n test slots ≡ gone_to (n + 1) test slots
gone-same n test slots f = fun_ext (λ i. ⊎_elim
    (λ (e : i ≡ n). rw (le-ltb i n (omega arith), lt-ltb i (n + 1) (omega arith)) (sym (ap (λ (b : Bool). if b then None else slots i) (ap test e ∙ f))))
    (λ (ne : i ≡ n → ⊥). ap (λ (b : Bool). if b && test i then None else slots i) (same i n ne))
    (cases_eq i n))

pub kept-none : (mask : ℕ) (slots : Slots) → slots ≡ kept_to 0 mask slots
kept-none mask slots = gone-none (λ i. bit_at mask i == 1) slots

pub moved-none : (mask : ℕ) (slots : Slots) → slots ≡ moved_to 0 mask slots
moved-none mask slots = gone-none (λ i. not (bit_at mask i == 1)) slots

-- one slot more goes from one of the two
pub kept-more : (n mask : ℕ) (slots here next : Slots) (moves : Bool) → moves ≡ (bit_at mask n == 1) → here ≡ kept_to n mask slots
    → next ≡ (if moves then without_slot n here else here) → next ≡ kept_to (n + 1) mask slots
kept-more n mask slots here next true m h e = e ∙ ap (without_slot n) h ∙ gone-more n (λ i. bit_at mask i == 1) slots (sym m)
kept-more n mask slots here next false m h e = e ∙ h ∙ gone-same n (λ i. bit_at mask i == 1) slots (sym m)

pub moved-more : (n mask : ℕ) (slots here next : Slots) (moves : Bool) → moves ≡ (bit_at mask n == 1) → here ≡ moved_to n mask slots
    → next ≡ (if moves then here else without_slot n here) → next ≡ moved_to (n + 1) mask slots
moved-more n mask slots here next true m h e = e ∙ h ∙ gone-same n (λ i. not (bit_at mask i == 1)) slots (ap not (sym m))
moved-more n mask slots here next false m h e = e ∙ ap (without_slot n) h ∙ gone-more n (λ i. not (bit_at mask i == 1)) slots (ap not (sym m))

-- a node has no slot behind the last
slots-past : (page : List ℕ) (i : ℕ) → is_form page ≡ true → 32 ≤ i → slots_in page i ≡ None
slots-past page i form l = ap (λ (s : Slots). s i) (form-slots page form) ∙ stored-past page i l

-- all 32 have been gone through
pub kept-all : (page : List ℕ) (mask : ℕ) → is_form page ≡ true → kept_to 32 mask (slots_in page) ≡ kept_of mask (slots_in page)
kept-all page mask form = fun_ext (λ i. ⊎_elim
    (λ (l : i < 32). ap (λ (b : Bool). if b && (bit_at mask i == 1) then None else slots_in page i) (lt-ltb i 32 l))
    (λ (l : 32 ≤ i). ap (λ (b : Bool). if b && (bit_at mask i == 1) then None else slots_in page i) (le-ltb i 32 l) ∙ past (bit_at mask i == 1) (slots_in page i) (slots-past page i form l))
    (cases_lt i 32))
  where
    past : (b : Bool) (o : Option Item) → o ≡ None → o ≡ (if b then None else o)
    past true o e = e
    past false o e = refl

pub moved-all : (page : List ℕ) (mask : ℕ) → is_form page ≡ true → moved_to 32 mask (slots_in page) ≡ moved_of mask (slots_in page)
moved-all page mask form = fun_ext (λ i. ⊎_elim
    (λ (l : i < 32). ap (λ (b : Bool). if b && not (bit_at mask i == 1) then None else slots_in page i) (lt-ltb i 32 l) ∙ turned (bit_at mask i == 1) (slots_in page i))
    (λ (l : 32 ≤ i). ap (λ (b : Bool). if b && not (bit_at mask i == 1) then None else slots_in page i) (le-ltb i 32 l) ∙ past (bit_at mask i == 1) (slots_in page i) (slots-past page i form l))
    (cases_lt i 32))
  where
    turned : (b : Bool) (o : Option Item) → (if not b then None else o) ≡ (if b then o else None)
    turned true o = refl
    turned false o = refl

    past : (b : Bool) (o : Option Item) → o ≡ None → o ≡ (if b then o else None)
    past true o e = refl
    past false o e = e
