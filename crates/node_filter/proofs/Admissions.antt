-- The slots that an expression admits, from those that its parts admit.
use Rattle.std.proofs.Common.{◌≡◌, ℕ, zero, suc, ◌^◌, ◌<◌, ◌≤◌, Bool, true, false, not, ◌&&◌, ◌||◌, nat_lt, refl, ap, ◌∙◌, bit_and, bit_or, List, arith}
use Rattle.std.specs.Int.{bit_not, w32}
use Rattle.place_values.specs.declared.query.Expr.{Expr}
use Rattle.node_filter.specs.Masks.{has_slot, Marks}
use Rattle.node_filter.specs.Filters.{admits, meets, may_meet}
use Rattle.node_filter.proofs.Marking.{slot-and, slot-or, slot-not}

-- a row's slots among those of a mask
pub marks-row : (used row : ℕ) (bytes : ℕ → ℕ) (zero_above : ℕ → ℕ) → Marks row (λ i. nat_lt 0 (bytes i)) → ((i : ℕ) → bytes i ≡ zero_above i) → Marks (bit_and used row) (λ i. has_slot used i && nat_lt 0 (zero_above i))
marks-row used row bytes bytes' h e i l = slot-and used row i ∙ ap (λ (b : Bool). has_slot used i && b) (h i l ∙ ap (λ (n : ℕ). nat_lt 0 n) (e i))

less : (u a : Bool) → (u && not (u && a)) ≡ (u && not a)
less true a = refl
less false a = refl

-- a leaf's slots that don't meet an expression
pub marks-not : (used left : ℕ) (test : ℕ → Bool) → left < 2 ^ 32 → Marks left (λ i. has_slot used i && test i) → Marks (bit_and used (bit_not w32 left)) (λ i. has_slot used i && not (test i))
marks-not used left test small h i l =
    slot-and used (bit_not w32 left) i ∙ ap (λ (b : Bool). has_slot used i && b) (slot-not left i small l ∙ ap not (h i l)) ∙ less (has_slot used i) (test i)

any : (u : Bool) → u ≡ (u && true)
any true = refl
any false = refl

both : (u a b : Bool) → ((u && a) && b) ≡ (u && (a && b))
both true a b = refl
both false a b = refl

either : (u a b : Bool) → ((u && a) || ((u && not (u && a)) && b)) ≡ (u && (a || b))
either true true b = refl
either true false b = refl
either false a b = refl

-- the slots of the left side and, of the others, of the right one
pub marks-or : (used left right : ℕ) (a b : ℕ → Bool) → left < 2 ^ 32 → Marks left (λ i. has_slot used i && a i) → Marks right (λ i. has_slot (bit_and used (bit_not w32 left)) i && b i)
    → Marks (bit_or left right) (λ i. has_slot used i && (a i || b i))
marks-or used left right a b small h k i l =
    let rest : has_slot (bit_and used (bit_not w32 left)) i ≡ (has_slot used i && not (has_slot used i && a i)) =
    slot-and used (bit_not w32 left) i ∙ ap (λ (x : Bool). has_slot used i && x) (slot-not left i small l ∙ ap not (h i l)) in
    slot-or left right i ∙ ap (λ (x : Bool). x || has_slot right i) (h i l)
    ∙ ap (λ (x : Bool). (has_slot used i && a i) || x) (k i l ∙ ap (λ (x : Bool). x && b i) rest)
    ∙ either (has_slot used i) (a i) (b i)

full : (u a b : Bool) → u ≡ (u && a) → u ≡ (u && (a || b))
full true true b e = refl
full true false b e = absurd (cc)
full false a b e = refl

pub admits-not : (level : ℕ) (f : List ℕ → ℕ) (filter one : Expr) → level ≤ 0 → meets f filter ≡ not (meets f one) → admits level f filter ≡ not (admits level f one)
admits-not zero f filter one l e = e
admits-not (suc level) f filter one l e = absurd (omega arith)

pub admits-or : (level : ℕ) (f : List ℕ → ℕ) (filter one other : Expr) → meets f filter ≡ (meets f one || meets f other) → may_meet f filter ≡ (may_meet f one || may_meet f other)
    → admits level f filter ≡ (admits level f one || admits level f other)
admits-or zero f filter one other e m = e
admits-or (suc level) f filter one other e m = m
