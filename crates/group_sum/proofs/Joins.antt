-- Choices that are split into two, and joined again.
use Rattle.std.proofs.Common.{◌≡◌, ℕ, ◌+◌, ◌<◌, ◌≤◌, Bool, true, false, not, List, [], ◌∷◌, map, length, refl, sym, ap, subst, ◌∙◌, arith}
use Rattle.std.specs.Cmp.Lexicographic.{slice_cmp}
use Rattle.std.specs.Ordering.{ordering_then}
use Rattle.std.proofs.lemmas.Cmp.{tied_itself}
use Rattle.std.specs.declared.cmp.Ordering.{Ordering}
use Rattle.std.specs.declared.cmp.Ordering.TheVariants.{Less, Equal, Greater}
use Rattle.place_values.specs.declared.query.Pick.{Pick}
use Rattle.place_values.specs.Group.{pick_cmp}
use Rattle.place_values.specs.GroupLaws.{pick_cmp_total}
use Rattle.group_search.specs.Choices.{IsChoice}
use Rattle.group_sum.specs.Sets.{flagged}
use Rattle.group_sum.specs.Splits.{joined}

-- the other side
abbrev pub others : List Bool → List Bool
others sides = map not sides

not-not : (b : Bool) → not (not b) ≡ b
not-not true = refl
not-not false = refl

pub others-others : (sides : List Bool) → others (others sides) ≡ sides
others-others [] = refl
others-others (b ∷ sides) = let p = not-not b in let q = others-others sides in cc

-- a choice has the lists' length
pub choice-length : {X : Type 0} (lists : List (List X)) (choice : List X) → IsChoice lists choice → length choice ≡ length lists
choice-length [] [] h = refl
choice-length [] (x ∷ xs) h = absurd h
choice-length (list ∷ lists) [] h = absurd h
choice-length (list ∷ lists) (x ∷ xs) h = let ih = choice-length lists xs h.1 in omega arith

-- a part of a choice is a choice of its lists
pub part-choice : {X : Type 0} (sides : List Bool) (lists : List (List X)) (choice : List X) → IsChoice lists choice → IsChoice (flagged sides lists) (flagged sides choice)
part-choice [] lists choice h = tt
part-choice (b ∷ sides) [] [] h = tt
part-choice (b ∷ sides) [] (x ∷ xs) h = absurd h
part-choice (b ∷ sides) (list ∷ lists) [] h = absurd h
part-choice (true ∷ sides) (list ∷ lists) (x ∷ xs) h = (h.0, part-choice sides lists xs h.1)
part-choice (false ∷ sides) (list ∷ lists) (x ∷ xs) h = part-choice sides lists xs h.1

-- choices of two parts join to a choice
pub joined-choice : (sides : List Bool) (lists : List (List Pick)) (a b : List Pick) → length sides ≡ length lists → IsChoice (flagged sides lists) a → IsChoice (flagged (others sides) lists) b
    → IsChoice lists (joined sides a b)
joined-choice [] [] a b e h k = tt
joined-choice [] (list ∷ lists) a b e h k = absurd (omega arith)
joined-choice (s ∷ sides) [] a b e h k = absurd (omega arith)
joined-choice (true ∷ sides) (list ∷ lists) [] b e h k = absurd h
joined-choice (true ∷ sides) (list ∷ lists) (x ∷ a) b e h k = (h.0, joined-choice sides lists a b (omega arith) h.1 k)
joined-choice (false ∷ sides) (list ∷ lists) a [] e h k = absurd k
joined-choice (false ∷ sides) (list ∷ lists) a (x ∷ b) e h k = (k.0, joined-choice sides lists a b (omega arith) h k.1)

-- the parts of a choice join to it
pub joined-parts : (sides : List Bool) (choice : List Pick) → length sides ≡ length choice → joined sides (flagged sides choice) (flagged (others sides) choice) ≡ choice
joined-parts [] [] e = refl
joined-parts [] (x ∷ xs) e = absurd (omega arith)
joined-parts (s ∷ sides) [] e = absurd (omega arith)
joined-parts (true ∷ sides) (x ∷ xs) e = ap (λ l. x ∷ l) (joined-parts sides xs (omega arith))
joined-parts (false ∷ sides) (x ∷ xs) e = ap (λ l. x ∷ l) (joined-parts sides xs (omega arith))

-- it doesn't matter which part is named first
pub joined-other : (sides : List Bool) (a b : List Pick) → joined (others sides) b a ≡ joined sides a b
joined-other [] a b = refl
joined-other (true ∷ sides) [] b = joined-other sides [] b
joined-other (true ∷ sides) (x ∷ a) b = ap (λ l. x ∷ l) (joined-other sides a b)
joined-other (false ∷ sides) a [] = joined-other sides a []
joined-other (false ∷ sides) a (x ∷ b) = ap (λ l. x ∷ l) (joined-other sides a b)

behind : (o : Ordering) (k l : Ordering) → ordering_then o k ≡ Less → (k ≡ Less → l ≡ Less) → ordering_then o l ≡ Less
behind Less k l h f = refl
behind Equal k l h f = f h
behind Greater k l h f = absurd (cc)

-- a lesser part makes a lesser choice
pub joined-less : (sides : List Bool) (lists : List (List Pick)) (a c b : List Pick) → length sides ≡ length lists → IsChoice (flagged sides lists) a → IsChoice (flagged sides lists) c → IsChoice (flagged (others sides) lists) b
    → slice_cmp pick_cmp a c ≡ Less → slice_cmp pick_cmp (joined sides a b) (joined sides c b) ≡ Less
joined-less [] [] [] [] b e h i k l = absurd (cc)
joined-less [] [] (x ∷ a) c b e h i k l = absurd h
joined-less [] [] [] (x ∷ c) b e h i k l = absurd i
joined-less [] (list ∷ lists) a c b e h i k l = absurd (omega arith)
joined-less (s ∷ sides) [] a c b e h i k l = absurd (omega arith)
joined-less (true ∷ sides) (list ∷ lists) [] c b e h i k l = absurd h
joined-less (true ∷ sides) (list ∷ lists) (x ∷ a) [] b e h i k l = absurd i
joined-less (true ∷ sides) (list ∷ lists) (x ∷ a) (y ∷ c) b e h i k l =
    behind (pick_cmp x y) (slice_cmp pick_cmp a c) (slice_cmp pick_cmp (joined sides a b) (joined sides c b)) l (joined-less sides lists a c b (omega arith) h.1 i.1 k)
joined-less (false ∷ sides) (list ∷ lists) a c [] e h i k l = absurd k
joined-less (false ∷ sides) (list ∷ lists) a c (x ∷ b) e h i k l =
    subst (λ o. ordering_then o (slice_cmp pick_cmp (joined sides a b) (joined sides c b)) ≡ Less) (sym (tied_itself pick_cmp_total x)) (joined-less sides lists a c b (omega arith) h i k.1 l)
