-- A table that grows.
use Rattle.std.proofs.Common.{◌≡◌, ℕ, zero, suc, ◌+◌, ◌-◌, ◌*◌, ◌/◌, ◌^◌, ◌<◌, ◌≤◌, Bool, true, false, cond, ◌||◌, ◌==◌, List, [], ◌∷◌, ◌++◌, length, get_or, length-append, Option, Some, None, bit_and, bit_xor, refl, sym, ap, subst, ◌∙◌, arith, ◌⊎◌, inl, inr, ⊎_elim}
use Rattle.std.specs.List.{Contains, flat_map}
use Rattle.std.proofs.lemmas.Bool.{cases_eq, cases_lt, cond_both}
use Rattle.std.proofs.lemmas.Nat.Bits.{bit_at-zero}
use Rattle.std.proofs.Math.Pow.{pow_mono}
use Rattle.spatial_base.specs.Point.{Viewpoint, distance}
use Rattle.place_values.specs.declared.hit.Hit.{Hit}
use Rattle.place_values.specs.declared.query.Pick.{Pick}
use Rattle.place_values.specs.declared.query.Chosen.{Chosen}
use Rattle.place_values.specs.Group.{product, least_by}
use Rattle.place_values.specs.Sum.{sum_cost}
use Rattle.group_sum.specs.Sets.{has_word, flags_from, flagged, in_set}
use Rattle.group_sum.specs.Splits.{sides_of, joined, is_one_place, joined_of, split_at, IsPart, comes_first, IsFirstSplit, IsLeastSplit, first_of}
use Rattle.group_sum.specs.Shared.{AreNamed, IsNearestShared, limit_of, shared_picks, shared_choice, better_of}
use Rattle.group_sum.specs.Tables.{AreLeast, AreLow, cost_in}
use Rattle.group_sum.proofs.Masks.{rest-sum}
use Rattle.group_sum.proofs.Steps.{better-least}

none-flagged : {X : Type 0} (n i : ℕ) (xs : List X) → flagged (flags_from 0 i n) xs ≡ []
none-flagged zero i xs = refl
none-flagged (suc n) i [] = refl
none-flagged (suc n) i (x ∷ xs) = let a : has_word 0 i ≡ false = ap (λ (n : ℕ). n == 1) (bit_at-zero i) in rw a (none-flagged n (i + 1) xs)

-- the empty set has the empty choice
pub first-least : (lists : List (List Pick)) (kept old : List (Option Chosen)) (picks : List Pick) → old ≡ [] → picks ≡ [] → kept ≡ old ++ Some record { cost = 0; picks = picks } ∷ [] → AreLeast lists kept
first-least lists kept old picks e f is set below =
    let one : kept ≡ Some record { cost = 0; picks = [] } ∷ [] = is ∙ (λ i. e i ++ Some record { cost = 0; picks = f i } ∷ []) in
    let zero : set ≡ 0 = omega (arith, ap length one) in
    (λ i. get_or (one i) (zero i) None) ∙ sym ((λ i. least_by sum_cost (product (in_set (zero i) lists))) ∙ ap (λ l. least_by sum_cost (product l)) (none-flagged (length lists) 0 lists))

-- ---- what a choice costs at most

-- fewer than 2^64 in all
pub costs-fit : (a b set count : ℕ) → a + b ≤ 2545584412 * set → set < 2 ^ count → count ≤ 8 → a + b < 2 ^ 64
costs-fit a b set count at_most below few = let p : 2 ^ count ≤ 2 ^ 8 = pow_mono few in omega arith

first-low : (n : ℕ) (best other : Option Chosen) → cost_in best ≤ n → cost_in other ≤ n → cost_in (first_of best other) ≤ n
first-low n best None h k = h
first-low n None (Some other) h k = k
first-low n (Some best) (Some other) h k = cond_both (comes_first other best) (Some other) (Some best) (λ c. cost_in c ≤ n) (λ t. k) (λ f. h)

joined-low : (n : ℕ) (sides : List Bool) (x y : Option Chosen) (best : Chosen) → joined_of sides x y ≡ Some best → cost_in x + cost_in y ≤ n → best.cost ≤ n
joined-low n sides None y best e h = absurd (cc)
joined-low n sides (Some a) None best e h = absurd (cc)
joined-low n sides (Some a) (Some b) best e h = go (is_one_place a.picks || is_one_place b.picks) e
  where
    go : (t : Bool) → cond t (Some record { cost = a.cost + b.cost; picks = joined sides a.picks b.picks }) None ≡ Some best → best.cost ≤ n
    go false e = absurd (cc)
    go true e = let same : a.cost + b.cost ≡ best.cost = cc in omega arith

pub split-low : (count : ℕ) (kept : List (Option Chosen)) (set : ℕ) (split : Option Chosen) → AreLow kept → IsLeastSplit count kept set split → cost_in split ≤ 2545584412 * set
split-low count kept set None low h = omega arith
split-low count kept set (Some best) low h =
    let part : ℕ = h.among.0 in
    let sum = rest-sum set part (h.among.1.within) in
    let a = low part in let b = low (bit_xor set part) in
    joined-low (2545584412 * set) (sides_of count set part) (get_or kept part None) (get_or kept (bit_xor set part) None) best h.among.2 (omega arith)

get-before : (kept : List (Option Chosen)) (best : Option Chosen) (set : ℕ) → set < length kept → get_or (kept ++ best ∷ []) set None ≡ get_or kept set None
get-before [] best set l = absurd (omega arith)
get-before (k ∷ kept) best zero l = refl
get-before (k ∷ kept) best (suc set) l = get-before kept best set (omega arith)

get-last : (kept : List (Option Chosen)) (best : Option Chosen) (set : ℕ) → set ≡ length kept → get_or (kept ++ best ∷ []) set None ≡ best
get-last [] best set e = ap (λ n. get_or (best ∷ []) n None) e
get-last (k ∷ kept) best zero e = absurd (omega arith)
get-last (k ∷ kept) best (suc set) e = get-last kept best set (omega arith)

get-behind : (kept : List (Option Chosen)) (best : Option Chosen) (set : ℕ) → length kept < set → get_or (kept ++ best ∷ []) set None ≡ None
get-behind [] best zero l = absurd (omega arith)
get-behind [] best (suc set) l = refl
get-behind (k ∷ kept) best zero l = absurd (omega arith)
get-behind (k ∷ kept) best (suc set) l = get-behind kept best set (omega arith)

-- one more choice that isn't too dear
pub low-more : (kept new : List (Option Chosen)) (best : Option Chosen) → AreLow kept → cost_in best ≤ 2545584412 * length kept → new ≡ kept ++ best ∷ [] → AreLow new
low-more kept new best low at_most is set = ⊎_elim
    (λ (l : set < length kept). subst (λ c. cost_in c ≤ 2545584412 * set) (sym (ap (λ k. get_or k set None) is ∙ get-before kept best set l)) (low set))
    (λ le. ⊎_elim
    (λ (e : set ≡ length kept). subst (λ c. cost_in c ≤ 2545584412 * set) (sym (ap (λ k. get_or k set None) is ∙ get-last kept best set e)) (omega arith))
    (λ ne. subst (λ c. cost_in c ≤ 2545584412 * set) (sym (ap (λ k. get_or k set None) is ∙ get-behind kept best set (omega arith))) (omega arith))
    (cases_eq set (length kept)))
    (cases_lt set (length kept))

-- what is kept, the least split or the nearest place, isn't too dear
pub split-kept : (count : ℕ) (kept : List (Option Chosen)) (split best : Option Chosen) → AreLow kept → IsLeastSplit count kept (length kept) split → best ≡ split → cost_in best ≤ 2545584412 * length kept
split-kept count kept split best low h e = subst (λ c. cost_in c ≤ 2545584412 * length kept) (sym e) (split-low count kept (length kept) split low h)

pub place-kept : (count : ℕ) (kept : List (Option Chosen)) (split best : Option Chosen) (dist : ℕ) (picks : List Pick) → AreLow kept → 0 < length kept → IsLeastSplit count kept (length kept) split → dist ≤ 2545584412
    → best ≡ first_of split (Some record { cost = dist; picks = picks }) → cost_in best ≤ 2545584412 * length kept
place-kept count kept split best dist picks low some h far e =
    let own = split-low count kept (length kept) split low h in
    subst (λ c. cost_in c ≤ 2545584412 * length kept) (sym e) (first-low (2545584412 * length kept) split (Some record { cost = dist; picks = picks }) own (omega arith))

-- a table that grew, or didn't
pub grown-low : (grew : Bool) (kept new : List (Option Chosen)) (best : Option Chosen) → AreLow kept → cost_in best ≤ 2545584412 * length kept → new ≡ cond grew (kept ++ best ∷ []) kept → AreLow new
grown-low true kept new best low at_most is = low-more kept new best low at_most is
grown-low false kept new best low at_most is = subst AreLow (sym is) low

pub grown-some : (grew : Bool) (kept new : List (Option Chosen)) (best : Option Chosen) → 0 < length kept → new ≡ cond grew (kept ++ best ∷ []) kept → 0 < length new
grown-some true kept new best some is = omega (arith, ap length is, length-append kept (best ∷ []))
grown-some false kept new best some is = omega (arith, ap length is)

-- ---- the least choices

pub better-is : (at : Viewpoint) (words : List (List ℕ)) (split : Option Chosen) (hit : Hit) → first_of split (Some (shared_choice at words hit)) ≡ better_of at words split (Some hit)
better-is at words None hit = refl
better-is at words (Some best) hit = refl

-- one more set that has its least choice
pub least-more : (at : Viewpoint) (words : List (List ℕ)) (count : ℕ) (lists : List (List Pick)) (kept new : List (Option Chosen)) (split best : Option Chosen) (hit : Option Hit)
    → 0 < length kept → length kept < 2 ^ count → IsLeastSplit count kept (length kept) split → best ≡ better_of at words split hit → new ≡ kept ++ best ∷ []
    → length lists ≡ count → AreNamed lists → AreLeast lists kept → IsNearestShared at words (in_set (length kept) lists) (limit_of split) hit → AreLeast lists new
least-more at words count lists kept new split best hit some below first better is sized named least near set within =
    let first_own : IsLeastSplit (length lists) kept (length kept) split = subst (λ n. IsLeastSplit n kept (length kept) split) (sym sized) first in
    let below_own : length kept < 2 ^ length lists = subst (λ n. length kept < 2 ^ n) (sym sized) below in
    let long : length new ≡ length kept + 1 = ap length is ∙ length-append kept (best ∷ []) in
    ⊎_elim
    (λ (l : set < length kept). ap (λ k. get_or k set None) is ∙ get-before kept best set l ∙ least set l)
    (λ (le : length kept ≤ set).
    let last : set ≡ length kept = omega arith in
    ap (λ k. get_or k set None) is ∙ get-last kept best set last ∙ better ∙ better-least at words lists kept named least some below_own split hit first_own near
    ∙ ap (λ n. least_by sum_cost (product (in_set n lists))) (sym last))
    (cases_lt set (length kept))

get-any : (kept : List (Option Chosen)) (i : ℕ) (d e : Option Chosen) → i < length kept → get_or kept i d ≡ get_or kept i e
get-any [] i d e l = absurd (omega arith)
get-any (k ∷ kept) zero d e l = refl
get-any (k ∷ kept) (suc i) d e l = get-any kept i d e (omega arith)

-- what is read from a table
pub read-is : (kept : List (Option Chosen)) (i : ℕ) (x : Option Chosen) → i < length kept → x ≡ get_or kept i x → x ≡ get_or kept i None
read-is kept i x l e = e ∙ get-any kept i x None l

-- what both parts cost fits
pub parts-fit : (kept : List (Option Chosen)) (set part count : ℕ) (x y : Option Chosen) → AreLow kept → bit_and part set ≡ part → 0 < part → part < set → set ≡ length kept → set < 2 ^ count → count ≤ 8
    → x ≡ get_or kept part x → y ≡ get_or kept (bit_xor set part) y → cost_in x + cost_in y < 2 ^ 64
parts-fit kept set part count x y low within some less long below few e f =
    let sum = rest-sum set part within in
    let a : cost_in x ≤ 2545584412 * part = subst (λ c. cost_in c ≤ 2545584412 * part) (sym (read-is kept part x (omega arith) e)) (low part) in
    let b : cost_in y ≤ 2545584412 * bit_xor set part = subst (λ c. cost_in c ≤ 2545584412 * bit_xor set part) (sym (read-is kept (bit_xor set part) y (omega arith) f)) (low (bit_xor set part)) in
    costs-fit (cost_in x) (cost_in y) set count (omega arith) below few

-- what is kept is the better of both
pub better-kept : (at : Viewpoint) (words : List (List ℕ)) (split best : Option Chosen) (hit : Option Hit) (found : Hit) (dist : ℕ) (picks : List Pick) → hit ≡ Some found → dist ≡ distance at found.point → picks ≡ shared_picks at words found
    → best ≡ first_of split (Some record { cost = dist; picks = picks }) → best ≡ better_of at words split hit
better-kept at words split best hit found dist picks is far own first =
    first ∙ (λ i. first_of split (Some record { cost = far i; picks = own i })) ∙ better-is at words split found ∙ ap (better_of at words split) (sym is)
