-- Where the picks of a table are from.
use Rattle.std.proofs.Common.{◌≡◌, ℕ, zero, suc, ◌+◌, Bool, true, false, cond, ◌||◌, List, [], ◌∷◌, ◌++◌, length, get_or, Option, Some, None, bit_xor, refl, sym, ap, subst, ◌∙◌, arith, ◌⊎◌, inl, inr, ⊎_elim}
use Rattle.std.specs.List.{Contains, flat_map}
use Rattle.std.proofs.lemmas.Bool.{cond_both}
use Rattle.std.proofs.lemmas.List.{append-nil}
use Rattle.std.proofs.lemmas.List.Concat.{flat_map-append}
use Rattle.std.proofs.lemmas.List.Elements.{Contains-append_left, Contains-append_right}
use Rattle.spatial_base.specs.Point.{Viewpoint}
use Rattle.place_values.specs.declared.hit.Hit.{Hit}
use Rattle.place_values.specs.declared.query.Pick.{Pick}
use Rattle.place_values.specs.declared.query.Chosen.{Chosen}
use Rattle.best_first.proofs.Histories.{contains_head}
use Rattle.group_search.proofs.Members.{contains-none, contains-later, contains-cases}
use Rattle.collective_query.specs.Opened.{picks_in}
use Rattle.group_sum.specs.Splits.{sides_of, joined, is_one_place, joined_of, comes_first, IsLeastSplit}
use Rattle.group_sum.specs.Shared.{shared_in, shared_choice, better_of}
use Rattle.group_sum.specs.Tables.{picks_kept}

contains-either : (xs ys : List Pick) (x : Pick) → Contains (xs ++ ys) x → Contains xs x ⊎ Contains ys x
contains-either [] ys x c = inr c
contains-either (z ∷ xs) ys x c = ⊎_elim
    (λ (e : z ≡ x). inl (subst (Contains (z ∷ xs)) e (contains_head z xs)))
    (λ (l : Contains (xs ++ ys) x). ⊎_elim (λ (a : Contains xs x). inl (contains-later z xs x a)) (λ (b : Contains ys x). inr b) (contains-either xs ys x l))
    (contains-cases z (xs ++ ys) x c)

joined-either : (sides : List Bool) (a b : List Pick) (x : Pick) → Contains (joined sides a b) x → Contains a x ⊎ Contains b x
joined-either [] a b x c = absurd (contains-none x c)
joined-either (true ∷ sides) [] b x c = joined-either sides [] b x c
joined-either (true ∷ sides) (y ∷ a) b x c = ⊎_elim
    (λ (e : y ≡ x). inl (subst (Contains (y ∷ a)) e (contains_head y a)))
    (λ (l : Contains (joined sides a b) x). ⊎_elim (λ (h : Contains a x). inl (contains-later y a x h)) (λ (k : Contains b x). inr k) (joined-either sides a b x l))
    (contains-cases y (joined sides a b) x c)
joined-either (false ∷ sides) a [] x c = joined-either sides a [] x c
joined-either (false ∷ sides) a (y ∷ b) x c = ⊎_elim
    (λ (e : y ≡ x). inr (subst (Contains (y ∷ b)) e (contains_head y b)))
    (λ (l : Contains (joined sides a b) x). ⊎_elim (λ (h : Contains a x). inl h) (λ (k : Contains b x). inr (contains-later y b x k)) (joined-either sides a b x l))
    (contains-cases y (joined sides a b) x c)

-- a pick of one of the choices is one of the table's
pub kept-has : (kept : List (Option Chosen)) (i : ℕ) (x : Pick) → Contains (picks_in (get_or kept i None)) x → Contains (picks_kept kept) x
kept-has [] i x c = absurd (contains-none x c)
kept-has (k ∷ kept) zero x c = Contains-append_left (picks_in k) (picks_kept kept) x c
kept-has (k ∷ kept) (suc i) x c = Contains-append_right (picks_in k) (picks_kept kept) x (kept-has kept i x c)

joined-has : (sides : List Bool) (a b : Option Chosen) (best : Chosen) (x : Pick) → joined_of sides a b ≡ Some best → Contains best.picks x → Contains (picks_in a) x ⊎ Contains (picks_in b) x
joined-has sides None b best x e c = absurd (cc)
joined-has sides (Some a) None best x e c = absurd (cc)
joined-has sides (Some a) (Some b) best x e c = go (is_one_place a.picks || is_one_place b.picks) e
  where
    go : (t : Bool) → cond t (Some record { cost = a.cost + b.cost; picks = joined sides a.picks b.picks }) None ≡ Some best → Contains a.picks x ⊎ Contains b.picks x
    go false e = absurd (cc)
    go true e = let same : joined sides a.picks b.picks ≡ best.picks = cc in joined-either sides a.picks b.picks x (subst (λ l. Contains l x) (sym same) c)

split-has : (count : ℕ) (kept : List (Option Chosen)) (set : ℕ) (split : Option Chosen) (x : Pick) → IsLeastSplit count kept set split → Contains (picks_in split) x → Contains (picks_kept kept) x
split-has count kept set None x h c = absurd (contains-none x c)
split-has count kept set (Some best) x h c =
    let part : ℕ = h.among.0 in
    ⊎_elim (λ (a : Contains (picks_in (get_or kept part None)) x). kept-has kept part x a) (λ (b : Contains (picks_in (get_or kept (bit_xor set part) None)) x). kept-has kept (bit_xor set part) x b)
    (joined-has (sides_of count set part) (get_or kept part None) (get_or kept (bit_xor set part) None) best x h.among.2 c)

better-has : (at : Viewpoint) (words : List (List ℕ)) (split : Option Chosen) (hit : Option Hit) (x : Pick) → Contains (picks_in (better_of at words split hit)) x → Contains (picks_in split) x ⊎ Contains (shared_in at words hit) x
better-has at words split None x c = inl c
better-has at words None (Some hit) x c = inr c
better-has at words (Some best) (Some hit) x c =
    cond_both (comes_first (shared_choice at words hit) best) (Some (shared_choice at words hit)) (Some best) (λ o. Contains (picks_in o) x → Contains best.picks x ⊎ Contains (shared_in at words (Some hit)) x)
    (λ t d. inr d) (λ f d. inl d) c

-- each pick of a table that grew was in it before, or is of the place that was found
pub kept-from : (at : Viewpoint) (words : List (List ℕ)) (count : ℕ) (kept new : List (Option Chosen)) (split best : Option Chosen) (hit : Option Hit) → IsLeastSplit count kept (length kept) split → best ≡ better_of at words split hit → new ≡ kept ++ best ∷ []
    → (x : Pick) → Contains (picks_kept new) x → Contains (picks_kept kept) x ⊎ Contains (shared_in at words hit) x
kept-from at words count kept new split best hit first better is x c =
    let whole : picks_kept new ≡ picks_kept kept ++ picks_in best = ap picks_kept is ∙ flat_map-append picks_in kept (best ∷ []) ∙ ap (λ l. picks_kept kept ++ l) (append-nil (picks_in best)) in
    ⊎_elim
    (λ (a : Contains (picks_kept kept) x). inl a)
    (λ (b : Contains (picks_in best) x). ⊎_elim
    (λ (d : Contains (picks_in split) x). inl (split-has count kept (length kept) split x first d))
    (λ (e : Contains (shared_in at words hit) x). inr e)
    (better-has at words split hit x (subst (λ o. Contains (picks_in o) x) better b)))
    (contains-either (picks_kept kept) (picks_in best) x (subst (λ l. Contains l x) whole c))
