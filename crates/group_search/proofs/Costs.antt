-- The cost of a front that one more pick goes on.
use Rattle.std.proofs.Common.{◌≡◌, ℕ, ◌+◌, max, List, [], ◌∷◌, ◌++◌, fold, refl, sym, ap, ◌∙◌, arith}
use Rattle.std.proofs.lemmas.List.Sums.{fold_push}
use Rattle.spatial_base.specs.Laws.{distance-comm}
use Rattle.spatial_base.specs.Point.{Viewpoint, seen_from, distance}
use Rattle.place_values.specs.declared.query.Pick.{Pick}
use Rattle.place_values.specs.Group.{farthest, diameter, choice_cost}

-- the greatest distance to one more
pub farthest-push : (from : Viewpoint) (front : List Pick) (pick : Pick) → farthest from (front ++ pick ∷ []) ≡ max (farthest from front) (distance from pick.point)
farthest-push from front pick = fold_push (λ most (p : Pick). max most (distance from p.point)) 0 front pick

-- the greatest of some numbers from a first one on
greatest-from : (f : Pick → ℕ) (first : ℕ) (picks : List Pick) → fold (λ most p. max most (f p)) first picks ≡ max first (fold (λ most p. max most (f p)) 0 picks)
greatest-from f first [] = omega arith
greatest-from f first (pick ∷ picks) = omega (arith, greatest-from f (max first (f pick)) picks, greatest-from f (max 0 (f pick)) picks)

-- and to one more in front
pub farthest-cons : (from : Viewpoint) (pick : Pick) (picks : List Pick) → farthest from (pick ∷ picks) ≡ max (distance from pick.point) (farthest from picks)
farthest-cons from pick picks = omega (arith, greatest-from (λ p. distance from p.point) (max 0 (distance from pick.point)) picks)

-- the greatest distance between two of one more
pub diameter-push : (scale : ℕ) (front : List Pick) (pick : Pick) → diameter scale (front ++ pick ∷ []) ≡ max (diameter scale front) (farthest (seen_from pick.point scale) front)
diameter-push scale [] pick = refl
diameter-push scale (one ∷ front) pick =
    omega (arith, farthest-push (seen_from one.point scale) front pick, diameter-push scale front pick, farthest-cons (seen_from pick.point scale) one front, distance-comm one.point pick.point scale)

-- the greatest distance to a longer front
pub far-pushed : (at : Viewpoint) (new front : List Pick) (pick : Pick) (far further : ℕ) → new ≡ front ++ pick ∷ [] → far ≡ farthest at front → pick.dist ≡ distance at pick.point → further ≡ max far pick.dist → further ≡ farthest at new
far-pushed at new front pick far further is was dist now = now ∙ (λ i. max (was i) (dist i)) ∙ sym (farthest-push at front pick) ∙ ap (farthest at) (sym is)

-- and the greatest distance between two of it
pub wide-pushed : (scale : ℕ) (new old front : List Pick) (pick : Pick) (wide reach wider : ℕ) → new ≡ front ++ pick ∷ [] → old ≡ front → wide ≡ diameter scale front → reach ≡ farthest (seen_from pick.point scale) old → wider ≡ max wide reach → wider ≡ diameter scale new
wide-pushed scale new old front pick wide reach wider is same was reaches now =
    now ∙ (λ i. max (was i) ((reaches ∙ ap (farthest (seen_from pick.point scale)) same) i)) ∙ sym (diameter-push scale front pick) ∙ ap (diameter scale) (sym is)

-- a front costs as much as its two greatest distances
pub front-cost : (at : Viewpoint) (front : List Pick) (far wide : ℕ) → far ≡ farthest at front → wide ≡ diameter at.scale front → far + wide ≡ choice_cost at front
front-cost at front far wide is also = λ i. is i + also i
