-- The items of the places that are made.
use Rattle.std.proofs.Common.{◌≡◌, ◌+◌, ◌-◌, ◌<◌, ◌≤◌, ℕ, suc, List, [], ◌∷◌, refl, ap, sym, subst, ◌∙◌, arith}
use Rattle.disk_model.specs.World.{World}
use Rattle.place_values.specs.State.{Contents}
use Rattle.place_generator.specs.Made.{Place, place_of_seed}
use Rattle.geojson_points.specs.Feature as feature
use Rattle.geojson_points.specs.Takes.{HasTextKey, Item, Placed}
use Rattle.run_outcome.specs.Load.{Closing}
use Rattle.load_run.specs.declared.load.Load.{Load}
use Rattle.load_run.specs.Loading.{Goes, Stage, stage_before}
use Rattle.load_run.specs.Making.{given, items_from, made_item}

-- a place that was made is the item of its number
pub made-item : (seed number : ℕ) (made : Place) (place : feature.Place) → place ≡ given made → made ≡ place_of_seed seed number → Placed place ≡ made_item seed number
unfolding made_item
made-item seed number made place is same = ap Placed (is ∙ ap given same)

-- its key is a text
pub made-key : (seed number : ℕ) → HasTextKey (made_item seed number)
unfolding made_item
made-key seed number = refl

-- the first of some places, and those behind it
pub items-next : (seed number count : ℕ) → number < count → items_from seed number (count - number) ≡ made_item seed number ∷ items_from seed (number + 1) (count - (number + 1))
items-next seed number count more =
    let one_more : count - number ≡ suc (count - (number + 1)) = omega arith in
    ap (items_from seed number) one_more

module _ (closing : Closing) (at : Stage) (load : Load) (state : Contents) (seed number count : ℕ) (old now : World)
    (goes : Goes at (stage_before closing load state (items_from seed number (count - number))) old now) where
  -- a load that stands in front of the places left stands in front of the next of them
  pub goes-next : (item : Item) → number < count → item ≡ made_item seed number → Goes at (stage_before closing load state (item ∷ items_from seed (number + 1) (count - (number + 1)))) old now
  goes-next item more is = subst (λ (xs : List Item). Goes at (stage_before closing load state xs) old now)
      (items-next seed number count more ∙ ap (λ (x : Item). x ∷ items_from seed (number + 1) (count - (number + 1))) (sym is)) goes

  -- or of none
  pub goes-last : count ≤ number → Goes at (stage_before closing load state []) old now
  goes-last all =
      let none : count - number ≡ 0 = omega arith in
      subst (λ (k : ℕ). Goes at (stage_before closing load state (items_from seed number k)) old now) none goes
