-- What a make says and does, as a function of the state at its start, of a seed, and of how many places are made and stand in a batch.
use Rattle.std.specs.Prelude.{◌≡◌, ◌⊎◌, ℕ, ◌+◌, ◌^◌, ◌≤◌, List, [], ◌∷◌, ◌++◌, length, map, Some, codes, decimal, Result}
use Rattle.std.specs.List.{range_with_len}
use Rattle.disk_model.specs.World.{World, Image}
use Rattle.place_generator.specs.Made.{Place, place_of_seed}
use Rattle.place_values.specs.State.{Contents}
use Rattle.geojson_points.specs.Feature as feature
use Rattle.geojson_points.specs.Takes.{Item, Placed}
use Rattle.store_model.specs.Stands.{Stands}
use Rattle.run_outcome.specs.Left.{LeftBySteps}
use Rattle.run_outcome.specs.Load.{Closing, Step, load, steps}
use Rattle.run_outcome.specs.Turn.{Transcript}
use Rattle.run_outcome.specs.declared.ended.Ended.{Ended}
use Rattle.run_outcome.specs.declared.ended.Ended.TheVariants as ends
use Rattle.run_outcome.specs.declared.ended.LimitFault.{LimitFault}
use Rattle.run_outcome.specs.declared.ended.LimitFault.TheVariants.{Full, Worn, NoRoom}
use Rattle.load_run.specs.Loading.{EndsSteps}
use Rattle.load_run.specs.Asking.{cost_in, found_in, queries_of}

-- ---- the places

-- a place that was made, as a text gives one
abbrev pub given : Place → feature.Place
given place = record { id = Some place.key; point = place.point; text = place.text }

-- the item of a place of a seed
unfoldable pub made_item : ℕ → ℕ → Item
made_item seed number = Placed (given (place_of_seed seed number))

-- the items of so many places of a seed, from a number on
abbrev pub items_from : ℕ → ℕ → ℕ → List Item
items_from seed number count = map (made_item seed) (range_with_len number count)

-- the steps of a make: its places are stored batch by batch, as those of a load
abbrev pub make_steps : ℕ → ℕ → ℕ → List Step
make_steps batch seed count = steps batch [] (items_from seed 0 count)

-- ---- the whole

-- `made M places Q queries H hits sum C`
unfoldable pub made_line : ℕ → ℕ → ℕ → ℕ → List ℕ
made_line count queries hits cost =
    codes "made " ++ (decimal count ++ (codes " places " ++ (decimal queries ++ (codes " queries " ++ (decimal hits ++ (codes " hits sum " ++ (decimal cost ++ 10 ∷ [])))))))

-- What a make says last: how many places it made, for how many of them it asked, and how many hits these have in the state, and at what cost.
unfoldable pub says_made : ℕ → ℕ → Closing
says_made seed count state stored skipped =
    made_line count (queries_of count) (length (found_in state seed (queries_of count))) (cost_in (found_in state seed (queries_of count)))

-- all that a make says and does
abbrev pub make_transcript : ℕ → ℕ → ℕ → Contents → Transcript
make_transcript batch seed count state = load (says_made seed count) state 0 0 (make_steps batch seed count)

-- how a make ended, in the state at its start, and what was said of it
abbrev pub EndsMake : {T : Type 0} → ℕ → ℕ → ℕ → Contents → World → World → Result T Ended → Type 0
EndsMake batch seed count state first now result = EndsSteps (says_made seed count) state (make_steps batch seed count) first now result

-- What a crash may leave of a make: the state at its start and nothing said, or what is around one of its steps.
abbrev pub LeftByMake : ℕ → ℕ → ℕ → Contents → List ℕ → Image → List ℕ → Type 0
LeftByMake batch seed count state before image said =
    (Stands image state × (said ≡ before)) ⊎ LeftBySteps (says_made seed count) state 0 0 (make_steps batch seed count) before image said

-- So many places reach this limit, from so many live places and this update number on.
abbrev pub ReachLimit : ℕ → LimitFault → ℕ → ℕ → Type 0
ReachLimit count Full live number = 1000000 ≤ live + count
ReachLimit count Worn live number = 2 ^ 40 ≤ number + count
ReachLimit count NoRoom live number = Unit {0}

-- what may end the asking, on an image that stands for a state
abbrev pub IsAskingEnd : Ended → Type 0
IsAskingEnd ends.Memory = Unit {0}
IsAskingEnd ends.Disk = Unit {0}
IsAskingEnd _ = ⊥
