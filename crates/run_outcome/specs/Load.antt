-- What a load says and does, as a function of what its text gives.
use Rattle.std.specs.Prelude.{ℕ, ◌+◌, ◌^◌, ◌<◌, ◌≤◌, nat_le, if◌then◌else◌, List, [], ◌∷◌, ◌++◌, length, Option, Result, Ok, Err, codes, decimal}
use Rattle.term_impacts.specs.Impacts.{word_impacts}
use Rattle.term_impacts.specs.Label.{label_of}
use Rattle.place_values.specs.declared.update.Update.{Update}
use Rattle.place_values.specs.declared.update.Update.TheVariants.{Put}
use Rattle.place_values.specs.declared.update.UpdateFault.{UpdateFault}
use Rattle.place_values.specs.declared.update.UpdateFault.TheVariants as faults
use Rattle.place_values.specs.State.{Contents}
use Rattle.irtree_engine.specs.Updates.{state_after_all}
use Rattle.json_spelled.specs.declared.tree.JsonFault.TheVariants as json
use Rattle.geojson_points.specs.Feature.{Place}
use Rattle.geojson_points.specs.Takes.{Item, Placed, Skipped, Takes}
use Rattle.geojson_points.specs.declared.fault.LoadFault.TheVariants as loads
use Rattle.geojson_points.specs.declared.taken.SkipReason.{SkipReason}
use Rattle.geojson_points.specs.declared.taken.SkipReason.TheVariants.{NotFeature, NoGeometry, NotPoint, BadPosition, OutOfRange, BadId}
use Rattle.run_outcome.specs.declared.ended.InputFault.{InputFault}
use Rattle.run_outcome.specs.declared.ended.InputFault.TheVariants as inputs
use Rattle.run_outcome.specs.declared.ended.LimitFault.{LimitFault}
use Rattle.run_outcome.specs.declared.ended.LimitFault.TheVariants.{Full, Worn, NoRoom}
use Rattle.run_outcome.specs.Turn.{Transcript, End, continued, Done, Input, Limit}

-- ---- the lines

-- the word for a reason
abbrev pub reason_text : SkipReason → List ℕ
reason_text NotFeature = codes "not-feature"
reason_text NoGeometry = codes "no-geometry"
reason_text NotPoint = codes "not-point"
reason_text BadPosition = codes "bad-position"
reason_text OutOfRange = codes "out-of-range"
reason_text BadId = codes "bad-id"

-- `skip INDEX REASON`
unfoldable pub skip_line : ℕ → SkipReason → List ℕ
skip_line index reason = codes "skip " ++ (decimal index ++ (32 ∷ (reason_text reason ++ 10 ∷ [])))

-- `stored N`
unfoldable pub stored_line : ℕ → List ℕ
stored_line stored = codes "stored " ++ (decimal stored ++ 10 ∷ [])

-- `loaded N skipped M`
unfoldable pub loaded_line : ℕ → ℕ → List ℕ
loaded_line stored skipped = codes "loaded " ++ (decimal stored ++ (codes " skipped " ++ (decimal skipped ++ 10 ∷ [])))

-- ---- what is done

-- a place is put at its key, or at the next automatic one, with the impacts and the label of its text
abbrev pub put_of : Place → Update
put_of place = Put place.id place.point (word_impacts place.text) (label_of place.text)

-- what a load does in turn: it passes over an item, or stores some places
pub data Step : Type 0 where
  Skip : ℕ → SkipReason → Step
  Store : List Update → Step

-- The steps of a load behind some places that wait: as many as a batch has are stored as soon as they are there, and those left
-- over behind the last item.
unfoldable pub steps : ℕ → List Update → List Item → List Step
steps batch [] [] = []
steps batch (update ∷ updates) [] = Store (update ∷ updates) ∷ []
steps batch waiting (Skipped index reason ∷ items) = Skip index reason ∷ steps batch waiting items
steps batch waiting (Placed place ∷ items) =
    if nat_le batch (length waiting + 1)
    then Store (waiting ++ put_of place ∷ []) ∷ steps batch [] items
    else steps batch (waiting ++ put_of place ∷ []) items

-- the limit that an update meets; the effect of an update is never want of memory
abbrev pub limit_of : UpdateFault → LimitFault
limit_of faults.Full = Full
limit_of faults.Worn = Worn
limit_of faults.Memory = Full

-- nothing more is said or done
abbrev pub ends_at : Contents → List ℕ → End → Transcript
ends_at state text end = record { turn = record { text = text; changes = []; state = state }; end = end }

-- Some places are stored, which is said, and then comes the rest; or a limit ends it and none of them is stored.
abbrev pub stores : Contents → List Update → List ℕ → Result Contents UpdateFault → (Contents → Transcript) → Transcript
stores state updates line (Ok after) rest = continued (record { text = line; changes = updates; state = after }) (rest after)
stores state updates line (Err fault) rest = ends_at state [] (Limit (limit_of fault))

-- what is said behind all steps, by the state, how many places were stored and how many items were skipped
abbrev pub Closing : Type 0
Closing = Contents → ℕ → ℕ → List ℕ

-- in a load the line of these numbers
abbrev pub says_loaded : Closing
says_loaded state stored skipped = loaded_line stored skipped

-- The steps, each in the state that those before it leave, after so many places stored and so many items skipped, and what is said behind
-- them.
unfoldable pub load : Closing → Contents → ℕ → ℕ → List Step → Transcript
load closing state stored skipped [] = ends_at state (closing state stored skipped) Done
load closing state stored skipped (Skip index reason ∷ rest) =
    continued (record { text = skip_line index reason; changes = []; state = state }) (load closing state stored (skipped + 1) rest)
load closing state stored skipped (Store updates ∷ rest) =
    stores state updates (stored_line (stored + length updates)) (state_after_all state updates)
    (λ after. load closing after (stored + length updates) skipped rest)

-- ---- the whole

-- the greatest number of bytes of the text of a load
unfoldable pub load_max : ℕ
load_max = 67108864

-- what the text of a load gives, by one property alone or by all: its items, or why it is refused
abbrev pub IsTaken : Option (List ℕ) → List ℕ → Result (List Item) InputFault → Type 0
IsTaken only input (Ok items) = (length input ≤ load_max) × Takes input only (Ok items)
IsTaken only input (Err (inputs.NotUtf8 at)) = (length input ≤ load_max) × Takes input only (Err (loads.Json (json.NotUtf8 at)))
IsTaken only input (Err (inputs.Syntax at)) = (length input ≤ load_max) × Takes input only (Err (loads.Json (json.Syntax at)))
IsTaken only input (Err (inputs.TooDeep at)) = (length input ≤ load_max) × Takes input only (Err (loads.Json (json.TooDeep at)))
IsTaken only input (Err inputs.NotFeatures) = (length input ≤ load_max) × Takes input only (Err loads.NotFeatures)
IsTaken only input (Err inputs.Long) = load_max < length input

-- the text of a load gives items
abbrev pub GivesItems : Option (List ℕ) → List ℕ → Type 0
GivesItems only input = (items : List Item) × IsTaken only input (Ok items)

-- how many of the items are places
abbrev pub places_among : List Item → ℕ
places_among [] = 0
places_among (Placed place ∷ items) = places_among items + 1
places_among (Skipped index reason ∷ items) = places_among items

-- The text of a load gives items whose places reach this limit, from so many live places and this update number on.
abbrev pub ReachesLimit : LimitFault → ℕ → ℕ → Option (List ℕ) → List ℕ → Type 0
ReachesLimit Full live number only input = (items : List Item) × IsTaken only input (Ok items) × (1000000 ≤ live + places_among items)
ReachesLimit Worn live number only input = (items : List Item) × IsTaken only input (Ok items) × (2 ^ 40 ≤ number + places_among items)
ReachesLimit NoRoom live number only input = Unit {0}

-- all that a load says and does
abbrev pub load_transcript : ℕ → Contents → Result (List Item) InputFault → Transcript
load_transcript batch state (Ok items) = load says_loaded state 0 0 (steps batch [] items)
load_transcript batch state (Err fault) = ends_at state [] (Input fault)
