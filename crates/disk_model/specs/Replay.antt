-- The world of a station in memory, from what it held at first and the record of its calls.
use Rattle.std.specs.Prelude.{◌≡◌, ◌⊎◌, ℕ, zero, suc, ◌+◌, ◌-◌, Bool, true, false, cond, ◌&&◌, nat_le, nat_lt, List, [], ◌∷◌, ◌++◌, length, take, slice_index, refl}
use Rattle.std.proofs.Common.{inr}
use Rattle.disk_model.specs.declared.disk.Area.{Area}
use Rattle.disk_model.specs.declared.disk.Area.TheVariants.{Pages, Journal}
use Rattle.disk_model.specs.declared.call.Call.{Call}
use Rattle.disk_model.specs.declared.call.Call.TheVariants as calls
use Rattle.disk_model.specs.World.{World, Image, Range}

-- whether two areas are one
abbrev pub same_area : Area → Area → Bool
same_area Pages Pages = true
same_area Journal Journal = true
same_area a b = false

-- the place is in the range
abbrev pub covers : Range → Area → ℕ → Bool
covers r area i = same_area r.area area && (nat_le r.at i && nat_lt i (r.at + r.len))

-- no range has the place
abbrev pub IsFree : List Range → Area → ℕ → Type 0
IsFree [] area i = Unit {0}
IsFree (r ∷ ranges) area i = (covers r area i ≡ false) × IsFree ranges area i

-- what is read, the ranges written since the last sync of their area, each area as it was read at its last sync, and what was said
pub record State : Type 0 where
  pub seen : Image
  pub pending : List Range
  pub safe : Image
  pub said : List ℕ

-- Each pending range may hold any bytes.
abbrev pub MayLeave : State → Image → Type 0
MayLeave state image = (area : Area) (i : ℕ) → IsFree state.pending area i → image area i ≡ state.seen area i

-- the image with these bytes in a range
abbrev pub overwritten : Range → List ℕ → Image → Image
overwritten r bytes image area i = cond (covers r area i) (slice_index bytes (i - r.at)) (image area i)

-- the ranges of other areas
abbrev pub others : Area → List Range → List Range
others area [] = []
others area (r ∷ ranges) = cond (same_area r.area area) (others area ranges) (r ∷ others area ranges)

-- a range of an area
abbrev pub range_of : Area → ℕ → ℕ → Range
range_of area at len = record { area = area; at = at; len = len }

-- the image with an area taken over from another
abbrev pub with_area : Area → Image → Image → Image
with_area area from to a i = cond (same_area area a) (from a i) (to a i)

-- what a call leaves
abbrev pub step : State → Call → State
step st (calls.Read area at len) = st
step st (calls.Write area at bytes done) =
    record {
      seen = cond done (overwritten (range_of area at (length bytes.items)) bytes.items st.seen) st.seen;
      pending = range_of area at (length bytes.items) ∷ st.pending;
      safe = st.safe;
      said = st.said;
    }
step st (calls.Sync area done) =
    record {
      seen = st.seen;
      pending = cond done (others area st.pending) st.pending;
      safe = cond done (with_area area st.seen st.safe) st.safe;
      said = st.said;
    }
step st (calls.Say piece taken) = record st { said = st.said ++ take taken piece.items }

-- what a run of calls leaves
abbrev pub replay : State → List Call → State
replay st [] = st
replay st (call ∷ later) = replay (step st call) later

-- what a crash may leave while a call runs, and right before or after it
abbrev pub During : State → Call → Image → List ℕ → Type 0
During st (calls.Read area at len) image said = MayLeave st image × (said ≡ st.said)
During st (calls.Write area at bytes done) image said =
    MayLeave (record st { pending = range_of area at (length bytes.items) ∷ st.pending }) image × (said ≡ st.said)
During st (calls.Sync area done) image said = MayLeave st image × (said ≡ st.said)
During st (calls.Say piece taken) image said = MayLeave st image × ((n : ℕ) × (said ≡ st.said ++ take n piece.items))

-- what a crash may have left since the t-th call, or now
abbrev pub Since : State → ℕ → List Call → Image → List ℕ → Type 0
Since st t [] image said = MayLeave st image × (said ≡ st.said)
Since st zero (call ∷ later) image said = During st call image said ⊎ Since (step st call) zero later image said
Since st (suc t) (call ∷ later) image said = Since (step st call) t later image said

-- the reads among the calls
abbrev pub reads_in : List Call → List Range
reads_in [] = []
reads_in (calls.Read area at len ∷ later) = range_of area at len ∷ reads_in later
reads_in (call ∷ later) = reads_in later

-- the world, from what was held at first, the calls made and the two counts
abbrev pub world_of : State → List Call → ℕ → ℕ → World
world_of first made faults sink_faults =
    record {
      seen = (replay first made).seen;
      said = (replay first made).said;
      reads = reads_in made;
      faults = faults;
      sink_faults = sink_faults;
      may_leave = MayLeave (replay first made);
      moment = length made;
      left_since = λ t. Since first t made;
    }

-- ---- the laws of a disk

-- what reads give may be left
pub leaves_seen : (st : State) → MayLeave st st.seen
leaves_seen st area i free = refl

-- this moment is one of those since an earlier one
pub counts_now : (st : State) (t : ℕ) (made : List Call) (image : Image) → MayLeave (replay st made) image → Since st t made image (replay st made).said
counts_now st t [] image may = (may, refl)
counts_now st zero (call ∷ later) image may = inr (counts_now (step st call) zero later image may)
counts_now st (suc t) (call ∷ later) image may = counts_now (step st call) t later image may

-- since this moment there is no other
pub only_now : (st : State) (made : List Call) (image : Image) (said : List ℕ) → Since st (length made) made image said → MayLeave (replay st made) image × (said ≡ (replay st made).said)
only_now st [] image said left = left
only_now st (call ∷ later) image said left = only_now (step st call) later image said left
