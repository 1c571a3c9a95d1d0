-- What is known of a disk, and how its calls change it.
use Rattle.std.specs.Prelude.{◌≡◌, ◌⊎◌, ℕ, ◌+◌, ◌-◌, ◌^◌, ◌<◌, ◌≤◌, min, List, [], ◌∷◌, ◌++◌, length, take, slice_index, Result, IfOk, OnOk, OnErr}
use Rattle.std.specs.List.{AllByRecursion}
use Rattle.disk_model.specs.declared.disk.Area.{Area}
use Rattle.disk_model.specs.declared.disk.Area.TheVariants.{Journal}
use Rattle.disk_model.specs.declared.disk.Failed.{Failed}

-- ---- images

-- the byte at each place of each area; what no call has written is 0
abbrev pub Image : Type 0
Image = Area → ℕ → ℕ

-- new is old but for n bytes at a place of an area, which may be any
pub record Torn (area : Area) (at n : ℕ) (old new : Image) : Type 0 where
  pub same : (a : Area) (i : ℕ) → (a ≡ area → (i < at) ⊎ (at + n ≤ i)) → new a i ≡ old a i

-- new is old but for these bytes, which stand at this place of the area
pub record Written (area : Area) (at : ℕ) (bytes : List ℕ) (old new : Image) : Type 0 where
  pub torn : Torn area at (length bytes) old new
  pub inside : (i j : ℕ) → i < length bytes → at + i ≡ j → new area j ≡ slice_index bytes i

-- the image is one of these, torn
pub record TornFrom (area : Area) (at n : ℕ) (may_leave : Image → Type 0) (new : Image) : Type 0 where
  pub old : Image
  pub may : may_leave old
  pub torn : Torn area at n old new

-- these are the image's bytes in an area from a place on
abbrev pub Reads : Area → ℕ → List ℕ → Image → Type 0
Reads area at bytes image = (i j : ℕ) → i < length bytes → at + i ≡ j → slice_index bytes i ≡ image area j

-- ---- what is known of a disk

-- an area, a place there and a length
pub record Range : Type 0 where
  pub area : Area
  pub at : ℕ
  pub len : ℕ

-- what contracts see of a disk at a moment
pub record World : Type 1 where
  -- what a read gives
  pub seen : Image
  -- the bytes said by the station that the disk is a part of
  pub said : List ℕ
  -- the reads taken, in order
  pub reads : List Range
  -- how often the disk and the sink have failed, up to the last value of a u64
  pub faults : ℕ
  pub sink_faults : ℕ
  -- the images that a crash may leave now, beside the bytes said
  pub may_leave : Image → Type 0
  -- a number that never falls
  pub moment : ℕ
  -- the images, with the bytes said, that a crash may have left at some moment from that one on
  pub left_since : ℕ → Image → List ℕ → Type 0

-- Only this image: a crash leaves what reads give, since nothing is pending.
abbrev pub LeavesOnlySeen : World → Type 0
LeavesOnlySeen world = (image : Image) → world.may_leave image → image ≡ world.seen

-- ---- every image since a call began

-- Since old a crash may have left only pairs of an image and the bytes said that have P, or that it could have left before.
pub record LeavesOnly (old new : World) (P : Image → List ℕ → Type 0) : Type 0 where
  pub later : old.moment ≤ new.moment
  pub each : (t : ℕ) (image : Image) (said : List ℕ) → t ≤ old.moment → new.left_since t image said → old.left_since t image said ⊎ P image said

-- Time goes on over a call, during which a crash leaves only pairs that have P, or from before. Nothing is forgotten.
pub record Elapses (old new : World) (P : Image → List ℕ → Type 0) : Type 0 where
  pub adds : LeavesOnly old new P
  pub keeps : (t : ℕ) (image : Image) (said : List ℕ) → t ≤ old.moment → old.left_since t image said → new.left_since t image said

-- no pair
abbrev pub Nothing : Image → List ℕ → Type 0
Nothing image said = ⊥

-- while a piece is said: no other image, and a front of the piece
abbrev pub Saying : World → List ℕ → Image → List ℕ → Type 0
Saying old piece image said = old.may_leave image × ((n : ℕ) × (said ≡ old.said ++ take n piece))

-- ---- what a call does

-- the call changes no area
pub record ChangesNoArea (old new : World) : Type 0 where
  pub seen : new.seen ≡ old.seen
  pub crash : (image : Image) → new.may_leave image → old.may_leave image
  pub time : Elapses old new Nothing

-- a read: Ok gives the area's bytes, and joins the list of reads; a failed one may join it or not
pub record HasRead {T : Type 0} (area : Area) (at : ℕ) (bytes : List ℕ) (old new : World) (result : Result T Failed) : Type 0 where
  pub rests : ChangesNoArea old new
  pub said : new.said ≡ old.said
  pub taken : OnOk result (new.reads ≡ old.reads ++ record { area = area; at = at; len = length bytes } ∷ [])
  pub taken_err : OnErr result ((new.reads ≡ old.reads) ⊎ (new.reads ≡ old.reads ++ record { area = area; at = at; len = length bytes } ∷ []))
  pub gives : OnOk result (Reads area at bytes old.seen)

-- a write: Ok leaves the bytes to be read; until a sync, and after a failure, a crash may leave any bytes in the range
pub record HasWritten {T : Type 0} (area : Area) (at : ℕ) (bytes : List ℕ) (old new : World) (result : Result T Failed) : Type 0 where
  pub written : OnOk result (Written area at bytes old.seen new.seen)
  pub torn : Torn area at (length bytes) old.seen new.seen
  pub said : new.said ≡ old.said
  pub reads : new.reads ≡ old.reads
  pub crash : (image : Image) → new.may_leave image → TornFrom area at (length bytes) old.may_leave image
  pub time : Elapses old new (λ image said. TornFrom area at (length bytes) old.may_leave image × (said ≡ old.said))

-- a sync: after Ok a crash leaves the area as reads give it
pub record HasSynced {T : Type 0} (area : Area) (old new : World) (result : Result T Failed) : Type 0 where
  pub rests : ChangesNoArea old new
  pub said : new.said ≡ old.said
  pub reads : new.reads ≡ old.reads
  pub durable : OnOk result ((image : Image) → new.may_leave image → image area ≡ new.seen area)

-- a say: Ok(n) appends the first n bytes of the piece to what was said, a failure some front of it
pub record HasSaid (piece : List ℕ) (old new : World) (result : Result ℕ Failed) : Type 0 where
  pub seen : new.seen ≡ old.seen
  pub reads : new.reads ≡ old.reads
  pub said : IfOk result (λ n. new.said ≡ old.said ++ take n piece)
  pub said_err : OnErr result ((n : ℕ) × (new.said ≡ old.said ++ take n piece))
  pub crash : (image : Image) → new.may_leave image → old.may_leave image
  pub time : Elapses old new (Saying old piece)

-- the count rose, or stands at the last value of a u64
abbrev pub Rose : ℕ → ℕ → Type 0
Rose old new = min (old + 1) (2 ^ 64 - 1) ≤ new

-- a disk call fails just where the disk's count rose, or stands at its last value, and no count falls
pub record HasDiskCause {T : Type 0} (old new : World) (result : Result T Failed) : Type 0 where
  pub later : old.faults ≤ new.faults
  pub sink : new.sink_faults ≡ old.sink_faults
  pub rose : OnErr result (Rose old.faults new.faults)
  pub stays : OnOk result (new.faults ≡ old.faults)

-- a say fails just where the sink's count rose, or stands at its last value, and no count falls
pub record HasSinkCause {T : Type 0} (old new : World) (result : Result T Failed) : Type 0 where
  pub later : old.sink_faults ≤ new.sink_faults
  pub disk : new.faults ≡ old.faults
  pub rose : OnErr result (Rose old.sink_faults new.sink_faults)
  pub stays : OnOk result (new.sink_faults ≡ old.sink_faults)

-- ---- runs of calls

-- the reads taken from old to new are all of the journal
pub record ReadsJournalOnly (old new : World) : Type 0 where
  pub more : List Range
  pub are : new.reads ≡ old.reads ++ more
  pub each : AllByRecursion (λ r. r.area ≡ Journal) more

-- From old to new nothing was written and nothing said, and only the journal was read.
pub record WritesNothing (old new : World) : Type 0 where
  pub seen : new.seen ≡ old.seen
  pub crash : (image : Image) → new.may_leave image → old.may_leave image
  pub adds : LeavesOnly old new Nothing
  pub said : new.said ≡ old.said
  pub reads : ReadsJournalOnly old new

-- two images agree at these places
abbrev pub AgreeAt : (Area → ℕ → Type 0) → Image → Image → Type 0
AgreeAt K old new = (a : Area) (i : ℕ) → K a i → new a i ≡ old a i

-- From old, where nothing was pending, to new no place of K was written, nothing was said, and only the journal was read.
pub record Keeps (K : Area → ℕ → Type 0) (old new : World) : Type 0 where
  pub seen : AgreeAt K old.seen new.seen
  pub may : (image : Image) → new.may_leave image → AgreeAt K old.seen image
  pub adds : LeavesOnly old new (λ image said. AgreeAt K old.seen image × (said ≡ old.said))
  pub said : new.said ≡ old.said
  pub reads : ReadsJournalOnly old new
