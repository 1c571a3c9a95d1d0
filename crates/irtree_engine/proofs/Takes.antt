-- What a refused take says of a change that was allowed so many takes.
use Rattle.std.proofs.Common.{◌≡◌, ⊎_elim, ℕ, ◌+◌, ◌-◌, ◌^◌, ◌<◌, ◌≤◌, arith}
use Rattle.page_face.specs.Causes.{Rose}
use Rattle.page_store.specs.Takes.{Counts, Takes}

-- The room is no more than the pages that were counted before the change and the takes that it was allowed.
pub room-left : (room_before counted refused takes room : ℕ) (old new : Counts) → room ≡ room_before → old.counted ≡ counted → old.refused ≡ refused → old.takes_left ≡ takes
    → Takes room old new → refused < 2 ^ 64 - 1 → Rose old.refused new.refused → room_before ≤ counted + takes
room-left room_before counted refused takes room old new rooms counts refusals allowed taken few rose =
    let within = taken.within in
    ⊎_elim
    (λ (same : new.refused ≡ old.refused). let more : old.refused < new.refused = rose (omega (arith, few, refusals)) in absurd (omega (arith, same, more)))
    (λ (full : room ≤ new.counted). omega (arith, full, within, rooms, counts, allowed))
    taken.full
