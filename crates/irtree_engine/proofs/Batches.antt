-- Updates that are made one after another.
use Rattle.std.proofs.Common.{◌≡◌, ⊎_elim, inl, inr, ℕ, ◌+◌, ◌==◌, ◌≤◌, ◌^◌, ◌&&◌, Bool, true, false, cond, is_some, is_none, nat_le, List, [], ◌∷◌, length, Option, Result, Ok, Err, refl, sym, ap, subst, ◌∙◌, arith}
use Rattle.disk_model.specs.World.{World, Image, LeavesOnly}
use Rattle.disk_model.proofs.Moments.{within}
use Rattle.page_face.specs.FreeList.{PageMap}
use Rattle.page_store.specs.declared.superblock.Superblock.{Superblock}
use Rattle.spatial_base.specs.Key.{Name}
use Rattle.place_values.specs.declared.place.Place.{Place}
use Rattle.place_values.specs.declared.update.Applied.{Applied}
use Rattle.place_values.specs.declared.update.Applied.TheVariants.{Gone, New, Replaced, Absent}
use Rattle.place_values.specs.declared.update.Update.{Update}
use Rattle.place_values.specs.declared.update.Update.TheVariants.{Put, Remove}
use Rattle.place_values.specs.declared.update.UpdateFault.{UpdateFault}
use Rattle.place_values.specs.declared.update.UpdateFault.TheVariants as faults
use Rattle.place_values.specs.State.{Contents, place_at, with_place, without_place}
use Rattle.place_values.specs.Update.{Effect, effect_of, key_for, put_at, refuses, removed_at, serial_after}
use Rattle.store_model.specs.Ahead.{StandAhead}
use Rattle.store_model.specs.Stands.{PagesStand, Stands}
use Rattle.store_model.proofs.Batches.{stand-ended}
use Rattle.irtree_engine.specs.declared.fault.EngineFault.{EngineFault}
use Rattle.irtree_engine.specs.declared.fault.EngineFault.TheVariants.{Disk, NotAStore, BadJournal, Damaged, Full, Worn, NoRoom, Stopped, Version1, Memory}
use Rattle.irtree_engine.specs.Updates.{IsDueTo, IsLater, LeavesAllOrNone, LeavesOneOf, StandForOutcome, StandsForOutcome, accepted, state_after_all}

-- Page 0's fields and the pages stand for the state after the first of some updates, from which those that are left go on.
pub record AreUpdated (held : Option (List (List ℕ × ℕ))) (state : Contents) (updates left : List Update) (block : Superblock) (pages : PageMap) : Type 0 where
  pub now : Contents
  pub stand : StandAhead held left block pages now
  pub goes_on : state_after_all state updates ≡ state_after_all now left

-- at first all are left
pub updated-none : (held : Option (List (List ℕ × ℕ))) (state : Contents) (updates : List Update) (block : Superblock) (pages : PageMap) → StandAhead held updates block pages state → AreUpdated held state updates updates block pages
updated-none held state updates block pages stand = record { now = state; stand = stand; goes_on = refl }

-- an update that is accepted leaves those behind it
accepted-rest : (state : Contents) (update : Update) (rest : List Update) (applied : Applied) → (effect_of state update).answer ≡ Ok applied → state_after_all state (update ∷ rest) ≡ state_after_all (effect_of state update).state rest
accepted-rest state update rest applied is = ap (λ (r : Result Applied UpdateFault). accepted r (state_after_all (effect_of state update).state rest)) is

-- one that is refused is what the first refusal is
refused-rest : (state : Contents) (update : Update) (rest : List Update) (fault : UpdateFault) → (effect_of state update).answer ≡ Err fault → state_after_all state (update ∷ rest) ≡ Err fault
refused-rest state update rest fault is = ap (λ (r : Result Applied UpdateFault). accepted r (state_after_all (effect_of state update).state rest)) is

module _ {held : Option (List (List ℕ × ℕ))} {state : Contents} {updates left : List Update} {block : Superblock} {pages : PageMap} (are : AreUpdated held state updates left block pages) (update : Update) (rest : List Update) (is : left ≡ update ∷ rest) where
  -- the pages stand with the next update in front of those behind it
  pub updated-next : StandAhead held (update ∷ rest) block pages are.now
  updated-next = subst (λ (ls : List Update). StandAhead held ls block pages are.now) is are.stand

  -- after one more the pages stand for the state after it
  pub updated-more : (after : Superblock) (pages_after : PageMap) (applied : Applied) → (effect_of are.now update).answer ≡ Ok applied → StandAhead held rest after pages_after (effect_of are.now update).state → AreUpdated held state updates rest after pages_after
  updated-more after pages_after applied answer stand = record {
    now = (effect_of are.now update).state;
    stand = stand;
    goes_on = are.goes_on ∙ ap (state_after_all are.now) is ∙ accepted-rest are.now update rest applied answer;
  }

  -- what refuses one more refuses all
  pub updated-due : (fault : EngineFault) → IsDueTo (effect_of are.now update).answer fault → IsDueTo (state_after_all state updates) fault
  updated-due Full due = are.goes_on ∙ ap (state_after_all are.now) is ∙ refused-rest are.now update rest faults.Full due
  updated-due Worn due = are.goes_on ∙ ap (state_after_all are.now) is ∙ refused-rest are.now update rest faults.Worn due
  updated-due (Damaged damage) due = absurd due
  updated-due Disk due = tt
  updated-due NotAStore due = tt
  updated-due (BadJournal at) due = tt
  updated-due NoRoom due = tt
  updated-due Stopped due = tt
  updated-due Version1 due = tt
  updated-due Memory due = tt

-- where none is left the pages stand for the outcome
pub updated-all : {held : Option (List (List ℕ × ℕ))} {state : Contents} {updates : List Update} {block : Superblock} {pages : PageMap} (left : List Update) → AreUpdated held state updates left block pages → length left ≡ 0 → StandForOutcome (state_after_all state updates) block pages
updated-all {held} {state} {updates} {block} {pages} [] are none = subst (λ (r : Result Contents UpdateFault). StandForOutcome r block pages) (sym are.goes_on) (stand-ended held block pages are.now are.stand)
updated-all (update ∷ rest) are none = absurd (omega (arith, none))

-- pages that stand for an outcome stand for a state that came out
pub outcome-is : (outcome : Result Contents UpdateFault) (block : Superblock) (pages : PageMap) → StandForOutcome outcome block pages → (after : Contents) × (outcome ≡ Ok after) × PagesStand block pages after
outcome-is (Ok after) block pages stand = (after, refl, stand)
outcome-is (Err fault) block pages none = absurd none

-- an image that stands for that state stands for the outcome
pub outcome-stands : (outcome : Result Contents UpdateFault) (after : Contents) (image : Image) → outcome ≡ Ok after → Stands image after → StandsForOutcome outcome image
outcome-stands outcome after image is stands = subst (λ (r : Result Contents UpdateFault). StandsForOutcome r image) (sym is) stands

-- what a crash leaves of one commit is the state before all updates, or the one after them
pub leaves-all : (old new : World) (before : Contents) (updates : List Update) (after : Contents) → state_after_all before updates ≡ Ok after → LeavesOnly old new (LeavesOneOf before after old) → LeavesOnly old new (LeavesAllOrNone before updates old)
leaves-all old new before updates after is leaves =
    within leaves (λ image said left. (⊎_elim (λ stands. inl stands) (λ stands. inr (outcome-stands (state_after_all before updates) after image is stands)) left.0, left.1))

-- ---- update numbers

-- an effect's update number is the one before it or the next, and is the same only where the state is
pub record Rises (before after : Contents) : Type 0 where
  pub later : before.number ≤ after.number
  pub same : IsLater before after

-- the same state
stays : (state : Contents) → Rises state state
stays state = record { later = omega arith; same = λ e. refl }

-- a state with the next update number
rises : (before after : Contents) → after.number ≡ before.number + 1 → Rises before after
rises before after more = record { later = omega (arith, more); same = λ e. absurd (omega (arith, more, e)) }

-- a put
put-rises : (state : Contents) (key : Name) (serial : ℕ) (place : Place) → Rises state (put_at state key serial place).state
put-rises state key serial place = full (nat_le 1000000 (length state.places) && is_none (place_at key state.places))
  where
    put : Effect
    put = record { state = record { places = with_place key place state.places; serial = serial; number = state.number + 1 }; answer = Ok (cond (is_some (place_at key state.places)) Replaced New) }

    worn : (b : Bool) → Rises state (cond b (refuses state faults.Worn) put).state
    worn true = stays state
    worn false = rises state _ refl

    full : (b : Bool) → Rises state (cond b (refuses state faults.Full) (cond (state.number == 2 ^ 40) (refuses state faults.Worn) put)).state
    full true = stays state
    full false = worn (state.number == 2 ^ 40)

-- a removal
remove-rises : (state : Contents) (key : Name) → Rises state (removed_at state key).state
remove-rises state key = absent (is_none (place_at key state.places))
  where
    gone : Effect
    gone = record { state = record { places = without_place key state.places; serial = state.serial; number = state.number + 1 }; answer = Ok Gone }

    worn : (b : Bool) → Rises state (cond b (refuses state faults.Worn) gone).state
    worn true = stays state
    worn false = rises state _ refl

    absent : (b : Bool) → Rises state (cond b (record { state = state; answer = Ok Absent }) (cond (state.number == 2 ^ 40) (refuses state faults.Worn) gone)).state
    absent true = stays state
    absent false = worn (state.number == 2 ^ 40)

-- any update
pub effect-rises : (state : Contents) (update : Update) → Rises state (effect_of state update).state
effect-rises state (Put key point words label) = put-rises state (key_for state key) (serial_after state key) (record { point = point; words = words; label = label })
effect-rises state (Remove key) = remove-rises state key

-- one rise after another
rises-then : (a b c : Contents) → Rises a b → Rises b c → Rises a c
rises-then a b c ab bc = record {
  later = omega (arith, ab.later, bc.later);
  same = λ e. bc.same (omega (arith, ab.later, bc.later, e)) ∙ ab.same (omega (arith, ab.later, bc.later, e));
}

-- and all of some updates
pub all-rise : (state : Contents) (updates : List Update) (after : Contents) → state_after_all state updates ≡ Ok after → Rises state after
all-rise state [] after is = let same : state ≡ after = cc in subst (Rises state) same (stays state)
all-rise state (update ∷ rest) after is = at (all-rise (effect_of state update).state rest after) (effect_of state update).answer is
  where
    at : (state_after_all (effect_of state update).state rest ≡ Ok after → Rises (effect_of state update).state after)
        → (r : Result Applied UpdateFault) → accepted r (state_after_all (effect_of state update).state rest) ≡ Ok after → Rises state after
    at behind (Ok applied) is = rises-then state (effect_of state update).state after (effect-rises state update) (behind is)
    at behind (Err fault) is = absurd (cc)
