-- A load that goes on from stage to stage.
use Rattle.std.proofs.Common.{◌≡◌, inl, inr, ⊎_elim, ℕ, ◌+◌, List, [], ◌∷◌, ◌++◌, length, refl, sym, ap, subst, ◌∙◌, append_assoc}
use Rattle.std.specs.Prelude.{Result, Ok, Err}
use Rattle.std.proofs.lemmas.List.{append-nil}
use Rattle.disk_model.specs.World.{World, Image}
use Rattle.disk_model.proofs.Moments.{rested, started, then, within}
use Rattle.page_store.specs.Store.{Rests}
use Rattle.place_values.specs.State.{Contents}
use Rattle.place_values.specs.declared.update.UpdateFault.{UpdateFault}
use Rattle.store_model.specs.Stands.{Stands}
use Rattle.irtree_engine.specs.Holding.{HoldsState}
use Rattle.irtree_engine.specs.Updates.{state_after_all}
use Rattle.run_outcome.specs.declared.ended.Ended.{Ended}
use Rattle.run_outcome.specs.declared.ended.Ended.TheVariants as ends
use Rattle.run_outcome.specs.declared.ended.LimitFault.TheVariants as limits
use Rattle.run_outcome.specs.Load.{Step, Skip, Store, skip_line, stored_line}
use Rattle.run_outcome.specs.Left.{StopsAtBatch, StopsBehind}
use Rattle.run_outcome.specs.Said.{SaysFrontOf}
use Rattle.run_outcome.specs.Turn.{End}
use Rattle.load_run.proofs.Fronts.{front-behind, front-none}
use Rattle.load_run.specs.Loading.{LeftFrom, Stage, text_to_say, StopsFrom, moment_of, Goes, Reaches, IsConcluded, Concludes, Moves}

-- ---- where a load stops for want of room

-- behind a batch
pub behind-same : (after : Result Contents UpdateFault) (One Other : Contents → Type 0) → ((state : Contents) → One state → Other state) → StopsBehind after One → StopsBehind after Other
behind-same (Ok state) One Other more stops = more state stops
behind-same (Err fault) One Other more stops = absurd stops

-- it is seen from what reads give and what was said
pub stops-same : (state : Contents) (stored skipped : ℕ) (steps : List Step) (before : List ℕ) (one other : World) → one.seen ≡ other.seen → one.said ≡ other.said
    → StopsAtBatch state stored skipped steps before one → StopsAtBatch state stored skipped steps before other
stops-same state stored skipped [] before one other seen said stops = absurd stops
stops-same state stored skipped (Skip index reason ∷ rest) before one other seen said stops =
    stops-same state stored (skipped + 1) rest (before ++ skip_line index reason) one other seen said stops
stops-same state stored skipped (Store updates ∷ rest) before one other seen said stops =
    let line = stored_line (stored + length updates) in
    ⊎_elim
    (λ (h : (one.said ≡ before) × Stands one.seen state). inl (sym said ∙ h.0, subst (λ (i : Image). Stands i state) seen h.1))
    (λ (h : StopsBehind (state_after_all state updates) (λ after. StopsAtBatch after (stored + length updates) skipped rest (before ++ line) one)). inr (behind-same (state_after_all state updates) _ _ (λ after more. stops-same after (stored + length updates) skipped rest (before ++ line) one other seen said more) h))
    stops

-- ---- from stage to stage

-- nothing goes on
pub goes-nowhere : (at : Stage) (now : World) → HoldsState now at.state → Goes at at now now
goes-nowhere at now holds = record {
  done = [];
  text = refl;
  end = refl;
  state = refl;
  said = sym (append-nil now.said);
  holds = holds;
  left = started now;
  leads = λ image said left. left;
  stops = λ image said stops. stops;
}

-- the same stage, seen in another way
pub goes-as : (at after : Stage) (now : World) → at ≡ after → HoldsState now at.state → Goes at after now now
goes-as at after now same holds = subst (λ (s : Stage). Goes at s now now) same (goes-nowhere at now holds)

module _ {at mid : Stage} {u v : World} (first : Goes at mid u v) where
  -- one way after another
  pub goes-then : {after : Stage} {w : World} → Goes mid after v w → Goes at after u w
  goes-then next = record {
    done = first.done ++ next.done;
    text = first.text ∙ ap (λ t. first.done ++ t) next.text ∙ sym (append_assoc first.done next.done (text_to_say _));
    end = first.end ∙ next.end;
    state = first.state ∙ next.state;
    said = next.said ∙ ap (λ t. t ++ next.done) first.said ∙ append_assoc u.said first.done next.done;
    holds = next.holds;
    left = then first.left (within next.left first.leads);
    leads = λ image said left. first.leads image said (next.leads image said left);
    stops = λ image said stops. first.stops image said (next.stops image said stops);
  }

  -- a front of the text behind
  front-then : (w : World) → SaysFrontOf (text_to_say mid) v.said w.said → SaysFrontOf (text_to_say at) u.said w.said
  front-then w says = front-behind (text_to_say at) first.done (text_to_say mid) u.said v.said w.said first.text first.said says

  -- all of it
  reaches-then : {wanted : End} {w : World} → Reaches wanted mid v w → Reaches wanted at u w
  reaches-then {w = w} reaches = record {
    end = first.end ∙ reaches.end;
    said = reaches.said ∙ ap (λ t. t ++ text_to_say mid) first.said ∙ append_assoc u.said first.done (text_to_say mid) ∙ ap (λ t. u.said ++ t) (sym first.text);
    holds = subst (λ (s : Contents). HoldsState w s) (sym first.state) reaches.holds;
  }

  -- want of room
  stops-then : (w : World) → StopsFrom mid v.said w → StopsFrom at u.said w
  stops-then w stops =
      stops-same at.state at.stored at.skipped at.rest (u.said ++ at.waits) (moment_of w.seen w.said) w refl refl
      (first.stops w.seen w.said (stops-same mid.state mid.stored mid.skipped mid.rest (v.said ++ mid.waits) w (moment_of w.seen w.said) refl refl stops))

  -- how it ended
  concluded-then : {T : Type 0} (w : World) (result : Result T Ended) → IsConcluded mid v w result → IsConcluded at u w result
  concluded-then w (Ok done) ended = reaches-then ended
  concluded-then w (Err ends.Memory) ended = front-then w ended
  concluded-then w (Err ends.Disk) ended = front-then w ended
  concluded-then w (Err ends.Sink) ended = front-then w ended
  concluded-then w (Err (ends.Limit limits.Full)) ended = reaches-then ended
  concluded-then w (Err (ends.Limit limits.Worn)) ended = reaches-then ended
  concluded-then w (Err (ends.Limit limits.NoRoom)) ended = stops-then w ended
  concluded-then w (Err _) ended = absurd ended

  -- a load that went on came to its end
  pub goes-concludes : {T : Type 0} {w : World} {result : Result T Ended} → Concludes mid v w result → Concludes at u w result
  goes-concludes {w = w} {result = result} next = record { left = then first.left (within next.left first.leads); ends = concluded-then w result next.ends }

-- a load that went on goes on, or comes to its end
pub goes-moves : {at mid : Stage} {u v : World} (first : Goes at mid u v) (w : World) (after : Contents → Stage) {T : Type 0} (result : Result T Ended) → Moves mid after v w result → Moves at after u w result
goes-moves first w after (Ok done) next = (next.0, goes-then first next.1)
goes-moves first w after (Err end) next = goes-concludes first next

-- a load ended for want of memory, with nothing done
pub lacks-memory : (at : Stage) (now : World) (T : Type 0) → Concludes {T = T} at now now (Err ends.Memory)
lacks-memory at now T = record { left = started now; ends = front-none (text_to_say at) now.said now.said refl }

-- the engine was only read: the load stands where it stood
pub goes-read : (at : Stage) (old new : World) → Rests old new → HoldsState old at.state → Goes at at old new
goes-read at old new rests holds = record {
  done = [];
  text = refl;
  end = refl;
  state = refl;
  said = rests.said ∙ sym (append-nil old.said);
  holds = subst (λ (i : Image). Stands i at.state) (sym rests.seen) holds;
  left = rested rests.adds;
  leads = λ image said left. subst (λ b. LeftFrom at b image said) rests.said left;
  stops = λ image said stops. subst (λ b. StopsFrom at b (moment_of image said)) rests.said stops;
}
