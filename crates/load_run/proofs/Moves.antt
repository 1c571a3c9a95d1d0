-- How a load moves from stage to stage, step by step.
use Rattle.std.proofs.Common.{◌≡◌, ◌⊎◌, inl, inr, ⊎_elim, ℕ, ◌+◌, List, [], ◌∷◌, ◌++◌, length, map, refl, sym, ap, subst, ◌∙◌, arith, append_assoc}
use Rattle.std.specs.Prelude.{Result, Ok, Err, OnOk, IfErr}
use Rattle.std.proofs.lemmas.List.{append-nil, take_all}
use Rattle.disk_model.specs.World.{World, Image, LeavesOnly}
use Rattle.disk_model.proofs.Moments.{started, within}
use Rattle.place_values.specs.State.{Contents}
use Rattle.place_values.specs.declared.update.Update.{Update}
use Rattle.place_values.specs.declared.update.UpdateFault.{UpdateFault}
use Rattle.place_values.specs.declared.update.UpdateFault.TheVariants as faults
use Rattle.geojson_points.specs.Takes.{Item, Skipped, item_of}
use Rattle.geojson_points.specs.declared.taken.Taken.{Taken}
use Rattle.geojson_points.specs.declared.taken.SkipReason.{SkipReason}
use Rattle.store_model.specs.Stands.{Stands}
use Rattle.irtree_engine.specs.Holding.{HoldsState}
use Rattle.irtree_engine.specs.Updates.{LeavesAllOrNone, StandsForOutcome, state_after_all}
use Rattle.run_outcome.specs.declared.ended.Ended.{Ended}
use Rattle.run_outcome.specs.declared.ended.Ended.TheVariants as ends
use Rattle.run_outcome.specs.declared.ended.LimitFault.TheVariants as limits
use Rattle.run_outcome.specs.Turn.{Transcript, Limit}
use Rattle.run_outcome.specs.Load.{Closing, Step, Skip, Store, steps, load, stores, limit_of, skip_line, stored_line}
use Rattle.run_outcome.specs.Left.{LeftBySteps, LeftByBatch, StopsAtBatch, StopsBehind, batch_turn}
use Rattle.run_outcome.specs.Said.{SaysFrontOf, SaysAll, LeftByTurn}
use Rattle.load_run.specs.declared.load.Load.{Load}
use Rattle.load_run.specs.Loading.{HasStored, Stage, stage, stage_before, to_come, text_to_say, LeftFrom, moment_of, Goes, Reaches, IsConcluded, Concludes, Moves, IsUnstored, StoresAll}
use Rattle.load_run.proofs.Batches.{outcome-holds}
use Rattle.load_run.proofs.Fronts.{front-none, front-split, front-longer, front-empty}
use Rattle.load_run.proofs.Steps.{steps-skip, load-skip, load-stored, load-refused, load-none}

-- ---- an item is passed over

module _ (closing : Closing) (state : Contents) (stored skipped index : ℕ) (reason : SkipReason) (rest : List Step) (waits more : List ℕ) (adds : more ≡ waits ++ skip_line index reason) where
  -- its line is added to what waits
  pub goes-skip : (now : World) → HoldsState now state
      → Goes (record { closing = closing; state = state; stored = stored; skipped = skipped; rest = Skip index reason ∷ rest; waits = waits })
      (record { closing = closing; state = state; stored = stored; skipped = skipped + 1; rest = rest; waits = more }) now now
  goes-skip now holds =
      let line = skip_line index reason in
      let was = load-skip closing state stored skipped index reason rest in
      let behind : now.said ++ more ≡ (now.said ++ waits) ++ line = ap (λ t. now.said ++ t) adds ∙ sym (append_assoc now.said waits line) in
      record {
        done = [];
        text = ap (λ (t : Transcript). waits ++ t.turn.text) was ∙ sym (append_assoc waits line (load closing state stored (skipped + 1) rest).turn.text) ∙ ap (λ t. t ++ (load closing state stored (skipped + 1) rest).turn.text) (sym adds);
        end = ap (λ (t : Transcript). t.end) was;
        state = ap (λ (t : Transcript). t.turn.state) was;
        said = sym (append-nil now.said);
        holds = holds;
        left = started now;
        leads = λ image said left. ⊎_elim
            (λ (h : Stands image state × SaysFrontOf more now.said said).
            ⊎_elim (λ front. inl (h.0, front)) (λ front. inr (inl (h.0, front))) (front-split waits line now.said said (subst (λ t. SaysFrontOf t now.said said) adds h.1)))
            (λ (h : LeftBySteps closing state stored (skipped + 1) rest (now.said ++ more) image said).
            inr (inr (subst (λ b. LeftBySteps closing state stored (skipped + 1) rest b image said) behind h)))
            left;
        stops = λ image said stops. subst (λ b. StopsAtBatch state stored (skipped + 1) rest b (moment_of image said)) behind stops;
      }

-- and so it is in front of the items behind it
pub goes-skipped : (closing : Closing) (state : Contents) (stored skipped index : ℕ) (reason : SkipReason) (waits more : List ℕ) (batch : ℕ) (waiting : List Update) (items : List Item) (now : World) → more ≡ waits ++ skip_line index reason → HoldsState now state
    → Goes (record { closing = closing; state = state; stored = stored; skipped = skipped; rest = steps batch waiting (Skipped index reason ∷ items); waits = waits })
    (record { closing = closing; state = state; stored = stored; skipped = skipped + 1; rest = steps batch waiting items; waits = more }) now now
goes-skipped closing state stored skipped index reason waits more batch waiting items now adds holds =
    subst (λ (r : List Step). Goes (record { closing = closing; state = state; stored = stored; skipped = skipped; rest = r; waits = waits }) (record { closing = closing; state = state; stored = stored; skipped = skipped + 1; rest = steps batch waiting items; waits = more }) now now)
    (sym (steps-skip batch waiting index reason items))
    (goes-skip closing state stored skipped index reason (steps batch waiting items) waits more adds now holds)

-- ---- what waits is said

module _ (at : Stage) (none : List ℕ) (old new : World) (holds : HoldsState old at.state) where
  -- a crash meanwhile left the state and a front of it
  says-left : {T : Type 0} (result : Result T Ended) → SaysAll at.waits old new result → LeavesOnly old new (LeftFrom at old.said)
  says-left result says = within says.left (λ image said left. inl (subst (λ (i : Image). Stands i at.state) (sym left.0) holds, left.1))

  -- all of it is said
  pub goes-said : {T : Type 0} (done : T) → SaysAll {E = Ended} at.waits old new (Ok done) → none ≡ [] → Goes at (record at { waits = none }) old new
  goes-said done says empty =
      let behind : new.said ++ none ≡ old.said ++ at.waits = ap (λ t. new.said ++ t) empty ∙ append-nil new.said ∙ says.all in
      record {
        done = at.waits;
        text = ap (λ t. at.waits ++ (t ++ (to_come at).turn.text)) (sym empty);
        end = refl;
        state = refl;
        said = says.all;
        holds = subst (λ (i : Image). Stands i at.state) (sym says.seen) holds;
        left = says-left (Ok done) says;
        leads = λ image said left. ⊎_elim
            (λ (h : Stands image at.state × SaysFrontOf none new.said said).
            inl (h.0, (length at.waits, front-empty new.said said (subst (λ t. SaysFrontOf t new.said said) empty h.1) ∙ says.all ∙ ap (λ t. old.said ++ t) (sym (take_all (length at.waits) at.waits (omega arith))))))
            (λ (h : LeftBySteps at.closing at.state at.stored at.skipped at.rest (new.said ++ none) image said). inr (subst (λ b. LeftBySteps at.closing at.state at.stored at.skipped at.rest b image said) behind h))
            left;
        stops = λ image said stops. subst (λ b. StopsAtBatch at.state at.stored at.skipped at.rest b (moment_of image said)) behind stops;
      }

  -- or a front of it
  pub concludes-unsaid : {T : Type 0} (end : Ended) → SaysAll {T = T} at.waits old new (Err end) → end ≡ ends.Sink → Concludes {T = T} at old new (Err end)
  concludes-unsaid {T = T} end says is =
      subst (λ (e : Ended). Concludes {T = T} at old new (Err e)) (sym is)
      (record { left = says-left {T = T} (Err end) says; ends = front-longer at.waits (to_come at).turn.text old.said new.said says.front })

  -- whatever came of it
  pub moves-said : {T : Type 0} (result : Result T Ended) → SaysAll at.waits old new result → OnOk result (none ≡ []) → IfErr result (λ end. end ≡ ends.Sink) → Moves at (λ state. record at { state = state; waits = none }) old new result
  moves-said (Ok done) says empty sink = (at.state, goes-said done says empty)
  moves-said (Err end) says empty sink = concludes-unsaid end says sink

-- ---- places are stored

module _ (closing : Closing) (state : Contents) (stored skipped : ℕ) (updates : List Update) (rest : List Step) (old new : World) where
  -- in front of a batch, with nothing that waits to be said
  abbrev pub before_batch : Stage
  before_batch = record { closing = closing; state = state; stored = stored; skipped = skipped; rest = Store updates ∷ rest; waits = [] }

  -- behind it, in a state, with its line to be said
  abbrev pub behind_batch : Contents → Stage
  behind_batch after = record { closing = closing; state = after; stored = stored + length updates; skipped = skipped; rest = rest; waits = stored_line (stored + length updates) }

  -- what a crash leaves around a batch that is accepted
  around : (after : Contents) → state_after_all state updates ≡ Ok after → (before : List ℕ) (image : Image) (said : List ℕ)
      → LeftByTurn state (batch_turn updates stored after) before image said ⊎ LeftBySteps closing after (stored + length updates) skipped rest (before ++ stored_line (stored + length updates)) image said
      → LeftBySteps closing state stored skipped (Store updates ∷ rest) before image said
  around after is before image said left =
      subst (λ (r : Result Contents UpdateFault). LeftByBatch state updates stored r (λ next. LeftBySteps closing next (stored + length updates) skipped rest) before image said) (sym is) left

  -- what the engine leaves of it
  batch-left : (image : Image) (said : List ℕ) → LeavesAllOrNone state updates old image said → LeftFrom before_batch old.said image said
  batch-left image said left = ⊎_elim
      (λ (h : Stands image state). inl (h, front-none [] old.said said left.1))
      (λ (h : StandsForOutcome (state_after_all state updates) image).
      let came = outcome-holds (state_after_all state updates) image h in
      inr (around came.0 came.1 (old.said ++ []) image said
      (inl (inr (came.2, front-none (stored_line (stored + length updates)) (old.said ++ []) said (left.1 ∙ sym (append-nil old.said)))))))
      left.0

  -- all are stored
  pub goes-stored : {T : Type 0} (done : T) → StoresAll state updates old new (Ok done) → (after : Contents) × Goes before_batch (behind_batch after) old new
  goes-stored done stores =
      let line = stored_line (stored + length updates) in
      let came = outcome-holds (state_after_all state updates) new.seen stores.stored in
      let after = came.0 in
      let was = load-stored closing state after stored skipped updates rest came.1 in
      let start : new.said ≡ old.said ++ [] = stores.said ∙ sym (append-nil old.said) in (
        after,
        record {
          done = [];
          text = ap (λ (t : Transcript). t.turn.text) was;
          end = ap (λ (t : Transcript). t.end) was;
          state = ap (λ (t : Transcript). t.turn.state) was;
          said = start;
          holds = came.2;
          left = within stores.left batch-left;
          leads = λ image said left. ⊎_elim
              (λ (h : Stands image after × SaysFrontOf line new.said said). inr (around after came.1 (old.said ++ []) image said (inl (inr (h.0, subst (λ b. SaysFrontOf line b said) start h.1)))))
              (λ (h : LeftBySteps closing after (stored + length updates) skipped rest (new.said ++ line) image said).
              inr (around after came.1 (old.said ++ []) image said (inr (subst (λ b. LeftBySteps closing after (stored + length updates) skipped rest (b ++ line) image said) start h))))
              left;
          stops = λ image said stops.
              inr (subst (λ (r : Result Contents UpdateFault). StopsBehind r (λ next. StopsAtBatch next (stored + length updates) skipped rest ((old.said ++ []) ++ line) (moment_of image said))) (sym came.1)
              (subst (λ b. StopsAtBatch after (stored + length updates) skipped rest (b ++ line) (moment_of image said)) start stops));
        },
      )

  -- a limit refuses them: nothing more is to be said, and it ends so
  refused-so : (fault : UpdateFault) → state_after_all state updates ≡ Err fault → new.said ≡ old.said → HoldsState new state → Reaches (Limit (limit_of fault)) before_batch old new
  refused-so fault is same holds =
      let was = load-refused closing state stored skipped updates rest fault is in
      record {
        end = ap (λ (t : Transcript). t.end) was;
        said = same ∙ sym (append-nil old.said) ∙ ap (λ (t : Transcript). old.said ++ t.turn.text) (sym was);
        holds = subst (λ (s : Contents). HoldsState new s) (sym (ap (λ (t : Transcript). t.turn.state) was)) holds;
      }

  -- none is stored
  pub concludes-unstored : {T : Type 0} (end : Ended) → StoresAll {T = T} state updates old new (Err end) → Concludes {T = T} before_batch old new (Err end)
  concludes-unstored {T = T} end stores = record { left = within stores.left batch-left; ends = by_end end stores.unstored }
    where
      by_end : (end : Ended) → IsUnstored state updates new end → IsConcluded {T = T} before_batch old new (Err end)
      by_end ends.Memory why = front-none (text_to_say before_batch) old.said new.said stores.said
      by_end ends.Disk why = front-none (text_to_say before_batch) old.said new.said stores.said
      by_end (ends.Limit limits.Full) why = refused-so faults.Full why.0 stores.said why.1
      by_end (ends.Limit limits.Worn) why = refused-so faults.Worn why.0 stores.said why.1
      by_end (ends.Limit limits.NoRoom) why = inl (stores.said ∙ sym (append-nil old.said), why)
      by_end _ why = absurd why

-- ---- what is said last

module _ (closing : Closing) (state : Contents) (stored skipped : ℕ) (waits more : List ℕ) (old new : World) (adds : more ≡ waits ++ closing state stored skipped) (holds : HoldsState old state) where
  -- behind all steps
  abbrev pub at_last : Stage
  at_last = record { closing = closing; state = state; stored = stored; skipped = skipped; rest = []; waits = waits }

  -- its text is what is said last, behind what waits
  last-text : more ≡ text_to_say at_last
  last-text = adds ∙ ap (λ (t : Transcript). waits ++ t.turn.text) (sym (load-none closing state stored skipped))

  -- a crash meanwhile left the state and a front of its text
  last-left : {T : Type 0} (result : Result T Ended) → SaysAll more old new result → LeavesOnly old new (LeftFrom at_last old.said)
  last-left result says = within says.left (λ image said left.
      let stands : Stands image state = subst (λ (i : Image). Stands i state) (sym left.0) holds in
      ⊎_elim (λ front. inl (stands, front)) (λ front. inr (stands, front)) (front-split waits (closing state stored skipped) old.said said (subst (λ t. SaysFrontOf t old.said said) adds left.1)))

  -- it is said, or a front of it
  pub concludes-said : {T : Type 0} (result : Result T Ended) → SaysAll more old new result → IfErr result (λ end. end ≡ ends.Sink) → Concludes at_last old new result
  concludes-said (Ok done) says sink = record {
    left = last-left (Ok done) says;
    ends = record {
      end = ap (λ (t : Transcript). t.end) (load-none closing state stored skipped);
      said = says.all ∙ ap (λ t. old.said ++ t) last-text;
      holds = subst (λ (s : Contents). HoldsState new s) (sym (ap (λ (t : Transcript). t.turn.state) (load-none closing state stored skipped)))
          (subst (λ (i : Image). Stands i state) (sym says.seen) holds);
    };
  }
  concludes-said {T = T} (Err end) says sink =
      subst (λ (e : Ended). Concludes {T = T} at_last old new (Err e)) (sym sink)
      (record { left = last-left {T = T} (Err end) says; ends = subst (λ t. SaysFrontOf t old.said new.said) last-text says.front })

-- ---- in front of a load's items

-- other steps are the same
pub moves-as : (closing : Closing) (at : Load) (state : Contents) (rest same : List Step) (after : Contents → Stage) (old new : World) {T : Type 0} (result : Result T Ended) → rest ≡ same → Moves (stage closing at state same) after old new result
    → Moves (stage closing at state rest) after old new result
moves-as closing at state rest same after old new result is moves = subst (λ (r : List Step). Moves (stage closing at state r) after old new result) (sym is) moves

-- behind a batch nothing waits
pub moves-before : (closing : Closing) (at : Stage) (mid last : Load) (items : List Item) (count : ℕ) (old new : World) {T : Type 0} (result : Result T Ended) → mid.waiting.items ≡ [] → OnOk result (HasStored count mid last)
    → Moves at (λ state. stage closing last state (steps mid.batch [] items)) old new result → Moves at (λ state. stage_before closing last state items) old new result
moves-before closing at mid last items count old new (Ok done) none stored moves =
    let same : steps mid.batch [] items ≡ steps last.batch last.waiting.items items =
    ap (λ b. steps b [] items) (sym stored.batch) ∙ ap (λ w. steps last.batch w items) (sym (stored.waiting ∙ none)) in
    (moves.0, subst (λ (r : List Step). Goes at (stage closing last moves.0 r) old new) same moves.1)
moves-before closing at mid last items count old new (Err end) none stored moves = moves

-- the items that are left, in another way
pub goes-items : (closing : Closing) (at : Stage) (mid : Load) (state : Contents) (left rest : List Taken) (old new : World) → left ≡ rest → Goes at (stage_before closing mid state (map item_of left)) old new → Goes at (stage_before closing mid state (map item_of rest)) old new
goes-items closing at mid state left rest old new is goes = subst (λ (xs : List Taken). Goes at (stage_before closing mid state (map item_of xs)) old new) is goes
