-- The steps of a load, and what they say and do.
use Rattle.std.proofs.Common.{◌≡◌, ℕ, ◌+◌, ◌≤◌, ◌<◌, List, [], ◌∷◌, ◌++◌, length, refl, sym, ap, ◌∙◌, arith, length-append, nat_le}
use Rattle.std.specs.Prelude.{Ok, Err, if◌then◌else◌}
use Rattle.std.proofs.lemmas.Bool.{le-leb, lt-leb}
use Rattle.place_values.specs.State.{Contents}
use Rattle.place_values.specs.declared.update.Update.{Update}
use Rattle.place_values.specs.declared.update.UpdateFault.{UpdateFault}
use Rattle.geojson_points.specs.Feature.{Place}
use Rattle.geojson_points.specs.Takes.{Item, Placed, Skipped}
use Rattle.geojson_points.specs.declared.taken.SkipReason.{SkipReason}
use Rattle.irtree_engine.specs.Updates.{state_after_all}
use Rattle.run_outcome.specs.Turn.{continued, Done, Limit}
use Rattle.run_outcome.specs.Load.{Closing, Step, Skip, Store, steps, load, stores, ends_at, put_of, limit_of, skip_line, stored_line}
use Rattle.run_outcome.specs.Left.{batch_turn}

-- an item is passed over
pub steps-skip : (batch : ℕ) (waiting : List Update) (index : ℕ) (reason : SkipReason) (items : List Item) → steps batch waiting (Skipped index reason ∷ items) ≡ Skip index reason ∷ steps batch waiting items
unfolding steps
steps-skip batch [] index reason items = refl
steps-skip batch (update ∷ updates) index reason items = refl

-- a place waits, or fills a batch
steps-place : (batch : ℕ) (waiting : List Update) (place : Place) (items : List Item) → steps batch waiting (Placed place ∷ items) ≡ (if nat_le batch (length waiting + 1) then Store (waiting ++ put_of place ∷ []) ∷ steps batch [] items else steps batch (waiting ++ put_of place ∷ []) items)
unfolding steps
steps-place batch [] place items = refl
steps-place batch (update ∷ updates) place items = refl

-- a place waits
pub steps-waits : (batch : ℕ) (waiting more : List Update) (place : Place) (items : List Item) → more ≡ waiting ++ put_of place ∷ [] → length more < batch
    → steps batch waiting (Placed place ∷ items) ≡ steps batch more items
steps-waits batch waiting more place items is few =
    let short : length waiting + 1 < batch = omega (arith, few, ap length is, length-append waiting (put_of place ∷ [])) in
    steps-place batch waiting place items ∙ rw (lt-leb batch (length waiting + 1) short) (ap (λ w. steps batch w items) (sym is))

-- a place fills a batch
pub steps-fills : (batch : ℕ) (waiting more : List Update) (place : Place) (items : List Item) → more ≡ waiting ++ put_of place ∷ [] → batch ≤ length more
    → steps batch waiting (Placed place ∷ items) ≡ Store more ∷ steps batch [] items
steps-fills batch waiting more place items is full =
    let enough : batch ≤ length waiting + 1 = omega (arith, full, ap length is, length-append waiting (put_of place ∷ [])) in
    steps-place batch waiting place items ∙ rw (le-leb batch (length waiting + 1) enough) (ap (λ w. Store w ∷ steps batch [] items) (sym is))

-- the places that are left over are a batch
left-over : (batch : ℕ) (waiting : List Update) → (waiting ≡ [] → ⊥) → steps batch waiting [] ≡ Store waiting ∷ []
unfolding steps
left-over batch [] some = absurd (some refl)
left-over batch (update ∷ updates) some = refl

-- places are left over behind the last item
pub steps-left : (batch : ℕ) (waiting updates : List Update) → updates ≡ waiting → (updates ≡ [] → ⊥) → steps batch waiting [] ≡ Store updates ∷ []
steps-left batch waiting updates same some = ap (λ w. steps batch w []) (sym same) ∙ left-over batch updates some

-- none are
pub steps-none : (batch : ℕ) (waiting : List Update) → waiting ≡ [] → steps batch waiting [] ≡ []
unfolding steps
steps-none batch waiting none = ap (λ w. steps batch w []) none

-- what passing over says, in front of the rest
pub load-skip : (closing : Closing) (state : Contents) (stored skipped : ℕ) (index : ℕ) (reason : SkipReason) (rest : List Step)
    → load closing state stored skipped (Skip index reason ∷ rest) ≡ continued (record { text = skip_line index reason; changes = []; state = state }) (load closing state stored (skipped + 1) rest)
unfolding load
load-skip closing state stored skipped index reason rest = refl

-- what storing says, in front of the rest
pub load-stored : (closing : Closing) (state after : Contents) (stored skipped : ℕ) (updates : List Update) (rest : List Step) → state_after_all state updates ≡ Ok after
    → load closing state stored skipped (Store updates ∷ rest) ≡ continued (batch_turn updates stored after) (load closing after (stored + length updates) skipped rest)
unfolding load
load-stored closing state after stored skipped updates rest is = ap (λ r. stores state updates (stored_line (stored + length updates)) r (λ next. load closing next (stored + length updates) skipped rest)) is

-- or a limit ends it
pub load-refused : (closing : Closing) (state : Contents) (stored skipped : ℕ) (updates : List Update) (rest : List Step) (fault : UpdateFault) → state_after_all state updates ≡ Err fault
    → load closing state stored skipped (Store updates ∷ rest) ≡ ends_at state [] (Limit (limit_of fault))
unfolding load
load-refused closing state stored skipped updates rest fault is = ap (λ r. stores state updates (stored_line (stored + length updates)) r (λ next. load closing next (stored + length updates) skipped rest)) is

-- behind all steps comes what is said last
pub load-none : (closing : Closing) (state : Contents) (stored skipped : ℕ) → load closing state stored skipped [] ≡ ends_at state (closing state stored skipped) Done
unfolding load
load-none closing state stored skipped = refl
