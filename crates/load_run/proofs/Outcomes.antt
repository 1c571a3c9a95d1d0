-- How a load ends, from what its text gives.
use Rattle.std.proofs.Common.{◌≡◌, ◌≢◌, ◌⊎◌, ℕ, ◌+◌, ◌<◌, ◌≤◌, inl, inr, ⊎_elim, List, [], ◌++◌, length, take, refl, sym, ap, subst, ◌∙◌, arith, append_assoc, length-append, length-take}
use Rattle.std.specs.Prelude.{Option, Result, Ok, Err, IfErr, IsErrOf}
use Rattle.std.proofs.lemmas.List.{append-nil}
use Rattle.disk_model.specs.World.{World, LeavesOnly}
use Rattle.disk_model.proofs.Moments.{within}
use Rattle.place_values.specs.State.{Contents}
use Rattle.json_spelled.specs.declared.tree.JsonFault.TheVariants as json
use Rattle.geojson_points.specs.Takes.{Item, Takes}
use Rattle.geojson_points.specs.declared.fault.LoadFault.{LoadFault}
use Rattle.geojson_points.specs.declared.fault.LoadFault.TheVariants as loads
use Rattle.store_model.specs.Stands.{Stands}
use Rattle.irtree_engine.specs.Holding.{HoldsState}
use Rattle.run_outcome.specs.declared.ended.Ended.{Ended}
use Rattle.run_outcome.specs.declared.ended.Ended.TheVariants as ends
use Rattle.run_outcome.specs.declared.ended.InputFault.{InputFault}
use Rattle.run_outcome.specs.declared.ended.InputFault.TheVariants as inputs
use Rattle.run_outcome.specs.declared.ended.LimitFault.{LimitFault}
use Rattle.run_outcome.specs.declared.ended.LimitFault.TheVariants as limits
use Rattle.run_outcome.specs.Left.{LeftBySteps, LeftByLoad, StopsAtBatch}
use Rattle.run_outcome.specs.Load.{Closing, load, load_max, IsTaken, says_loaded, steps}
use Rattle.run_outcome.specs.Said.{EndsAs, SaysFrontOf}
use Rattle.run_outcome.specs.Turn.{End}
use Rattle.run_outcome.proofs.Lists.{none-behind}
use Rattle.load_run.specs.Loading.{IsUnread, RefusesSo, EndsLoad, EndsSteps, IsConcluded, Reaches, LeftFrom, stage_at_start}
use Rattle.load_run.proofs.Fronts.{front-empty}

-- the greatest number of bytes, as a numeral
pub load_max-is : load_max ≡ 67108864
unfolding load_max
load_max-is = refl

-- ---- how it ends

-- the input wasn't read to its end, or is too long
pub unread-ends : (T : Type 0) (batch : ℕ) (only : Option (List ℕ)) (state : Contents) (input left : List ℕ) (now : World) (end : Ended) → HoldsState now state → IsUnread input end → EndsLoad {T = T} batch only state input left now now (Err end)
unread-ends T batch only state input left now ends.Memory holds has = inl ((refl, holds), refl)
unread-ends T batch only state input left now ends.Source holds has = (refl, holds)
unread-ends T batch only state input left now (ends.Input inputs.Long) holds has = (has, (refl, holds))
unread-ends T batch only state input left now _ holds has = absurd has

-- the text gives no items
pub refused-ends : (T : Type 0) (batch : ℕ) (only : Option (List ℕ)) (state : Contents) (input left bytes : List ℕ) (now : World) (fault : LoadFault) (end : Ended) → HoldsState now state → bytes ≡ input → length bytes ≤ load_max → (fault ≢ loads.Memory → Takes bytes only (Err fault)) → RefusesSo fault end
    → EndsLoad {T = T} batch only state input left now now (Err end)
refused-ends T batch only state input left bytes now fault end holds same short takes so =
    subst (λ (b : List ℕ). EndsLoad {T = T} batch only state b left now now (Err end)) same (by_fault fault takes so)
  where
    says : (refused : InputFault) → IsTaken only bytes (Err refused) → end ≡ ends.Input refused → EndsLoad {T = T} batch only state bytes left now now (Err end)
    says refused is so = subst (λ (e : Ended). EndsLoad {T = T} batch only state bytes left now now (Err e)) (sym so) (is, (refl, holds))

    lacks : end ≡ ends.Memory → EndsLoad {T = T} batch only state bytes left now now (Err end)
    lacks so = subst (λ (e : Ended). EndsLoad {T = T} batch only state bytes left now now (Err e)) (sym so) (inl ((refl, holds), refl))

    by_fault : (fault : LoadFault) → (fault ≢ loads.Memory → Takes bytes only (Err fault)) → RefusesSo fault end → EndsLoad {T = T} batch only state bytes left now now (Err end)
    by_fault (loads.Json (json.NotUtf8 at)) takes so = says (inputs.NotUtf8 at) (short, takes (λ e. absurd (cc))) so
    by_fault (loads.Json (json.Syntax at)) takes so = says (inputs.Syntax at) (short, takes (λ e. absurd (cc))) so
    by_fault (loads.Json (json.TooDeep at)) takes so = says (inputs.TooDeep at) (short, takes (λ e. absurd (cc))) so
    by_fault (loads.Json json.Memory) takes so = lacks so
    by_fault loads.NotFeatures takes so = says inputs.NotFeatures (short, takes (λ e. absurd (cc))) so
    by_fault loads.Memory takes so = lacks so

module _ (closing : Closing) (batch : ℕ) (state : Contents) (items : List Item) (old new : World) where
  -- all of the text of the steps was said
  reaches-ends : (wanted : End) → Reaches wanted (stage_at_start closing batch state items) old new → EndsAs wanted (load closing state 0 0 (steps batch [] items)) old new
  reaches-ends wanted reaches = record { end = reaches.end; said = reaches.said; holds = reaches.holds }

  -- the steps ended as they were concluded
  pub concluded-ends : (T : Type 0) (result : Result T Ended) → IsConcluded (stage_at_start closing batch state items) old new result → EndsSteps closing state (steps batch [] items) old new result
  concluded-ends T (Ok done) ended = reaches-ends _ ended
  concluded-ends T (Err ends.Memory) ended = ended
  concluded-ends T (Err ends.Disk) ended = ended
  concluded-ends T (Err ends.Sink) ended = ended
  concluded-ends T (Err (ends.Limit limits.Full)) ended = reaches-ends _ ended
  concluded-ends T (Err (ends.Limit limits.Worn)) ended = reaches-ends _ ended
  concluded-ends T (Err (ends.Limit limits.NoRoom)) ended = subst (λ b. StopsAtBatch state 0 0 (steps batch [] items) b new) (append-nil old.said) ended
  concluded-ends T (Err _) ended = absurd ended

  -- what a crash left meanwhile: the state at the start and nothing said, or what is around one of the steps
  pub started-left : LeavesOnly old new (LeftFrom (stage_at_start closing batch state items) old.said)
      → LeavesOnly old new (λ image said. (Stands image state × (said ≡ old.said)) ⊎ LeftBySteps closing state 0 0 (steps batch [] items) old.said image said)
  started-left left = within left (λ image said may. ⊎_elim
      (λ (h : Stands image state × SaysFrontOf [] old.said said). inl (h.0, front-empty old.said said h.1))
      (λ (h : LeftBySteps closing state 0 0 (steps batch [] items) (old.said ++ []) image said). inr (subst (λ b. LeftBySteps closing state 0 0 (steps batch [] items) b image said) (append-nil old.said) h))
      may)

-- the text gives items, which were acted on
pub taken-ends : (T : Type 0) (batch : ℕ) (only : Option (List ℕ)) (state : Contents) (input left bytes : List ℕ) (items : List Item) (old new : World) (result : Result T Ended) → bytes ≡ input → left ≡ [] → length bytes ≤ load_max → Takes bytes only (Ok items)
    → IsConcluded (stage_at_start says_loaded batch state items) old new result → EndsLoad batch only state input left old new result
taken-ends T batch only state input left bytes items old new result same none short takes concluded =
    subst (λ (b : List ℕ). EndsLoad batch only state b left old new result) same (by_result result (concluded-ends says_loaded batch state items old new T result concluded))
  where
    is : IsTaken only bytes (Ok items)
    is = (short, takes)

    by_result : (result : Result T Ended) → EndsSteps says_loaded state (steps batch [] items) old new result → EndsLoad batch only state bytes left old new result
    by_result (Ok done) ended = ((items, is, ended), none)
    by_result (Err ends.Memory) ended = inr (items, is, ended)
    by_result (Err ends.Disk) ended = inr (items, is, ended)
    by_result (Err ends.Sink) ended = inr (items, is, ended)
    by_result (Err (ends.Limit fault)) ended = inr (items, is, ended)
    by_result (Err _) ended = absurd ended

-- and what a crash left meanwhile
pub taken-left : (batch : ℕ) (only : Option (List ℕ)) (state : Contents) (input bytes : List ℕ) (items : List Item) (old new : World) → bytes ≡ input → length bytes ≤ load_max → Takes bytes only (Ok items)
    → LeavesOnly old new (LeftFrom (stage_at_start says_loaded batch state items) old.said) → LeavesOnly old new (LeftByLoad batch only state input old.said)
taken-left batch only state input bytes items old new same short takes left = within (started-left says_loaded batch state items old new left) (λ image said may. ⊎_elim
    (λ none. inl none)
    (λ some. inr (items, subst (λ (b : List ℕ). IsTaken only b (Ok items)) same (short, takes), some))
    may)

-- ---- reading the whole input

-- the end of the input was read
pub read-whole : (input text left next part : List ℕ) → input ≡ text ++ left → left ≡ part ++ next → left ≡ [] → (text ≡ input) × (next ≡ [])
read-whole input text left next part came given none =
    (sym (came ∙ ap (λ l. text ++ l) none ∙ append-nil text), none-behind part next (sym given ∙ none))

-- more was read
pub read-more : (input text left next part longer : List ℕ) → input ≡ text ++ left → left ≡ part ++ next → longer ≡ text ++ part → input ≡ longer ++ next
read-more input text left next part longer came given is =
    came ∙ ap (λ l. text ++ l) given ∙ sym (append_assoc text part next) ∙ ap (λ t. t ++ next) (sym is)

-- more than a load may have
pub read-long : (input text left next buf : List ℕ) (n : ℕ) → input ≡ text ++ left → left ≡ take n buf ++ next → n ≤ length buf → 67108864 < length text + n → load_max < length input
read-long input text left next buf n came given few more =
    omega (arith, load_max-is, ap length came, length-append text left, ap length given, length-append (take n buf) next, length-take n buf)

-- ---- whatever the image stands for

-- a call that ended so
abbrev pub stopped : Ended → Result (Unit {0}) Ended
stopped end = Err end

-- an input that is refused before it was read whole is too long
pub unread-input : (only : Option (List ℕ)) (input : List ℕ) (end : Ended) (fault : InputFault) → IsUnread input end → IsErrOf (stopped end) (ends.Input fault) → IsTaken only input (Err fault)
unread-input only input end fault has is = by_fault fault (subst (λ (r : Result (Unit {0}) Ended). IfErr r (IsUnread input)) is has)
  where
    by_fault : (fault : InputFault) → IsUnread input (ends.Input fault) → IsTaken only input (Err fault)
    by_fault inputs.Long has = has
    by_fault _ has = absurd has

-- and no limit ends the reading
pub unread-limit : (input : List ℕ) (end : Ended) (fault : LimitFault) → IsUnread input end → IsErrOf (stopped end) (ends.Limit fault) → ⊥
unread-limit input end fault has is = subst (λ (r : Result (Unit {0}) Ended). IfErr r (IsUnread input)) is has

-- the items of a text that was read whole
pub read-items : (only : Option (List ℕ)) (input bytes : List ℕ) (items : List Item) → bytes ≡ input → length bytes ≤ load_max → Takes bytes only (Ok items) → IsTaken only input (Ok items)
read-items only input bytes items same short takes = subst (λ (b : List ℕ). IsTaken only b (Ok items)) same (short, takes)

-- a text that gives no items is refused for its cause
pub refused-input : (only : Option (List ℕ)) (input bytes : List ℕ) (fault : LoadFault) (end : Ended) (why : InputFault) → bytes ≡ input → length bytes ≤ load_max → (fault ≢ loads.Memory → Takes bytes only (Err fault)) → RefusesSo fault end
    → IsErrOf (stopped end) (ends.Input why) → IsTaken only input (Err why)
refused-input only input bytes fault end why same short takes so is = subst (λ (b : List ℕ). IsTaken only b (Err why)) same (by_fault fault takes so (ended-by is))
  where
    ended-by : stopped end ≡ Err (ends.Input why) → end ≡ ends.Input why
    ended-by e = cc

    says : (other : InputFault) → IsTaken only bytes (Err other) → end ≡ ends.Input other → end ≡ ends.Input why → IsTaken only bytes (Err why)
    says other taken one two =
        let alike : other ≡ why = cc in
        subst (λ (f : InputFault). IsTaken only bytes (Err f)) alike taken

    by_fault : (fault : LoadFault) → (fault ≢ loads.Memory → Takes bytes only (Err fault)) → RefusesSo fault end → end ≡ ends.Input why → IsTaken only bytes (Err why)
    by_fault (loads.Json (json.NotUtf8 at)) takes so e = says (inputs.NotUtf8 at) (short, takes (λ e. absurd (cc))) so e
    by_fault (loads.Json (json.Syntax at)) takes so e = says (inputs.Syntax at) (short, takes (λ e. absurd (cc))) so e
    by_fault (loads.Json (json.TooDeep at)) takes so e = says (inputs.TooDeep at) (short, takes (λ e. absurd (cc))) so e
    by_fault (loads.Json json.Memory) takes so e = absurd (cc)
    by_fault loads.NotFeatures takes so e = says inputs.NotFeatures (short, takes (λ e. absurd (cc))) so e
    by_fault loads.Memory takes so e = absurd (cc)

-- and it meets no limit
pub refused-limit : (fault : LoadFault) (end : Ended) (why : LimitFault) → RefusesSo fault end → IsErrOf (stopped end) (ends.Limit why) → ⊥
refused-limit (loads.Json (json.NotUtf8 at)) end why so is = cc
refused-limit (loads.Json (json.Syntax at)) end why so is = cc
refused-limit (loads.Json (json.TooDeep at)) end why so is = cc
refused-limit (loads.Json json.Memory) end why so is = cc
refused-limit loads.NotFeatures end why so is = cc
refused-limit loads.Memory end why so is = cc
