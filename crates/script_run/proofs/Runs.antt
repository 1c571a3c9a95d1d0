-- Lines that are acted on one behind another.
use Rattle.std.proofs.Common.{◌≡◌, ℕ, ◌⊎◌, inl, inr, ⊎_elim, List, [], ◌∷◌, ◌++◌, sym, ap, subst, ◌∙◌, append_assoc}
use Rattle.std.specs.Prelude.{Result, Ok, Err}
use Rattle.std.proofs.lemmas.List.{append-nil}
use Rattle.disk_model.specs.World.{World, Image, LeavesOnly}
use Rattle.disk_model.proofs.Moments.{started, then, within}
use Rattle.place_values.specs.State.{Contents}
use Rattle.query_lang.specs.Line.{line_of}
use Rattle.store_model.specs.Stands.{Stands}
use Rattle.irtree_engine.specs.Holding.{HoldsState}
use Rattle.run_outcome.specs.Left.{LeftByLines, IsUpdateLine, StopsAtLine}
use Rattle.run_outcome.specs.Said.{SaysFrontOf, LeftByTurn}
use Rattle.run_outcome.specs.Script.{turn, turn_of, script}
use Rattle.run_outcome.specs.Turn.{Turn, followed}
use Rattle.run_outcome.specs.declared.ended.Ended.{Ended}
use Rattle.run_outcome.specs.declared.ended.Ended.TheVariants as ends
use Rattle.run_outcome.specs.declared.ended.LimitFault.TheVariants as limits
use Rattle.script_run.specs.Lines.{StopsAmong, RunsLines}
use Rattle.script_run.proofs.Asking.{asking-alike, asking-first, asking-next, reads-alike, reads-both, reads-nothing}
use Rattle.script_run.proofs.Fronts.{front-whole, front-goes_on, front-behind}
use Rattle.script_run.proofs.Lines.{script-none, script-append}

-- the text of lines in two parts
pub text-append : (state : Contents) (first next : List (List ℕ)) → (script state (first ++ next)).text ≡ (script state first).text ++ (script (script state first).state next).text
text-append state first next = ap (λ (u : Turn). u.text) (script-append state first next)

-- ---- what a crash leaves

-- where more lines are behind
pub left-goes_on : (state : Contents) (lines more : List (List ℕ)) (before : List ℕ) (image : Image) (said : List ℕ) → LeftByLines state lines before image said → LeftByLines state (lines ++ more) before image said
left-goes_on state [] [] before image said left = left
left-goes_on state [] (line ∷ more) before image said left = inl (inl left)
left-goes_on state (line ∷ lines) more before image said left = ⊎_elim inl (λ behind. inr (left-goes_on (turn state line).state lines more (before ++ (turn state line).text) image said behind)) left

-- behind lines that were acted on
left-behind : (state : Contents) (first next : List (List ℕ)) (before : List ℕ) (image : Image) (said : List ℕ) → LeftByLines (script state first).state next (before ++ (script state first).text) image said → LeftByLines state (first ++ next) before image said
unfolding script
left-behind state [] next before image said left = subst (λ (b : List ℕ). LeftByLines state next b image said) (append-nil before) left
left-behind state (line ∷ first) next before image said left =
    let t = turn state line in
    inr (left-behind t.state first next (before ++ t.text) image said
    (subst (λ (b : List ℕ). LeftByLines (script t.state first).state next b image said) (sym (append_assoc before t.text (script t.state first).text)) left))

-- ---- where a run stops

-- want of room, where more lines are behind
no_room-goes_on : (state : Contents) (lines more : List (List ℕ)) (before : List ℕ) (now : World) → StopsAtLine state lines before now → StopsAtLine state (lines ++ more) before now
no_room-goes_on state [] more before now stops = absurd stops
no_room-goes_on state (line ∷ lines) more before now stops = ⊎_elim inl (λ behind. inr (no_room-goes_on (turn state line).state lines more (before ++ (turn state line).text) now behind)) stops

-- want of room behind lines that were acted on
no_room-behind : (state : Contents) (first next : List (List ℕ)) (before : List ℕ) (now : World) → StopsAtLine (script state first).state next (before ++ (script state first).text) now → StopsAtLine state (first ++ next) before now
unfolding script
no_room-behind state [] next before now stops = subst (λ (b : List ℕ). StopsAtLine state next b now) (append-nil before) stops
no_room-behind state (line ∷ first) next before now stops =
    let t = turn state line in
    inr (no_room-behind t.state first next (before ++ t.text) now
    (subst (λ (b : List ℕ). StopsAtLine (script t.state first).state next b now) (sym (append_assoc before t.text (script t.state first).text)) stops))

-- any end, where more lines are behind
stops-goes_on : (state : Contents) (lines more : List (List ℕ)) (before : List ℕ) (now : World) (end : Ended) → StopsAmong state lines before now end → StopsAmong state (lines ++ more) before now end
stops-goes_on state lines more before now ends.Memory stops = front-goes_on _ _ _ before now.said (text-append state lines more) stops
stops-goes_on state lines more before now ends.Disk stops = front-goes_on _ _ _ before now.said (text-append state lines more) stops
stops-goes_on state lines more before now ends.Sink stops = front-goes_on _ _ _ before now.said (text-append state lines more) stops
stops-goes_on state lines more before now (ends.Limit limits.NoRoom) stops = no_room-goes_on state lines more before now stops
stops-goes_on state lines more before now _ stops = absurd stops

-- any end behind lines that were acted on
stops-behind : (state : Contents) (first next : List (List ℕ)) (before : List ℕ) (now : World) (end : Ended) → StopsAmong (script state first).state next (before ++ (script state first).text) now end → StopsAmong state (first ++ next) before now end
stops-behind state first next before now ends.Memory stops = front-behind _ _ _ before now.said (text-append state first next) stops
stops-behind state first next before now ends.Disk stops = front-behind _ _ _ before now.said (text-append state first next) stops
stops-behind state first next before now ends.Sink stops = front-behind _ _ _ before now.said (text-append state first next) stops
stops-behind state first next before now (ends.Limit limits.NoRoom) stops = no_room-behind state first next before now stops
stops-behind state first next before now _ stops = absurd stops

-- ---- runs

-- no line was acted on
pub runs-none : {T : Type 0} (state : Contents) (now : World) (value : T) → HoldsState now state → RunsLines state [] now now (Ok value)
runs-none state now value holds = record {
  said = sym (ap (λ (u : Turn). now.said ++ u.text) (script-none state) ∙ append-nil now.said);
  holds = subst (λ (u : Turn). HoldsState now u.state) (sym (script-none state)) holds;
  stops = tt;
  left_by = started now;
  reads = λ asks. reads-nothing state [] now;
}

-- nothing was done, for want of memory
pub runs-nothing : (T : Type 0) (state : Contents) (lines : List (List ℕ)) (now : World) → RunsLines {T = T} state lines now now (Err ends.Memory)
runs-nothing T state lines now = record { said = tt; holds = tt; stops = (0, sym (append-nil now.said)); left_by = started now; reads = λ asks. tt }

-- memory is wanting behind lines that were acted on
pub runs-lost : {A : Type 0} (T : Type 0) (state : Contents) (lines : List (List ℕ)) (old now : World) (value : A) → RunsLines state lines old now (Ok value) → RunsLines {T = T} state lines old now (Err ends.Memory)
runs-lost T state lines old now value runs =
    record { said = tt; holds = tt; stops = front-whole (script state lines).text old.said now.said runs.said; left_by = runs.left_by; reads = λ asks. tt }

-- another value is answered
pub runs-valued : {A B : Type 0} (state : Contents) (lines : List (List ℕ)) (old now : World) (value : A) (other : B) → RunsLines state lines old now (Ok value) → RunsLines state lines old now (Ok other)
runs-valued state lines old now value other runs = record { said = runs.said; holds = runs.holds; stops = tt; left_by = runs.left_by; reads = runs.reads }

-- a run that stopped stops so where more lines are behind
pub runs-goes_on : {T : Type 0} (state : Contents) (lines more : List (List ℕ)) (old new : World) (end : Ended) → RunsLines {T = T} state lines old new (Err end) → RunsLines {T = T} state (lines ++ more) old new (Err end)
runs-goes_on state lines more old new end runs = record {
  said = tt;
  holds = tt;
  stops = stops-goes_on state lines more old.said new end runs.stops;
  left_by = within runs.left_by (left-goes_on state lines more old.said);
  reads = λ asks. tt;
}

module _ {A : Type 0} (state : Contents) (first next : List (List ℕ)) (old now new : World) (value : A) (runs : RunsLines state first old now (Ok value)) where
  -- a crash during one run or the next left one of the states around a line of both
  left-then : {T : Type 0} {result : Result T Ended} → RunsLines (script state first).state next now new result → LeavesOnly old new (LeftByLines state (first ++ next) old.said)
  left-then behind = then (within runs.left_by (left-goes_on state first next old.said))
      (within behind.left_by (λ image said left. left-behind state first next old.said image said
      (subst (λ (b : List ℕ). LeftByLines (script state first).state next b image said) runs.said left)))

  -- one run behind another
  pub runs-then : {T : Type 0} (result : Result T Ended) → RunsLines (script state first).state next now new result → RunsLines state (first ++ next) old new result
  runs-then (Ok other) behind = record {
    said = behind.said ∙ ap (λ (s : List ℕ). s ++ (script (script state first).state next).text) runs.said ∙ append_assoc old.said _ _ ∙ ap (λ (t : List ℕ). old.said ++ t) (sym (text-append state first next));
    holds = subst (λ (u : Turn). HoldsState new u.state) (sym (script-append state first next)) behind.holds;
    stops = tt;
    left_by = left-then behind;
    reads = λ asks. reads-both state first next old now new (asking-first first next asks) (runs.reads (asking-first first next asks)) (behind.reads (asking-next first next asks));
  }
  runs-then (Err end) behind = record {
    said = tt;
    holds = tt;
    stops = stops-behind state first next old.said new end (subst (λ (b : List ℕ). StopsAmong (script state first).state next b new end) runs.said behind.stops);
    left_by = left-then behind;
    reads = λ asks. tt;
  }

-- ---- a line, and what is kept of it

-- two lines that stand for one are one turn
turn-alike : (state : Contents) (line other : List ℕ) → line_of line ≡ line_of other → turn state line ≡ turn state other
unfolding turn
turn-alike state line other same = ap (turn_of state) same

-- and one script
script-alike : (state : Contents) (line other : List ℕ) → line_of line ≡ line_of other → script state (line ∷ []) ≡ script state (other ∷ [])
unfolding script
script-alike state line other same = ap (λ (t : Turn). followed t (script t.state [])) (turn-alike state line other same)

-- they stop a run alike
stops-alike : (state : Contents) (line other : List ℕ) (before : List ℕ) (now : World) (end : Ended) → line_of line ≡ line_of other → StopsAmong state (line ∷ []) before now end → StopsAmong state (other ∷ []) before now end
stops-alike state line other before now ends.Memory same stops = subst (λ (u : Turn). SaysFrontOf u.text before now.said) (script-alike state line other same) stops
stops-alike state line other before now ends.Disk same stops = subst (λ (u : Turn). SaysFrontOf u.text before now.said) (script-alike state line other same) stops
stops-alike state line other before now ends.Sink same stops = subst (λ (u : Turn). SaysFrontOf u.text before now.said) (script-alike state line other same) stops
stops-alike state line other before now (ends.Limit limits.NoRoom) same stops =
    ⊎_elim (λ (here : IsUpdateLine line × (now.said ≡ before) × HoldsState now state). inl ((here.0.0, sym same ∙ here.0.1), here.1, here.2)) (λ behind. absurd behind) stops
stops-alike state line other before now _ same stops = absurd stops

-- and a crash leaves the same of both
left-alike : (state : Contents) (line other : List ℕ) (old new : World) → line_of line ≡ line_of other → LeavesOnly old new (LeftByLines state (line ∷ []) old.said) → LeavesOnly old new (LeftByLines state (other ∷ []) old.said)
left-alike state line other old new same left = within left (λ image said.
    subst (λ (t : Turn). LeftByTurn state t old.said image said ⊎ (Stands image t.state × (said ≡ old.said ++ t.text))) (turn-alike state line other same))

-- a run of one of them is a run of the other
pub runs-alike : {T : Type 0} (state : Contents) (line other : List ℕ) (old new : World) (result : Result T Ended) → line_of line ≡ line_of other → RunsLines state (line ∷ []) old new result → RunsLines state (other ∷ []) old new result
runs-alike state line other old new (Ok value) same runs = record {
  said = subst (λ (u : Turn). new.said ≡ old.said ++ u.text) (script-alike state line other same) runs.said;
  holds = subst (λ (u : Turn). HoldsState new u.state) (script-alike state line other same) runs.holds;
  stops = tt;
  left_by = left-alike state line other old new same runs.left_by;
  reads = λ asks. reads-alike state line other old new same (runs.reads (asking-alike line other same asks));
}
runs-alike state line other old new (Err end) same runs = record {
  said = tt;
  holds = tt;
  stops = stops-alike state line other old.said new end same runs.stops;
  left_by = left-alike state line other old new same runs.left_by;
  reads = λ asks. tt;
}
