-- What a crash leaves of a script.
use Rattle.std.proofs.Common.{◌≡◌, ℕ, ◌+◌, ◌≤◌, ◌==◌, ◌&&◌, Bool, true, false, List, [], ◌∷◌, ◌++◌, length, take, inl, inr, refl, sym, ap, subst, ◌∙◌, arith, append_assoc}
use Rattle.std.proofs.lemmas.List.{append-nil, length-append}
use Rattle.std.proofs.lemmas.List.Sums.{fold-append}
use Rattle.std.proofs.Math.Seq.{take-append-add, take-append_seam}
use Rattle.std.specs.Prelude.{◌^◌, nat_le, if◌then◌else◌, Option, Some, None, is_some, is_none, Result, Ok, Err}
use Rattle.disk_model.specs.World.{Image}
use Rattle.spatial_base.specs.Key.{Name}
use Rattle.place_values.specs.State.{Contents, place_at}
use Rattle.place_values.specs.Update.{Effect, effect_of, key_for, refuses}
use Rattle.place_values.specs.declared.place.Place.{Place}
use Rattle.place_values.specs.declared.update.Applied.{Applied}
use Rattle.place_values.specs.declared.update.Applied.TheVariants.{New, Replaced, Gone, Absent}
use Rattle.place_values.specs.declared.update.Update.{Update}
use Rattle.place_values.specs.declared.update.Update.TheVariants.{Put, Remove}
use Rattle.place_values.specs.declared.update.UpdateFault.{UpdateFault}
use Rattle.place_values.specs.declared.update.UpdateFault.TheVariants.{Full, Worn, Memory}
use Rattle.query_replies.specs.Reply.{text_of_reply}
use Rattle.query_replies.specs.declared.fault.LineFault.{LineFault}
use Rattle.query_lang.specs.Line.{line_of}
use Rattle.query_lang.specs.Reply.{reply_of, update_reply, show_reply}
use Rattle.query_lang.specs.declared.line.Line.{Line}
use Rattle.query_lang.specs.declared.line.Line.TheVariants as lines
use Rattle.store_model.specs.Stands.{Stands}
use Rattle.run_outcome.specs.Left.{LeftByLines}
use Rattle.run_outcome.specs.Said.{SaysFrontOf}
use Rattle.run_outcome.specs.Script.{cut, changes_by, turn, turn_of, script}
use Rattle.run_outcome.specs.Turn.{Turn}
use Rattle.irtree_top.specs.Acked.{acked_by_script}
use Rattle.irtree_top.specs.Prefix.{state_after_updates, HoldsAcked, IsNearInScript}
use Rattle.irtree_top.proofs.Cuts.{is_quiet, quiet-whole, quiet-acked, acked-front, acked-append}
use Rattle.irtree_top.proofs.Replies.{bad-quiet, answer-quiet, shown-quiet, count-quiet}

-- ---- updates that change nothing

-- the state stays where the key was absent or the update was refused
abbrev StaysWhere : Result Applied UpdateFault → Contents → Contents → Type 0
StaysWhere (Ok New) old new = Unit {0}
StaysWhere (Ok Replaced) old new = Unit {0}
StaysWhere (Ok Gone) old new = Unit {0}
StaysWhere (Ok Absent) old new = new ≡ old
StaysWhere (Err fault) old new = new ≡ old

-- an effect that goes by two tests
abbrev tested : Bool → Bool → Effect → Effect → Effect → Effect
tested first second one two three = if first then one else if second then two else three

-- each update does so
stays : (state : Contents) (update : Update) → StaysWhere (effect_of state update).answer state (effect_of state update).state
stays state (Put key point words label) =
    split (nat_le 1000000 (length state.places) && is_none (place_at (key_for state key) state.places)) (state.number == 2 ^ 40) (is_some (place_at (key_for state key) state.places)) _
  where
    split : (full worn lived : Bool) (next : Contents)
        → StaysWhere (tested full worn (refuses state Full) (refuses state Worn) record { state = next; answer = Ok (if lived then Replaced else New) }).answer state
        (tested full worn (refuses state Full) (refuses state Worn) record { state = next; answer = Ok (if lived then Replaced else New) }).state
    split true worn lived next = refl
    split false true lived next = refl
    split false false true next = tt
    split false false false next = tt
stays state (Remove key) = split (is_none (place_at key state.places)) (state.number == 2 ^ 40) _
  where
    split : (absent worn : Bool) (next : Contents)
        → StaysWhere (tested absent worn record { state = state; answer = Ok Absent } (refuses state Worn) record { state = next; answer = Ok Gone }).answer state
        (tested absent worn record { state = state; answer = Ok Absent } (refuses state Worn) record { state = next; answer = Ok Gone }).state
    split true worn next = refl
    split false true next = refl
    split false false next = tt

-- the state after the update, where it is a change
after-changes : (state : Contents) (update : Update) (answer : Result Applied UpdateFault) → StaysWhere answer state (effect_of state update).state
    → state_after_updates state (changes_by update answer) ≡ (effect_of state update).state
after-changes state update (Ok New) stay = refl
after-changes state update (Ok Replaced) stay = refl
after-changes state update (Ok Gone) stay = refl
after-changes state update (Ok Absent) stay = sym stay
after-changes state update (Err fault) stay = sym stay

-- ---- one line

-- A turn's text is whole lines, as many of which acknowledge an update as it has changes, at most one; its state is that after them.
record IsAcked (state : Contents) (turn : Turn) : Type 0 where
  whole : (cut turn.text).rest ≡ []
  acked : acked_by_script turn.text ≡ length turn.changes
  one : length turn.changes ≤ 1
  after : state_after_updates state turn.changes ≡ turn.state

-- a turn that changes nothing
quiet-turn : (state : Contents) (text : List ℕ) → is_quiet true text ≡ true → IsAcked state record { text = text; changes = []; state = state }
quiet-turn state text quiet = record { whole = quiet-whole text quiet; acked = quiet-acked text quiet; one = omega arith; after = refl }

-- an update's reply is whole lines
update-whole : (answer : Result Applied UpdateFault) → (cut (text_of_reply (update_reply answer))).rest ≡ []
unfolding text_of_reply
update-whole (Ok New) = refl
update-whole (Ok Replaced) = refl
update-whole (Ok Gone) = refl
update-whole (Ok Absent) = refl
update-whole (Err Full) = refl
update-whole (Err Worn) = refl
update-whole (Err Memory) = refl

-- and acknowledges it where it is a change
update-acked : (update : Update) (answer : Result Applied UpdateFault) → acked_by_script (text_of_reply (update_reply answer)) ≡ length (changes_by update answer)
unfolding text_of_reply
update-acked update (Ok New) = refl
update-acked update (Ok Replaced) = refl
update-acked update (Ok Gone) = refl
update-acked update (Ok Absent) = refl
update-acked update (Err Full) = refl
update-acked update (Err Worn) = refl
update-acked update (Err Memory) = refl

-- an update is one change or none
update-one : (update : Update) (answer : Result Applied UpdateFault) → length (changes_by update answer) ≤ 1
update-one update (Ok New) = omega arith
update-one update (Ok Replaced) = omega arith
update-one update (Ok Gone) = omega arith
update-one update (Ok Absent) = omega arith
update-one update (Err fault) = omega arith

-- the reply that shows a place, or none, is quiet
shows-quiet : (key : Name) (place : Option Place) → is_quiet true (text_of_reply (show_reply key place)) ≡ true
unfolding text_of_reply
shows-quiet key None = refl
shows-quiet key (Some place) = shown-quiet key place.point place.words place.label

-- each line that was read has such a turn
turn_of-acked : (state : Contents) (line : Result Line LineFault) → IsAcked state (turn_of state line)
unfolding text_of_reply reply_of
turn_of-acked state (Ok lines.Nothing) = quiet-turn state [] refl
turn_of-acked state (Ok (lines.Do update)) =
    let answer = (effect_of state update).answer in
    record { whole = update-whole answer; acked = update-acked update answer; one = update-one update answer; after = after-changes state update answer (stays state update) }
turn_of-acked state (Ok (lines.Ask query explain)) = quiet-turn state _ (answer-quiet _ query explain)
turn_of-acked state (Ok (lines.Show key)) = quiet-turn state _ (shows-quiet key (place_at key state.places))
turn_of-acked state (Ok lines.Count) = quiet-turn state _ (count-quiet (length state.places))
turn_of-acked state (Err fault) = quiet-turn state _ (bad-quiet fault)

-- each line has
turn-acked : (state : Contents) (line : List ℕ) → IsAcked state (turn state line)
unfolding turn
turn-acked state line = turn_of-acked state (line_of line)

-- ---- line by line

-- nothing was said, and the image stands for the state at the start
none-held : (start : Contents) (changes : List Update) (before : List ℕ) (image : Image) (said : List ℕ) → Stands image start → said ≡ before
    → HoldsAcked acked_by_script IsNearInScript start changes before image said
none-held start changes before image said stands is = record {
  spoken = [];
  is = is ∙ sym (append-nil before);
  some = 0;
  most = omega arith;
  stands = stands;
  acknowledged = omega arith;
  near = omega arith;
}

module _ (start : Contents) (turn : Turn) (acks : IsAcked start turn) (changes : List Update) (before : List ℕ) (image : Image) (said : List ℕ) where
  -- a front of a turn was said, and the image stands for the state behind it
  front-held : Stands image turn.state → SaysFrontOf turn.text before said → HoldsAcked acked_by_script IsNearInScript start (turn.changes ++ changes) before image said
  front-held stands says = record {
    spoken = take says.0 turn.text;
    is = says.1;
    some = length turn.changes;
    most = omega (arith, length-append turn.changes changes);
    stands = subst (Stands image) (sym (ap (state_after_updates start) (take-append_seam turn.changes changes) ∙ acks.after)) stands;
    acknowledged = omega (arith, acked-front says.0 turn.text, acks.acked);
    near = omega (arith, acks.one);
  }

  -- a turn was said whole, and so it is behind it
  later-held : HoldsAcked acked_by_script IsNearInScript turn.state changes (before ++ turn.text) image said → HoldsAcked acked_by_script IsNearInScript start (turn.changes ++ changes) before image said
  later-held later =
      let acked = acked-append turn.text later.spoken acks.whole in
      record {
        spoken = turn.text ++ later.spoken;
        is = later.is ∙ append_assoc before turn.text later.spoken;
        some = length turn.changes + later.some;
        most = omega (arith, length-append turn.changes changes, later.most);
        stands = subst (Stands image)
            (sym (ap (state_after_updates start) (take-append-add turn.changes changes later.some) ∙ fold-append _ start turn.changes (take later.some changes)
            ∙ ap (λ state. state_after_updates state (take later.some changes)) acks.after)) later.stands;
        acknowledged = omega (arith, acked, acks.acked, later.acknowledged);
        near = omega (arith, acked, acks.acked, later.near);
      }

-- Whatever a crash leaves of a script, what was said of it acknowledges a prefix of its updates, and the image stands for the map after
-- that prefix, or after one update more.
pub script-prefix : (start : Contents) (lines : List (List ℕ)) (before : List ℕ) (image : Image) (said : List ℕ)
    → LeftByLines start lines before image said → HoldsAcked acked_by_script IsNearInScript start (script start lines).changes before image said
unfolding script
script-prefix start [] before image said left = none-held start [] before image said left.0 left.1
script-prefix start (line ∷ lines) before image said (inl (inl left)) = none-held start _ before image said left.0 left.1
script-prefix start (line ∷ lines) before image said (inl (inr left)) = front-held start (turn start line) (turn-acked start line) _ before image said left.0 left.1
script-prefix start (line ∷ lines) before image said (inr left) =
    later-held start (turn start line) (turn-acked start line) _ before image said
    (script-prefix (turn start line).state lines (before ++ (turn start line).text) image said left)
