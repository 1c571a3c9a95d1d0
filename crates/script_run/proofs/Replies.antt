-- What the engine's answers make of a line, before its reply is said.
use Rattle.std.proofs.Common.{◌≡◌, ◌≢◌, ◌≤◌, ◌+◌, ◌^◌, ◌==◌, ◌&&◌, nat_le, length, is_some, is_none, Bool, true, false, refl, sym, ap, subst, ◌∙◌, arith}
use Rattle.std.specs.Prelude.{Result, Ok, Err, IsTrue, if◌then◌else◌}
use Rattle.disk_model.specs.World.{World, LeavesOnly, Rose}
use Rattle.disk_model.proofs.Moments.{rested}
use Rattle.page_face.specs.declared.fault.Damage.{Damage}
use Rattle.page_face.specs.declared.fault.Rule.TheVariants.{Head}
use Rattle.page_store.specs.Store.{Rests, rests_still}
use Rattle.place_values.specs.declared.update.Applied.{Applied}
use Rattle.place_values.specs.declared.update.Applied.TheVariants.{New, Replaced, Gone, Absent}
use Rattle.place_values.specs.declared.update.Update.{Update}
use Rattle.place_values.specs.declared.update.Update.TheVariants.{Put, Remove}
use Rattle.place_values.specs.declared.update.UpdateFault.{UpdateFault}
use Rattle.place_values.specs.declared.update.UpdateFault.TheVariants as updates
use Rattle.place_values.specs.State.{Contents, place_at, with_place, without_place}
use Rattle.place_values.specs.Update.{effect_of, key_for, serial_after, refuses}
use Rattle.query_lang.specs.declared.line.Line.{Line}
use Rattle.query_lang.specs.declared.line.Line.TheVariants as lines
use Rattle.query_lang.specs.Laws.{reply_of-plain}
use Rattle.query_lang.specs.Plain.{plain_line}
use Rattle.query_lang.specs.Reply.{reply_of, update_reply}
use Rattle.query_replies.specs.declared.fault.LineFault.{LineFault}
use Rattle.query_replies.specs.declared.reply.Reply.{Reply}
use Rattle.query_replies.specs.declared.reply.Reply.TheVariants as replies
use Rattle.query_replies.specs.Reply.{text_of_reply}
use Rattle.irtree_engine.specs.declared.fault.EngineFault.{EngineFault}
use Rattle.irtree_engine.specs.declared.fault.EngineFault.TheVariants as engine
use Rattle.irtree_engine.specs.Holding.{HoldsState}
use Rattle.irtree_engine.specs.Updates.{LeavesOneOf, IsUpdateFault, IsDueTo}
use Rattle.run_outcome.proofs.Counts.{keeps-both, keeps-fault}
use Rattle.run_outcome.proofs.Reading.{RefusedRead, holds-same}
use Rattle.run_outcome.specs.Causes.{HasEngineEnd, end_of_engine}
use Rattle.run_outcome.specs.Script.{state_after}
use Rattle.run_outcome.specs.declared.ended.Ended.{Ended}
use Rattle.run_outcome.specs.declared.ended.Ended.TheVariants as ends
use Rattle.run_outcome.specs.declared.ended.LimitFault.TheVariants as limits
use Rattle.script_run.specs.Lines.{refused_by, StopsBeforeReply, RepliesTo}

-- ---- updates

-- one that is refused leaves the state
put-stays : (full worn : Bool) (state after : Contents) (applied : Applied) (fault : UpdateFault)
    → (if full then refuses state updates.Full else if worn then refuses state updates.Worn else record { state = after; answer = Ok applied }).answer ≡ Err fault
    → (if full then refuses state updates.Full else if worn then refuses state updates.Worn else record { state = after; answer = Ok applied }).state ≡ state
put-stays true worn state after applied fault is = refl
put-stays false true state after applied fault is = refl
put-stays false false state after applied fault is = absurd (cc)

-- nor does a removal that is refused
remove-stays : (absent worn : Bool) (state after : Contents) (applied : Applied) (fault : UpdateFault)
    → (if absent then record { state = state; answer = Ok Absent } else if worn then refuses state updates.Worn else record { state = after; answer = Ok applied }).answer ≡ Err fault
    → (if absent then record { state = state; answer = Ok Absent } else if worn then refuses state updates.Worn else record { state = after; answer = Ok applied }).state ≡ state
remove-stays true worn state after applied fault is = refl
remove-stays false true state after applied fault is = refl
remove-stays false false state after applied fault is = absurd (cc)

-- an update that is refused leaves the state
refused-stays : (state : Contents) (update : Update) (fault : UpdateFault) → (effect_of state update).answer ≡ Err fault → (effect_of state update).state ≡ state
refused-stays state (Put key point words label) fault is =
    let name = key_for state key in
    let after : Contents = record { places = with_place name record { point = point; words = words; label = label } state.places; serial = serial_after state key; number = state.number + 1 } in
    put-stays (nat_le 1000000 (length state.places) && is_none (place_at name state.places)) (state.number == 2 ^ 40) state after (if is_some (place_at name state.places) then Replaced else New) fault is
refused-stays state (Remove key) fault is =
    let after : Contents = record { places = without_place key state.places; serial = state.serial; number = state.number + 1 } in
    remove-stays (is_none (place_at key state.places)) (state.number == 2 ^ 40) state after Gone fault is

-- what is known of an update that was accepted
pub record AcceptedUpdate (readable : Bool) (update : Update) (old new : World) (applied : Applied) : Type 0 where
  pub faults : new.faults ≡ old.faults
  pub sink : new.sink_faults ≡ old.sink_faults
  pub said : IsTrue readable → new.said ≡ old.said
  pub stands : IsTrue readable → (state : Contents) → HoldsState old state → ((effect_of state update).answer ≡ Ok applied) × HoldsState new (effect_of state update).state
  pub left_by : IsTrue readable → (state : Contents) → HoldsState old state → LeavesOnly old new (LeavesOneOf state (effect_of state update).state old)

module _ (readable : Bool) (update : Update) (old new : World) (applied : Applied) (accepted : AcceptedUpdate readable update old new applied) (reply : Reply) where
  -- it is replied to
  pub accepted-replies : reply ≡ update_reply (Ok applied) → IsTrue readable → (state : Contents) → HoldsState old state → RepliesTo state (Ok (lines.Do update)) old new (Ok reply)
  unfolding reply_of
  accepted-replies is told state holds = record {
    reply = ap text_of_reply (is ∙ ap update_reply (sym (accepted.stands told state holds).0));
    holds = (accepted.stands told state holds).1;
    stops = tt;
    said = accepted.said told;
    left_by = accepted.left_by told state holds;
  }

  -- and the run goes on
  pub accepted-goes_on : HasEngineEnd readable old new (Ok reply)
  accepted-goes_on = record {
    faults = omega (arith, accepted.faults);
    sink = omega (arith, accepted.sink);
    keeps = keeps-both old new (Ok reply) accepted.faults accepted.sink;
    stands = λ told state holds. ((effect_of state update).state, (accepted.stands told state holds).1);
    cause = tt;
  }

-- what is known of an update that was refused
pub record RefusedUpdate (readable : Bool) (update : Update) (old new : World) (fault : EngineFault) : Type 0 where
  pub causes : IsUpdateFault fault
  pub faults : old.faults ≤ new.faults
  pub sink : new.sink_faults ≡ old.sink_faults
  pub on : fault ≡ engine.Stopped → ⊥
  pub disk : fault ≡ engine.Disk → Rose old.faults new.faults
  pub stays : fault ≢ engine.Disk → new.faults ≡ old.faults
  pub said : IsTrue readable → new.said ≡ old.said
  pub due : IsTrue readable → (state : Contents) → HoldsState old state → IsDueTo (effect_of state update).answer fault
  pub no_head : IsTrue readable → (damage : Damage) → fault ≡ engine.Damaged damage → damage.rule ≢ Head
  pub rests : IsTrue readable → (fault ≡ engine.Disk → ⊥) → Rests old new
  pub left_by : IsTrue readable → (state : Contents) → HoldsState old state → LeavesOnly old new (LeavesOneOf state (effect_of state update).state old)

module _ (readable : Bool) (update : Update) (old new : World) where
  -- a limit of the map is a reply
  limit-replies : (fault : EngineFault) (limit : UpdateFault) (reply : Reply) → RefusedUpdate readable update old new fault → (fault ≡ engine.Disk → ⊥) → reply ≡ update_reply (Err limit) → IsTrue readable → (state : Contents) → HoldsState old state
      → (effect_of state update).answer ≡ Err limit → RepliesTo state (Ok (lines.Do update)) old new (Ok reply)
  unfolding reply_of
  limit-replies fault limit reply refused apart is told state holds due = record {
    reply = ap text_of_reply (is ∙ ap update_reply (sym due));
    holds = subst (λ (s : Contents). HoldsState new s) (sym (refused-stays state update limit due)) (holds-same old new state (refused.rests told apart).seen holds);
    stops = tt;
    said = refused.said told;
    left_by = refused.left_by told state holds;
  }

  -- what else refuses an update stops the run
  fault-stops : (fault : EngineFault) (end : Ended) → RefusedUpdate readable update old new fault → IsTrue readable → (state : Contents) → HoldsState old state → StopsBeforeReply state (Ok (lines.Do update)) new end → RepliesTo state (Ok (lines.Do update)) old new (Err end)
  fault-stops fault end refused told state holds stops =
      record { reply = tt; holds = tt; stops = stops; said = refused.said told; left_by = refused.left_by told state holds }

  -- an update that was refused is replied to, or stops the run
  pub refused-replies : (fault : EngineFault) → RefusedUpdate readable update old new fault → IsTrue readable → (state : Contents) → HoldsState old state → RepliesTo state (Ok (lines.Do update)) old new (refused_by fault)
  refused-replies engine.Full refused told state holds = limit-replies engine.Full updates.Full replies.Full refused (λ e. absurd (cc)) refl told state holds (refused.due told state holds)
  refused-replies engine.Worn refused told state holds = limit-replies engine.Worn updates.Worn replies.Worn refused (λ e. absurd (cc)) refl told state holds (refused.due told state holds)
  refused-replies engine.Disk refused told state holds = fault-stops engine.Disk ends.Disk refused told state holds tt
  refused-replies engine.NotAStore refused told state holds = absurd refused.causes
  refused-replies engine.Version1 refused told state holds = absurd refused.causes
  refused-replies (engine.BadJournal at) refused told state holds = absurd refused.causes
  refused-replies (engine.Damaged damage) refused told state holds = absurd (refused.due told state holds)
  refused-replies engine.NoRoom refused told state holds =
      fault-stops engine.NoRoom (ends.Limit limits.NoRoom) refused told state holds ((update, refl), holds-same old new state (refused.rests told (λ e. absurd (cc))).seen holds)
  refused-replies engine.Stopped refused told state holds = fault-stops engine.Stopped ends.Disk refused told state holds tt
  refused-replies engine.Memory refused told state holds = fault-stops engine.Memory ends.Memory refused told state holds tt

  -- where a limit is a reply the run goes on
  limit-goes_on : (fault : EngineFault) (reply : Reply) → RefusedUpdate readable update old new fault → (fault ≡ engine.Disk → ⊥) → HasEngineEnd readable old new (Ok reply)
  limit-goes_on fault reply refused apart = record {
    faults = refused.faults;
    sink = omega (arith, refused.sink);
    keeps = keeps-both old new (Ok reply) (refused.stays apart) refused.sink;
    stands = λ told state holds. (state, holds-same old new state (refused.rests told apart).seen holds);
    cause = tt;
  }

  -- and each end has its cause
  pub refused-cause : (fault : EngineFault) → RefusedUpdate readable update old new fault → HasEngineEnd readable old new (refused_by fault)
  refused-cause engine.Full refused = limit-goes_on engine.Full replies.Full refused (λ e. absurd (cc))
  refused-cause engine.Worn refused = limit-goes_on engine.Worn replies.Worn refused (λ e. absurd (cc))
  refused-cause engine.Disk refused = record { faults = refused.faults; sink = omega (arith, refused.sink); keeps = keeps-fault Reply old new engine.Disk refused.stays refused.sink; stands = λ told. tt; cause = refused.disk refl }
  refused-cause engine.NotAStore refused = absurd refused.causes
  refused-cause engine.Version1 refused = absurd refused.causes
  refused-cause (engine.BadJournal at) refused = absurd refused.causes
  refused-cause (engine.Damaged damage) refused =
      record { faults = refused.faults; sink = omega (arith, refused.sink); keeps = keeps-fault Reply old new (engine.Damaged damage) refused.stays refused.sink; stands = λ told. tt; cause = λ told. ((λ state stands. refused.due told state stands), refused.no_head told damage refl) }
  refused-cause engine.NoRoom refused = record { faults = refused.faults; sink = omega (arith, refused.sink); keeps = keeps-fault Reply old new engine.NoRoom refused.stays refused.sink; stands = λ told. tt; cause = tt }
  refused-cause engine.Stopped refused = absurd (refused.on refl)
  refused-cause engine.Memory refused = record { faults = refused.faults; sink = omega (arith, refused.sink); keeps = keeps-fault Reply old new engine.Memory refused.stays refused.sink; stands = λ told. tt; cause = tt }

-- ---- reads

-- a line that only reads was answered
pub read-replies : (state : Contents) (read : Result Line LineFault) (old new : World) (reply : Reply) → Rests old new → HoldsState old state → state_after state read ≡ state
    → text_of_reply reply ≡ text_of_reply (reply_of state read) → RepliesTo state read old new (Ok reply)
read-replies state read old new reply rests holds same is = record {
  reply = is;
  holds = subst (λ (s : Contents). HoldsState new s) (sym same) (holds-same old new state rests.seen holds);
  stops = tt;
  said = rests.said;
  left_by = rested rests.adds;
}

module _ (readable : Bool) (old new : World) where
  -- a read that is refused stops the run before its reply
  read-stops : (fault : EngineFault) (state : Contents) (read : Result Line LineFault) → RefusedRead readable old new fault → IsTrue readable → HoldsState old state → StopsBeforeReply state read new (end_of_engine fault)
  read-stops engine.Disk state read refused told holds = tt
  read-stops (engine.Damaged damage) state read refused told holds = absurd (refused.no_false_damage told state holds damage refl)
  read-stops engine.Stopped state read refused told holds = tt
  read-stops engine.Memory state read refused told holds = tt
  read-stops engine.Full state read refused told holds = absurd refused.causes
  read-stops engine.Worn state read refused told holds = absurd refused.causes
  read-stops engine.NoRoom state read refused told holds = absurd refused.causes
  read-stops engine.NotAStore state read refused told holds = absurd refused.causes
  read-stops engine.Version1 state read refused told holds = absurd refused.causes
  read-stops (engine.BadJournal at) state read refused told holds = absurd refused.causes

  -- it stops the run
  pub refused-read : (fault : EngineFault) (state : Contents) (read : Result Line LineFault) → RefusedRead readable old new fault → IsTrue readable → HoldsState old state → RepliesTo state read old new (Err (end_of_engine fault))
  refused-read fault state read refused told holds = record {
    reply = tt;
    holds = tt;
    stops = read-stops fault state read refused told holds;
    said = (refused.rests told).said;
    left_by = rested (refused.rests told).adds;
  }

-- ---- what is read

-- where the boxes of a line's filter stand doesn't matter to the state
after-plain : (state : Contents) (line : Line) → state_after state (Ok (plain_line line)) ≡ state_after state (Ok line)
after-plain state lines.Nothing = refl
after-plain state (lines.Do update) = refl
after-plain state (lines.Ask query explain) = refl
after-plain state (lines.Show key) = refl
after-plain state lines.Count = refl

-- nor to what stops a line
plain-stops : (state : Contents) (line : Line) (read : Result Line LineFault) (new : World) (end : Ended) → read ≡ Ok (plain_line line) → StopsBeforeReply state (Ok line) new end → StopsBeforeReply state read new end
plain-stops state line read new ends.Memory says stops = tt
plain-stops state line read new ends.Disk says stops = tt
plain-stops state line read new (ends.Limit limits.NoRoom) says stops =
    let is : line ≡ lines.Do stops.0.0 = cc in
    ((stops.0.0, says ∙ ap (λ (l : Line). Ok (plain_line l)) is), stops.1)
plain-stops state line read new _ says stops = absurd stops

module _ (state : Contents) (line : Line) (read : Result Line LineFault) (old new : World) (says : read ≡ Ok (plain_line line)) where
  -- the state after the line is that after its bytes
  after-read : state_after state (Ok line) ≡ state_after state read
  after-read = sym (after-plain state line) ∙ ap (state_after state) (sym says)

  -- what is replied to a line is replied to its bytes
  pub plain-replies : (result : Result Reply Ended) → RepliesTo state (Ok line) old new result → RepliesTo state read old new result
  plain-replies (Ok reply) answers = record {
    reply = answers.reply ∙ sym (reply_of-plain state line) ∙ ap (λ (r : Result Line LineFault). text_of_reply (reply_of state r)) (sym says);
    holds = subst (λ (s : Contents). HoldsState new s) after-read answers.holds;
    stops = tt;
    said = answers.said;
    left_by = subst (λ (s : Contents). LeavesOnly old new (LeavesOneOf state s old)) after-read answers.left_by;
  }
  plain-replies (Err end) answers = record {
    reply = tt;
    holds = tt;
    stops = plain-stops state line read new end says answers.stops;
    said = answers.said;
    left_by = subst (λ (s : Contents). LeavesOnly old new (LeavesOneOf state s old)) after-read answers.left_by;
  }

-- bytes that are no line are refused
pub bad-replies : (state : Contents) (read : Result Line LineFault) (now : World) (fault : LineFault) → read ≡ Err fault → HoldsState now state → RepliesTo state read now now (Ok (replies.Bad fault))
unfolding reply_of
bad-replies state read now fault is holds =
    read-replies state read now now (replies.Bad fault) (rests_still now) holds (ap (state_after state) is) (ap (λ (r : Result Line LineFault). text_of_reply (reply_of state r)) (sym is))
