-- What a line is answered.
use Rattle.std.specs.Prelude.{length, Option, Some, None, Result, Ok, Err}
use Rattle.spatial_base.specs.Key.{Name}
use Rattle.place_values.specs.declared.place.Place.{Place}
use Rattle.place_values.specs.declared.update.Applied.{Applied}
use Rattle.place_values.specs.declared.update.Applied.TheVariants.{New, Replaced, Gone, Absent}
use Rattle.place_values.specs.declared.update.UpdateFault.{UpdateFault}
use Rattle.place_values.specs.declared.update.UpdateFault.TheVariants as faults
use Rattle.place_values.specs.State.{Contents, place_at}
use Rattle.place_values.specs.Update.{effect_of}
use Rattle.place_values.specs.Answer.{answer_of}
use Rattle.query_replies.specs.declared.fault.LineFault.{LineFault}
use Rattle.query_replies.specs.declared.reply.Reply.{Reply}
use Rattle.query_replies.specs.declared.reply.Reply.TheVariants as replies
use Rattle.query_replies.specs.declared.reply.UpdateDone.TheVariants as done
use Rattle.query_lang.specs.declared.line.Line.{Line}
use Rattle.query_lang.specs.declared.line.Line.TheVariants as lines

-- the reply to an update that was answered so
abbrev pub update_reply : Result Applied UpdateFault → Reply
update_reply (Ok New) = replies.Applied done.Ok
update_reply (Ok Replaced) = replies.Applied done.Replaced
update_reply (Ok Gone) = replies.Applied done.Ok
update_reply (Ok Absent) = replies.Applied done.Absent
update_reply (Err faults.Full) = replies.Full
update_reply (Err faults.Worn) = replies.Worn
update_reply (Err faults.Memory) = replies.Nothing

-- the reply that shows a place, where there is one
abbrev pub show_reply : Name → Option Place → Reply
show_reply key None = replies.Absent
show_reply key (Some place) = replies.Place key place.point place.words place.label

-- the reply to a line, or to what is no line
unfoldable pub reply_of : Contents → Result Line LineFault → Reply
reply_of state (Ok lines.Nothing) = replies.Nothing
reply_of state (Ok (lines.Do update)) = update_reply (effect_of state update).answer
reply_of state (Ok (lines.Ask query explain)) = replies.Found (answer_of state query) query explain
reply_of state (Ok (lines.Show key)) = show_reply key (place_at key state.places)
reply_of state (Ok lines.Count) = replies.Count (length state.places)
reply_of state (Err fault) = replies.Bad fault
