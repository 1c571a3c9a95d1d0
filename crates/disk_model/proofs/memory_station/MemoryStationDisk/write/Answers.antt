use Rattle.std.proofs.Common.{◌≡◌, ℕ, List, not, length, refl, sym, ◌∙◌, ap, rules}
use Rattle.std.proofs.lemmas.Bool.{cond-true, cond-false}
use Rattle.disk_model.specs.Replay.{replay, overwritten, range_of}
use Rattle.disk_model.specs.Stored.{first_state, image_of}
use Rattle.disk_model.specs.World.{Image}
use Rattle.disk_model.proofs.Replays.{write_done, write_torn, write_lost, seen_after, said_after, seen_same, said_same}
use Rattle.disk_model.proofs.memory_station.MemoryStationDisk.write.Goals as goal

pub returns-in_default-clause-told : goal.returns-in_default-clause-told
returns-in_default-clause-told c = λ t. write_lost _ _ _ _ _ _ _ _ _ _ _ refl

pub invariant_of-self-in_default-reserve : goal.invariant_of-self-in_default-reserve
invariant_of-self-in_default-reserve c = record { seen_is = c.args.self.now.seen_is ∙ sym c.reserve.ensures.same; said_is = c.args.self.now.said_is }

pub returns-in_default-reserve-clause-told : goal.returns-in_default-reserve-clause-told
returns-in_default-reserve-clause-told c = λ t. write_lost _ _ _ _ _ _ _ _ _ _ _ refl

pub invariant_of-self-in_default-note : goal.invariant_of-self-in_default-note
invariant_of-self-in_default-note c = record {
  seen_is = seen_same _ _ _ _ c.in_default-note.ensures.err (c.args.self.now.seen_is ∙ sym c.reserve.ensures.same);
  said_is = said_same _ _ _ _ c.in_default-note.ensures.err c.args.self.now.said_is;
}

pub returns-in_default-note-clause-told : goal.returns-in_default-note-clause-told
returns-in_default-note-clause-told c = λ t. write_lost _ _ _ _ _ _ _ _ _ _ _ c.in_default-note.ensures.err

pub invariant_of-self-then-due : goal.invariant_of-self-then-due
invariant_of-self-then-due c = record {
  seen_is = seen_after _ _ _ _ _ c.in-Ok-note.ensures.ok (cond-false _ _ _ (ap not c.if-due.true) ∙ c.args.self.now.seen_is ∙ sym c.reserve.ensures.same);
  said_is = said_after _ _ _ _ _ c.in-Ok-note.ensures.ok c.args.self.now.said_is;
}

pub returns-then-due-clause-told : goal.returns-then-due-clause-told
returns-then-due-clause-told c = λ t. write_torn _ _ _ _ _ _ _ _ _ _ _ _ _ c.in-Ok-note.ensures.ok (search rules) (ap not c.if-due.true)

pub returns-clause-told : goal.returns-clause-told
returns-clause-told c = λ t. write_done _ _ _ _ _ _ _ _ _ _ _ _ _ c.in-Ok-note.ensures.ok (search rules) (ap not c.if-due.false)

pub invariant_of-self-2 : goal.invariant_of-self-2
invariant_of-self-2 c =
    let copied : c.in-Ok.copy.items ≡ c.args.bytes.now = search rules in
    let seen : Image = (replay (first_state c.args.self.now.first) c.args.self.now.made.items).seen in
    let before : seen ≡ image_of c.reserve.new.self =
    c.args.self.now.seen_is ∙ sym c.reserve.ensures.same in
    record {
      seen_is = seen_after _ _ _ _ _ c.in-Ok-note.ensures.ok (cond-true (not c.next-due.result) (overwritten (range_of c.args.area c.args.at (length c.in-Ok.copy.items)) c.in-Ok.copy.items seen) seen (ap not c.if-due.false)
          ∙ ap (λ (l : List ℕ). overwritten (range_of c.args.area c.args.at (length l)) l seen) copied
          ∙ ap (λ (s : Image). overwritten (range_of c.args.area c.args.at (length c.args.bytes.now)) c.args.bytes.now s) before
          ∙ sym c.write.ensures);
      said_is = said_after _ _ _ _ _ c.in-Ok-note.ensures.ok c.args.self.now.said_is;
    }
