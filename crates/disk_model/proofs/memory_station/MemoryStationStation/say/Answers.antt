use Rattle.std.proofs.Common.{◌≡◌, ℕ, List, ◌++◌, length, take, sym, ◌∙◌, ap, ap₂, arith, rules}
use Rattle.std.proofs.lemmas.List.{append-nil, take_all, take_at}
use Rattle.disk_model.proofs.Replays.{say_done, say_failed, say_lost, seen_after, said_after, seen_same, said_same}
use Rattle.disk_model.proofs.memory_station.MemoryStationStation.say.Goals as goal

pub invariant_of-self-in_default-note : goal.invariant_of-self-in_default-note
invariant_of-self-in_default-note c = record {
  seen_is = seen_same _ _ _ _ c.in_default-note.ensures.err c.args.self.now.seen_is;
  said_is = said_same _ _ _ _ c.in_default-note.ensures.err c.args.self.now.said_is;
}

pub returns-in_default-note-clause-told : goal.returns-in_default-note-clause-told
returns-in_default-note-clause-told c = λ t. say_lost _ _ _ _ _ _ _ _ _ c.in_default-note.ensures.err

pub invariant_of-self-then-due : goal.invariant_of-self-then-due
invariant_of-self-then-due c = record {
  seen_is = seen_after _ _ _ _ _ c.in-Ok-note.ensures.ok c.args.self.now.seen_is;
  said_is = said_after _ _ _ _ _ c.in-Ok-note.ensures.ok (append-nil _ ∙ c.args.self.now.said_is);
}

pub returns-then-due-clause-told : goal.returns-then-due-clause-told
returns-then-due-clause-told c = λ t. say_failed _ _ _ _ _ _ _ _ _ _ c.in-Ok-note.ensures.ok (search rules)

pub invariant_of-self-in-Ok-note-2 : goal.invariant_of-self-in-Ok-note-2
invariant_of-self-in-Ok-note-2 c =
    let copied : c.in-Ok.copy.items ≡ c.args.bytes.now = search rules in
    let all : take (length c.args.bytes.now) c.in-Ok.copy.items ≡ c.args.bytes.now = ap (λ (l : List ℕ). take (length c.args.bytes.now) l) copied ∙ take_all _ _ (omega arith) in
    record {
      seen_is = seen_after _ _ _ _ _ c.in-Ok-note-2.ensures.ok c.args.self.now.seen_is;
      said_is = said_after _ _ _ _ _ c.in-Ok-note-2.ensures.ok (ap₂ (λ (a b : List ℕ). a ++ b) c.args.self.now.said_is all ∙ sym c.in-Ok-append.ensures.ok);
    }

pub invariant_of-self-in_default-note-2 : goal.invariant_of-self-in_default-note-2
invariant_of-self-in_default-note-2 c = record {
  seen_is = seen_same _ _ _ _ c.in_default-note-2.ensures.err c.args.self.now.seen_is;
  said_is = said_same _ _ _ _ c.in_default-note-2.ensures.err (c.args.self.now.said_is ∙ sym (c.truncate.ensures.items ∙ ap (λ (l : List ℕ). take c.len-old.result l) c.in-Ok-append.ensures.ok ∙ take_at c.args.self.now.said.items c.args.bytes.now c.len-old.result (search rules)));
}

pub returns-in_default-note-2-clause-told : goal.returns-in_default-note-2-clause-told
returns-in_default-note-2-clause-told c = λ t. say_lost _ _ _ _ _ _ _ _ _ c.in_default-note-2.ensures.err

pub returns-clause-told : goal.returns-clause-told
returns-clause-told c = λ t. say_done _ _ _ _ _ _ _ _ _ _ c.in-Ok-note-2.ensures.ok (search rules)
