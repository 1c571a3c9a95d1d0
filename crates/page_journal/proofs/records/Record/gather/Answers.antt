use Rattle.std.proofs.Common.{◌≡◌, ◌++◌, List, ℕ, length, Box, arith, sym, subst}
use Rattle.std.proofs.lemmas.Map.Iter.{rest_all}
use Rattle.std.specs.Map.Iter.{deref_pair}
use Rattle.std.specs.Int.{w32, to_be_bytes}
use Rattle.std.specs.List.{flat_map}
use Rattle.std.specs.declared.alloc.Global.{Global}
use Rattle.page_journal.specs.Record.{given, entry_bytes}
use Rattle.page_journal.proofs.Batches.{length_given, ascending_given}
use Rattle.page_journal.proofs.Bytes.{ArePages, record_gathered}
use Rattle.page_journal.proofs.records.Record.gather.Goals as goal

pub returns-clause-gathered : goal.returns-clause-gathered
returns-clause-gathered c = λ some.
    let entries = c.args.pages.now.entries in
    let none = rest_all deref_pair _ _ _ c.in-None.is c.next.ensures.steps in
    let whole = subst (λ (l : List (ℕ × Box (List ℕ) Global)). c.loop-number.bytes.items ++ flat_map entry_bytes (given l) ≡ to_be_bytes w32 (length c.args.pages.now.entries) ++ flat_map entry_bytes (given c.args.pages.now.entries)) none c.loop-number.invariant.whole in
    record {
      some = omega (arith, some, length_given c.args.pages.now.entries);
      few = omega (arith, c.requires, length_given c.args.pages.now.entries);
      ascending = λ k lt. ascending_given c.args.pages.now.entries c.len.ensures.ordered k (omega (arith, lt, length_given c.args.pages.now.entries));
      each = c.loop-number.invariant.each (subst (λ (l : List (ℕ × Box (List ℕ) Global)). ArePages (given l)) (sym none) tt);
      are = record_gathered (given c.args.pages.now.entries) (length c.args.pages.now.entries) c.loop-number.bytes.items _ (sym (length_given c.args.pages.now.entries)) whole c.in_ok-push.ensures.items;
    }
