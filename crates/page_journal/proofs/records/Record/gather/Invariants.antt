use Rattle.std.proofs.Common.{◌≡◌, ◌+◌, ◌*◌, ◌++◌, length}
use Rattle.std.specs.Int.{w32, to_be_bytes}
use Rattle.std.specs.List.{flat_map}
use Rattle.page_journal.specs.Record.{given, entry_bytes}
use Rattle.page_journal.proofs.Bytes.{ArePages}
use Rattle.page_journal.proofs.records.Record.gather.Given as goal

abbrev pub invariant-loop-number : goal.invariant-loop-number
invariant-loop-number l =
    record {
      can : goal.iterator-loop-number.can_next l.number-iterator;
      ends : goal.iterator-loop-number.is_finite l.number-iterator;
      whole : l.bytes.items ++ flat_map entry_bytes (given l.number-iterator) ≡ to_be_bytes w32 (length l.pages.entries) ++ flat_map entry_bytes (given l.pages.entries);
      each : ArePages (given l.number-iterator) → ArePages (given l.pages.entries);
      size : length l.bytes.items + 4100 * length l.number-iterator ≡ 4 + 4100 * length l.pages.entries;
    }
