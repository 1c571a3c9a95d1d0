use Rattle.std.proofs.Common.{◌≡◌, ◌≤◌, ◌-◌, length, take}
use Rattle.std.specs.Str.{IsCharBoundary}
use Rattle.json_spelled.specs.Reader.{state_of}
use Rattle.json_spelled.specs.Feeding.{Reads}
use Rattle.json_spelled.specs.declared.lexeme.Lexeme.TheVariants as lexemes
use Rattle.json_spelled.proofs.reader.Reader.take_text.Given as goal

-- the bytes so far lead to the reader's state
abbrev pub invariant-loop-index : goal.invariant-loop-index
invariant-loop-index l = record {
  within : l.index ≤ length l.text;
  reads : Reads (take l.index l.text) (state_of l.fn.self) (state_of l.self);
  boundary : l.self.lexeme ≡ lexemes.Text → IsCharBoundary l.text l.index;
}

abbrev pub decreases-loop-index : goal.decreases-loop-index
decreases-loop-index l = length l.text - l.index
