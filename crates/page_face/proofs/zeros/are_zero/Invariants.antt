use Rattle.std.proofs.Common.{◌≡◌, ◌==◌, take}
use Rattle.std.specs.List.{list_all}
use Rattle.page_face.proofs.zeros.are_zero.Given as goal

abbrev pub invariant-loop-byte : goal.invariant-loop-byte
invariant-loop-byte l = record {
  clear : (l.greatest == 0) ≡ list_all (λ b. b == 0) (take l.byte-index l.bytes);
}
