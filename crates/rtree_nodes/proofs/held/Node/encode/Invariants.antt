use Rattle.std.proofs.Common.{◌≡◌, ◌<◌, ◌^◌, true, length}
use Rattle.rtree_nodes.specs.Pages.{level_in, mask_of, is_form, slots_in}
use Rattle.rtree_nodes.proofs.Coded.{items_to}
use Rattle.rtree_nodes.proofs.held.Node.encode.Given as goal

abbrev pub invariant-loop-i : goal.invariant-loop-i
invariant-loop-i l = record {
  fits : mask_of l.page < 2 ^ 32;
  long : length l.page ≡ 4096;
  form : is_form l.page ≡ true;
  level : level_in l.page ≡ l.self.level;
  slots : slots_in l.page ≡ items_to l.i l.self.used l.self.slots;
}
