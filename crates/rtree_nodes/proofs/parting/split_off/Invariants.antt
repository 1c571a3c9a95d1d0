use Rattle.std.proofs.Common.{◌≡◌, true, length}
use Rattle.rtree_nodes.specs.Pages.{level_in, is_form, slots_in}
use Rattle.rtree_nodes.proofs.Clearings.{kept_to, moved_to}
use Rattle.rtree_nodes.proofs.parting.split_off.Given as goal

abbrev pub invariant-loop-i : goal.invariant-loop-i
invariant-loop-i l = record {
  long : length l.page ≡ 4096;
  its_long : length l.other ≡ 4096;
  level : level_in l.page ≡ level_in l.initial.page;
  its_level : level_in l.other ≡ level_in l.initial.page;
  form : is_form l.initial.page ≡ true → is_form l.page ≡ true;
  its_form : is_form l.initial.page ≡ true → is_form l.other ≡ true;
  kept : is_form l.initial.page ≡ true → slots_in l.page ≡ kept_to l.i l.mask (slots_in l.initial.page);
  moved : is_form l.initial.page ≡ true → slots_in l.other ≡ moved_to l.i l.mask (slots_in l.initial.page);
}
