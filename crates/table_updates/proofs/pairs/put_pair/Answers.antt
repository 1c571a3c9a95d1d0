use Rattle.std.proofs.Common.{sym, subst}
use Rattle.table_updates.specs.Numbers.{IsNumberMap}
use Rattle.std.specs.Ordering.{nat_cmp}
use Rattle.store_model.proofs.Ordered.{length-insert}
use Rattle.table_updates.proofs.Numbers.{map-insert}
use Rattle.table_updates.proofs.pairs.put_pair.Goals as goal

pub returns-in-Ok-clause-map : goal.returns-in-Ok-clause-map
returns-in-Ok-clause-map c = subst IsNumberMap (sym c.in-Ok.ensures.entries) (map-insert _ c.args.number c.args.impact c.requires.map c.requires.room c.requires.impact)

pub returns-in-Ok-clause-few : goal.returns-in-Ok-clause-few
returns-in-Ok-clause-few c = rw c.in-Ok.ensures.entries (length-insert nat_cmp c.args.number c.args.impact c.args.pairs.now.entries)
