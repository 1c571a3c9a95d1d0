use Rattle.std.proofs.Common.{take}
use Rattle.btree_nodes.specs.Nodes.{rows_in}
use Rattle.store_tables.specs.Holding.{places_form}
use Rattle.store_verify.specs.Places.{GainsPlaces}
use Rattle.store_verify.proofs.places.GatheredSink.leaf.Given as goal

abbrev pub invariant-loop-at : goal.invariant-loop-at
invariant-loop-at l = GainsPlaces (take l.at (rows_in places_form l.page)) l.fn.self.sites.items l.fn.self.numbers.items l.self.sites.items l.self.numbers.items
