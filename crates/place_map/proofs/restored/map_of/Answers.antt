use Rattle.place_values.proofs.Rows.{restored_more}
use Rattle.place_map.proofs.Scans.{done_more}
use Rattle.place_map.proofs.restored.map_of.Goals as goal

pub loop-key-preserved : goal.loop-key-preserved
loop-key-preserved c =
    let done = c.loop-key.yielded in
    let left = c.loop-key.key-iterator.rest.items in
    let rest = c.next.new.self.rest.items in (
      tt,
      tt,
      done_more done left rest c.args.places.items _ c.loop-key.invariant.2 c.in-Some.ensures.steps.0,
      restored_more done rest left c.args.places.items c.in-Some.key c.in-Some.point c.in-Some.words c.in-Some.label c.loop-key.map.entries c.put.new.map.entries c.loop-key.invariant.2 c.in-Some.ensures.steps.0 c.requires c.loop-key.invariant.3 c.in_ok-put.ensures,
    )
