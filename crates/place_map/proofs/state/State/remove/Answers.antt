use Rattle.std.proofs.Common.{arith, rules}
use Rattle.std.specs.BTreeMap.{is_at}
use Rattle.spatial_base.specs.Key.{key_cmp}
use Rattle.place_values.proofs.Serials.{given_removed}
use Rattle.place_map.proofs.state.State.remove.Goals as goal

pub invariant_of-self-2 : goal.invariant_of-self-2
invariant_of-self-2 c =
    let before = c.self.invariant.numbers in record {
      few = search rules;
      numbers = record { some = omega arith; few = omega arith; last = omega arith };
      given = given_removed c.self.inside.serial (is_at (key_cmp c.args.key.now)) c.self.inside.places.entries c.remove.new.self.entries c.remove.ensures.entries c.self.invariant.given;
    }
