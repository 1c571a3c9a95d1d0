use Rattle.std.proofs.Common.{◌≡◌, ◌≤◌, ◌+◌, ap, arith, rules}
use Rattle.place_values.specs.State.{Contents}
use Rattle.place_values.proofs.Serials.{given_put}
use Rattle.place_map.proofs.state.State.put.Goals as goal

pub invariant_of-self-2 : goal.invariant_of-self-2
invariant_of-self-2 c =
    let serial : c.self.inside.serial ≡ c.args.self.now.serial = ap (λ (state : Contents). state.serial) c.self.view_is in
    let number : c.self.inside.number ≡ c.args.self.now.number = ap (λ (state : Contents). state.number) c.self.view_is in
    let rises : c.args.self.now.serial ≤ c.args.serial = c.requires.rises in
    let few : c.args.serial ≤ c.args.self.now.number + 2 = c.requires.few in
    let before = c.self.invariant.numbers in record {
      few = search rules;
      numbers = record { some = omega arith; few = omega arith; last = omega arith };
      given = given_put c.self.inside.serial c.args.serial c.args.key c.args.place c.self.inside.places.entries c.insert.new.self.entries c.in_ok-old.ensures.entries (omega arith) c.requires.above c.self.invariant.given;
    }
