use Rattle.std.proofs.Common.{◌≡◌, ◌<◌, ◌^◌, length, sym, subst, arith, refl}
use Rattle.std.proofs.lemmas.List.{length-map}
use Rattle.place_values.specs.Restored.{AreStatePlaces, places_in}
use Rattle.place_values.proofs.Serials.{given_restored}
use Rattle.place_map.proofs.state.State.with_places.Goals as goal

pub invariant_of-result : goal.invariant_of-result
invariant_of-result c =
    let rows = c.args.places.items in
    let is : c.in_ok-places.places.entries ≡ places_in rows = c.in_ok-places.ensures in
    let may = subst (λ rows. AreStatePlaces rows c.args.serial c.args.number) c.as_slice.ensures.value (c.if-not-are_state_places.ensures.0 refl) in record {
      few = subst (λ es. length es < 2 ^ 32) (sym is) (simp length-map (omega arith));
      numbers = may.numbers;
      given = given_restored c.args.serial rows c.in_ok-places.places.entries is may.given;
    }
