-- The effect of an update, from that of its parts.
use Rattle.std.proofs.Common.{◌≡◌, ℕ, List, Option, Result, sym, subst}
use Rattle.spatial_base.specs.Key.{Name}
use Rattle.spatial_base.specs.Point.{Position}
use Rattle.place_values.specs.declared.update.Update.{Update}
use Rattle.place_values.specs.declared.update.Update.TheVariants.{Put}
use Rattle.place_values.specs.declared.update.Applied.{Applied}
use Rattle.place_values.specs.declared.update.UpdateFault.{UpdateFault}
use Rattle.place_values.specs.State.{Contents}
use Rattle.place_values.specs.Update.{Gives, effect_of, put_at, key_for, serial_after}

-- a Put's effect is that of putting its place at the key that it is for
pub put_gives : (old new : Contents) (result : Result Applied UpdateFault) (update : Update) (key : Option Name) (point : Position) (words : List (List ℕ × ℕ)) (label : List ℕ) (name : Name) (serial : ℕ) → update ≡ Put key point words label → name ≡ key_for old key → serial ≡ serial_after old key → Gives old (put_at old name serial record { point = point; words = words; label = label }) new result → Gives old (effect_of old update) new result
put_gives old new result update key point words label name serial is k n gives =
    let place = λ (name : Name) (serial : ℕ). put_at old name serial record { point = point; words = words; label = label } in
    subst (λ u. Gives old (effect_of old u) new result) (sym is)
    (subst (λ s. Gives old (place (key_for old key) s) new result) n (subst (λ m. Gives old (place m serial) new result) k gives))
