-- The key that a Put is for, and the next serial then.
use Rattle.std.proofs.Common.{◌≡◌, ℕ, ◌+◌, ◌≤◌, List, Option, Some, None, sym, ap, ◌∙◌, arith}
use Rattle.spatial_base.specs.Key.{Name, Text, Auto}
use Rattle.spatial_base.specs.Point.{Position}
use Rattle.place_values.specs.declared.update.Update.{Update}
use Rattle.place_values.specs.declared.update.Update.TheVariants.{Put}
use Rattle.place_values.specs.State.{Contents, IsSerialAbove}
use Rattle.place_values.specs.Update.{NamesText, effect_of, key_for, put_at, serial_after}

-- a Put's effect is that of putting its place at the key that it is for
pub put-effect : (state : Contents) (update : Update) (key : Option Name) (point : Position) (words : List (List ℕ × ℕ)) (label : List ℕ) (name : Name) (serial : ℕ) → update ≡ Put key point words label → name ≡ key_for state key → serial ≡ serial_after state key
    → put_at state name serial (record { point = point; words = words; label = label }) ≡ effect_of state update
put-effect state update key point words label name serial is name_is serial_is =
    (λ i. put_at state (name_is i) (serial_is i) (record { point = point; words = words; label = label })) ∙ ap (effect_of state) (sym is)

-- the serial rises by at most one
pub serial-rises : (state : Contents) (key : Option Name) → (state.serial ≤ serial_after state key) × (serial_after state key ≤ state.serial + 1)
serial-rises state None = (omega arith, omega arith)
serial-rises state (Some key) = (omega arith, omega arith)

-- and is above the key
pub named-above : (state : Contents) (key : Option Name) (point : Position) (words : List (List ℕ × ℕ)) (label : List ℕ) → NamesText (Put key point words label) → IsSerialAbove (serial_after state key) (key_for state key)
named-above state None point words label text = omega arith
named-above state (Some (Text bytes)) point words label text = tt
named-above state (Some (Auto serial)) point words label text = absurd text
